-- What goes beyond the scope holds.
use mathlib.Core.Path.{refl}
use Rattle.console.proofs.Pieces.{answers_pieces}
use Rattle.console.proofs.Whole.{whole_input}
use Rattle.policy.proofs.Output.{output_by_list, output_refused, accepted_iff}
use Rattle.policy.proofs.CompiledSize.{text_short}
use Rattle.policy.proofs.CompiledServes.{compiled_serves}
use Rattle.policy.proofs.StepOutputs.{steps_refused, next_anew, steps_short}
use Rattle.policy.proofs.StepChain.{last_step, next_step_lem}
use Rattle.claims.specs.Beyond.{Program}

pub program_claim : Program
program_claim =
    record {
      stops = λ f g s why e. output_refused f g s e;
      replies = λ f g s rs e. output_by_list f g s e;
      silent = accepted_iff;
      pieces = answers_pieces;
      whole = whole_input;
      compiled = λ rs e. (compiled_serves rs e, text_short rs e);
      step_stops = λ f g most why e. steps_refused f g most e;
      step_anew = λ f g most rs why e q. next_anew f g most e q;
      step_short = steps_short;
      step_first = λ rs most. refl;
      step_on = λ rs k most begun short fine. next_step_lem rs k begun short fine most;
      step_last = last_step;
    }
