-- `system::load::Reads::next` meets its contract, by what the read gave. Assumes nothing.
use native.Mathlib.Omega.{arith}
use mathlib.Core.Path.{subst}
use Rattle.system.proofs.Loading.{next_failed, next_ended, next_bytes}
use Rattle.system.specs.Files.{ReadFits}
use Rattle.system.proofs.load.Reads.next.Goals as goal

pub overflow_add-result : goal.overflow_add-result
overflow_add-result c = let fits = subst (ReadFits c.args.self.done) c.in-Bytes.is c.requires in
    omega (arith, fits)

pub returns-in-Failed : goal.returns-in-Failed
returns-in-Failed c = next_failed c.args.self c.in-Failed.is

pub returns-in-Ended : goal.returns-in-Ended
returns-in-Ended c = next_ended c.args.self c.in-Ended.is

pub returns-in-Bytes : goal.returns-in-Bytes
returns-in-Bytes c = next_bytes c.args.self c.in-Bytes.is
