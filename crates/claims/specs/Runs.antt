-- What comes of a run of each program, by what its function `run` promises of its entries in the ledger (`ProgramRan`,
-- `WhyRan`, `CompileRan` in `system/specs/Runs.antt`). Statements only.
use Rattle.std.specs.Prelude.{ℕ, ◌^◌, ◌<◌, Bool, List}
use Rattle.ledger.specs.Ledger.{Entry}
use Rattle.system.specs.Runs.{ProgramRan, WhyAnswered, WholeTaken, FirstTaken, NextTaken}
use Rattle.system.specs.Outcomes.{ProgramWrites, WhyWrites, TreeWrites, FirstWrites, NextWrites}

-- by the bytes of its files and of its input, the program that answers hands out `output`; `why` the replies that say
-- why the rule misses; the compiler the text of the list's tree, or of one step: all of it, or its front up to a write
-- that failed, after which nothing is asked of the system
pub record Runs (r : Bool) (es : List Entry) : Type 0 where
  pub program : ProgramRan r es → ProgramWrites r es
  pub why : (n : ℕ) → n < 2 ^ 64 → WhyAnswered n r es → WhyWrites n r es
  pub at_once : WholeTaken r es → TreeWrites r es
  pub first_step : (m : ℕ) → FirstTaken m r es → FirstWrites m r es
  pub next_step : (m : ℕ) → NextTaken m r es → NextWrites m r es
