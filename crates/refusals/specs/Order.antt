-- The order of checks: a call refuses by the first check that refuses. Definitions only.
--   refuse_unless t why        fine where the test t holds, else refused for why
--   room_verdict needed room   4, with what is needed as place, where an output has less room than that
--   v then w                   v's refusal; w where v is fine
--   in_turn m i check           check i, then check (i + 1), .. m checks in turn; fine where m is 0
--   v giving vs                on paper: v's refusal; completed with the values vs where v is fine
--   leaving v new found        the lent words after a call: new where v is fine, as found on a refusal
use Rattle.std.specs.Prelude.{ℕ, zero, suc, ◌+◌, Bool, true, false, List, leb}
use Rattle.refusals.specs.declared.Refusal.{Refusal}
use Rattle.refusals.specs.declared.Refusal.TheVariants.{OutputShort}
use Rattle.refusals.specs.Verdict.{Verdict}
use Rattle.refusals.specs.Verdict.{Fine, Refused}
use Rattle.refusals.specs.Paper.{Paper, success, on_paper}

infixr 20 ◌then◌
infix 10 ◌giving◌
unfoldable pub refuse_unless : Bool → Refusal → Verdict
refuse_unless true why = Fine
refuse_unless false why = Refused why

unfoldable pub room_verdict : ℕ → ℕ → Verdict
room_verdict needed room = refuse_unless (leb needed room) (OutputShort needed 0)

unfoldable pub ◌then◌ : Verdict → Verdict → Verdict
Fine then w = w
Refused why then w = Refused why

unfoldable pub in_turn : ℕ → ℕ → (ℕ → Verdict) → Verdict
in_turn zero i check = Fine
in_turn (suc m) i check = check i then in_turn m (i + 1) check

unfoldable pub ◌giving◌ : Verdict → List ℕ → Paper
Fine giving values = success values
Refused why giving values = on_paper why

unfoldable pub leaving : Verdict → List ℕ → List ℕ → List ℕ
leaving Fine new found = new
leaving (Refused why) new found = found
