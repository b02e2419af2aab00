-- Headers. Definitions only.
--   field_verdict h f   3 at field f, where its value is over the field's top
--   header_verdict h    3: the place is 5 for any length but five, else the lowest field that is too large
--   Legal h             a header that there can be
use Rattle.std.specs.Prelude.{ℕ, ◌≡◌, List, length, get_or, leb, eqb}
use Rattle.refusals.specs.declared.Refusal.TheVariants.{HeaderWrong}
use Rattle.refusals.specs.Verdict.{Verdict}
use Rattle.refusals.specs.Verdict.{Fine}
use Rattle.refusals.specs.Order.{refuse_unless, ◌then◌, in_turn}
use Rattle.fields.specs.Words.{field_count, top_of}

unfoldable pub field_verdict : List ℕ → ℕ → Verdict
field_verdict h f = refuse_unless (leb (get_or h f 0) (top_of f)) (HeaderWrong f)

unfoldable pub header_verdict : List ℕ → Verdict
header_verdict h =
    refuse_unless (eqb (length h) field_count) (HeaderWrong field_count) then in_turn field_count 0 (field_verdict h)

abbrev pub Legal : List ℕ → Type 0
Legal h = header_verdict h ≡ Fine
