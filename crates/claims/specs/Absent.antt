-- Absent ports: which headers there can be, and what one without a port matches. Statements only.
use Rattle.std.specs.Prelude.{ℕ, ◌≤◌, ◌<◌, true, ◌↔◌, ◌≡◌, List, length, get_or, set}
use Rattle.fields.specs.declared.field.Field.TheVariants.{Ports}
use Rattle.fields.specs.Words.{largest_port, absent_port, field_count, top_of}
use Rattle.fields.specs.Headers.{Legal}
use Rattle.rules.specs.Words.{form_of, field_of}
use Rattle.rules.specs.Matching.{matches}

-- a header is legal exactly where it has five words, each at most its field's top: a port may be absent; such a header
-- matches exactly the rules, good or not, whose range there is whole and that match it with any port in that place
pub record Absent : Type 0 where
  pub legal :
      (h : List ℕ) → Legal h ↔ ((length h ≡ field_count) × ((f : ℕ) → f < field_count → get_or h f 0 ≤ top_of f))
  pub whole :
      (rs h : List ℕ) (r f low high p : ℕ) → f < field_count → field_of (form_of f) rs r ≡ Ports low high →
      length h ≡ field_count → get_or h f 0 ≡ absent_port → p ≤ largest_port →
      (matches rs h r ≡ true) ↔ ((low ≡ 0) × (high ≡ largest_port) × (matches rs (set h f p) r ≡ true))
