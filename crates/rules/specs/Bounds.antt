-- The two ends of a field of a rule, for any words. Definitions only.
--   ends_of rs r f   the ends of field f of rule r, as words; 0 and 0 where rule r is not wholly lent or there is no
--                    such field
use Rattle.std.specs.Prelude.{ℕ, cond, List, [], ◌∷◌, ltb}
use Rattle.fields.specs.Words.{field_count}
use Rattle.fields.specs.Fields.{field_bounds}
use Rattle.rules.specs.Words.{rule_there, form_of, field_of}

unfoldable pub ends_of : List ℕ → ℕ → ℕ → List ℕ
ends_of rs r f =
    cond (rule_there rs r) (cond (ltb f field_count) (field_bounds (field_of (form_of f) rs r)) (0 ∷ 0 ∷ [])) (0 ∷ 0 ∷ [])
