-- One rule, as the numbers of its line and as its words. Definitions only.
--   rule_of v         the words of the rule whose line has the numbers v; an address that is not of octets is 0, and
--                     so is an action that the line does not have
--   rule_values i r   the numbers of the line of rule i, whose words are r, the action last
--   rule_fits i v     the numbers v are those of rule i: its number is i, the octets fit, and the rule is good
--   rule_at ws i      the words of rule i of the list ws
use Rattle.std.specs.Prelude.{ℕ, Bool, ◌&&◌, List, [], ◌∷◌, ◌++◌, get_or, eqb}
use Rattle.text.specs.Addresses.{octets_fit, address_of, octets_of}
use Rattle.rules.specs.Words.{rule_words}
use Rattle.rules.specs.Good as rules
use Rattle.rule_file.specs.ListText.{part_at}

abbrev pub source_fits : List ℕ → Bool
source_fits v = octets_fit (get_or v 1 0) (get_or v 2 0) (get_or v 3 0) (get_or v 4 0)

abbrev pub destination_fits : List ℕ → Bool
destination_fits v = octets_fit (get_or v 6 0) (get_or v 7 0) (get_or v 8 0) (get_or v 9 0)

abbrev pub source_of : List ℕ → ℕ
source_of v = address_of (get_or v 1 0) (get_or v 2 0) (get_or v 3 0) (get_or v 4 0)

abbrev pub destination_of : List ℕ → ℕ
destination_of v = address_of (get_or v 6 0) (get_or v 7 0) (get_or v 8 0) (get_or v 9 0)

unfoldable pub rule_of : List ℕ → List ℕ
rule_of v =
    source_of v ∷ get_or v 5 0 ∷ destination_of v ∷ get_or v 10 0 ∷ get_or v 11 0 ∷ get_or v 12 0 ∷ get_or v 13 0 ∷ get_or v 14 0 ∷
    get_or v 15 0 ∷ get_or v 16 0 ∷ get_or v 17 0 ∷ []

unfoldable pub rule_values : ℕ → List ℕ → List ℕ
rule_values i r =
    (i ∷ octets_of (get_or r 0 0)) ++
    ((get_or r 1 0 ∷ octets_of (get_or r 2 0)) ++
    (get_or r 3 0 ∷ get_or r 4 0 ∷ get_or r 5 0 ∷ get_or r 6 0 ∷ get_or r 7 0 ∷ get_or r 8 0 ∷ get_or r 9 0 ∷ get_or r 10 0 ∷ []))

unfoldable pub rule_fits : ℕ → List ℕ → Bool
rule_fits i v = eqb (get_or v 0 0) i && source_fits v && destination_fits v && rules.good (rule_of v) 0

abbrev pub rule_at : List ℕ → ℕ → List ℕ
rule_at ws i = part_at rule_words ws i
