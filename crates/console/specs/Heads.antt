-- An input line that asks about a header: `head`, two addresses, two ports and a protocol. Definitions only.
--   most_bytes     the most bytes of an input line without its newline
--   head_test vs   the octets among the numbers vs of such a line are octets
--   header_of vs   the header that these numbers say
--   head_in l      the header that the line l asks about, if it is not too long and asks about one
--   head_at l      the same as the code answers it
use Rattle.std.specs.Prelude.{ℕ, Bool, cond, ◌&&◌, List, [], ◌∷◌, length, get_or, leb, Some, None}
use Rattle.std.specs.Prelude as rust
use Rattle.std.proofs.Math.Option.{Option, none, some}
use Rattle.text.specs.Words.{head_word, head_marks}
use Rattle.text.specs.Line.{read_line}
use Rattle.text.specs.Addresses.{octets_fit, address_of}

abbrev pub most_bytes : ℕ
most_bytes = 64

unfoldable pub head_test : List ℕ → Bool
head_test vs =
    octets_fit (get_or vs 0 0) (get_or vs 1 0) (get_or vs 2 0) (get_or vs 3 0) &&
    octets_fit (get_or vs 4 0) (get_or vs 5 0) (get_or vs 6 0) (get_or vs 7 0)

unfoldable pub header_of : List ℕ → List ℕ
header_of vs =
    address_of (get_or vs 0 0) (get_or vs 1 0) (get_or vs 2 0) (get_or vs 3 0) ∷
    address_of (get_or vs 4 0) (get_or vs 5 0) (get_or vs 6 0) (get_or vs 7 0) ∷
    get_or vs 8 0 ∷ get_or vs 9 0 ∷ get_or vs 10 0 ∷ []

unfoldable pub head_from : List ℕ → Option (List ℕ)
head_from vs = cond (head_test vs) (some (header_of vs)) none

abbrev pub on_numbers : Option (List ℕ) → Option (List ℕ)
on_numbers none = none
on_numbers (some vs) = head_from vs

unfoldable pub head_in : List ℕ → Option (List ℕ)
head_in l = cond (leb (length l) most_bytes) (on_numbers (read_line head_word head_marks l)) none

abbrev pub in_head : Option (List ℕ) → rust.Option (List ℕ)
in_head none = None
in_head (some h) = Some h

unfoldable pub head_at : List ℕ → rust.Option (List ℕ)
head_at l = in_head (head_in l)
