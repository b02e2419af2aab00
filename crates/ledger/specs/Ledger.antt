-- The ledger: what a program has asked of the system so far. Definitions only.
--   Entry               one call of the system, and what it answered:
--     opened path fd      the file at this path was asked for; it was not opened where the answer is negative
--     read fd n g bs      a read was asked for n bytes, said g, and gave the bytes bs
--     closed fd           the file was let go
--     wrote bs r          the bytes bs were handed to standard output; r says whether all of them were written
--     counted n           the number of arguments was asked for
--     argued i n bs       argument i was asked for, of at most n bytes, and is bs
--   enter l e           the ledger l after the entry e. It counts calls and bytes; but it stays shut, so that a proof
--                       can make one ledger out of another by the same entries in the same order, and in no other way
--   entered l es        the ledger l after the entries es, one after another
--   Enters P l m        the ledger went from l to m by entries of which P holds
--   handed es           the bytes that were handed to standard output, in order
--   input_of es          the bytes that standard input gave, in order
use Rattle.std.specs.Prelude.{◌≡◌, ℕ, zero, suc, ◌+◌, ◌%◌, ◌^◌, Bool, List, [], ◌∷◌, ◌++◌, length, ℤ, pos, negsuc}
use Rattle.std.proofs.Common.{ap, ◌∙◌}
use Rattle.ledger.specs.declared.input.Descriptor.{Descriptor}
use Rattle.ledger.specs.declared.input.Got.{Got}

pub data Entry : Type 0 where
  opened : List ℕ → Descriptor → Entry
  read : Descriptor → ℕ → Got → List ℕ → Entry
  closed : Descriptor → Entry
  wrote : List ℕ → Bool → Entry
  counted : ℕ → Entry
  argued : ℕ → ℕ → List ℕ → Entry

abbrev pub bytes_in : Entry → List ℕ
bytes_in (opened path fd) = path
bytes_in (read fd n g bs) = bs
bytes_in (closed fd) = []
bytes_in (wrote bs r) = bs
bytes_in (counted n) = []
bytes_in (argued i n bs) = bs

pub enter : ℕ → Entry → ℕ
enter l e = (l + (1 + length (bytes_in e)) % 2 ^ 64) % 2 ^ 64

-- the one law that opens it, for the functions that make the system's calls
pub enter_is :
    (l : ℕ) {k r : ℕ} (e : Entry) → k ≡ length (bytes_in e) → r ≡ (l + (1 + k) % 2 ^ 64) % 2 ^ 64 → r ≡ enter l e
unfolding enter
enter_is l e p q = q ∙ ap (λ n. (l + (1 + n) % 2 ^ 64) % 2 ^ 64) p

unfoldable pub entered : ℕ → List Entry → ℕ
entered l [] = l
entered l (e ∷ es) = entered (enter l e) es

pub record Enters (P : List Entry → Type 0) (l m : ℕ) : Type 0 where
  pub entries : List Entry
  pub ledger : m ≡ entered l entries
  pub are : P entries

abbrev pub standard_input : Descriptor
standard_input = record { number = pos 0 }

abbrev pub handed_by : Entry → List ℕ
handed_by (opened path fd) = []
handed_by (read fd n g bs) = []
handed_by (closed fd) = []
handed_by (wrote bs r) = bs
handed_by (counted n) = []
handed_by (argued i n bs) = []

unfoldable pub handed : List Entry → List ℕ
handed [] = []
handed (e ∷ es) = handed_by e ++ handed es

abbrev pub from_input : ℤ → List ℕ → List ℕ
from_input (negsuc k) bs = []
from_input (pos zero) bs = bs
from_input (pos (suc k)) bs = []

abbrev pub given_by : Entry → List ℕ
given_by (opened path fd) = []
given_by (read fd n g bs) = from_input fd.number bs
given_by (closed fd) = []
given_by (wrote bs r) = []
given_by (counted n) = []
given_by (argued i n bs) = []

unfoldable pub input_of : List Entry → List ℕ
input_of [] = []
input_of (e ∷ es) = given_by e ++ input_of es
