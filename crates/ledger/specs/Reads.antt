-- What one read says. Definitions only. A read that fails is never taken for the end.
--   held_number h      the system's number for what is held: that of an open file, 0 for standard input, and a negative
--                      one for a file that was not opened
--   descriptor_of s    what s is read by: the number of what it holds
--   is_open d          the file was opened: the system's number for it is not negative
--   on_count k         the end where no bytes came, else so many bytes
--   got_of a n         what the answer a of a read into n bytes says: it failed where a is an error
--   came g             how many bytes a read gave
--   gave g bytes       the bytes that a read gave, which was lent these
--   Gets bytes g       what one read gave stands in front of the bytes that were lent to it, and is not nothing
use Rattle.std.specs.Prelude.{ℕ, zero, suc, ◌<◌, min, Result, Ok, Err, Bool, true, false, List, [], take, ℤ, pos, negsuc}
use Rattle.std.specs.Fd.{file_raw_fd}
use Rattle.std.specs.Counts.{IsPrefixLen}
use Rattle.ledger.specs.declared.input.Descriptor.{Descriptor}
use Rattle.ledger.specs.declared.input.Source.{Source}
use Rattle.ledger.specs.declared.input.Held.{Held}
use Rattle.ledger.specs.declared.input.Held.TheVariants.{NotOpened, Opened, Standard}
use Rattle.ledger.specs.declared.input.Got.{Got}
use Rattle.ledger.specs.declared.input.Got.TheVariants.{Failed, Ended, Bytes}

abbrev pub held_number : Held → ℤ
held_number NotOpened = negsuc 0
held_number (Opened file) = file_raw_fd file
held_number (Standard stdin) = pos 0

abbrev pub descriptor_of : Source → Descriptor
descriptor_of s = record { number = held_number s.held }

abbrev pub not_negative : ℤ → Bool
not_negative (pos k) = true
not_negative (negsuc k) = false

abbrev pub is_open : Descriptor → Bool
is_open d = not_negative d.number

abbrev pub on_count : ℕ → Got
on_count zero = Ended
on_count (suc k) = Bytes (suc k)

unfoldable pub got_of : {E : Type 0} → Result ℕ E → ℕ → Got
got_of (Err e) n = Failed
got_of (Ok k) n = on_count (min k n)

abbrev pub came : Got → ℕ
came Failed = 0
came Ended = 0
came (Bytes n) = n

abbrev pub gave : Got → List ℕ → List ℕ
gave Failed bytes = []
gave Ended bytes = []
gave (Bytes n) bytes = take n bytes

abbrev pub Gets : List ℕ → Got → Type 0
Gets bytes Failed = Unit {0}
Gets bytes Ended = Unit {0}
Gets bytes (Bytes n) = (0 < n) × IsPrefixLen n bytes
