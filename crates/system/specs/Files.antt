-- What a file is, read after read. Definitions only. A file is whole only where a read gave its end.
--   ReadFits done g       done bytes and those that a read gave are a number of 64 bits
--   no_reads          before the first read
--   next_reads s g    after the reads s, once another gave g
--   last_reads s g    the same for a read past the buffer, whose bytes are not in it
--   more_reads s      more may follow: the last read gave bytes
--   file_of s         what the file is: not read where the last read failed, or gave more bytes than there is room for
--   room_left n bs     what a read is asked for after the bytes bs, into n bytes: what is left, or one byte more
--   ReadSoFar fd n bs es    the reads es of the descriptor fd all gave bytes, which together are bs
--   ReadToEnd fd n t es     the reads es go on to the first that gives no bytes, or gives more than n; and t is the
--                     file's text, or none where it was not read to its end
--   ReadPast fd g es  one read of one byte, which gave g
--   FileLoaded n path t es    the file at the path is opened, read to its end and closed, and t is its text; or it is
--                     not opened, and has none
use Rattle.policy.specs.Said.{File}
use Rattle.policy.specs.Said as file
use Rattle.std.specs.Prelude.{ℕ, ◌+◌, ◌-◌, ◌^◌, ◌≤◌, ◌<◌, max, Bool, true, false, ◌≡◌, List, [], ◌∷◌, ◌++◌, length}
use Rattle.std.proofs.Math.Option.{Option, none, some}
use Rattle.ledger.specs.declared.input.Descriptor.{Descriptor}
use Rattle.ledger.specs.declared.input.Got.{Got}
use Rattle.ledger.specs.declared.input.Got.TheVariants.{Failed, Ended, Bytes}
use Rattle.ledger.specs.Reads.{is_open, gave, Gets}
use Rattle.ledger.specs.Ledger.{Entry, opened, read, closed}
use Rattle.system.specs.declared.load.Reads.{Reads}

abbrev pub ReadFits : ℕ → Got → Type 0
ReadFits done Failed = Unit {0}
ReadFits done Ended = Unit {0}
ReadFits done (Bytes n) = done + n < 2 ^ 64

abbrev pub no_reads : Reads
no_reads = record { done = 0; last = Bytes 0 }

abbrev pub next_reads : Reads → Got → Reads
next_reads s Failed = record { done = s.done; last = Failed }
next_reads s Ended = record { done = s.done; last = Ended }
next_reads s (Bytes n) = record { done = s.done + n; last = Bytes n }

abbrev pub last_reads : Reads → Got → Reads
last_reads s g = record { done = s.done; last = g }

abbrev pub gives_bytes : Got → Bool
gives_bytes Failed = false
gives_bytes Ended = false
gives_bytes (Bytes n) = true

abbrev pub more_reads : Reads → Bool
more_reads s = gives_bytes s.last

abbrev pub file_by : ℕ → Got → File
file_by done Failed = file.NotRead
file_by done Ended = file.Bytes done
file_by done (Bytes n) = file.NotRead

abbrev pub file_of : Reads → File
file_of s = file_by s.done s.last

abbrev pub room_left : ℕ → List ℕ → ℕ
room_left n bs = max 1 (n - length bs)

pub data ReadSoFar (fd : Descriptor) (n : ℕ) : List ℕ → List Entry → Type 0 where
  none_yet : ReadSoFar fd n [] []
  and_more :
      {bs : List ℕ} {es : List Entry} (new : List ℕ) → ReadSoFar fd n bs es → length bs < n → 0 < length new →
      ReadSoFar fd n (bs ++ new) (es ++ (read fd (room_left n bs) (Bytes (length new)) new ∷ []))

pub data ReadToEnd (fd : Descriptor) (n : ℕ) : Option (List ℕ) → List Entry → Type 0 where
  whole :
      {bs : List ℕ} {es : List Entry} → ReadSoFar fd n bs es →
      ReadToEnd fd n (some bs) (es ++ (read fd (room_left n bs) Ended [] ∷ []))
  failed :
      {bs : List ℕ} {es : List Entry} → ReadSoFar fd n bs es →
      ReadToEnd fd n none (es ++ (read fd (room_left n bs) Failed [] ∷ []))
  too_long :
      {bs : List ℕ} {es : List Entry} (new : List ℕ) → ReadSoFar fd n bs es → n ≤ length bs → 0 < length new →
      ReadToEnd fd n none (es ++ (read fd (room_left n bs) (Bytes (length new)) new ∷ []))

pub record ReadPast (fd : Descriptor) (g : Got) (es : List Entry) : Type 0 where
  pub next : List ℕ
  pub entry : es ≡ read fd 1 g (gave g next) ∷ []
  pub some : Gets next g

pub data FileLoaded (n : ℕ) (path : List ℕ) : Option (List ℕ) → List Entry → Type 0 where
  unopened : {fd : Descriptor} → is_open fd ≡ false → FileLoaded n path none (opened path fd ∷ [])
  as_read :
      {fd : Descriptor} {text : Option (List ℕ)} {es : List Entry} → is_open fd ≡ true → ReadToEnd fd n text es →
      FileLoaded n path text (opened path fd ∷ (es ++ (closed fd ∷ [])))
