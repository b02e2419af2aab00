-- Standard input, read after read, and what is handed out for it. Definitions only.
--   answer_for a .. h  the line that answers header h, a being what is asked: which rules match, or why one rule misses
--   more_to_read g     the line that is being gathered is g, and more is to be read
--   input_ended g      no more is to be read
--   output_failed      a reply was not written, and no more is to be read
--   AllShort answer    no answer to a header is longer than the longest reply of a good list
--   most_piece         the most bytes that are read at once
--   most_reads         the most reads
--   Unfinished answer bs es    of the bytes bs, which are due, a part was written, and then one was not; or it found
--                      no room, and then not all answers are short
--   PieceAnswered answer g p r es    the piece p is answered from the state g on, and r goes on from the state after
--                      it; or its answer is unfinished, and r goes on no more
--   GotAnswered answer g got piece r es    what a read gave, in front of the piece, is answered
--   Ends g             a read gave no bytes: it failed, or there are no more
--   SomeAnswered answer g r es       one read, and what it gave is answered so
--   Turns answer k s es    k reads gave the bytes s together, and after each its replies were written
--   TurnReached answer k t es  the turn t is reached by k reads
--   InputAnswered answer r es    the input is read to its end, or to the most reads, and answered, and then the last
--                      part is; r says whether all that was due was written. Or it stops at an answer that is
--                      unfinished
use Rattle.std.specs.Prelude.{ℕ, ◌+◌, ◌≤◌, ◌<◌, Bool, false, ◌≡◌, List, [], ◌∷◌, ◌++◌, length, take}
use Rattle.ledger.specs.declared.input.Got.{Got}
use Rattle.ledger.specs.declared.input.Got.TheVariants.{Failed, Ended, Bytes}
use Rattle.ledger.specs.Ledger.{Entry, read, standard_input}
use Rattle.console.specs.declared.gather.Gathering.{Gathering}
use Rattle.console.specs.Lines.{most_reply}
use Rattle.console.specs.Replies.{answer_to}
use Rattle.console.specs.MissLines.{miss_answer}
use Rattle.console.specs.Gathered.{begun, after, answers, last_reply}
use Rattle.system.specs.declared.serve.Asked.{Asked}
use Rattle.system.specs.declared.serve.Asked.TheVariants as asked
use Rattle.system.specs.declared.serve.Turn.{Turn}
use Rattle.system.specs.declared.serve.Turn.TheVariants.{Going, Over, Stopped}
use Rattle.system.specs.Handing.{HandedOut, Gives}

unfoldable pub answer_for : Asked → List ℕ → List ℕ → List ℕ → List ℕ → List ℕ
answer_for (asked.Matches accepted) rs nodes pool = answer_to accepted rs nodes pool
answer_for (asked.Misses n) rs nodes pool = miss_answer rs n

pattern abbrev pub more_to_read : Gathering → Turn
more_to_read g = Going g

pattern abbrev pub input_ended : Gathering → Turn
input_ended g = Over g

pattern abbrev pub output_failed : Turn
output_failed = Stopped

abbrev pub AllShort : (List ℕ → List ℕ) → Type 0
AllShort answer = (h : List ℕ) → length (answer h) ≤ most_reply

abbrev pub most_piece : ℕ
most_piece = 65536

abbrev pub most_reads : ℕ
most_reads = 18446744073709551615

abbrev pub read_input : Got → List ℕ → Entry
read_input g p = read standard_input most_piece g p

pub data Ends : Got → Type 0 where
  failed : Ends Failed
  ended : Ends Ended

module _ (answer : List ℕ → List ℕ) where
  pub data Unfinished : List ℕ → List Entry → Type 0 where
    unwritten :
        {bs new : List ℕ} (rest : List ℕ) {es ws : List Entry} → Gives bs es → HandedOut new false ws →
        Unfinished (bs ++ (new ++ rest)) (es ++ ws)
    unfit :
        {bs : List ℕ} (rest : List ℕ) {es : List Entry} → Gives bs es → (AllShort answer → ⊥) →
        Unfinished (bs ++ rest) es

  pub data PieceAnswered (g : Gathering) (p : List ℕ) (r : Turn) : List Entry → Type 0 where
    all : {es : List Entry} → Gives (answers answer g p) es → r ≡ more_to_read (after g p) → PieceAnswered g p r es
    part :
        {es : List Entry} → Unfinished (answers answer g p) es → r ≡ output_failed → PieceAnswered g p r es

  -- where a read gave no bytes, no more is to be read, and the line is as it was
  abbrev pub GotAnswered : Gathering → Got → List ℕ → Turn → List Entry → Type 0
  GotAnswered g Failed piece r es = (r ≡ input_ended g) × (es ≡ [])
  GotAnswered g Ended piece r es = (r ≡ input_ended g) × (es ≡ [])
  GotAnswered g (Bytes n) piece r es = PieceAnswered g (take n piece) r es

  pub data SomeAnswered (g : Gathering) (r : Turn) : List Entry → Type 0 where
    at_end : {e : Got} → Ends e → r ≡ input_ended g → SomeAnswered g r (read_input e [] ∷ [])
    at_piece :
        (p : List ℕ) {es : List Entry} → 0 < length p → PieceAnswered g p r es →
        SomeAnswered g r (read_input (Bytes (length p)) p ∷ es)

  pub data Turns : ℕ → List ℕ → List Entry → Type 0 where
    none_yet : Turns 0 [] []
    and_more :
        {k : ℕ} {s : List ℕ} (p : List ℕ) {es ws : List Entry} → Turns k s es → 0 < length p →
        Gives (answers answer (after begun s) p) ws →
        Turns (k + 1) (s ++ p) (es ++ (read_input (Bytes (length p)) p ∷ ws))

  pub data TurnReached : ℕ → Turn → List Entry → Type 0 where
    going :
        {k : ℕ} {t : Turn} {s : List ℕ} {es : List Entry} → Turns k s es → t ≡ more_to_read (after begun s) →
        TurnReached k t es
    over :
        {k : ℕ} {t : Turn} {s : List ℕ} {es : List Entry} {e : Got} → Turns k s es → Ends e →
        t ≡ input_ended (after begun s) → TurnReached (k + 1) t (es ++ (read_input e [] ∷ []))
    stopped :
        {k : ℕ} {t : Turn} {s : List ℕ} (p : List ℕ) {es ws : List Entry} → Turns k s es →
        0 < length p →
        Unfinished (answers answer (after begun s) p) ws → t ≡ output_failed →
        TurnReached (k + 1) t (es ++ (read_input (Bytes (length p)) p ∷ ws))

  pub data InputAnswered : Bool → List Entry → Type 0 where
    to_the_end :
        {k : ℕ} {s : List ℕ} {es ws : List Entry} {e : Got} {r : Bool} → Turns k s es → Ends e →
        HandedOut (last_reply (after begun s)) r ws → InputAnswered r ((es ++ (read_input e [] ∷ [])) ++ ws)
    to_the_most :
        {s : List ℕ} {es ws : List Entry} {r : Bool} → Turns most_reads s es →
        HandedOut (last_reply (after begun s)) r ws → InputAnswered r (es ++ ws)
    to_a_stop :
        {k : ℕ} {s : List ℕ} (p : List ℕ) {es ws : List Entry} → Turns k s es → 0 < length p →
        Unfinished (answers answer (after begun s) p) ws →
        InputAnswered false (es ++ (read_input (Bytes (length p)) p ∷ ws))
