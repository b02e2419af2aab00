-- A piece of input, line by line: what is reached at a newline, and what the reply there leads to.
use Rattle.std.specs.Prelude.{Err, Ok, Result}
use Prim.Native.Nat.{ℕ, ◌+◌, ◌-◌, ◌<◌}
use native.Mathlib.Omega.{arith}
use mathlib.Core.Path.{◌≡◌, sym, ap, ◌∙◌}
use mathlib.Core.List.{List, ◌++◌, append-nil}
use lib.ListN.{length, get_or, take, drop, take-append-drop, length-drop}
use lib.Seq.{take-add, drop-drop, length-take-le}
use Rattle.facts.specs.Lists.{written}
use Rattle.refusals.specs.declared.Refusal.{Refusal}
use Rattle.text.specs.Words.{newline}
use Rattle.text.specs.Said.{Said}
use Rattle.text.proofs.Said.{said_same}
use Rattle.console.specs.declared.gather.Gathering.{Gathering}
use Rattle.console.specs.Gathered.{step, after, reply_at, said, answers}
use Rattle.console.specs.LineEnds.{line_end}
use Rattle.console.specs.Feeding.{taken_of, IsFed}
use Rattle.console.proofs.Gathering.{said_line}
use Rattle.console.proofs.Pieces.{after_pieces, answers_pieces}
use Rattle.console.proofs.Parts.{rest_of, put_at}
use Rattle.console.proofs.Passing.{part_to, answers_plain, taken_plain, EndsAt, line_ends}
use Rattle.console.proofs.Feeding.{up_to, Reached, reached_last, reached_short, short_length, reached_step}

module _
    (answer : List ℕ → List ℕ) (g₀ : Gathering) (bs before : List ℕ) {g : Gathering} {at i : ℕ} {now : List ℕ}
    (q : Reached answer g₀ bs before g at i now) where
  module _
      {j : ℕ} {g' : Gathering} (some : i < length bs) (end : j ≡ line_end bs i) (f : g' ≡ after g (part_to bs i j)) where
    e : EndsAt bs i j
    e = line_ends bs i some end

    place : i + (j - i) ≡ j
    place = omega (arith, e.from)

    split : drop i bs ≡ part_to bs i j ++ drop j bs
    split =
        sym (take-append-drop (j - i) (drop i bs)) ∙
        ap (λ (l : List ℕ). part_to bs i j ++ l) (drop-drop (j - i) i bs ∙ ap (λ (n : ℕ). drop n bs) place)

    front : take j bs ≡ take i bs ++ part_to bs i j
    front = ap (λ (n : ℕ). take n bs) (sym place) ∙ take-add i (j - i) bs

    size : length (part_to bs i j) ≡ j - i
    size = length-take-le (j - i) (drop i bs) (simp length-drop (omega (arith, e.within)))

    left : taken_of answer (length before - at) g (drop i bs) ≡
        (j - i) + taken_of answer (length before - at) g' (drop j bs)
    left =
        ap (taken_of answer (length before - at) g) split ∙
        taken_plain answer _ g (part_to bs i j) (drop j bs) e.plain ∙ rw (size, f)

    no_more : up_to answer g₀ bs before j ≡ up_to answer g₀ bs before i
    no_more =
        ap (answers answer g₀) front ∙ answers_pieces answer g₀ (take i bs) (part_to bs i j) ∙
        ap (λ (l : List ℕ). up_to answer g₀ bs before i ++ l) (answers_plain answer _ (part_to bs i j) e.plain) ∙
        append-nil _

    -- the bytes of a line are taken, and its newline is left
    pub reached_line : Reached answer g₀ bs before g' at j now
    reached_line =
        record {
          left = q.left ∙ ap (λ (k : ℕ). i + k) left ∙ omega (arith, e.from);
          state =
              f ∙ ap (λ (x : Gathering). after x (part_to bs i j)) q.state ∙
              sym (after_pieces g₀ (take i bs) (part_to bs i j)) ∙ ap (after g₀) (sym front);
          filled = ap length no_more ∙ q.filled;
          bytes = q.bytes ∙ ap (λ (l : List ℕ). written l before) (sym no_more);
          fits = q.fits;
          most = e.within;
        }

    -- the last bytes of a piece are taken where they have no newline
    pub line_last :
        j ≡ length bs → IsFed answer g₀ bs before (record { taken = length bs; filled = at; gathering = g' }) now
    line_last k = rw (← k) (reached_last answer g₀ bs before reached_line (omega arith))

    module _
        (more : j ≡ length bs → ⊥) {r : Result ℕ Refusal} {part : List ℕ} (s : Said (reply_at answer g') (rest_of at now) r part)
      where
        h : j < length bs
        h = omega (arith, e.within)

        told : Said (said answer g' (get_or bs j 0)) (rest_of at now) r part
        told = said_same (said_line answer g' (get_or bs j 0) (e.here h)) s

        -- where the reply at the newline finds no room, the bytes before it are taken
        pub line_short :
            {why : Refusal} → r ≡ Err why →
            IsFed answer g₀ bs before (record { taken = j; filled = at; gathering = g' }) (put_at at now part)
        line_short k = reached_short answer g₀ bs before reached_line h told k

        -- and as many bytes are lent as before
        pub line_short_length : {why : Refusal} → r ≡ Err why → length (put_at at now part) ≡ length before
        line_short_length k = short_length answer g₀ bs before reached_line h told k

        -- where it finds room, the newline is taken too
        pub line_step :
            {n : ℕ} → r ≡ Ok n → Reached answer g₀ bs before (step g' newline) (at + n) (j + 1) (put_at at now part)
        line_step k = rw (e.here h) at (reached_step answer g₀ bs before reached_line h told k)
