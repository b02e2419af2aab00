-- A piece of input, byte by byte. `Reached` is the invariant: the bytes below i are taken, their replies fill the room
-- up to a place, and what is left decides.
--   up_to i             the replies to the first i bytes
use Rattle.std.specs.Prelude.{Err, Ok, Result}
use Prim.Native.Nat.{ℕ, ◌+◌, ◌-◌, ◌≤◌, ◌<◌}
use native.Mathlib.Omega.{arith}
use native.Mathlib.Nat.{zero-add, add-zero}
use mathlib.Core.Path.{◌≡◌, refl, sym, ap, ◌∙◌}
use mathlib.Core.List.{List, [], ◌∷◌, ◌++◌, append_assoc}
use lib.ListN.{length, get_or, take, drop, length-append, length-drop}
use lib.Seq.{drop-drop}
use borrow.Author.Tests.{le-leb, lt-leb}
use Rattle.facts.specs.Lists.{written}
use Rattle.facts.proofs.Cases.{WithinOrOver, within_or_over, at_most, over}
use Rattle.facts.proofs.Steps.{drop_step, drop_end}
use Rattle.refusals.specs.declared.Refusal.{Refusal}
use Rattle.refusals.specs.Verdict.{Verdict}
use Rattle.refusals.specs.Verdict as verdict
use Rattle.refusals.specs.Order.{room_verdict}
use Rattle.refusals.proofs.Order.{refused_not_fine, room_fine_iff, leaving_fine, leaving_refused}
use Rattle.refusals.proofs.Giving.{success_giving, refusal_giving}
use Rattle.text.specs.Said.{paper, Said}
use Rattle.console.specs.declared.gather.Gathering.{Gathering}
use Rattle.console.specs.Gathered.{step, after, said, answers}
use Rattle.console.specs.Feeding.{taken_of, IsFed}
use Rattle.console.proofs.Pieces.{after_more, answers_more}
use Rattle.console.proofs.Parts.{rest_of, put_at, now_length, rest_found, put_part}

module _ (answer : List ℕ → List ℕ) (g₀ : Gathering) (bs before : List ℕ) where
  abbrev pub up_to : ℕ → List ℕ
  up_to i = answers answer g₀ (take i bs)

  pub record Reached (g : Gathering) (at i : ℕ) (now : List ℕ) : Type 0 where
    pub left : taken_of answer (length before) g₀ bs ≡ i + taken_of answer (length before - at) g (drop i bs)
    pub state : g ≡ after g₀ (take i bs)
    pub filled : length (up_to i) ≡ at
    pub bytes : now ≡ written (up_to i) before
    pub fits : at ≤ length before
    pub most : i ≤ length bs

  -- before the first byte nothing is taken
  pub reached_first : Reached g₀ 0 0 before
  unfolding after answers written
  reached_first =
      let e : length before - 0 ≡ length before = omega arith in
      record {
        left = sym (zero-add _ ∙ ap (λ (k : ℕ). taken_of answer k g₀ bs) e);
        state = refl;
        filled = refl;
        bytes = refl;
        fits = omega arith;
        most = omega arith;
      }

  module _ {g : Gathering} {at i : ℕ} {now : List ℕ} (q : Reached g at i now) where
    rest : rest_of at now ≡ drop at before
    rest = rw q.bytes (rest_found (up_to i) before at q.filled q.fits)

    put : (part : List ℕ) → put_at at now part ≡ up_to i ++ part
    put part = rw q.bytes (put_part (up_to i) before at q.filled q.fits part)

    -- as many bytes are lent as before
    pub reached_length : length now ≡ length before
    reached_length = ap length q.bytes ∙ now_length (up_to i) before at q.filled q.fits

    -- all are taken where none is left
    pub reached_last :
        length bs ≤ i → IsFed answer g₀ bs before (record { taken = i; filled = at; gathering = g }) now
    unfolding taken_of
    reached_last h =
        let none = drop_end bs i h in
        let all : i ≡ taken_of answer (length before) g₀ bs = sym (rw none at q.left ∙ add-zero i) in
        record { taken = all; state = q.state; filled = sym q.filled; bytes = q.bytes }

    module _
        (h : i < length bs) {r : Result ℕ Refusal} {part : List ℕ}
        (s : Said (said answer g (get_or bs i 0)) (rest_of at now) r part) where
      abbrev here : List ℕ
      here = said answer g (get_or bs i 0)

      abbrev verdict_here : Verdict
      verdict_here = room_verdict (length here) (length (rest_of at now))

      room : length (rest_of at now) ≡ length before - at
      room = ap length rest ∙ length-drop at before

      module _ {why : Refusal} (e : r ≡ Err why) where
        refuses : verdict_here ≡ verdict.Refused why
        refuses = refusal_giving verdict_here (length here ∷ []) (ap paper (sym e) ∙ s.answers)

        over_room : length before - at < length here
        over_room = go (within_or_over (length here) (length before - at))
          where
            go : WithinOrOver (length here) (length before - at) → length before - at < length here
            go (at_most k) = refused_not_fine (sym refuses ∙ (room_fine_iff _ _).1 (omega (arith, room)))
            go (over k) = k

        none_more : taken_of answer (length before - at) g (drop i bs) ≡ 0
        unfolding taken_of
        none_more = rw (drop_step bs i h, lt-leb (length here) (length before - at) over_room)

        pub short_length : length (put_at at now part) ≡ length before
        short_length =
            let found = s.leaves ∙ leaving_refused _ _ refuses ∙ rest in
            ap length (put part) ∙ length-append (up_to i) part ∙
            omega (arith, q.filled, q.fits, ap length found, length-drop at before)

        -- where the next reply finds no room, the bytes before it are taken
        pub reached_short :
            IsFed answer g₀ bs before (record { taken = i; filled = at; gathering = g }) (put_at at now part)
        unfolding written
        reached_short =
            let found : part ≡ drop (length (up_to i)) before =
            s.leaves ∙ leaving_refused _ _ refuses ∙ rest ∙ ap (λ (k : ℕ). drop k before) (sym q.filled) in
            record {
              taken = sym (q.left ∙ ap (λ (k : ℕ). i + k) none_more ∙ add-zero i);
              state = q.state;
              filled = sym q.filled;
              bytes = put part ∙ ap (λ (p : List ℕ). up_to i ++ p) found;
            }

      module _ {n : ℕ} (e : r ≡ Ok n) where
        writes : (verdict_here ≡ verdict.Fine) × (n ∷ [] ≡ length here ∷ [])
        writes = success_giving verdict_here (length here ∷ []) (ap paper (sym e) ∙ s.answers)

        size : length here ≡ n
        size = let f = writes.1 in cc

        enough : length here ≤ length before - at
        enough = omega (arith, room, (room_fine_iff (length here) (length (rest_of at now))).0 writes.0)

        one_more :
            taken_of answer (length before - at) g (drop i bs) ≡
            taken_of answer (length before - (at + n)) (step g (get_or bs i 0)) (drop (i + 1) bs) + 1
        unfolding taken_of
        one_more =
            let f : length before - at - length here ≡ length before - (at + n) = omega (arith, size) in
            rw (drop_step bs i h, le-leb (length here) (length before - at) enough, f)

        more_replies : up_to (i + 1) ≡ up_to i ++ here
        more_replies = answers_more answer g₀ bs i h ∙
            ap (λ (x : Gathering). up_to i ++ said answer x (get_or bs i 0)) (sym q.state)

        put_more : put_at at now part ≡ written (up_to i ++ here) before
        unfolding written
        put_more =
            let place : at + length here ≡ length (up_to i ++ here) =
            sym (length-append (up_to i) here ∙ ap (λ (k : ℕ). k + length here) q.filled) in
            let tail : drop (length here) (rest_of at now) ≡ drop (length (up_to i ++ here)) before =
            ap (drop (length here)) rest ∙ drop-drop (length here) at before ∙ ap (λ (k : ℕ). drop k before) place in
            let new : part ≡ here ++ drop (length (up_to i ++ here)) before =
            s.leaves ∙ leaving_fine _ _ writes.0 ∙ ap (λ (l : List ℕ). here ++ l) tail in
            put part ∙ ap (λ (l : List ℕ). up_to i ++ l) new ∙ sym (append_assoc (up_to i) here _)

        -- a reply for which there is room leads to the next byte
        pub reached_step : Reached (step g (get_or bs i 0)) (at + n) (i + 1) (put_at at now part)
        reached_step =
            record {
              left = q.left ∙ ap (λ (k : ℕ). i + k) one_more ∙ omega arith;
              state = ap (λ (x : Gathering). step x (get_or bs i 0)) q.state ∙ after_more g₀ bs i h;
              filled = ap length more_replies ∙ length-append (up_to i) here ∙ omega (arith, q.filled, size);
              bytes = put_more ∙ ap (λ (x : List ℕ). written x before) (sym more_replies);
              fits = omega (arith, q.fits, enough, size);
              most = omega arith;
            }
