-- Standard input, answered read after read. `Head` is the invariant of the loop over a piece: the line that is being
-- gathered is that after the bytes below a place.
use Prim.Native.Nat.{ℕ, ◌+◌, ◌-◌, ◌≤◌, ◌<◌}
use native.Mathlib.Omega.{arith}
use mathlib.Core.Bool.{Bool, true, false}
use mathlib.Core.Path.{◌≡◌, refl, sym, ap, subst, ◌∙◌}
use mathlib.Core.List.{List, [], ◌∷◌, ◌++◌}
use lib.ListN.{length, get_or, take, drop, length-drop, length-take, take-append-drop}
use lib.Seq.{take_all, take-take, take-add}
use Rattle.facts.proofs.Steps.{drop_step}
use Rattle.ledger.specs.Ledger.{Entry}
use Rattle.console.specs.declared.gather.Gathering.{Gathering}
use Rattle.console.specs.declared.feed.Fed.{Fed}
use Rattle.console.specs.Lines.{most_reply}
use Rattle.console.specs.Gathered.{after, answers}
use Rattle.console.specs.Feeding.{taken_of, IsFed}
use Rattle.console.proofs.Parts.{rest_of}
use Rattle.console.proofs.Pieces.{after_pieces, answers_pieces}
use Rattle.console.proofs.Short.{some_taken}
use Rattle.system.specs.declared.serve.Asked.{Asked}
use Rattle.system.specs.Handing.{HandedOut, Gives, nothing, and_more}
use Rattle.system.specs.Turns.{answer_for, more_to_read, output_failed, AllShort}
use Rattle.system.specs.Turns.{Unfinished, unwritten, unfit, PieceAnswered, all, part}
use Rattle.system.proofs.Handing.{front_written}

as_said : {bs : List ℕ} {a b : Bool} {ws : List Entry} → a ≡ b → HandedOut bs a ws → HandedOut bs b ws
as_said {bs} {ws = ws} e h = subst (λ (x : Bool). HandedOut bs x ws) e h

-- ---- a piece, in parts

pub record Head
    (answer : List ℕ → List ℕ) (from : Gathering) (piece : List ℕ) (g : Gathering) (at : ℕ) (es : List Entry) :
    Type 0 where
  pub within : at ≤ length piece
  pub state : g ≡ after from (take at piece)
  pub gives : Gives (answers answer from (take at piece)) es

-- before the first byte the line is as it was, and nothing was handed out
pub head_first : (answer : List ℕ → List ℕ) (from : Gathering) (piece : List ℕ) → Head answer from piece from 0 []
unfolding after answers
head_first answer from piece = record { within = omega arith; state = refl; gives = nothing }

-- what is left of a piece begins with its next byte
rest_more : (piece : List ℕ) (at : ℕ) → at < length piece → rest_of at piece ≡ get_or piece at 0 ∷ drop (at + 1) piece
rest_more piece at h =
    take_all (length piece - at) (drop at piece) (simp length-drop (omega arith)) ∙ drop_step piece at h

-- what is due for the piece is what is due for its front, and then what is due for the rest
due_rest :
    (answer : List ℕ → List ℕ) (from : Gathering) (piece : List ℕ) (g : Gathering) (at : ℕ) →
    g ≡ after from (take at piece) →
    answers answer from (take at piece) ++ answers answer g (drop at piece) ≡ answers answer from piece
due_rest answer from piece g at e =
    ap (λ (x : Gathering). answers answer from (take at piece) ++ answers answer x (drop at piece)) e ∙
    sym (answers_pieces answer from (take at piece) (drop at piece)) ∙
    ap (answers answer from) (take-append-drop at piece)

module _ {answer : List ℕ → List ℕ} {from : Gathering} {piece : List ℕ} where
  -- at the end the whole piece is answered
  pub head_last :
      {g : Gathering} {at : ℕ} → length piece ≤ at → (es : List Entry) → Head answer from piece g at es →
      PieceAnswered answer from piece (more_to_read g) es
  head_last {at = at} h es t =
      let full = take_all at piece h in
      all (subst (λ (x : List ℕ). Gives (answers answer from x) es) full t.gives)
      (ap (λ (x : Gathering). more_to_read x) (t.state ∙ ap (after from) full))

  module _
      {g : Gathering} {at : ℕ} {es : List Entry} (t : Head answer from piece g at es) {before new : List ℕ} {r : Fed}
      (f : IsFed answer g (rest_of at piece) before r new) where
    -- their replies stand in front
    pub head_front :
        (r.filled ≤ length new) × (take r.filled new ≡ answers answer g (take r.taken (rest_of at piece)))
    head_front = front_written _ before f.bytes f.filled

    -- where there is room for the longest reply, and bytes are left, none are taken only where not all answers are
    -- short
    pub head_unfit :
        at < length piece → most_reply ≤ length before → r.taken ≡ 0 →
        PieceAnswered answer from piece output_failed es
    head_unfit h room none =
        part
        (subst (λ (b : List ℕ). Unfinished answer b es) (due_rest answer from piece g at t.state)
        (unfit (answers answer g (drop at piece)) t.gives too_long))
        refl
      where
        too_long : AllShort answer → ⊥
        too_long short =
            let some = some_taken answer short (length before) g (get_or piece at 0) (drop (at + 1) piece) room in
            let left : taken_of answer (length before) g (rest_of at piece) ≡
            taken_of answer (length before) g (get_or piece at 0 ∷ drop (at + 1) piece) =
            ap (taken_of answer (length before) g) (rest_more piece at h) in
            omega (arith, some, left, f.taken, none)

    module _ (most : r.taken ≤ length (rest_of at piece)) where
      -- no more bytes are taken than are left
      pub head_within : at + r.taken ≤ length piece
      head_within =
          omega (arith, t.within, most, length-take (length piece - at) (drop at piece), length-drop at piece)

      part_of_lem : take r.taken (rest_of at piece) ≡ take r.taken (drop at piece)
      part_of_lem = take-take r.taken (length piece - at) (drop at piece) (omega (arith, head_within, t.within))

      due : take r.filled new ≡ answers answer g (take r.taken (drop at piece))
      due = head_front.1 ∙ ap (answers answer g) part_of_lem

      -- after them the line is that which is left gathered, and their replies were written
      pub head_step :
          {b : Bool} → b ≡ true → (ws : List Entry) → HandedOut (take r.filled new) b ws →
          Head answer from piece r.gathering (at + r.taken) (es ++ ws)
      head_step e ws h =
          let longer = sym (take-add at r.taken piece) in
          record {
            within = head_within;
            state =
                f.state ∙ ap (after g) part_of_lem ∙
                ap (λ (x : Gathering). after x (take r.taken (drop at piece))) t.state ∙
                sym (after_pieces from (take at piece) (take r.taken (drop at piece))) ∙ ap (after from) longer;
            gives =
                subst (λ (b : List ℕ). Gives b (es ++ ws))
                (ap (λ (b : List ℕ). answers answer from (take at piece) ++ b) due ∙
                ap (λ (x : Gathering). answers answer from (take at piece) ++
                answers answer x (take r.taken (drop at piece))) t.state ∙
                sym (answers_pieces answer from (take at piece) (take r.taken (drop at piece))) ∙
                ap (answers answer from) longer) (and_more t.gives (as_said e h));
          }

      -- where they were not, the answer is unfinished
      pub head_unwritten :
          {b : Bool} → b ≡ false → (ws : List Entry) → HandedOut (take r.filled new) b ws →
          PieceAnswered answer from piece output_failed (es ++ ws)
      head_unwritten u ws h =
          let k = r.taken in
          let rest = answers answer (after g (take k (drop at piece))) (drop k (drop at piece)) in
          part
          (subst (λ (b : List ℕ). Unfinished answer b (es ++ ws))
          (ap (λ (b : List ℕ). answers answer from (take at piece) ++ b)
          (ap (λ (b : List ℕ). b ++ rest) due ∙
          sym (answers_pieces answer g (take k (drop at piece)) (drop k (drop at piece))) ∙
          ap (answers answer g) (take-append-drop k (drop at piece))) ∙ due_rest answer from piece g at t.state)
          (unwritten rest t.gives (as_said u h)))
          refl

-- ---- by what is asked

-- a piece of input is answered as it is asked
pub asked_fed :
    (rs nodes pool : List ℕ) {a b : Asked} {g : Gathering} {bs before : List ℕ} {r : Fed} {new : List ℕ} → a ≡ b →
    IsFed (answer_for b rs nodes pool) g bs before r new → IsFed (answer_for a rs nodes pool) g bs before r new
asked_fed rs nodes pool {g = g} {bs = bs} {before = before} {r = r} {new = new} e f =
    subst (λ (x : Asked). IsFed (answer_for x rs nodes pool) g bs before r new) (sym e) f
