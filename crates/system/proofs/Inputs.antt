-- Standard input to its end: by what a read gave, and turn after turn.
use Prim.Native.Nat.{ℕ, ◌+◌}
use native.Mathlib.Omega.{arith}
use mathlib.Core.Bool.{Bool, true, false}
use mathlib.Core.Path.{◌≡◌, refl, sym, ap, subst, ◌∙◌}
use mathlib.Core.Logic.{◌⊎◌, inl, inr}
use mathlib.Core.List.{List, [], ◌∷◌, ◌++◌}
use lib.ListN.{length, take}
use Rattle.facts.proofs.Bools.{clash}
use Rattle.ledger.specs.declared.input.Descriptor.{Descriptor}
use Rattle.ledger.specs.declared.input.Got.{Got}
use Rattle.ledger.specs.declared.input.Got.TheVariants.{Failed, Ended, Bytes}
use Rattle.ledger.specs.Reads.{gave, Gets}
use Rattle.ledger.specs.Ledger.{Entry, read, standard_input}
use Rattle.console.specs.declared.gather.Gathering.{Gathering}
use Rattle.console.specs.Gathered.{begun, after, last_reply}
use Rattle.console.proofs.Pieces.{after_pieces}
use Rattle.system.specs.declared.serve.Turn.{Turn}
use Rattle.system.specs.Handing.{HandedOut}
use Rattle.system.specs.Turns as turns
use Rattle.system.specs.Turns.{more_to_read, input_ended, output_failed, most_piece, most_reads, read_input, Ends}
use Rattle.system.specs.Turns.{Unfinished, PieceAnswered, all, part, GotAnswered, SomeAnswered, at_end}
use Rattle.system.specs.Turns.{at_piece, Turns, none_yet, and_more, TurnReached, going, over, stopped}
use Rattle.system.specs.Turns.{InputAnswered, to_the_end, to_the_most, to_a_stop}

-- ---- one read

module _ (answer : List ℕ → List ℕ) where
  -- where a read gave no bytes the input has ended
  pub got_ended :
      (g : Gathering) {a b : Got} (piece : List ℕ) {r : Turn} → Ends b → a ≡ b → r ≡ input_ended g →
      GotAnswered answer g a piece r []
  got_ended g {a} piece {r} turns.failed e h =
      subst (λ (x : Got). GotAnswered answer g x piece r []) (sym e) (h, refl)
  got_ended g {a} piece {r} turns.ended e h =
      subst (λ (x : Got). GotAnswered answer g x piece r []) (sym e) (h, refl)

  -- else the bytes that it gave are answered
  pub got_piece :
      (g : Gathering) {a : Got} {n : ℕ} (piece : List ℕ) {r : Turn} → a ≡ Bytes n → (es : List Entry) →
      PieceAnswered answer g (take n piece) r es → GotAnswered answer g a piece r es
  got_piece g piece {r} e es h = subst (λ (x : Got). GotAnswered answer g x piece r es) (sym e) h

  -- a read of standard input, and its answer
  pub some_answered :
      (g : Gathering) {r : Turn} {fd : Descriptor} (piece : List ℕ) (got : Got) → fd ≡ standard_input →
      length piece ≡ most_piece → Gets piece got → (es : List Entry) → GotAnswered answer g got piece r es →
      SomeAnswered answer g r (read fd (length piece) got (gave got piece) ∷ es)
  some_answered g {r} {fd} piece got p q h es a =
      subst (λ (x : Descriptor). SomeAnswered answer g r (read x (length piece) got (gave got piece) ∷ es)) (sym p)
      (subst (λ (n : ℕ). SomeAnswered answer g r (read standard_input n got (gave got piece) ∷ es)) (sym q) (by got h a))
    where
      alone : (e : Got) → Ends e → r ≡ input_ended g → es ≡ [] → SomeAnswered answer g r (read_input e [] ∷ es)
      alone e w t z =
          subst (λ (ws : List Entry). SomeAnswered answer g r (read_input e [] ∷ ws)) (sym z) (at_end w t)

      by :
          (got : Got) → Gets piece got → GotAnswered answer g got piece r es →
          SomeAnswered answer g r (read_input got (gave got piece) ∷ es)
      by Failed h a = alone Failed turns.failed a.0 a.1
      by Ended h a = alone Ended turns.ended a.0 a.1
      by (Bytes n) h a =
          subst (λ (k : ℕ). SomeAnswered answer g r (read_input (Bytes k) (take n piece) ∷ es)) (sym h.1.1)
          (at_piece (take n piece) (omega (arith, h.0, h.1.1)) a)

-- ---- turn after turn

-- the three turns differ
is_more : Turn → Bool
is_more (more_to_read g) = true
is_more (input_ended g) = false
is_more output_failed = false

is_written : Turn → Bool
is_written (more_to_read g) = true
is_written (input_ended g) = true
is_written output_failed = false

line_in : Gathering → Turn → Gathering
line_in x (more_to_read g) = g
line_in x (input_ended g) = g
line_in x output_failed = x

module _ {answer : List ℕ → List ℕ} where
  -- before the first read
  pub reached_first : {g : Gathering} → g ≡ begun → TurnReached answer 0 (more_to_read g) []
  unfolding after
  reached_first e = going none_yet (ap (λ (x : Gathering). more_to_read x) e)

  -- after one read more
  pub reached_next :
      {k : ℕ} {s t : Turn} {g : Gathering} → s ≡ more_to_read g → (es ws : List Entry) → TurnReached answer k s es →
      SomeAnswered answer g t ws → TurnReached answer (k + 1) t (es ++ ws)
  unfolding is_more line_in
  reached_next m es ws (over w e q) h = clash (ap is_more m) (ap is_more q)
  reached_next m es ws (stopped p w l u q) h = clash (ap is_more m) (ap is_more q)
  reached_next {k} {s} {t} {g} m es ws (going {s = bs} w q) h =
      by ws (subst (λ (g : Gathering). SomeAnswered answer g t ws) (ap (line_in g) (sym m ∙ q)) h)
    where
      by : (ws : List Entry) → SomeAnswered answer (after begun bs) t ws → TurnReached answer (k + 1) t (es ++ ws)
      by ws (at_end e r) = over w e r
      by ws (at_piece p l (all gives r)) =
          going (and_more p w l gives) (r ∙ ap (λ (x : Gathering). more_to_read x) (sym (after_pieces begun bs p)))
      by ws (at_piece p l (part u r)) = stopped p w l u r

  -- a turn at which a reply was not written is a stop
  pub reached_stop :
      {k : ℕ} {t : Turn} → t ≡ output_failed → (es : List Entry) → TurnReached answer k t es →
      InputAnswered answer false es
  unfolding is_more is_written
  reached_stop n es (stopped p w l u q) = to_a_stop p w l u
  reached_stop n es (going w q) = clash (ap is_more q) (ap is_more n)
  reached_stop n es (over w e q) = clash (ap is_written q) (ap is_written n)

  -- at any other the last part is answered, once the input or the reads have ended
  pub reached_last :
      {k : ℕ} {t : Turn} {g : Gathering} {r : Bool} → (t ≡ more_to_read g) ⊎ (t ≡ input_ended g) →
      (t ≡ more_to_read g → k ≡ most_reads) → (es ws : List Entry) → TurnReached answer k t es →
      HandedOut (last_reply g) r ws → InputAnswered answer r (es ++ ws)
  unfolding is_more is_written line_in
  reached_last (inl m) end es ws (over w e q) h = clash (ap is_more m) (ap is_more q)
  reached_last (inl m) end es ws (stopped p w l u q) h = clash (ap is_more m) (ap is_more q)
  reached_last {g = g} {r} (inl m) end es ws (going {s = bs} w q) h =
      to_the_most (subst (λ (n : ℕ). Turns answer n bs es) (end m) w)
      (subst (λ (x : Gathering). HandedOut (last_reply x) r ws) (ap (line_in g) (sym m ∙ q)) h)
  reached_last (inr n) end es ws (going w q) h = clash (ap is_more q) (ap is_more n)
  reached_last (inr n) end es ws (stopped p w l u q) h = clash (ap is_written n) (ap is_written q)
  reached_last {g = g} {r} (inr n) end es ws (over w e q) h =
      to_the_end w e (subst (λ (x : Gathering). HandedOut (last_reply x) r ws) (ap (line_in g) (sym n ∙ q)) h)
