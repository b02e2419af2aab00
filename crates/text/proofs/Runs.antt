-- Reading a text line by line, for any states: what a line does to the rest of the reading, where a reading ends, and
-- what a reading that ends well has passed.
--   Led r t          the bytes t lead to a state that holds the result r
--   Walk s ls s'     the lines ls lead from the state s to s'
use Prim.Native.Nat.{ℕ, suc, ◌+◌, ◌≤◌, ◌<◌}
use native.Mathlib.Nat.{add-zero}
use native.Mathlib.Omega.{arith}
use mathlib.Core.Bool.{Bool, true, false, cond}
use mathlib.Core.Option.{Option, none, some}
use mathlib.Core.List.{List, [], ◌∷◌, ◌++◌, append_assoc, append-nil}
use mathlib.Core.Path.{◌≡◌, refl, ap, ◌∙◌}
use lib.Dec.{eqb}
use lib.ListN.{length, get_or, drop}
use Rattle.facts.proofs.Steps.{drop_step, drop_end}
use Rattle.refusals.specs.declared.Refusal.{Refusal}
use Rattle.refusals.specs.declared.Refusal.TheVariants.{LineWrong, TextStops}
use Rattle.text.specs.Words.{newline}
use Rattle.text.specs.Text.{Text, whole, before, above, split, unlines, line, no_line, next_from}
use Rattle.text.specs.Text.{Reading, good, refused, at_end, on_step, run, read_all}
use Rattle.text.proofs.Texts.{next_found, next_none, split_line, split_plain}

-- a reading was refused and was good: this cannot be
pub refused_good : {R B : Type 0} {why : Refusal} {r : R} → refused why ≡ good r → B
refused_good h = let z : ◌≡◌ {A = ℕ} 0 1 = cc in absurd (omega arith)

found_split : (s l r : List ℕ) → next_from [] s ≡ line l r → split s ≡ above l (split r)
found_split s l r e = let f = next_found [] s l r tt e in ap split f.text ∙ split_line l r f.plain

module _ {S R : Type 0} (step : S → List ℕ → Option S) (finish : S → Option R) where
  above_run :
      (st : S) (k : ℕ) (l : List ℕ) (x : Text) →
      read_all step finish st k (above l x) ≡ on_step (step st l) k (λ st'. read_all step finish st' (k + 1) x)
  unfolding run
  above_run st k l (whole ls t) = refl

  line_run :
      (st : S) (k : ℕ) (s l r : List ℕ) (o : Option S) → next_from [] s ≡ line l r → step st l ≡ o →
      read_all step finish st k (split s) ≡ on_step o k (λ st'. read_all step finish st' (k + 1) (split r))
  line_run st k s l r o e h =
      ap (read_all step finish st k) (found_split s l r e) ∙ above_run st k l (split r)
      ∙ ap (λ (o : Option S). on_step o k (λ st'. read_all step finish st' (k + 1) (split r))) h

  -- where the next line leads to another state, reading goes on from there behind that line
  pub run_moved :
      (st st' : S) (k : ℕ) (s l r : List ℕ) → next_from [] s ≡ line l r → step st l ≡ some st' →
      read_all step finish st k (split s) ≡ read_all step finish st' (k + 1) (split r)
  run_moved st st' k s l r e h = line_run st k s l r (some st') e h

  -- where the next line is wrong, reading comes to 9 at that line
  pub run_stuck :
      (st : S) (k : ℕ) (s l r : List ℕ) → next_from [] s ≡ line l r → step st l ≡ none →
      read_all step finish st k (split s) ≡ refused (LineWrong (k + 1))
  run_stuck st k s l r e h = line_run st k s l r none e h

  -- where there is no line any more and the state is not the last, reading comes to 10 at the lines read
  pub run_short :
      (st : S) (k : ℕ) (s : List ℕ) → next_from [] s ≡ no_line → finish st ≡ none →
      read_all step finish st k (split s) ≡ refused (TextStops k)
  unfolding run
  run_short st k s e h = ap (read_all step finish st k) (split_plain s (next_none [] s tt e)) ∙ rw h

  over_any :
      (st : S) (r : R) (k b : ℕ) (x : Text) (t : Bool) → finish st ≡ some r → ((l : List ℕ) → step st l ≡ none) →
      read_all step finish st k (cond t (above [] x) (before b x)) ≡ refused (LineWrong (k + 1))
  unfolding run
  over_any st r k b (whole ls u) true done last = rw (last [])
  over_any st r k b (whole [] u) false done last = rw done
  over_any st r k b (whole (l ∷ ls) u) false done last = rw (last (b ∷ l))

  -- in a last state, reading comes to 9 at the next line where any byte is left
  pub over_more :
      (st : S) (r : R) (k : ℕ) (s : List ℕ) (at : ℕ) → finish st ≡ some r → ((l : List ℕ) → step st l ≡ none) →
      at < length s → read_all step finish st k (split (drop at s)) ≡ refused (LineWrong (k + 1))
  unfolding split
  over_more st r k s at done last h =
      let first : ℕ = get_or s at 0 in
      rw (drop_step s at h) (over_any st r k first (split (drop (at + 1) s)) (eqb first newline) done last)

  -- in a last state, reading comes to its result where no byte is left
  pub over_done :
      (st : S) (r : R) (k : ℕ) (s : List ℕ) (at : ℕ) → finish st ≡ some r → length s ≤ at →
      read_all step finish st k (split (drop at s)) ≡ good r
  unfolding split run
  over_done st r k s at done h = rw (drop_end s at h, done)

  pub data Walk : S → List (List ℕ) → S → Type 0 where
    here : {s : S} → Walk s [] s
    go : {s s' s'' : S} {l : List ℕ} {ls : List (List ℕ)} → step s l ≡ some s' → Walk s' ls s'' → Walk s (l ∷ ls) s''

  -- lines that lead to a state and a line that leads on from it lead to the next state
  pub walk_more :
      {s s' s'' : S} {ls : List (List ℕ)} {l : List ℕ} → Walk s ls s' → step s' l ≡ some s'' → Walk s (ls ++ (l ∷ [])) s''
  walk_more here e = go e here
  walk_more (go f w) e = go f (walk_more w e)

  -- lines that lead to a state are read, and reading goes on from that state
  pub walk_run :
      {s s' : S} {ls : List (List ℕ)} (k : ℕ) (ms : List (List ℕ)) (t : List ℕ) → Walk s ls s' →
      run step finish s k (ls ++ ms) t ≡ run step finish s' (k + length ls) ms t
  unfolding run
  walk_run k ms t here = rw add-zero
  walk_run k ms t (go {ls = ls} e w) =
      let f : k + suc (length ls) ≡ k + 1 + length ls = omega arith in
      rw (e, f) (walk_run (k + 1) ms t w)

-- Leads st t says that the bytes t lead to the state st
module _
    {S R : Type 0} (step : S → List ℕ → Option S) (finish : S → Option R) (Leads : S → List ℕ → Type 0)
    (walk : (st st' : S) (t l : List ℕ) → Leads st t → step st l ≡ some st' → Leads st' (t ++ (l ++ (newline ∷ []))))
  where
    pub record Led (r : R) (t : List ℕ) : Type 0 where
      pub last : S
      pub led : Leads last t
      pub result : finish last ≡ some r

    led_end :
        (st : S) (k : ℕ) (t s : List ℕ) (r : R) (f : Option R) → finish st ≡ f → Leads st t → at_end f k s ≡ good r →
        Led r (t ++ s)
    led_end st k t s r none e w h = refused_good h
    led_end st k t [] r (some q) e w h =
        let same : q ≡ r = cc in
        rw append-nil (record { last = st; led = w; result = e ∙ ap (λ (x : R). some x) same })
    led_end st k t (b ∷ s) r (some q) e w h = refused_good h

    led_step :
        (st : S) (k : ℕ) (l t s : List ℕ) (r : R) (o : Option S) (on : S → Reading R) → step st l ≡ o → Leads st t →
        on_step o k on ≡ good r → ((st' : S) → Leads st' (t ++ (l ++ (newline ∷ []))) → on st' ≡ good r → Led r s) →
        Led r s
    led_step st k l t s r none on e w h ih = refused_good h
    led_step st k l t s r (some st') on e w h ih = ih st' (walk st st' t l w e) h

    -- a text that reads well leads to a state that holds its result
    pub led :
        (st : S) (k : ℕ) (ls : List (List ℕ)) (t s : List ℕ) (r : R) → Leads st t → run step finish st k ls s ≡ good r →
        Led r (t ++ (unlines ls ++ s))
    unfolding run unlines
    led st k [] t s r w h = led_end st k t s r (finish st) refl w h
    led st k (l ∷ ls) t s r w h =
        let passed : List ℕ = t ++ (l ++ (newline ∷ [])) in
        let all : List ℕ = passed ++ (unlines ls ++ s) in
        let e : t ++ ((l ++ (newline ∷ unlines ls)) ++ s) ≡ all = simp append_assoc in
        rw e
        (led_step st k l t all r (step st l) (λ st'. run step finish st' (k + 1) ls s) refl w h
        (λ st' w' h'. led st' (k + 1) ls passed s r w' h'))
