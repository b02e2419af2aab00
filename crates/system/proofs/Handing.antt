-- What is handed out: what was said in front of lent bytes, where there is room for it.
use Rattle.std.specs.Prelude.{Err, Ok, Result}
use Prim.Native.Nat.{ℕ, ◌≤◌}
use native.Mathlib.Omega.{arith}
use mathlib.Core.Bool.{Bool, true, false}
use mathlib.Core.Path.{◌≡◌, refl, sym, ap, subst, ◌∙◌}
use mathlib.Core.List.{List, [], ◌∷◌}
use lib.ListN.{length, take, drop, length-append}
use Rattle.facts.specs.Lists.{written}
use Rattle.facts.proofs.Setting.{written_front}
use Rattle.refusals.specs.declared.Refusal.{Refusal}
use Rattle.refusals.specs.Verdict.{Verdict}
use Rattle.refusals.specs.Verdict as verdict
use Rattle.refusals.specs.Order.{room_verdict, ◌then◌}
use Rattle.refusals.specs.Promises.{Writes}
use Rattle.refusals.proofs.Order.{refused_not_fine, room_fine_iff, then_fine_iff}
use Rattle.refusals.proofs.Promises.{refused_by, fine_by, said_by, left_written}
use Rattle.text.specs.Said.{Said, paper}
use Rattle.policy.specs.Output.{verdict_line}
use Rattle.policy.specs.StepOutput.{text_or}
use Rattle.ledger.specs.Ledger.{Entry, wrote, Enters}
use Rattle.ledger.proofs.Entering.{enters_as}
use Rattle.system.specs.Handing.{HandedOut, FrontWithin, FrontHanded}

-- no bytes need no call, and always are handed out
pub hands_none : (bs : List ℕ) → length bs ≡ 0 → HandedOut bs true []
hands_none [] e = record { entries = refl; none = λ q. refl }
hands_none (b ∷ bs) e = absurd (omega (arith, e))

-- any others are handed out by one call
pub hands_some : (bs : List ℕ) (r : Bool) → (length bs ≡ 0 → ⊥) → HandedOut bs r (wrote bs r ∷ [])
hands_some [] r n = absurd (n refl)
hands_some (b ∷ bs) r n =
    record { entries = refl; none = λ q. let z : length (b ∷ bs) ≡ 0 = ap length q in absurd (omega (arith, z)) }

-- bytes that were written in front stand there
pub front_written :
    (bs before : List ℕ) {after : List ℕ} {n : ℕ} → after ≡ written bs before → n ≡ length bs →
    (n ≤ length after) × (take n after ≡ bs)
unfolding written
front_written bs before {after} {n} e k = (
  rw (e, length-append bs (drop (length bs) before)) (omega (arith, k)),
  ap (take n) e ∙ written_front bs before n (sym k),
)

-- so does what was said
pub said_front :
    {bs before after : List ℕ} {n : ℕ} → Said bs before (Ok n) after → (n ≤ length after) × (take n after ≡ bs)
said_front {bs} {before} {after} {n} s =
    let w = fine_by (said_by s) refl in
    let count : n ≡ length bs = (let z = w.1 in cc) in
    front_written bs before (left_written s w.0) count

-- what was said stands within the lent bytes
pub said_within : {bs before after : List ℕ} (w : Result ℕ Refusal) → Said bs before w after → FrontWithin w after
said_within (Err why) s = tt
said_within (Ok n) s = (said_front s).0

-- where there was room for it, what is handed out is what was said
pub said_handed :
    {bs before after : List ℕ} (w : Result ℕ Refusal) {r : Bool} → Said bs before w after → length bs ≤ length before →
    (es : List Entry) → FrontHanded w after r es → HandedOut bs r es
said_handed {bs} {before} (Err why) s room es h =
    refused_not_fine (sym (refused_by (said_by s) {why = why} refl) ∙ (room_fine_iff (length bs) (length before)).1 room)
said_handed (Ok n) {r} s room es h = subst (λ (x : List ℕ). HandedOut x r es) (said_front s).1 h

-- ---- by what was written

module _ {w : Result ℕ Refusal} (out : List ℕ) where
  -- bytes that are within
  pub front_within : {n : ℕ} → w ≡ Ok n → FrontWithin w out → n ≤ length out
  front_within e h = subst (λ (x : Result ℕ Refusal). FrontWithin x out) e h

  -- nothing is handed out where there was no room
  pub front_refused : {why : Refusal} → w ≡ Err why → FrontHanded w out false []
  front_refused e = subst (λ (x : Result ℕ Refusal). FrontHanded x out false []) (sym e) (refl, refl)

  -- else what stands in front
  pub front_said :
      {n : ℕ} {r : Bool} → w ≡ Ok n → (es : List Entry) → HandedOut (take n out) r es → FrontHanded w out r es
  front_said {r = r} e es h = subst (λ (x : Result ℕ Refusal). FrontHanded x out r es) (sym e) h

-- ---- what is due

-- bytes that are handed out may be said in another way
pub handed_as :
    {bs cs : List ℕ} {r : Bool} {l m : ℕ} → bs ≡ cs → Enters (HandedOut bs r) l m → Enters (HandedOut cs r) l m
handed_as {r = r} e h = enters_as h (λ es p. subst (λ (x : List ℕ). HandedOut x r es) e p)

-- a text that is written, or its refusal, is what is due by its verdict
module _
    (v : Verdict) (s before : List ℕ) {after : List ℕ} {w : Result ℕ Refusal}
    (said : Writes paper (v then room_verdict (length s) (length before)) (length s ∷ []) s before w after) where
  pub due_text : {n : ℕ} → w ≡ Ok n → (n ≤ length after) × (take n after ≡ text_or v s)
  due_text {n} e =
      let fine = fine_by (said_by said) (ap paper e) in
      let count : n ≡ length s = (let z = fine.1 in cc) in
      let front = front_written s before (left_written said fine.0) count in
      (front.0, front.1 ∙ ap (λ (x : Verdict). text_or x s) (sym ((then_fine_iff v _).0 fine.0).0))

  pub due_refusal :
      {why : Refusal} → (v then room_verdict (length s) (length before)) ≡ v → w ≡ Err why →
      verdict_line (verdict.Refused why) ≡ text_or v s
  due_refusal room e =
      ap (λ (x : Verdict). text_or x s) (sym (sym room ∙ refused_by (said_by said) (ap paper e)))
