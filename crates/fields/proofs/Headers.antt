-- Headers: the tests one by one, and what a legal header is.
use Prim.Native.Nat.{ℕ, ◌≤◌, ◌<◌}
use mathlib.Core.Path.{◌≡◌, sym, ◌∙◌}
use mathlib.Core.Logic.{◌↔◌}
use mathlib.Core.List.{List}
use lib.ListN.{length, get_or}
use borrow.Author.Tests.{leb-true, le-leb, lt-leb, eqb-true, eq-eqb, ne_eqb}
use Rattle.refusals.specs.declared.Refusal.TheVariants.{HeaderWrong}
use Rattle.refusals.specs.Verdict.{Fine, Refused}
use Rattle.refusals.specs.Order.{in_turn}
use Rattle.refusals.proofs.Order.{holds_fine, fails_refused, fine_iff_holds, then_fine, then_refused, then_fine_iff}
use Rattle.refusals.proofs.Turns.{turns_fine_iff}
use Rattle.fields.specs.Words.{field_count, top_of}
use Rattle.fields.specs.Headers.{field_verdict, header_verdict, Legal}

-- any length but five is refused with place 5
pub length_wrong : (h : List ℕ) → (length h ≡ field_count → ⊥) → Refused (HeaderWrong field_count) ≡ header_verdict h
unfolding header_verdict
length_wrong h e = sym (then_refused _ (fails_refused _ (ne_eqb (length h) field_count e)))

-- a header of five words is refused as its fields are, in turn
pub fields_decide : (h : List ℕ) → length h ≡ field_count → header_verdict h ≡ in_turn field_count 0 (field_verdict h)
unfolding header_verdict
fields_decide h e = then_fine _ (holds_fine _ (eq-eqb (length h) field_count e))

-- a field over its top is refused
pub field_over : (h : List ℕ) (f : ℕ) → top_of f < get_or h f 0 → field_verdict h f ≡ Refused (HeaderWrong f)
unfolding field_verdict
field_over h f l = fails_refused _ (lt-leb (get_or h f 0) (top_of f) l)

-- a field within its top is fine
pub field_within : (h : List ℕ) (f : ℕ) → get_or h f 0 ≤ top_of f → field_verdict h f ≡ Fine
unfolding field_verdict
field_within h f l = holds_fine _ (le-leb (get_or h f 0) (top_of f) l)

-- a header is legal exactly where it has five words and each is within its field's top
pub legal_iff : (h : List ℕ) → Legal h ↔ ((length h ≡ field_count) × ((f : ℕ) → f < field_count → get_or h f 0 ≤ top_of f))
unfolding header_verdict field_verdict
legal_iff h = (
  λ e.
      let t = (then_fine_iff _ _).0 e in
      let five = eqb-true (length h) field_count ((fine_iff_holds _ _).0 t.0) in
      (five, λ f l. leb-true (get_or h f 0) (top_of f) ((fine_iff_holds _ _).0 ((turns_fine_iff _ _).0 t.1 f l))),
  λ g. fields_decide h g.0 ∙ (turns_fine_iff field_count (field_verdict h)).1 (λ f l. field_within h f (g.1 f l)),
)
