-- Entries one after another. What is proved of a function's entries goes together from those of the functions that it
-- calls.
use Rattle.std.proofs.Common.{◌≡◌, ℕ, List, [], ◌∷◌, ◌++◌, sym, refl, ap, ◌∙◌, subst, append_assoc}
use Rattle.ledger.specs.Ledger.{Entry, enter, entered, Enters, handed_by, handed, given_by, input_of}

-- the entries of two lists are those of the first, and then those of the second
pub entered_append : (l : ℕ) (a b : List Entry) → entered (entered l a) b ≡ entered l (a ++ b)
unfolding entered
entered_append l [] b = refl
entered_append l (e ∷ a) b = entered_append (enter l e) a b

-- where nothing is entered the ledger is as it was
pub enters_none : {P : List Entry → Type 0} {l : ℕ} → P [] → Enters P l l
unfolding entered
enters_none p = record { entries = []; ledger = refl; are = p }

-- one entry
pub enters_one : {P : List Entry → Type 0} {l m : ℕ} (e : Entry) → m ≡ enter l e → P (e ∷ []) → Enters P l m
unfolding entered
enters_one e q p = record { entries = e ∷ []; ledger = q; are = p }

-- what holds of the entries may be said in another way
pub enters_as :
    {P Q : List Entry → Type 0} {l m : ℕ} → Enters P l m → ((es : List Entry) → P es → Q es) → Enters Q l m
enters_as p f = record { entries = p.entries; ledger = p.ledger; are = f p.entries p.are }

-- first these, then those
pub enters_then :
    {P Q R : List Entry → Type 0} {l m n : ℕ} → Enters P l m → Enters Q m n →
    ((a b : List Entry) → P a → Q b → R (a ++ b)) → Enters R l n
enters_then {l = l} p q f =
    record {
      entries = p.entries ++ q.entries;
      ledger =
          q.ledger ∙ ap (λ x. entered x q.entries) p.ledger ∙ entered_append l p.entries q.entries;
      are = f p.entries q.entries p.are q.are;
    }

-- first these, then one entry
pub enters_last :
    {P R : List Entry → Type 0} {l m n : ℕ} (e : Entry) → Enters P l m → n ≡ enter m e →
    ((es : List Entry) → P es → R (es ++ (e ∷ []))) → Enters R l n
enters_last {P} {R} e p q f =
    enters_then p (enters_one {P = λ es. es ≡ e ∷ []} e q refl)
    (λ a b h k. subst (λ (x : List Entry). R (a ++ x)) (sym k) (f a h))

-- first one entry, then those
pub enters_first :
    {Q R : List Entry → Type 0} {l m n : ℕ} (e : Entry) → m ≡ enter l e → Enters Q m n →
    ((es : List Entry) → Q es → R (e ∷ es)) → Enters R l n
enters_first {Q} {R} e p q f =
    enters_then (enters_one {P = λ es. es ≡ e ∷ []} e p refl) q
    (λ a b k h. subst (λ (x : List Entry). R (x ++ b)) (sym k) (f b h))

-- what the entries of two lists hand out, and what they take in, is what those of the first do, and then the second
pub handed_append : (a b : List Entry) → handed (a ++ b) ≡ handed a ++ handed b
unfolding handed
handed_append [] b = refl
handed_append (e ∷ a) b =
    ap (λ (x : List ℕ). handed_by e ++ x) (handed_append a b) ∙ rw append_assoc

pub input_append : (a b : List Entry) → input_of (a ++ b) ≡ input_of a ++ input_of b
unfolding input_of
input_append [] b = refl
input_append (e ∷ a) b =
    ap (λ (x : List ℕ). given_by e ++ x) (input_append a b) ∙ rw append_assoc
