-- What comes of a run: what is handed out is what is due.
use Prim.Native.Nat.{ℕ}
use mathlib.Core.Bool.{Bool, true, false}
use mathlib.Core.Path.{◌≡◌, refl, sym, ap, subst, ◌∙◌}
use mathlib.Core.List.{List, [], ◌∷◌, ◌++◌, append_assoc, append-nil}
use mathlib.Core.Option.{Option}
use lib.ListN.{length}
use Rattle.facts.proofs.Bools.{clash}
use Rattle.console.specs.Gathered.{begun, after, answers, last_reply, input_replies}
use Rattle.console.proofs.Pieces.{answers_pieces}
use Rattle.console.proofs.Whole.{whole_input}
use Rattle.ledger.specs.declared.input.Descriptor.{Descriptor}
use Rattle.ledger.specs.declared.input.Got.TheVariants.{Bytes}
use Rattle.ledger.specs.Ledger.{Entry, wrote, handed, input_of}
use Rattle.ledger.proofs.Entering.{handed_append, input_append}
use Rattle.system.specs.Files as files
use Rattle.system.specs.Files.{FileLoaded, ReadSoFar, ReadToEnd}
use Rattle.system.specs.Handing as handing
use Rattle.system.specs.Handing.{HandedOut, Gives}
use Rattle.system.specs.Turns as turns
use Rattle.system.specs.Turns.{AllShort, Unfinished, Turns, InputAnswered}
use Rattle.system.specs.Outcomes.{Hands}

-- ---- files hand out nothing

so_far_silent : {fd : Descriptor} {n : ℕ} {bs : List ℕ} {es : List Entry} → ReadSoFar fd n bs es → handed es ≡ []
unfolding handed
so_far_silent files.none_yet = refl
so_far_silent (files.and_more {es = es} new r a b) = handed_append es _ ∙ rw (so_far_silent r)

to_end_silent :
    {fd : Descriptor} {n : ℕ} {t : Option (List ℕ)} {es : List Entry} → ReadToEnd fd n t es → handed es ≡ []
unfolding handed
to_end_silent (files.whole {es = es} r) = handed_append es _ ∙ rw (so_far_silent r)
to_end_silent (files.failed {es = es} r) = handed_append es _ ∙ rw (so_far_silent r)
to_end_silent (files.too_long {es = es} new r a b) = handed_append es _ ∙ rw (so_far_silent r)

pub file_silent :
    {n : ℕ} {path : List ℕ} {t : Option (List ℕ)} {es : List Entry} → FileLoaded n path t es → handed es ≡ []
unfolding handed
file_silent (files.unopened e) = refl
file_silent (files.as_read {es = es} e r) = handed_append es _ ∙ rw (to_end_silent r)

-- ---- what is handed out at once

handed_out : (bs : List ℕ) (r : Bool) {es : List Entry} → HandedOut bs r es → (handed es ≡ bs) × (input_of es ≡ [])
unfolding handed input_of
handed_out [] r h = rw h.entries (refl, refl)
handed_out (b ∷ bs) r h = rw h.entries (ap (λ (x : List ℕ). b ∷ x) (append-nil bs), refl)

handed_failed : (bs : List ℕ) {es : List Entry} → HandedOut bs false es → es ≡ wrote bs false ∷ []
handed_failed [] h = clash (h.none refl) refl
handed_failed (b ∷ bs) h = h.entries

-- all of it is handed out; it was not written where the call says so
pub hands_out : {bs : List ℕ} {r : Bool} {es : List Entry} → HandedOut bs r es → Hands (λ s. bs) r es
hands_out {bs} {r} {es} h =
    record {
      unwritten = [];
      due = append-nil (handed es) ∙ (handed_out bs r h).0;
      whole = λ e. refl;
      stops = λ e. ([], bs, handed_failed bs (subst (λ (x : Bool). HandedOut bs x es) e h));
    }

-- what is due may be said in another way
pub hands_as :
    {d e : List ℕ → List ℕ} {r : Bool} {es : List Entry} → ((s : List ℕ) → d s ≡ e s) → Hands d r es → Hands e r es
hands_as {es = es} q h =
    record { unwritten = h.unwritten; due = h.due ∙ q (input_of es); whole = h.whole; stops = h.stops }

-- after other entries
pub hands_after :
    {d e : List ℕ → List ℕ} {r : Bool} (es ws : List Entry) →
    handed es ++ e (input_of ws) ≡ d (input_of es ++ input_of ws) → Hands e r ws → Hands d r (es ++ ws)
hands_after {d} {e} es ws q h =
    record {
      unwritten = h.unwritten;
      due =
          ap (λ (x : List ℕ). x ++ h.unwritten) (handed_append es ws) ∙
          append_assoc (handed es) (handed ws) h.unwritten ∙ ap (λ (x : List ℕ). handed es ++ x) h.due ∙ q ∙
          ap d (sym (input_append es ws));
      whole = h.whole;
      stops = λ z.
          let w = h.stops z in
          (es ++ w.0, w.1, ap (λ (x : List Entry). es ++ x) w.2 ∙ sym (append_assoc es w.0 _));
    }

module _ {bs : List ℕ} (d : List ℕ → List ℕ) {ws : List Entry} where
  -- bytes that were written, and then what is due after them
  pub hands_then :
      {r : Bool} (es : List Entry) → HandedOut bs true ws → Hands d r es → Hands (λ s. bs ++ d s) r (ws ++ es)
  hands_then es h k =
      let out = handed_out bs true h in
      hands_after ws es
      (ap (λ (x : List ℕ). x ++ d (input_of es)) out.0 ∙
      ap (λ (x : List ℕ). bs ++ d (x ++ input_of es)) (sym out.1)) k

  -- bytes that were not: what is due after them was not either
  pub hands_no_more : HandedOut bs false ws → Hands (λ s. bs ++ d s) false ws
  hands_no_more h =
      record {
        unwritten = d (input_of ws);
        due = ap (λ (x : List ℕ). x ++ d (input_of ws)) (handed_out bs false h).0;
        whole = λ e. clash e refl;
        stops = λ e. ([], bs, handed_failed bs h);
      }

-- ---- standard input

gives_out : {bs : List ℕ} {es : List Entry} → Gives bs es → (handed es ≡ bs) × (input_of es ≡ [])
unfolding handed input_of
gives_out handing.nothing = (refl, refl)
gives_out (handing.and_more {new = new} {es = es} {ws = ws} g h) =
    let a = gives_out g in let b = handed_out new true h in
    (handed_append es ws ∙ rw (a.0, b.0), input_append es ws ∙ rw (a.1, b.1))

module _ {answer : List ℕ → List ℕ} where
  turns_out :
      {k : ℕ} {s : List ℕ} {es : List Entry} → Turns answer k s es →
      (handed es ≡ answers answer begun s) × (input_of es ≡ s)
  unfolding handed input_of answers
  turns_out turns.none_yet = (refl, refl)
  turns_out (turns.and_more {s = s} p {es = es} {ws = ws} t l g) =
      let a = turns_out t in let b = gives_out g in (
        handed_append es _ ∙ rw (a.0, b.0) (sym (answers_pieces answer begun s p)),
        input_append es _ ∙ rw (a.1, b.1) (ap (λ (x : List ℕ). s ++ x) (append-nil p)),
      )

  unfinished_out :
      {bs : List ℕ} {es : List Entry} → AllShort answer → Unfinished answer bs es →
      (rest : List ℕ) × (handed es ++ rest ≡ bs) × (input_of es ≡ []) ×
      ((ws : List Entry) × (out : List ℕ) × (es ≡ ws ++ (wrote out false ∷ [])))
  unfinished_out short (turns.unfit rest g long) = absurd (long short)
  unfinished_out short (turns.unwritten {bs = bs} {new = new} rest {es = es} {ws = ws} g h) =
      let a = gives_out g in let b = handed_out new false h in (
        rest,
        ap (λ (x : List ℕ). x ++ rest) (handed_append es ws) ∙
            ap (λ (x : List ℕ). (x ++ handed ws) ++ rest) a.0 ∙
            ap (λ (x : List ℕ). (bs ++ x) ++ rest) b.0 ∙ append_assoc bs new rest,
        input_append es ws ∙ ap (λ (x : List ℕ). x ++ input_of ws) a.1 ∙ b.1,
        (es, new, ap (λ (x : List Entry). es ++ x) (handed_failed new h)),
      )

  -- the replies to the bytes that standard input gave
  pub hands_input :
      {r : Bool} {es : List Entry} → AllShort answer → InputAnswered answer r es → Hands (input_replies answer) r es
  unfolding handed input_of
  hands_input short (turns.to_the_end {s = s} {es = es} {ws = ws} {e = e} t z h) =
      let a = turns_out t in
      let last = last_reply (after begun s) in
      let out : handed (es ++ (turns.read_input e [] ∷ [])) ≡ answers answer begun s =
      handed_append es _ ∙ append-nil (handed es) ∙ a.0 in
      let taken : input_of (es ++ (turns.read_input e [] ∷ [])) ≡ s =
      input_append es _ ∙ append-nil (input_of es) ∙ a.1 in
      hands_after (es ++ (turns.read_input e [] ∷ [])) ws
      (ap (λ (x : List ℕ). x ++ last) out ∙ whole_input answer s ∙
      ap (input_replies answer)
      (sym (ap (λ (x : List ℕ). input_of (es ++ (turns.read_input e [] ∷ [])) ++ x) (handed_out last _ h).1 ∙
      append-nil _ ∙ taken))) (hands_out h)
  hands_input short (turns.to_the_most {s = s} {es = es} {ws = ws} t h) =
      let a = turns_out t in
      let last = last_reply (after begun s) in
      hands_after es ws
      (ap (λ (x : List ℕ). x ++ last) a.0 ∙ whole_input answer s ∙
      ap (input_replies answer)
      (sym (ap (λ (x : List ℕ). input_of es ++ x) (handed_out last _ h).1 ∙ append-nil _ ∙ a.1))) (hands_out h)
  hands_input short (turns.to_a_stop {s = s} p {es = es} {ws = ws} t l u) =
      let a = turns_out t in
      let w = unfinished_out short u in
      let last = last_reply (after begun (s ++ p)) in
      let middle = answers answer (after begun s) p in
      record {
        unwritten = w.0 ++ last;
        due =
            ap (λ (x : List ℕ). x ++ (w.0 ++ last)) (handed_append es _) ∙
            ap (λ (x : List ℕ). (x ++ handed ws) ++ (w.0 ++ last)) a.0 ∙
            append_assoc (answers answer begun s) (handed ws) (w.0 ++ last) ∙
            ap (λ (x : List ℕ). answers answer begun s ++ x)
            (sym (append_assoc (handed ws) w.0 last) ∙ ap (λ (x : List ℕ). x ++ last) w.1) ∙
            sym (append_assoc (answers answer begun s) middle last) ∙
            ap (λ (x : List ℕ). x ++ last) (sym (answers_pieces answer begun s p)) ∙ whole_input answer (s ++ p) ∙
            ap (input_replies answer)
            (sym (input_append es _ ∙ ap (λ (x : List ℕ). x ++ (p ++ input_of ws)) a.1 ∙
            ap (λ (x : List ℕ). s ++ (p ++ x)) w.2 ∙ ap (λ (x : List ℕ). s ++ x) (append-nil p)));
        whole = λ e. clash e refl;
        stops = λ e. let z = w.3 in (
          es ++ (turns.read_input (Bytes (length p)) p ∷ z.0),
          z.1,
          ap (λ (x : List Entry). es ++ (turns.read_input (Bytes (length p)) p ∷ x)) z.2 ∙ sym (append_assoc es _ _),
        );
      }
