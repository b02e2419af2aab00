-- `text::cursor::Cursor::word` meets its contract: a word is read where it stands in front. Assumes nothing.
use native.Mathlib.Omega.{arith}
use Prim.Native.Nat.{◌≤◌}
use mathlib.Core.Path.{refl, sym, ap, ◌∙◌}
use lib.ListN.{length, length-drop}
use lib.Seq.{drop-drop}
use Rattle.std.proofs.lemmas.List.{take_rest}
use Rattle.text.specs.Numbers.{got}
use Rattle.text.specs.Cursors.{word_at}
use Rattle.text.proofs.Scanning.{word_front, word_apart}
use Rattle.text.proofs.Answers.{word_answer, word_refusal}
use Rattle.text.proofs.cursor.Cursor.word.Goals as goal

pub returns-then-not-starts_with : goal.returns-then-not-starts_with
unfolding word_at
returns-then-not-starts_with c =
    let e = sym c.starts_with.ensures.value ∙ c.if-not-starts_with.true in
    word_refusal _ _ (word_apart _ _ (rw take_rest at e)) c.wrong.ensures

pub returns : goal.returns
unfolding word_at
returns c =
    let e = sym c.starts_with.ensures.value ∙ c.if-not-starts_with.false in
    let fits : length c.args.word.now ≤ _ = c.if-not-starts_with.ensures.bound refl in
    word_answer _ _
    (word_front _ _ (rw take_rest at e) ∙
    ap (got tt) (drop-drop (length c.args.word.now) c.args.self.at c.args.text.now))
    (omega (arith, simp (take_rest, length-drop) at fits))
