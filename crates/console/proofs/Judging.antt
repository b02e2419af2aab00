-- What is asked of headers. The list is judged once: what then answers them, and that it answers each header as if the
-- list were judged for that one.
use Rattle.std.specs.Prelude.{Ok, Result}
use Rattle.refusals.specs.declared.Refusal.{Refusal}
use Prim.Native.Nat.{ℕ}
use mathlib.Core.Bool.{Bool, true, false}
use mathlib.Core.Path.{◌≡◌, refl, ap, ◌∙◌, subst, fun_ext}
use mathlib.Core.List.{List}
use Rattle.refusals.specs.Verdict.{Verdict}
use Rattle.refusals.specs.Verdict.{Fine, Refused}
use Rattle.refusals.proofs.Order.{then_fine, then_refused}
use Rattle.rules.specs.Good.{list_verdict}
use Rattle.rules.specs.Scan.{scan_verdict}
use Rattle.rules.specs.LineAll.{all_verdict}
use Rattle.rules.proofs.Searches.{scanned_of_good}
use Rattle.console.specs.declared.gather.Gathering.{Gathering}
use Rattle.console.specs.declared.feed.Fed.{Fed}
use Rattle.console.specs.declared.judge.By.{By}
use Rattle.console.specs.declared.judge.By.TheVariants as by
use Rattle.console.specs.declared.judge.Ask.{Ask}
use Rattle.console.specs.declared.judge.Ask.TheVariants as ask
use Rattle.console.specs.Replies.{search_verdict, search_list, answer_of, answer_to, line_reply}
use Rattle.console.specs.MissLines.{miss_answer}
use Rattle.console.specs.Judged.{on_verdict, by_of, verdict_by, list_by, answer_by, answer_asked}
use Rattle.console.specs.Feeding.{IsFed}

module _ (rs : List ℕ) {t : Bool} where
  -- a tree that was accepted answers
  pub tree_serves : t ≡ true → Ok by.Tree ≡ by_of t rs
  unfolding by_of
  tree_serves e = rw e

  -- else the verdict on the list decides
  pub list_serves : {v : Verdict} → t ≡ false → list_verdict rs ≡ v → on_verdict v ≡ by_of t rs
  unfolding by_of
  list_serves e f = rw (e, f)

module _ (rs nodes pool : List ℕ) where
  by_verdict :
      (h : List ℕ) (v : Verdict) → list_verdict rs ≡ v →
      answer_by (on_verdict v) rs nodes pool h ≡ answer_to false rs nodes pool h
  unfolding answer_by verdict_by list_by answer_to search_verdict search_list answer_of all_verdict scan_verdict
  by_verdict h Fine e = rw (then_fine _ e, scanned_of_good rs h e)
  by_verdict h (Refused why) e = rw (then_refused _ e)

  judged_answer : (t : Bool) (h : List ℕ) → answer_by (by_of t rs) rs nodes pool h ≡ answer_to t rs nodes pool h
  unfolding by_of answer_by verdict_by list_by answer_to search_verdict search_list
  judged_answer true h = refl
  judged_answer false h = by_verdict h (list_verdict rs) refl

  module _ {a : Ask} (h : List ℕ) where
    -- which rules match is answered by what answers
    pub asked_matches :
        {b : Result By Refusal} → a ≡ ask.Matches b → answer_by b rs nodes pool h ≡ answer_asked a rs nodes pool h
    unfolding answer_asked
    asked_matches e = rw e

    -- why a rule misses, by that rule
    pub asked_misses : {n : ℕ} → a ≡ ask.Misses n → miss_answer rs n h ≡ answer_asked a rs nodes pool h
    unfolding answer_asked
    asked_misses e = rw e

  module _ {b : Result By Refusal} (t : Bool) (e : b ≡ by_of t rs) where
    same_answers : answer_asked (ask.Matches b) rs nodes pool ≡ answer_to t rs nodes pool
    unfolding answer_asked
    same_answers = ap (λ (x : Result By Refusal). answer_by x rs nodes pool) e ∙ fun_ext (judged_answer t)

    -- a line gets the same reply as if the list were judged for it
    pub judged_reply :
        (k : ℕ) (l : List ℕ) →
        line_reply (answer_asked (ask.Matches b) rs nodes pool) k l ≡ line_reply (answer_to t rs nodes pool) k l
    judged_reply k l = ap (λ (f : List ℕ → List ℕ). line_reply f k l) same_answers

    -- and a piece of input gets the same replies as if the list were judged for each line
    pub judged_fed :
        {g : Gathering} {bs before : List ℕ} {r : Fed} {new : List ℕ} →
        IsFed (answer_asked (ask.Matches b) rs nodes pool) g bs before r new →
        IsFed (answer_to t rs nodes pool) g bs before r new
    judged_fed {g} {bs} {before} {r} {new} p =
        subst (λ (f : List ℕ → List ℕ). IsFed f g bs before r new) same_answers p
