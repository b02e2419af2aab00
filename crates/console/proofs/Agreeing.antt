-- By a tree that the check accepts every input is replied to as by the list.
use Prim.Native.Nat.{ℕ}
use mathlib.Core.Bool.{true, false}
use mathlib.Core.Path.{◌≡◌, refl, ◌∙◌}
use mathlib.Core.List.{List, [], ◌∷◌}
use mathlib.Core.Option.{Option, none, some}
use Rattle.refusals.specs.Verdict.{Verdict}
use Rattle.refusals.specs.Verdict.{Fine, Refused}
use Rattle.refusals.proofs.Order.{then_fine, then_refused}
use Rattle.fields.specs.Headers.{header_verdict}
use Rattle.rules.specs.Words.{most_rules}
use Rattle.rules.specs.LineAll.{all_verdict}
use Rattle.tree_check.specs.TreeCheck.{check_verdict}
use Rattle.tree_check.proofs.Accepts.{accepted}
use Rattle.tree_check.proofs.Searches.{same_list, same_verdict}
use Rattle.text.specs.Places.{following}
use Rattle.text.specs.Text.{Text, whole, split}
use Rattle.console.specs.Heads.{head_in}
use Rattle.console.specs.Replies.{search_verdict, search_list, answer_of, answer_to, on_head, line_reply}
use Rattle.console.specs.Gathered.{replies, on_text, input_replies}

-- ---- answers that are the same make the same replies

module _ (f g : List ℕ → List ℕ) (same : (h : List ℕ) → f h ≡ g h) where
  alike_by : (k : ℕ) (o : Option (List ℕ)) → on_head f k o ≡ on_head g k o
  alike_by k none = refl
  alike_by k (some h) = same h

  reply_alike : (k : ℕ) (l : List ℕ) → line_reply f k l ≡ line_reply g k l
  unfolding line_reply
  reply_alike k l = alike_by k (head_in l)

  replies_alike : (k : ℕ) (ls : List (List ℕ)) (t : List ℕ) → replies f k ls t ≡ replies g k ls t
  unfolding replies
  replies_alike k [] t = refl
  replies_alike k (l ∷ ls) t = rw (reply_alike k l, replies_alike (following k) ls t)

  text_alike : (x : Text) → on_text f 0 x ≡ on_text g 0 x
  text_alike (whole ls t) = replies_alike 0 ls t

  -- a whole input gets the same replies
  pub input_alike : (s : List ℕ) → input_replies f s ≡ input_replies g s
  unfolding input_replies
  input_alike s = text_alike (split s)

-- ---- by an accepted tree

module _ (rs nodes pool : List ℕ) (ok : check_verdict rs nodes pool ≡ Fine) where
  -- a header gets the answer that it gets by the list
  pub same_answer : (h : List ℕ) → answer_to true rs nodes pool h ≡ answer_to false rs nodes pool h
  unfolding answer_to search_verdict search_list answer_of all_verdict
  same_answer h = go (header_verdict h) refl
    where
      go : (v : Verdict) → header_verdict h ≡ v → answer_to true rs nodes pool h ≡ answer_to false rs nodes pool h
      go Fine k = rw (same_verdict rs nodes pool ok h most_rules, same_list rs nodes pool ok h k)
      go (Refused why) k =
          let line : all_verdict rs h most_rules ≡ Refused why =
          then_fine _ (accepted rs nodes pool ok).2.list ∙ then_refused _ k in
          rw (same_verdict rs nodes pool ok h most_rules, line)

  -- a line gets the reply that it gets by the list
  pub same_reply :
      (k : ℕ) (l : List ℕ) →
      line_reply (answer_to true rs nodes pool) k l ≡ line_reply (answer_to false rs nodes pool) k l
  same_reply = reply_alike (answer_to true rs nodes pool) (answer_to false rs nodes pool) same_answer

  -- and the whole input the replies that it gets by the list
  pub same_replies :
      (s : List ℕ) → input_replies (answer_to true rs nodes pool) s ≡ input_replies (answer_to false rs nodes pool) s
  same_replies = input_alike (answer_to true rs nodes pool) (answer_to false rs nodes pool) same_answer
