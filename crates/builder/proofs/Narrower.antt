-- The boxes that meet a box: their numbers; and since a box that lies in another meets no more, those that meet a part
-- of a box are among those that meet the box.
use Prim.Native.Nat.{ℕ, ◌≤◌}
use native.Mathlib.Omega.{arith}
use mathlib.Core.Bool.{true}
use mathlib.Core.Path.{◌≡◌}
use mathlib.Core.List.{List}
use lib.ListN.{length}
use Rattle.facts.specs.Lists.{up_from, keep, all_under}
use Rattle.facts.proofs.Steps.{length_up}
use Rattle.facts.proofs.Members.{has_of_kept, up_iff}
use Rattle.facts.proofs.Keeping.{keep_keep}
use Rattle.facts.proofs.Under.{all_under_iff_has}
use Rattle.facts.proofs.Filling.{keep_at_most}
use Rattle.fields.specs.Words.{field_count}
use Rattle.fields.specs.Boxes.{Pairs, meets}
use Rattle.fields.specs.Cuts.{left_part, right_part}
use Rattle.fields.proofs.Boxes.{overlap_iff}
use Rattle.fields.proofs.Parts.{Within, left_within, right_within}
use Rattle.built.specs.Boxes.{meeting}
use Rattle.builder.specs.BoxWords.{box_count, boxes_in, met_by}
use Rattle.builder.proofs.BoxWords.{box_count_lem}

-- a box that meets a box meets each box around that one
pub narrower_meets :
    (n : ℕ) (a b d : List (List ℕ)) → Within n d b → meets n a d ≡ true → meets n a b ≡ true
narrower_meets n a b d w e =
    (overlap_iff n a b).1
    (λ f l.
    let o = (overlap_iff n a d).0 e f l in
    let h = w f l in
    (omega arith, omega arith))

module _ (ws : List ℕ) where
  -- the boxes that meet a box are kept by `met_by` of all their numbers
  pub meeting_keep :
      (b : List (List ℕ)) → meeting field_count (boxes_in ws) b ≡ keep (met_by ws b) (up_from 0 (box_count ws))
  unfolding meeting met_by
  meeting_keep b = rw (box_count_lem ws)

  -- the boxes that meet a box have numbers below the number of boxes
  pub meeting_under : (b : List (List ℕ)) → all_under (box_count ws) (meeting field_count (boxes_in ws) b) ≡ true
  meeting_under b =
      let all = up_from 0 (box_count ws) in
      rw (meeting_keep b)
      ((all_under_iff_has (box_count ws) (keep (met_by ws b) all)).1
      (λ r h. (up_iff (box_count ws) r).0 (has_of_kept (met_by ws b) all r h).0))

  -- no more boxes meet a box than there are
  pub meeting_few : (b : List (List ℕ)) → length (meeting field_count (boxes_in ws) b) ≤ box_count ws
  meeting_few b =
      let all = up_from 0 (box_count ws) in
      rw (meeting_keep b) (omega (arith, keep_at_most (met_by ws b) all, length_up (box_count ws) 0))

  -- of those that meet a box, those that meet a box within it are all that meet that one
  pub meeting_within :
      (b d : List (List ℕ)) → Within field_count d b →
      keep (met_by ws d) (meeting field_count (boxes_in ws) b) ≡ meeting field_count (boxes_in ws) d
  unfolding met_by
  meeting_within b d w =
      rw (meeting_keep b, meeting_keep d)
      (keep_keep (met_by ws b) (met_by ws d) (up_from 0 (box_count ws)) (λ r h e. narrower_meets field_count _ b d w e))

  module _ (b : List (List ℕ)) (p : Pairs field_count b) (f v : ℕ) where
    -- of those that meet a box, those that meet its left part are all that meet that part
    pub meeting_left :
        keep (met_by ws (left_part b f v)) (meeting field_count (boxes_in ws) b) ≡
        meeting field_count (boxes_in ws) (left_part b f v)
    meeting_left = meeting_within b (left_part b f v) (left_within field_count b p f v)

    -- of those that meet a box, those that meet its right part are all that meet that part
    pub meeting_right :
        keep (met_by ws (right_part b f v)) (meeting field_count (boxes_in ws) b) ≡
        meeting field_count (boxes_in ws) (right_part b f v)
    meeting_right = meeting_within b (right_part b f v) (right_within field_count b p f v)
