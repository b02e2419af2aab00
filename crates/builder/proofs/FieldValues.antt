-- The cut values of a field as the code finds them: the ends of the boxes met that divide the box, sorted.
use Prim.Native.Nat.{ℕ, ◌/◌, ◌≤◌, ◌<◌}
use native.Mathlib.Omega.{arith}
use mathlib.Core.Bool.{true}
use mathlib.Core.Path.{◌≡◌, refl, sym, ap, ◌∙◌}
use mathlib.Core.Logic.{◌↔◌}
use mathlib.Core.List.{List, ◌++◌}
use lib.ListN.{length, get_or, take, get_or-append}
use lib.Seq.{length-sets, length-take-le, get_or-take}
use Rattle.facts.specs.Lists.{up_from, keep, has}
use Rattle.facts.proofs.Members.{has_of_kept, up_iff, kept_iff}
use Rattle.facts.proofs.Setting.{written_front}
use Rattle.facts.proofs.Sets.{sets_front}
use Rattle.facts.proofs.Rising.{rising_ext}
use Rattle.facts.proofs.Distinct.{rising_no_longer}
use Rattle.facts.proofs.Filling.{keep_at_most}
use Rattle.fields.specs.Words.{field_count}
use Rattle.fields.specs.Cuts.{divides}
use Rattle.fields.proofs.Cuts.{divides_iff}
use Rattle.built.specs.Boxes.{meeting}
use Rattle.built.specs.CutValues.{cuts_at, cut_values}
use Rattle.builder.specs.BoxWords.{box_count, boxes_in}
use Rattle.builder.specs.Sorting.{SortedOnce}
use Rattle.builder.specs.ChoiceSteps.{all_ends, most_values, Stored, Met, ValuesFound}
use Rattle.builder.proofs.BoxWords.{box_count_lem}
use Rattle.facts.proofs.Places.{has_at}
use Rattle.built.proofs.CutValues.{cut_value_iff, cut_values_rise}
use Rattle.builder.proofs.Ends.{all_ends_at_most, ends_some}

-- the number of a box that meets a box is below the number of boxes
meeting_under :
    (ws : List ℕ) (b : List (List ℕ)) (r : ℕ) → has (meeting field_count (boxes_in ws) b) r ≡ true → r < box_count ws
unfolding meeting
meeting_under ws b r e =
    rw (← box_count_lem ws) ((up_iff (length (boxes_in ws)) r).0 (has_of_kept _ (up_from 0 (length (boxes_in ws))) r e).0)

module _ {ws met : List ℕ} {b : List (List ℕ)} (m : Met ws met b) where
  -- each box met is one of the boxes
  pub met_under : (r : ℕ) → has met r ≡ true → r < box_count ws
  met_under r e = meeting_under ws b r (rw m.is at e)

  -- so is the box at each place
  pub met_under_at : (i : ℕ) → i < length met → get_or met i 0 < box_count ws
  met_under_at i l = met_under (get_or met i 0) (has_at met i l)

  module _ (f : ℕ) where
    -- there is room for the ends that divide the box
    pub ends_fit : length (keep (divides b f) (all_ends ws f met)) ≤ most_values
    ends_fit =
        omega (arith, keep_at_most (divides b f) (all_ends ws f met), all_ends_at_most ws f met, m.few)

    module _ (k : f < field_count) where
      -- a number is an end of the boxes met exactly where the box is cut there
      ends_cut : (v : ℕ) → has (all_ends ws f met) v ≡ cuts_at field_count (boxes_in ws) b f v
      unfolding cuts_at
      ends_cut v = rw (← m.is) (ends_some ws f v k met met_under)

      -- the ends that divide the box are its cut values
      pub ends_iff_cut_value :
          (v : ℕ) →
          (has (keep (divides b f) (all_ends ws f met)) v ≡ true) ↔
          (has (cut_values field_count (boxes_in ws) b f) v ≡ true)
      ends_iff_cut_value v = (
        λ e.
            let t = (kept_iff (divides b f) (all_ends ws f met) v).0 e in
            let d = (divides_iff b f v).0 t.1 in
            (cut_value_iff field_count (boxes_in ws) b f v).1 (d.0, d.1, sym (ends_cut v) ∙ t.0),
        λ e.
            let t = (cut_value_iff field_count (boxes_in ws) b f v).0 e in
            (kept_iff (divides b f) (all_ends ws f met) v).1 (ends_cut v ∙ t.2, (divides_iff b f v).1 (t.0, t.1)),
      )

      -- sorted, each once, they are the cut values
      sorted_cut_values :
          {before after : List ℕ} {n : ℕ} → before ≡ keep (divides b f) (all_ends ws f met) → SortedOnce before n after →
          take n after ≡ cut_values field_count (boxes_in ws) b f
      sorted_cut_values {before} {after} {n} e s =
          rising_ext 0 (take n after) (cut_values field_count (boxes_in ws) b f) s.rising
          (cut_values_rise field_count (boxes_in ws) b f)
          (λ y h. (ends_iff_cut_value y).0 (ap (λ (l : List ℕ). has l y) (sym e) ∙ (sym (s.same y) ∙ h)))
          (λ y h. s.same y ∙ (ap (λ (l : List ℕ). has l y) e ∙ (ends_iff_cut_value y).1 h))

    module _
        {words after : List ℕ} {n : ℕ} (s : Stored words 0 (keep (divides b f) (all_ends ws f met)) n after)
        (room : most_values ≤ length words)
      where
        -- there are no more ends than there is room for
        pub stored_few : n ≤ most_values
        stored_few = omega (arith, s.counts, ends_fit)

        -- the lent words stay as many
        pub stored_size : length after ≡ length words
        stored_size = ap length s.stores ∙ length-sets words 0 (keep (divides b f) (all_ends ws f met))

        -- the ends that divide the box stand in front
        stored_front : take n after ≡ keep (divides b f) (all_ends ws f met)
        stored_front =
            let new : List ℕ = keep (divides b f) (all_ends ws f met) in
            rw (s.stores, sets_front words new (omega (arith, ends_fit)))
            (written_front new words n (omega (arith, s.counts)))

        -- there are no more cut values than ends
        pub values_few : f < field_count → length (cut_values field_count (boxes_in ws) b f) ≤ n
        values_few k =
            omega (
              arith,
              s.counts,
              rising_no_longer 0 (cut_values field_count (boxes_in ws) b f) (keep (divides b f) (all_ends ws f met))
                  (cut_values_rise field_count (boxes_in ws) b f) (λ y h. (ends_iff_cut_value k y).1 h),
            )

        -- sorted, each once, they tell how many cut values there are, and which is the middle one
        pub values_found :
            (k : f < field_count) {sorted : List ℕ} {count : ℕ} (rest : List ℕ) →
            SortedOnce (take n after) count sorted →
            ValuesFound (cut_values field_count (boxes_in ws) b) f
            (record { field = f; count = count; middle = get_or (sorted ++ rest) (count / 2) 0 })
        values_found k {sorted} {count} rest q =
            let e : take count sorted ≡ cut_values field_count (boxes_in ws) b f = sorted_cut_values k stored_front q in
            record {
              of_field = refl;
              counts = sym (length-take-le count sorted q.within) ∙ ap length e;
              halves =
                  λ l.
                  get_or-append sorted rest 0 (count / 2) (omega (arith, q.within)) ∙
                  (sym (get_or-take count sorted (count / 2) 0 (omega arith)) ∙
                  ap (λ (l : List ℕ). get_or l (count / 2) 0) e);
            }
