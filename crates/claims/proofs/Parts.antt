-- What is claimed of the part check holds.
use mathlib.Core.Path.{sym, ◌∙◌}
use Rattle.refusals.proofs.Order.{then_fine}
use Rattle.tree_check.proofs.FormedSoFar.{accepts_iff_so_far}
use Rattle.tree_check.proofs.PartChecks.{count_refused}
use Rattle.tree_check.proofs.PartMalformed.{malformed_iff_not_so_far}
use Rattle.tree_check.proofs.GoingOn.{fine_iff_may_go_on, eight_iff_lacks_so_far, accepted_goes_on}
use Rattle.claims.specs.Parts.{PartCheck}

pub part_check_claim : PartCheck
part_check_claim =
    record {
      walk = λ rs ns es k b i e first. (
        λ t.
            (accepts_iff_so_far rs ns es k b i e first).0
            (record { cuts = t.0; longest = t.1; lack = t.2; says = t.3 }),
        λ s. let a = (accepts_iff_so_far rs ns es k b i e first).1 s in (a.cuts, a.longest, a.lack, a.says),
      );
      fine = fine_iff_may_go_on;
      eight_at = eight_iff_lacks_so_far;
      other_count = λ rs n ns es l s q. sym (count_refused rs n ns es (then_fine _ l ∙ s) q);
      malformed = malformed_iff_not_so_far;
      accepted_tree = accepted_goes_on;
    }
