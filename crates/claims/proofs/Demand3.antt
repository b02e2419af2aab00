-- Demand 3 holds.
use Rattle.tree_check.proofs.Accepts.{accepted, accepts_iff_serves}
use Rattle.tree_check.proofs.Stages.{lack_decides}
use Rattle.tree_check.proofs.Eight.{eight_iff, eight_at_iff}
use Rattle.tree_check.proofs.Answers.{refused_iff, accepted_says, accepted_means}
use Rattle.tree_check.proofs.Answering.{accepted_answers}
use Rattle.tree_check.proofs.LeafFigures.{accepted_leaves}
use Rattle.tree_check.proofs.Malformed.{malformed_iff}
use Rattle.claims.specs.Demand3.{TreeCheck}

pub tree_check_claim : TreeCheck
tree_check_claim =
    record {
      accepts = λ rs ns es. (
        λ t. (accepts_iff_serves rs ns es).0 (lack_decides (accepted_means rs ns es t.2)),
        λ s.
            let t = accepted rs ns es ((accepts_iff_serves rs ns es).1 s) in
            (t.0, t.1, accepted_says rs ns es t.2),
      );
      eight = λ rs ns es. (
        λ t. (eight_iff rs ns es).0 (t.0, t.1, (refused_iff rs ns es).0 t.2),
        λ m. let t = (eight_iff rs ns es).1 m in (t.0, t.1, (refused_iff rs ns es).1 t.2),
      );
      eight_at = λ rs ns es i r. (
        λ p. (eight_at_iff rs ns es i r).0 ((refused_iff rs ns es).0 p),
        λ l. (refused_iff rs ns es).1 ((eight_at_iff rs ns es i r).1 l),
      );
      malformed = malformed_iff;
      searches = λ rs ns es c l p. accepted_answers rs ns es p;
      leaves = accepted_leaves;
    }
