-- What is claimed of the call that says why a rule missed, and of the program `why`, holds.
use Prim.Native.Nat.{ℕ}
use mathlib.Core.Path.{◌≡◌, refl, sym}
use mathlib.Core.List.{List}
use Rattle.refusals.specs.Verdict.{Fine}
use Rattle.fields.specs.Headers.{Legal}
use Rattle.rules.specs.Good.{list_verdict}
use Rattle.rules.proofs.Comparing.{five_iff, five_iff_listed, lower_iff, no_rule_iff}
use Rattle.rule_file.proofs.Pieces.{rules_line, acl_line}
use Rattle.console.proofs.Searching.{miss_found, miss_refused}
use Rattle.claims.specs.Misses.{Misses, Why}

pub misses_claim : (rs h : List ℕ) (n : ℕ) → list_verdict rs ≡ Fine → Legal h → Misses rs h n
misses_claim rs h n fine legal =
    record {
      five = five_iff rs h n fine legal;
      listed = five_iff_listed rs h n fine legal;
      lower = lower_iff rs h n fine legal;
      no_rule = no_rule_iff rs h n fine legal;
    }

pub why_claim : (rs : List ℕ) (n : ℕ) → Why rs n
why_claim rs n =
    record {
      says = λ h f p. sym (miss_found rs h n p refl);
      refuses = λ h why p. sym (miss_refused rs h n p refl);
      own_words = rules_line rs n;
      with_action = acl_line rs n;
    }
