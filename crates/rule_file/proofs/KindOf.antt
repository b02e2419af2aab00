-- The kinds: their numbers tell them apart.
use native.Mathlib.Omega.{arith}
use mathlib.Core.Path.{◌≡◌, refl}
use Rattle.rule_file.specs.declared.kind.Kind.{Kind}
use Rattle.rule_file.specs.declared.kind.Kind.TheVariants.{Rules, Acl}
use Rattle.rule_file.specs.Kinds.{kind_number}

-- the kinds have two numbers
pub kinds_apart : (j k : Kind) → kind_number j ≡ kind_number k → j ≡ k
kinds_apart Rules Rules e = refl
kinds_apart Rules Acl e = absurd (omega arith)
kinds_apart Acl Rules e = absurd (omega arith)
kinds_apart Acl Acl e = refl
