-- `rule_file::record::octets_of` meets its contract: the octets are the bytes as they are, and an address of 32 bits
-- has nothing above the first. Assumes nothing.
use Prim.Native.Nat.{◌/◌, ◌%◌}
use native.Mathlib.Omega.{arith}
use mathlib.Core.Path.{◌≡◌, sym, ap, ◌∙◌}
use lib.ListN.{length}
use Rattle.std.proofs.lemmas.Grind.{same_number_lists}
use Rattle.rule_file.proofs.record.octets_of.Goals as goal

pub returns : goal.returns
returns c =
    let bytes = c.to_be_bytes.ensures in
    let top : c.args.address / 16777216 % 256 ≡ c.args.address / 16777216 = omega arith in
    let long : length c.map.result ≡ 4 = c.map.ensures.items.long in
    same_number_lists _ _ (long ∙ sym (ap length bytes))
    (λ k l. (c.map.ensures.items.at k 0 0 (omega arith)).2.met) ∙
    bytes ∙ rw top
