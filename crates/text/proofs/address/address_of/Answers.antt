-- `text::address::address_of` meets its contract: octets make an address that fits. Assumes nothing.
use native.Mathlib.Omega.{arith}
use mathlib.Core.Path.{sym, ◌∙◌}
use Rattle.text.specs.Addresses.{address_of}
use Rattle.text.proofs.Addresses.{octets_most}
use Rattle.text.proofs.address.address_of.Goals as goal

pub overflow_cast-a : goal.overflow_cast-a
overflow_cast-a c = omega (arith, octets_most _ _ _ _ (sym c.octets_fit.ensures ∙ c.if-octets_fit.true))

pub overflow_cast-b : goal.overflow_cast-b
overflow_cast-b c = omega (arith, octets_most _ _ _ _ (sym c.octets_fit.ensures ∙ c.if-octets_fit.true))

pub overflow_cast-c : goal.overflow_cast-c
overflow_cast-c c = omega (arith, octets_most _ _ _ _ (sym c.octets_fit.ensures ∙ c.if-octets_fit.true))

pub overflow_cast-d : goal.overflow_cast-d
overflow_cast-d c = omega (arith, octets_most _ _ _ _ (sym c.octets_fit.ensures ∙ c.if-octets_fit.true))

pub returns-then-octets_fit : goal.returns-then-octets_fit
unfolding address_of
returns-then-octets_fit c =
    rw (sym c.octets_fit.ensures ∙ c.if-octets_fit.true) (omega (arith, c.from_be_bytes.ensures))

pub returns : goal.returns
unfolding address_of
returns c = rw (sym c.octets_fit.ensures ∙ c.if-octets_fit.false)
