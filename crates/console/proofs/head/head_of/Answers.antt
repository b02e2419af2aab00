-- `console::head::head_of` meets its contract: the octets are tested, and the addresses made of them. Assumes nothing.
use Rattle.facts.proofs.Bools.{held, failed}
use Rattle.console.proofs.Heads.{source_fails, destination_fails, octets_fit_lem}
use Rattle.console.proofs.head.head_of.Goals as goal

pub returns-then-not-octets_fit : goal.returns-then-not-octets_fit
returns-then-not-octets_fit c = source_fails _ (failed c.octets_fit.ensures c.if-not-octets_fit.true)

pub returns-then-not-octets_fit-2 : goal.returns-then-not-octets_fit-2
returns-then-not-octets_fit-2 c = destination_fails _ (held c.octets_fit.ensures c.if-not-octets_fit.false)
    (failed c.octets_fit-2.ensures c.if-not-octets_fit-2.true)

pub returns : goal.returns
returns c = octets_fit_lem _ (held c.octets_fit.ensures c.if-not-octets_fit.false)
    (held c.octets_fit-2.ensures c.if-not-octets_fit-2.false) c.address_of-source.ensures
    c.address_of-destination.ensures
