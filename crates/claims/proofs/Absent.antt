-- What is claimed of absent ports holds.
use Rattle.fields.proofs.Headers.{legal_iff}
use Rattle.rules.proofs.Absent.{absent_iff}
use Rattle.claims.specs.Absent.{Absent}

pub absent_claim : Absent
absent_claim = record { legal = legal_iff; whole = absent_iff }
