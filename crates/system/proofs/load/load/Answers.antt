-- `system::load::load` meets its contract: the file is opened, read on, and closed. Assumes nothing.
use mathlib.Core.Path.{sym, ap, ◌∙◌}
use Rattle.ledger.specs.Reads.{is_open}
use Rattle.ledger.specs.Ledger.{opened}
use Rattle.ledger.proofs.Entering.{enters_one}
use Rattle.system.specs.Files.{unopened}
use Rattle.system.proofs.Loading.{file_loaded}
use Rattle.system.proofs.load.load.Goals as goal

pub returns-then-not-is_open : goal.returns-then-not-is_open
returns-then-not-is_open c = enters_one (opened _ _) c.open_file-from.ensures (unopened (ap is_open (sym c.descriptor.ensures) ∙ sym c.is_open.ensures ∙ c.if-not-is_open.true))

pub returns : goal.returns
returns c =
    file_loaded _ c.read_on-reads.new.buffer c.read_on-reads.result
    (ap is_open (sym c.descriptor.ensures) ∙ sym c.is_open.ensures ∙ c.if-not-is_open.false) c.file.ensures c.open_file-from.ensures
    c.read_on-reads.ensures c.close_file.ensures
