-- `rules::line::scan_count` meets its contract
use Rattle.rules.specs.Scan.{scan_count}
use Rattle.rules.proofs.line.scan_count.Goals as goal

pub returns : goal.returns
unfolding scan_count
returns c = c.min.ensures
