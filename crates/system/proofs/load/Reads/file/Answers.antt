-- `system::load::Reads::file` meets its contract: what the last read gave decides. Assumes nothing.
use mathlib.Core.Path.{sym, ap}
use Rattle.system.specs.Files.{file_by}
use Rattle.system.proofs.load.Reads.file.Goals as goal

pub returns-in-Ended : goal.returns-in-Ended
returns-in-Ended c = ap (file_by c.args.self.done) (sym c.in-Ended.is)
