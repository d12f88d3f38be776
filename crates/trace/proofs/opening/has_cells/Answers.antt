use mathlib.Core.Path.{ap}
use lib.Dec.{ltb}
use Rattle.trace.proofs.opening.has_cells.Goals as goal

pub returns : goal.returns
returns c = ap (ltb 0) c.width.ensures
