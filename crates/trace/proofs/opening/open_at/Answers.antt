use Rattle.trace.specs.StartLaws.{open_of_cells}
use Rattle.trace.proofs.opening.open_at.Goals as goal

pub returns : goal.returns
returns c = open_of_cells _ _ _ _ _ c.args.settings.now c.args.at c.cell-kp.ensures c.cell-ki.ensures c.cell-kd.ensures c.cell-tau.ensures c.cell-dt.ensures
