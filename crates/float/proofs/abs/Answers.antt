use mathlib.Core.Path.{◌∙◌}
use Rattle.float.proofs.Ties.{abs_zero, abs_turns}
use Rattle.float.proofs.abs.Goals as goal

pub returns-then-x : goal.returns-then-x
returns-then-x c = abs_zero _ c.well_formed.0.1 c.if-x.true

pub returns-else-x : goal.returns-else-x
returns-else-x c = c.turned-y.ensures ∙ abs_turns _ c.if-x.false
