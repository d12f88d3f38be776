use Rattle.std.proofs.Common.{◌∙◌, ◌*◌}
use Rattle.trace.specs.StartLaws.{opening_next, opening_done, opening_start}
use Rattle.trace.proofs.opening.opened.Goals as goal

pub loop-lane-init : goal.loop-lane-init
loop-lane-init c = opening_start _ _ _ c.fresh-bank.ensures

pub loop-lane-preserved : goal.loop-lane-preserved
loop-lane-preserved c = rw c.step.ensures (opening_next c.args.settings.now _ c.loop-lane.lane c.loop-lane.bank _ c.loop-lane-test.true c.open_at.ensures ∙ c.loop-lane.invariant)

pub returns : goal.returns
returns c = opening_done c.args.settings.now c.args.k c.loop-lane.lane (c.loop-lane.lane * 20) c.loop-lane.bank c.loop-lane-test.false ∙ c.loop-lane.invariant
