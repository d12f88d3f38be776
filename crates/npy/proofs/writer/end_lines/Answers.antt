use Rattle.std.proofs.Common.{◌∙◌}
use Rattle.std.proofs.Math.ListN.{length-set}
use Rattle.npy.specs.LineMakingLaws.{ends_on, ends_over, ends_fit}
use Rattle.npy.proofs.writer.end_lines.Goals as goal

pub loop-line-preserved : goal.loop-line-preserved
loop-line-preserved c =
    let at = c.loop-line in
    (ends_on _ _ _ _ _ c.loop-line-test.true ∙ at.invariant.0, simp length-set at.invariant.1, ends_fit _ _ _ _ _ c.loop-line-test.true at.invariant.2)

pub returns : goal.returns
returns c = ends_over _ _ _ _ _ c.loop-line-test.false ∙ c.loop-line.invariant.0
