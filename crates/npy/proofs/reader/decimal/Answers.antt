use Rattle.std.proofs.Common.{◌∙◌}
use Rattle.npy.specs.TextLaws.{decimal_on, decimal_over, tens_on}
use Rattle.npy.proofs.reader.decimal.Goals as goal

pub loop-x-preserved : goal.loop-x-preserved
loop-x-preserved c = (decimal_on _ _ _ _ c.loop-x-test.true c.digit.ensures.0 ∙ c.loop-x.invariant.0, tens_on _ _ _ c.loop-x.invariant.1 c.digit.ensures.1)

pub returns : goal.returns
returns c = decimal_over _ _ _ c.loop-x-test.false ∙ c.loop-x.invariant.0
