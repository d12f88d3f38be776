use mathlib.Core.Path.{◌∙◌}
use native.Mathlib.Omega.{arith}
use lib.ListN.{length-set}
use Rattle.npy.specs.PackedDigits.{packed_more, packed_done}
use Rattle.npy.proofs.writer.find_digits.Goals as goal

pub loop-i-preserved : goal.loop-i-preserved
loop-i-preserved c =
    let at = c.loop-i in (
      packed_more _ _ _ _ _ _ c.loop-i-test.true c.to_bits-v.ensures c.four_digits.ensures c.four_digits-in-loop-i.ensures ∙ at.invariant.0,
      simp length-set at.invariant.1,
      omega arith,
    )

pub returns : goal.returns
returns c = packed_done _ _ _ c.loop-i-test.false ∙ c.loop-i.invariant.0
