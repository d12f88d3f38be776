use mathlib.Core.Path.{ap, ◌∙◌}
use native.Mathlib.Omega.{arith}
use lib.ListN.{length, length-set}
use lib.Seq.{length-sets}
use Rattle.npy.specs.PackedDigits.{unpacked_more, unpacked_done}
use Rattle.npy.proofs.writer.join_digits.Goals as goal

pub loop-i-preserved : goal.loop-i-preserved
loop-i-preserved c =
    let at = c.loop-i in (
      unpacked_more _ _ _ _ _ _ _ _ c.loop-i-test.true c.put_four.ensures c.put_four-in-loop-i.ensures ∙ at.invariant.0,
      simp length-set (ap length c.put_four-in-loop-i.ensures ∙ simp length-sets (ap length c.put_four.ensures ∙ simp length-sets at.invariant.1)),
      omega arith,
    )

pub returns : goal.returns
returns c = unpacked_done _ _ _ _ _ _ c.loop-i-test.false ∙ c.loop-i.invariant.0
