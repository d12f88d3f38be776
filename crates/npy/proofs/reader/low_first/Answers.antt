use Rattle.std.proofs.Common.{ℕ, ◌+◌, ◌*◌, ap, ◌∙◌, arith}
use Rattle.std.proofs.Math.Nat.{sub_self}
use Rattle.npy.specs.HeaderLaws.{low_more, low_none, low_all, byte_more, low_fits}
use Rattle.npy.proofs.reader.low_first.Goals as goal

pub loop-i-init : goal.loop-i-init
loop-i-init c = (low_none c.args.s.now c.args.w, rw (sub_self c.args.w) (omega arith))

pub overflow_mul-v : goal.overflow_mul-v
overflow_mul-v c = omega (arith, low_fits _ _ _ c.loop-i-test.true c.requires c.loop-i.invariant.1)

pub overflow_add-v : goal.overflow_add-v
overflow_add-v c = omega (arith, low_fits _ _ _ c.loop-i-test.true c.requires c.loop-i.invariant.1, c.from.ensures)

pub loop-i-preserved : goal.loop-i-preserved
loop-i-preserved c = (
  ap (λ (x : ℕ). c.loop-i.v * 256 + x) (c.from.ensures ∙ c.byte_at.ensures) ∙ low_more c.args.s.now c.args.w c.loop-i.i c.loop-i.v c.loop-i-test.true c.loop-i.auto.i c.loop-i.invariant.0,
  byte_more _ _ _ _ c.loop-i-test.true c.loop-i.auto.i c.loop-i.invariant.1 (omega (arith, c.from.ensures)),
)

pub returns : goal.returns
returns c = low_all _ _ _ _ c.loop-i-test.false c.loop-i.invariant.0 c.loop-i.invariant.1
