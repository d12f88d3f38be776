use lib.Ieee.{of_bits}
use Rattle.airframe.specs.Airframe.{good_sum}
use Rattle.airframe.proofs.good_sum.Goals as goal

pub returns-then-s : goal.returns-then-s
unfolding good_sum of_bits
returns-then-s c = simp c.if-s.true
