use Rattle.linear_lut.specs.LinearLut.{within}
use mathlib.Core.Path.{◌≡◌}
use Prim.Native.Nat.{◌-◌}
use Rattle.linear_lut.proofs.within.Given as goal

abbrev pub invariant-loop-i : goal.invariant-loop-i
invariant-loop-i l = within l.points l.i-end 0 l.x ≡ within l.points (l.i-end - l.i) l.i l.x
