use Rattle.std.proofs.Common.{◌≡◌, ◌*◌, ◌++◌, take, drop}
use Rattle.airframe.specs.Airframe.{entries}
use Rattle.airframe.proofs.divide.Given as goal

abbrev pub invariant-loop-i : goal.invariant-loop-i
invariant-loop-i l = take (4 * l.i) l.out ++ entries l.s (drop l.i l.motors) ≡ entries l.s l.motors
