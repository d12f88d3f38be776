use Rattle.std.proofs.Common.{◌≡◌, drop}
use Rattle.airframe.specs.Airframe.{sums, sums_of}
use Rattle.airframe.proofs.row_sums.Given as goal

abbrev pub invariant-loop-motor : goal.invariant-loop-motor
invariant-loop-motor l = sums l.s (drop l.motor-index l.motors) ≡ sums_of l.motors
