use Rattle.std.proofs.Common.{◌≡◌, ◌+◌, ◌-◌, ◌*◌, ◌^◌, ◌≤◌, take, drop}
use Rattle.npy.specs.Text.{decimal}
use Rattle.npy.proofs.reader.decimal.Given as goal

abbrev pub invariant-loop-x : goal.invariant-loop-x
invariant-loop-x l = (decimal l.v (drop l.x-index (take (l.end - l.at) (drop l.at l.s))) ≡ decimal 0 (take (l.end - l.at) (drop l.at l.s))) × (l.v + 23 ≤ 23 * 10 ^ l.x-index)
