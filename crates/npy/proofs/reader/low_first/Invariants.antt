use Rattle.std.proofs.Common.{◌≡◌, ◌-◌, ◌^◌, ◌<◌, take, drop}
use Rattle.npy.specs.Header.{low_first}
use Rattle.npy.proofs.reader.low_first.Given as goal

abbrev pub invariant-loop-i : goal.invariant-loop-i
invariant-loop-i l = (l.v ≡ low_first (take (l.w - l.i) (drop l.i l.s))) × (l.v < 256 ^ (l.w - l.i))
