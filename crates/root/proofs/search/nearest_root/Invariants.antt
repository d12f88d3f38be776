use Prim.Native.Nat.{◌-◌, ◌*◌, ◌^◌, ◌≤◌, ◌<◌}
use Rattle.root.proofs.search.nearest_root.Given as goal

abbrev pub invariant-loop-lo : goal.invariant-loop-lo
invariant-loop-lo l = (2 ^ 23 ≤ l.lo) × (l.lo < l.hi) × (l.hi ≤ 2 ^ 24) × (l.lo * l.lo ≤ l.n) × (l.n < l.hi * l.hi)

abbrev pub decreases-loop-lo : goal.decreases-loop-lo
decreases-loop-lo l = l.hi - l.lo
