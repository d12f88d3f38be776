use Rattle.func.specs.Func.{above, fall, rise, call_wrap_by}
use mathlib.Core.Path.{◌≡◌}
use Prim.Native.Nat.{◌≤◌, ◌-◌}
use Rattle.func.proofs.wrap_by.Given as goal

abbrev pub invariant-loop-n : goal.invariant-loop-n
invariant-loop-n l = (l.steps ≤ 64) × (call_wrap_by (above l.closed) l.num l.min l.max ≡ rise (above l.closed l.max) (64 - l.steps) l.steps l.n l.min l.width)

abbrev pub decreases-loop-n : goal.decreases-loop-n
decreases-loop-n l = 64 - l.steps

abbrev pub invariant-loop-num : goal.invariant-loop-num
invariant-loop-num l = (l.steps ≤ 64) × (call_wrap_by (above l.closed) l.num l.min l.max ≡ fall (above l.closed l.max) (64 - l.steps) l.steps l.n l.width)

abbrev pub decreases-loop-num : goal.decreases-loop-num
decreases-loop-num l = 64 - l.steps
