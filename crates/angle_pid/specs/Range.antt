-- A range of the controller, if it is on, in each of its three uses.
use Rattle.std.specs.Prelude.{Bool, true, cond, ◌&&◌, Float, Option, Some, None}
use Rattle.std.specs.Float.Ieee.{lt}
use Rattle.float.specs.F32.{◌+f◌, ◌-f◌}
use Rattle.float.specs.Float.{clamp_f}
use Rattle.refusal.specs.declared.Refusal.{Refusal}
use Rattle.refusal.specs.Answers.{Answer}
use Rattle.func.specs.declared.Wrapped.{Wrapped}
use Rattle.func.specs.Func.{settled, call_wrap_by}
use Rattle.angle_pid.specs.declared.range.Range.{Range}

-- 1 where the range is on and min < max does not hold
unfoldable pub range_refusal : Option Range → Option Refusal
range_refusal None = None
range_refusal (Some r) = cond (lt r.min r.max) None (Some Refusal.Range)

-- Wrapping: error > max, not ≥; its update's result has the steps too.
unfoldable pub wrap_error : Option Range → Float → Answer Wrapped
wrap_error None error = settled error 0
wrap_error (Some r) error = call_wrap_by lt error r.min r.max

-- Wrapping moves prev_error and integral when error − prev_error leaves the range.
unfoldable pub shifted : Option Range → Float → Float → Float
shifted None jump x = x
shifted (Some r) jump x = cond (lt jump r.min) (x -f (r.max -f r.min)) (cond (lt r.max jump) (x +f (r.max -f r.min)) x)

-- Anti-windup: min < P+D < max strictly.
unfoldable pub admits : Option Range → Float → Bool
admits None pd = true
admits (Some r) pd = lt r.min pd && lt pd r.max

-- The output limit. NaN passes.
unfoldable pub limited : Option Range → Float → Float
limited None x = x
limited (Some r) x = clamp_f x r.min r.max
