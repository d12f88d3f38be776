-- func.rs: `linear_map`, and `wrap` with its step count and the cap of 64.
use Rattle.std.specs.Prelude.{ℕ, zero, suc, Bool, true, false, Float, Ok}
use Rattle.std.specs.Float.Ieee.{lt, le}
use Rattle.float.specs.F32 as F
use Rattle.float.specs.F32.{◌+f◌, ◌-f◌, ◌*f◌, ◌/f◌}
use Rattle.refusal.specs.declared.Refusal.{Refusal}
use Rattle.refusal.specs.Answers as Answers
use Rattle.refusal.specs.Answers.{Answer}
use Rattle.func.specs.declared.Wrapped.{Wrapped}

-- ((num − in_min) / in_delta) · out_delta + out_min
unfoldable pub linear_map : Float → Float → Float → Float → Float → Float
linear_map num in_min in_max out_min out_max = (num -f in_min) /f (in_max -f in_min) *f (out_max -f out_min) +f out_min

abbrev pub refused : Refusal → ℕ → Answer Wrapped
refused why steps = Answers.refused why (record { value = F.zero; steps = steps })

abbrev pub settled : Float → ℕ → Answer Wrapped
settled n made = Ok (record { value = n; steps = made })

-- The upper test of a range: where it is closed, max belongs to it, and only what is past max is above.
abbrev pub above : Bool → Float → Float → Bool
above true = lt
above false = le

-- While n is over, subtract the width: `left` more steps are allowed, `made` were made. One more is refused.
unfoldable pub fall : (Float → Bool) → ℕ → ℕ → Float → Float → Answer Wrapped
fall over zero made n width = elim (over n) [ true ↦ refused Refusal.Steps 64 | false ↦ settled n made ]
fall over (suc left) made n width = elim (over n) [ true ↦ fall over left (suc made) (n -f width) width | false ↦ settled n made ]

-- While n < min, add the width; then fall.
unfoldable pub rise : (Float → Bool) → ℕ → ℕ → Float → Float → Float → Answer Wrapped
rise over zero made n min width = elim (lt n min) [ true ↦ refused Refusal.Steps 64 | false ↦ fall over zero made n width ]
rise over (suc left) made n min width = elim (lt n min) [ true ↦ rise over left (suc made) (n +f width) min width | false ↦ fall over (suc left) made n width ]

-- The rule for either upper test: `wrap` has ≥, and the angle controller >.
abbrev pub call_wrap_by : (Float → Float → Bool) → Float → Float → Float → Answer Wrapped
call_wrap_by test num min max = elim (lt min max) [ true ↦ rise (test max) 64 0 num min (max -f min) | false ↦ refused Refusal.Range 0 ]

unfoldable pub call_wrap : Float → Float → Float → Answer Wrapped
call_wrap num min max = call_wrap_by le num min max
