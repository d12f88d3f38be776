-- Document 01, 'Arithmetic': the functions that Rust has as methods of f32.
use Rattle.std.specs.Prelude.{Bool, false, cond, Float}
use Rattle.std.specs.Float.{nan, inf, fin}
use Rattle.std.specs.Float.Ieee.{is_nan, lt}
use Rattle.float.specs.F32.{◌*f◌}

-- the sign is negative, a zero's too; NaN has none
unfoldable pub negative : Float → Bool
negative nan = false
negative (inf s) = s
negative (fin s m e) = s

-- b if a is NaN; a if b is NaN; b if a < b; else a
unfoldable pub max_f : Float → Float → Float
max_f a b = cond (is_nan a) b (cond (is_nan b) a (cond (lt a b) b a))

-- likewise with b < a
unfoldable pub min_f : Float → Float → Float
min_f a b = cond (is_nan a) b (cond (is_nan b) a (cond (lt b a) b a))

-- low if x < low, high if x > high, else x
unfoldable pub clamp_f : Float → Float → Float → Float
clamp_f x low high = cond (lt x low) low (cond (lt high x) high x)

-- the sign is cleared, a zero's too
unfoldable pub abs_f : Float → Float
abs_f nan = nan
abs_f (inf s) = inf false
abs_f (fin s m e) = fin false m e

-- x³ = x·(x·x)
unfoldable pub cube_f : Float → Float
cube_f x = x *f (x *f x)

-- x⁵ = x·((x·x)·(x·x))
unfoldable pub fifth_f : Float → Float
fifth_f x = x *f ((x *f x) *f (x *f x))
