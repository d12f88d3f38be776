-- linear_lut.rs: points are a lent run of x, y pairs.
use Rattle.std.specs.Prelude.{ℕ, zero, suc, ◌+◌, ◌-◌, ◌*◌, ◌/◌, ◌%◌, Bool, true, false, cond, ◌&&◌, ◌||◌, List, eqb, length, get_or, Float, Ok}
use Rattle.std.specs.Float.{nan}
use Rattle.std.specs.Float.Ieee.{le}
use Rattle.float.specs.F32 as F
use Rattle.float.specs.F32.{◌+f◌, ◌-f◌, ◌*f◌, ◌/f◌}
use Rattle.refusal.specs.Answers.{Answer, refused}
use Rattle.refusal.specs.declared.Refusal.TheVariants as Refusal

-- point i's x and y
abbrev pub x_at : List Float → ℕ → Float
x_at points i = get_or points (2 * i) nan

abbrev pub y_at : List Float → ℕ → Float
y_at points i = get_or points (2 * i + 1) nan

-- the line from point i to the next: y0 + (y1 − y0)·(x − x0)/(x1 − x0)
abbrev pub segment : List Float → ℕ → Float → Float
segment points i x = y_at points i +f (y_at points (i + 1) -f y_at points i) *f (x -f x_at points i) /f (x_at points (i + 1) -f x_at points i)

-- x lies from point i's x to the next one's
abbrev pub holds : List Float → ℕ → Float → Bool
holds points i x = le (x_at points i) x && le x (x_at points (i + 1))

-- the first of `left` segments from i on that holds x; 0 where none does
unfoldable pub within : List Float → ℕ → ℕ → Float → Float
within points zero i x = F.zero
within points (suc left) i x = elim (holds points i x) [ true ↦ segment points i x | false ↦ within points left (suc i) x ]

-- n points, two at least: at or below the first x the first segment extends, at or above the last the last one
abbrev pub among : List Float → ℕ → Float → Float
among points n x =
    cond (le x (x_at points 0)) (segment points 0 x)
    (cond (le (x_at points (n - 1)) x) (segment points (n - 2) x) (within points (n - 1) 0 x))

-- an odd run, or one point
abbrev pub bad_points : List Float → Bool
bad_points points = eqb (length points % 2) 1 || eqb (length points) 2

-- no points: 0
abbrev pub call_get : List Float → Float → Answer Float
call_get points x =
    cond (bad_points points) (refused Refusal.Points F.zero)
    (Ok (cond (eqb (length points) 0) F.zero (among points (length points / 2) x)))
