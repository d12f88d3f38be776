-- The root of a binary32 above zero is the nearest binary32, over whole numbers. Assumes nothing.
use Rattle.std.specs.Prelude.{◌≡◌, refl, false, ℕ, zero, suc, ◌+◌, ◌-◌, ◌*◌, ◌^◌, ◌≤◌, ◌<◌}
use Rattle.std.proofs.Common.{lt_irrefl, lt_of_lt_of_le, le_trans, le_of_lt, arith, lit<}
use Rattle.std.specs.Float.{binary32}
use Rattle.std.specs.Float.Ieee.{of_bits}
use Rattle.std.specs.Float.Ieee.Exact.{HasValue}
use Rattle.root.specs.Root.{of_parts, scaled, twice_middle, fourfold, root_bits}
use Rattle.root.specs.RootLaws.{Nearest, root_nearest, root_finite}
use Rattle.root.specs.Patterns.{scaled-strict, scaled_mono, smaller, twice_middle_is, twice_middle-next, fourfold_is, fourfold-least}
use Rattle.root.specs.Values.{pattern_value}

-- Document 01's rule for the number x above zero of the pattern b, its answer y and the patterns beside y, those of y's neighbours p and s:
-- (y + p)² ≤ 4x ≤ (y + s)². All is in units of 2 ^ -149, the smallest value, and of its square: `HasValue` ties the whole numbers to the
-- toolchain's IEEE values, and the patterns beside y are its neighbours, since no pattern's number lies between.
pub record IsRoot (b y : ℕ) : Type 0 where
  pub x_value : HasValue (of_bits binary32 b) false (scaled b) (2 ^ 149)
  pub y_value : HasValue (of_bits binary32 y) false (scaled y) (2 ^ 149)
  pub p_value : HasValue (of_bits binary32 (y - 1)) false (scaled (y - 1)) (2 ^ 149)
  pub s_value : HasValue (of_bits binary32 (y + 1)) false (scaled (y + 1)) (2 ^ 149)
  pub p_below : scaled (y - 1) < scaled y
  pub p_next : (z : ℕ) → scaled z < scaled y → scaled z ≤ scaled (y - 1)
  pub s_above : scaled y < scaled (y + 1)
  pub s_next : (z : ℕ) → scaled y < scaled z → scaled (y + 1) ≤ scaled z
  pub not-less : (scaled y + scaled (y - 1)) * (scaled y + scaled (y - 1)) ≤ 4 * scaled b * 2 ^ 149
  pub not_more : 4 * scaled b * 2 ^ 149 ≤ (scaled y + scaled (y + 1)) * (scaled y + scaled (y + 1))

first_twice_middle : twice_middle 1 ≡ 1
unfolding twice_middle scaled of_parts
first_twice_middle = refl

-- a root of a number above zero is above zero
some_root : (b y : ℕ) → 0 < b → Nearest (fourfold b) y → 0 < y
some_root b zero B N =
    let a : fourfold b < 1 = rw first_twice_middle at N.above in
    let m = fourfold-least b B in
    absurd (lt_irrefl 1 (lt_of_lt_of_le (lit< {m = 1} {n = 4 * 1 * 2 ^ 149} tt) (le_trans m (le_of_lt a))))
some_root b (suc y) B N = omega arith

pub is_root : (b : ℕ) → 0 < b → b < 255 * 2 ^ 23 → IsRoot b (root_bits b)
is_root b B h =
    let y = root_bits b in
    let N : Nearest (fourfold b) y = root_nearest b (omega arith) in
    let F : y < 254 * 2 ^ 23 = root_finite b (omega arith) in
    let Y : 0 < y = some_root b y B N in
    record {
      x_value = pattern_value b h;
      y_value = pattern_value y (omega arith);
      p_value = pattern_value (y - 1) (omega arith);
      s_value = pattern_value (y + 1) (omega arith);
      p_below = scaled-strict (y - 1) y (omega arith);
      p_next = λ z h. scaled_mono z (y - 1) (omega (arith, smaller z y h));
      s_above = scaled-strict y (y + 1) (omega arith);
      s_next = λ z h. scaled_mono (y + 1) z (omega (arith, smaller y z h));
      not-less = rw (← twice_middle_is y, ← fourfold_is b) N.below;
      not_more = rw (← twice_middle-next y, ← fourfold_is b) (le_of_lt N.above);
    }
