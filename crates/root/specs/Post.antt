-- What the parts of the root's code ensure.
use Rattle.std.specs.Prelude.{◌≡◌, ℕ, ◌+◌, ◌*◌, ◌/◌, ◌%◌, ◌^◌, ◌≤◌, ◌<◌, Bool, ◌&&◌, ltb, leb}
use Rattle.root.specs.Root.{scaled}

-- m · 2 ^ e is the number of the pattern b, in units of 2 ^ -275, and m has 24 digits.
pub record IsParts (b m e : ℕ) : Type 0 where
  pub least : 2 ^ 23 ≤ m
  pub most : m < 2 ^ 24
  pub exponent : e ≤ 381
  pub value : m * 2 ^ e ≡ scaled b * 2 ^ 126

-- The same with both in one number t: m without its leading digit in 23 digits, and e before them.
abbrev pub PartsIn : ℕ → ℕ → Type 0
PartsIn b t = IsParts b (t % 2 ^ 23 + 2 ^ 23) (t / 2 ^ 23)

-- r is the root of n, rounded: (r - ½)² < n < (r + ½)², which over whole numbers is r² - r < n ≤ r² + r.
pub record IsRounded (n r : ℕ) : Type 0 where
  pub least : 2 ^ 23 ≤ r
  pub most : r < 2 ^ 24
  pub under : r * r < n + r
  pub over : n ≤ r * r + r

-- Whether the root of n, rounded, is g or g + 1: g² - g < n ≤ (g + 1)² + (g + 1), the lower end of the one and the upper end of the other.
unfoldable pub is_near : ℕ → ℕ → Bool
is_near n g = ltb (g * g) (n + g) && leb n ((g + 1) * (g + 1) + (g + 1))
