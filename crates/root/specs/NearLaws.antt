-- The test of a guess: it holds exactly where the root of n, rounded, is g or g + 1. Assumes nothing.
use Rattle.std.specs.Prelude.{◌≡◌, Bool, true, false, ◌&&◌, ℕ, ◌+◌, ◌*◌, ◌≤◌, ◌<◌, ltb, leb}
use Rattle.std.proofs.Math.Path.{refl}
use Rattle.std.proofs.Common.{sym, ap, ◌∙◌, mul-add, add-mul, arith, ltb-true, leb-true, lt-ltb, le-ltb, le-leb}
use Rattle.std.proofs.lemmas.Bool.{lt-leb}
use Rattle.lemmas.specs.Cases.{and_left, and_right}
use Rattle.root.specs.Post.{IsRounded, is_near}

pub one_more : (r : ℕ) → (r + 1) * (r + 1) ≡ r * r + r + r + 1
one_more r = simp (mul-add, add-mul) (omega arith)

module _ (n g : ℕ) where
  -- the lower end of g's range, and the upper end of its neighbour's
  abbrev above : Bool
  above = ltb (g * g) (n + g)

  abbrev below : Bool
  below = leb n ((g + 1) * (g + 1) + (g + 1))

  near_is : is_near n g ≡ above && below
  unfolding is_near
  near_is = refl

  pub near_above : is_near n g ≡ true → g * g < n + g
  near_above h = ltb-true (g * g) (n + g) (and_left above below (sym near_is ∙ h))

  pub near_below : is_near n g ≡ true → n ≤ (g + 1) * (g + 1) + (g + 1)
  near_below h = leb-true n ((g + 1) * (g + 1) + (g + 1)) (and_right above below (sym near_is ∙ h))

  pub near : g * g < n + g → n ≤ (g + 1) * (g + 1) + (g + 1) → is_near n g ≡ true
  near h l = near_is ∙ ap (λ (t : Bool). t && below) (lt-ltb (g * g) (n + g) h) ∙ le-leb n ((g + 1) * (g + 1) + (g + 1)) l

  -- it turns down neither of the two
  pub near_here : IsRounded n g → is_near n g ≡ true
  near_here R = near R.under (rw one_more (omega (arith, R.over)))

  pub near_next : IsRounded n (g + 1) → is_near n g ≡ true
  near_next R = let u : g * g + g + g + 1 < n + (g + 1) = rw one_more at R.under in near (omega arith) R.over

  -- and it turns down what lies outside
  pub too_low : n + g ≤ g * g → is_near n g ≡ false
  too_low h = near_is ∙ ap (λ (t : Bool). t && below) (le-ltb (g * g) (n + g) h)

  pub too_high : g * g < n + g → (g + 1) * (g + 1) + (g + 1) < n → is_near n g ≡ false
  too_high h l = near_is ∙ ap (λ (t : Bool). t && below) (lt-ltb (g * g) (n + g) h) ∙ lt-leb n ((g + 1) * (g + 1) + (g + 1)) l
