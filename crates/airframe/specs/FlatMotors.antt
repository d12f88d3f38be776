-- A run of motors written as numbers, three a motor: its place and its reaction. What such a run says, from a place on. Assumes nothing.
use Rattle.std.specs.Prelude.{◌≡◌, refl, List, [], ◌∷◌, ℕ, suc, ◌+◌, ◌-◌, ◌≤◌, ◌<◌, get_or, drop, length, Float}
use Rattle.std.proofs.Common.{ap, add-one, arith}
use Rattle.std.proofs.Math.ListN.{length-drop}
use Rattle.std.proofs.Math.Seq.{drop-cons}
use Rattle.std.specs.Float.{nan}
use Rattle.airframe.specs.declared.Motor.{Motor}

abbrev pub motor : Float → Float → Float → Motor
motor x y reaction = record { x = x; y = y; reaction = reaction }

-- the motors of a run of numbers, three a motor; what is left over is no motor
unfoldable pub motors_of : List Float → List Motor
motors_of [] = []
motors_of (x ∷ []) = []
motors_of (x ∷ y ∷ []) = []
motors_of (x ∷ y ∷ reaction ∷ rest) = motor x y reaction ∷ motors_of rest

unfoldable pub flat : List Motor → List Float
flat [] = []
flat (m ∷ ms) = m.x ∷ m.y ∷ m.reaction ∷ flat ms

-- ---- a run of motors, from a place on
module _ (l : List Float) (i : ℕ) where
  three : 3 ≤ length l - i → drop i l ≡ get_or l i nan ∷ get_or l (i + 1) nan ∷ get_or l (i + 2) nan ∷ drop (i + 3) l
  three h =
      let p : i < length l = omega arith in
      let q : suc i < length l = omega arith in
      let r : suc (suc i) < length l = omega arith in
      let a : i + 1 ≡ suc i = omega arith in
      let b : i + 2 ≡ suc (suc i) = omega arith in
      let d : i + 3 ≡ suc (suc (suc i)) = omega arith in
      rw (a, b, d, drop-cons l i nan p, drop-cons l (suc i) nan q, drop-cons l (suc (suc i)) nan r)

  pub motors_on : 3 ≤ length l - i → motors_of (drop i l) ≡ motor (get_or l i nan) (get_or l (i + 1) nan) (get_or l (i + 2) nan) ∷ motors_of (drop (i + 3) l)
  unfolding motors_of
  motors_on h = rw (three h)

  pub one_less : 3 ≤ length l - i → length (motors_of (drop i l)) ≡ length (motors_of (drop (i + 3) l)) + 1
  one_less h = rw (motors_on h, add-one)

-- fewer than three numbers are no motor
too_few : (l : List Float) → length l < 3 → motors_of l ≡ []
unfolding motors_of
too_few [] h = refl
too_few (x ∷ []) h = refl
too_few (x ∷ y ∷ []) h = refl
too_few (x ∷ y ∷ r ∷ l) h = absurd (omega arith)

pub motors_end : (l : List Float) (i : ℕ) → length l - i < 3 → motors_of (drop i l) ≡ []
motors_end l i h = too_few (drop i l) (rw length-drop h)

pub motors_flat : (ms : List Motor) → motors_of (flat ms) ≡ ms
unfolding motors_of flat
motors_flat [] = refl
motors_flat (m ∷ ms) = ap (λ (l : List Motor). m ∷ l) (motors_flat ms)
