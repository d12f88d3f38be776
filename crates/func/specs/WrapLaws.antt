-- The wrapping rule with no cap, and that `call_wrap_by` gives its answer and its count of steps where these are at most 64, and else refuses. Assumes nothing.
use Rattle.std.specs.Prelude.{◌≡◌, refl, Bool, true, false, ◌⊎◌, Float}
use Rattle.std.proofs.Common.{ap, ◌∙◌, inl, inr, arith}
use Prim.Native.Nat.{ℕ, zero, suc, ◌+◌, ◌≤◌, ◌<◌, zero-le}
use Rattle.std.specs.Float.Ieee.{lt, le}
use Rattle.float.specs.F32.{◌+f◌, ◌-f◌}
use Rattle.refusal.specs.declared.Refusal.TheVariants as Refusal
use Rattle.func.specs.Func.{refused, settled, fall, rise, call_wrap_by, call_wrap}

-- ---- the definitions, turn by turn
module _ (over : Float → Bool) (width n : Float) where
  pub fall_on : (left made : ℕ) → over n ≡ true → fall over (suc left) made n width ≡ fall over left (suc made) (n -f width) width
  unfolding fall
  fall_on left made t = rw (t, fall)

  pub fall_out : (made : ℕ) → over n ≡ true → fall over 0 made n width ≡ refused Refusal.Steps 64
  unfolding fall
  fall_out made t = rw (t, fall)

  pub fall_end : (left made : ℕ) → over n ≡ false → fall over left made n width ≡ settled n made
  unfolding fall
  fall_end zero made t = rw (t, fall)
  fall_end (suc left) made t = rw (t, fall)

module _ (over : Float → Bool) (min width n : Float) where
  pub rise_on : (left made : ℕ) → lt n min ≡ true → rise over (suc left) made n min width ≡ rise over left (suc made) (n +f width) min width
  unfolding rise
  rise_on left made t = rw (t, rise)

  pub rise_out : (made : ℕ) → lt n min ≡ true → rise over 0 made n min width ≡ refused Refusal.Steps 64
  unfolding rise
  rise_out made t = rw (t, rise)

  pub rise_end : (left made : ℕ) → lt n min ≡ false → rise over left made n min width ≡ fall over left made n width
  unfolding rise
  rise_end zero made t = rw (t, rise)
  rise_end (suc left) made t = rw (t, rise)

module _ (test : Float → Float → Bool) (num min max : Float) where
  pub wrap_starts : lt min max ≡ true → call_wrap_by test num min max ≡ rise (test max) 64 0 num min (max -f min)
  wrap_starts t = rw (t, call_wrap_by)

  pub wrap_by_refused : lt min max ≡ false → call_wrap_by test num min max ≡ refused Refusal.Range 0
  wrap_by_refused t = rw (t, call_wrap_by)

-- ---- the rule with no cap: from n on, k subtractions lead to y; k additions and then subtractions do
pub data Falls (over : Float → Bool) (width : Float) : Float → ℕ → Float → Type 0 where
  stays : (n : Float) → over n ≡ false → Falls over width n 0 n
  subtracts : (n y : Float) (k : ℕ) → over n ≡ true → Falls over width (n -f width) k y → Falls over width n (suc k) y

pub data RisesBy (over : Float → Bool) (min width : Float) : Float → ℕ → Float → Type 0 where
  turns : (n y : Float) (k : ℕ) → lt n min ≡ false → Falls over width n k y → RisesBy over min width n k y
  adds : (n y : Float) (k : ℕ) → lt n min ≡ true → RisesBy over min width (n +f width) k y → RisesBy over min width n (suc k) y

module _ (over : Float → Bool) (min width : Float) where
  -- within the steps left, the rule's answer and its count are given
  falls-within : {n y : Float} {k : ℕ} → Falls over width n k y → (left made : ℕ) → k ≤ left → fall over left made n width ≡ settled y (made + k)
  falls-within (stays n t) left made h = let e : made + 0 ≡ made = omega arith in rw e (fall_end over width n left made t)
  falls-within (subtracts n y k t f) zero made h = absurd (omega arith)
  falls-within (subtracts n y k t f) (suc left) made h =
      let e : made + suc k ≡ suc made + k = omega arith in
      rw e (fall_on over width n left made t ∙ falls-within f left (suc made) (omega arith))

  rises-within : {n y : Float} {k : ℕ} → RisesBy over min width n k y → (left made : ℕ) → k ≤ left → rise over left made n min width ≡ settled y (made + k)
  rises-within (turns n y k t f) left made h = rise_end over min width n left made t ∙ falls-within f left made h
  rises-within (adds n y k t r) zero made h = absurd (omega arith)
  rises-within (adds n y k t r) (suc left) made h =
      let e : made + suc k ≡ suc made + k = omega arith in
      rw e (rise_on over min width n left made t ∙ rises-within r left (suc made) (omega arith))

  -- either the rule ends within the steps left, or the answer is the refusal
  abbrev FallCases : ℕ → ℕ → Float → Type 0
  FallCases left made n = ((k : ℕ) × (y : Float) × (k ≤ left) × Falls over width n k y) ⊎ (fall over left made n width ≡ refused Refusal.Steps 64)

  fall_last : (made : ℕ) (n : Float) (b : Bool) → over n ≡ b → FallCases 0 made n
  fall_last made n true t = inr (fall_out over width n made t)
  fall_last made n false t = inl (0, n, zero-le, stays n t)

  fall_more : (left made : ℕ) (n : Float) (b : Bool) → over n ≡ b → FallCases left (suc made) (n -f width) → FallCases (suc left) made n
  fall_more left made n true t (inl f) = inl (suc f.0, f.1, omega (arith, f.2), subtracts n f.1 f.0 t f.3)
  fall_more left made n true t (inr e) = inr (fall_on over width n left made t ∙ e)
  fall_more left made n false t f = inl (0, n, zero-le, stays n t)

  fall_cases : (left made : ℕ) (n : Float) → FallCases left made n
  fall_cases zero made n = fall_last made n (over n) refl
  fall_cases (suc left) made n = fall_more left made n (over n) refl (fall_cases left (suc made) (n -f width))

  abbrev RiseCases : ℕ → ℕ → Float → Type 0
  RiseCases left made n = ((k : ℕ) × (y : Float) × (k ≤ left) × RisesBy over min width n k y) ⊎ (rise over left made n min width ≡ refused Refusal.Steps 64)

  rise-turns : (left made : ℕ) (n : Float) → lt n min ≡ false → FallCases left made n → RiseCases left made n
  rise-turns left made n t (inl f) = inl (f.0, f.1, f.2, turns n f.1 f.0 t f.3)
  rise-turns left made n t (inr e) = inr (rise_end over min width n left made t ∙ e)

  rise_last : (made : ℕ) (n : Float) (b : Bool) → lt n min ≡ b → RiseCases 0 made n
  rise_last made n true t = inr (rise_out over min width n made t)
  rise_last made n false t = rise-turns 0 made n t (fall_cases 0 made n)

  rise_more : (left made : ℕ) (n : Float) (b : Bool) → lt n min ≡ b → RiseCases left (suc made) (n +f width) → RiseCases (suc left) made n
  rise_more left made n true t (inl r) = inl (suc r.0, r.1, omega (arith, r.2), adds n r.1 r.0 t r.3)
  rise_more left made n true t (inr e) = inr (rise_on over min width n left made t ∙ e)
  rise_more left made n false t r = rise-turns (suc left) made n t (fall_cases (suc left) made n)

  rise_cases : (left made : ℕ) (n : Float) → RiseCases left made n
  rise_cases zero made n = rise_last made n (lt n min) refl
  rise_cases (suc left) made n = rise_more left made n (lt n min) refl (rise_cases left (suc made) (n +f width))

-- ---- what `call_wrap_by` gives where min < max, for either upper test
module _ (test : Float → Float → Bool) (num min max : Float) (t : lt min max ≡ true) where
  -- the rule's answer and step count, where it makes at most 64 steps
  pub wrap_by_within : (y : Float) (k : ℕ) → RisesBy (test max) min (max -f min) num k y → k ≤ 64 → call_wrap_by test num min max ≡ settled y k
  wrap_by_within y k r h =
      let e : 0 + k ≡ k = omega arith in
      wrap_starts test num min max t ∙ rises-within (test max) min (max -f min) r 64 0 h ∙ ap (settled y) e

  -- and refusal 6, with 64 steps, where it makes more or never ends
  pub wrap_by_beyond : ((k : ℕ) (y : Float) → RisesBy (test max) min (max -f min) num k y → 64 < k) → call_wrap_by test num min max ≡ refused Refusal.Steps 64
  wrap_by_beyond f =
      wrap_starts test num min max t
      ∙ elim (rise_cases (test max) min (max -f min) 64 0 num) [ inl r ↦ absurd (omega (arith, r.2, f r.0 r.1 r.3)) | inr e ↦ e ]

-- ---- `wrap`'s own rule
abbrev pub Rises : Float → Float → Float → Float → ℕ → Float → Type 0
Rises min max = RisesBy (le max) min

pub wrap_refused : (num min max : Float) → lt min max ≡ false → call_wrap num min max ≡ refused Refusal.Range 0
unfolding call_wrap
wrap_refused = wrap_by_refused le

pub wrap_within : (num min max y : Float) (k : ℕ) → lt min max ≡ true → Rises min max (max -f min) num k y → k ≤ 64 → call_wrap num min max ≡ settled y k
unfolding call_wrap
wrap_within num min max y k t = wrap_by_within le num min max t y k

pub wrap_beyond : (num min max : Float) → lt min max ≡ true → ((k : ℕ) (y : Float) → Rises min max (max -f min) num k y → 64 < k) → call_wrap num min max ≡ refused Refusal.Steps 64
unfolding call_wrap
wrap_beyond = wrap_by_beyond le
