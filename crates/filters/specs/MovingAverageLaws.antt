-- What the window's calls answer for a bad window, and for a good one. Assumes nothing.
use Rattle.std.specs.Prelude.{◌≡◌, true, false, ℕ, ◌≤◌, ltb, Some, None, Float}
use Rattle.std.proofs.Math.Path.{refl}
use Rattle.std.proofs.Common.{ltb-false}
use Rattle.lemmas.specs.Cases.{of_both, neither}
use Rattle.float.specs.F32 as F
use Rattle.refusal.specs.declared.Refusal.TheVariants as Refusal
use Rattle.filters.specs.declared.moving_average.MovingAverage.{MovingAverage}
use Rattle.filters.specs.MovingAverage.{bad_length, bad_window, new_with_value_moving_average, window_store, window_mean, made_moving_average, updated_moving_average, call_new_with_value_moving_average, call_update_moving_average}

-- a good window's length is at most 16, so its slots hold it
pub length_fits : (length : ℕ) → bad_length length ≡ false → length ≤ 16
unfolding bad_length
length_fits length g = ltb-false 16 length (neither (ltb length 1) (ltb 16 length) g).1

module _ (length : ℕ) (value : Float) where
  pub new_average_refused : bad_length length ≡ true → call_new_with_value_moving_average length value ≡ made_moving_average (Some Refusal.Window) (new_with_value_moving_average 0 F.zero)
  unfolding call_new_with_value_moving_average
  new_average_refused b = simp b

  pub new_average_accepted : bad_length length ≡ false → call_new_with_value_moving_average length value ≡ made_moving_average None (new_with_value_moving_average length value)
  unfolding call_new_with_value_moving_average
  new_average_accepted g = simp g

module _ (s : MovingAverage) where
  pub window_fits : bad_window s ≡ false → s.length ≤ 16
  unfolding bad_window
  window_fits g = length_fits s.length (neither (bad_length s.length) (ltb s.length s.head) g).0

  pub store_length : (value : Float) → (window_store s value).length ≡ s.length
  unfolding window_store
  store_length value = of_both (λ (m : MovingAverage). m.length ≡ s.length) (ltb s.head s.length) _ _ refl refl

  pub update_average_refused : (value : Float) → bad_window s ≡ true → call_update_moving_average s value ≡ updated_moving_average (Some Refusal.Window) F.zero s
  unfolding call_update_moving_average
  update_average_refused value b = simp b

  pub update_average_accepted : (value : Float) → bad_window s ≡ false → call_update_moving_average s value ≡ updated_moving_average None (window_mean (window_store s value)) (window_store s value)
  unfolding call_update_moving_average
  update_average_accepted value g = simp g
