-- What the limiter's calls answer for a bad limit, and for a good one. Assumes nothing.
use Rattle.std.specs.Prelude.{◌≡◌, true, false, Some, None, Float}
use Rattle.float.specs.F32 as F
use Rattle.refusal.specs.declared.Refusal.TheVariants as Refusal
use Rattle.filters.specs.declared.slew_rate.SlewRate.{SlewRate}
use Rattle.filters.specs.SlewRate.{bad_limit, slew_of, step_slew_rate, set_dt_slew_rate, changed_slew_rate, updated_slew_rate, call_new_slew_rate, call_set_dt_slew_rate, call_update_slew_rate}

pub new_slew_refused : (limit dt : Float) → bad_limit limit ≡ true → call_new_slew_rate limit dt ≡ changed_slew_rate (Some Refusal.Slew) (slew_of F.zero F.zero F.zero)
unfolding call_new_slew_rate
new_slew_refused limit dt b = simp b

pub new_slew_accepted : (limit dt : Float) → bad_limit limit ≡ false → call_new_slew_rate limit dt ≡ changed_slew_rate None (slew_of limit F.zero dt)
unfolding call_new_slew_rate
new_slew_accepted limit dt g = simp g

module _ (s : SlewRate) (x : Float) where
  pub set_dt_slew-refused : bad_limit s.rate_limit ≡ true → call_set_dt_slew_rate s x ≡ changed_slew_rate (Some Refusal.Slew) s
  unfolding call_set_dt_slew_rate
  set_dt_slew-refused b = simp b

  pub set_dt_slew-accepted : bad_limit s.rate_limit ≡ false → call_set_dt_slew_rate s x ≡ changed_slew_rate None (set_dt_slew_rate s x)
  unfolding call_set_dt_slew_rate
  set_dt_slew-accepted g = simp g

  pub update_slew_refused : bad_limit s.rate_limit ≡ true → call_update_slew_rate s x ≡ updated_slew_rate (Some Refusal.Slew) F.zero s
  unfolding call_update_slew_rate
  update_slew_refused b = simp b

  pub update_slew_accepted : bad_limit s.rate_limit ≡ false → call_update_slew_rate s x ≡ updated_slew_rate None (step_slew_rate s x).signal (step_slew_rate s x)
  unfolding call_update_slew_rate
  update_slew_accepted g = simp g
