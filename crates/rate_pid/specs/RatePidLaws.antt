-- Laws of the rate controller, for every state and every input: what its calls leave when refused, when the integral moves
-- and when it stands still, its bound, and that the terms are what the output adds up. Assumes nothing.
use Rattle.std.specs.Prelude.{◌≡◌, Bool, cond, ◌&&◌, ◌⊎◌, Option, Some, None, ℕ, ◌+◌, ◌<◌, ltb, Float}
use Rattle.std.proofs.Math.Path.{refl, ap}
use Rattle.std.proofs.Common.{sym, ◌∙◌, true≢false, inl, inr, arith, mul-pos, lt-ltb}
use Rattle.std.proofs.Math.Bool.{and-true, and-false, true, false}
use Rattle.std.specs.Float.{nan, inf, fin}
use Rattle.std.specs.Float.Ieee.{below, lt, le, eq, neg, is_nan, of_bits}
use Rattle.std.specs.Float.Ieee.Fits.{down_pos}
use Rattle.lemmas.specs.Cases.{and_left, and_right}
use Rattle.float.specs.F32 as F
use Rattle.float.specs.F32.{◌+f◌, ◌-f◌}
use Rattle.float.specs.Float.{abs_f}
use Rattle.float.specs.FloatLaws.{Within, clamp_within, lt_nan}
use Rattle.refusal.specs.declared.Refusal.TheVariants as Refusal
use Rattle.refusal.specs.Answers.{Answer, given}
use Rattle.filters.specs.declared.slew_rate.SlewRate.{SlewRate}
use Rattle.filters.specs.SlewRate.{bad_limit, step_slew_rate, set_dt_slew_rate}
use Rattle.rate_pid.specs.declared.RatePid.{RatePid}
use Rattle.rate_pid.specs.Slew.{is_off, bad_slew, set_dt_slew, step_slew}
use Rattle.rate_pid.specs.RatePid.{zero_terms, zero_rate_pid, slewed_of, filtered_of, meas_derivative_of, calm, calm_of, damped_of, grown_of, integrated, integrated_of, step_rate_pid, total_of, summed, new_rate_pid, with_slew, unlimited_rate_pid, advanced, slew_rate_pid, set_ts_rate_pid, set_gains_rate_pid, enable_integral_rate_pid, reset_integral_rate_pid, bad_rate_pid, changed_rate_pid, updated_rate_pid, terms_rate_pid, guarded, call_slew_rate_pid, call_set_ts_rate_pid, call_set_gains_rate_pid, call_enable_integral_rate_pid, call_reset_integral_rate_pid, call_enable_reset_integral_rate_pid, call_update_rate_pid, call_get_terms_rate_pid}

-- ---- refused, a call leaves the state, and its numbers are +0

module _ (s : RatePid) (bad : bad_rate_pid s ≡ true) where
  pub guard_refused : (next : Answer RatePid) → guarded s next ≡ changed_rate_pid (Some Refusal.Slew) s
  unfolding guarded
  guard_refused next = simp bad

  pub slew_refused : (limit : Float) → call_slew_rate_pid s limit ≡ changed_rate_pid (Some Refusal.Slew) s
  unfolding call_slew_rate_pid
  slew_refused limit = guard_refused _

  pub set_ts_refused : (ts : Float) → call_set_ts_rate_pid s ts ≡ changed_rate_pid (Some Refusal.Slew) s
  unfolding call_set_ts_rate_pid
  set_ts_refused ts = guard_refused _

  pub set_gains_refused : (kp ki kd : Float) → call_set_gains_rate_pid s kp ki kd ≡ changed_rate_pid (Some Refusal.Slew) s
  unfolding call_set_gains_rate_pid
  set_gains_refused kp ki kd = guard_refused _

  pub enable_integral_refused : (on : Bool) → call_enable_integral_rate_pid s on ≡ changed_rate_pid (Some Refusal.Slew) s
  unfolding call_enable_integral_rate_pid
  enable_integral_refused on = guard_refused _

  pub reset_integral_refused : call_reset_integral_rate_pid s ≡ changed_rate_pid (Some Refusal.Slew) s
  unfolding call_reset_integral_rate_pid
  reset_integral_refused = guard_refused _

  pub enable_reset_integral_refused : (on : Bool) → call_enable_reset_integral_rate_pid s on ≡ changed_rate_pid (Some Refusal.Slew) s
  unfolding call_enable_reset_integral_rate_pid
  enable_reset_integral_refused on = guard_refused _

  pub update_refused : (r m p : Float) → call_update_rate_pid s r m p ≡ updated_rate_pid (Some Refusal.Slew) F.zero s
  unfolding call_update_rate_pid
  update_refused r m p = simp bad

  pub get_terms_refused : call_get_terms_rate_pid s ≡ terms_rate_pid (Some Refusal.Slew) zero_terms
  unfolding call_get_terms_rate_pid
  get_terms_refused = simp bad

-- a bad limit given is refused as a bad one stored is
pub slew_limit_refused : (s : RatePid) (limit : Float) → bad_limit limit ≡ true → call_slew_rate_pid s limit ≡ changed_rate_pid (Some Refusal.Slew) s
unfolding call_slew_rate_pid guarded
slew_limit_refused s limit b = go (bad_rate_pid s)
  where
    go : (t : Bool) → cond t (changed_rate_pid (Some Refusal.Slew) s) (cond (bad_limit limit) (changed_rate_pid (Some Refusal.Slew) s) (changed_rate_pid None (slew_rate_pid s limit))) ≡ changed_rate_pid (Some Refusal.Slew) s
    go true = refl
    go false = simp b

-- ---- a state that is not bad: only a bad limit given to `slew` is refused

module _ (s : RatePid) (good : bad_rate_pid s ≡ false) where
  pub guard_passed : (next : Answer RatePid) → guarded s next ≡ next
  unfolding guarded
  guard_passed next = simp good

  pub slew_accepted : (limit : Float) → bad_limit limit ≡ false → call_slew_rate_pid s limit ≡ changed_rate_pid None (slew_rate_pid s limit)
  unfolding call_slew_rate_pid
  slew_accepted limit g = simp (guard_passed, g)

  pub update_accepted : (r m p : Float) → call_update_rate_pid s r m p ≡ updated_rate_pid None (total_of (step_rate_pid s r m p).terms) (step_rate_pid s r m p)
  unfolding call_update_rate_pid
  update_accepted r m p = simp good

  pub get_terms_accepted : call_get_terms_rate_pid s ≡ terms_rate_pid None s.terms
  unfolding call_get_terms_rate_pid
  get_terms_accepted = simp good

-- ---- a state without a limiter: its updates are not refused, and `advance` makes them

off_is : (d : Option SlewRate) → is_off d ≡ true → d ≡ None
unfolding is_off
off_is None h = refl
off_is (Some s) h = absurd (true≢false (sym h))

module _ (s : RatePid) (r m p : Float) where
  pub advanced_updates : unlimited_rate_pid s ≡ true → call_update_rate_pid s r m p ≡ updated_rate_pid None (advanced s r m p).y (advanced s r m p).state
  unfolding unlimited_rate_pid bad_rate_pid bad_slew advanced summed with_slew
  advanced_updates h =
      let off = off_is s.d_slew h in
      let good : bad_rate_pid s ≡ false = simp off in
      let bare : s ≡ with_slew s None = ap (with_slew s) off in
      update_accepted s good r m p ∙ ap (λ (x : RatePid). updated_rate_pid None (total_of (step_rate_pid x r m p).terms) (step_rate_pid x r m p)) bare

  -- and none has come after it
  pub advanced_unlimited : unlimited_rate_pid (advanced s r m p).state ≡ true
  unfolding unlimited_rate_pid is_off advanced summed step_rate_pid step_slew with_slew
  advanced_unlimited = refl

-- what holds of the state before, and of the one that the call makes, holds of the one that it leaves
guarded-keeps : (P : RatePid → Type 0) (s : RatePid) (next : Answer RatePid) → P s → P (given next) → P (given (guarded s next))
unfolding guarded
guarded-keeps P s next before after = go (bad_rate_pid s)
  where
    go : (t : Bool) → P (given (cond t (changed_rate_pid (Some Refusal.Slew) s) next))
    go true = before
    go false = after

update_keeps : (P : RatePid → Type 0) (s : RatePid) (r m p : Float) → P s → P (step_rate_pid s r m p) → P (call_update_rate_pid s r m p).pid
unfolding call_update_rate_pid
update_keeps P s r m p before after = go (bad_rate_pid s)
  where
    go : (t : Bool) → P (cond t (updated_rate_pid (Some Refusal.Slew) F.zero s) (updated_rate_pid None (total_of (step_rate_pid s r m p).terms) (step_rate_pid s r m p))).pid
    go true = before
    go false = after

-- ---- whether the stored limit is bad: `slew_rate_pid` takes that of the limit given, and nothing else changes it

slew_step_limit : (d : Option SlewRate) (x : Float) → bad_slew (step_slew d x).state ≡ bad_slew d
unfolding bad_slew step_slew step_slew_rate
slew_step_limit None x = refl
slew_step_limit (Some s) x = refl

slew_dt_limit : (d : Option SlewRate) (dt : Float) → bad_slew (set_dt_slew d dt) ≡ bad_slew d
unfolding bad_slew set_dt_slew set_dt_slew_rate
slew_dt_limit None dt = refl
slew_dt_limit (Some s) dt = refl

pub zero_not_bad : bad_rate_pid zero_rate_pid ≡ false
unfolding bad_rate_pid bad_slew zero_rate_pid
zero_not_bad = refl

pub new_not_bad : (kp ki kd tau dt : Float) → bad_rate_pid (new_rate_pid kp ki kd tau dt) ≡ false
unfolding bad_rate_pid bad_slew new_rate_pid
new_not_bad kp ki kd tau dt = refl

module _ (s : RatePid) where
  pub bad_after_step : (r m p : Float) → bad_rate_pid (step_rate_pid s r m p) ≡ bad_rate_pid s
  unfolding bad_rate_pid step_rate_pid
  bad_after_step r m p = slew_step_limit s.d_slew r

  pub bad_after_slew : (limit : Float) → bad_rate_pid (slew_rate_pid s limit) ≡ bad_limit limit
  unfolding bad_rate_pid bad_slew slew_rate_pid with_slew
  bad_after_slew limit = refl

  pub bad_after_set_ts : (ts : Float) → bad_rate_pid (set_ts_rate_pid s ts) ≡ bad_rate_pid s
  unfolding bad_rate_pid set_ts_rate_pid
  bad_after_set_ts ts = slew_dt_limit s.d_slew ts

  pub bad_after_set_gains : (kp ki kd : Float) → bad_rate_pid (set_gains_rate_pid s kp ki kd) ≡ bad_rate_pid s
  unfolding bad_rate_pid set_gains_rate_pid
  bad_after_set_gains kp ki kd = refl

  pub bad_after_enable : (on : Bool) → bad_rate_pid (enable_integral_rate_pid s on) ≡ bad_rate_pid s
  unfolding bad_rate_pid enable_integral_rate_pid
  bad_after_enable on = refl

  pub bad_after_reset : bad_rate_pid (reset_integral_rate_pid s) ≡ bad_rate_pid s
  unfolding bad_rate_pid reset_integral_rate_pid
  bad_after_reset = refl

-- ---- strictly between −1 and 1, as NaN is not

abbrev pub Between : Float → Type 0
Between x = (lt F.minus_one x ≡ true) × (lt x F.one ≡ true)

-- of sizes, one above 0
sizes_between : (s : Bool) (a b : ℕ) → 0 < b → below false a false b ≡ below true b s a && below s a false b
sizes_between false a b h = simp (lt-ltb 0 (b + a) (omega arith))
sizes_between true a b h = simp (lt-ltb 0 (a + b) (omega arith)) (sym (and-true (ltb a b)))

pub abs_below_one : (x : Float) → lt (abs_f x) F.one ≡ lt F.minus_one x && lt x F.one
unfolding lt abs_f of_bits neg
abs_below_one nan = refl
abs_below_one (inf true) = refl
abs_below_one (inf false) = refl
abs_below_one (fin s m e) = sizes_between s _ _ (mul-pos (omega arith) (down_pos e))

between : (x : Float) → lt (abs_f x) F.one ≡ true → Between x
between x h = let g = sym (abs_below_one x) ∙ h in (and_left (lt F.minus_one x) (lt x F.one) g, and_right (lt F.minus_one x) (lt x F.one) g)

-- ---- the integral moves exactly when it is on and both numbers are strictly between −1 and 1

module _ (s : RatePid) (r m : Float) where
  pub calm-means : calm_of s r m ≡ true → (s.integral_en ≡ true) × Between (filtered_of s m) × Between (slewed_of s r)
  unfolding calm_of calm
  calm-means h =
      let inner = and_right s.integral_en _ h in
      (and_left s.integral_en _ h, between _ (and_left (lt (abs_f (filtered_of s m)) F.one) _ inner), between _ (and_right (lt (abs_f (filtered_of s m)) F.one) _ inner))

  pub calm_when : s.integral_en ≡ true → Between (filtered_of s m) → Between (slewed_of s r) → calm_of s r m ≡ true
  unfolding calm_of calm
  calm_when on f g = simp (on, abs_below_one, f.0, f.1, g.0, g.1)

  pub moves : (p : Float) → calm_of s r m ≡ true
      → ((step_rate_pid s r m p).integral ≡ grown_of s (meas_derivative_of s m) (p -f m)) × ((step_rate_pid s r m p).lowpass ≡ (damped_of s (meas_derivative_of s m)).state)
  unfolding step_rate_pid integrated_of integrated
  moves p h = (simp h, simp h)

-- ---- else it stands still, and so does the damping filter

-- NaN, or not strictly between −1 and 1
abbrev pub Outside : Float → Type 0
Outside x = (is_nan x ≡ true) ⊎ (lt F.minus_one x && lt x F.one ≡ false)

outside : (x : Float) → Outside x → lt (abs_f x) F.one ≡ false
outside x (inl n) = abs_below_one x ∙ simp (lt_nan F.minus_one x n)
outside x (inr o) = abs_below_one x ∙ o

abbrev pub Frozen : RatePid → Float → Float → Type 0
Frozen s r m = (s.integral_en ≡ false) ⊎ (Outside (filtered_of s m) ⊎ Outside (slewed_of s r))

-- the integral and the damping filter are those of s
abbrev pub Stood : RatePid → RatePid → Type 0
Stood s t = (t.integral ≡ s.integral) × (t.lowpass ≡ s.lowpass)

pub not_calm : (s : RatePid) (r m : Float) → Frozen s r m → calm_of s r m ≡ false
unfolding calm_of calm
not_calm s r m (inl off) = simp off
not_calm s r m (inr (inl o)) = simp (outside (filtered_of s m) o, and-false)
not_calm s r m (inr (inr o)) = simp (outside (slewed_of s r) o, and-false)

pub step_frozen : (s : RatePid) (r m p : Float) → Frozen s r m → Stood s (step_rate_pid s r m p)
unfolding step_rate_pid integrated_of integrated
step_frozen s r m p h = let off = not_calm s r m h in (simp off, simp off)

pub update_frozen : (s : RatePid) (r m p : Float) → Frozen s r m → Stood s (call_update_rate_pid s r m p).pid
update_frozen s r m p h = update_keeps (Stood s) s r m p (refl, refl) (step_frozen s r m p h)

-- ---- the integral is NaN or from −1 to 1 after `new`, and every call keeps it so

abbrev pub Bounded : RatePid → Type 0
Bounded s = Within F.minus_one F.one s.integral

zero-within : Within F.minus_one F.one F.zero
unfolding le lt eq neg of_bits
zero-within = inr (refl, refl)

pub zero-bounded : Bounded zero_rate_pid
unfolding zero_rate_pid
zero-bounded = zero-within

pub new_bounded : (kp ki kd tau dt : Float) → Bounded (new_rate_pid kp ki kd tau dt)
unfolding new_rate_pid
new_bounded kp ki kd tau dt = zero-within

grown-within : (s : RatePid) (rate error : Float) → Within F.minus_one F.one (grown_of s rate error)
unfolding grown_of le lt eq neg of_bits
grown-within s rate error = clamp_within _ F.minus_one F.one refl

pub step_bounded : (s : RatePid) (r m p : Float) → Bounded s → Bounded (step_rate_pid s r m p)
unfolding step_rate_pid integrated_of integrated
step_bounded s r m p b = go (calm_of s r m)
  where
    go : (t : Bool) → Within F.minus_one F.one (integrated s t (meas_derivative_of s m) (p -f m)).integral
    go true = grown-within s _ _
    go false = b

pub update_bounded : (s : RatePid) (r m p : Float) → Bounded s → Bounded (call_update_rate_pid s r m p).pid
update_bounded s r m p b = update_keeps Bounded s r m p b (step_bounded s r m p b)

-- whatever it was before
pub reset_bounded : (s : RatePid) → Bounded (reset_integral_rate_pid s)
unfolding reset_integral_rate_pid
reset_bounded s = zero-within

module _ (s : RatePid) (b : Bounded s) where
  pub slew_bounded : (limit : Float) → Bounded (given (call_slew_rate_pid s limit))
  unfolding call_slew_rate_pid slew_rate_pid with_slew
  slew_bounded limit = guarded-keeps Bounded s _ b (go (bad_limit limit))
    where
      go : (t : Bool) → Bounded (given (cond t (changed_rate_pid (Some Refusal.Slew) s) (changed_rate_pid None (slew_rate_pid s limit))))
      go true = b
      go false = b

  pub set_ts_bounded : (ts : Float) → Bounded (given (call_set_ts_rate_pid s ts))
  unfolding call_set_ts_rate_pid set_ts_rate_pid
  set_ts_bounded ts = guarded-keeps Bounded s _ b b

  pub set_gains_bounded : (kp ki kd : Float) → Bounded (given (call_set_gains_rate_pid s kp ki kd))
  unfolding call_set_gains_rate_pid set_gains_rate_pid
  set_gains_bounded kp ki kd = guarded-keeps Bounded s _ b b

  pub enable_integral_bounded : (on : Bool) → Bounded (given (call_enable_integral_rate_pid s on))
  unfolding call_enable_integral_rate_pid enable_integral_rate_pid
  enable_integral_bounded on = guarded-keeps Bounded s _ b b

  pub reset_integral_bounded : Bounded (given (call_reset_integral_rate_pid s))
  unfolding call_reset_integral_rate_pid
  reset_integral_bounded = guarded-keeps Bounded s _ b (reset_bounded s)

  pub enable_reset_integral_bounded : (on : Bool) → Bounded (given (call_enable_reset_integral_rate_pid s on))
  unfolding call_enable_reset_integral_rate_pid
  enable_reset_integral_bounded on = guarded-keeps Bounded s _ b (reset_bounded _)

-- ---- the terms are the numbers that the output adds up

pub terms_add_up : (s : RatePid) (r m p : Float) → bad_rate_pid s ≡ false
    → let after = call_update_rate_pid s r m p in
    let t = after.pid.terms in
    given after.answer ≡ t.p_out +f t.i_out +f t.dr_out +f t.dm_out
unfolding total_of
terms_add_up s r m p good = simp (update_accepted s good r m p)
