-- Where tau and dt switch a low pass off: their sum is zero (request W4), or tau alone is; so of the second-order low pass and of the
-- complementary filter's low pass. Which coefficients a filter then has, and what its setters keep. Assumes nothing.
use Rattle.std.specs.Prelude.{◌≡◌, refl, Bool, true, false, cond, ◌&&◌, zero, suc, T, pos, Float}
use Rattle.std.proofs.Common.{sym, ap, ◌∙◌, true≢false}
use Rattle.std.specs.Float.Ieee as Ieee
use Rattle.std.specs.Float.{nan, inf, fin, binary32}
use Rattle.std.specs.Float.Ieee.{fits, eq, of_bits}
use Rattle.std.specs.Float.Ieee.Bits.{is_true}
use Rattle.std.specs.Float.Ieee.Scale.{finite}
use Rattle.float.specs.F32 as F
use Rattle.float.specs.F32.{◌+f◌, ◌-f◌, ◌/f◌}
use Rattle.float.specs.FloatLaws.{zero_is, zero_equals, zero-fits}
use Rattle.float.specs.OperationLaws.{zero-add, zeros_add, opposite_add, self_div, div-zero}
use Rattle.filters.specs.declared.lowpass.Lowpass.{Lowpass}
use Rattle.filters.specs.declared.lowpass2.NthOrderLowpass.{NthOrderLowpass}
use Rattle.filters.specs.declared.complementary.Complementary.{Complementary}
use Rattle.filters.specs.Lowpass.{alpha0_of, lowpass_of, set_dt_lowpass, set_tau_lowpass}
use Rattle.filters.specs.Lowpass2.{set_dt_lowpass2, configure_lowpass2}
use Rattle.filters.specs.Highpass.{highpass_of, new_highpass, set_dt_highpass, set_tau_highpass}
use Rattle.filters.specs.Complementary.{new_complementary, set_dt_complementary, set_tau_complementary}
use Rattle.filters.specs.LowpassLaws.{Off, new_passing}
use Rattle.filters.specs.Lowpass2Laws.{Off2}
use Rattle.filters.specs.ComplementaryLaws.{ZeroSum}

-- ---- one low pass

one_less_one : F.one -f F.one ≡ F.zero
unfolding Ieee.sub Ieee.add Ieee.neg of_bits
one_less_one = refl

alpha_one_off : (tau dt y : Float) → alpha0_of tau dt ≡ F.one → Off (lowpass_of tau dt y)
unfolding lowpass_of
alpha_one_off tau dt y h = (h, ap (λ (a : Float). F.one -f a) h ∙ one_less_one)

-- where tau + dt is zero, of either sign
pub alpha0_sum_zero : (tau dt : Float) → eq (tau +f dt) F.zero ≡ true → alpha0_of tau dt ≡ F.one
unfolding alpha0_of
alpha0_sum_zero tau dt h = simp h

pub sum-zero_off : (tau dt y : Float) → eq (tau +f dt) F.zero ≡ true → Off (lowpass_of tau dt y)
sum-zero_off tau dt y h = alpha_one_off tau dt y (alpha0_sum_zero tau dt h)

-- as it is where tau is the opposite of a finite dt
pub opposite_off : (dt y : Float) → finite dt ≡ true → Off (lowpass_of (Ieee.neg dt) dt y)
unfolding of_bits
opposite_off dt y h = sum-zero_off (Ieee.neg dt) dt y (ap (λ (x : Float). eq x F.zero) (opposite_add dt h) ∙ zero_equals false (pos 0))

-- everywhere else the coefficients are the Rust's
pub alpha0_sum_not_zero : (tau dt : Float) → eq (tau +f dt) F.zero ≡ false → alpha0_of tau dt ≡ dt /f (tau +f dt)
unfolding alpha0_of
alpha0_sum_not_zero tau dt h = simp h

pub sum_not_zero : (tau dt y : Float) → eq (tau +f dt) F.zero ≡ false
    → ((lowpass_of tau dt y).alpha0 ≡ dt /f (tau +f dt)) × ((lowpass_of tau dt y).alpha1 ≡ F.one -f dt /f (tau +f dt))
unfolding lowpass_of
sum_not_zero tau dt y h =
    let a = alpha0_sum_not_zero tau dt h in
    (a, ap (λ (x : Float). F.one -f x) a)

-- where tau is zero, a filter is off with every finite dt: with zero by the rule, with every other since dt/dt is 1
alpha_of_zero_tau : (s : Bool) (dt : Float) → T (fits binary32 dt) → finite dt ≡ true → alpha0_of (fin s 0 (pos 0)) dt ≡ F.one
unfolding alpha0_of
alpha_of_zero_tau s nan g k = absurd (true≢false (sym k))
alpha_of_zero_tau s (inf t) g k = absurd (true≢false (sym k))
alpha_of_zero_tau s (fin t zero d) g k = rw (zero-fits t d (is_true _ g), zeros_add s t, zero_equals (s && t) (pos 0)) refl
alpha_of_zero_tau s (fin t (suc n) d) g k = rw (zero-add t s n d g, self_div t n d) (either (eq (fin t (suc n) d) F.zero))
  where
    either : (b : Bool) → cond b F.one F.one ≡ F.one
    either true = refl
    either false = refl

pub tau_zero_off : (tau dt y : Float) → T (fits binary32 tau) → T (fits binary32 dt) → eq tau F.zero ≡ true → finite dt ≡ true → Off (lowpass_of tau dt y)
tau_zero_off tau dt y f g h k =
    let z = zero_is tau (is_true _ f) h in
    alpha_one_off tau dt y (ap (λ (t : Float). alpha0_of t dt) z.1 ∙ alpha_of_zero_tau z.0 dt g k)

-- the setters keep the last answer, so switching a filter off does not heal one that has NaN in it
pub set_dt_off : (s : Lowpass) (dt : Float) → eq (s.tau +f dt) F.zero ≡ true → Off (set_dt_lowpass s dt) × ((set_dt_lowpass s dt).y ≡ s.y)
unfolding set_dt_lowpass lowpass_of
set_dt_off s dt h = (sum-zero_off s.tau dt s.y h, refl)

pub set_tau_off : (s : Lowpass) (tau : Float) → eq (tau +f s.dt) F.zero ≡ true → Off (set_tau_lowpass s tau) × ((set_tau_lowpass s tau).y ≡ s.y)
unfolding set_tau_lowpass lowpass_of
set_tau_off s tau h = (sum-zero_off tau s.dt s.y h, refl)

-- whatever it was: after both setters, in either order, it is the filter for that tau and dt that last gave what it gave
pub set_both : (s : Lowpass) (tau dt : Float) → (set_dt_lowpass (set_tau_lowpass s tau) dt ≡ lowpass_of tau dt s.y) × (set_tau_lowpass (set_dt_lowpass s dt) tau ≡ lowpass_of tau dt s.y)
unfolding set_dt_lowpass set_tau_lowpass lowpass_of
set_both s tau dt = (refl, refl)

-- ---- two in a row

-- the setters switch off each stage for itself
pub set_dt_off2 : (s : NthOrderLowpass) (dt : Float) → eq (s.first.tau +f dt) F.zero ≡ true → eq (s.second.tau +f dt) F.zero ≡ true → Off2 (set_dt_lowpass2 s dt)
unfolding set_dt_lowpass2
set_dt_off2 s dt h k = ((set_dt_off s.first dt h).0, (set_dt_off s.second dt k).0)

pub configure_off2 : (s : NthOrderLowpass) (tau : Float) → eq (tau +f s.first.dt) F.zero ≡ true → eq (tau +f s.second.dt) F.zero ≡ true → Off2 (configure_lowpass2 s tau)
unfolding configure_lowpass2
configure_off2 s tau h k = ((set_tau_off s.first tau h).0, (set_tau_off s.second tau k).0)

-- ---- the complementary filter, whose high pass then has an alpha that is an infinity or NaN

pub new_zero_sum : (tau dt : Float) → eq (tau +f dt) F.zero ≡ true → ZeroSum (new_complementary tau dt)
unfolding new_complementary new_highpass highpass_of
new_zero_sum tau dt h = ((new_passing tau dt (sum-zero_off tau dt F.zero h)).0, div-zero tau (tau +f dt) h)

pub set_dt_zero_sum : (s : Complementary) (dt : Float) → eq (s.lp_filter.tau +f dt) F.zero ≡ true → eq (s.hp_filter.tau +f dt) F.zero ≡ true → ZeroSum (set_dt_complementary s dt)
unfolding set_dt_complementary set_dt_highpass highpass_of
set_dt_zero_sum s dt h k = ((set_dt_off s.lp_filter dt h).0, div-zero s.hp_filter.tau (s.hp_filter.tau +f dt) k)

pub set_tau_zero_sum : (s : Complementary) (tau : Float) → eq (tau +f s.lp_filter.dt) F.zero ≡ true → eq (tau +f s.hp_filter.dt) F.zero ≡ true → ZeroSum (set_tau_complementary s tau)
unfolding set_tau_complementary set_tau_highpass highpass_of
set_tau_zero_sum s tau h k = ((set_tau_off s.lp_filter tau h).0, div-zero tau (tau +f s.hp_filter.dt) k)
