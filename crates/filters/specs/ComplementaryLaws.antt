-- Laws of a complementary filter whose tau + dt is zero: its low pass is off (LowpassLaws), but its high pass keeps the Rust's formula, so
-- no answer is finite, and a filter made so answers NaN. Assumes nothing.
use Rattle.std.specs.Prelude.{◌≡◌, refl, true, false, Float}
use Rattle.std.specs.Float.{nan}
use Rattle.std.specs.Float.Ieee.{eq}
use Rattle.std.specs.Float.Ieee.Scale.{finite}
use Rattle.float.specs.F32 as F
use Rattle.float.specs.F32.{◌+f◌, ◌-f◌, ◌*f◌, ◌/f◌}
use Rattle.float.specs.OperationLaws.{add_nan, nan_add, mul_nan, nonfinite_mul_zero, div-zero, nonfinite_mul, nonfinite_add, add_nonfinite}
use Rattle.filters.specs.declared.complementary.Complementary.{Complementary}
use Rattle.filters.specs.LowpassLaws.{Off}
use Rattle.filters.specs.Highpass.{highpass_of, new_highpass, step_highpass}
use Rattle.filters.specs.Complementary.{new_complementary, step_complementary}

-- the high pass has the Rust's formula, whatever tau and dt are
pub highpass_alpha : (tau dt y x_prev : Float) → (highpass_of tau dt y x_prev).alpha ≡ tau /f (tau +f dt)
unfolding highpass_of
highpass_alpha tau dt y x_prev = refl

-- what a sum of zero makes of it: its low pass is off, and its high pass has an alpha that is an infinity or NaN
abbrev pub ZeroSum : Complementary → Type 0
ZeroSum s = Off s.lp_filter × (finite s.hp_filter.alpha ≡ false)

-- with such a high pass no answer is finite, and that stays so
pub never_finite : (s : Complementary) (l h : Float) → finite s.hp_filter.alpha ≡ false
    → (finite (step_complementary s l h).y ≡ false) × (finite (step_complementary s l h).state.hp_filter.alpha ≡ false)
unfolding step_complementary step_highpass
never_finite s l h a =
    let p = s.hp_filter in
    (add_nonfinite _ _ (nonfinite_add (p.alpha *f p.y) (p.alpha *f (h -f p.x_prev)) (nonfinite_mul p.alpha p.y a)), a)

-- ---- from `new` on: NaN

-- alpha times the high pass's last answer is NaN
abbrev pub AnswersNan : Complementary → Type 0
AnswersNan s = s.hp_filter.alpha *f s.hp_filter.y ≡ nan

pub new_nan : (tau dt : Float) → eq (tau +f dt) F.zero ≡ true → AnswersNan (new_complementary tau dt)
unfolding new_complementary new_highpass highpass_of
new_nan tau dt h = nonfinite_mul_zero _ (div-zero tau (tau +f dt) h)

pub nan_for_good : (s : Complementary) (l h : Float) → AnswersNan s → ((step_complementary s l h).y ≡ nan) × AnswersNan (step_complementary s l h).state
unfolding step_complementary step_highpass
nan_for_good s l h a =
    let p = s.hp_filter in
    let y : p.alpha *f p.y +f p.alpha *f (h -f p.x_prev) ≡ nan = rw a (nan_add _) in
    (rw y (add_nan _), rw y (mul_nan p.alpha))
