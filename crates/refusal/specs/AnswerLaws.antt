-- An answer is its refusal, if it has one, and its results. Assumes nothing.
use Rattle.std.specs.Prelude.{◌≡◌, refl, false, eqb, Option, Some, None, Ok, Err}
use Rattle.std.proofs.Common.{sym, ap, ◌∙◌, true≢false, ne_eqb}
use Rattle.refusal.specs.declared.Refusal.{Refusal}
use Rattle.refusal.specs.Refusal.{number_of}
use Rattle.refusal.specs.RefusalLaws.{number_not_zero}
use Rattle.refusal.specs.Answers.{Answer, given, refusal_of, refusal_number, answer_of, passes}

pub answer_given : {A : Type 0} (why : Option Refusal) (a : A) → given (answer_of why a) ≡ a
answer_given None a = refl
answer_given (Some why) a = refl

pub answer_refusal : {A : Type 0} (why : Option Refusal) (a : A) → refusal_of (answer_of why a) ≡ why
answer_refusal None a = refl
answer_refusal (Some why) a = refl

pub answer_parts : {A : Type 0} (r : Answer A) → answer_of (refusal_of r) (given r) ≡ r
answer_parts (Ok a) = refl
answer_parts (Err r) = refl

pub refused_not_none : (why : Option Refusal) → passes why ≡ false → why ≡ None → ⊥
refused_not_none why h e = true≢false (sym (ap passes e) ∙ h)

-- the number is 0 exactly where nothing is refused
pub passes_number : (why : Option Refusal) → passes why ≡ eqb (refusal_number why) 0
passes_number None = refl
passes_number (Some why) = sym (ne_eqb (number_of why) 0 (number_not_zero why))
