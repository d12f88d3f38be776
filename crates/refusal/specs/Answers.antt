-- What a call answers that can be refused: its results, or the refusal beside the results that are fixed for it.
use Rattle.std.specs.Prelude.{ℕ, Bool, true, false, Option, Some, None, Result, Ok, Err}
use Rattle.refusal.specs.declared.Refusal.{Refusal}
use Rattle.refusal.specs.declared.Refused.{Refused}
use Rattle.refusal.specs.Refusal.{number_of}

abbrev pub Answer : Type 0 → Type 0
Answer A = Result A (Refused A)

abbrev pub refused : {A : Type 0} → Refusal → A → Answer A
refused why a = Err (record { refusal = why; answer = a })

-- the results, those of a refused call too
abbrev pub given : {A : Type 0} → Answer A → A
given (Ok a) = a
given (Err r) = r.answer

-- what the call is refused with, if it is
abbrev pub refusal_of : {A : Type 0} → Answer A → Option Refusal
refusal_of (Ok a) = None
refusal_of (Err r) = Some r.refusal

-- the answer of a call that is refused with this, if with anything, and has these results either way
abbrev pub answer_of : {A : Type 0} → Option Refusal → A → Answer A
answer_of None a = Ok a
answer_of (Some why) a = refused why a

-- the refusal's number, 0 where nothing is refused
abbrev pub refusal_number : Option Refusal → ℕ
refusal_number None = 0
refusal_number (Some why) = number_of why

-- nothing is refused
abbrev pub passes : Option Refusal → Bool
passes None = true
passes (Some why) = false

-- the first of two refusals
abbrev pub first_refusal : Option Refusal → Option Refusal → Option Refusal
first_refusal None b = b
first_refusal (Some why) b = Some why
