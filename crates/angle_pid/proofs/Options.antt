-- A definition over an Option, from what is known in each of its two cases; and std's `or`, which the code calls. Assumes nothing.
use Rattle.std.specs.Prelude.{◌≡◌, refl, Option, Some, None, MatchOption}
use Rattle.std.specs.Option.{option_or}
use Rattle.refusal.specs.declared.Refusal.{Refusal}
use Rattle.refusal.specs.Answers.{first_refusal}

pub at_option : {A B : Type 0} (F : Option A → B) (o : Option A) (r : B) {P : A → Type 0} → MatchOption o (r ≡ F None) P → ((x : A) → P x → r ≡ F (Some x)) → r ≡ F o
at_option F None r h some = h
at_option F (Some x) r h some = some x h

-- `or` answers the first of two refusals
pub or_is_first : (a b : Option Refusal) → option_or a b ≡ first_refusal a b
or_is_first None b = refl
or_is_first (Some why) b = refl
