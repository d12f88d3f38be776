-- The bank: a call is the lane's step at the lane that it names, and nothing else changes. 8 comes before all else.
use Rattle.std.specs.Prelude.{◌≡◌, Some, cond, ℕ, ltb, length, get_or, set, replicate}
use Rattle.refusal.specs.declared.Refusal.TheVariants as Refusal
use Rattle.refusal.specs.Answers.{Answer}
use Rattle.bank.specs.declared.lane.Lane.{Lane}
use Rattle.bank.specs.declared.lane.Op.{Op}
use Rattle.bank.specs.declared.lane.Reply.{Reply}
use Rattle.bank.specs.declared.lane.Called.{Called}
use Rattle.bank.specs.declared.Bank.{Bank}
use Rattle.bank.specs.Lane.{closed_lane, called, plain, call_lane}

unfoldable pub fresh_bank : Bank
fresh_bank = record { lanes = replicate 8 closed_lane }

-- as every bank of the code has
abbrev pub Eight : Bank → Type 0
Eight b = length b.lanes ≡ 8

-- the lane of that number
abbrev pub lane_at : Bank → ℕ → Lane
lane_at b i = get_or b.lanes i closed_lane

-- that lane replaced
abbrev pub put : Bank → ℕ → Lane → Bank
put b i l = record { lanes = set b.lanes i l }

abbrev pub banked : Answer Reply → Bank → Called Bank
banked a b = called a b

abbrev pub placed : Bank → ℕ → Called Lane → Called Bank
placed b i next = banked next.answer (put b i next.state)

unfoldable pub call_bank : Bank → ℕ → Op → Called Bank
call_bank b i op = cond (ltb 7 i) (banked (plain (Some Refusal.Lane)) b) (placed b i (call_lane (lane_at b i) op))
