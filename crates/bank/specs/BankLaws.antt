-- What a call on the bank is refused with. The laws of a call stand in proofs/BankLaws.antt.
use Rattle.std.specs.Prelude.{ℕ, cond, ltb, Option, Some}
use Rattle.refusal.specs.declared.Refusal.{Refusal}
use Rattle.bank.specs.declared.lane.Op.{Op}
use Rattle.bank.specs.declared.Bank.{Bank}
use Rattle.bank.specs.LaneLaws.{needs_open_refusal, lane_refusal}
use Rattle.bank.specs.Bank.{lane_at}

-- 8 first, then the named lane's refusals
unfoldable pub bank_refusal : Bank → ℕ → Op → Option Refusal
bank_refusal b i op = cond (ltb 7 i) (Some Refusal.Lane) (lane_refusal (lane_at b i) op)

unfoldable pub update_refusal : Bank → ℕ → Option Refusal
update_refusal b i = cond (ltb 7 i) (Some Refusal.Lane) (needs_open_refusal (lane_at b i))
