-- A run of updates of a bank, one call each, lanes 0 to 7 in turn: three cells an update, one answer each.
use Rattle.std.specs.Prelude.{List, ℕ, ◌+◌, ◌*◌, ◌%◌, get_or, Float}
use Rattle.std.specs.Float.{nan}
use Rattle.refusal.specs.Answers.{given}
use Rattle.bank.specs.declared.lane.Op.TheVariants.{Update}
use Rattle.bank.specs.declared.Bank.{Bank}
use Rattle.bank.specs.declared.lane.Called.{Called}
use Rattle.bank.specs.Bank.{call_bank}
use Rattle.bench_updates.specs.Updates.{state_after, written, Running}
use Rattle.bench_rows.specs.Eight.{eight_of}

-- Call i of the run, on a bank.
unfoldable pub call_in_turn : Bank → List Float → ℕ → Called Bank
call_in_turn b cells i = call_bank b (i % 8) (Update (get_or cells (i * 3) nan) (get_or cells (i * 3 + 1) nan) (get_or cells (i * 3 + 2) nan))

-- The bank after so many calls.
unfoldable pub bank_after : List Float → List Float → ℕ → Bank
bank_after s cells n = state_after (eight_of s 0) (λ b i. (call_in_turn b cells i).state) n

-- The answers in their places after so many calls; the rest as it was.
unfoldable pub bank_out_after : List Float → List Float → ℕ → List Float → List Float
bank_out_after s cells n out = written (λ i. (given (call_in_turn (bank_after s cells i) cells i).answer).y) n out

-- the run on its way
abbrev pub BankRun : List Float → List Float → List Float → ℕ → ℕ → Bank → List Float → Type 0
BankRun s cells = Running (eight_of s 0) (λ b i. call_in_turn b cells i) (λ (u : Called Bank). u.state) (λ (u : Called Bank). (given u.answer).y) cells
