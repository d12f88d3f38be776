-- A run: a list of calls on a bank, each naming a lane; and the calls of one lane by itself.
use Rattle.std.specs.Prelude.{List}
use Rattle.lanes.specs.Runs.{Machine, answers, left}
use Rattle.lanes.specs.Lanes.{For, for}
use Rattle.refusal.specs.Answers.{Answer}
use Rattle.bank.specs.declared.lane.Lane.{Lane}
use Rattle.bank.specs.declared.lane.Op.{Op}
use Rattle.bank.specs.declared.lane.Reply.{Reply}
use Rattle.bank.specs.declared.Bank.{Bank}
use Rattle.bank.specs.Lane.{call_lane}
use Rattle.bank.specs.Bank.{call_bank}

abbrev pub bank_machine : Machine Bank (For Op) (For (Answer Reply))
bank_machine = record { answer = λ b q. for q.lane (call_bank b q.lane q.thing).answer; next = λ b q. (call_bank b q.lane q.thing).state }

-- the answers of a run
abbrev pub run : Bank → List (For Op) → List (For (Answer Reply))
run b calls = answers bank_machine b calls

-- the bank that it leaves
abbrev pub after : Bank → List (For Op) → Bank
after b calls = left bank_machine b calls

abbrev pub lane_machine : Machine Lane Op (Answer Reply)
lane_machine = record { answer = λ l op. (call_lane l op).answer; next = λ l op. (call_lane l op).state }

-- a lane by itself: its answers to a list of calls, and the lane that they leave
abbrev pub lane_run : Lane → List Op → List (Answer Reply)
lane_run l ops = answers lane_machine l ops

abbrev pub lane_after : Lane → List Op → Lane
lane_after l ops = left lane_machine l ops
