use Rattle.std.proofs.Common.{◌≡◌, ◌-◌, ◌*◌, drop}
use Rattle.bank.specs.BankRuns.{after}
use Rattle.trace.specs.LanesInTurn.{in_turn, read_each}
use Rattle.trace.specs.Trace.{open_of, opened_bank}
use Rattle.trace.proofs.opening.opened.Given as goal

abbrev pub invariant-loop-lane : goal.invariant-loop-lane
invariant-loop-lane l = after l.bank (in_turn l.lane (read_each open_of 20 (l.k - l.lane) (drop (l.lane * 20) l.settings))) ≡ opened_bank l.k l.settings
