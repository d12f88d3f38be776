use Rattle.bench_bank_calls.specs.Calls.{BankRun}
use Rattle.bench_bank_calls.proofs.plumradek_calls.Given as goal

abbrev pub invariant-loop-i : goal.invariant-loop-i
invariant-loop-i l = BankRun l.settings l.cells l.initial.out l.i-end l.i l.bank l.out
