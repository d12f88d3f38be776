use Rattle.bench_updates.specs.Updates.{PidRun}
use Rattle.bench_updates.proofs.plumradek_updates.Given as goal

abbrev pub invariant-loop-i : goal.invariant-loop-i
invariant-loop-i l = PidRun l.settings l.cells l.initial.out l.i-end l.i l.pid l.out
