use Rattle.bench_updates.specs.Updates.{start, turn, ended, pid_after, out_after, update_at}
use native.Mathlib.Omega.{arith}
use Rattle.bench_updates.proofs.plumradek_updates.Goals as goal

pub loop-i-init : goal.loop-i-init
loop-i-init c = start _ _ _ _ _ _ _ _ c.updates_in-i-end.ensures c.new-pid.ensures

pub loop-i-preserved : goal.loop-i-preserved
unfolding update_at
loop-i-preserved c = rw c.given.ensures (turn _ _ _ _ _ _ _ _ _ _ c.loop-i.invariant (omega arith) _ c.update-next.ensures)

pub returns : goal.returns
unfolding out_after pid_after
returns c = ended _ _ _ _ _ _ _ _ _ _ c.loop-i.invariant (omega arith)
