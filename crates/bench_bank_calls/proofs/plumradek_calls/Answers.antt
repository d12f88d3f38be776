use Rattle.bench_updates.specs.Updates.{start, turn, ended}
use Rattle.bench_bank_calls.specs.Calls.{bank_after, bank_out_after, call_in_turn}
use native.Mathlib.Omega.{arith}
use Rattle.bench_bank_calls.proofs.plumradek_calls.Goals as goal

pub loop-i-init : goal.loop-i-init
loop-i-init c = start _ _ _ _ _ _ _ _ c.updates_in-i-end.ensures c.eight-bank.ensures

pub loop-i-preserved : goal.loop-i-preserved
unfolding call_in_turn
loop-i-preserved c = rw c.given.ensures (turn _ _ _ _ _ _ _ _ _ _ c.loop-i.invariant (omega arith) _ c.update-next.ensures)

pub returns : goal.returns
unfolding bank_out_after bank_after
returns c = ended _ _ _ _ _ _ _ _ _ _ c.loop-i.invariant (omega arith)
