-- A call on the bank's lane, whatever stands past the lanes. Assumes nothing.
use Rattle.std.specs.Prelude.{◌≡◌, ℕ, ◌≤◌, length, get_or}
use Rattle.std.proofs.Common.{arith, le-ltb}
use Rattle.lemmas.specs.Lists.{any-default}
use Rattle.bank.specs.declared.lane.Lane.{Lane}
use Rattle.bank.specs.declared.lane.Op.{Op}
use Rattle.bank.specs.declared.lane.Called.{Called}
use Rattle.bank.specs.declared.Bank.{Bank}
use Rattle.bank.specs.Lane.{closed_lane, call_lane}
use Rattle.bank.specs.Bank.{put, banked, call_bank}

pub placing : (b : Bank) (i : ℕ) (op : Op) → i ≤ 7 → length b.lanes ≡ 8 → (d : Lane) (next : Called Lane) → next ≡ call_lane (get_or b.lanes i d) op
    → banked next.answer (put b i next.state) ≡ call_bank b i op
unfolding call_bank
placing b i op h n d next e = simp (le-ltb 7 i h, e, any-default b.lanes i d closed_lane (omega (arith, n)))
