-- What the run theorem speaks of; the laws stand in proofs/RunLaws.antt.
use Rattle.std.specs.Prelude.{◌≡◌, ℕ}
use Rattle.bank.specs.declared.Bank.{Bank}
use Rattle.bank.specs.Single.{Single}
use Rattle.bank.specs.SingleLaws.{lane_of, Good}
use Rattle.bank.specs.Bank.{Eight, lane_at}

-- a controller lies in lane L of a bank
pub record Lies (L : ℕ) (b : Bank) (c : Single) : Type 0 where
  pub eight : Eight b
  pub here : lane_at b L ≡ lane_of c
  pub good : Good c
