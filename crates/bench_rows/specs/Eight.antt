-- A fresh bank with all eight lanes opened, each by settings that stand so many numbers after those of the lane before it.
use Rattle.std.specs.Prelude.{◌≡◌, refl, cond, Option, Some, None, List, ℕ, zero, suc, ◌+◌, ◌*◌, Float, get_or}
use Rattle.std.specs.Float.{nan}
use Rattle.std.specs.Float.Ieee.{is_nan}
use Rattle.std.proofs.Common.{arith}
use Rattle.bank.specs.declared.lane.Called.{Called}
use Rattle.bank.specs.declared.lane.Op.{Op}
use Rattle.bank.specs.declared.lane.Op.TheVariants.{Open}
use Rattle.bank.specs.declared.Bank.{Bank}
use Rattle.bank.specs.Bank.{fresh_bank, call_bank}

-- no limit where it is NaN
unfoldable pub limit_of : Float → Option Float
limit_of x = cond (is_nan x) None (Some x)

-- five settings and a limit, from a place on
unfoldable pub open_for : List Float → ℕ → Op
open_for s i = Open (get_or s i nan) (get_or s (i + 1) nan) (get_or s (i + 2) nan) (get_or s (i + 3) nan) (get_or s (i + 4) nan) (limit_of (get_or s (i + 5) nan))

unfoldable pub opened_by : List Float → Bank → ℕ → ℕ → Bank
opened_by s b lane i = (call_bank b lane (open_for s i)).state

-- the first lanes of a fresh bank, one after the other
unfoldable pub lanes_opened : List Float → ℕ → ℕ → Bank
lanes_opened s n zero = fresh_bank
lanes_opened s n (suc i) = opened_by s (lanes_opened s n i) i (n * i)

unfoldable pub eight_of : List Float → ℕ → Bank
eight_of s n = lanes_opened s n 8

-- one lane opened, of settings that were read one by one
pub opens : (s : List Float) (b : Bank) (lane i : ℕ) (kp ki kd tau dt limit : Float) (slew : Option Float) (r : Called Bank) → kp ≡ get_or s i nan → ki ≡ get_or s (i + 1) nan → kd ≡ get_or s (i + 2) nan
    → tau ≡ get_or s (i + 3) nan → dt ≡ get_or s (i + 4) nan → limit ≡ get_or s (i + 5) nan → slew ≡ limit_of limit → r ≡ call_bank b lane (Open kp ki kd tau dt slew) → r.state ≡ opened_by s b lane i
unfolding opened_by open_for
opens s b lane i kp ki kd tau dt limit slew r e0 e1 e2 e3 e4 e5 e6 e = rw (e, e6, e0, e1, e2, e3, e4, e5) refl

-- all eight, one after the other
pub all_open : (s : List Float) (n : ℕ) (b b0 b1 b2 b3 b4 b5 b6 b7 : Bank) → b ≡ fresh_bank → b0 ≡ opened_by s b 0 0 → b1 ≡ opened_by s b0 1 n → b2 ≡ opened_by s b1 2 (n * 2) → b3 ≡ opened_by s b2 3 (n * 3)
    → b4 ≡ opened_by s b3 4 (n * 4) → b5 ≡ opened_by s b4 5 (n * 5) → b6 ≡ opened_by s b5 6 (n * 6) → b7 ≡ opened_by s b6 7 (n * 7) → b7 ≡ eight_of s n
unfolding eight_of lanes_opened
all_open s n b b0 b1 b2 b3 b4 b5 b6 b7 e f0 f1 f2 f3 f4 f5 f6 f7 =
    let z : n * 0 ≡ 0 = omega arith in
    let o : n * 1 ≡ n = omega arith in
    rw (f7, f6, f5, f4, f3, f2, f1, f0, e, z, o) refl
