-- The root keeps the rule of IEEE 754. It stands beside the functions' proofs, so that an edit of `nearest_at` is refused where that is proved.
-- Assumes nothing.
use Rattle.std.specs.Prelude.{◌≡◌, true, false, T, Float}
use Rattle.std.proofs.Common.{subst}
use Rattle.std.specs.Float.{inf, binary32}
use Rattle.std.specs.Float.Ieee.{lt, fits, of_bits}
use Rattle.float.specs.F32 as F
use Rattle.root.specs.Root.{root, root_bits}
use Rattle.root.specs.RootRule.{NearestRoot, nearest_at, is_positive}

-- The root of a binary32 above zero and below infinity keeps the rule, and nothing else does.
pub root-keeps-rule : (x : Float) → T (fits binary32 x) → lt F.zero x ≡ true → lt x (inf false) ≡ true → NearestRoot x (root x)
root-keeps-rule x fit h k = let i = is_positive x fit h k in rw (← i.root_is) (subst (λ (z : Float). NearestRoot z (of_bits binary32 (root_bits i.bits))) i.x_is (nearest_at i.bits i.some i.finite))
