use mathlib.Core.Path.{sym, subst}
use Prim.Native.Nat.{ℕ, ◌+◌}
use native.Mathlib.Nat.{add-zero}
use native.Mathlib.Omega.{arith}
use Rattle.root.specs.Post.{IsRounded}
use Rattle.root.specs.NearLaws.{one_more, near_above, near_below}
use Rattle.root.proofs.Assemble.{is_rounded}
use Rattle.root.proofs.step.Goals as goal

pub returns-then-n-g : goal.returns-then-n-g
returns-then-n-g c = subst (λ (r : ℕ). IsRounded c.args.n r) (sym (add-zero c.args.g)) (is_rounded c.args.n c.args.g c.requires.0 c.requires.1 (near_above c.args.n c.args.g c.requires.3) (omega arith))

pub returns-else-n-g : goal.returns-else-n-g
returns-else-n-g c = is_rounded c.args.n (c.args.g + 1) c.requires.0 c.requires.1 (rw one_more (omega arith)) (near_below c.args.n c.args.g c.requires.3)
