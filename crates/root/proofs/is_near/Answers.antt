use mathlib.Core.Path.{◌≡◌, refl, sym, ◌∙◌}
use mathlib.Core.Bool.{Bool, true, false}
use Prim.Native.Nat.{ℕ, ◌+◌, ◌-◌, ◌*◌, ◌<◌}
use native.Mathlib.Omega.{arith}
use borrow.Author.Tests.{leb-true, leb-false, le-ltb}
use lib.Dec.{leb}
use Rattle.root.specs.Post.{is_near}
use Rattle.root.specs.NearLaws.{one_more, near, too_low, too_high}
use Rattle.root.proofs.is_near.Goals as goal

left_over : (n g : ℕ) → g * g < n + g → (t : Bool) → leb (n + g - g * g) (4 * g + 2) ≡ t → t ≡ is_near n g
left_over n g h true e = sym (near n g h (rw one_more (omega (arith, leb-true (n + g - g * g) (4 * g + 2) e))))
left_over n g h false e = sym (too_high n g h (rw one_more (omega (arith, leb-false (n + g - g * g) (4 * g + 2) e))))

pub returns-then-square-n : goal.returns-then-square-n
returns-then-square-n c = left_over c.args.n c.args.g c.if-square-n.true (leb (c.args.n + c.args.g - c.args.g * c.args.g) (4 * c.args.g + 2)) refl

pub returns-else-square-n : goal.returns-else-square-n
returns-else-square-n c = le-ltb _ _ c.if-square-n.false ∙ sym (too_low c.args.n c.args.g c.if-square-n.false)
