use mathlib.Core.Path.{◌≡◌, sym, ap, ◌∙◌, subst}
use mathlib.Core.Bool.{not}
use Prim.Native.Nat.{ℕ, ◌+◌, ◌*◌, ◌/◌, ◌^◌, ◌<◌}
use native.Mathlib.Nat.{add_assoc}
use native.Mathlib.Omega.{arith}
use lib.Dec.{T}
use lib.Ieee.{binary32, nan_bits, of_bits, to_bits}
use Rattle.root.specs.Root.{root_bits}
use Rattle.root.specs.Post.{PartsIn, IsRounded}
use Rattle.root.proofs.Assemble.{radicand, answer}
use Rattle.root.proofs.Ties.{no_nan, number_wide, at_number}
use Rattle.root.proofs.quick.Goals as goal

-- the parts of the answer, put together, are the pattern of the root
pattern : (b t g d : ℕ) → b < 2 ^ 31 → PartsIn b t → IsRounded (radicand t) (g + d) → t / 2 ^ 24 * 2 ^ 23 + g + d ≡ root_bits b
pattern b t g d B P R = add_assoc (t / 2 ^ 24 * 2 ^ 23) g d ∙ answer b t (g + d) B P R

pub float_from_bits-s : goal.float_from_bits-s
float_from_bits-s c = number_wide _ (omega arith)

pub float_from_bits-result : goal.float_from_bits-result
float_from_bits-result c = subst (λ (n : ℕ). T (not (nan_bits binary32 n))) (sym (pattern (to_bits binary32 c.args.x) c.args.t _ c.step.result (omega arith) c.requires.2 c.step.ensures)) (no_nan (to_bits binary32 c.args.x) (omega arith))

pub returns-then-is_near : goal.returns-then-is_near
returns-then-is_near c = ap (of_bits binary32) (pattern (to_bits binary32 c.args.x) c.args.t _ c.step.result (omega arith) c.requires.2 c.step.ensures) ∙ at_number c.args.x c.requires.0 (λ e. omega arith)
