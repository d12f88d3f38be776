use mathlib.Core.Path.{sym, subst}
use Prim.Native.Nat.{ℕ, ◌/◌}
use native.Mathlib.Omega.{arith}
use Rattle.root.proofs.Assemble.{Holds, holds_even, holds_odd, found}
use Rattle.root.proofs.search.root_bits.Goals as goal
use Rattle.root.proofs.search.root_bits.Goals.{then-e-eq1, else-e-eq1}

pub returns : goal.returns
returns c =
    let b = c.args.b in
    let m = c.split-m.result.m in
    let e = c.split-m.result.e in
    let at : ℕ → Type 0 = λ n. Holds b n (e / 2) in
    let held : at c.if-e-eq1.n = elim c.if-e-eq1.branch [
      | then-e-eq1 w ↦ subst at (sym w.n-is) (holds_odd b m e c.split-m.ensures w.if-e-eq1.true)
      | else-e-eq1 w ↦ subst at (sym w.n-is) (holds_even b m e c.split-m.ensures w.if-e-eq1.false)
    ] in
    found b c.if-e-eq1.n (e / 2) c.nearest_root-r.result c.requires.1 (elim c.if-e-eq1.branch [ then-e-eq1 w ↦ omega arith | else-e-eq1 w ↦ omega arith ]) c.nearest_root-r.ensures held
