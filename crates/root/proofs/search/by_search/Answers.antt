use mathlib.Core.Path.{sym, ap, ◌∙◌, subst}
use mathlib.Core.Bool.{not}
use lib.Dec.{T}
use lib.Ieee.{binary32, of_bits, to_bits, nan_bits}
use Prim.Native.Nat.{ℕ}
use Rattle.root.specs.Values.{no_sign, some_bits}
use Rattle.root.proofs.Ties.{held, at_infinity, at_number, at_zero, neither, no_nan}
use Rattle.root.proofs.search.by_search.Goals as goal

pub returns-then-b-eq2139095040 : goal.returns-then-b-eq2139095040
returns-then-b-eq2139095040 c = at_infinity c.args.x (held _ c.well_formed.0.1) c.if-b-eq2139095040.true

pub root_bits-requires : goal.root_bits-requires
root_bits-requires c =
    let x = c.args.x in
    (some_bits x (held _ c.well_formed.0.1) c.if-x.true, no_sign x (held _ c.well_formed.0.1) c.if-x.true)

pub float_from_bits-result : goal.float_from_bits-result
float_from_bits-result c =
    let x = c.args.x in
    subst (λ (n : ℕ). T (not (nan_bits binary32 n))) (sym c.root_bits.ensures) (no_nan (to_bits binary32 x) (no_sign x (held _ c.well_formed.0.1) c.if-x.true))

pub returns-then-x : goal.returns-then-x
returns-then-x c = ap (of_bits binary32) c.root_bits.ensures ∙ at_number c.args.x c.if-x.true c.if-b-eq2139095040.false

pub returns-then-x-2 : goal.returns-then-x-2
returns-then-x-2 c = at_zero c.args.x c.if-x-2.true

pub returns : goal.returns
unfolding of_bits
returns c = neither c.args.x c.if-x.false c.if-x-2.false
