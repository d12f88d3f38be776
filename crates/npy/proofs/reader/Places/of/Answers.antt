use Rattle.npy.specs.Text.{is_kind_byte, is_digit, is_space}
use Rattle.npy.specs.TextLaws.{end_within, places_of_lem}
use Prim.Native.Nat.{◌+◌}
use native.Mathlib.Omega.{arith}
use Rattle.npy.proofs.reader.Places.of.Goals as goal

pub overflow_add-rows : goal.overflow_add-rows
overflow_add-rows c = omega (arith, c.end_of-kind_end.ensures, (end_within is_kind_byte c.args.t.now 11).1)

pub overflow_add-cols : goal.overflow_add-cols
overflow_add-cols c = omega (arith, c.end_of-kind_end.ensures, c.end_of-rows_end.ensures, (end_within is_kind_byte c.args.t.now 11).1, (end_within is_digit c.args.t.now (c.end_of-kind_end.result + 37)).1)

pub overflow_add-cols_end : goal.overflow_add-cols_end
overflow_add-cols_end c = omega (arith, c.end_of-kind_end.ensures, c.end_of-rows_end.ensures, c.end_of-cols_end.ensures, (end_within is_kind_byte c.args.t.now 11).1, (end_within is_digit c.args.t.now (c.end_of-kind_end.result + 37)).1, (end_within is_digit c.args.t.now (c.end_of-rows_end.result + 2)).1)

pub overflow_add-result : goal.overflow_add-result
overflow_add-result c = omega (arith, c.end_of-kind_end.ensures, c.end_of-rows_end.ensures, c.end_of-cols_end.ensures, c.end_of-feed.ensures, (end_within is_kind_byte c.args.t.now 11).1, (end_within is_digit c.args.t.now (c.end_of-kind_end.result + 37)).1, (end_within is_digit c.args.t.now (c.end_of-rows_end.result + 2)).1, (end_within is_space c.args.t.now (c.end_of-cols_end.result + 4)).1)

pub returns : goal.returns
returns c = places_of_lem _ _ _ _ _ c.end_of-kind_end.ensures c.end_of-rows_end.ensures c.end_of-cols_end.ensures c.end_of-feed.ensures
