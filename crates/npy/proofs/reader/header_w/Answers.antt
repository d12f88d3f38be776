use native.Mathlib.Nat.{lt_of_lt_of_le, pow-le-pow_right}
use lib.Dec.{lit<}
use Rattle.npy.specs.HeaderLaws.{length_cut, text_length_lem, text_misfits, text_read, fits-parts, text-short}
use mathlib.Core.Path.{sym, ◌∙◌}
use native.Mathlib.Omega.{arith}
use Rattle.npy.proofs.reader.header_w.Goals as goal

pub slice_bounds-read_text-end : goal.slice_bounds-read_text-end
slice_bounds-read_text-end c = omega (arith, (fits-parts _ _ _ (sym c.text_fits.ensures ∙ c.if-not-text_fits.false)).2)

pub returns-then-s-b : goal.returns-then-s-b
returns-then-s-b c = c.refused.ensures ∙ length_cut _ _ c.if-s-b.true

pub text_fits-requires : goal.text_fits-requires
text_fits-requires c = (lt_of_lt_of_le c.low_first-n.ensures.1 (pow-le-pow_right {n = 256} (lit< tt) {i = c.args.w} {j = 4} c.requires), omega arith)

pub returns-then-not-text_fits : goal.returns-then-not-text_fits
returns-then-not-text_fits c = c.refused-then-not-text_fits.ensures ∙ text_misfits _ _ _ _ (text_length_lem _ _ _ c.low_first-n.ensures.0) c.text_fits.ensures c.if-not-text_fits.true

pub overflow_add-e : goal.overflow_add-e
overflow_add-e c = omega (arith, (fits-parts _ _ _ (sym c.text_fits.ensures ∙ c.if-not-text_fits.false)).2)

pub read_text-requires : goal.read_text-requires
read_text-requires c = text-short _ _ _ (fits-parts _ _ _ (sym c.text_fits.ensures ∙ c.if-not-text_fits.false)).1

pub returns : goal.returns
returns c = c.read_text.ensures ∙ text_read _ _ _ _ c.if-s-b.false (text_length_lem _ _ _ c.low_first-n.ensures.0) c.text_fits.ensures c.if-not-text_fits.false
