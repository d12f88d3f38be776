use mathlib.Core.Path.{sym, ◌∙◌}
use Rattle.float.proofs.Ties.{nan_bits, number_bits}
use Rattle.float.proofs.to_bits.Goals as goal

pub returns-then-is_nan : goal.returns-then-is_nan
returns-then-is_nan c = nan_bits _ (sym c.is_nan.ensures.value ∙ c.if-is_nan.true)

pub float_to_bits-result : goal.float_to_bits-result
float_to_bits-result c = number_bits _ (sym c.is_nan.ensures.value ∙ c.if-is_nan.false)
