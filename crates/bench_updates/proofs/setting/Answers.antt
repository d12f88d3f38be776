use lib.ListN.{get_or-eq_default}
use lib.Ieee.{nan, of_bits}
use mathlib.Core.Path.{sym}
use Rattle.bench_updates.proofs.setting.Goals as goal

pub returns-else-i-s : goal.returns-else-i-s
unfolding of_bits
returns-else-i-s c = sym (get_or-eq_default c.args.s.now nan c.if-i-s.false)
