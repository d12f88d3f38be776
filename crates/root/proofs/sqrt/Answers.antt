use lib.Ieee.{binary32, to_bits}
use Rattle.root.specs.Values.{no_sign, some_bits}
use Rattle.root.proofs.Assemble.{normal-parts}
use Rattle.root.proofs.Ties.{held}
use Rattle.root.proofs.sqrt.Goals as goal

pub subnormal_parts-requires : goal.subnormal_parts-requires
subnormal_parts-requires c = (some_bits c.args.x (held _ c.well_formed.0.1) c.if-x.true, c.if-b-lt8388608.true)

pub quick-requires-then-b-lt2139095040 : goal.quick-requires-then-b-lt2139095040
quick-requires-then-b-lt2139095040 c =
    let above = c.if-x.true in
    (above, c.if-b-lt2139095040.true, normal-parts (to_bits binary32 c.args.x) c.if-b-lt8388608.false (no_sign c.args.x (held _ c.well_formed.0.1) above))
