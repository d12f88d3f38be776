-- The numbers have at most two digits, and none is 0. Assumes nothing.
use Rattle.std.specs.Prelude.{◌≡◌, ◌<◌}
use Rattle.std.proofs.Common.{arith}
use Rattle.refusal.specs.declared.Refusal.{Refusal}
use Rattle.refusal.specs.declared.Refusal.TheVariants.{Range, Tau, Slew, Alpha, Points, Steps, Motor, Lane, Closed, Open, Magic, Header, Kind, Shape, Cut, Rest, RowSum, Window, ShortRun}
use Rattle.refusal.specs.Refusal.{number_of}

pub number_small : (why : Refusal) → number_of why < 100
number_small Range = omega arith
number_small Tau = omega arith
number_small Slew = omega arith
number_small Alpha = omega arith
number_small Points = omega arith
number_small Steps = omega arith
number_small Motor = omega arith
number_small Lane = omega arith
number_small Closed = omega arith
number_small Open = omega arith
number_small Magic = omega arith
number_small Header = omega arith
number_small Kind = omega arith
number_small Shape = omega arith
number_small Cut = omega arith
number_small Rest = omega arith
number_small RowSum = omega arith
number_small Window = omega arith
number_small ShortRun = omega arith

pub number_not_zero : (why : Refusal) → number_of why ≡ 0 → ⊥
number_not_zero Range h = omega arith
number_not_zero Tau h = omega arith
number_not_zero Slew h = omega arith
number_not_zero Alpha h = omega arith
number_not_zero Points h = omega arith
number_not_zero Steps h = omega arith
number_not_zero Motor h = omega arith
number_not_zero Lane h = omega arith
number_not_zero Closed h = omega arith
number_not_zero Open h = omega arith
number_not_zero Magic h = omega arith
number_not_zero Header h = omega arith
number_not_zero Kind h = omega arith
number_not_zero Shape h = omega arith
number_not_zero Cut h = omega arith
number_not_zero Rest h = omega arith
number_not_zero RowSum h = omega arith
number_not_zero Window h = omega arith
number_not_zero ShortRun h = omega arith
