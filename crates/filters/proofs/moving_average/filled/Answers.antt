use Rattle.std.specs.Prelude.{Float}
use Rattle.std.proofs.Common.{◌≡◌, ℕ, ◌-◌, ◌≤◌, List, ◌++◌, length, take, drop}
use Rattle.std.proofs.Math.ListN.{replicate}
use Rattle.std.proofs.lemmas.List.{drop-replicate, length-replicate, length-take-le}
use Rattle.float.specs.F32 as F
use Rattle.filters.specs.MovingAverage.{new_with_value_moving_average}
use Rattle.filters.proofs.moving_average.filled.Goals as goal

-- the first slots are filled, and the rest are as they were
filled_slots : (all n : ℕ) (v z : Float) (front : List Float) → n ≤ all → front ≡ replicate (length (take n (replicate all z))) v → front ++ drop n (replicate all z) ≡ replicate n v ++ replicate (all - n) z
filled_slots all n v z front h e =
    let k : n ≤ length (replicate all z) = rw length-replicate h in
    rw (e, length-take-le n (replicate all z) k, drop-replicate n all z)

pub returns : goal.returns
unfolding new_with_value_moving_average
returns c =
    let a = c.args in
    let e = filled_slots 16 a.length a.value F.zero c.fill.new.self c.requires (c.fill.ensures.after (λ y h. h)) in
    cc
