use Rattle.std.proofs.Common.{◌≡◌, ◌+◌, ◌<◌, ◌∷◌, ◌++◌, ℕ, List, length, take, set, ◌∙◌, append_assoc, arith}
use Rattle.std.proofs.lemmas.List.{take_more_set}
use Rattle.airframe.specs.AirframeLaws.{all_written, frame_on, frame_end}
use Rattle.airframe.specs.declared.Motor.{Motor}
use Rattle.airframe.proofs.Measures.place.Goals as goal

-- one motor more is in its place
put_motor : (l rest left whole : List Motor) (i : ℕ) (m : Motor) → i < length l → left ≡ m ∷ rest → take i l ++ left ≡ whole → take (i + 1) (set l i m) ++ rest ≡ whole
put_motor l rest left whole i m h e so_far = rw (take_more_set l i m h, append_assoc) (rw e at so_far)

pub loop-i-preserved : goal.loop-i-preserved
loop-i-preserved c =
    let a = c.args in
    let on = frame_on a.first (length a.out.now) c.requires a.self c.loop-i.i c.loop-i-test.true in
    put_motor _ _ _ _ _ _ (omega arith) (on ∙ cc) c.loop-i.invariant

pub returns : goal.returns
returns c =
    let a = c.args in
    let done : c.loop-i.i ≡ length a.out.now = omega arith in
    all_written c.loop-i.out (length a.out.now) _ _ (omega arith) (frame_end a.first (length a.out.now) c.requires a.self) (rw done at c.loop-i.invariant)
