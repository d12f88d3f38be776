-- What the definitions of Airframe.antt give, motor by motor. Assumes nothing.
use Rattle.std.specs.Prelude.{◌≡◌, refl, Bool, true, false, cond, List, [], ◌∷◌, ◌++◌, ℕ, zero, suc, ◌+◌, ◌*◌, ◌≤◌, ◌<◌, get_or, take, drop, set, replicate, ℤ, Some, None, Float}
use Rattle.std.proofs.Math.Path.{sym}
use Rattle.std.proofs.Common.{ap, ◌∙◌, append_assoc, append-nil, add-one, arith, length-append, drop_of_length-le, take_at, take_all, take-suc-set, get_or-take, get_or-drop, lt-ltb}
use Rattle.std.proofs.Math.ListN.{length, length-drop}
use Rattle.std.proofs.lemmas.List.{length-replicate, replicate-append-replicate}
use Rattle.std.proofs.Math.Seq.{drop-cons, length-take-le}
use Rattle.std.proofs.lemmas.List.Edits.{sets, sets-eq}
use Rattle.std.specs.Float.Ieee as Ieee
use Rattle.std.specs.Float.{nan, inf, fin}
use Rattle.std.specs.Float.Ieee.{lt, of_bits}
use Rattle.std.specs.Float.Ieee.Positive.{positive}
use Rattle.float.specs.FloatLaws.{above_zero, zero_not_above}
use Rattle.lemmas.specs.Cases.{when_true, when_false}
use Rattle.refusal.specs.declared.Refusal.TheVariants as Refusal
use Rattle.float.specs.F32 as F
use Rattle.refusal.specs.Answers as Answers
use Rattle.airframe.specs.declared.Sign.TheVariants.{Nought}
use Rattle.airframe.specs.declared.Signs.{Signs}
use Rattle.airframe.specs.declared.Measures.{Measures}
use Rattle.airframe.specs.declared.Motor.{Motor}
use Rattle.airframe.specs.declared.PerRow.{PerRow}
use Rattle.airframe.specs.Airframe as A
use Rattle.airframe.specs.Airframe.{column, divided, four, sums_of, good_sum, good_sums, entries, zeros, refusal_of, matrix_of, signs, table, signs_at, rows_from, frame_motor, frame, dev_quad_motor_setup}

-- ---- lengths
pub length-entries : (s : PerRow) (ms : List Motor) → length (entries s ms) ≡ 4 * length ms
unfolding entries four
length-entries s [] = refl
length-entries s (m ∷ ms) = omega (arith, length-entries s ms)

matrix_length : (ms : List Motor) (b : Bool) → length (cond b (entries (sums_of ms) ms) (zeros (4 * length ms))) ≡ 4 * length ms
unfolding zeros
matrix_length ms true = length-entries (sums_of ms) ms
matrix_length ms false = length-replicate _ _

pub length_matrix : (ms : List Motor) → length (matrix_of ms) ≡ 4 * length ms
unfolding matrix_of
length_matrix ms = matrix_length ms (good_sums (sums_of ms))

-- ---- a sum is good exactly where it is a finite number above 0

-- each number is below +infinity
below_infinity : (m : ℕ) (e : ℤ) → lt (fin false m e) (inf false) ≡ true
unfolding lt
below_infinity m e = refl

not_a_number : good_sum nan ≡ false
unfolding good_sum lt of_bits
not_a_number = refl

infinite : (s : Bool) → good_sum (inf s) ≡ false
unfolding good_sum lt of_bits
infinite true = refl
infinite false = refl

below : (m : ℕ) (e : ℤ) → good_sum (fin true m e) ≡ false
unfolding good_sum lt of_bits
below m e = refl

pub good_sum_lem : (s : Float) → good_sum s ≡ positive s
unfolding good_sum
good_sum_lem nan = not_a_number
good_sum_lem (inf s) = infinite s
good_sum_lem (fin true m e) = below m e
good_sum_lem (fin false zero e) = rw (zero_not_above e)
good_sum_lem (fin false (suc m) e) = rw (above_zero m e, below_infinity (suc m) e, lt-ltb 0 (suc m) (omega arith))

-- ---- the answer where every row's sum is good, and where one is not
module _ (ms : List Motor) where
  pub refusal_good : good_sums (sums_of ms) ≡ true → refusal_of ms ≡ None
  unfolding refusal_of
  refusal_good h = sym (when_true _ _ _ h)

  pub refusal_bad : good_sums (sums_of ms) ≡ false → refusal_of ms ≡ Some Refusal.RowSum
  unfolding refusal_of
  refusal_bad h = sym (when_false _ _ _ h)

  pub matrix_good : good_sums (sums_of ms) ≡ true → matrix_of ms ≡ entries (sums_of ms) ms
  unfolding matrix_of
  matrix_good h = sym (when_true _ _ _ h)

  pub matrix_bad : good_sums (sums_of ms) ≡ false → matrix_of ms ≡ zeros (4 * length ms)
  unfolding matrix_of
  matrix_bad h = sym (when_false _ _ _ h)

-- ---- the meaning: motor i's four numbers are its column, each entry divided by the sum of its row
entries_at : (s : PerRow) (ms : List Motor) (i : ℕ) (d : Motor) → i < length ms → take 4 (drop (4 * i) (entries s ms)) ≡ four (divided (column (get_or ms i d)) s)
unfolding entries four
entries_at s [] i d h = absurd (omega arith)
entries_at s (m ∷ ms) zero d h = refl
entries_at s (m ∷ ms) (suc i) d h =
    let e : 4 * suc i ≡ suc (suc (suc (suc (4 * i)))) = omega arith in
    rw e (entries_at s ms i d (omega arith))

pub mixing_at : (ms : List Motor) (i : ℕ) (d : Motor) → i < length ms → good_sums (sums_of ms) ≡ true → take 4 (drop (4 * i) (matrix_of ms)) ≡ four (divided (column (get_or ms i d)) (sums_of ms))
mixing_at ms i d h g = rw (matrix_good ms g) (entries_at (sums_of ms) ms i d h)

-- ---- a frame's motors, from a row of the table on
module _ (first count : ℕ) (fits : first + count ≤ 8) where
  pub length-rows : length (rows_from first count) ≡ count
  unfolding rows_from table
  length-rows = length-take-le count (drop first table) (rw length-drop (omega arith))

  row_at : (m : ℕ) → m < count → get_or (rows_from first count) m (signs Nought Nought Nought) ≡ signs_at (first + m)
  unfolding rows_from signs_at
  row_at m h = rw (get_or-take, get_or-drop)

  pub frame_on : (measures : Measures) (m : ℕ) → m < count
      → frame measures (drop m (rows_from first count)) ≡ frame_motor measures (signs_at (first + m)) ∷ frame measures (drop (m + 1) (rows_from first count))
  unfolding frame
  frame_on measures m h =
      let p : m < length (rows_from first count) = rw length-rows h in
      rw (add-one, drop-cons (rows_from first count) m (signs Nought Nought Nought) p, row_at m h)

  pub frame_end : (measures : Measures) → frame measures (drop count (rows_from first count)) ≡ []
  unfolding frame
  frame_end measures =
      let p : length (rows_from first count) ≤ count = omega (arith, length-rows) in
      rw (drop_of_length-le (rows_from first count) p)

pub length_frame : (measures : Measures) (ss : List Signs) → length (frame measures ss) ≡ length ss
unfolding frame
length_frame measures [] = refl
length_frame measures (s ∷ ss) = ap suc (length_frame measures ss)

-- ---- a run that is written from its start: what stands before k, with the numbers written at k behind it
module _ (l : List Float) (k : ℕ) where
  take_sets : (vs : List Float) → k + length vs ≤ length l → take (k + length vs) (sets l k vs) ≡ take k l ++ vs
  take_sets vs h =
      let e : length (take k l ++ vs) ≡ k + length vs = rw (length-append, length-take-le k l (omega arith)) in
      rw (sets-eq vs l k h) (take_at _ _ _ e)

  more : (vs rest whole : List Float) → k + length vs ≤ length l → take k l ++ (vs ++ rest) ≡ whole → take (k + length vs) (sets l k vs) ++ rest ≡ whole
  more vs rest whole h e = rw (take_sets vs h, append_assoc) e

  pub three_more : (a b c : Float) (rest whole : List Float) → k + 3 ≤ length l → take k l ++ (a ∷ b ∷ c ∷ rest) ≡ whole
      → take (k + 3) (set (set (set l k a) (k + 1) b) (k + 2) c) ++ rest ≡ whole
  three_more a b c rest whole h e =
      let p : k + 1 ≡ suc k = omega arith in
      let q : k + 2 ≡ suc (suc k) = omega arith in
      rw (p, q) (more (a ∷ b ∷ c ∷ []) rest whole h e)

  pub four_more : (a b c d : Float) (rest whole : List Float) → k + 4 ≤ length l → take k l ++ (a ∷ b ∷ c ∷ d ∷ rest) ≡ whole
      → take (k + 4) (set (set (set (set l k a) (k + 1) b) (k + 2) c) (k + 3) d) ++ rest ≡ whole
  four_more a b c d rest whole h e =
      let p : k + 1 ≡ suc k = omega arith in
      let q : k + 2 ≡ suc (suc k) = omega arith in
      let r : k + 3 ≡ suc (suc (suc k)) = omega arith in
      rw (p, q, r) (more (a ∷ b ∷ c ∷ d ∷ []) rest whole h e)

pub all_written : {A : Type 0} (l : List A) (k : ℕ) (rest whole : List A) → length l ≡ k → rest ≡ [] → take k l ++ rest ≡ whole → l ≡ whole
all_written l k rest whole h e i = sym (append-nil l) ∙ rw (take_all k l (omega arith), e) at i

pub zero_more : (l : List Float) (k : ℕ) → k < length l → take k l ≡ zeros k → take (k + 1) (set l k F.zero) ≡ zeros (k + 1)
unfolding zeros
zero_more l k h e = rw (add-one, take-suc-set l k F.zero h, e) (replicate-append-replicate k 1 F.zero ∙ ap (λ (n : ℕ). replicate n F.zero) (add-one k))

pub all_zeros : (l : List Float) (k n : ℕ) → take k l ≡ zeros k → k ≡ length l → length l ≡ n → l ≡ zeros n
all_zeros l k n e h q = rw (← q, ← h) (sym (take_all k l (omega arith)) ∙ e)

-- ---- the Rust's constant frame is not refused
pub dev_quad_accepted : Answers.refusal_of dev_quad_motor_setup ≡ None
unfolding Ieee.of_bits Ieee.add Ieee.mul Ieee.div Ieee.neg Ieee.lt
    A.column A.add_squares A.sums A.sums_of A.good_sum A.good_sums A.refusal_of A.table A.rows_from A.signed A.frame_motor A.frame A.dir_of A.quad_motors A.mixed A.quad A.call_quad_x_basic A.dev_quad_motor_setup
dev_quad_accepted = refl
