-- The loop that prints the lines of a trace, some rows at a time. Assumes nothing.
use Rattle.std.specs.Prelude.{◌≡◌, Bool, ℕ, suc, ◌+◌, ◌-◌, ◌*◌, ◌≤◌, ◌<◌, set, take, drop}
use Rattle.std.proofs.Math.Path.{refl, sym, ap}
use Rattle.std.proofs.Common.{◌∙◌, inl, inr, mul_comm, arith, length-drop, take-append-drop, drop_of_length-le}
use mathlib.Core.List.{List, [], ◌∷◌, ◌++◌, append-nil}
use Rattle.std.proofs.Math.Bool.{true, false}
use Rattle.std.proofs.Math.ListN.{length, length-append}
use Rattle.std.proofs.lemmas.List.Edits.{sets}
use Rattle.std.proofs.Math.Seq.{length-sets}
use Rattle.std.proofs.lemmas.List.{drop-set-add, take-set-le}
use Rattle.lemmas.specs.Lists.{sets_append, to_end}
use Rattle.refusal.specs.Answers.{passes}
use Rattle.trace.specs.declared.course.Course.{Course}
use Rattle.trace.specs.declared.course.RowsTaken.{RowsTaken}
use Rattle.trace.specs.Trace.{row_width, row_line, after_row, row_lines, row_refusal, course_lines}
use Rattle.trace.specs.Slices.{rows_tried, call_rows}
use Rattle.trace.specs.Taken.{row-taken, row_cut, rows_cut, spent_lines, row_length, rows_length}
use Rattle.trace.specs.RowsTakenLaws.{TakenRowByRow}
use Rattle.trace.specs.RowsForLaws.{some_tried}
use Rattle.trace.specs.MeasureLaws.{went_here, on_here, place_here, there_here, refused_stops}

-- room for the lines and for the work on a row
pub record Printable (c : Course) (s : List ℕ) (cells values out : ℕ) : Type 0 where
  pub triples : 24 ≤ cells
  pub results : 8 ≤ values
  pub fits : length (course_lines c s) ≤ out

-- what is written so far, and then the lines from here on, are the lines of the whole
pub record Printing (s out₀ : List ℕ) (c₀ : Course) (out : List ℕ) (c : Course) (at o : ℕ) : Type 0 where
  pub text : sets out o (course_lines c (drop at s)) ≡ sets out₀ 0 (course_lines c₀ s)
  pub long : length out ≡ length out₀
  pub fits : o + length (course_lines c (drop at s)) ≤ length out₀
  pub there : at ≤ length s

-- a part of a slice that is written to from its start on
sets_part : (vs l : List ℕ) (o i : ℕ) → take o l ++ sets (drop o l) i vs ≡ sets l (o + i) vs
sets_part [] l o i = take-append-drop o l
sets_part (v ∷ vs) l o i =
    let e : suc (o + i) ≡ o + suc i = omega arith in
    rw (e, ← drop-set-add o l i v, ← take-set-le o l (o + i) v (omega arith)) (sets_part vs (set l (o + i) v) o (suc i))

pub part_put : (vs ys out : List ℕ) (o : ℕ) → ys ≡ sets (take (length out - o) (drop o out)) 0 vs
    → take o out ++ (ys ++ drop (length out - o) (drop o out)) ≡ sets out o vs
part_put vs ys out o e =
    let ys' : ys ≡ sets (drop o out) 0 vs = rw (to_end out o) at e in
    let z : drop (length out - o) (drop o out) ≡ [] = drop_of_length-le (drop o out) {i = length out - o} (rw length-drop (omega arith)) in
    let a : o + 0 ≡ o = omega arith in
    rw (z, append-nil ys, ys') (rw a at (sets_part vs out o 0))

next_length : (n : ℕ) (c : Course) (s : List ℕ) → length (row_lines n c s) ≡ n * (c.lanes * 9)
next_length n c s = rows_length n c s ∙ ap (λ (m : ℕ). n * m) (mul_comm 9 c.lanes)

module _ (s out₀ : List ℕ) (c₀ : Course) where
  pub print_start : length (course_lines c₀ s) ≤ length out₀ → Printing s out₀ c₀ out₀ c₀ 0 0
  print_start h = record { text = refl; long = refl; fits = omega arith; there = omega arith }

  module _ (out : List ℕ) (c : Course) (at o : ℕ) (p : Printing s out₀ c₀ out c at o) where
    -- none is left
    pub print_done : c.left ≤ 0 → out ≡ sets out₀ 0 (course_lines c₀ s)
    print_done h = rw (spent_lines c (drop at s) (inl (omega arith))) at p.text

    module _ (cells values : ℕ) (went : RowsTaken) (ys : List ℕ) (l : 0 < c.left)
        (e : went ≡ call_rows (rows_tried c (length (take (length s - at) (drop at s))) cells values (length (take (length out - o) (drop o out)))) c (take (length s - at) (drop at s)))
        (ey : ys ≡ sets (take (length out - o) (drop o out)) 0 (row_lines went.rows c (take (length s - at) (drop at s)))) where
      here : TakenRowByRow (rows_tried c (length (drop at s)) cells values (length (take (length out - o) (drop o out)))) c (drop at s) went
      here = went_here s c at cells values (length (take (length out - o) (drop o out))) went e

      -- the lines of the rows that were taken, in their place
      lines-put : take o out ++ (ys ++ drop (length out - o) (drop o out)) ≡ sets out o (row_lines went.rows c (drop at s))
      lines-put = part_put (row_lines went.rows c (drop at s)) ys out o (rw (to_end s at) at ey)

      -- they are the last
      lines_last : course_lines c (drop at s) ≡ row_lines went.rows c (drop at s) → take o out ++ (ys ++ drop (length out - o) (drop o out)) ≡ sets out₀ 0 (course_lines c₀ s)
      lines_last h = lines-put ∙ ap (sets out o) (sym h) ∙ p.text

      -- the next row is refused
      pub print_refused : passes went.refusal ≡ false → take o out ++ (ys ++ drop (length out - o) (drop o out)) ≡ sets out₀ 0 (course_lines c₀ s)
      print_refused f =
          let stop = refused_stops s c at cells values (length (take (length out - o) (drop o out))) went e f in
          lines_last ((rows_cut went.rows c (drop at s) here.taken).0 ∙ rw (spent_lines _ _ stop.0, append-nil))

      -- none was tried, though there is room for the lines that are to come: so there is none
      pub print_none : 24 ≤ cells → 8 ≤ values → passes went.refusal ≡ true → went.rows ≡ 0 → take o out ++ (ys ++ drop (length out - o) (drop o out)) ≡ sets out₀ 0 (course_lines c₀ s)
      unfolding row_lines
      print_none x y f z = lines_last (go (passes (row_refusal c (drop at s))) refl ∙ rw z)
        where
          go : (b : Bool) → passes (row_refusal c (drop at s)) ≡ b → course_lines c (drop at s) ≡ []
          go false g = spent_lines c (drop at s) (inr g)
          go true g =
              let row = row-taken c (drop at s) g in
              let line : length (course_lines c (drop at s)) ≡ c.lanes * 9 + length (course_lines (after_row c (c.left - 1) (drop at s)) (drop (row_width c) (drop at s))) =
              ap length (row_cut c (drop at s) l g).0 ∙ length-append (row_line c (drop at s)) _ ∙ rw (row_length c (drop at s)) (omega arith) in
              let lo : length (take (length out - o) (drop o out)) ≡ length out - o = rw (to_end out o) (length-drop o out) in
              let some = some_tried c (length (drop at s)) cells values (length (take (length out - o) (drop o out))) l row.form row.there x y (omega (arith, p.fits, p.long)) in
              let none : rows_tried c (length (drop at s)) cells values (length (take (length out - o) (drop o out))) ≡ 0 = sym (here.all f).0 ∙ z in
              absurd (omega arith)

      pub print_on : passes went.refusal ≡ true → Printing s out₀ c₀ (take o out ++ (ys ++ drop (length out - o) (drop o out))) went.course (at + went.taken) (o + went.written)
      print_on f =
          let on = on_here s c at cells values (length (take (length out - o) (drop o out))) went e f in
          let place = place_here s c at cells values (length (take (length out - o) (drop o out))) went e in
          let a = row_lines went.rows c (drop at s) in
          let al : length (row_lines went.rows c (drop at s)) ≡ went.written = next_length went.rows c (drop at s) ∙ sym here.lines in
          let b = course_lines went.course (drop (at + went.taken) s) in
          let cut : course_lines c (drop at s) ≡ row_lines went.rows c (drop at s) ++ course_lines went.course (drop (at + went.taken) s) = (rows_cut went.rows c (drop at s) here.taken).0 ∙ rw (on, place) in
          let len : length (course_lines c (drop at s)) ≡ went.written + length (course_lines went.course (drop (at + went.taken) s)) = ap length cut ∙ length-append a b ∙ rw al in
          record {
            text = rw lines-put (rw (← al) (sym (sets_append a b out o)) ∙ ap (sets out o) (sym cut) ∙ p.text);
            long = rw lines-put (length-sets out o a ∙ p.long);
            fits = omega (arith, p.fits);
            there = there_here s c at cells values (length (take (length out - o) (drop o out))) went e p.there;
          }
