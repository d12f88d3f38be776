-- A file is accepted exactly where nothing of it is refused; it then prints the lines of its rows and nothing else. Assumes nothing.
use Rattle.std.specs.Prelude.{◌≡◌, refl, Some, None, List, [], ◌∷◌, true, Bool, false, ℕ, ◌*◌, ◌≤◌, ◌<◌, drop}
use Rattle.std.proofs.Common.{◌∙◌, sym, subst, append-nil, inl, ⊎_elim, arith}
use Rattle.refusal.specs.AnswerLaws.{refused_not_none}
use Rattle.refusal.specs.declared.Refusal.{Refusal}
use Rattle.refusal.specs.Answers.{given, refusal_of, passes}
use Rattle.trace.specs.Trace.{call_start, replay_of, replay_refusal, row_width, row_lines, after_rows, rest_refusal, row_refusal, course_refusal}
use Rattle.trace.specs.RowRefusalLaws.{first_passed, first_given}
use Rattle.trace.specs.Taken.{CanTake, MostRows, rows_cut, spent_rest, after-left, take_left, most_rows_lem, spent_row}
use Rattle.trace.specs.AcceptedStart.{bytes_after_start}
use Rattle.trace.specs.WholeFile.{accepted_refusal, accepted_prints}
use Rattle.lemmas.specs.Cases.{lt_or_le}
use Rattle.trace.specs.declared.course.Course.{Course}

-- nothing of the file is refused: its start is accepted, its rows can all be taken, and there is nothing behind them
pub record AcceptedFile (s : List ℕ) : Type 0 where
  pub start_passes : passes (refusal_of (call_start s)) ≡ true
  pub rows : CanTake (given (call_start s)).course.left (given (call_start s)).course (bytes_after_start s)
  pub rest : drop ((given (call_start s)).course.left * row_width (given (call_start s)).course) (bytes_after_start s) ≡ []

pub accepted_all : (s : List ℕ) → AcceptedFile s → MostRows (given (call_start s)).course (bytes_after_start s) (given (call_start s)).course.left
accepted_all s a = record { taken = a.rows; spent = inl (after-left (given (call_start s)).course.left (given (call_start s)).course (bytes_after_start s) ∙ omega arith) }

-- then nothing of it is refused (the converse: `unrefused_accepted`)
pub accepted_unrefused : (s : List ℕ) → AcceptedFile s → replay_refusal s ≡ None
unfolding rest_refusal
accepted_unrefused s a =
    let c = (given (call_start s)).course in
    accepted_refusal s a.start_passes ∙ (rows_cut c.left c (bytes_after_start s) a.rows).1
    ∙ spent_rest (after_rows c.left c (bytes_after_start s)) (drop (c.left * row_width c) (bytes_after_start s)) (after-left c.left c (bytes_after_start s) ∙ omega arith)
    ∙ rw a.rest

-- it prints the lines of its rows and nothing else
pub accepted-text : (s : List ℕ) → AcceptedFile s → replay_of s ≡ row_lines (given (call_start s)).course.left (given (call_start s)).course (bytes_after_start s)
accepted-text s a = accepted_prints s (given (call_start s)).course.left a.start_passes (accepted_all s a) ∙ rw (accepted_unrefused s a, append-nil)

-- ---- and where nothing of it is refused, it is accepted

no_rest : (s : List ℕ) → rest_refusal s ≡ None → s ≡ []
unfolding rest_refusal
no_rest [] h = refl
no_rest (x ∷ xs) h = absurd (refused_not_none (Some Refusal.Rest) refl h)

-- a trace of which nothing is refused has all of its rows, and nothing behind them
all_taken : (c : Course) (s : List ℕ) (m : ℕ) → MostRows c s m → course_refusal c s ≡ None → CanTake c.left c s × (drop (c.left * row_width c) s ≡ [])
all_taken c s m w none =
    let after : Course = after_rows m c s in
    let rest : List ℕ = drop (m * row_width c) s in
    let still : course_refusal (after_rows m c s) (drop (m * row_width c) s) ≡ None = sym (rows_cut m c s w.taken).1 ∙ none in
    let few = take_left m c s w.taken in
    let left = after-left m c s in
    ⊎_elim
    (λ (more : 0 < (after_rows m c s).left).
    ⊎_elim
    (λ (z : (after_rows m c s).left ≡ 0). absurd (omega arith))
    (λ (no : passes (row_refusal (after_rows m c s) (drop (m * row_width c) s)) ≡ false). absurd (refused_not_none _ no (sym (spent_row after rest more no) ∙ still)))
    w.spent)
    (λ (none_left : (after_rows m c s).left ≤ 0).
    let all : m ≡ c.left = omega arith in
    let z : (after_rows m c s).left ≡ 0 = omega arith in
    (subst (λ (n : ℕ). CanTake n c s) all w.taken, subst (λ (n : ℕ). drop (n * row_width c) s ≡ []) all (no_rest rest (sym (spent_rest after rest z) ∙ still))))
    (lt_or_le 0 (after_rows m c s).left)

pub unrefused_accepted : (s : List ℕ) → replay_refusal s ≡ None → AcceptedFile s
unfolding replay_refusal
unrefused_accepted s h = go (passes (refusal_of (call_start s))) refl
  where
    go : (t : Bool) → passes (refusal_of (call_start s)) ≡ t → AcceptedFile s
    go false e = absurd (refused_not_none (refusal_of (call_start s)) e (sym (first_given (refusal_of (call_start s)) _ e) ∙ h))
    go true e =
        let all = all_taken (given (call_start s)).course (bytes_after_start s) _ (most_rows_lem (given (call_start s)).course (bytes_after_start s)) (sym (first_passed (refusal_of (call_start s)) _ e) ∙ h) in
        record { start_passes = e; rows = all.0; rest = all.1 }
