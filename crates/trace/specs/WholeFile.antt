-- What a whole file prints: the lines of its rows that can be taken, and then the line of its refusal. Assumes nothing.
use Rattle.std.specs.Prelude.{◌≡◌, List, ◌++◌, true, false, ℕ, ◌*◌, drop}
use Rattle.refusal.specs.Answers.{given, refusal_of, passes}
use Rattle.trace.specs.Trace.{call_start, replay_of, replay_refusal, row_width, row_lines, after_rows, course_refusal, reason_text, course_text}
use Rattle.trace.specs.RowRefusalLaws.{first_passed}
use Rattle.trace.specs.Taken.{CanTake, MostRows, text_cut, most_rows-text}
use Rattle.trace.specs.AcceptedStart.{bytes_after_start}

-- a file whose start is refused prints its refusal alone
pub refused_prints : (s : List ℕ) → passes (refusal_of (call_start s)) ≡ false → replay_of s ≡ reason_text (refusal_of (call_start s))
unfolding replay_of
refused_prints s e = simp e

pub accepted_refusal : (s : List ℕ) → passes (refusal_of (call_start s)) ≡ true → replay_refusal s ≡ course_refusal (given (call_start s)).course (bytes_after_start s)
unfolding replay_refusal
accepted_refusal s e = first_passed (refusal_of (call_start s)) _ e

-- and one whose start is accepted the lines of the rows that can be taken, and then the line of what stops it
pub accepted_prints : (s : List ℕ) (m : ℕ) → passes (refusal_of (call_start s)) ≡ true → MostRows (given (call_start s)).course (bytes_after_start s) m
    → replay_of s ≡ row_lines m (given (call_start s)).course (bytes_after_start s) ++ reason_text (replay_refusal s)
unfolding replay_of
accepted_prints s m e w = simp (e, accepted_refusal s e) (most_rows-text (given (call_start s)).course (bytes_after_start s) m w)

-- it begins with the lines of any number of rows that can be taken
pub accepted-lines : (s : List ℕ) (m : ℕ) → passes (refusal_of (call_start s)) ≡ true → CanTake m (given (call_start s)).course (bytes_after_start s)
    → replay_of s ≡ row_lines m (given (call_start s)).course (bytes_after_start s) ++ course_text (after_rows m (given (call_start s)).course (bytes_after_start s)) (drop (m * row_width (given (call_start s)).course) (bytes_after_start s))
unfolding replay_of
accepted-lines s m e t = simp e (text_cut m (given (call_start s)).course (bytes_after_start s) t)
