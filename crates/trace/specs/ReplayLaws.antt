-- The answer for a whole file in memory: what it is refused with, how long its text is, and what is written of it. Assumes nothing.
use Rattle.std.specs.Prelude.{◌≡◌, Option, Some, None, Ok, Err, List, ◌++◌, Bool, true, false, ℕ, ◌+◌, ◌-◌, ◌*◌, ◌≤◌, ◌<◌, leb, take, drop}
use Rattle.std.proofs.Math.Path.{refl, ap}
use Rattle.std.proofs.Common.{sym, ◌∙◌, zero-add, length-append, length-drop}
use Rattle.std.proofs.Math.Nat.{mul-le-mul}
use native.Mathlib.Omega.{arith}
use Rattle.std.proofs.Math.ListN.{length}
use Rattle.std.proofs.Math.Seq.{sets, length-sets}
use borrow.Author.Tests.{le-leb, lt-leb}
use Rattle.lemmas.specs.Lists.{sets_append, to_end}
use Rattle.refusal.specs.declared.Refusal.{Refusal}
use Rattle.refusal.specs.RefusalLaws.{number_not_zero}
use Rattle.refusal.specs.declared.Refused.{Refused}
use Rattle.refusal.specs.Answers.{Answer, given, refusal_of, refusal_number, passes}
use Rattle.refusal.specs.AnswerLaws.{answer_given}
use Rattle.npy.specs.declared.reader.Head.{Head}
use Rattle.npy.specs.Header.{is_accepted, no_head, call_header}
use Rattle.npy.specs.HeaderLaws.{refused_is}
use Rattle.npy.specs.AcceptedHeader.{shape_small}
use Rattle.trace.specs.declared.course.Course.{Course}
use Rattle.trace.specs.declared.course.Begun.{Begun}
use Rattle.trace.specs.declared.course.Measured.{Measured}
use Rattle.trace.specs.Trace.{call_start, course_refusal, refused_line, reason_text, course_lines, course_text, replay_of, replay_refusal}
use Rattle.trace.specs.Slices.{measured_of, wrote, wrote_count, replayed_of}
use Rattle.trace.specs.AcceptedStart.{second_at, accepted_start, start_within}
use Rattle.trace.specs.MeasureLaws.{count_left, lines_length}
use Rattle.trace.specs.EndLaws.{one_digit, two_digits}
use Rattle.trace.specs.RowRefusalLaws.{first_passed, first_given}
use Rattle.trace.specs.PrintLaws.{part_put}

-- a header names fewer than 10⁹ rows; refused, none
pub few_rows : (s : List ℕ) → (given (call_header s)).rows < 1000000000
few_rows s = go (is_accepted (call_header s)) refl
  where
    go : (t : Bool) → is_accepted (call_header s) ≡ t → (given (call_header s)).rows < 1000000000
    go true e = (shape_small s e).0
    go false e =
        let z : (given (call_header s)).rows ≡ 0 = ap (λ (h : Answer Head). (given h).rows) (refused_is s e) ∙ ap (λ (h : Head). h.rows) (answer_given (refusal_of (call_header s)) no_head) in
        omega arith

-- ---- what a start that is not refused is

pub record StartBounds (b : Begun) (len : ℕ) : Type 0 where
  pub lanes : b.course.lanes ≤ 8
  pub few : b.course.left < 1000000000
  pub there : b.at ≤ len

pub start_bounds : (s : List ℕ) → passes (refusal_of (call_start s)) ≡ true → StartBounds (given (call_start s)) (length s)
start_bounds s e =
    let g = accepted_start s e in
    record {
      lanes = rw g.lanes g.settings.few;
      few = rw g.left (few_rows (drop (second_at s) s));
      there = start_within s g;
    }

-- ---- how long the line of a refusal is

module _ (why : Option Refusal) (n : ℕ) (e : n ≡ refusal_number why) where
  pub one_digit_length : n < 10 → (10 ≡ length (refused_line why)) × (10 ≤ 11)
  one_digit_length g = (rw (one_digit why n e g), omega arith)

  pub two_digits_length : 10 ≤ n → (11 ≡ length (refused_line why)) × (11 ≤ 11)
  two_digits_length g = (rw (two_digits why n e g), omega arith)

-- where nothing is refused there is no line, and the number is 0
module _ (why : Option Refusal) (n : ℕ) (e : n ≡ refusal_number why) where
  pub no_line : n < 1 → (0 ≡ length (reason_text why)) × (0 ≤ 11)
  no_line h = go why e
    where
      go : (w : Option Refusal) → n ≡ refusal_number w → (0 ≡ length (reason_text w)) × (0 ≤ 11)
      go None g = (refl, omega arith)
      go (Some w) g = absurd (number_not_zero w (omega arith))

  pub short_line : 1 ≤ n → n < 10 → (10 ≡ length (reason_text why)) × (10 ≤ 11)
  short_line h g = go why e
    where
      go : (w : Option Refusal) → n ≡ refusal_number w → (10 ≡ length (reason_text w)) × (10 ≤ 11)
      go None z = absurd (omega arith)
      go (Some w) z = one_digit_length (Some w) n z g

  pub long_line : 10 ≤ n → (11 ≡ length (reason_text why)) × (11 ≤ 11)
  long_line h = go why e
    where
      go : (w : Option Refusal) → n ≡ refusal_number w → (11 ≡ length (reason_text w)) × (11 ≤ 11)
      go None z = absurd (omega arith)
      go (Some w) z = two_digits_length (Some w) n z h

-- ---- the answer for a whole trace

module _ (why why' : Option Refusal) (need : ℕ) (text out : List ℕ) (e : why ≡ why') (l : need ≡ length text) where
  replayed : record { refusal = why; need = need; whole = leb need (length out) } ≡ replayed_of why' text out
  unfolding replayed_of
  replayed = rw (e, l)

  pub short_answer : length out < need → (record { refusal = why; need = need; whole = leb need (length out) } ≡ replayed_of why' text out) × (out ≡ wrote out text)
  unfolding wrote
  short_answer h = (replayed, rw (lt-leb _ _ (rw l at h)))

  pub whole_answer : (out' : List ℕ) → need ≤ length out → out' ≡ sets out 0 text
      → (record { refusal = why; need = need; whole = leb need (length out) } ≡ replayed_of why' text out) × (out' ≡ wrote out text)
  unfolding wrote
  whole_answer out' h o = (replayed, o ∙ rw (le-leb _ _ (rw l at h)))

  pub replayed_short : length out < need → (record { refusal = why; need = need; whole = false } ≡ replayed_of why' text out) × (out ≡ wrote out text)
  replayed_short h = rw (lt-leb need (length out) h) at (short_answer h)

  pub replayed_whole : (out' : List ℕ) → need ≤ length out → out' ≡ sets out 0 text → (record { refusal = why; need = need; whole = true } ≡ replayed_of why' text out) × (out' ≡ wrote out text)
  replayed_whole out' h o = rw (le-leb need (length out) h) at (whole_answer out' h o)

module _ (c : Course) (s : List ℕ) (m : Measured) (e : m ≡ measured_of c s) where
  pub measured_refusal : m.refusal ≡ course_refusal c s
  unfolding measured_of
  measured_refusal = rw e refl

  pub measured_lines : m.rows * (c.lanes * 9) ≡ length (course_lines c s)
  unfolding measured_of
  measured_lines = rw e (sym (lines_length c s))

  -- far from the largest number
  pub measured_lines_small : c.lanes ≤ 8 → c.left < 1000000000 → m.rows * (c.lanes * 9) ≤ 72000000000
  unfolding measured_of
  measured_lines_small k h =
      let few : m.rows ≤ c.left = rw e (count_left c s) in
      mul-le-mul {n₁ = m.rows} {m₁ = c.lanes * 9} {n₂ = 1000000000} {m₂ = 72} (omega arith) (omega arith)

  pub measured_need : (r : ℕ) → r ≡ length (reason_text m.refusal) → m.rows * (c.lanes * 9) + r ≡ length (course_text c s)
  unfolding course_text
  measured_need r er = rw (er, measured_lines, measured_refusal) (sym (length-append (course_lines c s) (reason_text (course_refusal c s))))

  -- the lines, and then the line of the refusal behind them
  pub text-put : (out out₁ ys : List ℕ) (r : ℕ) → r ≡ length (reason_text m.refusal) → m.rows * (c.lanes * 9) + r ≤ length out → out₁ ≡ sets out 0 (course_lines c s)
      → ys ≡ wrote (take (length out₁ - m.rows * (c.lanes * 9)) (drop (m.rows * (c.lanes * 9)) out₁)) (reason_text m.refusal)
      → take (m.rows * (c.lanes * 9)) out₁ ++ (ys ++ drop (length out₁ - m.rows * (c.lanes * 9)) (drop (m.rows * (c.lanes * 9)) out₁)) ≡ sets out 0 (course_text c s)
  unfolding wrote course_text
  text-put out out₁ ys r er h e1 ey =
      let o = m.rows * (c.lanes * 9) in
      let why = reason_text m.refusal in
      let long : length out₁ ≡ length out = ap length e1 ∙ length-sets out 0 (course_lines c s) in
      let part : length (take (length out₁ - m.rows * (c.lanes * 9)) (drop (m.rows * (c.lanes * 9)) out₁)) ≡ length out₁ - m.rows * (c.lanes * 9) = rw (to_end out₁ o) (length-drop o out₁) in
      let fit : length (reason_text m.refusal) ≤ length (take (length out₁ - m.rows * (c.lanes * 9)) (drop (m.rows * (c.lanes * 9)) out₁)) = omega arith in
      let ys' : ys ≡ sets (take (length out₁ - m.rows * (c.lanes * 9)) (drop (m.rows * (c.lanes * 9)) out₁)) 0 (reason_text m.refusal) = ey ∙ rw (le-leb _ _ fit) in
      part_put why ys out₁ o ys' ∙ rw (e1, measured_refusal, measured_lines) (sym (rw (zero-add (length (course_lines c s))) at (sets_append (course_lines c s) (reason_text (course_refusal c s)) out 0)))

pub replay_of-refused : (s : List ℕ) (b : Answer Begun) (t : Bool) → b ≡ call_start s → t ≡ passes (refusal_of b) → t ≡ false → (replay_refusal s ≡ refusal_of b) × (replay_of s ≡ reason_text (refusal_of b))
unfolding replay_refusal replay_of
replay_of-refused s b t e et h =
    let g : passes (refusal_of (call_start s)) ≡ false = rw (← e, ← et) h in
    (rw e (first_given (refusal_of (call_start s)) _ g), rw (g, e))

pub replay_of_trace : (s : List ℕ) (b : Answer Begun) (t : Bool) → b ≡ call_start s → t ≡ passes (refusal_of b) → t ≡ true
    → (replay_refusal s ≡ course_refusal (given b).course (take (length s - (given b).at) (drop (given b).at s))) × (replay_of s ≡ course_text (given b).course (take (length s - (given b).at) (drop (given b).at s)))
unfolding replay_refusal replay_of
replay_of_trace s b t e et h =
    let g : passes (refusal_of (call_start s)) ≡ true = rw (← e, ← et) h in
    (rw (to_end s (given b).at, e) (first_passed (refusal_of (call_start s)) _ g), rw (to_end s (given b).at, g, e))

pub start_bounds_from : (s : List ℕ) (b : Answer Begun) (t : Bool) → b ≡ call_start s → t ≡ passes (refusal_of b) → t ≡ true → StartBounds (given b) (length s)
start_bounds_from s b t e et h = rw e (start_bounds s (rw (← e, ← et) h))

-- the same by what the start is: refused, or given
pub start_refused_replay : (s : List ℕ) (r : Refused Begun) → Err r ≡ call_start s → (replay_refusal s ≡ Some r.refusal) × (replay_of s ≡ refused_line (Some r.refusal))
start_refused_replay s r e = replay_of-refused s (Err r) false e refl refl

pub start_given_replay : (s : List ℕ) (b : Begun) → Ok b ≡ call_start s
    → (replay_refusal s ≡ course_refusal b.course (take (length s - b.at) (drop b.at s))) × (replay_of s ≡ course_text b.course (take (length s - b.at) (drop b.at s)))
start_given_replay s b e = replay_of_trace s (Ok b) true e refl refl

pub start_given_bounds : (s : List ℕ) (b : Begun) → Ok b ≡ call_start s → StartBounds b (length s)
start_given_bounds s b e = start_bounds_from s (Ok b) true e refl refl

pub refused_answer : (why : Option Refusal) (need n : ℕ) (out out' : List ℕ) → passes why ≡ false → need ≡ length (reason_text why)
    → (n ≡ wrote_count out (reason_text why)) × (out' ≡ wrote out (reason_text why))
    → (record { refusal = why; need = need; whole = leb need (length out) } ≡ replayed_of why (reason_text why) out) × (out' ≡ wrote out (reason_text why))
unfolding replayed_of
refused_answer why need n out out' h e w = (rw e, w.1)
