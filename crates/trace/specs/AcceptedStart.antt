-- The start of a file that is accepted: what its two headers and its settings then are, and where its rows begin. Assumes nothing.
use Rattle.std.specs.Prelude.{◌≡◌, refl, Option, Some, None, List, Bool, true, false, cond, ◌&&◌, ℕ, ◌+◌, ◌-◌, ◌*◌, ◌≤◌, ◌<◌, length, drop, leb, eqb}
use Rattle.std.proofs.Common.{sym, ap, subst, ◌∙◌, true≢false, mul-pos, arith, length-drop, ltb-true, leb-true, eqb-true}
use Rattle.lemmas.specs.Cases.{and_left, and_right}
use Rattle.refusal.specs.declared.Refusal.{Refusal}
use Rattle.refusal.specs.Answers.{Answer, given, refusal_of, passes}
use Rattle.bank.specs.declared.Bank.{Bank}
use Rattle.trace.specs.RowRefusalLaws.{both_pass}
use Rattle.npy.specs.declared.reader.Head.{Head}
use Rattle.npy.specs.Header.{has_cells, cell_width, is_accepted, call_header}
use Rattle.npy.specs.HeaderLaws.{at_within}
use Rattle.trace.specs.declared.course.Begun.{Begun}
use Rattle.trace.specs.Trace.{is_f4, settings_bytes, settings_misfit, settings_refusal, opened_bank, trace_misfit, trace_refusal, start_unless, trace_start, refused_start, call_start, row_width}

-- a refusal that is given only where a test fails: it is not given, so the test holds, and no later refusal is given either
not_given : (t : Bool) (x y : Option Refusal) → (t ≡ false → passes y ≡ false) → passes (cond t x y) ≡ true → (t ≡ true) × (passes x ≡ true)
not_given true x y h e = (refl, e)
not_given false x y h e = let z : false ≡ true = sym (h refl) ∙ e in ((cc), (cc))

-- what an accepted first array is
pub record AcceptedSettings (h : Answer Head) (len : ℕ) : Type 0 where
  pub good : is_accepted h ≡ true
  pub kind : is_f4 (given h).kind ≡ true
  pub some : 1 ≤ (given h).rows
  pub few : (given h).rows ≤ 8
  pub five : (given h).cols ≡ 5
  pub fits : (given h).at + settings_bytes (given h).rows ≤ len

pub settings_parts : (h : Answer Head) (len : ℕ) → passes (settings_refusal h len) ≡ true → AcceptedSettings h len
unfolding settings_refusal settings_misfit
settings_parts answer len e =
    let h = given answer in
    let a = both_pass (refusal_of answer) (settings_misfit (given answer) len) e in
    let b = not_given (is_f4 h.kind) _ (Some Refusal.Kind) (λ x. refl) a.1 in
    let c = not_given (leb 1 h.rows && (leb h.rows 8 && eqb h.cols 5)) _ (Some Refusal.Shape) (λ x. refl) b.1 in
    let d = not_given (leb (h.at + settings_bytes h.rows) len) None (Some Refusal.Cut) (λ x. refl) c.1 in
    let r = and_right (leb 1 h.rows) (leb h.rows 8 && eqb h.cols 5) c.0 in
    record {
      good = a.0;
      kind = b.0;
      some = leb-true _ _ (and_left (leb 1 h.rows) (leb h.rows 8 && eqb h.cols 5) c.0);
      few = leb-true _ _ (and_left (leb h.rows 8) (eqb h.cols 5) r);
      five = eqb-true _ _ (and_right (leb h.rows 8) (eqb h.cols 5) r);
      fits = leb-true _ _ d.0;
    }

-- what an accepted header of the trace is
pub trace_parts : (k : ℕ) (h : Answer Head) → passes (trace_refusal k h) ≡ true → (is_accepted h ≡ true) × (has_cells (given h).kind ≡ true) × ((given h).cols ≡ k * 3)
unfolding trace_refusal trace_misfit
trace_parts k answer e =
    let h = given answer in
    let a = both_pass (refusal_of answer) (trace_misfit k (given answer)) e in
    let b = not_given (has_cells h.kind) _ (Some Refusal.Kind) (λ x. refl) a.1 in
    let c = not_given (eqb h.cols (k * 3)) None (Some Refusal.Shape) (λ x. refl) b.1 in
    (a.0, b.0, eqb-true _ _ c.0)

-- the first array's header, where the second begins, and its header
abbrev pub first_head : List ℕ → Answer Head
first_head s = call_header s

abbrev pub second_at : List ℕ → ℕ
second_at s = (given (call_header s)).at + settings_bytes (given (call_header s)).rows

abbrev pub second_head : List ℕ → Answer Head
second_head s = call_header (drop (second_at s) s)

-- an accepted start
pub record AcceptedStart (s : List ℕ) : Type 0 where
  pub settings : AcceptedSettings (first_head s) (length s)
  pub trace : (is_accepted (second_head s) ≡ true) × (has_cells (given (second_head s)).kind ≡ true) × ((given (second_head s)).cols ≡ (given (first_head s)).rows * 3)
  pub kind : (given (call_start s)).course.kind ≡ (given (second_head s)).kind
  pub lanes : (given (call_start s)).course.lanes ≡ (given (first_head s)).rows
  pub left : (given (call_start s)).course.left ≡ (given (second_head s)).rows
  pub bank : (given (call_start s)).course.bank ≡ opened_bank (given (first_head s)).rows (drop (given (first_head s)).at s)
  pub at : (given (call_start s)).at ≡ second_at s + (given (second_head s)).at

-- a start that is accepted is what comes after the test, which holds
start_unless-passed : (why : Option Refusal) (next : Answer Begun) → passes (refusal_of (start_unless why next)) ≡ true → (passes why ≡ true) × (start_unless why next ≡ next)
unfolding refused_start
start_unless-passed None next h = (refl, refl)
start_unless-passed (Some why) next h = absurd (true≢false (sym h))

pub accepted_start : (s : List ℕ) → passes (refusal_of (call_start s)) ≡ true → AcceptedStart s
unfolding call_start trace_start
accepted_start s h =
    let k = (given (first_head s)).rows in
    let bank : Bank = opened_bank (given (first_head s)).rows (drop (given (first_head s)).at s) in
    let first = start_unless-passed (settings_refusal (first_head s) (length s)) (trace_start (given (first_head s)).rows bank (second_at s) s) h in
    let second = start_unless-passed (trace_refusal (given (first_head s)).rows (second_head s)) _ (subst (λ (b : Answer Begun). passes (refusal_of b) ≡ true) first.1 h) in
    let is = first.1 ∙ second.1 in
    record {
      settings = settings_parts (first_head s) (length s) first.0;
      trace = trace_parts (given (first_head s)).rows (second_head s) second.0;
      kind = ap (λ (b : Answer Begun). (given b).course.kind) is;
      lanes = ap (λ (b : Answer Begun). (given b).course.lanes) is;
      left = ap (λ (b : Answer Begun). (given b).course.left) is;
      bank = ap (λ (b : Answer Begun). (given b).course.bank) is;
      at = ap (λ (b : Answer Begun). (given b).at) is;
    }

-- the rows begin within the file
pub start_within : (s : List ℕ) → AcceptedStart s → (given (call_start s)).at ≤ length s
start_within s g =
    let a : (given (second_head s)).at ≤ length s - second_at s = rw length-drop at (at_within (drop (second_at s) s)) in
    omega (arith, g.at, g.settings.fits)

-- a row of an accepted trace has bytes
pub row_has_bytes : (s : List ℕ) → AcceptedStart s → 0 < row_width (given (call_start s)).course
unfolding row_width
row_has_bytes s g = rw (g.kind, g.lanes) (mul-pos (omega (arith, g.settings.some)) (ltb-true 0 (cell_width (given (second_head s)).kind) g.trace.1))

-- the bytes of its rows, and what comes after them
abbrev pub bytes_after_start : List ℕ → List ℕ
bytes_after_start s = drop (given (call_start s)).at s
