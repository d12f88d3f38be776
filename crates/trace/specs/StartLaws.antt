-- The start of a file: what the code answers at each of its tests is what the definitions say. Assumes nothing.
use Rattle.std.specs.Prelude.{◌≡◌, refl, Option, Some, None, Ok, Err, List, Bool, true, false, cond, ◌&&◌, leb, eqb, Float, length, take, drop}
use Rattle.std.proofs.Common.{sym, ◌∙◌, true≢false, length-drop, leb-true, le-leb, eq-eqb, ne_eqb}
use Prim.Native.Nat.{ℕ, suc, ◌+◌, ◌-◌, ◌*◌, ◌≤◌, ◌<◌}
use native.Mathlib.Omega.{arith}
use Rattle.std.proofs.Math.Seq.{drop-drop}
use Rattle.std.proofs.lemmas.Bool.{lt-leb}
use Rattle.lemmas.specs.Lists.{to_end}
use Rattle.refusal.specs.declared.Refusal.{Refusal}
use Rattle.refusal.specs.declared.Refused.{Refused}
use Rattle.refusal.specs.Answers.{Answer, given, refusal_of, passes}
use Rattle.npy.specs.declared.reader.Kind.TheVariants.{F4}
use Rattle.npy.specs.declared.reader.Head.{Head}
use Rattle.npy.specs.Header.{has_cells, is_accepted, call_header}
use Rattle.npy.specs.HeaderLaws.{at_within}
use Rattle.npy.specs.Cell.{cell_of}
use Rattle.bank.specs.declared.lane.Op.{Op}
use Rattle.bank.specs.declared.lane.Op.TheVariants.{Open}
use Rattle.bank.specs.declared.Bank.{Bank}
use Rattle.bank.specs.Bank.{fresh_bank, call_bank}
use Rattle.bank.specs.BankRuns.{after}
use Rattle.lanes.specs.Runs.{left}
use Rattle.trace.specs.declared.course.Begun.{Begun}
use Rattle.trace.specs.LanesInTurn.{in_turn, read_each}
use Rattle.trace.specs.Trace.{is_f4, settings_misfit, settings_refusal, open_of, opened_bank, trace_misfit, trace_refusal, refused_start, start_unless, trace_start, call_start}
use Rattle.trace.specs.RowRefusalLaws.{first_passed, first_given}
use Rattle.trace.specs.AcceptedStart.{AcceptedSettings, settings_parts}

-- ---- the settings, test by test

module _ (h : Answer Head) (len : ℕ) where
  pub settings_header : (p : Bool) → p ≡ is_accepted h → p ≡ false → refusal_of h ≡ settings_refusal h len
  unfolding settings_refusal
  settings_header p e g = sym (first_given (refusal_of h) _ (sym e ∙ g))

  settings_tests : (p t u : Bool) → p ≡ is_accepted h → p ≡ true → t ≡ is_f4 (given h).kind → u ≡ (leb 1 (given h).rows && (leb (given h).rows 8 && eqb (given h).cols 5))
      → settings_refusal h len ≡ cond t (cond u (cond (leb ((given h).at + (given h).rows * 20) len) None (Some Refusal.Cut)) (Some Refusal.Shape)) (Some Refusal.Kind)
  unfolding settings_refusal settings_misfit
  settings_tests p t u e g et eu = first_passed (refusal_of h) _ (sym e ∙ g) ∙ rw (et, eu)

  pub settings_kind : (p t : Bool) → p ≡ is_accepted h → p ≡ true → t ≡ is_f4 (given h).kind → t ≡ false → Some Refusal.Kind ≡ settings_refusal h len
  settings_kind p t e g et h0 = sym (settings_tests p t _ e g et refl ∙ simp h0)

  pub settings_shape : (p t u : Bool) → p ≡ is_accepted h → p ≡ true → t ≡ is_f4 (given h).kind → t ≡ true
      → u ≡ (leb 1 (given h).rows && (leb (given h).rows 8 && eqb (given h).cols 5)) → u ≡ false → Some Refusal.Shape ≡ settings_refusal h len
  settings_shape p t u e g et h0 eu h1 = sym (settings_tests p t u e g et eu ∙ simp (h0, h1))

  pub settings_cut : (p t u : Bool) → p ≡ is_accepted h → p ≡ true → t ≡ is_f4 (given h).kind → t ≡ true
      → u ≡ (leb 1 (given h).rows && (leb (given h).rows 8 && eqb (given h).cols 5)) → u ≡ true → (given h).at ≤ len → len - (given h).at < (given h).rows * 20 → Some Refusal.Cut ≡ settings_refusal h len
  settings_cut p t u e g et h0 eu h1 a b = sym (settings_tests p t u e g et eu ∙ simp (h0, h1, lt-leb ((given h).at + (given h).rows * 20) len (omega arith)))

  pub settings_none : (p t u : Bool) → p ≡ is_accepted h → p ≡ true → t ≡ is_f4 (given h).kind → t ≡ true
      → u ≡ (leb 1 (given h).rows && (leb (given h).rows 8 && eqb (given h).cols 5)) → u ≡ true → (given h).at ≤ len → (given h).rows * 20 ≤ len - (given h).at → None ≡ settings_refusal h len
  settings_none p t u e g et h0 eu h1 a b = sym (settings_tests p t u e g et eu ∙ simp (h0, h1, le-leb ((given h).at + (given h).rows * 20) len (omega arith)))

pub rows_shape : (rows cols : ℕ) (u : Bool) → u ≡ (leb 1 rows && (leb rows 8 && eqb cols 5)) → u ≡ true → (1 ≤ rows) × (rows ≤ 8)
rows_shape rows cols u e h = go (leb 1 rows) (leb rows 8) refl refl (sym e ∙ h)
  where
    go : (p q : Bool) → leb 1 rows ≡ p → leb rows 8 ≡ q → (p && (q && eqb cols 5)) ≡ true → (1 ≤ rows) × (rows ≤ 8)
    go true true ep eq g = (leb-true _ _ ep, leb-true _ _ eq)
    go true false ep eq g = absurd (true≢false (sym g))
    go false q ep eq g = absurd (true≢false (sym g))

-- ---- the trace's header, test by test

module _ (k : ℕ) (h : Answer Head) where
  pub trace_header : (p : Bool) → p ≡ is_accepted h → p ≡ false → refusal_of h ≡ trace_refusal k h
  unfolding trace_refusal
  trace_header p e g = sym (first_given (refusal_of h) _ (sym e ∙ g))

  trace_tests : (p t : Bool) → p ≡ is_accepted h → p ≡ true → t ≡ has_cells (given h).kind
      → trace_refusal k h ≡ cond t (cond (eqb (given h).cols (k * 3)) None (Some Refusal.Shape)) (Some Refusal.Kind)
  unfolding trace_refusal trace_misfit
  trace_tests p t e g et = first_passed (refusal_of h) _ (sym e ∙ g) ∙ rw et

  pub trace_kind : (p t : Bool) → p ≡ is_accepted h → p ≡ true → t ≡ has_cells (given h).kind → t ≡ false → Some Refusal.Kind ≡ trace_refusal k h
  trace_kind p t e g et h0 = sym (trace_tests p t e g et ∙ simp h0)

  pub trace_shape : (p t : Bool) → p ≡ is_accepted h → p ≡ true → t ≡ has_cells (given h).kind → t ≡ true → ((given h).cols ≡ k * 3 → ⊥) → Some Refusal.Shape ≡ trace_refusal k h
  trace_shape p t e g et h0 h1 = sym (trace_tests p t e g et ∙ simp (h0, ne_eqb _ _ h1))

  pub trace_none : (p t : Bool) → p ≡ is_accepted h → p ≡ true → t ≡ has_cells (given h).kind → t ≡ true → (given h).cols ≡ k * 3 → None ≡ trace_refusal k h
  trace_none p t e g et h0 h1 = sym (trace_tests p t e g et ∙ simp (h0, eq-eqb _ _ h1))

-- ---- the lanes that are opened

pub open_of_cells : (kp ki kd tau dt : Float) (s : List ℕ) (i : ℕ)
    → kp ≡ cell_of F4 (drop i s) → ki ≡ cell_of F4 (drop (i + 4) s) → kd ≡ cell_of F4 (drop (i + 8) s) → tau ≡ cell_of F4 (drop (i + 12) s) → dt ≡ cell_of F4 (drop (i + 16) s)
    → Open kp ki kd tau dt None ≡ open_of (drop i s)
unfolding open_of
open_of_cells kp ki kd tau dt s i e1 e2 e3 e4 e5 = rw (e1, e2, e3, e4, e5, drop-drop 4 i s, drop-drop 8 i s, drop-drop 12 i s, drop-drop 16 i s)

module _ (s : List ℕ) where
  pub opening_more : (k lane i : ℕ) (b : Bank) (op : Op) → lane < k → op ≡ open_of (drop i s)
      → after (call_bank b lane op).state (in_turn (lane + 1) (read_each open_of 20 (k - (lane + 1)) (drop (i + 20) s))) ≡ after b (in_turn lane (read_each open_of 20 (k - lane) (drop i s)))
  unfolding in_turn read_each left
  opening_more k lane i b op h e =
      let a : k - lane ≡ suc (k - (lane + 1)) = omega arith in
      let l : lane + 1 ≡ suc lane = omega arith in
      rw (a, e, l, drop-drop 20 i s)

  -- the settings of a lane stand 20 bytes behind those of the one before
  pub opening_next : (k lane : ℕ) (b : Bank) (op : Op) → lane < k → op ≡ open_of (drop (lane * 20) s)
      → after (call_bank b lane op).state (in_turn (lane + 1) (read_each open_of 20 (k - (lane + 1)) (drop ((lane + 1) * 20) s))) ≡ after b (in_turn lane (read_each open_of 20 (k - lane) (drop (lane * 20) s)))
  opening_next k lane b op h e =
      let next : (lane + 1) * 20 ≡ lane * 20 + 20 = omega arith in
      rw next (opening_more k lane (lane * 20) b op h e)

  pub opening_done : (k lane i : ℕ) (b : Bank) → k ≤ lane → b ≡ after b (in_turn lane (read_each open_of 20 (k - lane) (drop i s)))
  unfolding in_turn read_each left
  opening_done k lane i b h = let a : k - lane ≡ 0 = omega arith in rw a

  pub opening_start : (k : ℕ) (b : Bank) → b ≡ fresh_bank → after b (in_turn 0 (read_each open_of 20 (k - 0) (drop 0 s))) ≡ opened_bank k s
  unfolding opened_bank
  opening_start k b e = let a : k - 0 ≡ k = omega arith in rw (e, a)

-- ---- the start

-- where nothing is refused the start goes on
goes_on : (why : Option Refusal) (next : Answer Begun) → passes why ≡ true → next ≡ start_unless why next
goes_on None next h = refl
goes_on (Some why) next h = absurd (true≢false (sym h))

pub trace_refused : (k at : ℕ) (b : Bank) (s : List ℕ) (h : Answer Head) (why : Refusal) (r : Answer Begun) → h ≡ call_header (take (length s - at) (drop at s)) → Some why ≡ trace_refusal k h
    → r ≡ refused_start why → r ≡ trace_start k b at s
unfolding trace_start
trace_refused k at b s h why r eh ew er =
    let eh' : h ≡ call_header (drop at s) = rw (to_end s at) at eh in
    er ∙ rw (← eh', ← ew)

pub trace_started : (k at : ℕ) (b : Bank) (s : List ℕ) (h : Answer Head) (why : Option Refusal) (t : Bool) → h ≡ call_header (take (length s - at) (drop at s)) → why ≡ trace_refusal k h
    → t ≡ passes why → t ≡ true
    → Ok (record { course = record { kind = (given h).kind; lanes = k; left = (given h).rows; bank = b }; at = at + (given h).at }) ≡ trace_start k b at s
unfolding trace_start
trace_started k at b s h why t eh ew et g =
    let eh' : h ≡ call_header (drop at s) = rw (to_end s at) at eh in
    rw (← eh', ← ew) (goes_on why _ (sym et ∙ g))

-- the place after the second header is one of the file's
pub place-within : (at : ℕ) (s : List ℕ) (h : Answer Head) → h ≡ call_header (take (length s - at) (drop at s)) → (given h).at ≤ length s - at
place-within at s h e = rw (← e, to_end s at, length-drop) at (at_within (take (length s - at) (drop at s)))

-- the same by what the header is: refused, one that does not fit, or one that does
module _ (k at : ℕ) (b : Bank) (s : List ℕ) where
  pub trace_header_refused : (r : Refused Head) (x : Answer Begun) → Err r ≡ call_header (take (length s - at) (drop at s)) → x ≡ refused_start r.refusal → x ≡ trace_start k b at s
  trace_header_refused r x e ex = trace_refused k at b s (Err r) r.refusal x e (trace_header k (Err r) false refl refl) ex

  pub trace_misfits : (h : Head) (why : Refusal) (x : Answer Begun) → Ok h ≡ call_header (take (length s - at) (drop at s)) → Some why ≡ trace_misfit k h → x ≡ refused_start why → x ≡ trace_start k b at s
  unfolding trace_refusal
  trace_misfits h why x e ew ex = trace_refused k at b s (Ok h) why x e ew ex

  pub trace_header_fits : (h : Head) → Ok h ≡ call_header (take (length s - at) (drop at s)) → None ≡ trace_misfit k h
      → Ok (record { course = record { kind = h.kind; lanes = k; left = h.rows; bank = b }; at = at + h.at }) ≡ trace_start k b at s
  unfolding trace_refusal
  trace_header_fits h e ew = trace_started k at b s (Ok h) None true e ew refl refl

pub start_refused : (s : List ℕ) (h : Answer Head) (why : Refusal) (r : Answer Begun) → h ≡ call_header s → Some why ≡ settings_refusal h (length s)
    → r ≡ refused_start why → r ≡ call_start s
unfolding call_start
start_refused s h why r eh ew er = er ∙ rw (← eh, ← ew)

pub start_given : (s : List ℕ) (h : Answer Head) (why : Option Refusal) (t : Bool) (b : Bank) (r : Answer Begun) → h ≡ call_header s → why ≡ settings_refusal h (length s) → t ≡ passes why → t ≡ true
    → b ≡ opened_bank (given h).rows (take (length s - (given h).at) (drop (given h).at s)) → r ≡ trace_start (given h).rows b ((given h).at + (given h).rows * 20) s → r ≡ call_start s
unfolding call_start
start_given s h why t b r eh ew et g eb er =
    let eb' : b ≡ opened_bank (given h).rows (drop (given h).at s) = rw (to_end s (given h).at) at eb in
    er ∙ rw (← eh, ← ew, eb') (goes_on why _ (sym et ∙ g))

pub settings_from_lem : (s : List ℕ) (h : Answer Head) (why : Option Refusal) (t : Bool) → why ≡ settings_refusal h (length s) → t ≡ passes why → t ≡ true → AcceptedSettings h (length s)
settings_from_lem s h why t ew et g = settings_parts h (length s) (rw (← ew, ← et) g)

-- the same by what the header is
module _ (s : List ℕ) where
  pub start_header_refused : (r : Refused Head) (x : Answer Begun) → Err r ≡ call_header s → x ≡ refused_start r.refusal → x ≡ call_start s
  start_header_refused r x e ex = start_refused s (Err r) r.refusal x e (settings_header (Err r) (length s) false refl refl) ex

  pub start_misfits : (h : Head) (why : Refusal) (x : Answer Begun) → Ok h ≡ call_header s → Some why ≡ settings_misfit h (length s) → x ≡ refused_start why → x ≡ call_start s
  unfolding settings_refusal
  start_misfits h why x e ew ex = start_refused s (Ok h) why x e ew ex

  pub start_header_fits : (h : Head) (b : Bank) (x : Answer Begun) → Ok h ≡ call_header s → None ≡ settings_misfit h (length s)
      → b ≡ opened_bank h.rows (take (length s - h.at) (drop h.at s)) → x ≡ trace_start h.rows b (h.at + h.rows * 20) s → x ≡ call_start s
  unfolding settings_refusal
  start_header_fits h b x e ew eb ex = start_given s (Ok h) None true b x e ew refl refl eb ex

  pub settings_that_fit : (h : Head) → None ≡ settings_misfit h (length s) → AcceptedSettings (Ok h) (length s)
  unfolding settings_refusal
  settings_that_fit h ew = settings_from_lem s (Ok h) None true ew refl refl
