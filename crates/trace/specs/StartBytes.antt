-- The start of a file is decided by its first bytes: two headers, of at most 1,012 bytes each, and the settings of eight lanes. Assumes
-- nothing.
use Rattle.std.specs.Prelude.{◌≡◌, refl, Option, Some, None, List, [], ◌++◌, Bool, true, false, cond, ◌&&◌, ◌⊎◌, ℕ, ◌+◌, ◌-◌, ◌*◌, ◌≤◌, min, leb, eqb, length, take, drop}
use Rattle.std.proofs.Common.{ap, append-nil, ⊎_elim, arith, length-take, leb-true}
use Rattle.std.proofs.Math.Seq.{take-append_seam}
use Rattle.lemmas.specs.Lists.{drop-take}
use Rattle.refusal.specs.declared.Refusal.{Refusal}
use Rattle.refusal.specs.Answers.{Answer, given, refusal_of, passes, first_refusal}
use Rattle.trace.specs.declared.course.Begun.{Begun}
use Rattle.npy.specs.declared.reader.Kind.TheVariants.{F4}
use Rattle.npy.specs.declared.reader.Head.{Head}
use Rattle.npy.specs.Header.{call_header}
use Rattle.npy.specs.HeaderLaws.{at_within}
use Rattle.npy.specs.HeaderStart.{leb_take, window_decides}
use Rattle.npy.specs.CellLaws.{cell_start}
use Rattle.bank.specs.declared.Bank.{Bank}
use Rattle.trace.specs.LanesInTurn.{each_take}
use Rattle.trace.specs.Trace.{is_f4, settings_bytes, settings_misfit, settings_refusal, open_of, opened_bank, start_unless, trace_start, call_start}
use Rattle.trace.specs.AcceptedStart.{settings_parts, second_at}

abbrev pub start_bytes : ℕ
start_bytes = 2184

-- the data of an array begin at byte 1,012 at the latest
pub at_small : (s : List ℕ) → (given (call_header s)).at ≤ 1012
at_small s =
    let h : (given (call_header (take 1012 s))).at ≤ min 1012 (length s) = rw length-take at (at_within (take 1012 s)) in
    let e : (given (call_header (take 1012 s))).at ≡ (given (call_header s)).at = ap (λ (x : Answer Head). (given x).at) (window_decides 1012 s (omega arith)) in
    omega arith

trace_take : (k : ℕ) (b : Bank) (at n : ℕ) (s : List ℕ) → at + 1012 ≤ n → trace_start k b at (take n s) ≡ trace_start k b at s
unfolding trace_start
trace_take k b at n s h =
    let e : call_header (drop at (take n s)) ≡ call_header (drop at s) = rw (drop-take at n s) (window_decides (n - at) (drop at s) (omega arith)) in
    rw e

open_of_take : (m : ℕ) (s : List ℕ) → 20 ≤ m → open_of (take m s) ≡ open_of s
unfolding open_of
open_of_take m s h =
    rw (drop-take 4 m s, drop-take 8 m s, drop-take 12 m s, drop-take 16 m s, cell_start F4 m s (omega arith), cell_start F4 (m - 4) (drop 4 s) (omega arith), cell_start F4 (m - 8) (drop 8 s) (omega arith), cell_start F4 (m - 12) (drop 12 s) (omega arith), cell_start F4 (m - 16) (drop 16 s) (omega arith))

opened_take : (k at n : ℕ) (s : List ℕ) → at + k * 20 ≤ n → opened_bank k (drop at (take n s)) ≡ opened_bank k (drop at s)
unfolding opened_bank
opened_take k at n s h = rw (drop-take at n s, each_take open_of 20 k (n - at) (drop at s) open_of_take (omega arith))

misfit_take : (n : ℕ) (s : List ℕ) (h : Head) → h.at + 160 ≤ n → settings_misfit h (length (take n s)) ≡ settings_misfit h (length s)
unfolding settings_misfit
misfit_take n s h l = go (leb 1 h.rows) (leb h.rows 8) refl (eqb h.cols 5)
  where
    X : Bool → Option Refusal
    X t = cond t None (Some Refusal.Cut)

    same : h.rows ≤ 8 → leb (h.at + settings_bytes h.rows) (length (take n s)) ≡ leb (h.at + settings_bytes h.rows) (length s)
    same m = leb_take (h.at + settings_bytes h.rows) n s (omega arith)

    go : (a b : Bool) → leb h.rows 8 ≡ b → (d : Bool)
        → cond (is_f4 h.kind) (cond (a && (b && d)) (X (leb (h.at + settings_bytes h.rows) (length (take n s)))) (Some Refusal.Shape)) (Some Refusal.Kind)
        ≡ cond (is_f4 h.kind) (cond (a && (b && d)) (X (leb (h.at + settings_bytes h.rows) (length s))) (Some Refusal.Shape)) (Some Refusal.Kind)
    go true true e d = rw (same (leb-true h.rows 8 e))
    go true false e d = refl
    go false b e d = refl

settings_take : (n : ℕ) (s : List ℕ) (h : Answer Head) → (given h).at + 160 ≤ n → settings_refusal h (length (take n s)) ≡ settings_refusal h (length s)
unfolding settings_refusal
settings_take n s h l = ap (λ (why : Option Refusal). first_refusal (refusal_of h) why) (misfit_take n s (given h) l)

-- what comes after a test matters only where it holds
unless_same : (why : Option Refusal) (x y : Answer Begun) → (passes why ≡ true → x ≡ y) → start_unless why x ≡ start_unless why y
unless_same None x y e = e refl
unless_same (Some why) x y e = refl

pub start_take : (n : ℕ) (s : List ℕ) → start_bytes ≤ n → call_start (take n s) ≡ call_start s
unfolding call_start
start_take n s h =
    let head = given (call_header s) in
    rw (window_decides n s (omega arith), settings_take n s (call_header s) (omega (arith, at_small s)))
    (unless_same (settings_refusal (call_header s) (length s)) _ _
    (λ (e : passes (settings_refusal (call_header s) (length s)) ≡ true).
    let p = settings_parts (call_header s) (length s) e in
    rw (
      trace_take head.rows (opened_bank head.rows (drop head.at (take n s))) (second_at s) n s (omega (arith, p.few, at_small s)),
      opened_take head.rows head.at n s (omega (arith, p.few, at_small s)),
    )))

-- it has read enough: the bytes of a start or more, or all that there is
abbrev pub Enough : List ℕ → List ℕ → Type 0
Enough first rest = (start_bytes ≤ length first) ⊎ (rest ≡ [])

pub start_early : (first rest : List ℕ) → Enough first rest → call_start first ≡ call_start (first ++ rest)
start_early first rest h =
    ⊎_elim
    (λ (l : start_bytes ≤ length first). rw (take-append_seam first rest) at (start_take (length first) (first ++ rest) l))
    (λ (e : rest ≡ []). rw (e, append-nil first))
    h
