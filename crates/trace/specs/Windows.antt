-- The windows theorem: a reader that takes a trace in parts, of any sizes, prints what the whole trace means. Assumes nothing.
use Rattle.std.specs.Prelude.{◌≡◌, refl, Some, List, [], ◌∷◌, ◌++◌, Bool, true, false, ◌⊎◌, ℕ, zero, suc, ◌-◌, ◌*◌, ◌≤◌, ◌<◌, length, take, drop}
use Rattle.std.proofs.Common.{sym, ap, ◌∙◌, append_assoc, append-nil, inl, inr, ⊎_elim, arith, length-append, le-ltb}
use Rattle.std.proofs.Math.Seq.{take-append_seam}
use Rattle.std.proofs.lemmas.List.{drop-append-le}
use Rattle.lemmas.specs.Cases.{lt_or_le}
use Rattle.refusal.specs.declared.Refusal.{Refusal}
use Rattle.refusal.specs.Answers.{passes}
use Rattle.npy.specs.CellLaws.{cells_take}
use Rattle.trace.specs.declared.course.Course.{Course}
use Rattle.trace.specs.Trace.{refused_line, reason_text, row_width, calls_of_row, row_line, after_row, row_lines, after_rows, form_refusal, cut_refusal, row_refusal, course_refusal, course_text}
use Rattle.trace.specs.Taken.{CanTake, Spent, take_bytes, row-taken, text_cut, spent_lines, spent_rest, spent_row, spent_text, most_rows, most_rows_lem}
use Rattle.trace.specs.RowRefusalLaws.{row-short, row_formless}
use Rattle.trace.specs.MeasureLaws.{rest_refusal_of_lem, rest_some}

-- ---- rows are read from their own bytes alone

calls_take : (c : Course) (n : ℕ) (s : List ℕ) → row_width c ≤ n → calls_of_row c (take n s) ≡ calls_of_row c s
unfolding calls_of_row row_width
calls_take c n s h = rw (cells_take c.kind (c.lanes * 3) n s h)

calls_ahead : (c : Course) (s t : List ℕ) → row_width c ≤ length s → calls_of_row c (s ++ t) ≡ calls_of_row c s
calls_ahead c s t h = sym (calls_take c (length s) (s ++ t) h) ∙ rw (take-append_seam s t)

-- a row that is there whole is refused, or not, whatever comes after it
pub row_ahead : (c : Course) (s t : List ℕ) → row_width c ≤ length s → row_refusal c (s ++ t) ≡ row_refusal c s
unfolding row_refusal cut_refusal
row_ahead c s t h =
    rw (calls_ahead c s t h, le-ltb (length s) (row_width c) h, le-ltb (length (s ++ t)) (row_width c) (rw length-append (omega arith)))

-- so rows that can be taken can be taken whatever comes after them, and are the same
pub record Ahead (n : ℕ) (c : Course) (s t : List ℕ) : Type 0 where
  pub taken : CanTake n c (s ++ t)
  pub lines : row_lines n c (s ++ t) ≡ row_lines n c s
  pub course : after_rows n c (s ++ t) ≡ after_rows n c s

pub rows_ahead : (n : ℕ) (c : Course) (s t : List ℕ) → CanTake n c s → Ahead n c s t
unfolding CanTake row_lines after_rows row_line after_row
rows_ahead zero c s t h = record { taken = tt; lines = refl; course = refl }
rows_ahead (suc n) c s t h =
    let there = (row-taken c s h.1).there in
    let rest = rows_ahead n (after_row c (c.left - 1) s) (drop (row_width c) s) t h.2 in
    let calls = calls_ahead c s t there in
    let behind = drop-append-le (row_width c) s t there in
    record {
      taken = (h.0, ap passes (row_ahead c s t there) ∙ h.1, rw (calls, behind) rest.taken);
      lines = rw (calls, behind, rest.lines);
      course = rw (calls, behind, rest.course);
    }

held_cut : (n : ℕ) (c : Course) (held rest : List ℕ) → CanTake n c held
    → course_text c (held ++ rest) ≡ row_lines n c held ++ course_text (after_rows n c held) (drop (n * row_width c) held ++ rest)
held_cut n c held rest h =
    let ahead = rows_ahead n c held rest h in
    text_cut n c (held ++ rest) ahead.taken ∙ rw (ahead.lines, ahead.course, drop-append-le (n * row_width c) held rest (take_bytes n c held h))

-- ---- a reader

-- what it reads at a time, maybe nothing, and how many rows it prints then
pub record Window : Type 0 where
  pub bytes : List ℕ
  pub rows : ℕ

-- all that it reads
unfoldable pub joined : List Window → List ℕ
joined [] = []
joined (w ∷ ws) = w.bytes ++ joined ws

-- what it prints: rows of what it kept and has read, keeping what is left over; and the ending
unfoldable pub windowed : Course → List ℕ → List Window → List ℕ
windowed c kept [] = reason_text (course_refusal c kept)
windowed c kept (w ∷ ws) =
    let held = kept ++ w.bytes in
    row_lines w.rows c held ++ windowed (after_rows w.rows c held) (drop (w.rows * row_width c) held) ws

-- it may print any number of rows that can be taken of what it holds, as its room for them asks, and ends where it may
unfoldable pub AllowedTo : (Course → List ℕ → Type 0) → Course → List ℕ → List Window → Type 0
AllowedTo End c kept [] = End c kept
AllowedTo End c kept (w ∷ ws) =
    CanTake w.rows c (kept ++ w.bytes)
    × AllowedTo End (after_rows w.rows c (kept ++ w.bytes)) (drop (w.rows * row_width c) (kept ++ w.bytes)) ws

-- at the end of the input it has printed all of them
abbrev pub Allowed : Course → List ℕ → List Window → Type 0
Allowed = AllowedTo Spent

-- where the end is told rightly, whatever else there is to read, so is the whole
windows_to : (End : Course → List ℕ → Type 0) (more : List ℕ) → ((c : Course) (kept : List ℕ) → End c kept → course_text c (kept ++ more) ≡ reason_text (course_refusal c kept))
    → (ws : List Window) (c : Course) (kept : List ℕ) → AllowedTo End c kept ws → windowed c kept ws ≡ course_text c (kept ++ (joined ws ++ more))
unfolding windowed AllowedTo joined
windows_to End more tells [] c kept a = sym (tells c kept a)
windows_to End more tells (w ∷ ws) c kept a =
    let held = kept ++ w.bytes in
    let rest = windows_to End more tells ws (after_rows w.rows c held) (drop (w.rows * row_width c) held) a.1 in
    rw (rest, append_assoc w.bytes (joined ws) more, ← append_assoc kept w.bytes (joined ws ++ more)) (sym (held_cut w.rows c held (joined ws ++ more) a.0))

-- THE WINDOWS THEOREM: however the input is cut, and however many rows are printed at a time, the text is the same
pub windows_theorem : (ws : List Window) (c : Course) (kept : List ℕ) → Allowed c kept ws → windowed c kept ws ≡ course_text c (kept ++ joined ws)
windows_theorem ws c kept a =
    windows_to Spent [] (λ c kept h. rw (append-nil kept) (spent_text c kept h)) ws c kept a ∙ rw (append-nil (joined ws))

refused_ahead : (c : Course) (kept more : List ℕ) → (row_refusal c kept ≡ Some Refusal.Cut → ⊥) → row_refusal c (kept ++ more) ≡ row_refusal c kept
refused_ahead c kept more other = go (passes (form_refusal c.kind c.lanes)) refl
  where
    go : (t : Bool) → passes (form_refusal c.kind c.lanes) ≡ t → row_refusal c (kept ++ more) ≡ row_refusal c kept
    go false e = (row_formless c (kept ++ more) e).0 ∙ sym (row_formless c kept e).0
    go true e = ⊎_elim (λ (g : length kept < row_width c). absurd (other (row-short c kept e g).0)) (λ (g : row_width c ≤ length kept). row_ahead c kept more g) (lt_or_le (length kept) (row_width c))

-- a reader need not read to the end: what the next row is refused with, unless it is that it is cut off, is known where the row is held
pub refused-known : (c : Course) (kept more : List ℕ) → 0 < c.left → passes (row_refusal c kept) ≡ false → (row_refusal c kept ≡ Some Refusal.Cut → ⊥) → course_text c (kept ++ more) ≡ reason_text (row_refusal c kept)
unfolding course_text
refused-known c kept more l h other =
    let same = refused_ahead c kept more other in
    let stop : passes (row_refusal c (kept ++ more)) ≡ false = ap passes same ∙ h in
    rw (spent_lines c (kept ++ more) (inr stop), spent_row c (kept ++ more) l stop, same)

-- and one byte after the last row is known to be refused
pub rest-known : (c : Course) (kept more : List ℕ) → c.left ≡ 0 → 0 < length kept → course_text c (kept ++ more) ≡ refused_line (Some Refusal.Rest)
unfolding course_text
rest-known c kept more e h =
    let some : 0 < length (kept ++ more) = rw length-append (omega arith) in
    rw (spent_lines c (kept ++ more) (inl e), spent_rest c (kept ++ more) e, rest_refusal_of_lem (kept ++ more), rest_some some)

-- so a reader may stop there, whatever is still to be read
abbrev pub EndKnown : Course → List ℕ → Type 0
EndKnown c kept = ((0 < c.left) × (passes (row_refusal c kept) ≡ false) × (row_refusal c kept ≡ Some Refusal.Cut → ⊥)) ⊎ ((c.left ≡ 0) × (0 < length kept))

known-text : (more : List ℕ) (c : Course) (kept : List ℕ) → EndKnown c kept → course_text c (kept ++ more) ≡ reason_text (course_refusal c kept)
known-text more c kept h =
    ⊎_elim
    (λ (k : (0 < c.left) × (passes (row_refusal c kept) ≡ false) × (row_refusal c kept ≡ Some Refusal.Cut → ⊥)). refused-known c kept more k.0 k.1 k.2 ∙ sym (rw (spent_row c kept k.0 k.1)))
    (λ (k : (c.left ≡ 0) × (0 < length kept)). rest-known c kept more k.0 k.1 ∙ sym (rw (spent_rest c kept k.0, rest_refusal_of_lem kept, rest_some k.1)))
    h

pub early_theorem : (more : List ℕ) (ws : List Window) (c : Course) (kept : List ℕ) → AllowedTo EndKnown c kept ws → windowed c kept ws ≡ course_text c (kept ++ (joined ws ++ more))
early_theorem more = windows_to EndKnown more (known-text more)

-- a reader that prints all the rows it holds, each time
unfoldable pub at_once : Course → List ℕ → List (List ℕ) → List Window
at_once c kept [] = []
at_once c kept (bytes ∷ more) =
    let held = kept ++ bytes in
    let n = most_rows c held in
    record { bytes = bytes; rows = n } ∷ at_once (after_rows n c held) (drop (n * row_width c) held) more

pub at_once_allowed : (parts : List (List ℕ)) (c : Course) (kept : List ℕ) → (parts ≡ [] → Spent c kept) → Allowed c kept (at_once c kept parts)
unfolding at_once AllowedTo
at_once_allowed [] c kept e = e refl
at_once_allowed (bytes ∷ more) c kept e =
    let held = kept ++ bytes in
    let n = most_rows c held in
    let w = most_rows_lem c held in
    (w.taken, at_once_allowed more (after_rows n c held) (drop (n * row_width c) held) (λ _. w.spent))

-- all that it reads
unfoldable pub all_of : List (List ℕ) → List ℕ
all_of [] = []
all_of (bytes ∷ more) = bytes ++ all_of more

pub at_once-joined : (parts : List (List ℕ)) (c : Course) (kept : List ℕ) → joined (at_once c kept parts) ≡ all_of parts
unfolding at_once joined all_of
at_once-joined [] c kept = refl
at_once-joined (bytes ∷ more) c kept = ap (λ (l : List ℕ). bytes ++ l) (at_once-joined more _ _)
