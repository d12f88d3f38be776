-- What `put_line` and `put_lines` write at a place, and the place after it: the lines whole, or nothing where they do not fit.
use Rattle.std.specs.Prelude.{ℕ, ◌+◌, ◌-◌, ◌*◌, ◌/◌, ◌%◌, List, Bool, cond, ◌&&◌, eqb, ltb, leb, length, Float}
use Rattle.std.proofs.lemmas.List.Edits.{sets}
use Rattle.npy.specs.Lines.{line_of, lines_of}

-- n words, 9 bytes each, fit from a place on
unfoldable pub line_fits : ℕ → ℕ → ℕ → Bool
line_fits at n len = leb at len && leb n ((len - at) / 9)

unfoldable pub line_end : ℕ → ℕ → ℕ → ℕ
line_end at n len = cond (line_fits at n len) (at + 9 * n) at

-- a row's line from a place on, where it fits
unfoldable pub put_line : List ℕ → ℕ → List Float → List ℕ
put_line out at xs = cond (line_fits at (length xs) (length out)) (sets out at (line_of xs)) out

-- n words are whole rows of k, and fit from a place on
unfoldable pub lines_fit : ℕ → ℕ → ℕ → ℕ → Bool
lines_fit at k n len = ltb 0 k && (eqb (n % k) 0 && line_fits at n len)

unfoldable pub lines_end : ℕ → ℕ → ℕ → ℕ → ℕ
lines_end at k n len = cond (lines_fit at k n len) (at + 9 * n) at

-- the lines of rows of k words from a place on, where they are whole and fit
unfoldable pub put_lines : List ℕ → ℕ → ℕ → List Float → List ℕ
put_lines out at k xs = cond (lines_fit at k (length xs) (length out)) (sets out at (lines_of k (length xs / k) xs)) out
