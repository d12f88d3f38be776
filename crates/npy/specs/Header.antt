-- The header of an array, in the order of document 01: magic and version (11), then the length of the text and the text (12).
use Rattle.std.specs.Prelude.{ℕ, zero, suc, Option, Some, None, Ok, ◌+◌, ◌-◌, ◌*◌, ◌%◌, List, [], ◌∷◌, Bool, cond, ◌&&◌, length, get_or, take, drop, ltb, leb, eqb}
use Rattle.refusal.specs.declared.Refusal.{Refusal}
use Rattle.refusal.specs.Answers.{Answer, refused, given, refusal_of, passes}
use Rattle.npy.specs.Text.{begins, decimal, kind_of, kind_end, rows_at, rows_end, cols_at, cols_end, places_of, spelled}
use Rattle.npy.specs.declared.reader.Kind.{Kind}
use Rattle.npy.specs.declared.reader.Kind.TheVariants.{F4, I2, Other}
use Rattle.npy.specs.declared.reader.Head.{Head}

-- a number from its bytes, low byte first
unfoldable pub low_first : List ℕ → ℕ
low_first [] = 0
low_first (b ∷ bs) = b + 256 * low_first bs

-- the bytes of a cell
abbrev pub cell_width : Kind → ℕ
cell_width F4 = 4
cell_width I2 = 2
cell_width Other = 0

-- a kind that has cells
abbrev pub has_cells : Kind → Bool
has_cells k = ltb 0 (cell_width k)

-- what stands in the answer of a header that is refused
abbrev pub no_head : Head
no_head = record { kind = Other; rows = 0; cols = 0; at = 0 }

unfoldable pub refused_head : Refusal → Answer Head
refused_head r = refused r no_head

unfoldable pub accepted_head : Kind → ℕ → ℕ → ℕ → Answer Head
accepted_head k r c at = Ok (record { kind = k; rows = r; cols = c; at = at })

abbrev pub is_accepted : Answer Head → Bool
is_accepted h = passes (refusal_of h)

-- the header whose text is t, and whose data begin at a place
unfoldable pub text_head : List ℕ → ℕ → Answer Head
text_head t at =
    cond (spelled t (places_of t))
    (accepted_head (kind_of (drop 11 t) (kind_end t - 11)) (decimal 0 (take (rows_end t - rows_at t) (drop (rows_at t) t))) (decimal 0 (take (cols_end t - cols_at t) (drop (cols_at t) t))) at)
    (refused_head Refusal.Header)

-- n bytes of text from b on: 1 to 1,000, not cut off, and as many bytes before the data as a multiple of 16
unfoldable pub text_fits : ℕ → ℕ → ℕ → Bool
text_fits n b len = leb 1 n && (leb n 1000 && (leb (b + n) len && eqb ((b + n) % 16) 0))

unfoldable pub text_length : ℕ → List ℕ → ℕ
text_length w s = low_first (take w (drop 8 s))

-- the header whose text's length has w bytes
unfoldable pub header_of_width : ℕ → List ℕ → Answer Head
header_of_width w s =
    cond (leb (8 + w) (length s) && text_fits (text_length w s) (8 + w) (length s))
    (text_head (take (text_length w s) (drop (8 + w) s)) (8 + w + text_length w s))
    (refused_head Refusal.Header)

-- 0x93 and NUMPY
abbrev pub magic : List ℕ
magic = 147 ∷ 78 ∷ 85 ∷ 77 ∷ 80 ∷ 89 ∷ []

-- the bytes of the text's length: 2 in version 1.0, 4 in 2.0, and 0 where the start is of neither
unfoldable pub length_width : List ℕ → ℕ
length_width s =
    cond (leb 8 (length s) && (begins s magic && eqb (get_or s 7 0) 0))
    (cond (eqb (get_or s 6 0) 1) 2 (cond (eqb (get_or s 6 0) 2) 4 0))
    0

-- a width that is one of a version
abbrev pub known_width : ℕ → Option ℕ
known_width zero = None
known_width (suc w) = Some (suc w)

unfoldable pub call_header : List ℕ → Answer Head
call_header s = cond (eqb (length_width s) 0) (refused_head Refusal.Magic) (header_of_width (length_width s) s)

-- everything after the header; nothing where it is refused
unfoldable pub data_of : List ℕ → List ℕ
data_of s = cond (is_accepted (call_header s)) (drop (given (call_header s)).at s) []

-- a place of the memory block that a slice begins in: so many bytes after its start
abbrev pub place_in : ℕ × ℕ → ℕ → ℕ × ℕ
place_in ptr n = (ptr.0, n + ptr.1)
