-- What document 01 spells: the text of a header by its parts, X, R and C, and the bytes before it, for either width of the length.
use Rattle.std.specs.Prelude.{◌≡◌, List, [], ◌∷◌, ◌++◌, Bool, true, ◌&&◌, ◌⊎◌, ℕ, ◌+◌, ◌/◌, ◌%◌, ◌≤◌, length, get_or, replicate}
use Rattle.npy.specs.Text.{is_kind_byte, is_digit, kind_fits, is_number, before_kind, before_rows, before_cols, after_cols, line_feed}
use Rattle.npy.specs.Header.{low_first, magic}

-- every byte passes the test
unfoldable pub all_pass : (ℕ → Bool) → List ℕ → Bool
all_pass p [] = true
all_pass p (x ∷ xs) = p x && all_pass p xs

-- X is 1 to 16 bytes from 20 to 7e (hex) without '; R and C have 1 to 9 digits and no leading zero except 0 itself
pub record HeaderParts (x r c : List ℕ) : Type 0 where
  pub kind : all_pass is_kind_byte x ≡ true
  pub kind_size : kind_fits (length x) ≡ true
  pub rows : all_pass is_digit r ≡ true
  pub rows_number : is_number (get_or r 0 0) (length r) ≡ true
  pub cols : all_pass is_digit c ≡ true
  pub cols_number : is_number (get_or c 0 0) (length c) ≡ true

abbrev pub spaces : ℕ → List ℕ
spaces n = replicate n 32

-- `{'descr': 'X', 'fortran_order': False, 'shape': (R, C), }`, n spaces, one line feed
unfoldable pub header_text : List ℕ → List ℕ → List ℕ → ℕ → List ℕ
header_text x r c n = before_kind ++ (x ++ (before_rows ++ (r ++ (before_cols ++ (c ++ (after_cols ++ (spaces n ++ line_feed)))))))

-- ---- the bytes before the text, for either width of the length: 1.0 has 2 bytes, 2.0 has 4

abbrev pub header_bytes : ℕ → List ℕ → List ℕ → List ℕ → List ℕ
header_bytes w l t rest = magic ++ (w / 2 ∷ 0 ∷ (l ++ (t ++ rest)))

-- t is framed by its length l, which has w bytes, low byte first: 1 to 1,000, and the data begin at a multiple of 16
pub record Framed (w : ℕ) (l t : List ℕ) : Type 0 where
  pub width : (w ≡ 2) ⊎ (w ≡ 4)
  pub bytes : length l ≡ w
  pub counts : low_first l ≡ length t
  pub short : (1 ≤ length t) × (length t ≤ 1000)
  pub sixteens : (8 + w + length t) % 16 ≡ 0

-- bytes that begin with a header as document 01 spells it, and the rest
pub record SpelledHeader (s : List ℕ) : Type 0 where
  pub w : ℕ
  pub l : List ℕ
  pub x : List ℕ
  pub r : List ℕ
  pub c : List ℕ
  pub n : ℕ
  pub rest : List ℕ
  pub parts : HeaderParts x r c
  pub framed : Framed w l (header_text x r c n)
  pub is : s ≡ header_bytes w l (header_text x r c n) rest
