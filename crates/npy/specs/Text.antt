-- Document 01's text of a header: exactly the dictionary as spelled, any spaces, one line feed. A list is the text's bytes, and a place
-- is a number of bytes from its start.
use Rattle.std.specs.Prelude.{ℕ, ◌+◌, ◌-◌, ◌*◌, List, [], ◌∷◌, Bool, true, false, cond, not, ◌&&◌, ◌||◌, length, get_or, drop, leb, ltb, eqb}
use Rattle.npy.specs.declared.reader.Kind.{Kind}
use Rattle.npy.specs.declared.reader.Kind.TheVariants.{F4, I2, Other}
use Rattle.npy.specs.declared.reader.Places.{Places}

-- the list begins with the bytes of the second
unfoldable pub begins : List ℕ → List ℕ → Bool
begins s [] = true
begins [] (w ∷ ws) = false
begins (x ∷ xs) (w ∷ ws) = cond (eqb x w) (begins xs ws) false

-- a byte from lo to hi, other than `but`
unfoldable pub byte_within : ℕ → ℕ → ℕ → ℕ → Bool
byte_within lo hi but x = leb lo x && (leb x hi && not (eqb x but))

-- 20 to 7e (hex), without '
abbrev pub is_kind_byte : ℕ → Bool
is_kind_byte = byte_within 0x20 0x7e 0x27

abbrev pub is_digit : ℕ → Bool
is_digit = byte_within 0x30 0x39 0

abbrev pub is_space : ℕ → Bool
is_space = byte_within 0x20 0x20 0

-- how many of the first bytes pass the test
unfoldable pub lead_count : (ℕ → Bool) → List ℕ → ℕ
lead_count p [] = 0
lead_count p (x ∷ xs) = cond (p x) (lead_count p xs + 1) 0

-- the first place from one on whose byte does not pass the test
unfoldable pub end_of : (ℕ → Bool) → List ℕ → ℕ → ℕ
end_of p t at = at + lead_count p (drop at t)

-- the number that digits stand for, after those of the value v
unfoldable pub decimal : ℕ → List ℕ → ℕ
decimal v [] = v
decimal v (x ∷ xs) = decimal (v * 10 + (x - 0x30)) xs

-- 1 to 16 bytes
unfoldable pub kind_fits : ℕ → Bool
kind_fits n = leb 1 n && leb n 16

-- 1 to 9 digits, and no leading zero except 0 itself
unfoldable pub is_number : ℕ → ℕ → Bool
is_number first count = leb 1 count && (leb count 9 && (ltb count 2 || not (eqb first 0x30)))

-- `<f4` and `<i2`
abbrev pub f4 : List ℕ
f4 = 60 ∷ 102 ∷ 52 ∷ []

abbrev pub i2 : List ℕ
i2 = 60 ∷ 105 ∷ 50 ∷ []

-- the kind that the first n bytes of a list name
unfoldable pub kind_of : List ℕ → ℕ → Kind
kind_of s n = cond (eqb n 3) (cond (begins s f4) F4 (cond (begins s i2) I2 Other)) Other

-- `{'descr': '`
abbrev pub before_kind : List ℕ
before_kind = 123 ∷ 39 ∷ 100 ∷ 101 ∷ 115 ∷ 99 ∷ 114 ∷ 39 ∷ 58 ∷ 32 ∷ 39 ∷ []

-- `', 'fortran_order': False, 'shape': (`
abbrev pub before_rows : List ℕ
before_rows =
    39 ∷ 44 ∷ 32 ∷ 39 ∷ 102 ∷ 111 ∷ 114 ∷ 116 ∷ 114 ∷ 97 ∷ 110 ∷ 95 ∷ 111 ∷ 114 ∷ 100 ∷ 101 ∷ 114 ∷ 39 ∷ 58 ∷ 32
    ∷ 70 ∷ 97 ∷ 108 ∷ 115 ∷ 101 ∷ 44 ∷ 32 ∷ 39 ∷ 115 ∷ 104 ∷ 97 ∷ 112 ∷ 101 ∷ 39 ∷ 58 ∷ 32 ∷ 40 ∷ []

-- `, `
abbrev pub before_cols : List ℕ
before_cols = 44 ∷ 32 ∷ []

-- `), }`
abbrev pub after_cols : List ℕ
after_cols = 41 ∷ 44 ∷ 32 ∷ 125 ∷ []

-- a line feed
abbrev pub line_feed : List ℕ
line_feed = 10 ∷ []

-- X begins at 11
unfoldable pub kind_end : List ℕ → ℕ
kind_end t = end_of is_kind_byte t 11

unfoldable pub rows_at : List ℕ → ℕ
rows_at t = kind_end t + 37

unfoldable pub rows_end : List ℕ → ℕ
rows_end t = end_of is_digit t (rows_at t)

unfoldable pub cols_at : List ℕ → ℕ
cols_at t = rows_end t + 2

unfoldable pub cols_end : List ℕ → ℕ
cols_end t = end_of is_digit t (cols_at t)

unfoldable pub feed_at : List ℕ → ℕ
feed_at t = end_of is_space t (cols_end t + 4)

unfoldable pub places_of : List ℕ → Places
places_of t = record { kind_end = kind_end t; rows = rows_at t; rows_end = rows_end t; cols = cols_at t; cols_end = cols_end t; feed = feed_at t; end = feed_at t + 1 }

unfoldable pub front_spelled : List ℕ → Places → Bool
front_spelled t p = (begins t before_kind && kind_fits (p.kind_end - 11)) && begins (drop p.kind_end t) before_rows

unfoldable pub shape_spelled : List ℕ → Places → Bool
shape_spelled t p =
    (is_number (get_or t p.rows 0) (p.rows_end - p.rows) && begins (drop p.rows_end t) before_cols)
    && is_number (get_or t p.cols 0) (p.cols_end - p.cols)

-- the line feed is the last byte
unfoldable pub end_spelled : List ℕ → Places → Bool
end_spelled t p = (begins (drop p.cols_end t) after_cols && begins (drop p.feed t) line_feed) && eqb (length t) p.end

unfoldable pub spelled : List ℕ → Places → Bool
spelled t p = (front_spelled t p && shape_spelled t p) && end_spelled t p
