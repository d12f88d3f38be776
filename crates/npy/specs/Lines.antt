-- A result is a word, 8 lowercase hexadecimal digits; a row is a line, its words with single spaces between them and a line feed.
use Rattle.std.specs.Prelude.{ℕ, zero, suc, ◌+◌, ◌/◌, ◌%◌, List, [], ◌∷◌, ◌++◌, cond, ltb, take, drop, Float}
use Rattle.std.specs.Float.Ieee as Ieee
use Rattle.std.specs.Float.{binary32}

unfoldable pub hex_of : ℕ → ℕ
hex_of n = cond (ltb n 10) (n + 48) (n + 87)

-- the 8 digits of a number
unfoldable pub hex_word : ℕ → List ℕ
hex_word v =
    hex_of (v / 0x1000_0000 % 16) ∷ hex_of (v / 0x100_0000 % 16) ∷ hex_of (v / 0x10_0000 % 16) ∷ hex_of (v / 0x1_0000 % 16)
    ∷ hex_of (v / 0x1000 % 16) ∷ hex_of (v / 0x100 % 16) ∷ hex_of (v / 0x10 % 16) ∷ hex_of (v % 16) ∷ []

-- the word of a float is its bits; a NaN's are 7fc00000, which is what to_bits gives
unfoldable pub word_of : Float → List ℕ
word_of x = hex_word (Ieee.to_bits binary32 x)

-- what stands after a word: a space where another one is to come, and a line feed where none is
unfoldable pub after_word : List Float → ℕ
after_word [] = 10
after_word (x ∷ xs) = 32

unfoldable pub line_of : List Float → List ℕ
line_of [] = []
line_of (x ∷ xs) = word_of x ++ (after_word xs ∷ line_of xs)

-- n rows of k words
unfoldable pub lines_of : ℕ → ℕ → List Float → List ℕ
lines_of k zero xs = []
lines_of k (suc n) xs = line_of (take k xs) ++ lines_of k n (drop k xs)
