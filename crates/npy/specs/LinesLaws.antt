-- Laws of words and lines: how long a line is, where its words stand, and the word of a NaN. Assumes nothing.
use Rattle.std.specs.Prelude.{◌≡◌, refl, List, [], ◌∷◌, ◌++◌, ℕ, zero, suc, ◌*◌, ◌<◌, length, get_or, take, drop, Float}
use Rattle.std.proofs.Common.{arith}
use Rattle.std.specs.Float.Ieee as Ieee
use Rattle.std.specs.Float.{nan}
use Rattle.npy.specs.Lines.{hex_of, hex_word, word_of, line_of}

-- a word and what follows it take 9 bytes
pub line_length : (v : List Float) → length (line_of v) ≡ 9 * length v
unfolding line_of word_of hex_word
line_length [] = refl
line_length (x ∷ v) = let h = line_length v in omega arith

-- a line's columns: the word of value i stands at 9 · i, whatever follows the line
pub line_column : (v : List Float) (i : ℕ) (rest : List ℕ) → i < length v → take 8 (drop (9 * i) (line_of v ++ rest)) ≡ word_of (get_or v i nan)
unfolding line_of word_of hex_word
line_column [] i rest h = absurd (omega arith)
line_column (x ∷ v) zero rest h = refl
line_column (x ∷ v) (suc i) rest h =
    let e : 9 * suc i ≡ suc (suc (suc (suc (suc (suc (suc (suc (suc (9 * i))))))))) = omega arith in
    rw e (line_column v i rest (omega arith))

-- 7fc00000
pub nan_word : word_of nan ≡ 55 ∷ 102 ∷ 99 ∷ 48 ∷ 48 ∷ 48 ∷ 48 ∷ 48 ∷ []
unfolding word_of hex_word hex_of Ieee.to_bits
nan_word = refl
