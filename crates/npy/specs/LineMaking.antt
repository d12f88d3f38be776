-- How the code makes lines: words with the same byte after each, and then the line feeds. For the inside alone.
use Rattle.std.specs.Prelude.{ℕ, zero, suc, ◌+◌, ◌-◌, List, [], ◌∷◌, ◌++◌, set, Float}
use Rattle.npy.specs.Lines.{word_of}

-- words with the same byte after each
unfoldable pub words_of : ℕ → List Float → List ℕ
words_of after [] = []
words_of after (x ∷ xs) = word_of x ++ (after ∷ words_of after xs)

-- a line feed as the last byte of each of n lines of w bytes, from a place on
unfoldable pub end_lines : ℕ → ℕ → ℕ → List ℕ → List ℕ
end_lines zero w at out = out
end_lines (suc n) w at out = end_lines n w (at + w) (set out (at + w - 1) 10)
