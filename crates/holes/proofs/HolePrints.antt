-- A hole of the recorder in `<i2`: from its row on, its lane prints NaN. Assumes nothing.
use Rattle.std.specs.Prelude.{◌≡◌, List, true, take, drop, ℕ, ◌+◌, ◌*◌, ◌≤◌, ◌<◌}
use Rattle.std.specs.Float.{nan}
use Rattle.refusal.specs.Answers.{given, refusal_of, passes}
use Rattle.npy.specs.declared.reader.Kind.{Kind}
use Rattle.npy.specs.declared.reader.Kind.TheVariants.{I2}
use Rattle.npy.specs.Header.{low_first}
use Rattle.npy.specs.HoleLaws.{i2-hole}
use Rattle.npy.specs.Lines.{word_of}
use Rattle.trace.specs.Trace.{call_start}
use Rattle.trace.specs.Taken.{CanTake}
use Rattle.trace.specs.AcceptedStart.{bytes_after_start}
use Rattle.trace.specs.LaneCells.{cell_at, lanes_of, cell_kind_of}
use Rattle.trace.specs.ColumnTheorem.{printed_word}
use Rattle.holes.specs.HoleInTrace.{nan_prints}

-- in `<i2` by the hole's bytes: those of that cell, after the start, stand for 0x8000
hole_cell : (kind : Kind) (k : ℕ) (bytes : List ℕ) (q c : ℕ) → kind ≡ I2 → low_first (take 2 (drop ((q * k + c) * 2) bytes)) ≡ 0x8000 → cell_at kind k bytes q c ≡ nan
unfolding cell_at
hole_cell kind k bytes q c e h = rw e (i2-hole (drop ((q * k + c) * 2) bytes) h)

pub hole_prints : (s : List ℕ) (m L q r : ℕ) → passes (refusal_of (call_start s)) ≡ true → CanTake m (given (call_start s)).course (bytes_after_start s) → L < lanes_of s → q ≤ r → r < m
    → cell_kind_of s ≡ I2 → low_first (take 2 (drop ((q * (lanes_of s * 3) + (L * 3 + 1)) * 2) (bytes_after_start s))) ≡ 0x8000 → printed_word s L r ≡ word_of nan
hole_prints s m L q r a t l o h k e = nan_prints s m L q r a t l o h (hole_cell (cell_kind_of s) (lanes_of s * 3) (bytes_after_start s) q (L * 3 + 1) k e)
