-- Entries for classes that are closed (src/rows.rt).
use Rattle.std.specs.Prelude.{ℕ, ◌+◌, ◌-◌, ◌*◌, ◌≡◌, List, ◌++◌, length, take, set}
use Rattle.owl.specs.Judgement.{meet_rows}
use Rattle.owl.specs.Inner.Frames.{between}

abbrev pub row_put : List ℕ → ℕ → ℕ → ℕ → ℕ → List ℕ
row_put rows i kind a b = set (set (set rows (i * 3) kind) (i * 3 + 1) a) (i * 3 + 2) b

-- the rows of the members from `start` up to `used`, behind the `count` entries before
pub record Paired (start used count : ℕ) (pending rows rows' : List ℕ) : Type 0 where
  pub long : length rows' ≡ length rows
  pub put : take ((count + (used - start) - 1) * 3) rows' ≡ take (count * 3) rows ++ meet_rows count (between start used pending)
