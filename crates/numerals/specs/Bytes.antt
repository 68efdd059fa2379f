-- Bytes in front of others.
use Rattle.std.specs.Prelude.{ℕ, List, [], ◌∷◌, Bool, true, false, eqb}
use Rattle.subsumption.specs.Tables.{both}

unfoldable pub starts : List ℕ → List ℕ → Bool
starts [] rest = true
starts (k ∷ key) [] = false
starts (k ∷ key) (b ∷ rest) = both (eqb b k) (starts key rest)
