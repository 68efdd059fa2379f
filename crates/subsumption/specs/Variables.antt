-- Which variables a concept uses (request A.1): the set as an answer, and the variables that stand in a concept.
use Rattle.std.specs.Prelude.{ℕ, Bool, false, eqb}
use Rattle.subsumption.specs.Tables.{or, Concept, top, name, exists, and, var}

-- Variable k stands in the concept, at any depth.
unfoldable pub stands_in : ℕ → Concept → Bool
stands_in k top = false
stands_in k (name n) = false
stands_in k (exists r c) = stands_in k c
stands_in k (and c d) = or (stands_in k c) (stands_in k d)
stands_in k (var j) = eqb k j
