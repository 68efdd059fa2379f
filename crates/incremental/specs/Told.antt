-- An assignment told as pairs (02, A.7: a filling told as pairs): a variable, and the id of an atom that is chosen for it.
use Rattle.std.specs.Prelude.{ℕ, zero, suc, ◌+◌, ◌*◌, ◌%◌, List, [], ◌∷◌, Bool, not, eqb, ltb, length}
use Rattle.subsumption.specs.declared.refusal.Refusal.TheVariants.{BadAssignment}
use Rattle.subsumption.specs.Tables.{Tables, or, both, any_below, pairs_of, left_of, right_of}
use Rattle.subsumption.specs.Atoms.{atoms}
use Rattle.subsumption.specs.Rules.{contains}
use Rattle.subsumption.specs.Refusal.{or_else, refuse_if, first_at, Outcome}
use Rattle.subsumption.specs.Table.{one}

-- Check 9 here: a ragged list, tested first; a variable that is not below the count, or an id that is no atom.
unfoldable pub told_fault : Tables → List ℕ → Outcome
told_fault t told =
    or_else (refuse_if (not (eqb (length told % 2) 0)) (BadAssignment 0))
    (first_at BadAssignment (λ m. or (not (ltb (left_of told m) t.variables)) (not (contains (right_of told m) (atoms t)))) 0
    (pairs_of told))

-- Some pair tells the variable k and the id p.
unfoldable pub tells : List ℕ → ℕ → ℕ → Bool
tells told k p = any_below (pairs_of told) (λ m. both (eqb (left_of told m) k) (eqb (right_of told m) p))

-- The number with bit q for the q-th id of the list that passes.
unfoldable pub coded : (ℕ → Bool) → List ℕ → ℕ
coded test [] = 0
coded test (p ∷ ids) = one (test p) + coded test ids * 2

unfoldable pub choices : (ℕ → ℕ → Bool) → List ℕ → ℕ → ℕ → List ℕ
choices test ids k zero = []
choices test ids k (suc count) = coded (test k) ids ∷ choices test ids (suc k) count

-- The assignment that the pairs tell: one number a variable. Pairs may repeat.
unfoldable pub told_assignment : Tables → List ℕ → List ℕ
told_assignment t told = choices (tells told) (atoms t) 0 t.variables
