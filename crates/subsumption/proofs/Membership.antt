-- Concepts without variables do not depend on how variables are read.
use Prim.Native.Nat.{ℕ}
use mathlib.Core.Path.{◌≡◌, sym, ◌∙◌}
use mathlib.Core.List.{List}
use mathlib.Core.Bool.{false, true≢false}
use Rattle.subsumption.specs.Tables.{Tables, Concept, top, name, exists, and, var, variables_of, has_variable}
use Rattle.subsumption.specs.Subsumption.{Interpretation, Reading, Member, assigned, SubsumedBy, Subsumed}
use Rattle.subsumption.proofs.Bools.{or-false}
use Rattle.subsumption.proofs.VariableLaws.{variable-both, variable-one}
use Rattle.subsumption.proofs.Inward.{Ground}

pub member-ground : (I : Interpretation) (ρ ρ' : Reading) (c : Concept) → has_variable c ≡ false → (x : ℕ) → Member I ρ c x → Member I ρ' c x
unfolding has_variable variables_of
member-ground I ρ ρ' top g x h = h
member-ground I ρ ρ' (name n) g x h = h
member-ground I ρ ρ' (exists r c) g x (y, l, k, h) = (y, l, k, member-ground I ρ ρ' c g y h)
member-ground I ρ ρ' (and c d) g x (h, k) =
    let (p, q) = or-false _ _ (sym (variable-both c d) ∙ g) in
    (member-ground I ρ ρ' c p x h, member-ground I ρ ρ' d q x k)
member-ground I ρ ρ' (var k) g x h = absurd (true≢false (sym (variable-one k) ∙ g))

pub subsumed-by-ground :
    (t : Tables) (ρ ρ' : Interpretation → Reading) (i j : ℕ) → Ground t.concepts i → Ground t.concepts j
    → SubsumedBy t ρ i j → SubsumedBy t ρ' i j
subsumed-by-ground t ρ ρ' i j g k s I obeys x l h = member-ground I (ρ I) (ρ' I) _ k x (s I obeys x l (member-ground I (ρ' I) (ρ I) _ g x h))

-- Pairs without variables do not depend on the assignment.
pub subsumed-ground :
    (t : Tables) (α β : List ℕ) (i j : ℕ) → Ground t.concepts i → Ground t.concepts j → Subsumed t α i j → Subsumed t β i j
subsumed-ground t α β = subsumed-by-ground t (assigned t α) (assigned t β)
