-- Subsumption, and the table of it, move with the ids (02, A.12).
use Prim.Native.Nat.{ℕ, ◌<◌}
use mathlib.Core.Path.{sym}
use mathlib.Core.List.{List}
use native.Mathlib.Omega.{arith}
use Rattle.subsumption.specs.Tables.{Tables, count_of}
use Rattle.subsumption.specs.Table.{TableOf}
use Rattle.subsumption.proofs.Bools.{same_bool}
use Rattle.renumbering.specs.Order.{new_id}
use Rattle.renumbering.specs.Renumbering.{renumbered}
use Rattle.renumbering.specs.Laws.{Renumberable, SameConcepts, MovedBelow, MovedMarks}
use Rattle.renumbering.proofs.AlikeLaws.{readable, turned, subsumed-there}
use Rattle.renumbering.proofs.AcceptedLaws.{renumbered-readable, renumbered-alike}
use Rattle.renumbering.proofs.TreeLaws.{moved-count, arranged, well, tree-kept}

-- An id is below another exactly when its new id is below the other's new one.
pub renumbered-below :
    (t : Tables) (order assignment assignment' : List ℕ) → Renumberable t order → SameConcepts t assignment (renumbered order t) assignment'
    → MovedBelow t order assignment assignment'
renumbered-below t order assignment assignment' R same i j l h =
    let old = readable t (well t order R) in
    let new = renumbered-readable t order R in
    let alike = renumbered-alike t order R in (
      subsumed-there t (renumbered order t) old new alike assignment assignment' same _ _ _ _ (sym (tree-kept t order R i l)) (sym (tree-kept t order R j h)),
      subsumed-there (renumbered order t) t new old (turned t (renumbered order t) alike) assignment' assignment
          (record { there = same.back; back = same.there }) _ _ _ _ (tree-kept t order R i l) (tree-kept t order R j h),
    )

-- So the two tables have the same marks, with rows and columns moved.
pub renumbered-marks :
    (t : Tables) (order assignment assignment' held old other new : List ℕ) → Renumberable t order
    → SameConcepts t assignment (renumbered order t) assignment' → TableOf t assignment held old → TableOf (renumbered order t) assignment' other new
    → MovedMarks t order old new
renumbered-marks t order assignment assignment' held old other new R S T T' i j l k =
    let low : (p : ℕ) → p < count_of t.concepts → new_id order p < count_of (renumbered order t).concepts = λ p h.
    omega (arith, (arranged t order R).low p h, moved-count order t.concepts) in
    same_bool _ _
    (λ h. T.complete i j l k ((renumbered-below t order assignment assignment' R S i j l k).1 (T'.sound (new_id order i) (new_id order j) (low i l) (low j k) h)))
    (λ h. T'.complete (new_id order i) (new_id order j) (low i l) (low j k) ((renumbered-below t order assignment assignment' R S i j l k).0 (T.sound i j l k h)))
