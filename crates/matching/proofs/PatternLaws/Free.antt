-- Ids whose concepts hold no variable.
use Prim.Native.Nat.{ℕ, ◌<◌}
use mathlib.Core.Path.{◌≡◌, sym, ◌∙◌}
use mathlib.Core.List.{List, Memᴰ}
use mathlib.Core.Bool.{true≢false}
use Rattle.subsumption.specs.Tables.{Tables, top_at, name_at, var_at, node, count_of, pairs_of, left_of, right_of}
use Rattle.subsumption.specs.Atoms.{chosen}
use Rattle.matching.specs.Inner.Search.Problem.{FreeId}
use Rattle.subsumption.proofs.WellFormed.{WellFormed}
use Rattle.subsumption.proofs.Inward.{Inward, ground-inward, below-inward}
use Rattle.subsumption.proofs.Trees.{variable-top, variable-name, variable-var}
use Rattle.subsumption.proofs.Chosen.{chosen-known, chosen-ground}

module _ (t : Tables) (wf : WellFormed t) where
  pub known-inward : Inward t.concepts (λ i. i < count_of t.concepts)
  known-inward = below-inward t.concepts wf.rising (count_of t.concepts)

  pub free-inward : Inward t.concepts (FreeId t)
  free-inward =
      let g = ground-inward t.concepts wf.rising in
      record {
        inner = λ i r j e f. record { ground = g.inner i r j e f.ground; known = known-inward.inner i r j e f.known };
        first = λ i j k e f. record { ground = g.first i j k e f.ground; known = known-inward.first i j k e f.known };
        second = λ i j k e f. record { ground = g.second i j k e f.ground; known = known-inward.second i j k e f.known };
      }

  pub free-top : (i : ℕ) → i < count_of t.concepts → node t.concepts i ≡ top_at → FreeId t i
  free-top i l e = record { ground = variable-top t.concepts wf.rising i e; known = l }

  pub free-name : (i n : ℕ) → i < count_of t.concepts → node t.concepts i ≡ name_at n → FreeId t i
  free-name i n l e = record { ground = variable-name t.concepts wf.rising i n e; known = l }

  pub free-var : (i k : ℕ) → node t.concepts i ≡ var_at k → FreeId t i → ⊥
  free-var i k e f = true≢false (sym (variable-var t.concepts wf.rising i k e) ∙ f.ground)

  pub free-left : (m : ℕ) → m < pairs_of t.inclusions → FreeId t (left_of t.inclusions m)
  free-left m l = record { ground = wf.left-ground m l; known = wf.left-known m l }

  pub free-right : (m : ℕ) → m < pairs_of t.inclusions → FreeId t (right_of t.inclusions m)
  free-right m l = record { ground = wf.right-ground m l; known = wf.right-known m l }

  pub free-chosen : (assignment : List ℕ) (k p : ℕ) → Memᴰ p (chosen t assignment k) → FreeId t p
  free-chosen assignment k p m = record { ground = chosen-ground t assignment k p wf m; known = chosen-known t assignment k p m }
