-- A variable with more chosen atoms has fewer members. So pairs with a ground right side stay subsumed when atoms are added, pairs with a
-- ground left side when atoms are removed.
use Rattle.subsumption.specs.Refusal.{Done}
use Prim.Native.Nat.{ℕ, ◌<◌}
use mathlib.Core.Path.{◌≡◌, refl, sym, ◌∙◌}
use mathlib.Core.List.{List, Memᴰ}
use mathlib.Core.Bool.{Bool, true, false, true≢false}
use Rattle.subsumption.specs.Tables.{Tables, pairs_of, left_of, right_of, tree, has_variable}
use Rattle.subsumption.specs.Atoms.{atoms, chosen}
use Rattle.subsumption.specs.Subsumption.{Interpretation, assigned, Subsumed}
use Rattle.subsumption.specs.Check.{table_fault}
use Rattle.subsumption.proofs.Bools.{both-intro}
use Rattle.subsumption.proofs.Accepted.{well_formed}
use Rattle.subsumption.proofs.WellFormed.{WellFormed}
use Rattle.subsumption.proofs.Inward.{Ground}
use Rattle.subsumption.proofs.Chosen.{pick-member, pick_intro}
use Rattle.subsumption.proofs.Membership.{member-ground}
use Rattle.matching.specs.Solving.{takes}
use Rattle.matching.proofs.SubstitutionLaws.Readings.{member-reads}

-- β takes every atom that α takes
abbrev pub Larger : List ℕ → List ℕ → Type 0
Larger α β = (k q : ℕ) → takes α k q ≡ true → takes β k q ≡ true

module _ (t : Tables) (wf : WellFormed t) (α β : List ℕ) (larger : Larger α β) where
  pub chosen-larger : (k p : ℕ) → Memᴰ p (chosen t α k) → Memᴰ p (chosen t β k)
  unfolding chosen
  chosen-larger k p h =
      let c = pick-member (atoms t) _ p h in
      pick_intro (atoms t) _ p (record { place = c.place; known = c.known; chosen = larger k c.place c.chosen; here = c.here })

  assigned-smaller : (I : Interpretation) (k x : ℕ) → x < I.size → assigned t β I k x → assigned t α I k x
  assigned-smaller I k x l h p m = h p (chosen-larger k p m)

  pub monotone : (i j : ℕ) → Ground t.concepts j → Subsumed t α i j → Subsumed t β i j
  monotone i j g s I obeys x l h =
      member-ground I (assigned t α I) (assigned t β I) (tree t.concepts j) g x
      (s I obeys x l (member-reads I (assigned t β I) (assigned t α I) (assigned-smaller I) (tree t.concepts i) x l h))

  pub antitone : (i j : ℕ) → Ground t.concepts i → Subsumed t β i j → Subsumed t α i j
  antitone i j g s I obeys x l h =
      member-reads I (assigned t β I) (assigned t α I) (assigned-smaller I) (tree t.concepts j) x l
      (s I obeys x l (member-ground I (assigned t α I) (assigned t β I) (tree t.concepts i) g x h))

-- a question whose right side holds a variable has a ground left side
pub left-free :
    (t : Tables) → table_fault t ≡ Done → (m : ℕ) → m < pairs_of t.questions → has_variable (tree t.concepts (right_of t.questions m)) ≡ true
    → has_variable (tree t.concepts (left_of t.questions m)) ≡ false
left-free t h m l e = go (has_variable (tree t.concepts (left_of t.questions m))) refl
  where
    go : (b : Bool) → has_variable (tree t.concepts (left_of t.questions m)) ≡ b → has_variable (tree t.concepts (left_of t.questions m)) ≡ false
    go true x = absurd (true≢false (sym (both-intro _ _ x e) ∙ (well_formed t h).one-sided m l))
    go false x = x
