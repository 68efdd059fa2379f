-- Renumbering keeps the fillings: to each one there is one of the renumbered tables that chooses the same concepts, and back.
use Prim.Native.Nat.{ℕ, ◌<◌}
use mathlib.Core.Path.{◌≡◌, refl, sym, ap, ◌∙◌}
use mathlib.Core.List.{List, Memᴰ}
use mathlib.Core.Bool.{true}
use mathlib.Core.Logic.{⊎_elim}
use native.Mathlib.Omega.{arith}
use lib.ListN.{length, get_or, get_or-eq_default}
use Rattle.subsumption.specs.Tables.{Tables, pairs_of, tree}
use Rattle.subsumption.specs.Atoms.{atoms, bit, chosen}
use Rattle.subsumption.specs.Check.{assignment_fault}
use Rattle.subsumption.proofs.Bools.{le-or-lt}
use Rattle.subsumption.proofs.Bits.{bit-of-zero}
use Rattle.subsumption.proofs.Chosen.{pick-member, pick_intro, chosen-atom}
use Rattle.matching.proofs.SubstitutionLaws.Assigning.{assignment_of, assignment_of-accepted, assignment_of-bit, assignment_of-length, accepted-length}
use Rattle.matching.proofs.SubstitutionLaws.Parts.{place}
use Rattle.renumbering.specs.Laws.{Renumberable, ConceptsOf, SameConcepts, FillsAlike}
use Rattle.renumbering.specs.Renumbering.{renumbered}
use Rattle.renumbering.proofs.AlikeLaws.{atoms-apart, Readable, readable, Alike, turned, atoms-there, place_there, place-low, place_same, subsumed-there}
use Rattle.renumbering.proofs.TreeLaws.{well}
use Rattle.renumbering.proofs.AcceptedLaws.{renumbered-readable, renumbered-alike}

-- A variable with a chosen id is below the count of variables.
chosen-variable : (t : Tables) (assignment : List ℕ) → length assignment ≡ t.variables → (k p : ℕ) → Memᴰ p (chosen t assignment k) → k < t.variables
unfolding chosen
chosen-variable t assignment long k p m =
    let c = pick-member (atoms t) _ p m in
    ⊎_elim (λ h. absurd (none c.place c.chosen (get_or-eq_default assignment 0 {n = k} (omega arith)))) (λ l. l) (le-or-lt t.variables k)
  where
    none : (q : ℕ) → bit (get_or assignment k 0) q ≡ true → get_or assignment k 0 ≡ 0 → ⊥
    none q h z = bit-of-zero q (rw z at h)

module _ (t t' : Tables) (R : Readable t) (R' : Readable t') (A : Alike t t') where
  -- the place among the atoms of `t` of the concept at a place of those of `t'`
  abbrev old : ℕ → ℕ
  old q = place_there t' t R' R (turned t t' A) q

  module _ (assignment : List ℕ) (long : length assignment ≡ t.variables) where
    abbrev moved : List ℕ
    moved = assignment_of t' (λ k q. bit (get_or assignment k 0) (old q))

    moved-there : (k : ℕ) → ConceptsOf t (chosen t assignment k) t' (chosen t' moved k)
    unfolding chosen
    moved-there k p m =
        let c = pick-member (atoms t) _ p m in
        let l = chosen-variable t assignment long k p m in
        let (q, n, e) = atoms-there t t' R R' A p (chosen-atom t assignment k p m) in
        let (j, u, h) = place 0 (atoms t') q n in
        let same : old j ≡ c.place
        = atoms-apart t (old j) c.place (place-low t' t R' R (turned t t' A) j u) c.known
        (sym (place_same t' t R' R (turned t t' A) j u) ∙ ap (tree t'.concepts) h ∙ sym e ∙ ap (tree t.concepts) (sym c.here)) in (
          q,
          pick_intro (atoms t') _ q
              (record {
                place = j;
                known = u;
                chosen = assignment_of-bit t' _ k j (omega (arith, A.variables)) u ∙ ap (bit (get_or assignment k 0)) same ∙ c.chosen;
                here = h;
              }),
          e,
        )

    moved_back : (k : ℕ) → ConceptsOf t' (chosen t' moved k) t (chosen t assignment k)
    unfolding chosen
    moved_back k q m =
        let c = pick-member (atoms t') _ q m in
        let l = chosen-variable t' moved (assignment_of-length t' _) k q m in (
          get_or (atoms t) (old c.place) 0,
          pick_intro (atoms t) _ _
              (record {
                place = old c.place;
                known = place-low t' t R' R (turned t t' A) c.place c.known;
                chosen = sym (assignment_of-bit t' _ k c.place l c.known) ∙ c.chosen;
                here = refl;
              }),
          ap (tree t'.concepts) (sym c.here) ∙ place_same t' t R' R (turned t t' A) c.place c.known,
        )

    same-concepts : SameConcepts t assignment t' moved
    same-concepts = record { there = moved-there; back = moved_back }

  pub alike-fills : FillsAlike t t'
  unfolding assignment_fault
  alike-fills assignment f =
      let long = accepted-length _ _ assignment f.accepted in
      let same = same-concepts assignment long in (
        moved assignment long,
        record {
          accepted = assignment_of-accepted t' _;
          solves = λ m l.
              let u = A.questions.many in
              let l' : m < pairs_of t.questions = omega (arith, u) in
              subsumed-there t t' R R' A assignment _ same _ _ _ _ (A.questions.left m l') (A.questions.right m l') (f.solves m l');
        },
        same,
      )

-- The promise of A.12 on fillings, both ways.
pub renumbered-fills : (t : Tables) (order : List ℕ) → Renumberable t order → FillsAlike t (renumbered order t) × FillsAlike (renumbered order t) t
renumbered-fills t order R =
    let old = readable t (well t order R) in
    let new = renumbered-readable t order R in
    let alike = renumbered-alike t order R in (
      alike-fills t (renumbered order t) old new alike,
      alike-fills (renumbered order t) t new old (turned t (renumbered order t) alike),
    )
