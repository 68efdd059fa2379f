-- Tables whose pairs are of the same concepts, whatever their ids: their atoms are of the same concepts, so equally many, and subsumption is the same.
use Prim.Native.Nat.{ℕ, zero, suc, ◌<◌, ◌≤◌}
use mathlib.Core.Path.{◌≡◌, refl, sym, ap, ◌∙◌, subst}
use mathlib.Core.List.Memᴰ
use mathlib.Core.List.{List, Memᴰ}
use mathlib.Core.Bool.{Bool, true, false, not}
use mathlib.Core.Logic.{⊎_elim}
use native.Mathlib.Omega.{arith}
use lib.ListN.{length, get_or}
use Rattle.subsumption.specs.Tables.{Tables, or, Node, top_at, name_at, exists_at, and_at, var_at, node, count_of, pairs_of, left_of, right_of, Concept, top, name, exists, and, var, tree, has_variable}
use Rattle.subsumption.specs.Atoms.{occurs, is_atomic, in_inclusion, in_question, stands, is_lowest, is_atom, atoms}
use Rattle.subsumption.specs.Subsumption.{Interpretation, Member, no_variables, assigned, Obeys, Subsumed}
use Rattle.subsumption.specs.Table.{one, counted, total}
use Rattle.subsumption.specs.Inner.Tables.{Rising}
use Rattle.subsumption.specs.Inner.Atoms.{Known}
use Rattle.subsumption.proofs.Bools.{or_cases, or-first, or-second, both_true, both-intro, any_below-intro, any_below-elim, le-or-lt}
use Rattle.subsumption.proofs.WellFormed.{WellFormed}
use Rattle.subsumption.proofs.Depth.{by-smaller}
use Rattle.subsumption.proofs.Trees.{tree-top, tree-name, tree-exists, tree-and, tree-var, inner-exists, inner-and}
use Rattle.subsumption.proofs.Occurs.{occurs-self, occurs-exists, occurs-first, occurs-second, occurs-inward, occurs-le}
use Rattle.subsumption.proofs.TwinLaws.{lowest-least}
use Rattle.subsumption.proofs.AtomLaws.{atom-of, atom-passes, atom-stands}
use Rattle.subsumption.proofs.Chosen.{get_or-member, keep-distinct}
use Rattle.subsumption.proofs.MarkLaws.{distinct-few}
use Rattle.matching.proofs.SubstitutionLaws.Readings.{member-reads}
use Rattle.matching.proofs.SubstitutionLaws.Parts.{HasInner, parts, parts_self, parts-closed, place}
use Rattle.renumbering.specs.Laws.{ConceptsOf, SameConcepts}

-- The concept is a name or "some": kinds 1 and 2.
atomic : Concept → Bool
atomic top = false
atomic (name n) = true
atomic (exists r c) = true
atomic (and c d) = false
atomic (var k) = false

-- ---- the ids that stand in an id are the parts of its concept
module _ (concepts : List ℕ) (rising : (i : ℕ) → Rising i (node concepts i)) where
  occurs-part : (p i : ℕ) → occurs concepts p i ≡ true → Memᴰ (tree concepts p) (parts (tree concepts i))
  occurs-part p i h =
      occurs-inward concepts rising p (λ j. Memᴰ (tree concepts j) E)
      (record {
        inner = λ k r j e m. subst (HasInner E) (tree-exists concepts rising k r j e) (parts-closed _ _ m);
        first = λ k j l e m. (subst (HasInner E) (tree-and concepts rising k j l e) (parts-closed _ _ m)).0;
        second = λ k j l e m. (subst (HasInner E) (tree-and concepts rising k j l e) (parts-closed _ _ m)).1;
      })
      i h (parts_self (tree concepts i))
    where
      E : List Concept
      E = parts (tree concepts i)

  -- the id of a part
  record IdOf (c : Concept) (i : ℕ) : Type 0 where
    pub id : ℕ
    pub stands : occurs concepts id i ≡ true
    pub same : tree concepts id ≡ c

  part-occurs : (c : Concept) (i : ℕ) → Memᴰ c (parts (tree concepts i)) → IdOf c i
  unfolding parts
  part-occurs c = by-smaller (λ i. Memᴰ c (parts (tree concepts i)) → IdOf c i) (λ i smaller h. go i smaller h (node concepts i) refl)
    where
      self : (i : ℕ) → tree concepts i ≡ c → IdOf c i
      self i e = record { id = i; stands = occurs-self concepts rising i; same = e }

      at : (i : ℕ) (d : Concept) → tree concepts i ≡ d → Memᴰ c (parts (tree concepts i)) → Memᴰ c (parts d)
      at i d e h = subst (λ (z : Concept). Memᴰ c (parts z)) e h

      go : (i : ℕ) → ((j : ℕ) → j < i → Memᴰ c (parts (tree concepts j)) → IdOf c j) → Memᴰ c (parts (tree concepts i))
          → (m : Node) → node concepts i ≡ m → IdOf c i
      go i smaller h top_at e =
          let s = tree-top concepts rising i e in
          ⊎_elim (λ u. self i (s ∙ sym u)) (λ m. elim m [ ]) (Memᴰ.cases_cons (at i _ s h))
      go i smaller h (name_at n) e =
          let s = tree-name concepts rising i n e in
          ⊎_elim (λ u. self i (s ∙ sym u)) (λ m. elim m [ ]) (Memᴰ.cases_cons (at i _ s h))
      go i smaller h (exists_at r j) e =
          let s = tree-exists concepts rising i r j e in
          ⊎_elim (λ u. self i (s ∙ sym u))
          (λ m.
          let q = smaller j (inner-exists concepts rising i r j e) m in
          record { id = q.id; stands = occurs-exists concepts rising q.id i r j e q.stands; same = q.same })
          (Memᴰ.cases_cons (at i _ s h))
      go i smaller h (and_at j k) e =
          let s = tree-and concepts rising i j k e in
          let (a, b) = inner-and concepts rising i j k e in
          ⊎_elim (λ u. self i (s ∙ sym u))
          (λ m.
          ⊎_elim
          (λ m.
          let q = smaller j a m in
          record { id = q.id; stands = occurs-first concepts rising q.id i j k e q.stands; same = q.same })
          (λ m.
          let q = smaller k b m in
          record { id = q.id; stands = occurs-second concepts rising q.id i j k e q.stands; same = q.same })
          (Memᴰ.append_cases (parts (tree concepts j)) m))
          (Memᴰ.cases_cons (at i _ s h))
      go i smaller h (var_at k) e =
          let s = tree-var concepts rising i k e in
          ⊎_elim (λ u. self i (s ∙ sym u)) (λ m. elim m [ ]) (Memᴰ.cases_cons (at i _ s h))

  atomic-tree : (i : ℕ) → is_atomic (node concepts i) ≡ atomic (tree concepts i)
  unfolding is_atomic atomic
  atomic-tree i = go (node concepts i) refl
    where
      go : (m : Node) → node concepts i ≡ m → is_atomic (node concepts i) ≡ atomic (tree concepts i)
      go top_at e = ap is_atomic e ∙ sym (ap atomic (tree-top concepts rising i e))
      go (name_at n) e = ap is_atomic e ∙ sym (ap atomic (tree-name concepts rising i n e))
      go (exists_at r j) e = ap is_atomic e ∙ sym (ap atomic (tree-exists concepts rising i r j e))
      go (and_at j k) e = ap is_atomic e ∙ sym (ap atomic (tree-and concepts rising i j k e))
      go (var_at k) e = ap is_atomic e ∙ sym (ap atomic (tree-var concepts rising i k e))

-- ---- counting places
full : (n : ℕ) → counted (λ i. true) n ≡ n
unfolding counted one
full zero = refl
full (suc n) = omega (arith, full n)

-- Where each of n has a place of its own, n is at most the number of places.
at_most : (n places : ℕ) (at : ℕ → ℕ) → ((k : ℕ) → k < n → at k < places) → ((k m : ℕ) → k < n → m < n → at k ≡ at m → k ≡ m) → n ≤ places
unfolding total
at_most n places at low apart =
    let l : n ≤ total (λ j. counted (λ i. true) places) 1
    = distinct-few places 1 n at (λ k. 0) (λ i j. true) (λ k l. (low k l, omega arith, refl)) (λ k m l u e f. let z = apart k m (omega arith) u e in omega arith) in
    omega (arith, full places)

-- ---- atoms have a place each
abbrev pub atom_at : Tables → ℕ → Concept
atom_at t q = tree t.concepts (get_or (atoms t) q 0)

-- Atoms are lowest twins, so their concepts differ.
pub atoms-apart : (t : Tables) (p q : ℕ) → p < length (atoms t) → q < length (atoms t) → atom_at t p ≡ atom_at t q → p ≡ q
unfolding atoms is_atom
atoms-apart t p q l h e =
    let a = lowest p l in
    let b = lowest q h in
    keep-distinct (is_atom t) 0 (count_of t.concepts) p q l h (omega (arith, lowest-least t.concepts _ _ a e, lowest-least t.concepts _ _ b (sym e)))
  where
    lowest : (p : ℕ) → p < length (atoms t) → is_lowest t.concepts (get_or (atoms t) p 0) ≡ true
    lowest p l = (both_true _ _ (atom-passes t _ (get_or-member (atoms t) p l))).0

-- ---- tables whose pairs are of the same concepts
-- Inner ids are smaller, and what pairs name are ids.
pub record Readable (t : Tables) : Type 0 where
  pub rising : (i : ℕ) → Rising i (node t.concepts i)
  pub inclusions-known : Known (count_of t.concepts) t.inclusions
  pub questions-known : Known (count_of t.concepts) t.questions

pub readable : (t : Tables) → WellFormed t → Readable t
readable t wf =
    record {
      rising = wf.rising;
      inclusions-known = record { left-known = wf.left-known; right-known = wf.right-known };
      questions-known = record { left-known = wf.question-left; right-known = wf.question-right };
    }

pub record PairsAlike (concepts pairs concepts' pairs' : List ℕ) : Type 0 where
  pub many : pairs_of pairs ≡ pairs_of pairs'
  pub left : (m : ℕ) → m < pairs_of pairs → tree concepts (left_of pairs m) ≡ tree concepts' (left_of pairs' m)
  pub right : (m : ℕ) → m < pairs_of pairs → tree concepts (right_of pairs m) ≡ tree concepts' (right_of pairs' m)

pairs-turned : (concepts pairs concepts' pairs' : List ℕ) → PairsAlike concepts pairs concepts' pairs' → PairsAlike concepts' pairs' concepts pairs
pairs-turned concepts pairs concepts' pairs' a =
    record { many = sym a.many; left = λ m l. sym (a.left m (omega (arith, a.many))); right = λ m l. sym (a.right m (omega (arith, a.many))) }

pub record Alike (t t' : Tables) : Type 0 where
  pub inclusions : PairsAlike t.concepts t.inclusions t'.concepts t'.inclusions
  pub questions : PairsAlike t.concepts t.questions t'.concepts t'.questions
  pub roles : t.roles ≡ t'.roles
  pub variables : t.variables ≡ t'.variables

pub turned : (t t' : Tables) → Alike t t' → Alike t' t
turned t t' a =
    record {
      inclusions = pairs-turned _ _ _ _ a.inclusions;
      questions = pairs-turned _ _ _ _ a.questions;
      roles = sym a.roles;
      variables = sym a.variables;
    }

module _ (t t' : Tables) (R : Readable t) (R' : Readable t') (A : Alike t t') where
  -- an id that stands in the other tables, of the same concept
  record StandsThere (p : ℕ) : Type 0 where
    pub id : ℕ
    pub known : id < count_of t'.concepts
    pub stands : stands t' id ≡ true
    pub same : tree t.concepts p ≡ tree t'.concepts id

  stands-there : (p : ℕ) → stands t p ≡ true → StandsThere p
  unfolding stands in_inclusion in_question
  stands-there p h = let (a, u) = both_true _ _ h in ⊎_elim (inclusion a) (question a) (or_cases _ _ u)
    where
      moved :
          is_atomic (node t.concepts p) ≡ true → (i i' : ℕ) → tree t.concepts i ≡ tree t'.concepts i' → i' < count_of t'.concepts
          → ((q : ℕ) → occurs t'.concepts q i' ≡ true → or (in_inclusion t'.concepts t'.inclusions q) (in_question t'.concepts t'.questions q) ≡ true)
          → occurs t.concepts p i ≡ true → StandsThere p
      moved a i i' e l there o =
          let q
          = part-occurs t'.concepts R'.rising (tree t.concepts p) i'
          (subst (λ (c : Concept). Memᴰ (tree t.concepts p) (parts c)) e (occurs-part t.concepts R.rising p i o)) in
          record {
            id = q.id;
            known = omega (arith, occurs-le t'.concepts R'.rising q.id i' q.stands);
            stands =
                both-intro _ _ (atomic-tree t'.concepts R'.rising q.id ∙ ap atomic q.same ∙ sym (atomic-tree t.concepts R.rising p) ∙ a)
                (there q.id q.stands);
            same = sym q.same;
          }

      inclusion : is_atomic (node t.concepts p) ≡ true → in_inclusion t.concepts t.inclusions p ≡ true → StandsThere p
      inclusion a e =
          let (m, l, o) = any_below-elim _ _ e in
          let l' : m < pairs_of t'.inclusions = omega (arith, A.inclusions.many) in
          ⊎_elim
          (moved a _ _ (A.inclusions.left m l) (R'.inclusions-known.left-known m l') (λ q o. or-first _ _ (any_below-intro _ _ m l' (or-first _ _ o))))
          (moved a _ _ (A.inclusions.right m l) (R'.inclusions-known.right-known m l') (λ q o. or-first _ _ (any_below-intro _ _ m l' (or-second _ _ o))))
          (or_cases _ _ o)

      question : is_atomic (node t.concepts p) ≡ true → in_question t.concepts t.questions p ≡ true → StandsThere p
      question a e =
          let (m, l, o) = any_below-elim _ _ e in
          let (g, o) = both_true _ _ o in
          let l' : m < pairs_of t'.questions = omega (arith, A.questions.many) in
          moved a _ _ (A.questions.right m l) (R'.questions-known.right-known m l')
          (λ q o. or-second _ _ (any_below-intro _ _ m l' (both-intro _ _ (ap (λ (c : Concept). not (has_variable c)) (sym (A.questions.right m l)) ∙ g) o)))
          o

  pub atoms-there : ConceptsOf t (atoms t) t' (atoms t')
  atoms-there p m =
      let (q, l, e, s) = atom-stands t p m in
      let there = stands-there q s in
      let a = atom-of t' there.id there.known there.stands in
      (a.atom, a.listed, e ∙ there.same ∙ sym a.same)

  -- Each place of an atom has the one of the same concept; past the atoms it is of no concern.
  placed : (q : ℕ) → (j : ℕ) × (q < length (atoms t) → (j < length (atoms t')) × (atom_at t q ≡ atom_at t' j))
  placed q =
      ⊎_elim (λ h. (0, λ l. absurd (omega arith)))
      (λ l.
      let (p, m, e) = atoms-there (get_or (atoms t) q 0) (get_or-member (atoms t) q l) in
      let (j, u, f) = place 0 (atoms t') p m in
      (j, λ k. (u, e ∙ ap (tree t'.concepts) (sym f))))
      (le-or-lt (length (atoms t)) q)

  pub place_there : ℕ → ℕ
  place_there q = (placed q).0

  pub place-low : (q : ℕ) → q < length (atoms t) → place_there q < length (atoms t')
  unfolding place_there
  place-low q l = ((placed q).1 l).0

  pub place_same : (q : ℕ) → q < length (atoms t) → atom_at t q ≡ atom_at t' (place_there q)
  unfolding place_there
  place_same q l = ((placed q).1 l).1

  pub atoms-fewer : length (atoms t) ≤ length (atoms t')
  atoms-fewer =
      at_most (length (atoms t)) (length (atoms t')) place_there place-low
      (λ k m l u e. atoms-apart t k m l u (place_same k l ∙ ap (atom_at t') e ∙ sym (place_same m u)))

  -- ---- subsumption
  obeys-back : (I : Interpretation) → Obeys t' I → Obeys t I
  obeys-back I O =
      record {
        inclusions = λ m l x h c.
            subst (λ (d : Concept). Member I no_variables d x) (sym (A.inclusions.right m l))
            (O.inclusions m (omega (arith, A.inclusions.many)) x h (subst (λ (d : Concept). Member I no_variables d x) (A.inclusions.left m l) c));
        roles = λ m l. subst (λ (z : List ℕ). (m : ℕ) → m < pairs_of z → (x y : ℕ) → x < I.size → y < I.size
            → Memᴰ (record { from = x; role = left_of z m; to = y }) I.links → Memᴰ (record { from = x; role = right_of z m; to = y }) I.links)
            (sym A.roles) O.roles m l;
      }

  pub subsumed-there :
      (assignment assignment' : List ℕ) → SameConcepts t assignment t' assignment' → (i j i' j' : ℕ) → tree t.concepts i ≡ tree t'.concepts i'
      → tree t.concepts j ≡ tree t'.concepts j' → Subsumed t assignment i j → Subsumed t' assignment' i' j'
  subsumed-there assignment assignment' same i j i' j' e f s I O x h c =
      subst (λ (d : Concept). Member I (assigned t' assignment' I) d x) f
      (member-reads I (assigned t assignment I) (assigned t' assignment' I)
      (λ k x l r q n. let (p, u, e) = same.back k q n in subst (λ (d : Concept). Member I no_variables d x) (sym e) (r p u)) (tree t.concepts j) x h
      (s I (obeys-back I O) x h
      (member-reads I (assigned t' assignment' I) (assigned t assignment I)
      (λ k x l r p n. let (q, u, e) = same.there k p n in subst (λ (d : Concept). Member I no_variables d x) (sym e) (r q u)) (tree t.concepts i) x h
      (subst (λ (d : Concept). Member I (assigned t' assignment' I) d x) (sym e) c))))
