-- Locality: if a substitution solves, then it is not impossible that an assignment of atoms does. Each variable takes the atoms that its concept is below.
use Rattle.subsumption.specs.Refusal.{Done}
use Prim.Native.Nat.{ℕ, ◌+◌, ◌-◌, ◌<◌, ◌≤◌}
use mathlib.Core.Path.{◌≡◌, refl, sym, ap, ◌∙◌, subst}
use mathlib.Core.List.Memᴰ
use mathlib.Core.List.{List, ◌++◌, Memᴰ}
use mathlib.Core.Bool.{Bool, true, false, not}
use mathlib.Core.Logic.{◌↔◌, ⊎_elim}
use native.Mathlib.Omega.{arith}
use lib.Dec.{ltb}
use lib.ListN.{length, get_or, get_or-eq_default}
use borrow.Author.Tests.{lt-ltb, le-ltb}
use Rattle.subsumption.specs.Tables.{Tables, both, any_below, Node, top_at, name_at, exists_at, and_at, var_at, node, count_of, pairs_of, left_of, right_of, Concept, tree, has_variable}
use Rattle.subsumption.specs.Atoms.{occurs, is_atomic, in_inclusion, in_question, stands, atoms, bit, chosen}
use Rattle.subsumption.specs.Subsumption.{Interpretation, Included, no_variables, assigned, Obeys, SubsumedBy, Subsumed}
use Rattle.subsumption.specs.Rules.{every}
use Rattle.subsumption.specs.Check.{table_fault, assignment_fault}
use Rattle.subsumption.proofs.Bools.{or-first, or-second, both_true, both-intro, any_below-intro, any_below-elim, le-or-lt}
use Rattle.subsumption.proofs.WellFormed.{WellFormed}
use Rattle.subsumption.proofs.Accepted.{well_formed}
use Rattle.subsumption.proofs.Depth.{by-smaller}
use Rattle.subsumption.proofs.RoleLaws.{wider-trans, wider-pair}
use Rattle.subsumption.proofs.Trees.{tree-top, tree-name, tree-exists, tree-and, tree-var, inner-exists, inner-and}
use Rattle.subsumption.proofs.Inward.{Ground}
use Rattle.subsumption.proofs.Occurs.{occurs-self, occurs-exists, occurs-first, occurs-second, occurs-le}
use Rattle.subsumption.proofs.AtomLaws.{AtomOf, atom-of}
use Rattle.subsumption.proofs.Chosen.{pick-member, pick_intro}
use Rattle.subsumption.proofs.Bits.{bit-of-zero}
use Rattle.subsumption.proofs.Membership.{member-ground}
use Rattle.subsumption.proofs.ModelRows.{gather, gather-in}
use Rattle.subsumption.proofs.RuleTests.{every-elim, every-intro}
use Rattle.matching.specs.Solving.{Solves, Substitution, substituted, SolvesBy}
use Rattle.matching.specs.Among.{SolvedAmong, SolvesAmong}
use Rattle.matching.proofs.SubstitutionLaws.Readings.{member-reads}
use Rattle.matching.proofs.SubstitutionLaws.Decided.{Decides, branch, decided-pairs}
use Rattle.matching.proofs.SubstitutionLaws.Members.{is_member, member-test, test-member}
use Rattle.matching.proofs.SubstitutionLaws.Assigning.{assignment_of, assignment_of-length, assignment_of-accepted, assignment_of-bit}
use Rattle.matching.proofs.SubstitutionLaws.Parts.{Closed, parts, parts_self, append-closed, gather-closed, place, concept_at}
use Rattle.matching.proofs.SubstitutionLaws.Conjoined.{as_substitution, solves-by-substitution}
use Rattle.matching.proofs.SubstitutionLaws.Extended.{extended, link-old, link-wider, link-cases}
use Rattle.matching.proofs.SubstitutionLaws.Reached.{Below, inner_of, Each, Numbered, old-in, reached-in, Holds, old-out, included-still}

module _ (t : Tables) (wf : WellFormed t) where
  numbered : (i : ℕ) → Numbered t.variables (tree t.concepts i)
  numbered = by-smaller (λ i. Numbered t.variables (tree t.concepts i)) (λ i smaller. go i smaller (node t.concepts i) refl)
    where
      go :
          (i : ℕ) → ((j : ℕ) → j < i → Numbered t.variables (tree t.concepts j)) → (m : Node) → node t.concepts i ≡ m
          → Numbered t.variables (tree t.concepts i)
      go i smaller top_at e = rw (tree-top t.concepts wf.rising i e) tt
      go i smaller (name_at n) e = rw (tree-name t.concepts wf.rising i n e) tt
      go i smaller (exists_at r j) e = rw (tree-exists t.concepts wf.rising i r j e) (smaller j (inner-exists t.concepts wf.rising i r j e))
      go i smaller (and_at j k) e =
          let (p, q) = inner-and t.concepts wf.rising i j k e in
          rw (tree-and t.concepts wf.rising i j k e) (smaller j p, smaller k q)
      go i smaller (var_at k) e = rw (tree-var t.concepts wf.rising i k e) (wf.numbered i k e)

  -- What holds of all names and existentials that stand in an id.
  module _ (P : Concept → Type 0) where
    abbrev Stands : ℕ → Type 0
    Stands i = (p : ℕ) → occurs t.concepts p i ≡ true → is_atomic (node t.concepts p) ≡ true → P (tree t.concepts p)

    each-id : (i : ℕ) → Stands i → Each P (tree t.concepts i)
    unfolding is_atomic
    each-id = by-smaller (λ i. Stands i → Each P (tree t.concepts i)) (λ i smaller h. go i smaller h (node t.concepts i) refl)
      where
        go : (i : ℕ) → ((j : ℕ) → j < i → Stands j → Each P (tree t.concepts j)) → Stands i → (m : Node) → node t.concepts i ≡ m → Each P (tree t.concepts i)
        go i smaller h top_at e = rw (tree-top t.concepts wf.rising i e) tt
        go i smaller h (name_at n) e =
            let s = tree-name t.concepts wf.rising i n e in
            rw s (subst P s (h i (occurs-self t.concepts wf.rising i) (ap is_atomic e)))
        go i smaller h (exists_at r j) e =
            let s = tree-exists t.concepts wf.rising i r j e in
            rw s (
              subst P s (h i (occurs-self t.concepts wf.rising i) (ap is_atomic e)),
              smaller j (inner-exists t.concepts wf.rising i r j e) (λ p o. h p (occurs-exists t.concepts wf.rising p i r j e o)),
            )
        go i smaller h (and_at j k) e =
            let (p, q) = inner-and t.concepts wf.rising i j k e in
            rw (tree-and t.concepts wf.rising i j k e) (
              smaller j p (λ p o. h p (occurs-first t.concepts wf.rising p i j k e o)),
              smaller k q (λ p o. h p (occurs-second t.concepts wf.rising p i j k e o)),
            )
        go i smaller h (var_at k) e = rw (tree-var t.concepts wf.rising i k e) tt

  left-atom : (m p : ℕ) → m < pairs_of t.inclusions → occurs t.concepts p (left_of t.inclusions m) ≡ true → is_atomic (node t.concepts p) ≡ true → AtomOf t p
  unfolding stands in_inclusion
  left-atom m p l o a =
      atom-of t p (omega (arith, occurs-le t.concepts wf.rising p _ o, wf.left-known m l))
      (both-intro _ _ a (or-first _ _ (any_below-intro _ _ m l (or-first _ _ o))))

  right-atom :
      (m p : ℕ) → m < pairs_of t.questions → Ground t.concepts (right_of t.questions m) → occurs t.concepts p (right_of t.questions m) ≡ true
      → is_atomic (node t.concepts p) ≡ true → AtomOf t p
  unfolding stands in_question
  right-atom m p l g o a =
      atom-of t p (omega (arith, occurs-le t.concepts wf.rising p _ o, wf.question-right m l))
      (both-intro _ _ a (or-second _ _ (any_below-intro _ _ m l (both-intro _ _ (ap not g) o))))

-- the concepts of all ids and of all variables, with their parts
unfoldable concepts : Tables → (ℕ → Concept) → List Concept
concepts t σ = gather (λ i. parts (tree t.concepts i)) (count_of t.concepts) ++ gather (λ k. parts (σ k)) t.variables

module _ (t : Tables) (σ : ℕ → Concept) where
  concepts-closed : Closed (concepts t σ)
  unfolding concepts
  concepts-closed = append-closed _ _ (gather-closed (tree t.concepts) (count_of t.concepts)) (gather-closed σ t.variables)

  id-in : (i : ℕ) → i < count_of t.concepts → Memᴰ (tree t.concepts i) (concepts t σ)
  unfolding concepts
  id-in i l = Memᴰ.append_left _ (gather-in _ _ i l (parts_self (tree t.concepts i)))

  variable-in : (k : ℕ) → k < t.variables → Memᴰ (σ k) (concepts t σ)
  unfolding concepts
  variable-in k l = Memᴰ.append_right (gather (λ i. parts (tree t.concepts i)) (count_of t.concepts)) (gather-in (λ k. parts (σ k)) _ k l (parts_self (σ k)))

module _ (t : Tables) (wf : WellFormed t) (σ : ℕ → Concept) (bits below inner forces : ℕ → ℕ → Bool) where
  abbrev α : List ℕ
  α = assignment_of t bits

  abbrev E : List Concept
  E = concepts t σ

  of : Interpretation → ℕ → ℕ → Bool
  of I k x = every (λ p. is_member I (tree t.concepts p) x) (chosen t α k)

  reach : Interpretation → ℕ → ℕ → Bool
  reach I z j = branch (ltb z I.size) (any_below t.variables (λ k. both (of I k z) (forces k j))) (below (z - I.size) j)

  module _
      (bits-decide : (k : ℕ) → k < t.variables → (q : ℕ) → q < length (atoms t) → Decides (Below t (σ k) (tree t.concepts (get_or (atoms t) q 0))) (bits k q))
      (below-decides : (y : ℕ) → y < length E → (j : ℕ) → j < length E → Decides (Below t (concept_at E y) (concept_at E j)) (below y j))
      (inner-decides : (j : ℕ) → j < length E → (y : ℕ) → y < length E → Decides (Below t (inner_of (concept_at E j)) (concept_at E y)) (inner j y))
      (forces-decide : (k : ℕ) → k < t.variables → (j : ℕ) → j < length E → Decides (Below t (σ k) (concept_at E j)) (forces k j)) where
    new : (I : Interpretation) (y : ℕ) → y < length E → (j : ℕ) → j < length E → Decides (Below t (concept_at E y) (concept_at E j)) (reach I (I.size + y) j)
    unfolding reach branch
    new I y l j k =
        let e : I.size + y - I.size ≡ y = omega arith in
        rw (le-ltb (I.size + y) I.size (omega arith), e) (below-decides y l j k)

    old :
        (I : Interpretation) (x j : ℕ) → x < I.size → j < length E → reach I x j ≡ true
        → (k : ℕ) × (k < t.variables) × (of I k x ≡ true) × Below t (σ k) (concept_at E j)
    unfolding reach branch
    old I x j l u h =
        let (k, lk, e) = any_below-elim t.variables _ (rw (lt-ltb x I.size l) at h) in
        let (p, q) = both_true _ _ e in
        (k, lk, p, (forces-decide k lk j u).0 q)

    -- an old element that is a member of a variable's atoms reaches all that the variable's concept is below
    forced :
        (I : Interpretation) (k x j : ℕ) → k < t.variables → x < I.size → j < length E → of I k x ≡ true → Below t (σ k) (concept_at E j)
        → reach I x j ≡ true
    unfolding reach branch
    forced I k x j lk l u h b = rw (lt-ltb x I.size l) (any_below-intro t.variables _ k lk (both-intro _ _ h ((forces-decide k lk j u).1 b)))

    taken : (k p : ℕ) → k < t.variables → Memᴰ p (atoms t) → Below t (σ k) (tree t.concepts p) → Memᴰ p (chosen t α k)
    unfolding chosen
    taken k p l m b =
        let (q, u, e) = place 0 (atoms t) p m in
        pick_intro (atoms t) _ p
        (record {
          place = q;
          known = u;
          chosen = assignment_of-bit t bits k q l u ∙ (bits-decide k l q u).1 (subst (λ (z : ℕ). Below t (σ k) (tree t.concepts z)) (sym e) b);
          here = e;
        })

    taken-below : (k p : ℕ) → k < t.variables → Memᴰ p (chosen t α k) → Below t (σ k) (tree t.concepts p)
    unfolding chosen
    taken-below k p l m =
        let c = pick-member (atoms t) _ p m in
        subst (λ (z : ℕ). Below t (σ k) (tree t.concepts z)) c.here
        ((bits-decide k l c.place c.known).0 (sym (assignment_of-bit t bits k c.place l c.known) ∙ c.chosen))

    taken-known : (k p : ℕ) → Memᴰ p (chosen t α k) → k < t.variables
    unfolding chosen
    taken-known k p m =
        let c = pick-member (atoms t) _ p m in
        ⊎_elim
        (λ l. absurd (none c.place c.chosen l))
        (λ l. l) (le-or-lt t.variables k)
      where
        none : (q : ℕ) → bit (get_or α k 0) q ≡ true → t.variables ≤ k → ⊥
        none q h l = bit-of-zero q (rw (get_or-eq_default α 0 {n = k} (omega (arith, assignment_of-length t bits))) at h)

    abbrev HoldsOf : Interpretation → Concept → Type 0
    HoldsOf I c = Holds t I E (concepts-closed t σ) inner (reach I) inner-decides (new I) t.variables σ (of I) (old I) c

    -- what holds of the atom holds of its twins
    atom-holds : (I : Interpretation) (p : ℕ) → AtomOf t p → HoldsOf I (tree t.concepts p)
    unfolding of
    atom-holds I p a =
        subst (HoldsOf I) a.same (λ k x lk l h b. test-member I (tree t.concepts a.atom) x (every-elim _ _ h a.atom (taken k a.atom lk a.listed b)))

    still-included :
        (I : Interpretation) → Obeys t I → (m : ℕ) → m < pairs_of t.inclusions
        → Included (extended t.roles I E inner (reach I)) no_variables (tree t.concepts (left_of t.inclusions m)) (tree t.concepts (right_of t.inclusions m))
    still-included I obeys m l =
        included-still t I E (concepts-closed t σ) inner (reach I) inner-decides (new I) t.variables σ (of I) (old I) (tree t.concepts (left_of t.inclusions m))
        (tree t.concepts (right_of t.inclusions m)) (each-id t wf (HoldsOf I) _ (λ p o a. atom-holds I p (left-atom t wf m p l o a)))
        (numbered t wf (right_of t.inclusions m)) (id-in t σ _ (wf.right-known m l)) (obeys.inclusions m l) (λ K o. o.inclusions m l)

    -- old links by the interpretation, new ones because they stand under all wider roles
    still-wide :
        (I : Interpretation) → Obeys t I → (m : ℕ) → m < pairs_of t.roles → (x y : ℕ) → x < (extended t.roles I E inner (reach I)).size
        → Memᴰ (record { from = x; role = left_of t.roles m; to = y }) (extended t.roles I E inner (reach I)).links
        → Memᴰ (record { from = x; role = right_of t.roles m; to = y }) (extended t.roles I E inner (reach I)).links
    still-wide I obeys m l x y k h =
        ⊎_elim (λ (p, q, n). link-old t.roles I E inner (reach I) x (right_of t.roles m) y p q (obeys.roles m l x y p q n))
        (λ o.
        subst (λ (z : ℕ). Memᴰ (record { from = x; role = right_of t.roles m; to = z }) (extended t.roles I E inner (reach I)).links) (sym o.there)
        (link-wider t.roles I E inner (reach I) x o.by o.narrow (right_of t.roles m) o.into o.concept k o.known o.into-known o.linked o.reached o.inward
        (wider-trans t.roles o.narrow (left_of t.roles m) (right_of t.roles m) o.widened (wider-pair t.roles m l)) (wf.wide_low m l)))
        (link-cases t.roles I E inner (reach I) x (left_of t.roles m) y h)

    still-obeys : (I : Interpretation) → Obeys t I → Obeys t (extended t.roles I E inner (reach I))
    still-obeys I obeys = record { inclusions = still-included I obeys; roles = λ m l x y k u. still-wide I obeys m l x y k }

    -- A question with a ground right side.
    ground-right : (m : ℕ) → m < pairs_of t.questions → Ground t.concepts (right_of t.questions m) → SubsumedBy t (substituted σ) (left_of t.questions m) (right_of t.questions m) → Subsumed t α (left_of t.questions m) (right_of t.questions m)
    unfolding of
    ground-right m l g s I obeys x k h =
        let r = tree t.concepts (right_of t.questions m) in
        let K = extended t.roles I E inner (reach I) in
        member-ground I no_variables (assigned t α I) r g x
        (old-out t I E (concepts-closed t σ) inner (reach I) inner-decides (new I) t.variables σ (of I) (old I) r
        (each-id t wf (HoldsOf I) _ (λ p o a. atom-holds I p (right-atom t wf m p l g o a))) x k
        (member-ground K (substituted σ K) no_variables r g x
        (s K (still-obeys I obeys) x (omega arith)
        (old-in t.roles I E inner (reach I) (assigned t α I) (substituted σ K) t.variables
        (λ v z lv lz a.
        reached-in t I E (concepts-closed t σ) inner (reach I) inner-decides (new I) (σ v) (variable-in t σ v lv) z (omega arith)
        (λ j u b. forced I v z j lv lz u (every-intro _ _ (λ p n. member-test I (tree t.concepts p) z (a p n))) b))
        (tree t.concepts (left_of t.questions m)) (numbered t wf (left_of t.questions m)) x k h))))

    -- A question with a ground left side.
    ground-left : (i j : ℕ) → Ground t.concepts i → SubsumedBy t (substituted σ) i j → Subsumed t α i j
    ground-left i j g s I obeys x k h =
        member-reads I (substituted σ I) (assigned t α I) (λ v z l a p m. taken-below v p (taken-known v p m) m I obeys z l a) (tree t.concepts j) x k
        (s I obeys x k (member-ground I (assigned t α I) (substituted σ I) (tree t.concepts i) g x h))

    solves : (asked : ℕ → Type 0) → SolvedAmong asked t (substituted σ) → SolvesAmong asked t α
    unfolding both
    solves asked s m l x = go (has_variable (tree t.concepts (left_of t.questions m))) refl
      where
        go : (b : Bool) → has_variable (tree t.concepts (left_of t.questions m)) ≡ b → Subsumed t α (left_of t.questions m) (right_of t.questions m)
        go true e = ground-right m l (rw (e, both) at (wf.one-sided m l)) (s m l x)
        go false e = ground-left _ _ e (s m l x)

-- Where no assignment makes the asked questions hold, no substitution does, of whatever size.
pub none-among :
    (asked : ℕ → Type 0) (t : Tables) → table_fault t ≡ Done → ((α : List ℕ) → assignment_fault t α ≡ Done → SolvesAmong asked t α → ⊥)
    → (σ : Substitution t) → SolvedAmong asked t (substituted σ.concept) → ⊥
none-among asked t ok none σ s =
    decided-pairs (λ k q. Below t (σ.concept k) (tree t.concepts (get_or (atoms t) q 0))) t.variables (length (atoms t)) λ (bits, p).
    decided-pairs (λ y j. Below t (concept_at (concepts t σ.concept) y) (concept_at (concepts t σ.concept) j)) (length (concepts t σ.concept)) (length (concepts t σ.concept)) λ (below, q).
    decided-pairs (λ j y. Below t (inner_of (concept_at (concepts t σ.concept) j)) (concept_at (concepts t σ.concept) y)) (length (concepts t σ.concept)) (length (concepts t σ.concept)) λ (inner, u).
    decided-pairs (λ k j. Below t (σ.concept k) (concept_at (concepts t σ.concept) j)) t.variables (length (concepts t σ.concept)) λ (forces, v).
    none (assignment_of t bits) (assignment_of-accepted t bits) (solves t (well_formed t ok) σ.concept bits below inner forces p q u v asked s)

-- The same of all questions.
pub none-by-substitution :
    (t : Tables) → table_fault t ≡ Done → ((α : List ℕ) → assignment_fault t α ≡ Done → Solves t α → ⊥) → (σ : Substitution t) → SolvesBy t σ → ⊥
none-by-substitution t ok none σ s = none-among (λ m. Unit {0}) t ok (λ α a x. none α a (λ m l. x m l tt)) σ (λ m l x. s m l)

-- No assignment solves exactly when no substitution does.
pub none-exactly :
    (t : Tables) → table_fault t ≡ Done
    → ((α : List ℕ) → assignment_fault t α ≡ Done → Solves t α → ⊥) ↔ ((σ : Substitution t) → SolvesBy t σ → ⊥)
none-exactly t ok =
    (none-by-substitution t ok, λ none α _ s. none (as_substitution t (well_formed t ok) α) (solves-by-substitution t (well_formed t ok) α s))
