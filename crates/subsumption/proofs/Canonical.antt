-- Completeness: an interpretation over the ids themselves that shows which id is below which.
use Prim.Native.Nat.{ℕ, ◌<◌}
use mathlib.Core.Path.{◌≡◌, refl, sym, ◌∙◌}
use mathlib.Core.List.{List, Memᴰ}
use mathlib.Core.Bool.{true≢false}
use native.Mathlib.Omega.{arith}
use Rattle.subsumption.specs.Tables.{Tables, Node, top_at, name_at, exists_at, and_at, var_at, node, count_of, pairs_of, left_of, right_of, tree}
use Rattle.subsumption.specs.Atoms.{chosen}
use Rattle.subsumption.specs.Subsumption.{Interpretation, Reading, Member, no_variables, assigned, Obeys, Subsumed}
use Rattle.subsumption.proofs.WellFormed.{WellFormed}
use Rattle.subsumption.proofs.Depth.{by-smaller}
use Rattle.subsumption.proofs.Trees.{tree-top, tree-name, tree-exists, tree-and, tree-var, inner-exists, inner-and, variable-var}
use Rattle.subsumption.proofs.Inward.{Inward, Ground, ground-inward, below-inward}
use Rattle.subsumption.proofs.Chosen.{chosen-known, chosen-ground}

-- What the argument needs of an interpretation whose elements are the ids: what makes an id a member (In), and what a member shows (Out).
pub record Canonical (t : Tables) (assignment : List ℕ) (I : Interpretation) (In Out : ℕ → ℕ → Type 0) : Type 0 where
  pub size : I.size ≡ count_of t.concepts
  pub self : (i : ℕ) → i < count_of t.concepts → In i i
  pub obeying :
      (x m : ℕ) → x < count_of t.concepts → m < pairs_of t.inclusions
      → Out x (left_of t.inclusions m) → In x (right_of t.inclusions m)
  pub roles-obeyed :
      (m : ℕ) → m < pairs_of t.roles → (x y : ℕ) → x < count_of t.concepts → y < count_of t.concepts
      → Memᴰ (record { from = x; role = left_of t.roles m; to = y }) I.links
      → Memᴰ (record { from = x; role = right_of t.roles m; to = y }) I.links
  pub name_in :
      (x c n : ℕ) → x < count_of t.concepts → c < count_of t.concepts → node t.concepts c ≡ name_at n → In x c
      → Memᴰ (record { element = x; name = n }) I.names
  pub link-in :
      (x c r d : ℕ) → x < count_of t.concepts → c < count_of t.concepts → node t.concepts c ≡ exists_at r d → In x c
      → (y : ℕ) × (y < count_of t.concepts) × Memᴰ (record { from = x; role = r; to = y }) I.links × In y d
  pub first-in : (x c a b : ℕ) → x < count_of t.concepts → c < count_of t.concepts → node t.concepts c ≡ and_at a b → In x c → In x a
  pub second-in : (x c a b : ℕ) → x < count_of t.concepts → c < count_of t.concepts → node t.concepts c ≡ and_at a b → In x c → In x b
  pub chosen-in :
      (x c k p : ℕ) → x < count_of t.concepts → c < count_of t.concepts → node t.concepts c ≡ var_at k
      → Memᴰ p (chosen t assignment k) → In x c → In x p
  pub top-out : (x c : ℕ) → x < count_of t.concepts → c < count_of t.concepts → node t.concepts c ≡ top_at → Out x c
  pub name_out :
      (x c n : ℕ) → x < count_of t.concepts → c < count_of t.concepts → node t.concepts c ≡ name_at n
      → Memᴰ (record { element = x; name = n }) I.names → Out x c
  pub link-out :
      (x c r d y : ℕ) → x < count_of t.concepts → c < count_of t.concepts → y < count_of t.concepts
      → node t.concepts c ≡ exists_at r d → Memᴰ (record { from = x; role = r; to = y }) I.links → Out y d → Out x c
  pub and-out : (x c a b : ℕ) → x < count_of t.concepts → c < count_of t.concepts → node t.concepts c ≡ and_at a b → Out x a → Out x b → Out x c
  pub chosen-out :
      (x c k : ℕ) → x < count_of t.concepts → c < count_of t.concepts → node t.concepts c ≡ var_at k
      → ((p : ℕ) → Memᴰ p (chosen t assignment k) → Out x p) → Out x c

module _ (t : Tables) (assignment : List ℕ) (wf : WellFormed t) (I : Interpretation) (In Out : ℕ → ℕ → Type 0)
    (canonical : Canonical t assignment I In Out) where
  -- Over ids with a property that passes inward, for a reading that suits the variables among them.
  module _ (ρ : Reading) (G : ℕ → Type 0) (inward : Inward t.concepts G) where
    member-out :
        ((x c k : ℕ) → x < count_of t.concepts → c < count_of t.concepts → G c → node t.concepts c ≡ var_at k → ρ k x → Out x c)
        → (c : ℕ) → c < count_of t.concepts → G c → (x : ℕ) → x < count_of t.concepts → Member I ρ (tree t.concepts c) x → Out x c
    member-out variable =
        by-smaller
        (λ c. c < count_of t.concepts → G c → (x : ℕ) → x < count_of t.concepts → Member I ρ (tree t.concepts c) x → Out x c)
        (λ c smaller l g x k h. go c smaller l g x k h (node t.concepts c) refl)
      where
        go :
            (c : ℕ)
            → ((d : ℕ) → d < c → d < count_of t.concepts → G d → (x : ℕ) → x < count_of t.concepts → Member I ρ (tree t.concepts d) x → Out x d)
            → c < count_of t.concepts → G c → (x : ℕ) → x < count_of t.concepts → Member I ρ (tree t.concepts c) x
            → (m : Node) → node t.concepts c ≡ m → Out x c
        go c smaller l g x k h top_at e = canonical.top-out x c k l e
        go c smaller l g x k h (name_at n) e = canonical.name_out x c n k l e (rw (tree-name t.concepts wf.rising c n e) at h)
        go c smaller l g x k h (exists_at r d) e =
            let (y, ly, link, m) = rw (tree-exists t.concepts wf.rising c r d e) at h in
            let s = inner-exists t.concepts wf.rising c r d e in
            let u : y < count_of t.concepts = omega (arith, canonical.size) in
            canonical.link-out x c r d y k l u e link (smaller d s (omega arith) (inward.inner c r d e g) y u m)
        go c smaller l g x k h (and_at a b) e =
            let (p, q) = rw (tree-and t.concepts wf.rising c a b e) at h in
            let s = inner-and t.concepts wf.rising c a b e in
            canonical.and-out x c a b k l e (smaller a s.0 (omega arith) (inward.first c a b e g) x k p)
            (smaller b s.1 (omega arith) (inward.second c a b e g) x k q)
        go c smaller l g x k h (var_at v) e = variable x c v k l g e (rw (tree-var t.concepts wf.rising c v e) at h)

    member-in :
        ((x c k : ℕ) → x < count_of t.concepts → c < count_of t.concepts → G c → node t.concepts c ≡ var_at k → In x c → ρ k x)
        → (c : ℕ) → c < count_of t.concepts → G c → (x : ℕ) → x < count_of t.concepts → In x c → Member I ρ (tree t.concepts c) x
    member-in variable =
        by-smaller
        (λ c. c < count_of t.concepts → G c → (x : ℕ) → x < count_of t.concepts → In x c → Member I ρ (tree t.concepts c) x)
        (λ c smaller l g x k h. go c smaller l g x k h (node t.concepts c) refl)
      where
        go :
            (c : ℕ)
            → ((d : ℕ) → d < c → d < count_of t.concepts → G d → (x : ℕ) → x < count_of t.concepts → In x d → Member I ρ (tree t.concepts d) x)
            → c < count_of t.concepts → G c → (x : ℕ) → x < count_of t.concepts → In x c
            → (m : Node) → node t.concepts c ≡ m → Member I ρ (tree t.concepts c) x
        go c smaller l g x k h top_at e = rw (tree-top t.concepts wf.rising c e) tt
        go c smaller l g x k h (name_at n) e = rw (tree-name t.concepts wf.rising c n e) (canonical.name_in x c n k l e h)
        go c smaller l g x k h (exists_at r d) e =
            rw (tree-exists t.concepts wf.rising c r d e)
            (let (y, u, link, m) = canonical.link-in x c r d k l e h in
            let s = inner-exists t.concepts wf.rising c r d e in
            (y, omega (arith, canonical.size), link, smaller d s (omega arith) (inward.inner c r d e g) y u m))
        go c smaller l g x k h (and_at a b) e =
            let s = inner-and t.concepts wf.rising c a b e in
            rw (tree-and t.concepts wf.rising c a b e) (
              smaller a s.0 (omega arith) (inward.first c a b e g) x k (canonical.first-in x c a b k l e h),
              smaller b s.1 (omega arith) (inward.second c a b e g) x k (canonical.second-in x c a b k l e h),
            )
        go c smaller l g x k h (var_at v) e = rw (tree-var t.concepts wf.rising c v e) (variable x c v k l g e h)

  no-variable : (c k : ℕ) → Ground t.concepts c → node t.concepts c ≡ var_at k → ⊥
  no-variable c k g e = true≢false (sym (variable-var t.concepts wf.rising c k e) ∙ g)

  pub ground-out : (c x : ℕ) → c < count_of t.concepts → x < count_of t.concepts → Ground t.concepts c → Member I no_variables (tree t.concepts c) x → Out x c
  ground-out c x l k g =
      member-out no_variables (Ground t.concepts) (ground-inward t.concepts wf.rising) (λ x c v _ _ g e _. absurd (no-variable c v g e)) c l g
      x k

  pub ground-in : (c x : ℕ) → c < count_of t.concepts → x < count_of t.concepts → Ground t.concepts c → In x c → Member I no_variables (tree t.concepts c) x
  ground-in c x l k g =
      member-in no_variables (Ground t.concepts) (ground-inward t.concepts wf.rising) (λ x c v _ _ g e _. absurd (no-variable c v g e)) c l g
      x k

  pub obeys : Obeys t I
  obeys =
      record {
        inclusions =
            λ m l x k h.
            let u : x < count_of t.concepts = omega (arith, canonical.size) in
            ground-in _ x (wf.right-known m l) u (wf.right-ground m l)
            (canonical.obeying x m u l (ground-out _ x (wf.left-known m l) u (wf.left-ground m l) h));
        roles = λ m l x y k u. canonical.roles-obeyed m l x y (omega (arith, canonical.size)) (omega (arith, canonical.size));
      }

  pub assigned-out : (c x : ℕ) → c < count_of t.concepts → x < count_of t.concepts → Member I (assigned t assignment I) (tree t.concepts c) x → Out x c
  assigned-out c x l k =
      member-out (assigned t assignment I) (λ i. i < count_of t.concepts) (below-inward t.concepts wf.rising (count_of t.concepts))
      (λ x c v k l _ e h.
      canonical.chosen-out x c v k l e
      (λ p m. ground-out p x (chosen-known t assignment v p m) k (chosen-ground t assignment v p wf m) (h p m)))
      c l l x k

  pub assigned-in : (c x : ℕ) → c < count_of t.concepts → x < count_of t.concepts → In x c → Member I (assigned t assignment I) (tree t.concepts c) x
  assigned-in c x l k =
      member-in (assigned t assignment I) (λ i. i < count_of t.concepts) (below-inward t.concepts wf.rising (count_of t.concepts))
      (λ x c v k l _ e h p m.
      ground-in p x (chosen-known t assignment v p m) k (chosen-ground t assignment v p wf m) (canonical.chosen-in x c v p k l e m h))
      c l l x k

  pub canonical-complete : (i j : ℕ) → i < count_of t.concepts → j < count_of t.concepts → Subsumed t assignment i j → Out i j
  canonical-complete i j l k s =
      assigned-out j i k l (s I obeys i (omega (arith, canonical.size)) (assigned-in i i l l (canonical.self i l)))
