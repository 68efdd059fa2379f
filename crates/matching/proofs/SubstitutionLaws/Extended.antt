-- An interpretation with one more element for each concept of a list, which any element may reach.
use Prim.Native.Nat.{ℕ, ◌+◌, ◌<◌}
use mathlib.Core.Path.{◌≡◌, refl, sym, ap, ◌∙◌, subst}
use mathlib.Core.List.Memᴰ
use mathlib.Core.List.{List, [], ◌∷◌, ◌++◌, Memᴰ}
use mathlib.Core.Bool.{Bool, true}
use mathlib.Core.Logic.{◌⊎◌, inl, inr, ⊎_elim}
use native.Mathlib.Omega.{arith}
use lib.Dec.{ltb}
use lib.ListN.{length}
use borrow.Author.Tests.{ltb-true, lt-ltb}
use Rattle.subsumption.specs.Tables.{both, Concept, top, name, exists, and, var}
use Rattle.subsumption.specs.Subsumption.{Named, Linked, Interpretation}
use Rattle.subsumption.proofs.Bools.{both_true, both-intro}
use Rattle.subsumption.specs.Atoms.{keep}
use Rattle.subsumption.specs.Roles.{wider}
use Rattle.subsumption.proofs.ModelRows.{gather, gather-in, gather-out, only_if, only_if-in, only_if-out, links_to, links_to-in, linksTo-out}
use Rattle.subsumption.proofs.Keep.{keep-member, keep-intro}
use Rattle.subsumption.proofs.RoleLaws.{wider-refl}
use Rattle.matching.proofs.SubstitutionLaws.Parts.{concept_at}

module _ {A : Type 0} (test : A → Bool) where
  unfoldable pub sift : List A → List A
  sift [] = []
  sift (a ∷ list) = only_if (test a) (a ∷ []) ++ sift list

  pub sift-in : {a : A} {list : List A} → test a ≡ true → Memᴰ a list → Memᴰ a (sift list)
  unfolding sift
  sift-in h (Memᴰ.head {x} {xs} e) = Memᴰ.append_left (sift xs) (only_if-in (test x) (rw e at h) (Memᴰ.head e))
  sift-in h (Memᴰ.tail {x} {xs} m) = Memᴰ.append_right (only_if (test x) (x ∷ [])) (sift-in h m)

  pub sift-out : {a : A} (list : List A) → Memᴰ a (sift list) → (test a ≡ true) × Memᴰ a list
  unfolding sift
  sift-out [] h = absurd (Memᴰ.not-nil h)
  sift-out {a} (x ∷ list) h =
      ⊎_elim
      (λ m.
      let (t, u) = only_if-out (test x) (x ∷ []) m in
      let e = Memᴰ.eq_of_singleton u in
      (subst (λ z. test z ≡ true) (sym e) t, Memᴰ.head e))
      (λ m. let (t, u) = sift-out list m in (t, Memᴰ.tail u)) (Memᴰ.append_cases (only_if (test x) (x ∷ [])) h)

unfoldable pub name_by : ℕ → Concept → List Named
name_by z top = []
name_by z (name n) = record { element = z; name = n } ∷ []
name_by z (exists r c) = []
name_by z (and c d) = []
name_by z (var k) = []

-- a link under the concept's role and under every wider one of the tables' range; the role itself may be past that
unfoldable pub link_by : List ℕ → ℕ → ℕ → Concept → List Linked
link_by roles z w top = []
link_by roles z w (name n) = []
link_by roles z w (exists r c) = record { from = z; role = r; to = w } ∷ links_to z w (keep (wider roles r) 0 100)
link_by roles z w (and c d) = []
link_by roles z w (var k) = []

unfoldable pub own_names : Interpretation → List Named
own_names I = sift (λ o. ltb o.element I.size) I.names

unfoldable pub own_links : Interpretation → List Linked
own_links I = sift (λ o. both (ltb o.from I.size) (ltb o.to I.size)) I.links

-- z reaches the concept at j: it has its name, and its link to each element y that the inner concept is below
module _ (roles : List ℕ) (I : Interpretation) (E : List Concept) (inner reach : ℕ → ℕ → Bool) where
  unfoldable pub new_names : List Named
  new_names = gather (λ z. gather (λ j. only_if (reach z j) (name_by z (concept_at E j))) (length E)) (I.size + length E)

  unfoldable pub new_links : List Linked
  new_links =
      gather
      (λ z. gather (λ j. gather (λ y. only_if (both (reach z j) (inner j y)) (link_by roles z (I.size + y) (concept_at E j))) (length E)) (length E))
      (I.size + length E)

  abbrev pub extended : Interpretation
  extended = record { size = I.size + length E; names = own_names I ++ new_names; links = own_links I ++ new_links }

  pub name-old : (x n : ℕ) → x < I.size → Memᴰ (record { element = x; name = n }) I.names → Memᴰ (record { element = x; name = n }) extended.names
  unfolding own_names
  name-old x n l m = Memᴰ.append_left new_names (sift-in _ (lt-ltb _ _ l) m)

  pub name_new : (z j n : ℕ) → z < extended.size → j < length E → concept_at E j ≡ name n → reach z j ≡ true → Memᴰ (record { element = z; name = n }) extended.names
  unfolding new_names name_by
  name_new z j n l k e h =
      Memᴰ.append_right (own_names I) (gather-in _ _ z l (gather-in _ _ j k (only_if-in _ h (rw e (Memᴰ.head refl)))))

  pub link-old :
      (x r y : ℕ) → x < I.size → y < I.size → Memᴰ (record { from = x; role = r; to = y }) I.links
      → Memᴰ (record { from = x; role = r; to = y }) extended.links
  unfolding own_links
  link-old x r y l k m = Memᴰ.append_left new_links (sift-in _ (both-intro _ _ (lt-ltb _ _ l) (lt-ltb _ _ k)) m)

  pub link-new :
      (z j r y : ℕ) (c : Concept) → z < extended.size → j < length E → y < length E → concept_at E j ≡ exists r c → reach z j ≡ true → inner j y ≡ true
      → Memᴰ (record { from = z; role = r; to = I.size + y }) extended.links
  unfolding new_links link_by
  link-new z j r y c l k u e h i =
      Memᴰ.append_right (own_links I)
      (gather-in _ _ z l (gather-in _ _ j k (gather-in _ _ y u (only_if-in _ (both-intro _ _ h i) (rw e (Memᴰ.head refl))))))

  pub link-wider :
      (z j r s y : ℕ) (c : Concept) → z < extended.size → j < length E → y < length E → concept_at E j ≡ exists r c → reach z j ≡ true → inner j y ≡ true
      → wider roles r s ≡ true → s < 100 → Memᴰ (record { from = z; role = s; to = I.size + y }) extended.links
  unfolding new_links link_by
  link-wider z j r s y c l k u e h i w v =
      Memᴰ.append_right (own_links I)
      (gather-in _ _ z l (gather-in _ _ j k (gather-in _ _ y u
      (only_if-in _ (both-intro _ _ h i)
      (rw e (Memᴰ.tail (links_to-in z (I.size + y) s _ (keep-intro (wider roles r) 0 100 s (record { low = omega arith; high = omega arith; passes = w })))))))))

  pub record NewName (z n : ℕ) : Type 0 where
    pub by : ℕ
    pub known : by < length E
    pub reached : reach z by ≡ true
    pub named : concept_at E by ≡ name n

  pub name-cases :
      (z n : ℕ) → Memᴰ (record { element = z; name = n }) extended.names
      → ((z < I.size) × Memᴰ (record { element = z; name = n }) I.names) ⊎ NewName z n
  unfolding own_names new_names name_by
  name-cases z n h = ⊎_elim (λ m. let (l, u) = sift-out _ _ m in inl (ltb-true _ _ l, u)) (λ m. inr (fresh m)) (Memᴰ.append_cases (own_names I) h)
    where
      go :
          (w j : ℕ) → j < length E → reach w j ≡ true → (c : Concept) → concept_at E j ≡ c → Memᴰ (record { element = z; name = n }) (name_by w c)
          → NewName z n
      go w j l t top e m = absurd (Memᴰ.not-nil m)
      go w j l t (name k) e m =
          let u = Memᴰ.eq_of_singleton m in
          record {
            by = j;
            known = l;
            reached = ap (λ (o : Named). reach o.element j) u ∙ t;
            named = e ∙ ap (λ (o : Named). name o.name) (sym u);
          }
      go w j l t (exists r c) e m = absurd (Memᴰ.not-nil m)
      go w j l t (and c d) e m = absurd (Memᴰ.not-nil m)
      go w j l t (var k) e m = absurd (Memᴰ.not-nil m)

      fresh : Memᴰ (record { element = z; name = n }) new_names → NewName z n
      fresh m =
          let (w, _, u) = gather-out _ _ m in
          let (j, l, v) = gather-out _ _ u in
          let (t, s) = only_if-out _ _ v in
          go w j l t (concept_at E j) refl s

  pub record NewLink (z r w : ℕ) : Type 0 where
    pub by : ℕ
    pub known : by < length E
    pub reached : reach z by ≡ true
    pub into : ℕ
    pub into-known : into < length E
    pub inward : inner by into ≡ true
    pub there : w ≡ I.size + into
    pub concept : Concept
    pub narrow : ℕ
    pub linked : concept_at E by ≡ exists narrow concept
    pub widened : wider roles narrow r ≡ true

  pub link-cases :
      (z r w : ℕ) → Memᴰ (record { from = z; role = r; to = w }) extended.links
      → ((z < I.size) × (w < I.size) × Memᴰ (record { from = z; role = r; to = w }) I.links) ⊎ NewLink z r w
  unfolding own_links new_links link_by
  link-cases z r w h =
      ⊎_elim (λ m. let (l, u) = sift-out _ _ m in let (p, q) = both_true _ _ l in inl (ltb-true _ _ p, ltb-true _ _ q, u)) (λ m. inr (fresh m))
      (Memᴰ.append_cases (own_links I) h)
    where
      go :
          (a j y : ℕ) → j < length E → y < length E → reach a j ≡ true → inner j y ≡ true → (c : Concept) → concept_at E j ≡ c
          → Memᴰ (record { from = z; role = r; to = w }) (link_by roles a (I.size + y) c) → NewLink z r w
      go a j y l k t i top e m = absurd (Memᴰ.not-nil m)
      go a j y l k t i (name n) e m = absurd (Memᴰ.not-nil m)
      go a j y l k t i (exists s c) e m =
          ⊎_elim (λ (u : ◌≡◌ {A = Linked} (record { from = z; role = r; to = w }) (record { from = a; role = s; to = I.size + y })). made s u (wider-refl roles s))
          (λ n. let (q, v, u) = linksTo-out a (I.size + y) _ n in made q u (keep-member (wider roles s) 0 100 q v).passes) (Memᴰ.cases_cons m)
        where
          made : (q : ℕ) → ◌≡◌ {A = Linked} (record { from = z; role = r; to = w }) (record { from = a; role = q; to = I.size + y }) → wider roles s q ≡ true → NewLink z r w
          made q u v =
              record {
                by = j;
                known = l;
                reached = ap (λ (o : Linked). reach o.from j) u ∙ t;
                into = y;
                into-known = k;
                inward = i;
                there = ap (λ (o : Linked). o.to) u;
                concept = c;
                narrow = s;
                linked = e;
                widened = ap (λ (o : Linked). wider roles s o.role) u ∙ v;
              }
      go a j y l k t i (and c d) e m = absurd (Memᴰ.not-nil m)
      go a j y l k t i (var n) e m = absurd (Memᴰ.not-nil m)

      fresh : Memᴰ (record { from = z; role = r; to = w }) new_links → NewLink z r w
      fresh m =
          let (a, _, u) = gather-out _ _ m in
          let (j, l, v) = gather-out _ _ u in
          let (y, k, x) = gather-out _ _ v in
          let (b, s) = only_if-out _ _ x in
          let (t, i) = both_true _ _ b in
          go a j y l k t i (concept_at E j) refl s
