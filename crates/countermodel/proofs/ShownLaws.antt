-- Which names and links the shown rows say.
use Prim.Native.Nat.{ℕ, ◌<◌}
use mathlib.Core.Path.{◌≡◌, refl, ap, ap₂, ◌∙◌, subst, fun_ext}
use mathlib.Core.List.Memᴰ
use mathlib.Core.List.{List, [], ◌∷◌, ◌++◌, map, Memᴰ}
use mathlib.Core.Bool.{Bool, true}
use mathlib.Core.Logic.{◌↔◌, ◌⊎◌, inl, inr, ⊎_elim}
use native.Mathlib.Omega.{arith}
use Rattle.subsumption.specs.Tables.{count_of}
use Rattle.subsumption.specs.Subsumption.{Named, Linked}
use Rattle.subsumption.proofs.Keep.{keep-member, keep-intro}
use Rattle.countermodel.specs.Rows.{joined, named_by, linked_by, interpretation_of}
use Rattle.countermodel.specs.Countermodel.{bears, names_at, is_linked, links_at, name_rows, link_rows, shown_rows}
use Rattle.countermodel.proofs.JoinedLaws.{joined_in, joined-out}
use Rattle.countermodel.proofs.FlatLaws.{Row, flat, flat_append, flat-joined, said_in, said-out}

abbrev pub name_row : ℕ → ℕ → Row
name_row i n = record { kind = 0; element = i; word = n; last = 0 }

abbrev pub link_row : ℕ → ℕ → ℕ → Row
link_row i s y = record { kind = 1; element = i; word = s; last = y }

flat-names : (i : ℕ) (names : List ℕ) → flat (map (name_row i) names) ≡ name_rows i names
unfolding flat name_rows
flat-names i [] = refl
flat-names i (n ∷ names) = rw (flat-names i names) refl

flat-links : (i s : ℕ) (links : List ℕ) → flat (map (link_row i s) links) ≡ link_rows i s links
unfolding flat link_rows
flat-links i s [] = refl
flat-links i s (y ∷ links) = rw (flat-links i s links) refl

module _ (concepts roles : List ℕ) (marks : ℕ → ℕ → Bool) where
  -- ---- the shown rows as records
  unfoldable pub shown_names : List Row
  shown_names = joined (λ i. map (name_row i) (names_at concepts marks i)) 0 (count_of concepts)

  unfoldable pub links_of : ℕ → List Row
  links_of i = joined (λ s. map (link_row i s) (links_at concepts roles marks i s)) 0 100

  unfoldable pub shown_links : List Row
  shown_links = joined links_of 0 (count_of concepts)

  abbrev pub shown : List Row
  shown = shown_names ++ shown_links

  -- their numbers are the shown rows
  pub shown-flat : flat shown ≡ shown_rows concepts roles marks
  unfolding shown_names shown_links links_of shown_rows
  shown-flat =
      flat_append _ _
      ∙ ap₂ ◌++◌
      (flat-joined _ 0 (count_of concepts) ∙ ap (λ f. joined f 0 (count_of concepts)) (fun_ext (λ i. flat-names i _)))
      (flat-joined _ 0 (count_of concepts) ∙ ap (λ f. joined f 0 (count_of concepts)) (fun_ext (λ i. flat-joined _ 0 100 ∙ ap (λ f. joined f 0 100) (fun_ext (λ s. flat-links i s _)))))

  -- what a shown row of each kind tells
  pub record IsName (r : Row) : Type 0 where
    pub kind : r.kind ≡ 0
    pub element : r.element < count_of concepts
    pub word : r.word < 1000
    pub last : r.last ≡ 0
    pub borne : bears concepts marks r.element r.word ≡ true

  pub record IsLink (r : Row) : Type 0 where
    pub kind : r.kind ≡ 1
    pub element : r.element < count_of concepts
    pub word : r.word < 100
    pub last : r.last < count_of concepts
    pub linked : is_linked concepts roles marks r.element r.word r.last ≡ true

  -- ---- which rows are shown
  pub name_in : (i n : ℕ) → i < count_of concepts → n < 1000 → bears concepts marks i n ≡ true → Memᴰ (name_row i n) shown
  unfolding shown_names names_at
  name_in i n l k h =
      Memᴰ.append_left _ (joined_in _ 0 _ i (omega arith) (omega arith)
      (Memᴰ.map (name_row i) (keep-intro _ 0 1000 n (record { low = omega arith; high = omega arith; passes = h }))))

  pub link-in : (i s y : ℕ) → i < count_of concepts → s < 100 → y < count_of concepts → is_linked concepts roles marks i s y ≡ true → Memᴰ (link_row i s y) shown
  unfolding shown_links links_of links_at
  link-in i s y l k u h =
      Memᴰ.append_right shown_names (joined_in _ 0 _ i (omega arith) (omega arith)
      (joined_in _ 0 100 s (omega arith) (omega arith)
      (Memᴰ.map (link_row i s) (keep-intro _ 0 _ y (record { low = omega arith; high = omega arith; passes = h })))))

  pub names-out : {r : Row} → Memᴰ r shown_names → IsName r
  unfolding shown_names names_at
  names-out h =
      let (i, _, l, u) = joined-out _ 0 _ h in
      let (n, m, e) = Memᴰ.of_map (name_row i) _ u in
      let k = keep-member _ 0 1000 n m in
      subst IsName e (record { kind = refl; element = omega arith; word = omega arith; last = refl; borne = k.passes })

  pub links-out : {r : Row} → Memᴰ r shown_links → IsLink r
  unfolding shown_links links_of links_at
  links-out h =
      let (i, _, l, u) = joined-out _ 0 _ h in
      let (s, _, p, v) = joined-out _ 0 100 u in
      let (y, m, e) = Memᴰ.of_map (link_row i s) _ v in
      let k = keep-member _ 0 _ y m in
      subst IsLink e (record { kind = refl; element = omega arith; word = omega arith; last = omega arith; linked = k.passes })

  pub shown-out : {r : Row} → Memᴰ r shown → IsName r ⊎ IsLink r
  shown-out h = ⊎_elim (λ u. inl (names-out u)) (λ u. inr (links-out u)) (Memᴰ.append_cases shown_names h)

  -- ---- what the rows say
  named-out : (x n : ℕ) {r : Row} → IsName r ⊎ IsLink r → Memᴰ (record { element = x; name = n }) (named_by r.kind r.element r.word) → IsName (name_row x n)
  unfolding named_by
  named-out x n (inl k) h =
      let e = Memᴰ.eq_of_singleton (rw k.kind at h) in
      let p : x ≡ _ = ap (λ (o : Named). o.element) e in
      let q : n ≡ _ = ap (λ (o : Named). o.name) e in
      record { kind = refl; element = rw p k.element; word = rw q k.word; last = refl; borne = rw (p, q) k.borne }
  named-out x n (inr k) h = absurd (Memᴰ.not-nil (rw k.kind at h))

  linked-out : (x s y : ℕ) {r : Row} → IsName r ⊎ IsLink r → Memᴰ (record { from = x; role = s; to = y }) (linked_by r.kind r.element r.word r.last) → IsLink (link_row x s y)
  unfolding linked_by
  linked-out x s y (inl k) h = absurd (Memᴰ.not-nil (rw k.kind at h))
  linked-out x s y (inr k) h =
      let e = Memᴰ.eq_of_singleton (rw k.kind at h) in
      let p : x ≡ _ = ap (λ (o : Linked). o.from) e in
      let q : s ≡ _ = ap (λ (o : Linked). o.role) e in
      let v : y ≡ _ = ap (λ (o : Linked). o.to) e in
      record { kind = refl; element = rw p k.element; word = rw q k.word; last = rw v k.last; linked = rw (p, q, v) k.linked }

  -- an element and a name: below the count and below 1000, and it bears the name
  pub shown-named :
      (x n : ℕ)
      → Memᴰ (record { element = x; name = n }) (interpretation_of (count_of concepts) (shown_rows concepts roles marks)).names
      ↔ ((x < count_of concepts) × (n < 1000) × (bears concepts marks x n ≡ true))
  unfolding interpretation_of named_by
  shown-named x n =
      rw (← shown-flat) (
        λ h.
            let (r, m, u) = said-out says shown h in
            let k = named-out x n (shown-out m) u in
            (k.element, k.word, k.borne),
        λ (l, k, h). said_in says shown (name_in x n l k h) (Memᴰ.head refl),
      )
    where
      says : Row → List Named
      says r = named_by r.kind r.element r.word

  -- a link: from and to below the count, the role below 100, and the two are linked by it
  pub shown-linked :
      (x s y : ℕ)
      → Memᴰ (record { from = x; role = s; to = y }) (interpretation_of (count_of concepts) (shown_rows concepts roles marks)).links
      ↔ ((x < count_of concepts) × (s < 100) × (y < count_of concepts) × (is_linked concepts roles marks x s y ≡ true))
  unfolding interpretation_of linked_by
  shown-linked x s y =
      rw (← shown-flat) (
        λ h.
            let (r, m, u) = said-out says shown h in
            let k = linked-out x s y (shown-out m) u in
            (k.element, k.word, k.last, k.linked),
        λ (l, k, u, h). said_in says shown (link-in x s y l k u h) (Memᴰ.head refl),
      )
    where
      says : Row → List Linked
      says r = linked_by r.kind r.element r.word r.last
