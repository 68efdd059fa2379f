-- The finite interpretation over the ids whose names and links come from the rows of the table that pass a test at an id.
use Prim.Native.Nat.{ℕ, zero, suc, ◌<◌}
use mathlib.Core.Path.{◌≡◌, refl, sym, ap, ◌∙◌, subst}
use mathlib.Core.List.Memᴰ
use mathlib.Core.List.{List, [], ◌∷◌, ◌++◌, Memᴰ}
use mathlib.Core.Bool.{Bool, true, false}
use mathlib.Core.Logic.{⊎_elim}
use native.Mathlib.Omega.{arith}
use Rattle.subsumption.specs.Tables.{Node, top_at, name_at, exists_at, and_at, var_at, node, count_of, pairs_of, left_of, right_of}
use Rattle.subsumption.specs.Subsumption.{Named, Linked, Interpretation}
use Rattle.subsumption.specs.Atoms.{keep}
use Rattle.subsumption.specs.Roles.{wider}
use Rattle.subsumption.proofs.Bools.{last-cases}
use Rattle.subsumption.proofs.Keep.{keep-member, keep-intro}
use Rattle.subsumption.proofs.RoleLaws.{wider-trans, wider-pair}

module _ {A : Type 0} where
  -- the lists of the numbers below n, one behind the other
  unfoldable pub gather : (ℕ → List A) → ℕ → List A
  gather list zero = []
  gather list (suc n) = list n ++ gather list n

  pub gather-in : (list : ℕ → List A) (n m : ℕ) {a : A} → m < n → Memᴰ a (list m) → Memᴰ a (gather list n)
  unfolding gather
  gather-in list zero m l h = absurd (omega arith)
  gather-in list (suc n) m {a} l h =
      ⊎_elim (λ (e : m ≡ n). Memᴰ.append_left _ (subst (λ (z : ℕ). Memᴰ a (list z)) e h))
      (λ k. Memᴰ.append_right (list n) (gather-in list n m k h)) (last-cases m n l)

  pub gather-out : (list : ℕ → List A) (n : ℕ) {a : A} → Memᴰ a (gather list n) → (m : ℕ) × (m < n) × Memᴰ a (list m)
  unfolding gather
  gather-out list zero h = absurd (Memᴰ.not-nil h)
  gather-out list (suc n) h =
      ⊎_elim (λ k. (n, omega arith, k)) (λ k. let (m, l, u) = gather-out list n k in (m, omega arith, u)) (Memᴰ.append_cases (list n) h)

  unfoldable pub only_if : Bool → List A → List A
  only_if true list = list
  only_if false list = []

  pub only_if-in : (b : Bool) {a : A} {list : List A} → b ≡ true → Memᴰ a list → Memᴰ a (only_if b list)
  unfolding only_if
  only_if-in b e h = rw e h

  pub only_if-out : (b : Bool) {a : A} (list : List A) → Memᴰ a (only_if b list) → (b ≡ true) × Memᴰ a list
  unfolding only_if
  only_if-out true list h = (refl, h)
  only_if-out false list h = absurd (Memᴰ.not-nil h)

unfoldable pub names_of : ℕ → Node → List Named
names_of x top_at = []
names_of x (name_at n) = record { element = x; name = n } ∷ []
names_of x (exists_at r j) = []
names_of x (and_at i j) = []
names_of x (var_at k) = []

-- links of one element to another, one for each of these roles
unfoldable pub links_to : ℕ → ℕ → List ℕ → List Linked
links_to x y [] = []
links_to x y (s ∷ more) = record { from = x; role = s; to = y } ∷ links_to x y more

-- a link under every role that the row's counts as
unfoldable pub links_of : List ℕ → ℕ → Node → List Linked
links_of roles x top_at = []
links_of roles x (name_at n) = []
links_of roles x (exists_at r j) = links_to x j (keep (wider roles r) 0 100)
links_of roles x (and_at i j) = []
links_of roles x (var_at k) = []

pub links_to-in : (x y s : ℕ) (list : List ℕ) → Memᴰ s list → Memᴰ (record { from = x; role = s; to = y }) (links_to x y list)
unfolding links_to
links_to-in x y s [] h = absurd (Memᴰ.not-nil h)
links_to-in x y s (r ∷ list) h =
    ⊎_elim (λ (e : s ≡ r). Memᴰ.head (ap (λ (z : ℕ). record { from = x; role = z; to = y }) e)) (λ m. Memᴰ.tail (links_to-in x y s list m))
    (Memᴰ.cases_cons h)

pub linksTo-out :
    (x y : ℕ) (list : List ℕ) {l : Linked} → Memᴰ l (links_to x y list) → (s : ℕ) × Memᴰ s list × (l ≡ record { from = x; role = s; to = y })
unfolding links_to
linksTo-out x y [] h = absurd (Memᴰ.not-nil h)
linksTo-out x y (r ∷ list) {l} h =
    ⊎_elim (λ (e : l ≡ record { from = x; role = r; to = y }). (r, Memᴰ.head refl, e))
    (λ m. let (s, u, e) = linksTo-out x y list m in (s, Memᴰ.tail u, e)) (Memᴰ.cases_cons h)

-- what the rows that pass at an id put on it, for all ids and rows
unfoldable pub collected : {A : Type 0} → List ℕ → (ℕ → ℕ → Bool) → (ℕ → Node → List A) → List A
collected concepts test put = gather (λ x. gather (λ j. only_if (test x j) (put x (node concepts j))) (count_of concepts)) (count_of concepts)

abbrev pub interpretation : List ℕ → List ℕ → (ℕ → ℕ → Bool) → Interpretation
interpretation concepts roles test =
    record { size = count_of concepts; names = collected concepts test names_of; links = collected concepts test (links_of roles) }

module _ (concepts roles : List ℕ) (test : ℕ → ℕ → Bool) where
  module _ {A : Type 0} (put : ℕ → Node → List A) where
    collected-in :
        (x j : ℕ) {a : A} → x < count_of concepts → j < count_of concepts → test x j ≡ true → Memᴰ a (put x (node concepts j))
        → Memᴰ a (collected concepts test put)
    unfolding collected
    collected-in x j l k e h = gather-in _ _ x l (gather-in _ _ j k (only_if-in _ e h))

    collected-out :
        {a : A} → Memᴰ a (collected concepts test put)
        → (x : ℕ) × (j : ℕ) × (j < count_of concepts) × (test x j ≡ true) × Memᴰ a (put x (node concepts j))
    unfolding collected
    collected-out h =
        let (x, _, k) = gather-out _ _ h in
        let (j, l, m) = gather-out _ _ k in
        let (e, u) = only_if-out _ _ m in
        (x, j, l, e, u)

  pub named_in :
      (x j n : ℕ) → x < count_of concepts → j < count_of concepts → node concepts j ≡ name_at n → test x j ≡ true
      → Memᴰ (record { element = x; name = n }) (interpretation concepts roles test).names
  unfolding names_of
  named_in x j n l k e h = collected-in names_of x j l k h (rw e (Memᴰ.head refl))

  pub linked-in :
      (x j r s y : ℕ) → x < count_of concepts → j < count_of concepts → node concepts j ≡ exists_at r y → wider roles r s ≡ true → s < 100 → test x j ≡ true
      → Memᴰ (record { from = x; role = s; to = y }) (interpretation concepts roles test).links
  unfolding links_of
  linked-in x j r s y l k e w u h =
      collected-in (links_of roles) x j l k h
      (rw e (links_to-in x y s _ (keep-intro (wider roles r) 0 100 s (record { low = omega arith; high = omega arith; passes = w }))))

  pub named-out :
      (x n : ℕ) → Memᴰ (record { element = x; name = n }) (interpretation concepts roles test).names
      → (j : ℕ) × (j < count_of concepts) × (node concepts j ≡ name_at n) × (test x j ≡ true)
  unfolding names_of
  named-out x n h = let (z, j, l, e, m) = collected-out names_of h in go z j l e (node concepts j) refl m
    where
      go :
          (z j : ℕ) → j < count_of concepts → test z j ≡ true → (row : Node) → node concepts j ≡ row
          → Memᴰ (record { element = x; name = n }) (names_of z row)
          → (j : ℕ) × (j < count_of concepts) × (node concepts j ≡ name_at n) × (test x j ≡ true)
      go z j l e top_at s m = absurd (Memᴰ.not-nil m)
      go z j l e (name_at k) s m =
          let u = Memᴰ.eq_of_singleton m in
          (j, l, s ∙ ap (λ (o : Named). name_at o.name) (sym u), ap (λ (o : Named). test o.element j) u ∙ e)
      go z j l e (exists_at r y) s m = absurd (Memᴰ.not-nil m)
      go z j l e (and_at a b) s m = absurd (Memᴰ.not-nil m)
      go z j l e (var_at k) s m = absurd (Memᴰ.not-nil m)

  pub linked-out :
      (x s y : ℕ) → Memᴰ (record { from = x; role = s; to = y }) (interpretation concepts roles test).links
      → (j : ℕ) × (r : ℕ) × (j < count_of concepts) × (node concepts j ≡ exists_at r y) × (wider roles r s ≡ true) × (test x j ≡ true)
  unfolding links_of
  linked-out x s y h = let (z, j, l, e, m) = collected-out (links_of roles) h in go z j l e (node concepts j) refl m
    where
      go :
          (z j : ℕ) → j < count_of concepts → test z j ≡ true → (row : Node) → node concepts j ≡ row
          → Memᴰ (record { from = x; role = s; to = y }) (links_of roles z row)
          → (j : ℕ) × (r : ℕ) × (j < count_of concepts) × (node concepts j ≡ exists_at r y) × (wider roles r s ≡ true) × (test x j ≡ true)
      go z j l e top_at n m = absurd (Memᴰ.not-nil m)
      go z j l e (name_at k) n m = absurd (Memᴰ.not-nil m)
      go z j l e (exists_at q w) n m =
          let (p, k, u) = linksTo-out z w _ m in (
            j,
            q,
            l,
            n ∙ ap (λ (o : Linked). exists_at q o.to) (sym u),
            ap (λ (o : Linked). wider roles q o.role) u ∙ (keep-member (wider roles q) 0 100 p k).passes,
            ap (λ (o : Linked). test o.from j) u ∙ e,
          )
      go z j l e (and_at a b) n m = absurd (Memᴰ.not-nil m)
      go z j l e (var_at k) n m = absurd (Memᴰ.not-nil m)

  -- a link of a narrow role is one of the wide role
  pub linked-widened :
      (x y m : ℕ) → x < count_of concepts → m < pairs_of roles → right_of roles m < 100
      → Memᴰ (record { from = x; role = left_of roles m; to = y }) (interpretation concepts roles test).links
      → Memᴰ (record { from = x; role = right_of roles m; to = y }) (interpretation concepts roles test).links
  linked-widened x y m l k u h =
      let (j, r, v, f, w, e) = linked-out x (left_of roles m) y h in
      linked-in x j r (right_of roles m) y l v f (wider-trans roles r (left_of roles m) (right_of roles m) w (wider-pair roles m k)) u e
