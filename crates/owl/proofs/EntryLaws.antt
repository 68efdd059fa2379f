-- Entries put behind others: the concepts of the ids before stay.
use Prim.Native.Nat.{ℕ, suc, ◌+◌, ◌*◌, ◌<◌, ◌≤◌}
use mathlib.Core.Path.{◌≡◌, refl, sym, ap, ◌∙◌, subst}
use mathlib.Core.List.{List, [], ◌∷◌, ◌++◌, append-nil, append_assoc}
use mathlib.Core.Bool.{false}
use mathlib.Core.Logic.{⊎_elim}
use native.Mathlib.Omega.{arith}
use lib.ListN.{length, get_or, length-append, get_or-append, get_or-eq_default}
use lib.Seq.{get_or-append-add}
use Rattle.subsumption.specs.Tables.{top_at, node, decode, Concept, and, shape, tree}
use Rattle.subsumption.specs.Inner.Tables.{Rising}
use Rattle.subsumption.specs.Check.{malformed_row, malformed}
use Rattle.subsumption.proofs.Bools.{last-cases, le-or-lt}
use Rattle.subsumption.proofs.Depth.{by-smaller}
use Rattle.subsumption.proofs.Trees.{shape-smaller, tree-eq}
use Rattle.owl.specs.Judgement.{pair_rows}

-- n entries that pass the checks 1 to 3 without variables
pub record Tabled (rows : List ℕ) (n : ℕ) : Type 0 where
  pub size : length rows ≡ n * 3
  pub right : (i : ℕ) → i < n → malformed rows 0 i ≡ false
  pub rising : (i : ℕ) → Rising i (node rows i)

-- entries behind n others
pub record Grown (rows : List ℕ) (n : ℕ) (rows' : List ℕ) (n' : ℕ) : Type 0 where
  pub tabled : Tabled rows' n'
  pub longer : n ≤ n'
  pub kept : (i : ℕ) → i < n → tree rows' i ≡ tree rows i

pub grown-none : (rows : List ℕ) (n : ℕ) → Tabled rows n → Grown rows n rows n
grown-none rows n t = record { tabled = t; longer = omega arith; kept = λ i l. refl }

pub grown-on : {rows : List ℕ} {n : ℕ} {rows' : List ℕ} {n' : ℕ} {rows'' : List ℕ} {n'' : ℕ} → Grown rows n rows' n' → Grown rows' n' rows'' n'' → Grown rows n rows'' n''
grown-on g h = record { tabled = h.tabled; longer = omega arith; kept = λ i l. h.kept i (omega arith) ∙ g.kept i l }

pub none-tabled : Tabled [] 0
unfolding node decode
none-tabled = record { size = refl; right = λ i l. absurd (omega arith); rising = λ i. tt }

-- ---- one entry more
module _ (rows : List ℕ) (n : ℕ) (t : Tabled rows n) (kind a b : ℕ) (fine : malformed_row 0 kind a b ≡ false) (up : Rising n (decode kind a b)) where
  after : List ℕ
  after = rows ++ (kind ∷ a ∷ b ∷ [])

  at_before : (p : ℕ) → p < n * 3 → get_or after p 0 ≡ get_or rows p 0
  unfolding after
  at_before p l = get_or-append rows (kind ∷ a ∷ b ∷ []) 0 p (omega (arith, t.size))

  at_new : (p k : ℕ) → p ≡ n * 3 + k → get_or after p 0 ≡ get_or (kind ∷ a ∷ b ∷ []) k 0
  unfolding after
  at_new p k e =
      let q : p ≡ length rows + k = omega (arith, t.size) in
      rw q (get_or-append-add rows (kind ∷ a ∷ b ∷ []) k 0)

  length-after : length after ≡ suc n * 3
  unfolding after
  length-after = omega (arith, t.size, length-append rows (kind ∷ a ∷ b ∷ []))

  node-before : (i : ℕ) → i < n → node after i ≡ node rows i
  unfolding node
  node-before i l = rw (at_before (i * 3) (omega arith), at_before (i * 3 + 1) (omega arith), at_before (i * 3 + 2) (omega arith)) refl

  node-new : node after n ≡ decode kind a b
  unfolding node
  node-new = rw (at_new (n * 3) 0 (omega arith), at_new (n * 3 + 1) 1 (omega arith), at_new (n * 3 + 2) 2 (omega arith)) refl

  node-past : (i : ℕ) → n < i → node after i ≡ top_at
  unfolding node decode
  node-past i l = rw (get_or-eq_default after 0 {n = i * 3} (omega (arith, length-after)), decode) refl

  after-rising : (i : ℕ) → Rising i (node after i)
  after-rising i =
      ⊎_elim
      (λ l. ⊎_elim (λ (e : i ≡ n). rw (e, node-new) up) (λ l. rw (node-before i l) (t.rising i)) (last-cases i n (omega arith)))
      (λ l. rw (node-past i l) tt) (le-or-lt i n)

  after-right : (i : ℕ) → i < suc n → malformed after 0 i ≡ false
  unfolding malformed
  after-right i l = ⊎_elim (λ (e : i ≡ n). rw e last) earlier (last-cases i n l)
    where
      last : malformed after 0 n ≡ false
      last = rw (at_new (n * 3) 0 (omega arith), at_new (n * 3 + 1) 1 (omega arith), at_new (n * 3 + 2) 2 (omega arith)) fine

      earlier : i < n → malformed after 0 i ≡ false
      earlier l = rw (at_before (i * 3) (omega arith), at_before (i * 3 + 1) (omega arith), at_before (i * 3 + 2) (omega arith)) (t.right i l)

  after_kept : (i : ℕ) → i < n → tree after i ≡ tree rows i
  after_kept = by-smaller (λ i. i < n → tree after i ≡ tree rows i) step
    where
      step : (i : ℕ) → ((j : ℕ) → j < i → j < n → tree after j ≡ tree rows j) → i < n → tree after i ≡ tree rows i
      step i h l =
          tree-eq after after-rising i ∙ ap (shape (tree after)) (node-before i l)
          ∙ shape-smaller (tree after) (tree rows) i (node rows i) (t.rising i) (λ j k. h j k (omega arith))
          ∙ sym (tree-eq rows t.rising i)

  one-grown : Grown rows n after (suc n)
  one-grown = record { tabled = record { size = length-after; right = after-right; rising = after-rising }; longer = omega arith; kept = after_kept }

  one-tree : tree after n ≡ shape (tree rows) (decode kind a b)
  one-tree = tree-eq after after-rising n ∙ ap (shape (tree after)) node-new ∙ shape-smaller (tree after) (tree rows) n (decode kind a b) up after_kept

  -- its concept is its row's
  pub one_more : Grown rows n (rows ++ (kind ∷ a ∷ b ∷ [])) (suc n) × (tree (rows ++ (kind ∷ a ∷ b ∷ [])) n ≡ shape (tree rows) (decode kind a b))
  unfolding after
  one_more = (one-grown, one-tree)

-- ---- ids that are entries
abbrev pub Under : ℕ → List ℕ → Type 0
Under n [] = Unit {0}
Under n (i ∷ ids) = (i < n) × Under n ids

pub under_more : (n n' : ℕ) (ids : List ℕ) → n ≤ n' → Under n ids → Under n' ids
under_more n n' [] h u = tt
under_more n n' (i ∷ ids) h u = (omega (arith, u.0), under_more n n' ids h u.1)

pub under-append : (n : ℕ) (ids more : List ℕ) → Under n ids → Under n more → Under n (ids ++ more)
under-append n [] more u v = v
under-append n (i ∷ ids) more u v = (u.0, under-append n ids more u.1 v)

-- ---- pairing from the left
unfoldable pub meet_of : (ℕ → Concept) → Concept → List ℕ → Concept
meet_of f c [] = c
meet_of f c (i ∷ ids) = meet_of f (and c (f i)) ids

pub meet_one : (f : ℕ → Concept) (c : Concept) (ids : List ℕ) (i : ℕ) → meet_of f c (ids ++ (i ∷ [])) ≡ and (meet_of f c ids) (f i)
unfolding meet_of
meet_one f c [] i = refl
meet_one f c (j ∷ ids) i = meet_one f (and c (f j)) ids i

pub meet-same : (f g : ℕ → Concept) (n : ℕ) → ((i : ℕ) → i < n → f i ≡ g i) → (c : Concept) (ids : List ℕ) → Under n ids → meet_of f c ids ≡ meet_of g c ids
unfolding meet_of
meet-same f g n h c [] u = refl
meet-same f g n h c (i ∷ ids) u = ap (λ (z : Concept). meet_of f (and c z) ids) (h i u.0) ∙ meet-same f g n h (and c (g i)) ids u.1

-- the id of the last "and"
unfoldable pub last_of : ℕ → ℕ → List ℕ → ℕ
last_of next left [] = left
last_of next left (i ∷ ids) = last_of (suc next) next ids

pub last-is : (next left : ℕ) (ids : List ℕ) → 0 < length ids → suc (last_of next left ids) ≡ next + length ids
unfolding last_of
last-is next left [] h = absurd (omega arith)
last-is next left (i ∷ []) h = omega arith
last-is next left (i ∷ j ∷ ids) h = omega (arith, last-is (suc next) next (j ∷ ids) (omega arith))

pub pairs-length : (next left : ℕ) (ids : List ℕ) → length (pair_rows next left ids) ≡ length ids * 3
unfolding pair_rows
pairs-length next left [] = refl
pairs-length next left (i ∷ ids) = omega (arith, pairs-length (suc next) next ids)

pub record Paired (rows : List ℕ) (n left : ℕ) (ids : List ℕ) (rows' : List ℕ) : Type 0 where
  pub grown : Grown rows n rows' (n + length ids)
  pub known : last_of n left ids < n + length ids
  pub means : tree rows' (last_of n left ids) ≡ meet_of (tree rows) (tree rows left) ids

paired_none : (rows : List ℕ) (n left : ℕ) → Tabled rows n → left < n → Paired rows n left [] rows
unfolding last_of meet_of
paired_none rows n left t l =
    let e : n ≡ n + 0 = omega arith in
    record { grown = subst (λ (m : ℕ). Grown rows n rows m) e (grown-none rows n t); known = omega arith; means = refl }

paired-more :
    (rows : List ℕ) (n left i : ℕ) (ids middle rows' : List ℕ) → Grown rows n middle (suc n) → tree middle n ≡ and (tree rows left) (tree rows i)
    → Under n ids → Paired middle (suc n) n ids rows' → Paired rows n left (i ∷ ids) rows'
unfolding last_of meet_of
paired-more rows n left i ids middle rows' g e u p =
    let q : suc n + length ids ≡ n + suc (length ids) = omega arith in
    record {
      grown = subst (λ (m : ℕ). Grown rows n rows' m) q (grown-on g p.grown);
      known = omega (arith, p.known);
      means =
          p.means ∙ meet-same (tree middle) (tree rows) n g.kept (tree middle n) ids u
          ∙ ap (λ (c : Concept). meet_of (tree rows) c ids) e;
    }

-- the "and" entries that pair ids from the left
pub paired : (ids rows : List ℕ) (n left : ℕ) → Tabled rows n → left < n → Under n ids → Paired rows n left ids (rows ++ pair_rows n left ids)
unfolding pair_rows malformed_row decode shape
paired [] rows n left t l u = subst (Paired rows n left []) (sym (append-nil rows)) (paired_none rows n left t l)
paired (i ∷ ids) rows n left t l u =
    let one = one_more rows n t 3 left i refl (l, u.0) in
    subst (Paired rows n left (i ∷ ids)) (append_assoc rows (3 ∷ left ∷ i ∷ []) (pair_rows (suc n) n ids))
    (paired-more rows n left i ids (rows ++ (3 ∷ left ∷ i ∷ [])) _ one.0 one.1 u.1
    (paired ids (rows ++ (3 ∷ left ∷ i ∷ [])) (suc n) n one.0.tabled (omega arith) (under_more n (suc n) ids (omega arith) u.1)))
