-- Groups of questions: being in one is an equivalence, and the walks reach exactly the variables that its questions hold.
use Rattle.subsumption.specs.Refusal.{Done}
use Prim.Native.Nat.{ℕ, zero, suc, ◌+◌, ◌*◌, ◌%◌, ◌^◌, ◌<◌, ◌≤◌}
use mathlib.Core.Path.{◌≡◌, refl, sym, ap, ap₂, ◌∙◌, subst}
use mathlib.Core.List.{List, [], ◌∷◌, ◌++◌}
use mathlib.Core.Bool.{Bool, true, false, not, ◌&&◌, cond, false≢true}
use mathlib.Core.Logic.{◌⊎◌, inl, inr, ⊎_elim, ◌↔◌}
use native.Mathlib.Omega.{arith}
use native.Mathlib.Nat.{pow-suc}
use native.Mathlib.Numerals.{add-one}
use lib.Bits.{bit_and, bit_or}
use lib.Count.{count_trailing_zeros}
use lib.Dec.{eqb, ltb}
use lib.ListN.{length, get_or}
use borrow.Author.Tests.{eqb-true, eqb-false, eq-eqb, ne_eqb, ltb-true, ltb-false, not-true}
use Rattle.subsumption.specs.Tables.{Tables, or, both, Node, top_at, name_at, exists_at, and_at, var_at, node, count_of, pairs_of, left_of, right_of, tree, variables_of}
use Rattle.subsumption.specs.Variables.{stands_in}
use Rattle.subsumption.specs.Atoms.{bit}
use Rattle.subsumption.specs.Table.{counted}
use Rattle.subsumption.specs.Check.{table_fault}
use Rattle.subsumption.specs.declared.tables.Pair.{Pair}
use Rattle.subsumption.specs.Inner.Tables.{pair_of}
use Rattle.subsumption.specs.Inner.Atoms.{Known, VariableSets}
use Rattle.subsumption.proofs.Bools.{or_cases, or-first, or-second, both_true, both-intro, or-skip, last-cases, eq-or-ne, same_bool}
use Rattle.subsumption.proofs.Bits.{bit-or, bit-and, bit-of-zero, bit-or-cases, bit_or_left, bit_or_right, bit-pow, bit-pow-other}
use Rattle.subsumption.proofs.WordLaws.{lowest, no_bits}
use Rattle.subsumption.proofs.MarkLaws.{counted-less, counted-most, shifted}
use Rattle.subsumption.proofs.VariableLaws.{set-exactly}
use Rattle.subsumption.proofs.Depth.{by-smaller}
use Rattle.subsumption.proofs.Trees.{tree-top, tree-name, tree-exists, tree-and, tree-var, inner-exists, inner-and}
use Rattle.subsumption.proofs.WellFormed.{WellFormed}
use Rattle.subsumption.proofs.Accepted.{well_formed}
use Rattle.groups.specs.Group.{holds, Share, Chain, Joined, Ground, InGroup, Outside}
use Rattle.groups.specs.Inner.Group.{set_at, meets, brought, swept, sweeps, reached_by, belongs, GroupSet}

-- ---- being in one group
module _ (t : Tables) where
  shared : (m n : ℕ) → Share t m n → Joined t m n
  shared m n s = record { others = []; chain = s }

  turned : (m n : ℕ) → Share t m n → Share t n m
  turned m n s = record { variable = s.variable; first = s.second; second = s.first }

  pub joined-transitive : (m n o : ℕ) → n < pairs_of t.questions → Joined t m n → Joined t n o → Joined t m o
  joined-transitive m n o l x y = record { others = x.others ++ (n ∷ y.others); chain = go m x.others x.chain }
    where
      go : (m : ℕ) (xs : List ℕ) → Chain t m xs n → Chain t m (xs ++ (n ∷ y.others)) o
      go m [] s = (l, s, y.chain)
      go m (p ∷ xs) c = (c.0, c.1, go p xs c.2)

  pub joined-symmetric : (m n : ℕ) → Joined t m n → Joined t n m
  joined-symmetric m n x = go m x.others x.chain
    where
      go : (m : ℕ) (xs : List ℕ) → Chain t m xs n → Joined t n m
      go m [] s = shared n m (turned m n s)
      go m (p ∷ xs) c = joined-transitive n p m c.0 (go p xs c.2) (shared p m (turned m p c.1))

  -- one that is joined with any holds a variable
  not-ground : (m n : ℕ) → Joined t m n → Ground t m → ⊥
  not-ground m n x g = go x.others x.chain
    where
      go : (xs : List ℕ) → Chain t m xs n → ⊥
      go [] s = false≢true (sym (g s.variable) ∙ s.first)
      go (p ∷ xs) c = false≢true (sym (g c.1.variable) ∙ c.1.first)

  pub in-group-symmetric : (m n : ℕ) → InGroup t m n → InGroup t n m
  in-group-symmetric m n (inl x) = inl (joined-symmetric m n x)
  in-group-symmetric m n (inr g) = inr (g.1, g.0)

  pub in-group-transitive : (m n o : ℕ) → n < pairs_of t.questions → InGroup t m n → InGroup t n o → InGroup t m o
  in-group-transitive m n o l (inl x) (inl y) = inl (joined-transitive m n o l x y)
  in-group-transitive m n o l (inl x) (inr g) = absurd (not-ground n m (joined-symmetric m n x) g.0)
  in-group-transitive m n o l (inr g) (inl y) = absurd (not-ground n o y g.1)
  in-group-transitive m n o l (inr g) (inr f) = inr (g.0, f.1)

-- A question of the group holds the variable.
pub record HeldIn (t : Tables) (m k : ℕ) : Type 0 where
  pub question : ℕ
  pub known : question < pairs_of t.questions
  pub grouped : InGroup t m question
  pub held : holds t question k ≡ true

-- ---- variables in common
small : (n : ℕ) → n < 2 ^ n
small zero = omega arith
small (suc n) = omega (arith, pow-suc 2 n, small n)

some-bit : (x : ℕ) → (x ≡ 0 → ⊥) → (k : ℕ) × (bit x k ≡ true)
some-bit x h = (count_trailing_zeros x x, (lowest x x (omega arith) (small x)).here)

common : (a b : ℕ) → meets a b ≡ true → (k : ℕ) × (bit a k ≡ true) × (bit b k ≡ true)
unfolding meets
common a b h =
    let (k, e) = some-bit (bit_and a b) (eqb-false _ _ (not-true _ h)) in
    let (p, q) = both_true (bit a k) (bit b k) (sym (bit-and a b k) ∙ e) in
    (k, p, q)

common-meets : (a b k : ℕ) → bit a k ≡ true → bit b k ≡ true → meets a b ≡ true
unfolding meets
common-meets a b k p q =
    ap not (ne_eqb _ _ (λ e. bit-of-zero k (ap (λ (z : ℕ). bit z k) (sym e) ∙ bit-and a b k ∙ both-intro _ _ p q)))

brought-old : (r s k : ℕ) → bit r k ≡ true → bit (brought r s) k ≡ true
unfolding brought
brought-old r s k e = go (meets r s)
  where
    go : (b : Bool) → bit (cond b (bit_or r s) r) k ≡ true
    go true = bit_or_left r s k e
    go false = e

brought-new : (r s k : ℕ) → meets r s ≡ true → bit s k ≡ true → bit (brought r s) k ≡ true
unfolding brought
brought-new r s k m e = rw m (bit_or_right r s k e)

brought-cases : (r s k : ℕ) → bit (brought r s) k ≡ true → (bit r k ≡ true) ⊎ ((meets r s ≡ true) × (bit s k ≡ true))
unfolding brought
brought-cases r s k = go (meets r s) refl
  where
    go : (b : Bool) → meets r s ≡ b → bit (cond b (bit_or r s) r) k ≡ true → (bit r k ≡ true) ⊎ ((meets r s ≡ true) × (bit s k ≡ true))
    go true m e = ⊎_elim (λ p. inl p) (λ p. inr (m, p)) (bit-or-cases r s k e)
    go false m e = inl e

-- ---- walks
module _ (set : ℕ → ℕ) (count : ℕ) where
  -- what holds of one variable of a question holds of all of them
  abbrev Passes : (ℕ → Type 0) → Type 0
  Passes P = (n v k : ℕ) → n < count → P v → bit (set n) v ≡ true → bit (set n) k ≡ true → P k

  abbrev Closed : ℕ → Type 0
  Closed r = Passes (λ k. bit r k ≡ true)

  swept-old : (n r k : ℕ) → bit r k ≡ true → bit (swept set n r) k ≡ true
  unfolding swept
  swept-old zero r k e = e
  swept-old (suc n) r k e = brought-old _ _ k (swept-old n r k e)

  swept-new : (n r m v k : ℕ) → m < n → bit r v ≡ true → bit (set m) v ≡ true → bit (set m) k ≡ true → bit (swept set n r) k ≡ true
  unfolding swept
  swept-new zero r m v k l e p q = absurd (omega arith)
  swept-new (suc n) r m v k l e p q =
      ⊎_elim
      (λ (o : m ≡ n).
      brought-new _ _ k (common-meets _ _ v (swept-old n r v e) (subst (λ (z : ℕ). bit (set z) v ≡ true) o p)) (subst (λ (z : ℕ). bit (set z) k ≡ true) o q))
      (λ o. brought-old _ _ k (swept-new n r m v k o e p q)) (last-cases m n l)

  module _ (P : ℕ → Type 0) (passes : Passes P) where
    swept-only : (n r : ℕ) → n ≤ count → ((k : ℕ) → bit r k ≡ true → P k) → (k : ℕ) → bit (swept set n r) k ≡ true → P k
    unfolding swept
    swept-only zero r l h k e = h k e
    swept-only (suc n) r l h k e =
        ⊎_elim (λ p. swept-only n r (omega arith) h k p)
        (λ p. let (v, q, s) = common _ _ p.0 in passes n v k (omega arith) (swept-only n r (omega arith) h v q) s p.1)
        (brought-cases _ _ k e)

    sweeps-only : (w r : ℕ) → ((k : ℕ) → bit r k ≡ true → P k) → (k : ℕ) → bit (sweeps set count w r) k ≡ true → P k
    unfolding sweeps
    sweeps-only zero r h k e = h k e
    sweeps-only (suc w) r h k e = swept-only count _ (omega arith) (sweeps-only w r h) k e

  sweeps-old : (w r k : ℕ) → bit r k ≡ true → bit (sweeps set count w r) k ≡ true
  unfolding sweeps
  sweeps-old zero r k e = e
  sweeps-old (suc w) r k e = swept-old count _ k (sweeps-old w r k e)

  stays_closed : (r : ℕ) → Closed r → Closed (swept set count r)
  stays_closed r c n v k l e p q =
      swept-old count r k (c n v k l (swept-only (λ z. bit r z ≡ true) c count r (omega arith) (λ z x. x) v e) p q)

  module _ (low : (n k : ℕ) → n < count → bit (set n) k ≡ true → k < 8) where
    -- where a walk brings no variable more, the set was closed
    closed-or-more : (r : ℕ) → Closed r ⊎ (counted (bit r) 8 < counted (bit (swept set count r)) 8)
    closed-or-more r = go (ltb (counted (bit r) 8) (counted (bit (swept set count r)) 8)) refl
      where
        still : counted (bit (swept set count r)) 8 ≤ counted (bit r) 8 → (k : ℕ) → k < 8 → bit (swept set count r) k ≡ true → (b : Bool) → bit r k ≡ b → b ≡ true
        still h k l e true o = refl
        still h k l e false o =
            absurd (omega (arith, counted-less (bit r) (bit (swept set count r)) 8 k l o e (λ z y x. swept-old count r z x)))

        go : (b : Bool) → ltb (counted (bit r) 8) (counted (bit (swept set count r)) 8) ≡ b
            → Closed r ⊎ (counted (bit r) 8 < counted (bit (swept set count r)) 8)
        go true e = inr (ltb-true _ _ e)
        go false e = inl (λ n v k l x p q. still (ltb-false _ _ e) k (low n k l q) (swept-new count r n v k l x p q) (bit r k) refl)

    closed-or-many : (w r : ℕ) → Closed (sweeps set count w r) ⊎ (w ≤ counted (bit (sweeps set count w r)) 8)
    unfolding sweeps
    closed-or-many zero r = inr (omega arith)
    closed-or-many (suc w) r =
        ⊎_elim (λ c. inl (stays_closed _ c))
        (λ m. ⊎_elim (λ c. inl (stays_closed _ c)) (λ l. inr (omega arith)) (closed-or-more (sweeps set count w r))) (closed-or-many w r)

    -- eight variables are all
    closed-in-eight : (r : ℕ) → Closed (sweeps set count 8 r)
    closed-in-eight r = ⊎_elim (λ c. c) (λ m n v k l x p q. all m k (low n k l q) (bit (sweeps set count 8 r) k) refl) (closed-or-many 8 r)
      where
        all : 8 ≤ counted (bit (sweeps set count 8 r)) 8 → (k : ℕ) → k < 8 → (b : Bool) → bit (sweeps set count 8 r) k ≡ b → b ≡ true
        all m k l true e = refl
        all m k l false e =
            absurd (omega (arith, counted-less (bit (sweeps set count 8 r)) (λ z. true) 8 k l e refl (λ z y x. refl), counted-most (λ z. true) 8))

-- ---- the sets of the questions
module _ (t : Tables) (h : table_fault t ≡ Done) where
  wf : WellFormed t
  wf = well_formed t h

  -- variables are numbered below 8
  standing-low : (i k : ℕ) → stands_in k (tree t.concepts i) ≡ true → k < 8
  unfolding stands_in
  standing-low i k =
      by-smaller (λ j. stands_in k (tree t.concepts j) ≡ true → k < 8) (λ j smaller e. go j smaller (node t.concepts j) refl e) i
    where
      go : (j : ℕ) → ((p : ℕ) → p < j → stands_in k (tree t.concepts p) ≡ true → k < 8)
          → (m : Node) → node t.concepts j ≡ m → stands_in k (tree t.concepts j) ≡ true → k < 8
      go j smaller top_at f e = absurd (false≢true (ap (stands_in k) (sym (tree-top t.concepts wf.rising j f)) ∙ e))
      go j smaller (name_at n) f e = absurd (false≢true (ap (stands_in k) (sym (tree-name t.concepts wf.rising j n f)) ∙ e))
      go j smaller (exists_at r p) f e =
          smaller p (inner-exists t.concepts wf.rising j r p f) (ap (stands_in k) (sym (tree-exists t.concepts wf.rising j r p f)) ∙ e)
      go j smaller (and_at p q) f e =
          let (lp, lq) = inner-and t.concepts wf.rising j p q f in
          ⊎_elim (smaller p lp) (smaller q lq) (or_cases _ _ (ap (stands_in k) (sym (tree-and t.concepts wf.rising j p q f)) ∙ e))
      go j smaller (var_at v) f e =
          let x : k ≡ v = eqb-true k v (ap (stands_in k) (sym (tree-var t.concepts wf.rising j v f)) ∙ e) in
          omega (arith, wf.numbered j v f, wf.few-variables)

  held_low : (n k : ℕ) → holds t n k ≡ true → k < 8
  unfolding holds
  held_low n k e = ⊎_elim (standing-low _ k) (standing-low _ k) (or_cases _ _ e)

  module _ (sets : ℕ → ℕ) (right : (i : ℕ) → i < count_of t.concepts → sets i ≡ variables_of (tree t.concepts i)) where
    abbrev set : ℕ → ℕ
    set = set_at sets t.questions

    set-bits : (n k : ℕ) → n < pairs_of t.questions → bit (set n) k ≡ holds t n k
    unfolding set_at holds
    set-bits n k l =
        bit-or _ _ k ∙ ap₂ or (side (left_of t.questions n) (wf.question-left n l)) (side (right_of t.questions n) (wf.question-right n l))
      where
        side : (i : ℕ) → i < count_of t.concepts → bit (sets i) k ≡ stands_in k (tree t.concepts i)
        side i b = ap (λ (z : ℕ). bit z k) (right i b) ∙ set-exactly (tree t.concepts i) k

    set-low : (n k : ℕ) → n < pairs_of t.questions → bit (set n) k ≡ true → k < 8
    set-low n k l e = held_low n k (sym (set-bits n k l) ∙ e)

    -- a question without variables has the empty set
    ground-empty : (n : ℕ) → n < pairs_of t.questions → Ground t n → set n ≡ 0
    ground-empty n l g =
        ⊎_elim (λ e. e) (λ f. let (k, e) = some-bit (set n) f in absurd (false≢true (sym (g k) ∙ sym (set-bits n k l) ∙ e))) (eq-or-ne (set n) 0)

    empty-ground : (n : ℕ) → n < pairs_of t.questions → set n ≡ 0 → Ground t n
    empty-ground n l e k = sym (set-bits n k l) ∙ ap (λ (z : ℕ). bit z k) e ∙ no_bits k

    group-self : (m : ℕ) → m < pairs_of t.questions → InGroup t m m
    group-self m l =
        ⊎_elim (λ e. inr (empty-ground m l e, empty-ground m l e))
        (λ f. let (k, e) = some-bit (set m) f in let s = sym (set-bits m k l) ∙ e in inl (shared t m m (record { variable = k; first = s; second = s })))
        (eq-or-ne (set m) 0)

    -- ---- what a question reaches
    module _ (m : ℕ) (lm : m < pairs_of t.questions) where
      abbrev reached : ℕ
      reached = reached_by sets t.questions m

      -- a question that shares a variable with one of the group is in it
      held-joins : (n v : ℕ) → n < pairs_of t.questions → HeldIn t m v → bit (set n) v ≡ true → InGroup t m n
      held-joins n v l x e =
          in-group-transitive t m x.question n x.known x.grouped
          (inl (shared t x.question n (record { variable = v; first = x.held; second = sym (set-bits n v l) ∙ e })))

      reached-sound : (k : ℕ) → bit reached k ≡ true → HeldIn t m k
      reached-sound =
          sweeps-only set (pairs_of t.questions) (HeldIn t m)
          (λ n v k l x p q. record { question = n; known = l; grouped = held-joins n v l x p; held = sym (set-bits n k l) ∙ q }) 8 (set m)
          (λ k e. record { question = m; known = lm; grouped = group-self m lm; held = sym (set-bits m k lm) ∙ e })

      reached-closed : Closed set (pairs_of t.questions) reached
      reached-closed = closed-in-eight set (pairs_of t.questions) set-low (set m)

      -- along a chain each question holds a reached variable
      reached-along : (n : ℕ) → Joined t m n → (v : ℕ) × (bit reached v ≡ true) × (holds t n v ≡ true)
      reached-along n x = go m lm (sweeps-old set (pairs_of t.questions) 8 (set m)) x.others x.chain
        where
          go :
              (p : ℕ) → p < pairs_of t.questions → ((k : ℕ) → bit (set p) k ≡ true → bit reached k ≡ true)
              → (xs : List ℕ) → Chain t p xs n → (v : ℕ) × (bit reached v ≡ true) × (holds t n v ≡ true)
          go p l all [] s = (s.variable, all _ (set-bits p _ l ∙ s.first), s.second)
          go p l all (q ∷ xs) c =
              go q c.0
              (λ k e. reached-closed q c.1.variable k c.0 (all _ (set-bits p _ l ∙ c.1.first)) (set-bits q _ c.0 ∙ c.1.second) e)
              xs c.2

      reached-complete : (n k : ℕ) → n < pairs_of t.questions → InGroup t m n → holds t n k ≡ true → bit reached k ≡ true
      reached-complete n k l (inl x) e =
          let (v, p, q) = reached-along n x in
          reached-closed n v k l p (set-bits n v l ∙ q) (set-bits n k l ∙ e)
      reached-complete n k l (inr g) e = absurd (false≢true (sym (g.1 k) ∙ e))

      -- nothing is reached from a question without variables
      ground-reaches : Ground t m → reached ≡ 0
      ground-reaches g =
          ⊎_elim (λ e. e)
          (λ f. let (k, e) = some-bit reached f in let x = reached-sound k e in absurd (lone x.question k x.grouped x.held))
          (eq-or-ne reached 0)
        where
          lone : (n k : ℕ) → InGroup t m n → holds t n k ≡ true → ⊥
          lone n k (inl x) e = not-ground t m n x g
          lone n k (inr f) e = false≢true (sym (f.1 k) ∙ e)

      pub reached-exactly : (n : ℕ) → n < pairs_of t.questions → (belongs reached (set n) ≡ true) ↔ InGroup t m n
      unfolding belongs
      reached-exactly n l = (inside, belonging)
        where
          inside : or (meets reached (set n)) (both (eqb reached 0) (eqb (set n) 0)) ≡ true → InGroup t m n
          inside e =
              ⊎_elim (λ o. let (k, p, q) = common _ _ o in held-joins n k l (reached-sound k p) q)
              (λ o. let (p, q) = both_true _ _ o in inr (none (eqb-true _ _ p), empty-ground n l (eqb-true _ _ q))) (or_cases _ _ e)
            where
              none : reached ≡ 0 → Ground t m
              none z =
                  empty-ground m lm
                  (⊎_elim (λ e. e)
                  (λ f. let (k, e) = some-bit (set m) f in absurd (bit-of-zero k (ap (λ (y : ℕ). bit y k) (sym z) ∙ sweeps-old set (pairs_of t.questions) 8 (set m) k e)))
                  (eq-or-ne (set m) 0))

          belonging : InGroup t m n → or (meets reached (set n)) (both (eqb reached 0) (eqb (set n) 0)) ≡ true
          belonging (inl x) = let (v, p, q) = reached-along n x in or-first _ _ (common-meets _ _ v p (set-bits n v l ∙ q))
          belonging (inr g) = or-second _ _ (both-intro _ _ (eq-eqb _ _ (ground-reaches g.0)) (eq-eqb _ _ (ground-empty n l g.1)))

  -- ---- decided by the variables of the concepts
  abbrev own : ℕ → ℕ
  own i = variables_of (tree t.concepts i)

  pub in-group-self : (m : ℕ) → m < pairs_of t.questions → InGroup t m m
  in-group-self = group-self own (λ i l. refl)

  pub held-or-outside : (m k : ℕ) → m < pairs_of t.questions → HeldIn t m k ⊎ Outside t m k
  held-or-outside m k l = go (bit (reached_by own t.questions m) k) refl
    where
      go : (b : Bool) → bit (reached_by own t.questions m) k ≡ b → HeldIn t m k ⊎ Outside t m k
      go true e = inl (reached-sound own (λ i l. refl) m l k e)
      go false e = inr (λ n ln g. without n ln g (holds t n k) refl)
        where
          without : (n : ℕ) → n < pairs_of t.questions → InGroup t m n → (b : Bool) → holds t n k ≡ b → b ≡ false
          without n ln g true x = sym (sym e ∙ reached-complete own (λ i l. refl) m l n k ln g x)
          without n ln g false x = refl

-- ---- the functions' steps
module _ (questions : List ℕ) (m : ℕ) (pair : Pair) (e : pair ≡ pair_of questions m) where
  pub left-read : (size : ℕ) → Known size questions → m < pairs_of questions → pair.left < size
  left-read size known l = let q : pair.left ≡ left_of questions m = cc e in omega (arith, known.left-known m l)

  pub right-read : (size : ℕ) → Known size questions → m < pairs_of questions → pair.right < size
  right-read size known l = let q : pair.right ≡ right_of questions m = cc e in omega (arith, known.right-known m l)

  pub set-read : (sets : List ℕ) → bit_or (get_or sets pair.left 0) (get_or sets pair.right 0) ≡ set_at (λ i. get_or sets i 0) questions m
  unfolding set_at
  set-read sets =
      let p : pair.left ≡ left_of questions m = cc e in
      let q : pair.right ≡ right_of questions m = cc e in
      ap₂ (λ (i j : ℕ). bit_or (get_or sets i 0) (get_or sets j 0)) p q

pub meeting-belongs : (r s : ℕ) → (bit_and r s ≡ 0 → ⊥) → true ≡ belongs r s
unfolding belongs meets
meeting-belongs r s h = sym (or-first _ _ (ap not (ne_eqb _ _ h)))

pub apart-belongs : (r s : ℕ) → bit_and r s ≡ 0 → (eqb r 0 && eqb s 0) ≡ belongs r s
unfolding belongs meets both
apart-belongs r s h = go (eqb r 0) ∙ sym (or-skip _ _ (ap not (eq-eqb _ _ h)))
  where
    go : (b : Bool) → (b && eqb s 0) ≡ both b (eqb s 0)
    go true = refl
    go false = refl

module _ (set : ℕ → ℕ) (n from r s : ℕ) (e : r ≡ swept set n from) (f : s ≡ set n) where
  swept-next : swept set (n + 1) from ≡ brought r s
  unfolding swept
  swept-next = rw (add-one, e, f) refl

  pub swept-meeting : (bit_and r s ≡ 0 → ⊥) → bit_or r s ≡ swept set (n + 1) from
  unfolding brought meets
  swept-meeting h = sym (swept-next ∙ ap (λ (b : Bool). cond (not b) (bit_or r s) r) (ne_eqb (bit_and r s) 0 h))

  pub swept-apart : bit_and r s ≡ 0 → r ≡ swept set (n + 1) from
  unfolding brought meets
  swept-apart h = sym (swept-next ∙ ap (λ (b : Bool). cond (not b) (bit_or r s) r) (eq-eqb (bit_and r s) 0 h))

pub sweeps-next : (set : ℕ → ℕ) (count w from r more : ℕ) → r ≡ sweeps set count w from → more ≡ swept set count r → more ≡ sweeps set count (w + 1) from
unfolding sweeps
sweeps-next set count w from r more e f = rw (add-one) (f ∙ ap (swept set count) e)

-- the questions below n that belong are gathered
pub record Gathered (set : ℕ → ℕ) (reached n group : ℕ) : Type 0 where
  pub seen : (p : ℕ) → p < n → bit group p ≡ belongs reached (set p)
  pub unseen : (p : ℕ) → n ≤ p → bit group p ≡ false

module _ (set : ℕ → ℕ) (reached : ℕ) where
  pub gathered_none : Gathered set reached 0 0
  gathered_none = record { seen = λ p l. absurd (omega arith); unseen = λ p l. no_bits p }

  module _ (n group : ℕ) (g : Gathered set reached n group) where
    pub gathered-past : false ≡ belongs reached (set n) → Gathered set reached (n + 1) group
    gathered-past e =
        record {
          seen =
              λ p l. ⊎_elim (λ (q : p ≡ n). subst (λ (z : ℕ). bit group z ≡ belongs reached (set z)) (sym q) (g.unseen n (omega arith) ∙ e)) (g.seen p) (last-cases p n (omega arith));
          unseen = λ p l. g.unseen p (omega arith);
        }

    pub gathered-more : n < 64 → true ≡ belongs reached (set n) → Gathered set reached (n + 1) (bit_or group (1 * 2 ^ n % 18446744073709551616))
    gathered-more h e =
        subst (λ (z : ℕ). Gathered set reached (n + 1) (bit_or group z)) (sym (shifted n h))
        (record {
          seen =
              λ p l.
              ⊎_elim
              (λ (q : p ≡ n). subst (λ (z : ℕ). bit (bit_or group (2 ^ n)) z ≡ belongs reached (set z)) (sym q) (bit_or_right group (2 ^ n) n (bit-pow n) ∙ e))
              (λ q. other p (omega arith) ∙ g.seen p q) (last-cases p n (omega arith));
          unseen = λ p l. other p (omega arith) ∙ g.unseen p (omega arith);
        })
      where
        other : (p : ℕ) → (p ≡ n → ⊥) → bit (bit_or group (2 ^ n)) p ≡ bit group p
        other p f =
            same_bool _ _
            (λ x. ⊎_elim (λ y. y) (λ y. absurd (f (bit-pow-other p n y))) (bit-or-cases group (2 ^ n) p x))
            (bit_or_left group (2 ^ n) p)

-- ---- the group, by the sets of all concepts
module _ (t : Tables) (h : table_fault t ≡ Done) (sets : List ℕ) (v : VariableSets t.concepts sets) where
  pub sets-known : Known (length sets) t.questions
  sets-known =
      record {
        left-known = λ m l. omega (arith, (wf t h).question-left m l, (wf t h).few, v.long);
        right-known = λ m l. omega (arith, (wf t h).question-right m l, (wf t h).few, v.long);
      }

  pub group-set :
      (m reached group : ℕ) → m < pairs_of t.questions → reached ≡ reached_by (λ i. get_or sets i 0) t.questions m
      → ((n : ℕ) → n < pairs_of t.questions → bit group n ≡ belongs reached (set_at (λ i. get_or sets i 0) t.questions n)) → GroupSet t m group
  group-set m reached group l e f n ln =
      let (sound, complete) = reached-exactly t h (λ i. get_or sets i 0) v.each m l n ln in
      let same = f n ln ∙ ap (λ (z : ℕ). belongs z (set_at (λ i. get_or sets i 0) t.questions n)) e in
      (λ x. sound (sym same ∙ x), λ x. same ∙ complete x)
