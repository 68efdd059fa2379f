-- The cone of a question: one walk down from the highest id.
use Prim.Native.Nat.{ℕ, zero, suc, ◌+◌, ◌-◌, ◌*◌, ◌<◌, ◌≤◌}
use mathlib.Core.Path.{◌≡◌, refl, sym, ap, ◌∙◌, subst}
use mathlib.Core.List.{List}
use mathlib.Core.Bool.{Bool, true, false, false≢true}
use mathlib.Core.Logic.{◌⊎◌, inl, inr, ⊎_elim}
use native.Mathlib.Omega.{arith}
use lib.Dec.{eqb}
use lib.ListN.{length, get_or}
use borrow.Author.Tests.{eq-eqb, ne_eqb, eqb-true}
use Rattle.subsumption.specs.Tables.{or, both, Node, top_at, name_at, exists_at, and_at, var_at, node, decode}
use Rattle.subsumption.specs.Atoms.{inside}
use Rattle.subsumption.specs.Inner.Tables.{Rising}
use Rattle.subsumption.proofs.Bools.{or-first, or-second, or_cases, both_true, both-none, both_first, both-second, both-intro, eq-or-ne}
use Rattle.subsumption.proofs.Nodes.{node-exists, node-and}
use Rattle.square.specs.Inner.Square.{on_line}
use Rattle.square.specs.Inner.Sets.{Inserted}
use Rattle.matching.specs.Inner.Search.Problem.{cone_at, closers_at, held_at, left_at, right_at, question_count}
use Rattle.matching.specs.Inner.Search.Making.{kind_at, first_at, Readable, Outside, Filled, held_id, held_inside, ConeOf, ConeNoted}
use Rattle.matching.proofs.SearchLaws.Making.Filling.{filled_none, filled-as, filled-then, filled-one}

-- ---- one id
module _ (problem : List ℕ) (at id : ℕ) (a : List ℕ) where
  pub held-comes : (b : List ℕ) → get_or problem (576 + id) 0 ≡ 1 → Inserted a b at id → Filled at (held_id problem id) a b
  held-comes b h I = filled-as at (λ q. eqb q id) (held_id problem id) a b step (filled-one at id a b I)
    where
      step : (q : ℕ) → eqb q id ≡ held_id problem id q
      step q =
          ⊎_elim
          (λ (u : q ≡ id). sym (both_first (eqb q id) _ (eq-eqb (get_or problem (576 + q) 0) 1 (subst (λ (z : ℕ). get_or problem (576 + z) 0 ≡ 1) (sym u) h))))
          (λ n. ne_eqb q id n ∙ sym (both-none _ _ (ne_eqb q id n))) (eq-or-ne q id)

  pub free_stays : (get_or problem (576 + id) 0 ≡ 1 → ⊥) → Filled at (held_id problem id) a a
  free_stays h = filled-as at (λ q. false) (held_id problem id) a a step (filled_none at a)
    where
      step : (q : ℕ) → false ≡ held_id problem id q
      step q =
          ⊎_elim
          (λ (u : q ≡ id). sym (both-second (eqb q id) _ (ne_eqb (get_or problem (576 + q) 0) 1 (λ e. h (subst (λ (z : ℕ). get_or problem (576 + z) 0 ≡ 1) u e)))))
          (λ n. sym (both-none _ _ (ne_eqb q id n))) (eq-or-ne q id)

-- ---- the inner ids of an id
both-or : (x y h : Bool) → or (both y h) (both x h) ≡ both (or x y) h
unfolding or both
both-or true true true = refl
both-or true true false = refl
both-or true false h = refl
both-or false true true = refl
both-or false true false = refl
both-or false false h = refl

none_inside : (f : ℕ → Bool) (k a b : ℕ) → (k ≡ 3 → ⊥) → (k ≡ 2 → ⊥) → inside f (decode k a b) ≡ false
unfolding inside decode
none_inside f zero a b h3 h2 = refl
none_inside f (suc zero) a b h3 h2 = refl
none_inside f (suc (suc zero)) a b h3 h2 = absurd (h2 refl)
none_inside f (suc (suc (suc zero))) a b h3 h2 = absurd (h3 refl)
none_inside f (suc (suc (suc (suc zero)))) a b h3 h2 = refl
none_inside f (suc (suc (suc (suc (suc k))))) a b h3 h2 = refl

below-inside : (i q : ℕ) (n : Node) → Rising i n → inside (eqb q) n ≡ true → q < i
unfolding inside
below-inside i q top_at h e = absurd (false≢true e)
below-inside i q (name_at n) h e = absurd (false≢true e)
below-inside i q (exists_at r j) h e = let u = eqb-true q j e in omega arith
below-inside i q (and_at j k) h e =
    ⊎_elim (λ v. let u = eqb-true q j v in omega (arith, h.0)) (λ v. let u = eqb-true q k v in omega (arith, h.1)) (or_cases (eqb q j) (eqb q k) e)
below-inside i q (var_at k) h e = absurd (false≢true e)

module _ (problem : List ℕ) (i : ℕ) where
  pub inner_below : kind_at problem i ≡ 2 → Rising i (node problem i) → get_or problem (i * 3 + 2) 0 < i
  inner_below e h = subst (Rising i) (node-exists problem i e) h

  both_below : kind_at problem i ≡ 3 → Rising i (node problem i) → (first_at problem i < i) × (get_or problem (i * 3 + 2) 0 < i)
  both_below e h = subst (Rising i) (node-and problem i e) h

  pub first_below : kind_at problem i ≡ 3 → Rising i (node problem i) → first_at problem i < i
  first_below e h = (both_below e h).0

  pub second_below : kind_at problem i ≡ 3 → Rising i (node problem i) → get_or problem (i * 3 + 2) 0 < i
  second_below e h = (both_below e h).1

  module _ (at : ℕ) (a : List ℕ) where
    pub inside-exists :
        (r j : ℕ) (b : List ℕ) → node problem i ≡ exists_at r j → Filled at (held_id problem j) a b → Filled at (held_inside problem i) a b
    unfolding inside
    inside-exists r j b e F =
        filled-as at _ (held_inside problem i) a b (λ q. sym (ap (λ (n : Node). both (inside (eqb q) n) (held_at problem q)) e)) F

    pub inside-and :
        (j k : ℕ) (b c : List ℕ) → node problem i ≡ and_at j k → Filled at (held_id problem j) a b → Filled at (held_id problem k) b c
        → Filled at (held_inside problem i) a c
    unfolding inside
    inside-and j k b c e F G =
        filled-as at _ (held_inside problem i) a c
        (λ q. both-or (eqb q j) (eqb q k) (held_at problem q) ∙ sym (ap (λ (n : Node). both (inside (eqb q) n) (held_at problem q)) e))
        (filled-then at (held_id problem j) (held_id problem k) a b c F G)

    pub inside-rest : ((q : ℕ) → inside (eqb q) (node problem i) ≡ false) → Filled at (held_inside problem i) a a
    inside-rest h = filled-as at (λ q. false) (held_inside problem i) a a (λ q. sym (both-none _ _ (h q))) (filled_none at a)

-- an inner id of an id of the numbers
low-inside : (problem : List ℕ) (count i q : ℕ) → Readable problem count → i < count → held_inside problem i q ≡ true → q < i
low-inside problem count i q R l e = below-inside i q (node problem i) (R.rising i l) (both_true _ _ e).0

-- ---- one cone, from where the sides are in it
module _ (problem : List ℕ) (count m : ℕ) (before : List ℕ) where
  pub record ConeTo (i : ℕ) (sets : List ℕ) : Type 0 where
    pub within : i ≤ count
    pub long : length sets ≡ length before
    pub known : (k : ℕ) → k < 192 → on_line sets (cone_at m) k ≡ true → (k < count) × (held_at problem k ≡ true)
    pub left : held_at problem (left_at problem m) ≡ true → on_line sets (cone_at m) (left_at problem m) ≡ true
    pub right : held_at problem (right_at problem m) ≡ true → on_line sets (cone_at m) (right_at problem m) ≡ true
    pub inner : (k q : ℕ) → i ≤ k → k < 192 → on_line sets (cone_at m) k ≡ true → held_inside problem k q ≡ true → on_line sets (cone_at m) q ≡ true
    pub there : Outside (cone_at m) (cone_at m + 3) before sets

  module _ (R : Readable problem count) (asked : m < question_count problem) where
    module _ (i : ℕ) (mid : List ℕ) (C : ConeTo i mid) (low : 0 < i) where
      module _ (after : List ℕ) (F : Filled (cone_at m) (held_inside problem (i - 1)) mid after) where
        stays : (k : ℕ) → k < 192 → on_line mid (cone_at m) k ≡ true → on_line after (cone_at m) k ≡ true
        stays k l e = F.here k l ∙ or-second _ _ e

        comes : (k : ℕ) → k < 192 → on_line after (cone_at m) k ≡ true → (on_line mid (cone_at m) k ≡ true) ⊎ ((k < i - 1) × (held_at problem k ≡ true))
        comes k l e =
            ⊎_elim (λ u. inr (low-inside problem count (i - 1) k R (omega (arith, C.within)) u, (both_true _ _ u).1)) (λ u. inl u)
            (or_cases _ _ (sym (F.here k l) ∙ e))

        more-known : (k : ℕ) → k < 192 → on_line after (cone_at m) k ≡ true → (k < count) × (held_at problem k ≡ true)
        more-known k l e = ⊎_elim (λ u. C.known k l u) (λ u. (omega (arith, u.0, C.within), u.1)) (comes k l e)

        more-inner :
            (k q : ℕ) → i - 1 ≤ k → k < 192 → on_line after (cone_at m) k ≡ true → held_inside problem k q ≡ true → on_line after (cone_at m) q ≡ true
        more-inner k q l h e u =
            ⊎_elim
            (λ v.
            let w : q < k = low-inside problem count k q R (C.known k h v).0 u in
            ⊎_elim
            (λ (x : k ≡ i - 1). F.here q (omega arith) ∙ or-first _ _ (subst (λ (z : ℕ). held_inside problem z q ≡ true) x u))
            (λ (x : k ≡ i - 1 → ⊥). stays q (omega arith) (C.inner k q (omega arith) h v u)) (eq-or-ne k (i - 1)))
            (λ v. absurd (omega (arith, v.0))) (comes k h e)

        pub cone-more : ConeTo (i - 1) after
        cone-more =
            record {
              within = omega (arith, C.within);
              long = F.long ∙ C.long;
              known = more-known;
              left = λ e. stays (left_at problem m) (omega (arith, R.left-known m asked, R.few)) (C.left e);
              right = λ e. stays (right_at problem m) (omega (arith, R.right-known m asked, R.few)) (C.right e);
              inner = more-inner;
              there = λ x q l o. F.there x q l o ∙ C.there x q l o;
            }

module _ (problem : List ℕ) (count m : ℕ) (before mid start : List ℕ) (F : Filled (cone_at m) (held_id problem (left_at problem m)) before mid)
    (G : Filled (cone_at m) (held_id problem (right_at problem m)) mid start) where
  both-sides : Filled (cone_at m) (λ q. or (held_id problem (right_at problem m) q) (held_id problem (left_at problem m) q)) before start
  both-sides = filled-then (cone_at m) (held_id problem (left_at problem m)) (held_id problem (right_at problem m)) before mid start F G

  module _ (R : Readable problem count) (asked : m < question_count problem) (empty : (q : ℕ) → q < 192 → on_line before (cone_at m) q ≡ false) where
    side-known : (k id : ℕ) → id < count → held_id problem id k ≡ true → (k < count) × (held_at problem k ≡ true)
    side-known k id l e = let u = both_true _ _ e in let v = eqb-true k id u.0 in (omega arith, u.1)

    start-known : (k : ℕ) → k < 192 → on_line start (cone_at m) k ≡ true → (k < count) × (held_at problem k ≡ true)
    start-known k l e =
        ⊎_elim
        (λ u.
        ⊎_elim (λ v. side-known k (right_at problem m) (R.right-known m asked) v) (λ v. side-known k (left_at problem m) (R.left-known m asked) v)
        (or_cases _ _ u))
        (λ u. absurd (false≢true (sym (empty k l) ∙ u))) (or_cases _ _ (sym (both-sides.here k l) ∙ e))

    pub cone-start : ConeTo problem count m start count start
    cone-start =
        record {
          within = omega arith;
          long = refl;
          known = start-known;
          left =
              λ e.
              both-sides.here (left_at problem m) (omega (arith, R.left-known m asked, R.few))
              ∙ or-first _ _ (or-second _ _ (both-intro _ _ (eq-eqb (left_at problem m) (left_at problem m) refl) e));
          right =
              λ e.
              both-sides.here (right_at problem m) (omega (arith, R.right-known m asked, R.few))
              ∙ or-first _ _ (or-first _ _ (both-intro _ _ (eq-eqb (right_at problem m) (right_at problem m) refl) e));
          inner = λ k q l h e u. absurd (omega (arith, (start-known k h e).0));
          there = λ x q l o. refl;
        }

-- ---- all of them
pub cone-same :
    (problem : List ℕ) (count m : ℕ) (a b : ℕ → Bool) → Readable problem count → m < question_count problem → ((q : ℕ) → q < 192 → b q ≡ a q)
    → ConeOf problem count m a → ConeOf problem count m b
cone-same problem count m a b R asked same C =
    record {
      known = λ i l e. C.known i l (sym (same i l) ∙ e);
      left = λ e. same (left_at problem m) (omega (arith, R.left-known m asked, R.few)) ∙ C.left e;
      right = λ e. same (right_at problem m) (omega (arith, R.right-known m asked, R.few)) ∙ C.right e;
      inner =
          λ i q l e u.
          let v : a i ≡ true = sym (same i l) ∙ e in
          same q (omega (arith, low-inside problem count i q R (C.known i l v).0 u)) ∙ C.inner i q l v u;
    }

module _ (problem : List ℕ) (count : ℕ) (before : List ℕ) where
  pub record ConesTo (k : ℕ) (sets : List ℕ) : Type 0 where
    pub within : k ≤ question_count problem
    pub long : length sets ≡ length before
    pub done : (m : ℕ) → m < k → ConeOf problem count m (on_line sets (cone_at m))
    pub rest : (m q : ℕ) → k ≤ m → m < 32 → q < 192 → on_line sets (cone_at m) q ≡ false
    pub there : Outside (cone_at 0) (closers_at 0) before sets

  pub cones-more :
      (k : ℕ) (mid after : List ℕ) → Readable problem count → k < question_count problem → ConesTo k mid → ConeNoted problem count k mid after → ConesTo (k + 1) after
  cones-more k mid after R asked C N =
      record {
        within = omega arith;
        long = N.long ∙ C.long;
        done =
            λ m l.
            ⊎_elim (λ (u : m ≡ k). subst (λ (z : ℕ). ConeOf problem count z (on_line after (cone_at z))) (sym u) N.cone)
            (λ (u : m ≡ k → ⊥).
            cone-same problem count m (on_line mid (cone_at m)) (on_line after (cone_at m)) R (omega arith)
            (λ q h. N.there (cone_at m) q h (inl (omega arith))) (C.done m (omega arith)))
            (eq-or-ne m k);
        rest = λ m q l h u. N.there (cone_at m) q u (inr (omega arith)) ∙ C.rest m q (omega arith) h u;
        there =
            λ x q l o.
            N.there x q l
            (⊎_elim (λ (u : x + 3 ≤ 2304). inl (omega arith)) (λ (u : 2400 ≤ x). inr (omega (arith, R.few-questions))) o)
            ∙ C.there x q l o;
      }
