-- The value of an id by its kind, all values of a cone, and the test of a question (src/search/patterns.rt).
use Rattle.subsumption.specs.Refusal.{Done}
use Prim.Native.Nat.{ℕ, ◌+◌, ◌*◌, ◌/◌, ◌%◌, ◌<◌, ◌≤◌}
use mathlib.Core.Path.{◌≡◌, refl, sym, ap, ◌∙◌, subst}
use mathlib.Core.List.{List}
use mathlib.Core.Bool.{Bool, true, false, true≢false}
use mathlib.Core.Logic.{◌↔◌, inl, ⊎_elim}
use native.Mathlib.Omega.{arith}
use lib.ListN.{length, get_or, take}
use borrow.Author.Tests.{eq-eqb, ne_eqb}
use Rattle.subsumption.specs.Tables.{Tables, both, Node, top_at, name_at, exists_at, and_at, var_at, node, count_of, pairs_of, left_of, right_of, tree, has_variable}
use Rattle.subsumption.specs.Atoms.{bit}
use Rattle.subsumption.specs.Check.{assignment_fault}
use Rattle.subsumption.proofs.Bools.{both_first}
use Rattle.subsumption.proofs.WellFormed.{WellFormed}
use Rattle.subsumption.proofs.Accepted.{well_formed}
use Rattle.subsumption.proofs.Nodes.{node-exists, exists-node}
use Rattle.subsumption.proofs.Trees.{variable-top, variable-name, variable-exists, inner-exists, inner-and}
use Rattle.square.specs.Inner.Square.{on_line}
use Rattle.subsumption.specs.declared.closure.columns.Words.{Words}
use Rattle.matching.specs.Inner.Search.{Decided}
use Rattle.matching.specs.Inner.Search.Sets.{in_words, NextIn, Same, Joined, PutAt}
use Rattle.matching.specs.Inner.Search.Problem.{cone_at, closers_at, held_at, left_at, right_at, inner_at, FreeId, Problem}
use Rattle.matching.specs.Inner.Search.Patterns.{ValueRead, BelowAll, AboveSome, Linked, ClosedUp, Exact, Generates, ValueOf, InnerValued, Valued, ValuedIn, AllValued, Tested}
use Rattle.matching.proofs.PatternLaws.Free.{known-inward}
use Rattle.matching.proofs.SearchLaws.Walks.{passed-cases, passed_none}
use Rattle.matching.proofs.SearchLaws.Values.{row-above, above-row, exact_same, generates-same, value_same, read-value, and-exact, and-generates, exists-exact, exists-generates, closed-sound, closed-wanted, var-exact, var-generates}

-- ---- one id
module _ (sets problem values choice : List ℕ) (j : ℕ) (w : Words) where
  pub right-by-var : (k : ℕ) → node problem j ≡ var_at k → BelowAll sets problem (get_or choice k 0) w → Valued sets problem values choice true j w
  right-by-var k n B t C a l has I = var-exact t sets problem C choice a j _ l (sym (C.rows j l) ∙ n) w B

  pub left-by-var : (k : ℕ) → node problem j ≡ var_at k → AboveSome sets problem (get_or choice k 0) w → Valued sets problem values choice false j w
  left-by-var k n A t C a l has I = var-generates t sets problem C choice a j _ l (sym (C.rows j l) ∙ n) w A

  module _ (a b : Words) (first second : ℕ) (row : node problem j ≡ and_at first second) where
    -- both members have their values
    members :
        (right : Bool) (t : Tables) (C : Problem t sets problem) → j < count_of t.concepts → InnerValued right t (take t.variables choice) values j
        → ValueRead sets problem values right first a → ValueRead sets problem values right second b
        → ValueOf right t (take t.variables choice) first (in_words a) × ValueOf right t (take t.variables choice) second (in_words b)
    members right t C l I A B =
        let n : node t.concepts j ≡ and_at first second = sym (C.rows j l) ∙ row in
        let wf = well_formed t C.passed in (
          read-value t sets problem C (take t.variables choice) right values first a ((known-inward t wf).first j first second n l) (I.first first second n) A,
          read-value t sets problem C (take t.variables choice) right values second b ((known-inward t wf).second j first second n l) (I.second first second n) B,
        )

    pub right-by-and :
        ValueRead sets problem values true first a → ValueRead sets problem values true second b
        → ((c : ℕ) → c < 192 → in_words w c ≡ both (in_words a c) (in_words b c)) → Valued sets problem values choice true j w
    right-by-and A B M t C ok l has I =
        let (E, F) = members true t C l I A B in
        and-exact t sets problem C (take t.variables choice) j first second l (sym (C.rows j l) ∙ row) a b w E F M

    pub left-by-and :
        ValueRead sets problem values false first a → ValueRead sets problem values false second b → Joined a b w → Valued sets problem values choice false j w
    left-by-and A B J t C ok l has I =
        let (E, F) = members false t C l I A B in
        and-generates t sets problem C (take t.variables choice) j first second l (sym (C.rows j l) ∙ row) a b w E F J

  module _ (other : (k : ℕ) → node problem j ≡ var_at k → ⊥) (another : (x y : ℕ) → node problem j ≡ and_at x y → ⊥) where
    -- what holds a variable and is neither is an existential
    existential :
        (t : Tables) → Problem t sets problem → j < count_of t.concepts → has_variable (tree t.concepts j) ≡ true
        → node t.concepts j ≡ exists_at (get_or problem (j * 3 + 1) 0) (inner_at problem j)
    existential t C l has =
        go (node problem j) refl
      where
        wf : WellFormed t
        wf = well_formed t C.passed

        back : node t.concepts j ≡ node problem j
        back = sym (C.rows j l)

        go : (n : Node) → node problem j ≡ n → node t.concepts j ≡ exists_at (get_or problem (j * 3 + 1) 0) (inner_at problem j)
        go top_at e = absurd (true≢false (sym has ∙ variable-top t.concepts wf.rising j (back ∙ e)))
        go (name_at n) e = absurd (true≢false (sym has ∙ variable-name t.concepts wf.rising j n (back ∙ e)))
        go (exists_at r x) e = back ∙ node-exists problem j (exists-node problem j r x e).0
        go (and_at x y) e = absurd (another x y e)
        go (var_at k) e = absurd (other k e)

    inner-has :
        (t : Tables) (C : Problem t sets problem) → j < count_of t.concepts → has_variable (tree t.concepts j) ≡ true
        → has_variable (tree t.concepts (inner_at problem j)) ≡ true
    inner-has t C l has =
        sym (variable-exists t.concepts (well_formed t C.passed).rising j _ (inner_at problem j) (existential t C l has)) ∙ has

    pub right-by-exists : (own : Words) → Same own values (inner_at problem j * 3) → Linked sets problem own true j w → Valued sets problem values choice true j w
    right-by-exists own S K t C ok l has I =
        let n = existential t C l has in
        exists-exact t sets problem C (take t.variables choice) j _ (inner_at problem j) l has n own w
        (exact_same t sets problem C (take t.variables choice) (inner_at problem j) (on_line values (inner_at problem j * 3)) (in_words own) (λ c m. sym (S c m))
        (I.inner _ (inner_at problem j) n (inner-has t C l has))) K

    pub left-by-exists :
        (m : ℕ) (x own : Words) → j < 192 → Same x values (inner_at problem j * 3) → ClosedUp sets problem (closers_at m) x own → Linked sets problem own false j w
        → ValuedIn sets problem values choice m false j w
    left-by-exists m x own low S U K t C ok asked here I =
        let (l, has) = (C.cones m asked).known j low here in
        let n = existential t C l has in
        let k = (known-inward t (well_formed t C.passed)).inner j _ (inner_at problem j) n l in
        let G = generates-same t sets problem C (take t.variables choice) (inner_at problem j) (on_line values (inner_at problem j * 3)) (in_words x) (λ c m. sym (S c m))
        (I.inner _ (inner_at problem j) n (inner-has t C l has)) in
        exists-generates t sets problem C (take t.variables choice) j _ (inner_at problem j) l has n own w
        (closed-sound t sets problem C (take t.variables choice) m (inner_at problem j) x own asked k G U)
        (λ e h fits free s.
        closed-wanted t sets problem C (take t.variables choice) m (inner_at problem j) x own asked k G U (inner_at problem e) free
        ((C.closers m asked).inner j e low h here fits) s) K

  -- an id of a cone holds a variable
  pub valued-in : (m : ℕ) (right : Bool) → j < 192 → Valued sets problem values choice right j w → ValuedIn sets problem values choice m right j w
  valued-in m right low made t C ok asked here I = let (l, has) = (C.cones m asked).known j low here in made t C ok l has I

-- ---- all ids of a cone
pub record ValuedTo (sets problem values choice : List ℕ) (m : ℕ) (right : Bool) (j : ℕ) : Type 0 where
  pub within : j ≤ 192
  pub long : 576 ≤ length values
  pub here : j < 192 → on_line sets (cone_at m) j ≡ true
  pub valued :
      (t : Tables) → Problem t sets problem → assignment_fault t (take t.variables choice) ≡ Done → m < pairs_of t.questions
      → (i : ℕ) → i < j → on_line sets (cone_at m) i ≡ true → ValueOf right t (take t.variables choice) i (on_line values (i * 3))

module _ (sets problem choice : List ℕ) (m : ℕ) (right : Bool) where
  pub valued-first : (values : List ℕ) (j : ℕ) → 576 ≤ length values → NextIn sets (cone_at m) 0 j → ValuedTo sets problem values choice m right j
  valued-first values j h N =
      record {
        within = N.within;
        long = h;
        here = N.here;
        valued = λ t C ok l i k o. absurd (passed_none (on_line sets (cone_at m)) j i N.between k o);
      }

  module _ (values after : List ℕ) (i next : ℕ) (w : Words) (h : i < 192) (T : ValuedTo sets problem values choice m right i)
      (value : ValuedIn sets problem values choice m right i w) (put : PutAt values after (i * 3) w) (N : NextIn sets (cone_at m) (i + 1) next) where
    -- the smaller ones stay
    stay : (p c : ℕ) → p < i → c < 192 → on_line values (p * 3) c ≡ on_line after (p * 3) c
    unfolding on_line
    stay p c l k = ap (λ (z : ℕ). bit z (c % 64)) (sym (put.there (p * 3 + c / 64) (inl (omega arith))))

    module _ (t : Tables) (C : Problem t sets problem) (ok : assignment_fault t (take t.variables choice) ≡ Done) (l : m < pairs_of t.questions) where
      smaller :
          (p : ℕ) → p < i → on_line sets (cone_at m) p ≡ true → ValueOf right t (take t.variables choice) p (on_line values (p * 3))
      smaller = T.valued t C ok l

      inward : InnerValued right t (take t.variables choice) values i
      inward =
          let rising = (well_formed t C.passed).rising in
          let cone = C.cones m l in
          record {
            inner = λ r x n v. smaller x (inner-exists t.concepts rising i r x n) (cone.inner i r x h (T.here h) n v);
            first = λ x y n v. smaller x (inner-and t.concepts rising i x y n).0 (cone.first i x y h (T.here h) n v);
            second = λ x y n v. smaller y (inner-and t.concepts rising i x y n).1 (cone.second i x y h (T.here h) n v);
          }

      own : ValueOf right t (take t.variables choice) i (on_line after (i * 3))
      own =
          value_same t sets problem C (take t.variables choice) right i (in_words w) (on_line after (i * 3)) put.here
          (value t C ok l (T.here h) inward)

    pub valued-more : ValuedTo sets problem after choice m right next
    valued-more =
        record {
          within = N.within;
          long = omega (arith, T.long, put.long);
          here = N.here;
          valued =
              λ t C ok l p k o.
              ⊎_elim
              (λ (u : p ≡ i).
              subst (λ (z : ℕ). ValueOf right t (take t.variables choice) z (on_line after (z * 3))) (sym u) (own t C ok l))
              (λ u.
              value_same t sets problem C (take t.variables choice) right p (on_line values (p * 3)) (on_line after (p * 3))
              (λ c lc. stay p c u lc) (smaller t C ok l p u o)) (passed-cases (on_line sets (cone_at m)) i next p N.between k o);
        }

  pub valued-done : (values : List ℕ) (j : ℕ) → 192 ≤ j → ValuedTo sets problem values choice m right j → AllValued sets problem values choice m right
  valued-done values j h T t C ok l i k o = T.valued t C ok l i (omega arith) o

-- a value of the side that was asked for
pub valued-at :
    (sets problem values choice : List ℕ) (m : ℕ) (right b : Bool) (j : ℕ) (w : Words) → right ≡ b → ValuedIn sets problem values choice m b j w
    → ValuedIn sets problem values choice m right j w
valued-at sets problem values choice m right b j w e made = subst (λ (z : Bool). ValuedIn sets problem values choice m z j w) (sym e) made

-- ---- the question
decide : (P : Type 0) (b s : Bool) → b ≡ s → (s ≡ true) ↔ P → Decided P b
decide P true s e (to, from) = to (sym e)
decide P false s e (to, from) = λ p. true≢false (sym (from p) ∙ sym e)

module _ (sets problem choice : List ℕ) (m : ℕ) (t : Tables) (C : Problem t sets problem) (l : m < pairs_of t.questions) where
  abbrev left : ℕ
  left = left_of t.questions m

  abbrev right : ℕ
  right = right_of t.questions m

  wf : WellFormed t
  wf = well_formed t C.passed

  has_of : (i k : ℕ) (b : Bool) → i ≡ k → k < count_of t.concepts → held_at problem i ≡ b → has_variable (tree t.concepts k) ≡ b
  has_of i k b e h u = sym (C.held k h) ∙ ap (held_at problem) (sym e) ∙ u

  right-has : (b : Bool) → held_at problem (right_at problem m) ≡ b → has_variable (tree t.concepts right) ≡ b
  right-has b = has_of (right_at problem m) right b (C.right m l) (wf.question-right m l)

  left-has : (b : Bool) → held_at problem (left_at problem m) ≡ b → has_variable (tree t.concepts left) ≡ b
  left-has b = has_of (left_at problem m) left b (C.left m l) (wf.question-left m l)

  right-free : has_variable (tree t.concepts right) ≡ false → FreeId t right
  right-free u = record { ground = u; known = wf.question-right m l }

  left-free : has_variable (tree t.concepts left) ≡ false → FreeId t left
  left-free u = record { ground = u; known = wf.question-left m l }

module _ (sets problem choice : List ℕ) (m : ℕ) (answer : Bool) where
  pub tested-right :
      (values : List ℕ) → get_or problem (576 + right_at problem m) 0 ≡ 1 → AllValued sets problem values choice m true
      → answer ≡ on_line values (right_at problem m * 3) (left_at problem m) → Tested sets problem m choice answer
  tested-right values e A b t C ok l =
      let wf = well_formed t C.passed in
      let has = right-has sets problem choice m t C l true (eq-eqb _ 1 e) in
      let none = sym (both_first _ _ has) ∙ wf.one-sided m l in
      let E : Exact t (take t.variables choice) (right_of t.questions m) (on_line values (right_of t.questions m * 3)) =
      A t C ok l (right_of t.questions m) (omega (arith, wf.question-right m l, wf.few)) ((C.cones m l).right has) in
      decide _ answer _
      (b ∙ ap (λ (z : ℕ). on_line values (z * 3) (left_at problem m)) (C.right m l) ∙ ap (on_line values (right_of t.questions m * 3)) (C.left m l))
      (E (left_of t.questions m) (left-free sets problem choice m t C l none))

  pub tested-left :
      (values : List ℕ) (x w : Words) → (get_or problem (576 + right_at problem m) 0 ≡ 1 → ⊥) → get_or problem (576 + left_at problem m) 0 ≡ 1
      → AllValued sets problem values choice m false → Same x values (left_at problem m * 3) → ClosedUp sets problem (closers_at m) x w → answer ≡ in_words w (right_at problem m)
      → Tested sets problem m choice answer
  tested-left values x w n e A S U b t C ok l =
      let wf = well_formed t C.passed in
      let has = left-has sets problem choice m t C l true (eq-eqb _ 1 e) in
      let free = right-free sets problem choice m t C l (right-has sets problem choice m t C l false (ne_eqb _ 1 n)) in
      let G : Generates t (take t.variables choice) (left_of t.questions m) (on_line values (left_of t.questions m * 3)) =
      A t C ok l (left_of t.questions m) (omega (arith, wf.question-left m l, wf.few)) ((C.cones m l).left has) in
      let R : Same x values (left_of t.questions m * 3) = subst (λ (z : ℕ). Same x values (z * 3)) (C.left m l) S in
      let H = generates-same t sets problem C (take t.variables choice) (left_of t.questions m) (on_line values (left_of t.questions m * 3)) (in_words x)
      (λ c k. sym (R c k)) G in
      decide _ answer _ (b ∙ ap (in_words w) (C.right m l)) (
        closed-sound t sets problem C (take t.variables choice) m (left_of t.questions m) x w l (wf.question-left m l) H U (right_of t.questions m) free,
        closed-wanted t sets problem C (take t.variables choice) m (left_of t.questions m) x w l (wf.question-left m l) H U (right_of t.questions m) free
            (subst (λ (z : ℕ). (C.closers m l).wanted z ≡ true) (C.right m l) (C.closers m l).right),
      )

  pub tested-free :
      (get_or problem (576 + right_at problem m) 0 ≡ 1 → ⊥) → (get_or problem (576 + left_at problem m) 0 ≡ 1 → ⊥) → answer ≡ on_line sets (left_at problem m * 3) (right_at problem m)
      → Tested sets problem m choice answer
  tested-free n k b t C ok l =
      let f = left-free sets problem choice m t C l (left-has sets problem choice m t C l false (ne_eqb _ 1 k)) in
      let g = right-free sets problem choice m t C l (right-has sets problem choice m t C l false (ne_eqb _ 1 n)) in
      decide _ answer _
      (b ∙ ap (λ (z : ℕ). on_line sets (z * 3) (right_at problem m)) (C.left m l) ∙ ap (on_line sets (left_of t.questions m * 3)) (C.right m l))
      (row-above t sets problem C (take t.variables choice) _ _ f g, above-row t sets problem C (take t.variables choice) _ _ f g)
