-- What passed checks tell of the tables.
use Rattle.std.specs.Prelude.{Err}
use Prim.Native.Nat.{ℕ, zero, suc, ◌*◌, ◌%◌, ◌/◌, ◌^◌, ◌<◌, ◌≤◌}
use mathlib.Core.Path.{◌≡◌, refl, sym, ap, ap₂, ◌∙◌, subst}
use mathlib.Core.List.{List}
use mathlib.Core.Bool.{Bool, false, not, true≢false}
use mathlib.Core.Logic.{⊎_elim}
use native.Mathlib.Omega.{arith}
use native.Mathlib.Nat.{div-eq_of_lt, div-lt_iff_lt-mul}
use lib.Dec.{eqb, ltb}
use lib.Pow.{pow_pos}
use lib.ListN.{length, get_or, get_or-eq_default}
use borrow.Author.Tests.{eqb-true, ltb-true, ltb-false, lt-ltb, le-ltb, eq-eqb, ne_eqb, not-false}
use Rattle.subsumption.specs.declared.refusal.Refusal.TheVariants.{BadAssignment}
use Rattle.subsumption.specs.Refusal.{or_else, refuse_if, first_at, Outcome, Done}
use Rattle.subsumption.specs.declared.tables.Pair.{Pair}
use Rattle.subsumption.specs.Inner.Tables.{pair_of, Rising}
use Rattle.subsumption.specs.Tables.{Tables, or, both, Node, top_at, name_at, exists_at, and_at, var_at, node, decode, count_of, pairs_of, left_of, right_of, tree, has_variable}
use Rattle.subsumption.specs.Atoms.{atoms}
use Rattle.subsumption.specs.Check.{unfit, limit_fault, malformed_row, malformed, malformed_fault, forward, forward_fault, no_concept, pairs_fault, inclusion_fault, sides_fault, roles_fault, atoms_fault, concept_fault, id_fault, use_fault, table_fault, assignment_fault_at}
use Rattle.subsumption.specs.Inner.Atoms.{Layered, Known, VariableSets, held}
use Rattle.subsumption.specs.Inner.Roles.{LowRoles}
use Rattle.subsumption.proofs.Marks.{held-set}
use Rattle.subsumption.proofs.WellFormed.{WellFormed}
use Rattle.subsumption.proofs.Bools.{or-false, le-or-lt}
use Rattle.subsumption.proofs.Refusals.{passed_first, passed-second, passed-if, passed-at}

-- ---- check 1
fit-whole : (width limit : ℕ) (numbers : List ℕ) → unfit width limit numbers ≡ false → length numbers % width ≡ 0
unfolding unfit
fit-whole width limit numbers h = eqb-true _ _ (not-false _ (or-false _ _ h).0)

fit-few : (width limit : ℕ) (numbers : List ℕ) → unfit width limit numbers ≡ false → length numbers / width ≤ limit
unfolding unfit
fit-few width limit numbers h = ltb-false _ _ (or-false _ _ h).1

pub record Limited (t : Tables) : Type 0 where
  pub concepts-fit : unfit 3 192 t.concepts ≡ false
  pub inclusions-fit : unfit 2 96 t.inclusions ≡ false
  pub questions-fit : unfit 2 32 t.questions ≡ false
  pub variables-fit : ltb 8 t.variables ≡ false
  pub roles-fit : unfit 2 32 t.roles ≡ false

limited : (t : Tables) → limit_fault t ≡ Done → Limited t
unfolding limit_fault
limited t h =
    record {
      concepts-fit = passed-if _ _ (passed_first _ _ h);
      inclusions-fit = passed-if _ _ (passed_first _ _ (passed-second _ _ h));
      questions-fit = passed-if _ _ (passed_first _ _ (passed-second _ _ (passed-second _ _ h)));
      variables-fit = passed-if _ _ (passed_first _ _ (passed-second _ _ (passed-second _ _ (passed-second _ _ h))));
      roles-fit = passed-if _ _ (passed-second _ _ (passed-second _ _ (passed-second _ _ (passed-second _ _ h))));
    }

-- ---- checks 2 and 3
rising-of : (i : ℕ) (m : Node) → forward i m ≡ false → Rising i m
unfolding forward
rising-of i top_at h = tt
rising-of i (name_at n) h = tt
rising-of i (exists_at r j) h = ltb-true j i (not-false _ h)
rising-of i (and_at j k) h = (ltb-true j i (not-false _ (or-false _ _ h).0), ltb-true k i (not-false _ (or-false _ _ h).1))
rising-of i (var_at k) h = tt

top-past : (concepts : List ℕ) (i : ℕ) → length concepts ≤ i * 3 → node concepts i ≡ top_at
unfolding node decode
top-past concepts i h = rw (get_or-eq_default concepts 0 {n = i * 3} h, decode) refl

variable-of : (v kind a b k : ℕ) → malformed_row v kind a b ≡ false → decode kind a b ≡ var_at k → k < v
unfolding malformed_row decode
variable-of v zero a b k h e = absurd (let z : ◌≡◌ {A = ℕ} 0 1 = cc e in omega arith)
variable-of v (suc zero) a b k h e = absurd (let z : ◌≡◌ {A = ℕ} 0 1 = cc e in omega arith)
variable-of v (suc (suc zero)) a b k h e = absurd (let z : ◌≡◌ {A = ℕ} 0 1 = cc e in omega arith)
variable-of v (suc (suc (suc zero))) a b k h e = absurd (let z : ◌≡◌ {A = ℕ} 0 1 = cc e in omega arith)
variable-of v (suc (suc (suc (suc zero)))) a b k h e = let q : a ≡ k = cc e in omega (arith, ltb-true a v (not-false _ (or-false _ _ h).0))
variable-of v (suc (suc (suc (suc (suc kind))))) a b k h e = absurd (true≢false h)

name_of : (v kind a b n : ℕ) → malformed_row v kind a b ≡ false → decode kind a b ≡ name_at n → n < 1000
unfolding malformed_row decode
name_of v zero a b n h e = absurd (let z : ◌≡◌ {A = ℕ} 0 1 = cc e in omega arith)
name_of v (suc zero) a b n h e = let q : a ≡ n = cc e in omega (arith, ltb-false 999 a (or-false _ _ h).0)
name_of v (suc (suc zero)) a b n h e = absurd (let z : ◌≡◌ {A = ℕ} 0 1 = cc e in omega arith)
name_of v (suc (suc (suc zero))) a b n h e = absurd (let z : ◌≡◌ {A = ℕ} 0 1 = cc e in omega arith)
name_of v (suc (suc (suc (suc zero)))) a b n h e = absurd (let z : ◌≡◌ {A = ℕ} 0 1 = cc e in omega arith)
name_of v (suc (suc (suc (suc (suc kind))))) a b n h e = absurd (true≢false h)

role-of : (v kind a b r j : ℕ) → malformed_row v kind a b ≡ false → decode kind a b ≡ exists_at r j → r < 100
unfolding malformed_row decode
role-of v zero a b r j h e = absurd (let z : ◌≡◌ {A = ℕ} 0 1 = cc e in omega arith)
role-of v (suc zero) a b r j h e = absurd (let z : ◌≡◌ {A = ℕ} 0 1 = cc e in omega arith)
role-of v (suc (suc zero)) a b r j h e = let q : a ≡ r = cc e in omega (arith, ltb-false 99 a h)
role-of v (suc (suc (suc zero))) a b r j h e = absurd (let z : ◌≡◌ {A = ℕ} 0 1 = cc e in omega arith)
role-of v (suc (suc (suc (suc zero)))) a b r j h e = absurd (let z : ◌≡◌ {A = ℕ} 0 1 = cc e in omega arith)
role-of v (suc (suc (suc (suc (suc kind))))) a b r j h e = absurd (true≢false h)

module _ (t : Tables) (h : concept_fault t ≡ Done) where
  pub concept-limits : Limited t
  unfolding concept_fault
  concept-limits = limited t (passed_first _ _ h)

  concept-rows : malformed_fault t.concepts t.variables ≡ Done
  unfolding concept_fault
  concept-rows = passed_first _ _ (passed-second _ _ h)

  concept-inner : forward_fault t.concepts ≡ Done
  unfolding concept_fault
  concept-inner = passed-second _ _ (passed-second _ _ h)

  pub concepts-whole : length t.concepts ≡ count_of t.concepts * 3
  concepts-whole = omega (arith, fit-whole 3 192 t.concepts concept-limits.concepts-fit)

  pub concepts-few : count_of t.concepts ≤ 192
  concepts-few = fit-few 3 192 t.concepts concept-limits.concepts-fit

  pub inclusions-few : pairs_of t.inclusions ≤ 96
  inclusions-few = fit-few 2 96 t.inclusions concept-limits.inclusions-fit

  pub questions-few : pairs_of t.questions ≤ 32
  questions-few = fit-few 2 32 t.questions concept-limits.questions-fit

  concepts-rising : (i : ℕ) → Rising i (node t.concepts i)
  unfolding forward_fault
  concepts-rising i =
      ⊎_elim
      (λ l. subst (Rising i) (sym (top-past t.concepts i (omega (arith, concepts-whole)))) tt)
      (λ l. rising-of i (node t.concepts i) (passed-at _ (λ j. forward j (node t.concepts j)) 0 _ concept-inner i (omega arith) (omega arith)))
      (le-or-lt (count_of t.concepts) i)

  pub concepts-layered : Layered t.concepts
  concepts-layered = record { whole = concepts-whole; few = concepts-few; rising = concepts-rising }

  pub concepts-numbered : (i k : ℕ) → node t.concepts i ≡ var_at k → k < t.variables
  unfolding malformed_fault malformed node
  concepts-numbered i k e =
      ⊎_elim
      (λ l. absurd (let q = top-past t.concepts i (omega (arith, concepts-whole)) in let z : ◌≡◌ {A = ℕ} 0 1 = cc (e, q) in omega arith))
      (λ l. variable-of _ _ _ _ k (passed-at _ (malformed t.concepts t.variables) 0 _ concept-rows i (omega arith) (omega arith)) e)
      (le-or-lt (count_of t.concepts) i)

  pub concepts-named : (i n : ℕ) → node t.concepts i ≡ name_at n → n < 1000
  unfolding malformed_fault malformed node
  concepts-named i n e =
      ⊎_elim
      (λ l. absurd (let q = top-past t.concepts i (omega (arith, concepts-whole)) in let z : ◌≡◌ {A = ℕ} 0 1 = cc (e, q) in omega arith))
      (λ l. name_of _ _ _ _ n (passed-at _ (malformed t.concepts t.variables) 0 _ concept-rows i (omega arith) (omega arith)) e)
      (le-or-lt (count_of t.concepts) i)

  pub concepts-roles : (i r j : ℕ) → node t.concepts i ≡ exists_at r j → r < 100
  unfolding malformed_fault malformed node
  concepts-roles i r j e =
      ⊎_elim
      (λ l. absurd (let q = top-past t.concepts i (omega (arith, concepts-whole)) in let z : ◌≡◌ {A = ℕ} 0 1 = cc (e, q) in omega arith))
      (λ l. role-of _ _ _ _ r j (passed-at _ (malformed t.concepts t.variables) 0 _ concept-rows i (omega arith) (omega arith)) e)
      (le-or-lt (count_of t.concepts) i)

  pub few-numbers : (i k : ℕ) → node t.concepts i ≡ var_at k → k < 8
  few-numbers i k e = omega (arith, concepts-numbered i k e, ltb-false 8 t.variables concept-limits.variables-fit)

-- ---- check 4
pairs-known : (before count : ℕ) (pairs : List ℕ) → pairs_fault before count pairs ≡ Done → Known count pairs
unfolding pairs_fault no_concept
pairs-known before count pairs h =
    record {
      left-known = λ m l. ltb-true _ _ (not-false _ (or-false _ _ (at m l)).0);
      right-known = λ m l. ltb-true _ _ (not-false _ (or-false _ _ (at m l)).1);
    }
  where
    at : (m : ℕ) → m < pairs_of pairs → no_concept count (left_of pairs m) (right_of pairs m) ≡ false
    at m l = passed-at _ (λ m. no_concept count (left_of pairs m) (right_of pairs m)) 0 _ h m (omega arith) (omega arith)

module _ (t : Tables) (h : id_fault t ≡ Done) where
  pub inclusions-known : Known (count_of t.concepts) t.inclusions
  unfolding id_fault
  inclusions-known = pairs-known _ _ _ (passed_first _ _ h)

  pub questions-known : Known (count_of t.concepts) t.questions
  unfolding id_fault
  questions-known = pairs-known _ _ _ (passed-second _ _ h)

-- ---- checks 5 and 6, by the sets of the variables
module _ (concepts pairs sets : List ℕ) (m : ℕ) (pair : Pair) (known-sets : VariableSets concepts sets) (known : Known (count_of concepts) pairs)
    (h : m < pairs_of pairs) (e : pair ≡ pair_of pairs m) where
  pub held-left : held sets pair.left ≡ has_variable (tree concepts (left_of pairs m))
  held-left =
      let q : pair.left ≡ left_of pairs m = cc e in
      ap (held sets) q ∙ held-set concepts sets known-sets (left_of pairs m) (known.left-known m h)

  pub held-right : held sets pair.right ≡ has_variable (tree concepts (right_of pairs m))
  held-right =
      let q : pair.right ≡ right_of pairs m = cc e in
      ap (held sets) q ∙ held-set concepts sets known-sets (right_of pairs m) (known.right-known m h)

  pub either_held : (r : Bool) → r ≡ or (held sets pair.left) (held sets pair.right) → or (has_variable (tree concepts (left_of pairs m))) (has_variable (tree concepts (right_of pairs m))) ≡ r
  either_held r f = rw (← held-left, ← held-right) (sym f)

  pub both-held : (r : Bool) → r ≡ both (held sets pair.left) (held sets pair.right) → both (has_variable (tree concepts (left_of pairs m))) (has_variable (tree concepts (right_of pairs m))) ≡ r
  both-held r f = rw (← held-left, ← held-right) (sym f)

-- ---- check 16
pub role-over :
    (roles : List ℕ) (m : ℕ) (pair : Pair) → pair ≡ pair_of roles m → (r : Bool) → r ≡ or (ltb 99 pair.left) (ltb 99 pair.right)
    → or (ltb 99 (left_of roles m)) (ltb 99 (right_of roles m)) ≡ r
role-over roles m pair e r f =
    let p : pair.left ≡ left_of roles m = cc e in
    let q : pair.right ≡ right_of roles m = cc e in
    sym (f ∙ ap₂ (λ (x y : ℕ). or (ltb 99 x) (ltb 99 y)) p q)

-- ---- check 9
pub none-past : (choice atomCount : ℕ) → atomCount ≡ 64 → choice < 2 ^ 64 → false ≡ not (ltb choice (2 ^ atomCount))
none-past choice atomCount e h = rw (e, lt-ltb choice (2 ^ 64) h) refl

pub bits-past : (choice atomCount : ℕ) → not (eqb (choice / 2 ^ atomCount) 0) ≡ not (ltb choice (2 ^ atomCount))
bits-past choice atomCount =
    ⊎_elim
    (λ h. rw (le-ltb choice (2 ^ atomCount) h, ne_eqb (choice / 2 ^ atomCount) 0 (λ e. no h e)) refl)
    (λ h. rw (lt-ltb choice (2 ^ atomCount) h, eq-eqb (choice / 2 ^ atomCount) 0 (div-eq_of_lt h)) refl)
    (le-or-lt (2 ^ atomCount) choice)
  where
    no : 2 ^ atomCount ≤ choice → choice / 2 ^ atomCount ≡ 0 → ⊥
    no h e = omega (arith, (div-lt_iff_lt-mul {k = 2 ^ atomCount} {x = choice} {y = 1} (pow_pos atomCount)).0 (omega arith))

module _ (atomCount variables : ℕ) (assignment : List ℕ) where
  pub wrong-count : (length assignment ≡ variables → ⊥) → Err (BadAssignment variables) ≡ assignment_fault_at atomCount variables assignment
  unfolding assignment_fault_at or_else refuse_if
  wrong-count h = rw (ne_eqb (length assignment) variables h)

  pub right-count :
      (r : Outcome) → length assignment ≡ variables → r ≡ first_at BadAssignment (λ k. not (ltb (get_or assignment k 0) (2 ^ atomCount))) 0 variables
      → r ≡ assignment_fault_at atomCount variables assignment
  unfolding assignment_fault_at or_else refuse_if
  right-count r e h = rw (eq-eqb (length assignment) variables e) h

-- ---- all of them
module _ (t : Tables) (h : table_fault t ≡ Done) where
  pub table-concepts : concept_fault t ≡ Done
  unfolding table_fault
  table-concepts = passed_first _ _ h

  pub table-ids : id_fault t ≡ Done
  unfolding table_fault
  table-ids = passed_first _ _ (passed-second _ _ h)

  table-use : use_fault t ≡ Done
  unfolding table_fault
  table-use = passed-second _ _ (passed-second _ _ h)

  ground-at : (m : ℕ) → m < pairs_of t.inclusions
      → or (has_variable (tree t.concepts (left_of t.inclusions m))) (has_variable (tree t.concepts (right_of t.inclusions m))) ≡ false
  unfolding use_fault inclusion_fault
  ground-at m l =
      passed-at _ (λ m. or (has_variable (tree t.concepts (left_of t.inclusions m))) (has_variable (tree t.concepts (right_of t.inclusions m)))) 0 _
      (passed_first _ _ table-use) m (omega arith) (omega arith)

  atoms-few : length (atoms t) ≤ 64
  unfolding use_fault atoms_fault
  atoms-few = ltb-false _ _ (passed-if _ _ (passed-second _ _ (passed-second _ _ (passed-second _ _ table-use))))

  pub one-sided : (m : ℕ) → m < pairs_of t.questions
      → both (has_variable (tree t.concepts (left_of t.questions m))) (has_variable (tree t.concepts (right_of t.questions m))) ≡ false
  unfolding use_fault sides_fault
  one-sided m l =
      passed-at _ (λ m. both (has_variable (tree t.concepts (left_of t.questions m))) (has_variable (tree t.concepts (right_of t.questions m)))) 0 _
      (passed_first _ _ (passed-second _ _ table-use)) m (omega arith) (omega arith)

  -- check 16
  pub roles-low : LowRoles t.roles
  unfolding use_fault roles_fault
  roles-low =
      record {
        narrow = λ m l. omega (arith, ltb-false 99 (left_of t.roles m) (or-false _ _ (low m l)).0);
        wide = λ m l. omega (arith, ltb-false 99 (right_of t.roles m) (or-false _ _ (low m l)).1);
      }
    where
      low : (m : ℕ) → m < pairs_of t.roles → or (ltb 99 (left_of t.roles m)) (ltb 99 (right_of t.roles m)) ≡ false
      low m l =
          passed-at _ (λ m. or (ltb 99 (left_of t.roles m)) (ltb 99 (right_of t.roles m))) 0 _
          (passed_first _ _ (passed-second _ _ (passed-second _ _ table-use))) m (omega arith) (omega arith)

  pub well_formed : WellFormed t
  well_formed =
      record {
        whole = concepts-whole t table-concepts;
        few = concepts-few t table-concepts;
        even = omega (arith, fit-whole 2 96 t.inclusions (concept-limits t table-concepts).inclusions-fit);
        few-inclusions = inclusions-few t table-concepts;
        even-questions = omega (arith, fit-whole 2 32 t.questions (concept-limits t table-concepts).questions-fit);
        few-questions = questions-few t table-concepts;
        few-variables = ltb-false _ _ (concept-limits t table-concepts).variables-fit;
        rising = concepts-rising t table-concepts;
        low-roles = concepts-roles t table-concepts;
        wide_low = roles-low.wide;
        numbered = concepts-numbered t table-concepts;
        left-known = (inclusions-known t table-ids).left-known;
        right-known = (inclusions-known t table-ids).right-known;
        left-ground = λ m l. (or-false _ _ (ground-at m l)).0;
        right-ground = λ m l. (or-false _ _ (ground-at m l)).1;
        question-left = (questions-known t table-ids).left-known;
        question-right = (questions-known t table-ids).right-known;
        one-sided = one-sided;
        few-atoms = atoms-few;
      }
