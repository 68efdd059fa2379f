-- Atoms (01: parts) and assignments (01: fillings).
use Rattle.std.specs.Prelude.{ℕ, zero, suc, ◌/◌, ◌%◌, ◌^◌, List, [], ◌∷◌, Bool, true, false, not, eqb, get_or}
use Rattle.std.proofs.Math.Decide.{ℕ_discrete}
use Rattle.subsumption.specs.Tables.{Tables, or, both, any_below, Node, top_at, name_at, exists_at, and_at, var_at, node, count_of, pairs_of, left_of, right_of, tree, concept-discrete, has_variable}

unfoldable pub inside : (ℕ → Bool) → Node → Bool
inside occurs top_at = false
inside occurs (name_at n) = false
inside occurs (exists_at r j) = occurs j
inside occurs (and_at i j) = or (occurs i) (occurs j)
inside occurs (var_at k) = false

unfoldable pub occurs_to : List ℕ → ℕ → ℕ → ℕ → Bool
occurs_to concepts zero p i = false
occurs_to concepts (suc depth) p i = or (eqb p i) (inside (occurs_to concepts depth p) (node concepts i))

-- The id p stands in the id i, at any depth.
unfoldable pub occurs : List ℕ → ℕ → ℕ → Bool
occurs concepts p i = occurs_to concepts (suc i) p i

-- Kinds 1 and 2.
unfoldable pub is_atomic : Node → Bool
is_atomic top_at = false
is_atomic (name_at n) = true
is_atomic (exists_at r j) = true
is_atomic (and_at i j) = false
is_atomic (var_at k) = false

unfoldable pub in_inclusion : List ℕ → List ℕ → ℕ → Bool
in_inclusion concepts inclusions p =
    any_below (pairs_of inclusions) (λ m. or (occurs concepts p (left_of inclusions m)) (occurs concepts p (right_of inclusions m)))

-- in a variable-free right side of a question
unfoldable pub in_question : List ℕ → List ℕ → ℕ → Bool
in_question concepts questions p =
    any_below (pairs_of questions)
    (λ m. both (not (has_variable (tree concepts (right_of questions m)))) (occurs concepts p (right_of questions m)))

-- A name or "some" that stands in an inclusion or in a variable-free right side.
unfoldable pub stands : Tables → ℕ → Bool
stands t p =
    both (is_atomic (node t.concepts p))
    (or (in_inclusion t.concepts t.inclusions p) (in_question t.concepts t.questions p))

unfoldable pub holds : {A : Type 0} → Dec A → Bool
holds (yes _) = true
holds (no _) = false

-- Two ids are twins when they are built alike: their concepts are one.
unfoldable pub twin : List ℕ → ℕ → ℕ → Bool
twin concepts p q = holds (concept-discrete ℕ_discrete (tree concepts p) (tree concepts q))

-- No twin of the id is lower.
unfoldable pub is_lowest : List ℕ → ℕ → Bool
is_lowest concepts p = not (any_below p (twin concepts p))

-- Which ids are atoms: of each id that stands so, its lowest twin, wherever that one stands.
unfoldable pub is_atom : Tables → ℕ → Bool
is_atom t p = both (is_lowest t.concepts p) (any_below (count_of t.concepts) (λ q. both (twin t.concepts p q) (stands t q)))

-- The numbers from `from` on that pass the test, of `count`, rising.
unfoldable pub keep : (ℕ → Bool) → ℕ → ℕ → List ℕ
keep test from zero = []
keep test from (suc count) = keep_if (test from) from (keep test (suc from) count)
  where
    keep_if : Bool → ℕ → List ℕ → List ℕ
    keep_if true x xs = x ∷ xs
    keep_if false x xs = xs

-- The atoms' ids, rising: an atom's position is its place here.
unfoldable pub atoms : Tables → List ℕ
atoms t = keep (is_atom t) 0 (count_of t.concepts)

unfoldable pub bit : ℕ → ℕ → Bool
bit x k = eqb (x / 2 ^ k % 2) 1

-- The elements at whose place the choice has a one.
unfoldable pub pick : List ℕ → ℕ → List ℕ
pick [] choice = []
pick (x ∷ xs) choice = pick_if (bit choice 0) x (pick xs (choice / 2))
  where
    pick_if : Bool → ℕ → List ℕ → List ℕ
    pick_if true x xs = x ∷ xs
    pick_if false x xs = xs

-- The ids that an assignment chooses for a variable, rising.
unfoldable pub chosen : Tables → List ℕ → ℕ → List ℕ
chosen t assignment k = pick (atoms t) (get_or assignment k 0)
