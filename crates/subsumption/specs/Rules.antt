-- The eight rules of a derivation line (01, "Below"), as a test against the pairs that earlier lines prove.
use Rattle.std.specs.Prelude.{ℕ, zero, suc, List, [], ◌∷◌, Bool, true, false, eqb, ltb, get_or}
use Rattle.subsumption.specs.Tables.{Tables, or, both, Node, top_at, name_at, exists_at, and_at, var_at, node, count_of, pairs_of, left_of, right_of}
use Rattle.subsumption.specs.Atoms.{chosen}
use Rattle.subsumption.specs.Roles.{wider}

unfoldable pub every : (ℕ → Bool) → List ℕ → Bool
every test [] = true
every test (x ∷ xs) = both (test x) (every test xs)

unfoldable pub contains : ℕ → List ℕ → Bool
contains a [] = false
contains a (x ∷ xs) = or (eqb a x) (contains a xs)

-- two name rows of one name
unfoldable pub same_name : Node → Node → Bool
same_name (name_at a) (name_at b) = eqb a b
same_name (name_at a) top_at = false
same_name (name_at a) (exists_at r j) = false
same_name (name_at a) (and_at i j) = false
same_name (name_at a) (var_at k) = false
same_name top_at m = false
same_name (exists_at r i) m = false
same_name (and_at i j) m = false
same_name (var_at k) m = false

unfoldable pub is_top : Node → Bool
is_top top_at = true
is_top (name_at n) = false
is_top (exists_at r j) = false
is_top (and_at i j) = false
is_top (var_at k) = false

-- of an "and", the inner id that the extra picks passes
unfoldable pub on_picked : ℕ → (ℕ → Bool) → Node → Bool
on_picked zero test (and_at i j) = test i
on_picked (suc zero) test (and_at i j) = test j
on_picked (suc (suc extra)) test (and_at i j) = false
on_picked extra test top_at = false
on_picked extra test (name_at n) = false
on_picked extra test (exists_at r j) = false
on_picked extra test (var_at k) = false

-- of an "and", both inner ids pass
unfoldable pub on_both : (ℕ → Bool) → Node → Bool
on_both test (and_at i j) = both (test i) (test j)
on_both test top_at = false
on_both test (name_at n) = false
on_both test (exists_at r j) = false
on_both test (var_at k) = false

-- "some" of two rows, the first of a role that counts as the second's: the inner ids pass
unfoldable pub on_inner : (ℕ → ℕ → Bool) → (ℕ → ℕ → Bool) → Node → Node → Bool
on_inner wide test (exists_at r i) (exists_at s j) = both (wide r s) (test i j)
on_inner wide test (exists_at r i) top_at = false
on_inner wide test (exists_at r i) (name_at n) = false
on_inner wide test (exists_at r i) (and_at j k) = false
on_inner wide test (exists_at r i) (var_at k) = false
on_inner wide test top_at m = false
on_inner wide test (name_at n) m = false
on_inner wide test (and_at i j) m = false
on_inner wide test (var_at k) m = false

-- of a variable, its number passes
unfoldable pub on_variable : (ℕ → Bool) → Node → Bool
on_variable test (var_at k) = test k
on_variable test top_at = false
on_variable test (name_at n) = false
on_variable test (exists_at r j) = false
on_variable test (and_at i j) = false

module _ (t : Tables) (assignment : List ℕ) (proved : ℕ → ℕ → Bool) where
  -- 1. Equal ids, or two name rows of one name.
  abbrev pub rule1 : ℕ → ℕ → ℕ → Bool
  rule1 left right extra = both (eqb extra 0) (or (eqb left right) (same_name (node t.concepts left) (node t.concepts right)))

  -- 2. The right is top.
  abbrev pub rule2 : ℕ → ℕ → ℕ → Bool
  rule2 left right extra = both (eqb extra 0) (is_top (node t.concepts right))

  -- 3. The left is "and": of its inner ids the one that the extra picks is below the right.
  abbrev pub rule3 : ℕ → ℕ → ℕ → Bool
  rule3 left right extra = on_picked extra (λ i. proved i right) (node t.concepts left)

  -- 4. The right is "and": the left is below both inner ids.
  abbrev pub rule4 : ℕ → ℕ → ℕ → Bool
  rule4 left right extra = both (eqb extra 0) (on_both (λ j. proved left j) (node t.concepts right))

  -- 5. Two "some" rows, the left's role counts as the right's: inner below inner.
  abbrev pub rule5 : ℕ → ℕ → ℕ → Bool
  rule5 left right extra =
      both (eqb extra 0) (on_inner (wider t.roles) proved (node t.concepts left) (node t.concepts right))

  -- 6. The extra is an inclusion's place: the left is below its left, and its right below the right.
  abbrev pub rule6 : ℕ → ℕ → ℕ → Bool
  rule6 left right extra =
      both (ltb extra (pairs_of t.inclusions))
      (both (proved left (left_of t.inclusions extra)) (proved (right_of t.inclusions extra) right))

  -- 7. The left is a variable: the extra is the id of a chosen atom that is below the right.
  abbrev pub rule7 : ℕ → ℕ → ℕ → Bool
  rule7 left right extra =
      on_variable (λ k. both (contains extra (chosen t assignment k)) (proved extra right)) (node t.concepts left)

  -- 8. The right is a variable: the left is below each chosen atom.
  abbrev pub rule8 : ℕ → ℕ → ℕ → Bool
  rule8 left right extra =
      both (eqb extra 0) (on_variable (λ k. every (λ p. proved left p) (chosen t assignment k)) (node t.concepts right))

  abbrev pub no_rule : ℕ → ℕ → ℕ → Bool
  no_rule left right extra = false

  -- What the rule of that number asks of a line's left, right and extra.
  unfoldable pub by_rule : ℕ → ℕ → ℕ → ℕ → Bool
  by_rule rule = get_or (no_rule ∷ rule1 ∷ rule2 ∷ rule3 ∷ rule4 ∷ rule5 ∷ rule6 ∷ rule7 ∷ rule8 ∷ []) rule no_rule

  -- A line is right when its left and right are entry ids and its rule's premises are proved.
  unfoldable pub follows : ℕ → ℕ → ℕ → ℕ → Bool
  follows rule left right extra =
      both (ltb left (count_of t.concepts)) (both (ltb right (count_of t.concepts)) (by_rule rule left right extra))
