-- The concept of an id, by its row.
use Prim.Native.Nat.{ℕ, ◌<◌}
use mathlib.Core.Path.{◌≡◌, refl, sym, ap, ap₂, ◌∙◌}
use mathlib.Core.List.{List}
use mathlib.Core.Bool.{true, false}
use lib.Bits.{bit_or}
use Rattle.subsumption.specs.Tables.{or, Node, top_at, name_at, exists_at, and_at, var_at, node, Concept, top, name, exists, and, var, shape, tree_to, tree, variables_of, has_variable}
use Rattle.subsumption.specs.Inner.Tables.{Rising}
use Rattle.subsumption.specs.Inner.Atoms.{set_by}
use Rattle.subsumption.proofs.Depth.{enough}
use Rattle.subsumption.proofs.VariableLaws.{variable-both, variable-one}

pub shape-smaller : (f g : ℕ → Concept) (i : ℕ) (m : Node) → Rising i m → ((j : ℕ) → j < i → f j ≡ g j) → shape f m ≡ shape g m
unfolding shape
shape-smaller f g i top_at up h = refl
shape-smaller f g i (name_at n) up h = refl
shape-smaller f g i (exists_at r j) up h = ap (exists r) (h j up)
shape-smaller f g i (and_at j k) up h = ap₂ and (h j up.0) (h k up.1)
shape-smaller f g i (var_at k) up h = refl

module _ (concepts : List ℕ) (rising : (i : ℕ) → Rising i (node concepts i)) where
  pub tree-eq : (i : ℕ) → tree concepts i ≡ shape (tree concepts) (node concepts i)
  unfolding tree tree_to
  tree-eq =
      enough (λ f i. shape f (node concepts i)) (tree_to concepts) (λ d i. refl)
      (λ f g i h. shape-smaller f g i (node concepts i) (rising i) h)

  pub tree-top : (i : ℕ) → node concepts i ≡ top_at → tree concepts i ≡ top
  unfolding shape
  tree-top i e = tree-eq i ∙ ap (shape (tree concepts)) e

  pub tree-name : (i n : ℕ) → node concepts i ≡ name_at n → tree concepts i ≡ name n
  unfolding shape
  tree-name i n e = tree-eq i ∙ ap (shape (tree concepts)) e

  pub tree-exists : (i r j : ℕ) → node concepts i ≡ exists_at r j → tree concepts i ≡ exists r (tree concepts j)
  unfolding shape
  tree-exists i r j e = tree-eq i ∙ ap (shape (tree concepts)) e

  pub tree-and : (i j k : ℕ) → node concepts i ≡ and_at j k → tree concepts i ≡ and (tree concepts j) (tree concepts k)
  unfolding shape
  tree-and i j k e = tree-eq i ∙ ap (shape (tree concepts)) e

  pub tree-var : (i k : ℕ) → node concepts i ≡ var_at k → tree concepts i ≡ var k
  unfolding shape
  tree-var i k e = tree-eq i ∙ ap (shape (tree concepts)) e

  pub inner-exists : (i r j : ℕ) → node concepts i ≡ exists_at r j → j < i
  inner-exists i r j e = rw e at (rising i)

  pub inner-and : (i j k : ℕ) → node concepts i ≡ and_at j k → (j < i) × (k < i)
  inner-and i j k e = rw e at (rising i)

  pub variable-top : (i : ℕ) → node concepts i ≡ top_at → has_variable (tree concepts i) ≡ false
  unfolding has_variable variables_of
  variable-top i e = ap has_variable (tree-top i e)

  pub variable-name : (i n : ℕ) → node concepts i ≡ name_at n → has_variable (tree concepts i) ≡ false
  unfolding has_variable variables_of
  variable-name i n e = ap has_variable (tree-name i n e)

  pub variable-exists : (i r j : ℕ) → node concepts i ≡ exists_at r j → has_variable (tree concepts i) ≡ has_variable (tree concepts j)
  unfolding has_variable variables_of
  variable-exists i r j e = ap has_variable (tree-exists i r j e)

  pub variable-and : (i j k : ℕ) → node concepts i ≡ and_at j k
      → has_variable (tree concepts i) ≡ or (has_variable (tree concepts j)) (has_variable (tree concepts k))
  variable-and i j k e = ap has_variable (tree-and i j k e) ∙ variable-both _ _

  pub variable-var : (i k : ℕ) → node concepts i ≡ var_at k → has_variable (tree concepts i) ≡ true
  variable-var i k e = ap has_variable (tree-var i k e) ∙ variable-one k

  -- the set of an id, by its row
  pub set-tree : (f : ℕ → ℕ) (i : ℕ) → ((j : ℕ) → j < i → f j ≡ variables_of (tree concepts j)) → set_by f (node concepts i) ≡ variables_of (tree concepts i)
  unfolding set_by variables_of
  set-tree f i h = go (node concepts i) refl (rising i)
    where
      go : (m : Node) → node concepts i ≡ m → Rising i m → set_by f (node concepts i) ≡ variables_of (tree concepts i)
      go top_at e up = ap (set_by f) e ∙ sym (ap variables_of (tree-top i e))
      go (name_at n) e up = ap (set_by f) e ∙ sym (ap variables_of (tree-name i n e))
      go (exists_at r j) e up = ap (set_by f) e ∙ h j up ∙ sym (ap variables_of (tree-exists i r j e))
      go (and_at j k) e up = ap (set_by f) e ∙ ap₂ bit_or (h j up.0) (h k up.1) ∙ sym (ap variables_of (tree-and i j k e))
      go (var_at k) e up = ap (set_by f) e ∙ sym (ap variables_of (tree-var i k e))
