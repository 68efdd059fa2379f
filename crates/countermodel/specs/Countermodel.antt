-- The interpretation that is shown (02, A.5): element i stands for concept i. Its names and links are read off marks that say which
-- concept is below which.
use Rattle.std.specs.Prelude.{ℕ, ◌<◌, ◌≡◌, List, [], ◌∷◌, ◌++◌, Bool, true, false, eqb}
use Rattle.subsumption.specs.Tables.{Tables, both, any_below, Node, top_at, name_at, exists_at, and_at, var_at, node, count_of, tree}
use Rattle.subsumption.specs.Atoms.{keep}
use Rattle.subsumption.specs.Roles.{wider}
use Rattle.subsumption.specs.Subsumption.{Interpretation, Member, assigned, Obeys, Subsumed}
use Rattle.countermodel.specs.Rows.{joined}

-- The marks of the subsumption table: exactly what is below what.
pub record Exactly (t : Tables) (assignment : List ℕ) (marks : ℕ → ℕ → Bool) : Type 0 where
  pub sound : (i j : ℕ) → i < count_of t.concepts → j < count_of t.concepts → marks i j ≡ true → Subsumed t assignment i j
  pub complete : (i j : ℕ) → i < count_of t.concepts → j < count_of t.concepts → Subsumed t assignment i j → marks i j ≡ true

unfoldable pub is_named : ℕ → Node → Bool
is_named n top_at = false
is_named n (name_at m) = eqb n m
is_named n (exists_at r j) = false
is_named n (and_at i j) = false
is_named n (var_at k) = false

-- "some" of the inner id y, by a role that counts as the role s
unfoldable pub leads_to : List ℕ → ℕ → ℕ → Node → Bool
leads_to roles s y top_at = false
leads_to roles s y (name_at m) = false
leads_to roles s y (exists_at r j) = both (wider roles r s) (eqb y j)
leads_to roles s y (and_at i j) = false
leads_to roles s y (var_at k) = false

module _ (concepts : List ℕ) (marks : ℕ → ℕ → Bool) where
  -- The element i bears the name n: i is below a name entry of that name.
  unfoldable pub bears : ℕ → ℕ → Bool
  bears i n = any_below (count_of concepts) (λ j. both (marks i j) (is_named n (node concepts j)))

  unfoldable pub names_at : ℕ → List ℕ
  names_at i = keep (bears i) 0 1000

module _ (concepts roles : List ℕ) (marks : ℕ → ℕ → Bool) where
  -- The element i is linked by the role s to the element y: i is below a "some" entry of y by a role that counts as s.
  unfoldable pub is_linked : ℕ → ℕ → ℕ → Bool
  is_linked i s y = any_below (count_of concepts) (λ j. both (marks i j) (leads_to roles s y (node concepts j)))

  unfoldable pub links_at : ℕ → ℕ → List ℕ
  links_at i s = keep (is_linked i s) 0 (count_of concepts)

-- The rows of an element's names, and of its links by one role.
unfoldable pub name_rows : ℕ → List ℕ → List ℕ
name_rows i [] = []
name_rows i (n ∷ names) = 0 ∷ i ∷ n ∷ 0 ∷ name_rows i names

unfoldable pub link_rows : ℕ → ℕ → List ℕ → List ℕ
link_rows i s [] = []
link_rows i s (y ∷ links) = 1 ∷ i ∷ s ∷ y ∷ link_rows i s links

-- All rows, rising and free of repeats: names, then links; by element, by name or role, by the element linked to.
unfoldable pub shown_rows : List ℕ → List ℕ → (ℕ → ℕ → Bool) → List ℕ
shown_rows concepts roles marks =
    joined (λ i. name_rows i (names_at concepts marks i)) 0 (count_of concepts)
    ++ joined (λ i. joined (λ s. link_rows i s (links_at concepts roles marks i s)) 0 100) 0 (count_of concepts)

-- The interpretation obeys both tables, and its element `left` is of the left concept and not of the right one.
pub record Refutes (t : Tables) (assignment : List ℕ) (left right : ℕ) (I : Interpretation) : Type 0 where
  pub obeys : Obeys t I
  pub element : left < I.size
  pub of_left : Member I (assigned t assignment I) (tree t.concepts left) left
  pub not_right : Member I (assigned t assignment I) (tree t.concepts right) left → ⊥
