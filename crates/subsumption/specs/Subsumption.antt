-- Below (01, "Below"): truth in all finite interpretations that obey the inclusions.
use Rattle.std.specs.Prelude.{ℕ, ◌<◌}
use mathlib.Core.List.{List, Memᴰ}
use Rattle.subsumption.specs.Tables.{Tables, pairs_of, left_of, right_of, Concept, top, name, exists, and, var, tree}
use Rattle.subsumption.specs.Atoms.{chosen}

pub record Named : Type 0 where
  pub element : ℕ
  pub name : ℕ

pub record Linked : Type 0 where
  pub from : ℕ
  pub role : ℕ
  pub to : ℕ

-- An interpretation (01: a stock): the elements (01: things) 0 to size - 1, with any names on them and any role links between them.
-- One of size 0 has no element, so it refutes nothing.
pub record Interpretation : Type 0 where
  pub size : ℕ
  pub names : List Named
  pub links : List Linked

-- How an interpretation's elements belong to variables.
abbrev pub Reading : Type 1
Reading = ℕ → ℕ → Type 0

-- The element x is a member of the concept (01: belongs to it).
abbrev pub Member : Interpretation → Reading → Concept → ℕ → Type 0
Member I ρ top x = Unit {0}
Member I ρ (name n) x = Memᴰ (record { element = x; name = n }) I.names
Member I ρ (exists r c) x = (y : ℕ) × (y < I.size) × Memᴰ (record { from = x; role = r; to = y }) I.links × Member I ρ c y
Member I ρ (and c d) x = Member I ρ c x × Member I ρ d x
Member I ρ (var k) x = ρ k x

abbrev pub Included : Interpretation → Reading → Concept → Concept → Type 0
Included I ρ c d = (x : ℕ) → x < I.size → Member I ρ c x → Member I ρ d x

-- Atoms and inclusions hold no variable, so that any reading serves them.
abbrev pub no_variables : Reading
no_variables k x = Unit {0}

-- The interpretation obeys both tables: each inclusion, and each pair of roles, whose narrow links are links of the wide role too.
pub record Obeys (t : Tables) (I : Interpretation) : Type 0 where
  pub inclusions :
      (m : ℕ) → m < pairs_of t.inclusions
      → Included I no_variables (tree t.concepts (left_of t.inclusions m)) (tree t.concepts (right_of t.inclusions m))
  pub roles :
      (m : ℕ) → m < pairs_of t.roles → (x y : ℕ) → x < I.size → y < I.size
      → Memᴰ (record { from = x; role = left_of t.roles m; to = y }) I.links
      → Memᴰ (record { from = x; role = right_of t.roles m; to = y }) I.links

-- Variables read by an assignment: an element belongs to a variable when it belongs to every atom chosen for it.
abbrev pub assigned : Tables → List ℕ → Interpretation → Reading
assigned t assignment I k x = (p : ℕ) → Memᴰ p (chosen t assignment k) → Member I no_variables (tree t.concepts p) x

-- One concept is subsumed by another (01: an entry is below another) under a reading of the variables.
abbrev pub SubsumedBy : Tables → (Interpretation → Reading) → ℕ → ℕ → Type 0
SubsumedBy t reading i j = (I : Interpretation) → Obeys t I → Included I (reading I) (tree t.concepts i) (tree t.concepts j)

abbrev pub Subsumed : Tables → List ℕ → ℕ → ℕ → Type 0
Subsumed t assignment i j = SubsumedBy t (assigned t assignment) i j
