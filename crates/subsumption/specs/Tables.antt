-- Tables (01, "Tables"): lent lists of numbers, and the concepts that they stand for.
use Rattle.std.specs.Prelude.{ℕ, zero, suc, ◌+◌, ◌*◌, ◌/◌, ◌^◌, List, Bool, true, false, not, eqb, length, get_or}
use Rattle.std.specs.Int.Bits.{bit_or}
use Rattle.subsumption.specs.declared.tables.Node as Declared
use Rattle.subsumption.specs.declared.tables.Node.TheVariants.{Top, Name, Exists, And, Variable}

-- The four tables and the number of variables (01: blanks).
pub record Tables : Type 0 where
  pub concepts : List ℕ
  pub inclusions : List ℕ
  pub questions : List ℕ
  pub roles : List ℕ
  pub variables : ℕ

abbrev pub tables : List ℕ → List ℕ → List ℕ → List ℕ → ℕ → Tables
tables concepts inclusions questions roles variables =
    record { concepts = concepts; inclusions = inclusions; questions = questions; roles = roles; variables = variables }

unfoldable pub or : Bool → Bool → Bool
or true b = true
or false b = b

unfoldable pub both : Bool → Bool → Bool
both true b = b
both false b = false

-- some number below n passes the test
unfoldable pub any_below : ℕ → (ℕ → Bool) → Bool
any_below zero test = false
any_below (suc n) test = or (test n) (any_below n test)

-- A row of the concept table (01: an entry), which the code declares: top, a name, "some" of a role and an inner id, "and" of two ids, a
-- variable.
abbrev pub Node : Type 0
Node = Declared.Node

pattern abbrev pub top_at : Node
top_at = Top

pattern abbrev pub name_at : ℕ → Node
name_at n = Name n

pattern abbrev pub exists_at : ℕ → ℕ → Node
exists_at r j = Exists r j

pattern abbrev pub and_at : ℕ → ℕ → Node
and_at i j = And i j

pattern abbrev pub var_at : ℕ → Node
var_at k = Variable k

-- The kinds 0 to 4. Any other kind is refused (check 2) before anything reads it.
unfoldable pub decode : ℕ → ℕ → ℕ → Node
decode zero a b = top_at
decode (suc zero) a b = name_at a
decode (suc (suc zero)) a b = exists_at a b
decode (suc (suc (suc zero))) a b = and_at a b
decode (suc (suc (suc (suc zero)))) a b = var_at a
decode (suc (suc (suc (suc (suc kind))))) a b = top_at

-- The row of an id: three numbers from place 3 × id on.
unfoldable pub node : List ℕ → ℕ → Node
node concepts i = decode (get_or concepts (i * 3) 0) (get_or concepts (i * 3 + 1) 0) (get_or concepts (i * 3 + 2) 0)

abbrev pub count_of : List ℕ → ℕ
count_of concepts = length concepts / 3

abbrev pub pairs_of : List ℕ → ℕ
pairs_of pairs = length pairs / 2

-- An inclusion or a question is a pair of ids: its left is below its right. A pair of roles is (narrow, wide).
abbrev pub left_of : List ℕ → ℕ → ℕ
left_of pairs m = get_or pairs (m * 2) 0

abbrev pub right_of : List ℕ → ℕ → ℕ
right_of pairs m = get_or pairs (m * 2 + 1) 0

-- A concept. Names and roles are any numbers.
pub data Concept : Type 0 where
  top : Concept
  name : ℕ → Concept
  exists : ℕ → Concept → Concept
  and : Concept → Concept → Concept
  var : ℕ → Concept
  deriving Discrete as concept-discrete

unfoldable pub shape : (ℕ → Concept) → Node → Concept
shape inner top_at = top
shape inner (name_at n) = name n
shape inner (exists_at r j) = exists r (inner j)
shape inner (and_at i j) = and (inner i) (inner j)
shape inner (var_at k) = var k

unfoldable pub tree_to : List ℕ → ℕ → ℕ → Concept
tree_to concepts zero i = top
tree_to concepts (suc depth) i = shape (tree_to concepts depth) (node concepts i)

-- The concept of an id. Inner ids are smaller, so a depth of id + 1 is enough.
unfoldable pub tree : List ℕ → ℕ → Concept
tree concepts i = tree_to concepts (suc i) i

-- The set of the variables that stand in a concept, at any depth: a number with bit k for variable k.
unfoldable pub variables_of : Concept → ℕ
variables_of top = 0
variables_of (name n) = 0
variables_of (exists r c) = variables_of c
variables_of (and c d) = bit_or (variables_of c) (variables_of d)
variables_of (var k) = 2 ^ k

-- The concept holds a variable.
unfoldable pub has_variable : Concept → Bool
has_variable c = not (eqb (variables_of c) 0)
