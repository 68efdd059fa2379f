-- What checking a derivation, its rules and the marks of pairs promise.
use Rattle.subsumption.specs.Refusal.{Outcome}
use Rattle.std.specs.Prelude.{ℕ, ◌+◌, ◌*◌, ◌<◌, ◌≤◌, ◌≡◌, List, Bool, true, false, length, get_or}
use Rattle.subsumption.specs.Tables.{Tables, Node, top_at, name_at, exists_at, and_at, var_at, count_of}
use Rattle.subsumption.specs.Atoms.{atoms}
use Rattle.subsumption.specs.Inner.Roles.{RoleSets}
use Rattle.subsumption.specs.Rules.{by_rule}
use Rattle.matching.specs.Derivation.{left_at, right_at, proved_by, line_follows, rule_fault}

-- one mark a pair of ids, row by row
pub record Square (count : ℕ) (marks : List Bool) : Type 0 where
  pub few : count ≤ 192
  pub long : length marks ≡ count * count

unfoldable pub seen : ℕ → List Bool → ℕ → ℕ → Bool
seen count marks i j = get_or marks (i * count + j) false

-- what the tests on a variable's choice ask of the atoms
pub record KnownAtoms (count : ℕ) (ids : List ℕ) : Type 0 where
  pub few-atoms : length ids ≤ 64
  pub atoms-known : (q : ℕ) → q < length ids → get_or ids q 0 < count

-- the variable has a choice
abbrev pub Numbered : List ℕ → Node → Type 0
Numbered assignment top_at = Unit {0}
Numbered assignment (name_at n) = Unit {0}
Numbered assignment (exists_at r j) = Unit {0}
Numbered assignment (and_at j k) = Unit {0}
Numbered assignment (var_at k) = k < length assignment

-- an existential's role is in the tables' range
abbrev pub LowRole : Node → Type 0
LowRole top_at = Unit {0}
LowRole (name_at n) = Unit {0}
LowRole (exists_at r j) = r < 100
LowRole (and_at j k) = Unit {0}
LowRole (var_at k) = Unit {0}

-- the tables have these concepts and inclusions, these sets of roles and these atoms
pub record Of (t : Tables) (concepts inclusions into ids : List ℕ) : Type 0 where
  pub concepts-are : t.concepts ≡ concepts
  pub inclusions-are : t.inclusions ≡ inclusions
  pub roles-are : RoleSets t.roles into
  pub atoms_are : atoms t ≡ ids

-- the answer is what the rule asks of the line, with the marked pairs proved
abbrev pub ByRule : List ℕ → List ℕ → List ℕ → List ℕ → List ℕ → List Bool → ℕ → ℕ → ℕ → ℕ → Bool → Type 0
ByRule concepts inclusions into ids assignment marks rule left right extra answer =
    (t : Tables) → Of t concepts inclusions into ids → answer ≡ by_rule t assignment (seen (count_of concepts) marks) rule left right extra

-- the marked pairs are those on the first n lines
pub record MarksOf (count : ℕ) (marks : List Bool) (lines : List ℕ) (n : ℕ) : Type 0 where
  pub square : Square count marks
  pub same : (i j : ℕ) → i < count → j < count → seen count marks i j ≡ proved_by lines n i j

-- the answer says whether line k follows
pub record LineTest (concepts inclusions into ids assignment : List ℕ) (lines : List ℕ) (k : ℕ) (answer : Bool) : Type 0 where
  pub left-known : answer ≡ true → left_at lines k < count_of concepts
  pub right-known : answer ≡ true → right_at lines k < count_of concepts
  pub tells : (t : Tables) → Of t concepts inclusions into ids → answer ≡ line_follows t assignment lines k

-- the answer is what the rules say of all lines
pub record RulesTest (concepts inclusions into ids assignment : List ℕ) (lines : List ℕ) (answer : Outcome) : Type 0 where
  pub tells : (t : Tables) → Of t concepts inclusions into ids → answer ≡ rule_fault t assignment lines
