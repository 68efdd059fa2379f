-- What the steps towards a group promise (src/group.rt): sets of variables as numbers, with bit k for variable k.
use Rattle.std.specs.Prelude.{ℕ, zero, suc, ◌<◌, ◌≡◌, List, Bool, true, not, cond, ◌↔◌, eqb}
use Rattle.std.specs.Int.Bits.{bit_or, bit_and}
use Rattle.subsumption.specs.Tables.{Tables, or, both, pairs_of, left_of, right_of}
use Rattle.subsumption.specs.Atoms.{bit}
use Rattle.groups.specs.Group.{InGroup}

-- the variables of question m, by those of the ids
unfoldable pub set_at : (ℕ → ℕ) → List ℕ → ℕ → ℕ
set_at sets questions m = bit_or (sets (left_of questions m)) (sets (right_of questions m))

unfoldable pub meets : ℕ → ℕ → Bool
meets a b = not (eqb (bit_and a b) 0)

-- what is reached after a question: one that holds a reached variable brings all that it holds
unfoldable pub brought : ℕ → ℕ → ℕ
brought reached set = cond (meets reached set) (bit_or reached set) reached

-- a walk over the first n questions, whose sets are given
unfoldable pub swept : (ℕ → ℕ) → ℕ → ℕ → ℕ
swept set zero from = from
swept set (suc n) from = brought (swept set n from) (set n)

-- so many walks
unfoldable pub sweeps : (ℕ → ℕ) → ℕ → ℕ → ℕ → ℕ
sweeps set count zero from = from
sweeps set count (suc n) from = swept set count (sweeps set count n from)

-- the variables that question m reaches
abbrev pub reached_by : (ℕ → ℕ) → List ℕ → ℕ → ℕ
reached_by sets questions m = sweeps (set_at sets questions) (pairs_of questions) 8 (set_at sets questions m)

-- a question with that set belongs to those that reached so much
unfoldable pub belongs : ℕ → ℕ → Bool
belongs reached set = or (meets reached set) (both (eqb reached 0) (eqb set 0))

-- the set of the group's questions
abbrev pub GroupSet : Tables → ℕ → ℕ → Type 0
GroupSet t m group = (n : ℕ) → n < pairs_of t.questions → (bit group n ≡ true) ↔ InGroup t m n
