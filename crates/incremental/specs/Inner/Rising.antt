-- Rules 4, 5 and 8, at columns, and rule 6 at those that gain (src/rising.rt).
use Rattle.std.specs.Prelude.{ℕ, ◌<◌, List, Bool}
use Rattle.subsumption.specs.Tables.{node, count_of}
use Rattle.square.specs.Inner.Square.{in_row}
use Rattle.incremental.specs.Inner.Lines.{MeetAt, MeetLines, LinkAt, LinkLines, IncludeLines}
use Rattle.incremental.specs.Inner.Pass.{Pass}

-- without a change nothing is known
abbrev pub ColumnGains : ℕ → List ℕ → List ℕ → List ℕ → Bool → Type 0
ColumnGains count inclusions before after changed = Pass count (IncludeLines count inclusions) (λ s. Unit {0}) before after changed

pub record RisenLines (concepts inclusions : List ℕ) (wide : ℕ → ℕ → Bool) (choose : ℕ → List ℕ) (R : ℕ → ℕ → Bool) : Type 0 where
  pub meet : MeetLines concepts choose R
  pub link : LinkLines concepts wide R
  pub include : IncludeLines (count_of concepts) inclusions R

abbrev pub RisenAt : List ℕ → (ℕ → ℕ → Bool) → (ℕ → List ℕ) → ℕ → List ℕ → Type 0
RisenAt concepts wide choose j s = MeetAt (count_of concepts) choose (in_row s) j (node concepts j) × LinkAt concepts wide (in_row s) j

abbrev pub RisenPass : List ℕ → List ℕ → (ℕ → ℕ → Bool) → (ℕ → List ℕ) → ℕ → List ℕ → List ℕ → Bool → Type 0
RisenPass concepts inclusions wide choose j before after changed =
    Pass (count_of concepts) (RisenLines concepts inclusions wide choose) (RisenAt concepts wide choose j) before after changed

abbrev pub AllRisen : List ℕ → List ℕ → (ℕ → ℕ → Bool) → (ℕ → List ℕ) → List ℕ → List ℕ → Bool → Type 0
AllRisen concepts inclusions wide choose before after changed =
    Pass (count_of concepts) (RisenLines concepts inclusions wide choose)
    (λ s. (j : ℕ) → j < count_of concepts → RisenAt concepts wide choose j s) before
    after changed
