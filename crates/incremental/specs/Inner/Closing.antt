-- Rounds of all the rules until nothing changes (src/closing.rt).
use Rattle.std.specs.Prelude.{ℕ, List, Bool}
use Rattle.subsumption.specs.Tables.{count_of}
use Rattle.square.specs.Inner.Square.{in_row}
use Rattle.incremental.specs.Inner.Lines.{MeetLines, LinkLines, Lines}
use Rattle.incremental.specs.Inner.Rows.{RowLines}
use Rattle.incremental.specs.Inner.Start.{Grown}
use Rattle.incremental.specs.Inner.Pass.{Pass}

-- rules 3 to 8
pub record RoundLines (concepts inclusions : List ℕ) (wide : ℕ → ℕ → Bool) (choose : ℕ → List ℕ) (R : ℕ → ℕ → Bool) : Type 0 where
  pub meet : MeetLines concepts choose R
  pub rows : RowLines concepts inclusions choose R
  pub link : LinkLines concepts wide R

abbrev pub RoundPass : List ℕ → List ℕ → (ℕ → ℕ → Bool) → (ℕ → List ℕ) → List ℕ → List ℕ → Bool → Type 0
RoundPass concepts inclusions wide choose before after changed =
    Pass (count_of concepts) (RoundLines concepts inclusions wide choose)
    (λ s. RoundLines concepts inclusions wide choose (in_row s)) before after changed

pub record Rounded (concepts inclusions : List ℕ) (wide : ℕ → ℕ → Bool) (choose : ℕ → List ℕ) (before after : List ℕ) : Type 0 where
  pub grown : Grown (count_of concepts) (RoundLines concepts inclusions wide choose) before after
  pub lines : RoundLines concepts inclusions wide choose (in_row after)

-- the marks are closed under all rules, and are the least that hold those before
pub record Closed (concepts inclusions : List ℕ) (wide : ℕ → ℕ → Bool) (choose : ℕ → List ℕ) (before after : List ℕ) : Type 0 where
  pub grown : Grown (count_of concepts) (Lines concepts inclusions wide choose) before after
  pub lines : Lines concepts inclusions wide choose (in_row after)
