-- Rules 3, 6 and 7, at rows (src/rows.rt).
use Rattle.std.specs.Prelude.{ℕ, List, Bool}
use Rattle.subsumption.specs.Tables.{count_of}
use Rattle.square.specs.Inner.Square.{in_row}
use Rattle.incremental.specs.Inner.Lines.{InnerLines, IncludeLines}
use Rattle.incremental.specs.Inner.Pass.{Pass}

abbrev pub RowLines : List ℕ → List ℕ → (ℕ → List ℕ) → (ℕ → ℕ → Bool) → Type 0
RowLines concepts inclusions choose R = InnerLines concepts choose R × IncludeLines (count_of concepts) inclusions R

abbrev pub RowsPass : List ℕ → List ℕ → (ℕ → List ℕ) → List ℕ → List ℕ → Bool → Type 0
RowsPass concepts inclusions choose before after changed =
    Pass (count_of concepts) (RowLines concepts inclusions choose) (λ s. RowLines concepts inclusions choose (in_row s)) before after changed
