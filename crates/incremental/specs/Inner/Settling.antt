-- The lines at rows of "and" and of variables (src/settling.rt).
use Rattle.std.specs.Prelude.{ℕ, ◌<◌, ◌≤◌, Bool, length, get_or}
use mathlib.Core.List.{List, Memᴰ}
use Rattle.subsumption.specs.Tables.{node, count_of}
use Rattle.subsumption.specs.Atoms.{pick}
use Rattle.square.specs.Inner.Square.{in_row}
use Rattle.incremental.specs.Inner.Lines.{Under, InnerAt, InnerLines, MeetAt, MeetLines}
use Rattle.incremental.specs.Inner.Pass.{Pass}

-- what a chosen atom is below, the variable is below
abbrev pub ChosenUnder : List ℕ → ℕ → ℕ → ℕ → (ℕ → ℕ → Bool) → Type 0
ChosenUnder atoms choice to count R = (p : ℕ) → Memᴰ p (pick atoms choice) → Under count R p to

-- the row `to` takes in the rows of the chosen atoms, whatever the number of ids
abbrev pub SpreadPass : List ℕ → ℕ → ℕ → List ℕ → List ℕ → Bool → Type 0
SpreadPass atoms choice to before after changed =
    (count : ℕ) → count ≤ 192 → to < count → ((q : ℕ) → q < length atoms → get_or atoms q 0 < count)
    → Pass count (ChosenUnder atoms choice to count) (λ s. ChosenUnder atoms choice to count (in_row s)) before after changed

abbrev pub InnerPass : List ℕ → (ℕ → List ℕ) → ℕ → List ℕ → List ℕ → Bool → Type 0
InnerPass concepts choose i before after changed =
    Pass (count_of concepts) (InnerLines concepts choose)
    (λ s. InnerAt (count_of concepts) choose (in_row s) i (node concepts i)) before after changed

abbrev pub MeetPass : List ℕ → (ℕ → List ℕ) → ℕ → List ℕ → List ℕ → Bool → Type 0
MeetPass concepts choose j before after changed =
    Pass (count_of concepts) (MeetLines concepts choose)
    (λ s. MeetAt (count_of concepts) choose (in_row s) j (node concepts j)) before after changed
