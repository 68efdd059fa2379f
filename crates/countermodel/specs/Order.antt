-- The order of rows (02, A.5: rising and free of repeats).
use Rattle.std.specs.Prelude.{ℕ, ◌<◌, ◌≡◌, List}
use Rattle.countermodel.specs.Rows.{rows_of, at}

-- The row p comes before the row q: at some place it has the smaller number, and at the places before that the two agree.
abbrev pub Before : List ℕ → ℕ → ℕ → Type 0
Before rows p q = (k : ℕ) × (k < 4) × ((l : ℕ) → l < k → at rows p l ≡ at rows q l) × (at rows p k < at rows q k)

-- Each row comes before every later one; so no row stands twice.
abbrev pub Rising : List ℕ → Type 0
Rising rows = (p q : ℕ) → p < q → q < rows_of rows → Before rows p q
