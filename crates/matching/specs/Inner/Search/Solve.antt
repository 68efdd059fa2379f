-- What the steps of the search promise.
use Rattle.subsumption.specs.Refusal.{Done}
use Rattle.std.specs.Prelude.{ℕ, ◌<◌, ◌≤◌, ◌≡◌, List, Bool, true, false, length, take, Option, Some, None}
use Rattle.subsumption.specs.Tables.{Tables, pairs_of, right_of, tree, has_variable}
use Rattle.subsumption.specs.Check.{assignment_fault}
use Rattle.matching.specs.declared.search.interval.Interval.{Interval}
use Rattle.matching.specs.declared.search.solve.Answer.{Answer}
use Rattle.matching.specs.declared.search.solve.Answer.TheVariants.{Solution, Nogood}
use Rattle.matching.specs.declared.search.solve.Step.{Step}
use Rattle.matching.specs.declared.search.solve.Step.TheVariants.{Answered, Splits}
use Rattle.matching.specs.Among.{SolvesAmong}
use Rattle.matching.specs.Inner.Search.{HoldsAt, Within, SolutionIn, NoSolution}
use Rattle.matching.specs.Inner.Search.Problem.{Problem, AskedAt}
use Rattle.matching.specs.Inner.Search.Pairs.{Changed, Joined, Met}
use Rattle.matching.specs.Inner.Search.Interval.{IntervalOf, undecided}
use Rattle.matching.specs.Inner.Search.Nogoods.{used, low_at, high_at, Nogoods}

-- The first question of a kind that fails under the assignment, or the number of questions if all of the kind hold.
pub record FirstFailing (t : Tables) (assignment : List ℕ) (kind : ℕ → Type 0) (m : ℕ) : Type 0 where
  pub low : m ≤ pairs_of t.questions
  pub of-kind : m < pairs_of t.questions → kind m
  pub fails : m < pairs_of t.questions → HoldsAt t assignment m → ⊥
  pub before : (n : ℕ) → n < m → kind n → HoldsAt t assignment n

-- An asked question whose right side holds a variable, or not.
abbrev pub AskedOf : Tables → List ℕ → Bool → ℕ → Type 0
AskedOf t problem right n = AskedAt problem n × (has_variable (tree t.concepts (right_of t.questions n)) ≡ right)

abbrev pub FailingOf : List ℕ → List ℕ → List ℕ → Bool → ℕ → Type 0
FailingOf sets problem choice right m =
    (t : Tables) → Problem t sets problem → assignment_fault t (take t.variables choice) ≡ Done
    → FirstFailing t (take t.variables choice) (AskedOf t problem right) m

-- An asked question that fails under the assignment, or the number of questions if all that are asked hold.
pub record SomeFailing (t : Tables) (problem assignment : List ℕ) (m : ℕ) : Type 0 where
  pub low : m ≤ pairs_of t.questions
  pub asked : m < pairs_of t.questions → AskedAt problem m
  pub fails : m < pairs_of t.questions → HoldsAt t assignment m → ⊥
  pub hold : pairs_of t.questions ≤ m → SolvesAmong (AskedAt problem) t assignment

abbrev pub Failing : List ℕ → List ℕ → List ℕ → ℕ → Type 0
Failing sets problem choice m =
    (t : Tables) → Problem t sets problem → assignment_fault t (take t.variables choice) ≡ Done
    → SomeFailing t problem (take t.variables choice) m

-- An interval around another that holds no solution.
pub record Refuted (t : Tables) (problem low high low₁ high₁ : List ℕ) : Type 0 where
  pub low-long : length low₁ ≡ 8
  pub high-long : length high₁ ≡ 8
  pub above : Within low₁ low
  pub below : Within high high₁
  pub none : NoSolution t problem low₁ high₁

-- An asked question that fails at the low side gives an interval around it.
abbrev pub RefutedBy : List ℕ → List ℕ → List ℕ → List ℕ → ℕ → List ℕ → List ℕ → Type 0
RefutedBy sets problem full low m low₁ high₁ =
    (t : Tables) → Problem t sets problem → m < pairs_of t.questions → AskedAt problem m → IntervalOf t low full
    → (HoldsAt t (take t.variables low) m → ⊥)
    → Refuted t problem low low low₁ high₁

-- A search's answer names no order: a solution between, or an interval around that holds none.
abbrev pub Answers : Tables → List ℕ → List ℕ → List ℕ → Answer → Type 0
Answers t problem low high (Solution choice) = SolutionIn t problem low high choice
Answers t problem low high (Nogood n) = Refuted t problem low high n.low n.high

-- It is eight numbers a side, whatever the tables.
abbrev pub Long : Answer → Type 0
Long (Solution choice) = length choice ≡ 8
Long (Nogood n) = (length n.low ≡ 8) × (length n.high ≡ 8)

-- What a search in an interval gives of whatever tables the sets and numbers are: nogoods stay nogoods.
abbrev pub Searched : List ℕ → List ℕ → List ℕ → List ℕ → List ℕ → List ℕ → List ℕ → (Tables → Type 0) → Type 0
Searched sets problem full low high before after Given =
    (t : Tables) → Problem t sets problem → IntervalOf t low high → IntervalOf t high full → Nogoods t problem before → Given t
    × Nogoods t problem after

-- What a step of it gives: an answer, or a pair of the interval that is not decided.
abbrev pub Stepped : List ℕ → List ℕ → List ℕ → List ℕ → List ℕ → List ℕ → List ℕ → Step → Type 0
Stepped sets problem full low high before after (Answered answer) =
    Long answer × Searched sets problem full low high before after (λ t. Answers t problem low high answer)
Stepped sets problem full low high before after (Splits split) =
    ((split.pair < 512) × (undecided low high split.pair ≡ true)) × Searched sets problem full low high before after (λ t. Unit {0})

abbrev pub CanSplit : List ℕ → List ℕ → ℕ → Bool → Type 0
CanSplit low high pair true = (pair < 512) × (undecided low high pair ≡ true)
CanSplit low high pair false = Unit {0}

-- The intervals with a pair and without it, made one.
pub record Merged (low₁ high₁ low₂ high₂ : List ℕ) (k q : ℕ) (low high : List ℕ) : Type 0 where
  pub fewer : List ℕ
  pub more : List ℕ
  pub left : Changed low₁ fewer k q false
  pub taken : Changed high₂ more k q true
  pub joined : Joined fewer low₂ low
  pub met : Met high₁ more high

-- An interval that is kept among the nogoods.
pub record Known (store low₁ high₁ : List ℕ) : Type 0 where
  pub place : ℕ
  pub kept : place < used store
  pub low-here : low₁ ≡ low_at store place
  pub high-here : high₁ ≡ high_at store place
  pub low-long : length low₁ ≡ 8
  pub high-long : length high₁ ≡ 8

abbrev pub Recalled : List ℕ → Option Interval → Type 0
Recalled store (Some n) = Known store n.low n.high
Recalled store None = Unit {0}

-- The other interval is around.
pub record Around (low high low₁ high₁ : List ℕ) : Type 0 where
  pub above : Within low₁ low
  pub below : Within high high₁

abbrev pub Shutting : List ℕ → List ℕ → List ℕ → List ℕ → Bool → Type 0
Shutting low high low₁ high₁ true = Around low high low₁ high₁
Shutting low high low₁ high₁ false = Unit {0}
