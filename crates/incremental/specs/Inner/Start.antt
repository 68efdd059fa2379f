-- Rules 1 and 2 (src/start.rt): the sets of the ids of a name, and the marks that ask for none.
use Rattle.std.specs.Prelude.{ℕ, ◌*◌, ◌<◌, ◌≡◌, List, Bool, true, length}
use Rattle.subsumption.specs.Tables.{name_at, top_at, node, count_of}
use Rattle.square.specs.Inner.Square.{on_line, in_row, Square}
use Rattle.incremental.specs.Inner.Lines.{StartLines}
use Rattle.incremental.specs.Inner.Pass.{Within}

-- for each name the ids below i that have it
pub record NamesTo (concepts names : List ℕ) (i : ℕ) : Type 0 where
  pub long : length names ≡ 3000
  pub only : (n j : ℕ) → n < 1000 → j < 192 → on_line names (n * 3) j ≡ true → (j < i) × (node concepts j ≡ name_at n)
  pub every : (n j : ℕ) → n < 1000 → j < i → node concepts j ≡ name_at n → on_line names (n * 3) j ≡ true

-- rules 1 and 2, at the id i
pub record StartAt (concepts square : List ℕ) (i : ℕ) : Type 0 where
  pub same : in_row square i i ≡ true
  pub named : (j n : ℕ) → j < count_of concepts → node concepts i ≡ name_at n → node concepts j ≡ name_at n → in_row square i j ≡ true
  pub top : (k : ℕ) → k < count_of concepts → node concepts i ≡ top_at → in_row square k i ≡ true

-- Marks come in, none goes, and all are in every relation with the law that holds those before.
pub record Grown (count : ℕ) (Law : (ℕ → ℕ → Bool) → Type 0) (before after : List ℕ) : Type 0 where
  pub square : Square after
  pub kept : (i j : ℕ) → i < 192 → j < 192 → in_row before i j ≡ true → in_row after i j ≡ true
  pub sound : (R : ℕ → ℕ → Bool) → Law R → Within count R before → Within count R after

pub record Begun (concepts before after : List ℕ) : Type 0 where
  pub grown : Grown (count_of concepts) (StartLines concepts) before after
  pub lines : StartLines concepts (in_row after)

pub record BegunAt (concepts before after : List ℕ) (i : ℕ) : Type 0 where
  pub grown : Grown (count_of concepts) (StartLines concepts) before after
  pub here : StartAt concepts after i
