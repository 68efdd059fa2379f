-- What every table written or updated for the tables of cards K and L must show, whatever stood in a buffer that is long enough. So
-- no promise is met by a table all zeros, all ones or left unwritten (01, "What each operation owes", c), by one that is not
-- closed, or by one with a mark too many (02, A.7).
use Rattle.std.specs.Prelude.{ℕ, ◌<◌, ◌≤◌, ◌≡◌, List, [], ◌∷◌, true, false, length}
use Rattle.subsumption.specs.Tables.{tables}
use Rattle.subsumption.specs.Refusal.{Reply}
use Rattle.subsumption.specs.Table.{marked, Wrote}
use Rattle.incremental.specs.Update.{Updates}
use Rattle.countermodel.specs.Show.{Shows}
use Rattle.cards.specs.Samples.{house, questions, looped}
use Rattle.cards.specs.Found.{tells}

-- A written table: the cards; and as many marks are told as entries at least, and as their square at most (02, A.14).
pub record Shown (before after : List ℕ) (told : Reply) : Type 0 where
  pub card-K : marked after 0 2 ≡ true
  pub card-L : marked after 1 0 ≡ false
  pub done : told ≡ tells 0 0 told.value
  pub least : 3 ≤ told.value
  pub most : told.value ≤ 9

abbrev pub EveryTable : Type 0
EveryTable = (before after : List ℕ) (told : Reply) → 72 ≤ length before → Wrote looped [] before after told → Shown before after told

-- Without entries no mark is told.
abbrev pub EmptyTable : Type 0
EmptyTable = (before after : List ℕ) (told : Reply) → Wrote (tables [] [] [] [] 0) [] before after told → told ≡ tells 0 0 0

-- No mark among the ids.
abbrev pub Unmarked : List ℕ → Type 0
Unmarked bytes = (i j : ℕ) → i < 3 → j < 3 → marked bytes i j ≡ false

-- An updated table is closed; from no marks it has no more than it must; a mark that it has, right or not, stays, and so do bits
-- past the last column.
pub record Updated (before after : List ℕ) (told : Reply) : Type 0 where
  pub done : told ≡ tells 0 0 0
  pub closed : marked after 0 2 ≡ true
  pub smallest : Unmarked before → marked after 1 0 ≡ false
  pub kept : marked before 1 0 ≡ true → marked after 1 0 ≡ true
  pub past : marked after 1 5 ≡ marked before 1 5

abbrev pub EveryUpdate : Type 0
EveryUpdate = (before after : List ℕ) (told : Reply) → 72 ≤ length before → Updates looped [] before after told → Updated before after told

-- A pair that holds, card A's: nothing is shown, and that is judged before the buffer (02, A.5).
abbrev pub NothingShown : Type 0
NothingShown =
    (before after : List ℕ) (told : Reply) → Shows (house questions) (4 ∷ []) 2 3 before after told → (told ≡ tells 15 0 0)
    × (after ≡ before)
