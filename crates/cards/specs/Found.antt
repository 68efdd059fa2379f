-- What every answer of a finder must be on the sample cards. So no promise is met by a finder that says 10 to every card, that
-- always fills with top, that heeds the first question only, or that gives a filling which is not the first (01, "What each
-- operation owes", c).
use Rattle.std.specs.Prelude.{ℕ, ◌≤◌, ◌≡◌, List, [], ◌∷◌, length, drop}
use Rattle.subsumption.specs.Tables.{Tables, tables}
use Rattle.subsumption.specs.Refusal.{Reply}
use Rattle.settings.specs.Settings.{settings}
use Rattle.matching.specs.Find.{Finds}
use Rattle.matching.specs.Within.{FindsWithin}
use Rattle.allowance.specs.Find.{FindsCounted}
use Rattle.groups.specs.Find.{FindsGroup}
use Rattle.batches.specs.declared.find.Batch.{Batch}
use Rattle.batches.specs.Find.{reply_at, FindsBatch}
use Rattle.cards.specs.Samples.{house, questions, free}

-- A reply: number, place and value.
abbrev pub tells : ℕ → ℕ → ℕ → Reply
tells number place value = record { number = number; place = place; value = value }

-- The choice stands in front of the buffer; the buffer is as it was.
abbrev pub fills : ℕ → List ℕ → List ℕ
fills choice before = choice ∷ drop 1 before

abbrev pub keeps : List ℕ → List ℕ
keeps before = before

-- Whatever stood in a buffer of at least one number: an answer that meets the promise tells this, and leaves the buffer so.
abbrev pub Always : (List ℕ → List ℕ → Reply → Type 0) → Reply → (List ℕ → List ℕ) → Type 0
Always Promise reply left =
    (before after : List ℕ) (told : Reply) → 1 ≤ length before → Promise before after told → (told ≡ reply) × (after ≡ left before)

-- The tables of card I: its first question alone has a filling.
unfoldable pub opposed : Tables
opposed = house (5 ∷ 3 ∷ 0 ∷ 4 ∷ [])

-- Card H's two questions, which share the blank, and a third one without blanks that does not hold (02, A.10).
unfoldable pub grouped : Tables
grouped = house (5 ∷ 3 ∷ 2 ∷ 4 ∷ 0 ∷ 3 ∷ [])

-- The first finder (01).
pub record Found : Type 0 where
  pub card-H : Always (Finds (house questions)) (tells 0 0 0) (fills 4)
  pub card-I : Always (Finds opposed) (tells 10 0 0) keeps
  pub card-J : Always (Finds (house [])) (tells 0 0 0) (fills 0)

-- Within settings (02, A.9): with id 3 barred the filling is {2}; with a largest count of 0 there is none.
pub record FoundWithin : Type 0 where
  pub barred : Always (FindsWithin (house questions) (settings (3 ∷ []) (64 ∷ []))) (tells 0 0 0) (fills 2)
  pub counted : Always (FindsWithin (house questions) (settings (7 ∷ []) (0 ∷ []))) (tells 10 0 0) keeps

-- On an allowance (02, A.4): the count is 4, and an allowance of 3 is spent; with a refusal of the tables it is 0.
pub record FoundCounted : Type 0 where
  pub enough : Always (FindsCounted (house questions) free 4) (tells 0 0 4) (fills 4)
  pub spent : Always (FindsCounted (house questions) free 3) (tells 14 0 3) keeps
  pub refused : Always (FindsCounted (tables [] [] [] [] 9) free 5) (tells 1 3 0) keeps

-- Groups (02, A.10): the failing question spoils its own group and the whole, not the others; a group is more than its first question.
pub record FoundGroup : Type 0 where
  pub joined : Always (FindsGroup grouped free 0) (tells 0 0 0) (fills 4)
  pub ground : Always (FindsGroup grouped free 2) (tells 10 0 0) keeps
  pub whole : Always (Finds grouped) (tells 10 0 0) keeps
  pub others : Always (FindsGroup opposed free 0) (tells 10 0 0) keeps

-- Batches (02, A.11): card H's questions twice, with shares of 5 and 3. The first leaves one over, so the second has the four that
-- it needs.
unfoldable pub twice : Tables
twice = house (5 ∷ 3 ∷ 2 ∷ 4 ∷ 5 ∷ 3 ∷ 2 ∷ 4 ∷ [])

pub record FoundBatch (before after : List ℕ) (batch : Batch) : Type 0 where
  pub ran : (batch.number ≡ 0) × (batch.place ≡ 0)
  pub first : reply_at batch 0 ≡ tells 0 0 4
  pub second : reply_at batch 1 ≡ tells 0 0 4
  pub left : batch.left ≡ 0
  pub written : after ≡ 4 ∷ 4 ∷ drop 2 before

abbrev pub EveryBatch : Type 0
EveryBatch =
    (before after : List ℕ) (batch : Batch) → 2 ≤ length before → FindsBatch twice (4 ∷ 4 ∷ []) (5 ∷ 3 ∷ []) before after batch
    → FoundBatch before after batch
