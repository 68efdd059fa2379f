-- What the checks answer: the examples of the refusal table (01), tables with two faults, where the order of the checks decides,
-- and for each of the eight rules a derivation that is right and one that is not. No check that is left out or comes late, and no
-- checker that lets a rule slip, gives these.
use Rattle.std.specs.Prelude.{ℕ, ◌≡◌, List, [], ◌∷◌}
use Rattle.subsumption.specs.Tables.{Tables, tables}
use Rattle.subsumption.specs.Refusal.{reply_of, Outcome}
use Rattle.subsumption.specs.Check.{table_fault, pair_fault, assignment_fault}
use Rattle.subsumption.specs.Table.{writing_fault}
use Rattle.settings.specs.Settings.{settings}
use Rattle.matching.specs.Within.{within_fault}
use Rattle.matching.specs.Derivation.{checking_fault}
use Rattle.matching.specs.Writer.{deriving_fault}
use Rattle.cards.specs.Samples.{house, questions}
use Rattle.cards.specs.Found.{tells}

-- The checks answer this number at this place; 0 at 0 is done.
abbrev pub Judges : Outcome → ℕ → ℕ → Type 0
Judges outcome number place = reply_of outcome ≡ tells number place 0

-- A blank, with pairs in the other tables.
abbrev pub blank : List ℕ → List ℕ → List ℕ → Tables
blank inclusions questions roles = tables (4 ∷ 0 ∷ 0 ∷ []) inclusions questions roles 1

-- The examples of 01's table, each by its number.
pub record Examples : Type 0 where
  pub no-1 : Judges (table_fault (tables [] [] [] [] 9)) 1 3
  pub no-2 : Judges (table_fault (tables (1 ∷ 1000 ∷ 0 ∷ []) [] [] [] 0)) 2 0
  pub no-3 : Judges (table_fault (tables (2 ∷ 1 ∷ 0 ∷ []) [] [] [] 0)) 3 0
  pub no-4 : Judges (table_fault (tables [] (0 ∷ 0 ∷ []) [] [] 0)) 4 0
  pub no-5 : Judges (table_fault (blank (0 ∷ 0 ∷ []) [] [])) 5 0
  pub no-6 : Judges (table_fault (blank [] (0 ∷ 0 ∷ []) [])) 6 0
  pub no-16 : Judges (table_fault (tables [] [] [] (0 ∷ 99 ∷ 0 ∷ 100 ∷ []) 0)) 16 1
  pub no-8 : Judges (writing_fault (tables (0 ∷ 0 ∷ 0 ∷ 0 ∷ 0 ∷ 0 ∷ []) [] [] [] 0) [] 47) 8 48
  pub no_9 : Judges (assignment_fault (tables [] [] [] [] 1) (1 ∷ [])) 9 0
  pub no-12 : Judges (checking_fault (house questions) (4 ∷ []) 2 3 []) 12 0

-- Two faults at once: the check that comes first decides, and within one check the lowest place.
pub record InOrder : Type 0 where
  pub first-1 : Judges (table_fault (tables (1 ∷ 1000 ∷ 0 ∷ []) [] [] [] 9)) 1 3
  pub first-2 : Judges (table_fault (tables (2 ∷ 5 ∷ 0 ∷ 1 ∷ 1000 ∷ 0 ∷ []) [] [] [] 0)) 2 1
  pub first-3 : Judges (table_fault (tables (2 ∷ 5 ∷ 0 ∷ []) (7 ∷ 7 ∷ []) [] [] 0)) 3 0
  pub first-4 : Judges (table_fault (blank (0 ∷ 0 ∷ 0 ∷ 1 ∷ []) [] [])) 4 1
  pub first-5 : Judges (table_fault (blank (0 ∷ 0 ∷ []) (0 ∷ 0 ∷ []) [])) 5 0
  pub first-6 : Judges (table_fault (blank [] (0 ∷ 0 ∷ []) (100 ∷ 0 ∷ []))) 6 0
  pub lowest : Judges (table_fault (tables (0 ∷ 0 ∷ 0 ∷ 5 ∷ 0 ∷ 0 ∷ 0 ∷ 1 ∷ 0 ∷ []) [] [] [] 0)) 2 1
  pub pair-before-5 : Judges (pair_fault (blank (0 ∷ 0 ∷ []) [] []) 0 1) 4 0
  pub number-9-before-8 : Judges (writing_fault (house questions) (8 ∷ []) 0) 9 0
  pub number-9-before-12 : Judges (checking_fault (house questions) [] 2 3 []) 9 1
  pub number-8-before-11 : Judges (deriving_fault (house questions) (0 ∷ []) 3 2 143) 8 144
  pub number-19-before-8 : Judges (within_fault (house questions) (settings (7 ∷ []) (65 ∷ [])) 0) 19 0

-- Two names alike, top, "some" of a narrow and of a wide role, "and", a blank, and a name above the first "some".
unfoldable pub ruled : Tables
ruled =
    tables
    (1 ∷ 5 ∷ 0 ∷ 1 ∷ 5 ∷ 0 ∷ 0 ∷ 0 ∷ 0 ∷ 2 ∷ 1 ∷ 0 ∷ 2 ∷ 2 ∷ 1 ∷ 3 ∷ 0 ∷ 3 ∷ 4 ∷ 0 ∷ 0 ∷ 1 ∷ 9 ∷ 0 ∷ [])
    (3 ∷ 7 ∷ []) [] (1 ∷ 2 ∷ []) 1

-- The checker on lines for a pair of these, with 3 and 7 chosen for the blank.
abbrev pub Checks : ℕ → ℕ → List ℕ → ℕ → ℕ → Type 0
Checks left right lines number place = Judges (checking_fault ruled (6 ∷ []) left right lines) number place

pub record Derived : Type 0 where
  pub rule-1 : Checks 0 1 (1 ∷ 0 ∷ 1 ∷ 0 ∷ []) 0 0
  pub rule-1-other-name : Checks 0 7 (1 ∷ 0 ∷ 7 ∷ 0 ∷ []) 12 0
  pub rule-2 : Checks 0 2 (2 ∷ 0 ∷ 2 ∷ 0 ∷ []) 0 0
  pub rule-2-turned-round : Checks 2 0 (2 ∷ 2 ∷ 0 ∷ 0 ∷ []) 12 0
  pub rule-3 : Checks 5 0 (1 ∷ 0 ∷ 0 ∷ 0 ∷ 3 ∷ 5 ∷ 0 ∷ 0 ∷ []) 0 0
  pub rule-3-other-member : Checks 5 0 (1 ∷ 0 ∷ 0 ∷ 0 ∷ 3 ∷ 5 ∷ 0 ∷ 1 ∷ []) 12 1
  pub rule-4 : Checks 5 5 (1 ∷ 0 ∷ 0 ∷ 0 ∷ 3 ∷ 5 ∷ 0 ∷ 0 ∷ 1 ∷ 3 ∷ 3 ∷ 0 ∷ 3 ∷ 5 ∷ 3 ∷ 1 ∷ 4 ∷ 5 ∷ 5 ∷ 0 ∷ []) 0 0
  pub rule-4-one-member : Checks 5 5 (1 ∷ 0 ∷ 0 ∷ 0 ∷ 3 ∷ 5 ∷ 0 ∷ 0 ∷ 4 ∷ 5 ∷ 5 ∷ 0 ∷ []) 12 2
  pub rule-5 : Checks 3 4 (1 ∷ 0 ∷ 1 ∷ 0 ∷ 5 ∷ 3 ∷ 4 ∷ 0 ∷ []) 0 0
  pub rule-5-narrow-for-wide : Checks 4 3 (1 ∷ 1 ∷ 0 ∷ 0 ∷ 5 ∷ 4 ∷ 3 ∷ 0 ∷ []) 12 1
  pub rule-6 : Checks 3 7 (1 ∷ 3 ∷ 3 ∷ 0 ∷ 1 ∷ 7 ∷ 7 ∷ 0 ∷ 6 ∷ 3 ∷ 7 ∷ 0 ∷ []) 0 0
  pub rule-6-no-inclusion : Checks 3 7 (1 ∷ 3 ∷ 3 ∷ 0 ∷ 1 ∷ 7 ∷ 7 ∷ 0 ∷ 6 ∷ 3 ∷ 7 ∷ 1 ∷ []) 12 2
  pub rule-7 : Checks 6 7 (1 ∷ 7 ∷ 7 ∷ 0 ∷ 7 ∷ 6 ∷ 7 ∷ 7 ∷ []) 0 0
  pub rule-7-not-chosen : Checks 6 0 (1 ∷ 0 ∷ 0 ∷ 0 ∷ 7 ∷ 6 ∷ 0 ∷ 0 ∷ []) 12 1
  pub rule-8 : Checks 3 6 (1 ∷ 3 ∷ 3 ∷ 0 ∷ 1 ∷ 7 ∷ 7 ∷ 0 ∷ 6 ∷ 3 ∷ 7 ∷ 0 ∷ 8 ∷ 3 ∷ 6 ∷ 0 ∷ []) 0 0
  pub rule-8-one-of-two : Checks 3 6 (1 ∷ 3 ∷ 3 ∷ 0 ∷ 8 ∷ 3 ∷ 6 ∷ 0 ∷ []) 12 1
  pub later-premise : Checks 5 0 (3 ∷ 5 ∷ 0 ∷ 0 ∷ 1 ∷ 0 ∷ 0 ∷ 0 ∷ []) 12 0
  pub another-pair-last : Checks 0 1 (1 ∷ 0 ∷ 0 ∷ 0 ∷ []) 12 1
