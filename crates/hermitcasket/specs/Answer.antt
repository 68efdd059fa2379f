-- The whole program (01, "House text and the program", demand 3, and 02, A.5): what the output is for a text.
use Rattle.std.specs.Prelude.{ℕ, ◌+◌, ◌*◌, ◌/◌, ◌%◌, ◌<◌, ◌≤◌, ◌≡◌, List, Bool, ◌⊎◌, length, get_or, take, replicate, Err, Ok}
use Rattle.subsumption.specs.Tables.{Tables}
use Rattle.subsumption.specs.Atoms.{bit, atoms}
use Rattle.subsumption.specs.Roles.{wider}
use Rattle.subsumption.specs.Refusal.{code_of, or_else, Outcome, Done}
use Rattle.subsumption.specs.Check.{table_fault}
use Rattle.subsumption.specs.Decide.{deciding_fault}
use Rattle.subsumption.specs.Table.{marked}
use Rattle.matching.specs.Solving.{Substitution, SolvesBy, First}
use Rattle.countermodel.specs.Countermodel.{Exactly}
use Rattle.countermodel.specs.Show.{holding_fault}
use Rattle.numerals.specs.Printing.{Output}
use Rattle.hermitcasket.specs.declared.text.Ask.TheVariants.{Fill, Show}
use Rattle.hermitcasket.specs.declared.answer.Plan.{Plan}
use Rattle.hermitcasket.specs.declared.answer.Plan.TheVariants.{Whole, Parts}
use Rattle.hermitcasket.specs.Text.{Judged, accepted, refused, judge}
use Rattle.hermitcasket.specs.Printing.{none_line, filled_text, code_text, shown_text, parts_of, part_text}

-- Tables: the first assignment that solves, or none where no substitution solves, unless the tables are refused.
abbrev pub AnsweredTables : Tables → Outcome → List ℕ → Type 0
AnsweredTables t (Ok tt) output =
    ((assignment : List ℕ) × First t assignment × (output ≡ filled_text (atoms t) assignment))
    ⊎ (((σ : Substitution t) → SolvesBy t σ → ⊥) × (output ≡ none_line))
AnsweredTables t (Err r) output = output ≡ code_text (code_of r)

-- The empty assignment: every choice is 0.
abbrev pub unassigned : Tables → List ℕ
unassigned t = replicate t.variables 0

-- The checks of an asked pair, the last of them by the marks: 1 to 7, 9 and 15.
unfoldable pub shown_fault : Tables → ℕ → ℕ → (ℕ → ℕ → Bool) → Outcome
shown_fault t left right marks = or_else (deciding_fault t (unassigned t) left right) (holding_fault marks left right)

abbrev pub shown_or : Outcome → List ℕ → List ℕ
shown_or (Ok tt) shown = shown
shown_or (Err r) shown = code_text (code_of r)

-- An asked pair: the interpretation that marks give which say exactly what is below what, unless a check refuses.
pub record AnsweredPair (t : Tables) (left right : ℕ) (output : List ℕ) : Type 0 where
  pub marks : ℕ → ℕ → Bool
  pub exactly : deciding_fault t (unassigned t) left right ≡ Done → Exactly t (unassigned t) marks
  pub shown : output ≡ shown_or (shown_fault t left right marks) (shown_text t.concepts t.roles marks)

-- A text: its refusal, or the answer for the tables that it says and what it asks.
abbrev pub AnsweredJudged : Judged → List ℕ → Type 0
AnsweredJudged (accepted t Fill) output = AnsweredTables t (table_fault t) output
AnsweredJudged (accepted t (Show left right)) output = AnsweredPair t left right output
AnsweredJudged (refused r) output = output ≡ code_text (code_of r)

abbrev pub Answered : List ℕ → List ℕ → Type 0
Answered text output = AnsweredJudged (judge text) output

-- ---- an output in parts

-- What is held to print from: the concepts of checked tables, for each role the set of those that count as it, two words of 64 bits
-- a role, and a table of marks.
pub record Held (t : Tables) (concepts into table : List ℕ) : Type 0 where
  pub checked : table_fault t ≡ Done
  pub same : concepts ≡ t.concepts
  pub sets-long : length into ≡ 200
  pub sets : (r s : ℕ) → r < 100 → s < 100 → bit (get_or into (s * 2 + r / 64) 0) (r % 64) ≡ wider t.roles r s
  pub table-long : length table ≡ 4608

-- Part k of the interpretation that is held. The parts of a plan, one behind the other, are the answer: the law `parts-answer`.
abbrev pub IsPart : List ℕ → List ℕ → List ℕ → ℕ → List ℕ → Type 0
IsPart concepts into table k bytes = (t : Tables) → Held t concepts into table → bytes ≡ part_text t.concepts t.roles (marked table) k

-- An asked pair that fails, and what is held to print its interpretation in so many parts.
pub record InParts (judged : Judged) (concepts into table : List ℕ) (parts : ℕ) : Type 0 where
  pub t : Tables
  pub left : ℕ
  pub right : ℕ
  pub asked : judged ≡ accepted t (Show left right)
  pub fails : shown_fault t left right (marked table) ≡ Done
  pub exactly : Exactly t (unassigned t) (marked table)
  pub held : Held t concepts into table
  pub all : parts ≡ parts_of concepts

-- The whole output stands in the buffer; or it goes in parts, the buffer is as it was, and the concepts stand in front of their array.
abbrev pub Planned : Judged → Plan → List ℕ → List ℕ → List ℕ → List ℕ → List ℕ → Type 0
Planned judged (Whole size) concepts into table before after = Output (AnsweredJudged judged) before size after
Planned judged (Parts count parts) concepts into table before after =
    (count * 3 ≤ length concepts) × InParts judged (take (count * 3) concepts) into table parts × (after ≡ before)
