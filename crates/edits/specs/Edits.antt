-- Small edits (02, A.13): tables with more inclusions, or with more questions.
use Rattle.subsumption.specs.Refusal.{Done}
use Rattle.std.specs.Prelude.{◌≡◌}
use Rattle.subsumption.specs.Tables.{Tables}
use Rattle.subsumption.specs.Atoms.{atoms}
use Rattle.subsumption.specs.Check.{table_fault}
use Rattle.incremental.specs.Fresh.{PairsAmong}

-- Inclusions were added, and nothing else; the tables were accepted and are. The atoms may be more, and then the positions of the
-- old ones move.
pub record MoreInclusions (older newer : Tables) : Type 0 where
  pub accepted-before : table_fault older ≡ Done
  pub accepted-after : table_fault newer ≡ Done
  pub concepts : newer.concepts ≡ older.concepts
  pub inclusions : PairsAmong older.inclusions newer.inclusions
  pub questions : newer.questions ≡ older.questions
  pub roles : newer.roles ≡ older.roles
  pub variables : newer.variables ≡ older.variables

-- Questions were added that bring no atom, and nothing else; the tables were accepted and are.
pub record MoreQuestions (older newer : Tables) : Type 0 where
  pub accepted-before : table_fault older ≡ Done
  pub accepted-after : table_fault newer ≡ Done
  pub concepts : newer.concepts ≡ older.concepts
  pub inclusions : newer.inclusions ≡ older.inclusions
  pub questions : PairsAmong older.questions newer.questions
  pub roles : newer.roles ≡ older.roles
  pub variables : newer.variables ≡ older.variables
  pub no-new-atom : atoms newer ≡ atoms older
