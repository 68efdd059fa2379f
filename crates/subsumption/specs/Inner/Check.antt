-- What the checks leave behind for whoever lists the atoms (src/check.rt).
use Rattle.subsumption.specs.Refusal.{Outcome, Done}
use Rattle.std.specs.Prelude.{◌≡◌, List, Bool}
use Rattle.subsumption.specs.Tables.{Tables}
use Rattle.subsumption.specs.Check.{use_fault}
use Rattle.subsumption.specs.Inner.Atoms.{AtomMarks}

-- checks 5 to 7, and the marks where they pass
pub record Used (t : Tables) (marks : List Bool) (answer : Outcome) : Type 0 where
  pub answered : answer ≡ use_fault t
  pub marked : answer ≡ Done → AtomMarks t.concepts t.inclusions t.questions marks
