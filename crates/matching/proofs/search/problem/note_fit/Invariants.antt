use Prim.Native.Nat.{◌≤◌}
use mathlib.Core.Path.{◌≡◌}
use Rattle.matching.specs.Inner.Search.Problem.{fit_at}
use Rattle.matching.specs.Inner.Search.Making.{fits_by, Filled}
use Rattle.matching.proofs.SearchLaws.Making.Filling.{up_to}
use Rattle.matching.proofs.search.problem.note_fit.Given as goal

abbrev pub invariant-loop-e : goal.invariant-loop-e
invariant-loop-e l = (l.e ≤ l.count) × (l.at ≡ fit_at l.right l.j) × Filled l.at (up_to (fits_by l.problem l.into l.right l.j) l.e) l.initial.sets l.sets
