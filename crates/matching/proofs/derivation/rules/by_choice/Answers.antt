use Rattle.std.proofs.Common.{sym}
use Rattle.subsumption.specs.Rules.{on_variable}
use Rattle.subsumption.proofs.Bools.{both-none}
use Rattle.matching.proofs.DerivationLaws.Rules.{chosen-past}
use Rattle.matching.proofs.derivation.rules.by_choice.Goals as goal

pub returns-then-count-extra : goal.returns-then-count-extra
unfolding on_variable
returns-then-count-extra c = rw c.in-Variable.is (sym (both-none _ _ (sym (chosen-past _ _ _ _ c.requires.known_atoms c.if-count-extra.true))))
