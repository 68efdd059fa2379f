use Rattle.owl.proofs.JudgingLaws.{deep-bad, deep-class}
use Rattle.owl.proofs.judging.begin_deep.Goals as goal

pub returns-in-AxiomKey : goal.returns-in-AxiomKey
returns-in-AxiomKey c = search deep-bad

pub returns-in-TopKey : goal.returns-in-TopKey
returns-in-TopKey c = search deep-class

pub returns-in-AndKey : goal.returns-in-AndKey
returns-in-AndKey c = search deep-class

pub returns-in-SomeKey : goal.returns-in-SomeKey
returns-in-SomeKey c = search deep-class

pub returns-in-NameOf : goal.returns-in-NameOf
returns-in-NameOf c = search deep-class

pub returns-in-RoleOf : goal.returns-in-RoleOf
returns-in-RoleOf c = search deep-bad

pub returns-in-Other : goal.returns-in-Other
returns-in-Other c = search deep-bad
