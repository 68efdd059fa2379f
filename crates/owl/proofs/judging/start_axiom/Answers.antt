use Rattle.owl.proofs.JudgingLaws.{starts, starts-not}
use Rattle.owl.proofs.judging.start_axiom.Goals as goal

pub returns-in-AxiomKey : goal.returns-in-AxiomKey
returns-in-AxiomKey c = search starts

pub returns-in-TopKey : goal.returns-in-TopKey
returns-in-TopKey c = search starts-not

pub returns-in-AndKey : goal.returns-in-AndKey
returns-in-AndKey c = search starts-not

pub returns-in-SomeKey : goal.returns-in-SomeKey
returns-in-SomeKey c = search starts-not

pub returns-in-NameOf : goal.returns-in-NameOf
returns-in-NameOf c = search starts-not

pub returns-in-RoleOf : goal.returns-in-RoleOf
returns-in-RoleOf c = search starts-not

pub returns-in-Other : goal.returns-in-Other
returns-in-Other c = search starts-not
