use Rattle.owl.proofs.JudgingLaws.{begins-deep, begins-not, begins-top, begins-and, begins-some, begins-name}
use Rattle.owl.proofs.judging.begin_class.Goals as goal

pub returns-then-reader-gt32 : goal.returns-then-reader-gt32
returns-then-reader-gt32 c = search begins-deep

pub returns-in-AxiomKey : goal.returns-in-AxiomKey
returns-in-AxiomKey c = search begins-not

pub returns-in-TopKey : goal.returns-in-TopKey
returns-in-TopKey c = search begins-top

pub returns-in-AndKey : goal.returns-in-AndKey
returns-in-AndKey c = search begins-and

pub returns-in-SomeKey : goal.returns-in-SomeKey
returns-in-SomeKey c = search begins-some

pub returns-in-NameOf : goal.returns-in-NameOf
returns-in-NameOf c = search begins-name

pub returns-in-RoleOf : goal.returns-in-RoleOf
returns-in-RoleOf c = search begins-not

pub returns-in-Other : goal.returns-in-Other
returns-in-Other c = search begins-not
