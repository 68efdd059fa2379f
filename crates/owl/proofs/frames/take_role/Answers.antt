use Rattle.owl.proofs.FrameLaws.{roles, roles-not}
use Rattle.owl.proofs.frames.take_role.Goals as goal

pub returns-in-RoleOf : goal.returns-in-RoleOf
returns-in-RoleOf c = search roles

pub returns-in-AxiomKey : goal.returns-in-AxiomKey
returns-in-AxiomKey c = search roles-not

pub returns-in-TopKey : goal.returns-in-TopKey
returns-in-TopKey c = search roles-not

pub returns-in-AndKey : goal.returns-in-AndKey
returns-in-AndKey c = search roles-not

pub returns-in-SomeKey : goal.returns-in-SomeKey
returns-in-SomeKey c = search roles-not

pub returns-in-NameOf : goal.returns-in-NameOf
returns-in-NameOf c = search roles-not

pub returns-in-Other : goal.returns-in-Other
returns-in-Other c = search roles-not
