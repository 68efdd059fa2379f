use Rattle.hermitcasket.proofs.SectionLaws.{roles-absent, roles-present}
use Rattle.hermitcasket.proofs.text.read_roles.Goals as goal

pub returns-then-not-starts_with : goal.returns-then-not-starts_with
returns-then-not-starts_with c = search roles-absent

pub returns : goal.returns
returns c = search roles-present
