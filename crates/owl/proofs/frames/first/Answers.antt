use Rattle.owl.proofs.FrameLaws.{first-role, first-item}
use Rattle.owl.proofs.frames.first.Goals as goal

pub returns-then-kind-eq-EXIST : goal.returns-then-kind-eq-EXIST
returns-then-kind-eq-EXIST c = search first-role

pub returns : goal.returns
returns c = search first-item
