use mathlib.Core.Path.{◌∙◌}
use Rattle.std.proofs.lemmas.Bool.{eq-eqb}
use Rattle.owl.proofs.FrameLaws.{room-axiom, room-meet, room-exist}
use Rattle.owl.proofs.frames.has_room.Goals as goal

pub returns-then-kind-eq-AXIOM : goal.returns-then-kind-eq-AXIOM
returns-then-kind-eq-AXIOM c = search room-axiom

pub returns-then-kind-eq-MEET : goal.returns-then-kind-eq-MEET
returns-then-kind-eq-MEET c = λ pending long within. eq-eqb _ 1 c.if-kind-eq-MEET.true ∙ search room-meet

pub returns-else-kind-eq-MEET : goal.returns-else-kind-eq-MEET
returns-else-kind-eq-MEET c = search room-exist
