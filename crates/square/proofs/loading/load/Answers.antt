use native.Mathlib.Omega.{arith}
use Rattle.square.proofs.LoadingLaws.{loaded}
use Rattle.square.proofs.loading.load.Goals as goal

pub turn-requires : goal.turn-requires
turn-requires c = c.load_rows.ensures.long

pub returns : goal.returns
returns c = loaded _ _ _ _ (omega arith) c.load_rows.ensures c.turn.ensures
