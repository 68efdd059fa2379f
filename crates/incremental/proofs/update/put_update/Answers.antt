use native.Mathlib.Omega.{arith}
use Rattle.incremental.proofs.UpdateLaws.{update-told, update-room, update-done, update-few, update-pairs, update-roles, update-readable, update-ready}
use mathlib.Core.Path.{refl}
use Rattle.subsumption.proofs.Refusals.{handed_up}
use Rattle.incremental.proofs.update.put_update.Goals as goal

pub returns-in_err-check_told : goal.returns-in_err-check_told
returns-in_err-check_told c = rw (handed_up _ c.from_residual.ensures) (update-told _ _ _ _ _ _ _ _ c.check_told.ensures _ c.in_err-check_told.was)

pub overflow_mul-count : goal.overflow_mul-count
overflow_mul-count c = omega (arith, update-few _ _ _ _ _ c.args.told.now c.requires)

pub overflow_mul-result : goal.overflow_mul-result
overflow_mul-result c = omega (arith, update-few _ _ _ _ _ c.args.told.now c.requires)

pub returns-then-table-count : goal.returns-then-table-count
returns-then-table-count c = update-room _ _ _ _ _ _ _ _ c.check_told.ensures c.in_ok-check_told.was (omega arith)

pub read_told-requires : goal.read_told-requires
read_told-requires c = record { readable = update-readable _ _ _ _ _ _ c.requires _ c.check_told.ensures c.in_ok-check_told.was; choices_value = refl }

pub load-requires : goal.load-requires
load-requires c = record { square_len = refl; count_bound = (update-few _ _ _ _ _ c.args.told.now c.requires, omega arith) }

pub close-requires : goal.close-requires
close-requires c = record { ready = update-ready _ _ _ _ _ c.args.told.now c.requires _ c.read_told.ensures.long; inclusions_bound = update-pairs _ _ _ _ _ c.args.told.now c.requires; low_roles = update-roles _ _ _ _ _ c.args.told.now c.requires; square = c.load.ensures.whole }

pub store-requires : goal.store-requires
store-requires c = record { square_len = c.close.ensures.grown.square.long; count_bound = (update-few _ _ _ _ _ c.args.told.now c.requires, omega arith) }

pub shape_of-table : goal.shape_of-table
shape_of-table c = omega (arith, c.store.ensures.size)

pub returns : goal.returns
returns c = update-done _ _ _ _ _ _ _ _ c.check_told.ensures c.in_ok-check_told.was _ _ _ _ (omega arith) c.read_told.ensures c.load.ensures c.close.ensures c.store.ensures
