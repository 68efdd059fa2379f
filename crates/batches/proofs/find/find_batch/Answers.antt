use mathlib.Core.Path.{sym, ◌∙◌}
use Rattle.subsumption.specs.Inner.Lent.{given}
use Rattle.batches.proofs.RunLaws.{batch-ran, batch-refused}
use Rattle.batches.proofs.find.find_batch.Goals as goal

pub find_each-requires : goal.find_each-requires
find_each-requires c = sym c.check_batch-checked.ensures ∙ c.in-Ok.is

pub returns-in-Err : goal.returns-in-Err
returns-in-Err c =
    let a = c.args in
    batch-refused (given a.tables) _ _ a.out.now _ c.code_of-code.result (sym c.in-Err.is ∙ c.check_batch-checked.ensures) c.code_of-code.ensures

pub returns-in-Ok : goal.returns-in-Ok
returns-in-Ok c = batch-ran _ _ _ _ _ c.find_each.result (sym c.check_batch-checked.ensures ∙ c.in-Ok.is) c.find_each.ensures
