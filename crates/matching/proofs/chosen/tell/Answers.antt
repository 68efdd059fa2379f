use Rattle.subsumption.specs.declared.refusal.Refusal.{Refusal}
use Rattle.std.specs.Prelude.{ℕ, Result}
use mathlib.Core.Path.{sym, ap, ◌∙◌}
use Rattle.subsumption.specs.declared.refusal.Code.{Code}
use Rattle.matching.specs.Inner.Chosen.{told_of}
use Rattle.matching.proofs.chosen.tell.Goals as goal

pub returns-in-Ok : goal.returns-in-Ok
returns-in-Ok c = ap (λ (z : Result ℕ Refusal). told_of z c.args.size) (sym c.in-Ok.is)

pub returns-in-Err : goal.returns-in-Err
returns-in-Err c =
    ap (λ (z : Code). record { number = z.number; place = z.place; count = c.args.size }) c.code_of-code.ensures
    ∙ ap (λ (z : Result ℕ Refusal). told_of z c.args.size) (sym c.in-Err.is)
