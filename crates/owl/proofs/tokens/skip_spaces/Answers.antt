use mathlib.Core.Path.{◌≡◌}
use lib.ListN.{length}
use native.Mathlib.Omega.{arith}
use Rattle.owl.proofs.TokenLaws.{skipping-none, skipping-more, skipping-met, skipping-end}
use Rattle.owl.proofs.tokens.skip_spaces.Goals as goal

pub loop-p-init : goal.loop-p-init
loop-p-init c = search skipping-none

pub returns-then-not-is_space : goal.returns-then-not-is_space
returns-then-not-is_space c = search skipping-met

pub loop-p-preserved : goal.loop-p-preserved
loop-p-preserved c = search skipping-more

pub returns : goal.returns
returns c =
    let e : c.loop-p.p ≡ length c.args.text.now = omega arith in
    rw (← e) (search skipping-end)
