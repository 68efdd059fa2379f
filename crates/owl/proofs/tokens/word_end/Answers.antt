use mathlib.Core.Path.{◌≡◌}
use lib.ListN.{length}
use native.Mathlib.Omega.{arith}
use Rattle.owl.proofs.TokenLaws.{wordy-one, wordy-more, ends-space, ends-bracket, ends-text}
use Rattle.owl.proofs.tokens.word_end.Goals as goal

pub loop-p-init : goal.loop-p-init
loop-p-init c = search wordy-one

pub returns-then-is_space : goal.returns-then-is_space
returns-then-is_space c = search ends-space

pub returns-then-is_bracket : goal.returns-then-is_bracket
returns-then-is_bracket c = search ends-bracket

pub loop-p-preserved : goal.loop-p-preserved
loop-p-preserved c = search wordy-more

pub returns : goal.returns
returns c =
    let e : c.loop-p.p ≡ length c.args.text.now = omega arith in
    rw (← e) (search ends-text)
