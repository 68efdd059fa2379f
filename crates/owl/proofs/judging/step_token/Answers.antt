use Rattle.owl.proofs.JudgingLaws.{token-opens, token-closes, token-words}
use Rattle.owl.proofs.judging.step_token.Goals as goal

pub returns-then-byte-eq40 : goal.returns-then-byte-eq40
returns-then-byte-eq40 c = search token-opens

pub returns-then-byte-eq41 : goal.returns-then-byte-eq41
returns-then-byte-eq41 c = search token-closes

pub returns : goal.returns
returns c = search token-words
