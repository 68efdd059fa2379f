use Rattle.subsumption.proofs.Refusals.{handed_up}
use Rattle.owl.proofs.JudgingLaws.{token-some, judging-none, judging-more, judging-stops, judging-done}
use Rattle.owl.proofs.judging.judge_text.Goals as goal

pub loop-at-init : goal.loop-at-init
loop-at-init c = search judging-none

pub token_end-end-requires : goal.token_end-end-requires
token_end-end-requires c = record { at_in_bounds = c.loop-at-test.true; at_value = c.loop-at.invariant.here c.loop-at-test.true }

pub step_token-requires : goal.step_token-requires
step_token-requires c = record { token_nonzero = token-some _ _ _ c.token_end-end.ensures; fits = c.loop-at.invariant.fits }

pub returns-in_err-reader : goal.returns-in_err-reader
returns-in_err-reader c = rw (handed_up _ c.from_residual.ensures) (judging-stops _ _ _ _ _ _ _ c.loop-at.invariant _ c.token_end-end.ensures _ _ _ _ _ c.step_token.ensures _ c.in_err-reader.was)

pub loop-at-preserved : goal.loop-at-preserved
loop-at-preserved c = judging-more _ _ _ _ _ _ _ c.loop-at.invariant _ c.token_end-end.ensures _ _ _ _ _ c.step_token.ensures _ c.in_ok-reader.was _ c.skip_spaces-at-in-loop-at.ensures

pub returns : goal.returns
returns c = search judging-done
