use native.Mathlib.Omega.{arith}
use Rattle.matching.proofs.SearchLaws.Pairs.{mixed-again}
use Rattle.matching.proofs.SearchLaws.Widen.{still-through}
use Rattle.matching.proofs.search.widen.widen.Goals as goal

pub with_others-own-requires : goal.with_others-own-requires
with_others-own-requires c = c.requires.choice_len

pub question_holds-requires : goal.question_holds-requires
question_holds-requires c = record { shaped = c.requires.shaped; in_bounds = (omega arith, c.requires.scratch_len.1) }

pub widen_runs-requires : goal.widen_runs-requires
widen_runs-requires c = record { shaped = c.requires.shaped; scratch_len = (omega arith, c.requires.scratch_len.1); choice_len = (c.requires.choice_len.0, c.requires.choice_len.1) }

pub widen_runs-requires-2 : goal.widen_runs-requires-2
widen_runs-requires-2 c = record { shaped = c.requires.shaped; scratch_len = (omega arith, c.requires.scratch_len.1); choice_len = (c.with_others-own.ensures.long, c.requires.choice_len.1) }

pub returns : goal.returns
returns c = record { mixed = mixed-again _ _ _ _ c.with_others-own.ensures c.widen_runs-2.ensures.mixed; still_fails = still-through _ _ _ _ _ _ c.with_others-own.ensures c.question_holds.result c.question_holds.ensures c.if-question_holds.false _ c.widen_runs-2.ensures.still_fails }
