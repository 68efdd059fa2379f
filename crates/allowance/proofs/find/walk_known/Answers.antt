use mathlib.Core.Path.{refl, ◌∙◌}
use native.Mathlib.Omega.{arith}
use Rattle.subsumption.proofs.Accepted.{well_formed}
use Rattle.settings.proofs.SettingsLaws.{settings-long}
use Rattle.matching.proofs.SearchLaws.Problem.{shaped-kept}
use Rattle.matching.proofs.WithinLaws.{written-long, written-front}
use Rattle.allowance.proofs.AnswerLaws.{ids-few, pairs-few, lent, walked_by}
use Rattle.allowance.proofs.find.walk_known.Goals as goal

pub make_problem-requires : goal.make_problem-requires
make_problem-requires c = record { accepted = c.requires.accepted; sets_value = refl; problem_value = refl }

pub put_counts-requires : goal.put_counts-requires
put_counts-requires c = (c.make_problem.ensures.shaped.numbers.long, omega (arith, (settings-long _ _ c.requires.largest_value).1, (well_formed _ c.requires.accepted.passed).few-variables))

pub put_asked-requires : goal.put_asked-requires
put_asked-requires c = c.put_counts.ensures.long ∙ c.make_problem.ensures.shaped.numbers.long

pub load_permitted-high-requires : goal.load_permitted-high-requires
load_permitted-high-requires c = omega (arith, (settings-long _ _ c.requires.largest_value).0, (well_formed _ c.requires.accepted.passed).few-variables)

pub overflow_mul-pairs : goal.overflow_mul-pairs
overflow_mul-pairs c = omega (arith, pairs-few _ _ c.requires.accepted, ids-few _ _ c.requires.accepted)

pub walk-requires : goal.walk-requires
walk-requires c = record { shaped = shaped-kept _ _ (written-front _ _ _ _ _ c.put_counts.ensures c.put_asked.ensures) _ (written-long _ _ _ _ _ c.put_counts.ensures c.put_asked.ensures) c.make_problem.ensures.shaped; permitted_len = (c.load_permitted-high.ensures.long, ids-few _ _ c.requires.accepted, pairs-few _ _ c.requires.accepted) }

pub returns : goal.returns
returns c =
    let lends = lent _ _ _ _ _ _ _ _ c.requires.accepted c.requires.largest_value c.make_problem.ensures.problem c.put_counts.ensures
    c.put_asked.ensures c.load_permitted-high.ensures in walked_by _ _ _ _ _ _ _ lends c.walk.result.ending _
    (c.walk.ensures _ _ lends refl)
