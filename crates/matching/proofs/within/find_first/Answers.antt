use native.Mathlib.Omega.{arith}
use mathlib.Core.Path.{refl, ◌∙◌}
use Rattle.subsumption.proofs.Accepted.{well_formed}
use Rattle.settings.proofs.SettingsLaws.{settings-long}
use Rattle.matching.proofs.SearchLaws.Problem.{shaped-kept, problem-kept}
use Rattle.matching.proofs.WithinLaws.{written-long, written-front, loaded-accepted, loaded-idle, found_among}
use Rattle.matching.proofs.within.find_first.Goals as goal

pub make_problem-requires : goal.make_problem-requires
make_problem-requires c = record { accepted = c.requires.accepted; sets_value = refl; problem_value = refl }

pub put_counts-requires : goal.put_counts-requires
put_counts-requires c = (c.make_problem.ensures.shaped.numbers.long, omega (arith, (settings-long _ _ c.requires.largest_value).1, (well_formed _ c.requires.accepted.passed).few-variables))

pub put_asked-requires : goal.put_asked-requires
put_asked-requires c = c.put_counts.ensures.long ∙ c.make_problem.ensures.shaped.numbers.long

pub load_permitted-high-requires : goal.load_permitted-high-requires
load_permitted-high-requires c = omega (arith, (settings-long _ _ c.requires.largest_value).0, (well_formed _ c.requires.accepted.passed).few-variables)

pub search-requires : goal.search-requires
search-requires c = record { shaped = shaped-kept _ _ (written-front _ _ _ _ _ c.put_counts.ensures c.put_asked.ensures) _ (written-long _ _ _ _ _ c.put_counts.ensures c.put_asked.ensures) c.make_problem.ensures.shaped; permitted_len = c.load_permitted-high.ensures.long }

pub returns : goal.returns
returns c =
    found_among _ _ c.requires.largest_value _ c.load_permitted-high.ensures c.requires.accepted.passed _ _ _ _ c.put_counts.ensures
    c.put_asked.ensures _ (c.search.ensures _ (problem-kept _ _
    (written-front _ _ _ _ _ c.put_counts.ensures c.put_asked.ensures) _ _ c.make_problem.ensures.problem)
    (loaded-accepted _ _ c.requires.largest_value _ c.load_permitted-high.ensures c.requires.accepted.passed)
    (loaded-idle _ _ c.requires.largest_value _ c.load_permitted-high.ensures))
