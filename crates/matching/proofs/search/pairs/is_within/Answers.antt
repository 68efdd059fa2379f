use Rattle.std.proofs.Common.{rules, tests}
use Rattle.std.proofs.lemmas.Iterator.{cases_from_all, YieldsList-from_slice, YieldsList-from_zip}
use Rattle.matching.proofs.SearchLaws.Pairs.{Covered, within-cases}
use Rattle.matching.proofs.search.pairs.is_within.Goals as goal

pub returns : goal.returns
returns c =
    within-cases _ _ c.requires.0 c.requires.1 _
    (cases_from_all c.all.new.self _ _ Covered (λ p. Covered p → ⊥) c.all.ensures.ran
    (YieldsList-from_zip (YieldsList-from_slice c.args.a cc) (YieldsList-from_slice c.args.b cc)) (λ x q k. search (rules, tests)) (λ x q k. search (rules, tests)))
