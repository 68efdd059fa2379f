use Rattle.matching.proofs.SearchLaws.Choices.{is_open, is-shut}
use Rattle.matching.proofs.search.interval.Interval.is_undecided.Goals as goal

pub returns-then-has_bit : goal.returns-then-has_bit
returns-then-has_bit c = search is_open

pub returns : goal.returns
returns c = search is-shut
