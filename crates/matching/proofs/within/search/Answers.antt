use native.Mathlib.Omega.{arith}
use mathlib.Core.Path.{refl}
use Rattle.matching.proofs.FindLaws.{all-zeros}
use Rattle.matching.proofs.WithinLaws.{room-none, found_first, found_none}
use Rattle.matching.proofs.within.search.Goals as goal

pub some_solution-some-requires : goal.some_solution-some-requires
some_solution-some-requires c = record { lent = record { shaped = c.requires.shaped; room = room-none _ refl refl; scratch-long = omega arith }; full_len = (c.narrow-full.ensures.result_len, refl, c.narrow-full.ensures.result_len) }

pub returns-in-Solution : goal.returns-in-Solution
returns-in-Solution c =
    found_first _ _ _ _ _ all-zeros refl c.narrow-full.ensures.result_len c.narrow-full.ensures.narrowed _ _ refl refl _
    c.in-Solution.ensures.searched _ c.first_solution.ensures

pub returns-in-Nogood : goal.returns-in-Nogood
returns-in-Nogood c =
    found_none _ _ _ _ _ all-zeros refl c.narrow-full.ensures.result_len c.narrow-full.ensures.narrowed _ _ refl refl _ _
    c.in-Nogood.ensures.searched
