use mathlib.Core.Path.{refl}
use Rattle.subsumption.proofs.Accepted.{well_formed}
use Rattle.matching.proofs.WithinLaws.{buffer-refuses, finds-filled, finds-nothing}
use Rattle.matching.proofs.within.find_set.Goals as goal

pub returns-then-out-count : goal.returns-then-out-count
returns-then-out-count c = buffer-refuses _ _ _ c.args.out.now c.requires.accepted.passed c.requires.largest_value c.if-out-count.true

pub write_choice-requires : goal.write_choice-requires
write_choice-requires c = record { count_bound = (well_formed _ c.requires.accepted.passed).few-variables; count_in_bounds = c.if-out-count.false }

pub returns : goal.returns
returns c =
    finds-filled _ _ _ _ _ c.requires.accepted.passed c.requires.largest_value c.if-out-count.false _ c.in-Some.ensures
    c.write_choice.ensures

pub returns-in_default : goal.returns-in_default
returns-in_default c =
    finds-nothing _ _ _ c.args.out.now _ c.requires.accepted.passed c.requires.largest_value c.if-out-count.false c.in_default.ensures
    refl
