use Rattle.matching.specs.Inner.Derivation.{seen}
use native.Mathlib.Omega.{arith}
use Rattle.matching.proofs.DerivationLaws.Rules.{inclusion-past, inclusion-first, inclusion-second, pair_left, pair-right}
use Rattle.matching.proofs.derivation.rules.by_inclusion.Goals as goal

pub returns-then-inclusions-extra : goal.returns-then-inclusions-extra
returns-then-inclusions-extra c = inclusion-past (seen c.args.count c.args.marks.now) c.args.inclusions.now _ _ c.args.extra (omega arith)

pub has_mark-requires : goal.has_mark-requires
has_mark-requires c = record { square = c.requires.square; i_lt_count = (c.requires.left_lt_count.0, pair_left _ c.args.inclusions.now c.args.extra _ c.requires.known (omega arith) c.pair_at-pair.ensures) }

pub has_mark-requires-then-has_mark : goal.has_mark-requires-then-has_mark
has_mark-requires-then-has_mark c = record { square = c.requires.square; i_lt_count = (pair-right _ c.args.inclusions.now c.args.extra _ c.requires.known (omega arith) c.pair_at-pair.ensures, c.requires.left_lt_count.1) }

pub returns-then-has_mark : goal.returns-then-has_mark
returns-then-has_mark c = inclusion-second (seen c.args.count c.args.marks.now) c.args.inclusions.now _ _ c.args.extra _ _ _ (omega arith) c.pair_at-pair.ensures c.has_mark.ensures c.if-has_mark.true c.has_mark-then-has_mark.ensures

pub returns : goal.returns
returns c = inclusion-first (seen c.args.count c.args.marks.now) c.args.inclusions.now _ _ c.args.extra _ _ (omega arith) c.pair_at-pair.ensures c.has_mark.ensures c.if-has_mark.false
