use Rattle.subsumption.specs.Tables.{node}
use mathlib.Core.Path.{refl}
use Rattle.matching.proofs.DerivationLaws.Dispatch.{row-rising, row-numbered, atoms-in, inclusions-in, rule-member, rule-inclusion, rule-choice, rule-name, rule-top, rule-both, rule-inner, rule-all, rule-extra, rule-unknown}
use Rattle.matching.proofs.DerivationLaws.Dispatch.{row_low}
use Rattle.matching.proofs.derivation.rules.by_rule.Goals as goal

pub node_at-l-requires : goal.node_at-l-requires
node_at-l-requires c = c.requires.left_bound.0

pub node_at-r-requires : goal.node_at-r-requires
node_at-r-requires c = c.requires.left_bound.1

pub by_member-requires : goal.by_member-requires
by_member-requires c = record { square = c.requires.square; rising = row-rising _ _ _ _ c.requires.ready _ _ c.requires.left_bound.0 c.node_at-l.ensures; right_lt_count = c.requires.left_bound.1 }

pub returns-then-rule-eq3 : goal.returns-then-rule-eq3
returns-then-rule-eq3 c = rule-member _ _ _ _ _ _ _ _ _ _ _ (node c.args.concepts.now c.args.right) _ c.node_at-l.ensures refl c.if-rule-eq3.true c.by_member.ensures

pub by_inclusion-requires : goal.by_inclusion-requires
by_inclusion-requires c = record { square = c.requires.square; known = inclusions-in _ _ _ _ c.requires.ready; left_lt_count = c.requires.left_bound }

pub returns-then-rule-eq6 : goal.returns-then-rule-eq6
returns-then-rule-eq6 c = rule-inclusion _ _ _ _ _ _ _ _ _ _ (node c.args.concepts.now c.args.left) (node c.args.concepts.now c.args.right) _ refl refl c.if-rule-eq6.true c.by_inclusion.ensures

pub by_choice-requires : goal.by_choice-requires
by_choice-requires c = record { square = c.requires.square; known_atoms = atoms-in _ _ _ _ c.requires.ready; numbered = row-numbered _ _ _ _ c.requires.ready _ _ c.node_at-l-then-rule-eq7.ensures; right_lt_count = c.requires.left_bound.1 }

pub returns-then-rule-eq7 : goal.returns-then-rule-eq7
returns-then-rule-eq7 c = rule-choice _ _ _ _ _ _ _ _ _ _ _ (node c.args.concepts.now c.args.right) _ c.node_at-l-then-rule-eq7.ensures refl c.if-rule-eq7.true c.by_choice.ensures

pub returns-then-extra-ne0 : goal.returns-then-extra-ne0
returns-then-extra-ne0 c = rule-extra _ _ _ _ _ _ _ _ _ _ c.if-rule-eq3.false c.if-rule-eq6.false c.if-rule-eq7.false c.if-extra-ne0.true

pub returns-then-rule-eq1 : goal.returns-then-rule-eq1
returns-then-rule-eq1 c = rule-name _ _ _ _ _ _ _ _ _ _ _ _ _ c.node_at-l-then-rule-eq1.ensures c.node_at-r.ensures c.if-rule-eq1.true c.if-extra-ne0.false c.by_name.ensures

pub returns-then-rule-eq2 : goal.returns-then-rule-eq2
returns-then-rule-eq2 c = rule-top _ _ _ _ _ _ _ _ _ _ (node c.args.concepts.now c.args.left) _ _ refl c.node_at-r-then-rule-eq2.ensures c.if-rule-eq2.true c.if-extra-ne0.false c.by_top.ensures

pub by_both-requires : goal.by_both-requires
by_both-requires c = record { square = c.requires.square; rising = row-rising _ _ _ _ c.requires.ready _ _ c.requires.left_bound.1 c.node_at-r-then-rule-eq4.ensures; left_lt_count = c.requires.left_bound.0 }

pub returns-then-rule-eq4 : goal.returns-then-rule-eq4
returns-then-rule-eq4 c = rule-both _ _ _ _ _ _ _ _ _ _ (node c.args.concepts.now c.args.left) _ _ refl c.node_at-r-then-rule-eq4.ensures c.if-rule-eq4.true c.if-extra-ne0.false c.by_both.ensures

pub by_inner-requires : goal.by_inner-requires
by_inner-requires c = record { low_role = row_low _ _ _ _ c.requires.ready _ _ c.node_at-l-then-rule-eq5.ensures; low_role_2 = row_low _ _ _ _ c.requires.ready _ _ c.node_at-r-then-rule-eq5.ensures; square = c.requires.square; rising = row-rising _ _ _ _ c.requires.ready _ _ c.requires.left_bound.0 c.node_at-l-then-rule-eq5.ensures; rising_2 = row-rising _ _ _ _ c.requires.ready _ _ c.requires.left_bound.1 c.node_at-r-then-rule-eq5.ensures }

pub returns-then-rule-eq5 : goal.returns-then-rule-eq5
returns-then-rule-eq5 c = rule-inner _ _ _ _ _ _ _ _ _ _ _ _ _ c.node_at-l-then-rule-eq5.ensures c.node_at-r-then-rule-eq5.ensures (row_low _ _ _ _ c.requires.ready _ _ c.node_at-l-then-rule-eq5.ensures) (row_low _ _ _ _ c.requires.ready _ _ c.node_at-r-then-rule-eq5.ensures) c.if-rule-eq5.true c.if-extra-ne0.false c.by_inner.ensures

pub by_all-requires : goal.by_all-requires
by_all-requires c = record { square = c.requires.square; known_atoms = atoms-in _ _ _ _ c.requires.ready; numbered = row-numbered _ _ _ _ c.requires.ready _ _ c.node_at-r-then-rule-eq8.ensures; left_lt_count = c.requires.left_bound.0 }

pub returns-then-rule-eq8 : goal.returns-then-rule-eq8
returns-then-rule-eq8 c = rule-all _ _ _ _ _ _ _ _ _ _ (node c.args.concepts.now c.args.left) _ _ refl c.node_at-r-then-rule-eq8.ensures c.if-rule-eq8.true c.if-extra-ne0.false c.by_all.ensures

pub returns : goal.returns
returns c = rule-unknown _ _ _ _ _ _ _ _ _ _ c.if-rule-eq3.false c.if-rule-eq6.false c.if-rule-eq7.false c.if-rule-eq1.false c.if-rule-eq2.false c.if-rule-eq4.false c.if-rule-eq5.false c.if-rule-eq8.false
