-- The checks on these tables and lines pass by computation.
use Rattle.std.specs.Prelude.{Err}
use Prim.Native.Nat.{ℕ}
use mathlib.Core.Path.{◌≡◌, refl}
use mathlib.Core.List.{[], ◌∷◌}
use native.Mathlib.Decide.{ℕ_discrete}
use Rattle.subsumption.specs.declared.refusal.Refusal.TheVariants.{Limit}
use Rattle.subsumption.specs.Tables.{tables, or, both, any_below, decode, node, shape, tree_to, tree, variables_of, has_variable}
use Rattle.subsumption.specs.Roles.{wider_to, wider}
use Rattle.subsumption.specs.Atoms.{inside, occurs_to, occurs, is_atomic, in_inclusion, in_question, stands, holds, twin, is_lowest, is_atom, keep, atoms, bit, pick, chosen}
use Rattle.subsumption.specs.Rules.{every, contains, same_name, is_top, on_picked, on_both, on_inner, on_variable, by_rule, follows}
use Rattle.subsumption.specs.Refusal.{or_else, refuse_if, first_at, Done}
use Rattle.subsumption.specs.Check.{unfit, limit_fault, roles_fault, malformed_row, malformed, malformed_fault, forward, forward_fault, no_concept, pairs_fault, alone_fault, inclusion_fault, sides_fault, atoms_fault, concept_fault, id_fault, use_fault, table_fault, pair_fault, assignment_fault_at, assignment_fault, buffer_fault}
use Rattle.subsumption.specs.Table.{row_start, writing_fault}
use Rattle.subsumption.specs.Decide.{deciding_fault}
use Rattle.subsumption.proofs.ModelRows.{gather}
use Rattle.settings.specs.Settings.{Settings, faulty_at, settings_fault_at, settings_fault}
use Rattle.matching.specs.Within.{within_fault}
use Rattle.matching.specs.Derivation.{pair_at, proved_by, line_follows, no_lines, rule_fault, last_fault, derivation_fault, checking_fault}
use Rattle.matching.specs.Writer.{deriving_fault}
use Rattle.cards.specs.Samples.{entries, house, looped, copied, narrowed, questions, cards}
use Rattle.cards.specs.Judged.{ruled, Examples, InOrder, Derived}

pub examples : Examples
unfolding or both any_below decode node shape tree_to tree variables_of has_variable inside occurs_to occurs is_atomic in_inclusion in_question stands holds twin is_lowest is_atom keep atoms bit pick chosen every contains same_name is_top on_picked on_both on_inner on_variable by_rule follows or_else refuse_if first_at unfit limit_fault roles_fault wider wider_to malformed_row malformed malformed_fault forward forward_fault no_concept pairs_fault inclusion_fault sides_fault atoms_fault concept_fault id_fault use_fault table_fault assignment_fault_at assignment_fault gather entries house looped copied narrowed questions cards ℕ_discrete alone_fault pair_fault buffer_fault row_start writing_fault deciding_fault faulty_at settings_fault_at settings_fault within_fault pair_at proved_by line_follows no_lines rule_fault last_fault derivation_fault checking_fault deriving_fault ruled
examples =
    record {
      no-1 = refl;
      no-2 = refl;
      no-3 = refl;
      no-4 = refl;
      no-5 = refl;
      no-6 = refl;
      no-16 = refl;
      no-8 = refl;
      no_9 = refl;
      no-12 = refl;
    }

pub in_order : InOrder
unfolding or both any_below decode node shape tree_to tree variables_of has_variable inside occurs_to occurs is_atomic in_inclusion in_question stands holds twin is_lowest is_atom keep atoms bit pick chosen every contains same_name is_top on_picked on_both on_inner on_variable by_rule follows or_else refuse_if first_at unfit limit_fault roles_fault wider wider_to malformed_row malformed malformed_fault forward forward_fault no_concept pairs_fault inclusion_fault sides_fault atoms_fault concept_fault id_fault use_fault table_fault assignment_fault_at assignment_fault gather entries house looped copied narrowed questions cards ℕ_discrete alone_fault pair_fault buffer_fault row_start writing_fault deciding_fault faulty_at settings_fault_at settings_fault within_fault pair_at proved_by line_follows no_lines rule_fault last_fault derivation_fault checking_fault deriving_fault ruled
in_order =
    record {
      first-1 = refl;
      first-2 = refl;
      first-3 = refl;
      first-4 = refl;
      first-5 = refl;
      first-6 = refl;
      lowest = refl;
      pair-before-5 = refl;
      number-9-before-8 = refl;
      number-9-before-12 = refl;
      number-8-before-11 = refl;
      number-19-before-8 = refl;
    }

pub derived : Derived
unfolding or both any_below decode node shape tree_to tree variables_of has_variable inside occurs_to occurs is_atomic in_inclusion in_question stands holds twin is_lowest is_atom keep atoms bit pick chosen every contains same_name is_top on_picked on_both on_inner on_variable by_rule follows or_else refuse_if first_at unfit limit_fault roles_fault wider wider_to malformed_row malformed malformed_fault forward forward_fault no_concept pairs_fault inclusion_fault sides_fault atoms_fault concept_fault id_fault use_fault table_fault assignment_fault_at assignment_fault gather entries house looped copied narrowed questions cards ℕ_discrete alone_fault pair_fault buffer_fault row_start writing_fault deciding_fault faulty_at settings_fault_at settings_fault within_fault pair_at proved_by line_follows no_lines rule_fault last_fault derivation_fault checking_fault deriving_fault ruled
derived =
    record {
      rule-1 = refl;
      rule-1-other-name = refl;
      rule-2 = refl;
      rule-2-turned-round = refl;
      rule-3 = refl;
      rule-3-other-member = refl;
      rule-4 = refl;
      rule-4-one-member = refl;
      rule-5 = refl;
      rule-5-narrow-for-wide = refl;
      rule-6 = refl;
      rule-6-no-inclusion = refl;
      rule-7 = refl;
      rule-7-not-chosen = refl;
      rule-8 = refl;
      rule-8-one-of-two = refl;
      later-premise = refl;
      another-pair-last = refl;
    }

-- the checks of card A's pair, and of tables with nine variables
pub asked-passes : deciding_fault (house questions) (4 ∷ []) 2 3 ≡ Done
unfolding or both any_below decode node shape tree_to tree variables_of has_variable inside occurs_to occurs is_atomic in_inclusion in_question stands holds twin is_lowest is_atom keep atoms bit pick chosen every contains same_name is_top on_picked on_both on_inner on_variable by_rule follows or_else refuse_if first_at unfit limit_fault roles_fault wider wider_to malformed_row malformed malformed_fault forward forward_fault no_concept pairs_fault inclusion_fault sides_fault atoms_fault concept_fault id_fault use_fault table_fault assignment_fault_at assignment_fault gather entries house looped copied narrowed questions cards ℕ_discrete alone_fault pair_fault deciding_fault
asked-passes = refl

pub nine-refused : (s : Settings) (size : ℕ) → within_fault (tables [] [] [] [] 9) s size ≡ Err (Limit 3)
unfolding or both any_below decode node shape tree_to tree variables_of has_variable inside occurs_to occurs is_atomic in_inclusion in_question stands holds twin is_lowest is_atom keep atoms bit pick chosen every contains same_name is_top on_picked on_both on_inner on_variable by_rule follows or_else refuse_if first_at unfit limit_fault roles_fault wider wider_to malformed_row malformed malformed_fault forward forward_fault no_concept pairs_fault inclusion_fault sides_fault atoms_fault concept_fault id_fault use_fault table_fault assignment_fault_at assignment_fault gather entries house looped copied narrowed questions cards within_fault
nine-refused s size = refl
