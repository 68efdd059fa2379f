-- The sample cards, all at once: the test passes by computation, so every card holds.
use mathlib.Core.Path.{◌≡◌, refl}
use mathlib.Core.List.{Memᴰ}
use mathlib.Core.Bool.{true}
use native.Mathlib.Decide.{ℕ_discrete}
use Rattle.subsumption.specs.Tables.{or, both, any_below, decode, node, shape, tree_to, tree, variables_of, has_variable}
use Rattle.subsumption.specs.Roles.{wider_to, wider}
use Rattle.subsumption.specs.Atoms.{inside, occurs_to, occurs, is_atomic, in_inclusion, in_question, stands, holds, twin, is_lowest, is_atom, keep, atoms, bit, pick, chosen}
use Rattle.subsumption.specs.Rules.{every, contains, same_name, is_top, on_picked, on_both, on_inner, on_variable, by_rule, follows}
use Rattle.subsumption.specs.Refusal.{or_else, refuse_if, first_at}
use Rattle.subsumption.specs.Check.{unfit, limit_fault, roles_fault, malformed_row, malformed, malformed_fault, forward, forward_fault, no_concept, pairs_fault, inclusion_fault, sides_fault, atoms_fault, concept_fault, id_fault, use_fault, table_fault, assignment_fault_at, assignment_fault}
use Rattle.subsumption.proofs.ModelRows.{gather}
use Rattle.cards.specs.Samples.{Card, Holds, entries, house, looped, copied, narrowed, questions, cards}
use Rattle.matching.proofs.SubstitutionLaws.Members.{any_in}
use Rattle.cards.proofs.SampleLaws.{all_below, built, mark_at, lines, some, round, rounds, closed_test, same_list, all_in, all_in-at, before, all_lists, assignments, bools_agree, earlier_test, is_done, solved_by, refuted, on_ids, marks, misses, says_test, card_test, test-holds}

cards-pass : all_in (card_test 4) cards ≡ true
unfolding or both any_below decode node shape tree_to tree variables_of has_variable inside occurs_to occurs is_atomic in_inclusion in_question stands holds twin is_lowest is_atom keep atoms bit pick chosen every contains same_name is_top on_picked on_both on_inner on_variable by_rule follows or_else refuse_if first_at unfit limit_fault roles_fault wider wider_to malformed_row malformed malformed_fault forward forward_fault no_concept pairs_fault inclusion_fault sides_fault atoms_fault concept_fault id_fault use_fault table_fault assignment_fault_at assignment_fault gather entries house looped copied narrowed questions cards any_in all_below built mark_at lines some round rounds closed_test same_list all_in before all_lists assignments bools_agree earlier_test is_done solved_by refuted on_ids marks misses says_test card_test ℕ_discrete
cards-pass = refl

pub every-card : (c : Card) → Memᴰ c cards → Holds c
every-card c m = test-holds 4 c (all_in-at (card_test 4) m cards-pass)
