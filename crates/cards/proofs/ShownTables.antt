-- A written or updated table has just the marks that the rules give for the tables of cards K and L.
use Prim.Native.Nat.{ℕ, ◌<◌, ◌≤◌}
use mathlib.Core.Path.{◌≡◌, refl, sym, ap, ◌∙◌, subst}
use mathlib.Core.List.{List, []}
use mathlib.Core.Bool.{Bool, true, false, true≢false}
use native.Mathlib.Omega.{arith}
use native.Mathlib.Decide.{ℕ_discrete}
use lib.Dec.{lit<}
use lib.ListN.{length}
use borrow.Author.Tests.{ltb-true}
use Rattle.subsumption.specs.Tables.{tables, or, both, any_below, decode, node, shape, tree_to, tree, variables_of, has_variable, count_of}
use Rattle.subsumption.specs.Roles.{wider_to, wider}
use Rattle.subsumption.specs.Atoms.{inside, occurs_to, occurs, is_atomic, in_inclusion, in_question, stands, holds, twin, is_lowest, is_atom, keep, atoms, bit, pick, chosen}
use Rattle.subsumption.specs.Rules.{every, contains, same_name, is_top, on_picked, on_both, on_inner, on_variable, by_rule, follows}
use Rattle.subsumption.specs.Refusal.{Reply, reply_done, reply_of, reply_with, or_else, refuse_if, first_at, Outcome, Done}
use Rattle.subsumption.specs.Check.{unfit, limit_fault, roles_fault, malformed_row, malformed, malformed_fault, forward, forward_fault, no_concept, pairs_fault, inclusion_fault, sides_fault, atoms_fault, concept_fault, id_fault, use_fault, table_fault, assignment_fault_at, assignment_fault, buffer_fault}
use Rattle.subsumption.specs.Table.{row_start, marked, marks_in, writing_fault, TableOf, Left}
use Rattle.subsumption.proofs.Bools.{both_true, same_bool}
use Rattle.subsumption.proofs.MarkLaws.{marks-between, marks-none}
use Rattle.subsumption.proofs.Refusals.{done-le}
use Rattle.subsumption.proofs.WellFormed.{WellFormed}
use Rattle.subsumption.proofs.Accepted.{well_formed}
use Rattle.subsumption.proofs.ModelRows.{gather}
use Rattle.subsumption.proofs.RuleSoundness.{follows-sound}
use Rattle.subsumption.proofs.RuleCompleteness.{follows-complete}
use Rattle.matching.proofs.SubstitutionLaws.Members.{any_in}
use Rattle.allowance.proofs.CaseLaws.{passes}
use Rattle.incremental.specs.Told.{told_fault, told_assignment, choices}
use Rattle.incremental.specs.Update.{updating_fault, ClosedUnder, ClosureOf, UpdatedBy}
use Rattle.cards.specs.Samples.{looped}
use Rattle.cards.specs.Shown.{Shown, EveryTable, EmptyTable, Updated, EveryUpdate}
use Rattle.cards.proofs.SampleLaws.{all_below, built, mark_at, lines, some, round, rounds, rounds-sound, closed_test, closed-complete, is_done, is-done}

-- ---- by computation: the checks pass, and three rounds of the rules are closed
ruled : List (List Bool)
ruled = rounds looped [] (lines looped) 4

record Computed : Type 0 where
  passes-checks : is_done (table_fault looped) ≡ true
  accepts-none : is_done (assignment_fault looped []) ≡ true
  empty-passes : is_done (table_fault (tables [] [] [] [] 0)) ≡ true
  empty-accepts : is_done (assignment_fault (tables [] [] [] [] 0) []) ≡ true
  tells_none : is_done (told_fault looped []) ≡ true
  no-choice : told_assignment looped [] ≡ []
  closed : closed_test looped [] (lines looped) ruled ≡ true
  card-K : mark_at ruled 0 2 ≡ true
  card-L : mark_at ruled 1 0 ≡ false

computed : Computed
unfolding or both any_below decode node shape tree_to tree variables_of has_variable inside occurs_to occurs is_atomic in_inclusion in_question stands holds twin is_lowest is_atom keep atoms bit pick chosen every contains same_name is_top on_picked on_both on_inner on_variable by_rule follows or_else refuse_if first_at unfit limit_fault roles_fault wider wider_to malformed_row malformed malformed_fault forward forward_fault no_concept pairs_fault inclusion_fault sides_fault atoms_fault concept_fault id_fault use_fault table_fault assignment_fault_at assignment_fault gather looped any_in all_below built mark_at lines some round rounds closed_test is_done ruled told_fault told_assignment choices ℕ_discrete
computed =
    record {
      passes-checks = refl;
      accepts-none = refl;
      empty-passes = refl;
      empty-accepts = refl;
      tells_none = refl;
      no-choice = refl;
      closed = refl;
      card-K = refl;
      card-L = refl;
    }

ok : table_fault looped ≡ Done
ok = is-done _ computed.passes-checks

wf : WellFormed looped
wf = well_formed looped ok

-- ---- written tables
module _ (before after : List ℕ) (T : TableOf looped [] before after) where
  same-mark : (i j : ℕ) → i < 3 → j < 3 → marked after i j ≡ mark_at ruled i j
  unfolding looped ruled
  same-mark i j l k =
      same_bool _ _ (λ h. closed-complete looped [] wf ruled computed.closed i j l k (T.sound i j l k h))
      (λ h. T.complete i j l k (rounds-sound looped [] wf (lines looped) 4 i j l k h))

  shown : (told : Reply) → told ≡ reply_done (marks_in 3 after) → Shown before after told
  unfolding looped
  shown told e =
      let (least, most) = marks-between looped [] before after ok T in
      let value = ap (λ (z : Reply). z.value) e in
      record {
        card-K = same-mark 0 2 (lit< tt) (lit< tt) ∙ computed.card-K;
        card-L = same-mark 1 0 (lit< tt) (lit< tt) ∙ computed.card-L;
        done = e ∙ ap reply_done (sym value);
        least = omega (arith, least, value);
        most = omega (arith, most, value);
      }

room : (before : List ℕ) → 72 ≤ length before → buffer_fault (row_start (count_of looped.concepts)) (length before) ≡ Done
unfolding buffer_fault row_start looped
room before l = sym (done-le (length before) 72 _ l)

pub every-table : EveryTable
unfolding writing_fault looped
every-table before after told l w =
    let e : writing_fault looped [] (length before) ≡ Done = writes in
    shown before after (subst (Left looped [] before after) e w.left) told (w.replied ∙ ap (λ (z : Outcome). reply_with z (marks_in 3 after)) e)
  where
    writes : writing_fault looped [] (length before) ≡ Done
    writes = passes _ _ ok (passes _ _ (is-done _ computed.accepts-none) (room before l))

pub empty-table : EmptyTable
unfolding writing_fault buffer_fault row_start
empty-table before after told w = w.replied ∙ ap (λ (z : Outcome). reply_with z (marks_in 0 after)) writes ∙ ap reply_done (marks-none after)
  where
    writes : writing_fault (tables [] [] [] [] 0) [] (length before) ≡ Done
    writes =
        passes _ _ (is-done _ computed.empty-passes)
        (passes _ _ (is-done _ computed.empty-accepts) (sym (done-le (length before) 0 _ (omega arith))))

-- ---- updated tables
module _ (before after : List ℕ) (C : ClosureOf looped [] before after) where
  ruled-closed : ClosedUnder looped [] (mark_at ruled)
  unfolding follows ruled
  ruled-closed rule left right extra h =
      let (l, u) = both_true _ _ h in
      let (k, _) = both_true _ _ u in
      closed-complete looped [] wf ruled computed.closed left right (ltb-true _ _ l) (ltb-true _ _ k)
      (follows-sound looped [] wf (mark_at ruled) (rounds-sound looped [] wf (lines looped) 4) rule left right extra h)

  updated : (told : Reply) → told ≡ reply_done 0 → Updated before after told
  unfolding looped ruled
  updated told e =
      record {
        done = e;
        closed =
            follows-complete looped [] wf (marked after) C.closed 0 2 (lit< tt) (lit< tt)
            (rounds-sound looped [] wf (lines looped) 4 0 2 (lit< tt) (lit< tt) computed.card-K);
        smallest = λ none.
            same_bool (marked after 1 0) false
            (λ h.
            sym computed.card-L
            ∙ C.least (mark_at ruled) ruled-closed (λ i j l k m. absurd (true≢false (sym m ∙ none i j l k))) 1 0 (lit< tt) (lit< tt) h)
            (λ h. absurd (true≢false (sym h)));
        kept = C.kept 1 0 (lit< tt) (lit< tt);
        past = C.past 1 5 (lit< tt) (omega arith) (lit< tt);
      }

pub every-update : EveryUpdate
unfolding updating_fault
every-update before after told l w =
    let e : updating_fault looped [] (length before) ≡ Done = updates in
    updated before after
    (subst (λ (z : List ℕ). ClosureOf looped z before after) computed.no-choice
    (subst (λ (z : Outcome). UpdatedBy z looped [] before after) e w.updated))
    told (w.replied ∙ ap reply_of e)
  where
    updates : updating_fault looped [] (length before) ≡ Done
    updates = passes _ _ ok (passes _ _ (is-done _ computed.tells_none) (room before l))
