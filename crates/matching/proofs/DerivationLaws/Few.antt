-- A written derivation has no more lines than the subsumption table has marks.
use Rattle.subsumption.specs.Refusal.{Done}
use Prim.Native.Nat.{ℕ, suc, ◌+◌, ◌*◌, ◌<◌, ◌≤◌}
use mathlib.Core.Path.{◌≡◌, sym, ◌∙◌}
use mathlib.Core.List.{List}
use mathlib.Core.Bool.{true, not}
use native.Mathlib.Omega.{arith}
use lib.ListN.{take}
use lib.Seq.{get_or-take, length-take-le}
use borrow.Author.Tests.{ltb-true, not-false}
use Rattle.subsumption.specs.Tables.{Tables, count_of}
use Rattle.subsumption.specs.Rules.{follows}
use Rattle.subsumption.specs.Table.{marked, marks_in, TableOf}
use Rattle.subsumption.specs.Check.{table_fault}
use Rattle.subsumption.proofs.Bools.{both_true}
use Rattle.subsumption.proofs.Refusals.{passed_first, passed-second, passed-at}
use Rattle.subsumption.proofs.Accepted.{well_formed}
use Rattle.subsumption.proofs.MarkLaws.{distinct-few}
use Rattle.matching.specs.Derivation.{lines_of, left_at, right_at, line_follows, rule_fault, derivation_fault}
use Rattle.matching.specs.Writer.{DerivationOf}
use Rattle.matching.proofs.DerivationLaws.Soundness.{line-sound}

module _ (t : Tables) (assignment : List ℕ) (left right : ℕ) (before after : List ℕ) (n : ℕ) (D : DerivationOf t assignment left right before after n) where
  abbrev lines : List ℕ
  lines = take (n * 4) after

  many : lines_of lines ≡ n
  many = let e = length-take-le (n * 4) after D.room in omega (arith, e)

  right-line : (k : ℕ) → k < n → line_follows t assignment lines k ≡ true
  unfolding derivation_fault rule_fault
  right-line k l =
      not-false _ (passed-at _ (λ k. not (line_follows t assignment lines k)) 0 (lines_of lines) (passed_first _ _ (passed-second _ _ D.accepted)) k (omega arith) (omega (arith, many)))

  left_there : (k : ℕ) → k < n → left_at lines k ≡ left_at after k
  left_there k l = get_or-take (n * 4) after (k * 4 + 1) 0 (omega arith)

  right_there : (k : ℕ) → k < n → right_at lines k ≡ right_at after k
  right_there k l = get_or-take (n * 4) after (k * 4 + 2) 0 (omega arith)

  known : (k : ℕ) → k < n → (left_at lines k < count_of t.concepts) × (right_at lines k < count_of t.concepts)
  unfolding line_follows follows
  known k l =
      let (a, b) = both_true _ _ (right-line k l) in
      (ltb-true _ _ a, ltb-true _ _ (both_true _ _ b).0)

  pub lines-marked : (rows table : List ℕ) → table_fault t ≡ Done → TableOf t assignment rows table → n ≤ marks_in (count_of t.concepts) table
  unfolding marks_in
  lines-marked rows table ok T =
      distinct-few (count_of t.concepts) 192 n (left_at lines) (right_at lines) (marked table)
      (λ k l.
      let (a, b) = known k l in
      (a, omega (arith, (well_formed t ok).few), T.complete _ _ a b (line-sound t assignment lines (well_formed t ok) n right-line (suc k) k (omega arith) l)))
      (λ k m l u x y. D.once k m l u (sym (left_there k (omega arith)) ∙ x ∙ left_there m u) (sym (right_there k (omega arith)) ∙ y ∙ right_there m u))

-- A written derivation has no more lines than the table under the same assignment has marks.
pub lines-few :
    (t : Tables) (assignment : List ℕ) (left right : ℕ) (before after : List ℕ) (n : ℕ) (rows table : List ℕ) → table_fault t ≡ Done
    → DerivationOf t assignment left right before after n → TableOf t assignment rows table → n ≤ marks_in (count_of t.concepts) table
lines-few t assignment left right before after n rows table ok D T = lines-marked t assignment left right before after n D rows table ok T
