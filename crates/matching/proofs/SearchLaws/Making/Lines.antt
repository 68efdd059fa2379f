-- The rows and columns: the subsumption table under the assignment that chooses nothing, loaded.
use Prim.Native.Nat.{ℕ, ◌*◌, ◌^◌, ◌<◌, ◌≤◌}
use mathlib.Core.Path.{◌≡◌, refl, sym, ap, ◌∙◌, subst}
use mathlib.Core.List.{List}
use mathlib.Core.Bool.{true, not}
use native.Mathlib.Omega.{arith}
use lib.Dec.{ltb}
use lib.Pow.{pow_pos}
use lib.ListN.{length, get_or, take, replicate, get_or-replicate}
use lib.Seq.{length-take-le, get_or-take}
use borrow.Author.Tests.{lt-ltb}
use Rattle.subsumption.specs.declared.refusal.Refusal.TheVariants.{BadAssignment}
use Rattle.subsumption.specs.Refusal.{Reply, Done}
use Rattle.subsumption.specs.Tables.{Tables, count_of}
use Rattle.subsumption.specs.Atoms.{atoms}
use Rattle.subsumption.specs.Check.{table_fault, assignment_fault, buffer_fault}
use Rattle.subsumption.specs.Subsumption.{Subsumed}
use Rattle.subsumption.specs.Table.{row_start, writing_fault, TableOf, Left, Wrote}
use Rattle.subsumption.proofs.Bools.{both_true, both-intro}
use Rattle.subsumption.proofs.Refusals.{no-fault, both-done, done-le}
use Rattle.subsumption.proofs.Accepted.{well_formed, right-count}
use Rattle.square.specs.Inner.Square.{in_row, in_column}
use Rattle.square.specs.Inner.Loading.{known, Loaded}
use Rattle.matching.specs.Inner.Search.Problem.{nothing}
use Rattle.matching.specs.Inner.Search.Making.{LinesOf}

-- ---- the assignment that chooses nothing
abbrev pub zeros : List ℕ
zeros = replicate 8 0

pub nothing-chosen : (t : Tables) → table_fault t ≡ Done → assignment_fault t (take t.variables zeros) ≡ Done
unfolding assignment_fault
nothing-chosen t h =
    sym
    (right-count (length (atoms t)) v (take v zeros) Done (length-take-le v zeros few)
    (no-fault BadAssignment (λ k. not (ltb (get_or (take v zeros) k 0) (2 ^ length (atoms t)))) 0 v
    (λ k l. ap not (lt-ltb _ _ (subst (λ (x : ℕ). x < 2 ^ length (atoms t)) (sym (none k (omega arith))) (pow_pos (length (atoms t))))))))
  where
    v : ℕ
    v = t.variables

    few : v ≤ 8
    few = (well_formed t h).few-variables

    none : (k : ℕ) → k < v → get_or (take v zeros) k 0 ≡ 0
    none k l = get_or-take v zeros k 0 l ∙ get_or-replicate 8 k 0 0 (omega (arith, few))

pub few-variables : (t : Tables) → table_fault t ≡ Done → t.variables ≤ 8
few-variables t h = (well_formed t h).few-variables

pub few-concepts : (t : Tables) → table_fault t ≡ Done → count_of t.concepts ≤ 192
few-concepts t h = (well_formed t h).few

-- ---- the table is written
writing-passed : (t : Tables) (size : ℕ) → table_fault t ≡ Done → 4608 ≤ size → writing_fault t (nothing t) size ≡ Done
unfolding writing_fault row_start buffer_fault
writing-passed t size h l =
    sym
    (both-done (table_fault t) (table_fault t) Done _ refl h
    (both-done (assignment_fault t (nothing t)) (assignment_fault t (nothing t)) Done _ refl (nothing-chosen t h)
    (done-le size (count_of t.concepts * 24) _ (omega (arith, (well_formed t h).few))) refl) refl)

pub table-written :
    (t : Tables) (before after : List ℕ) (reply : Reply) → table_fault t ≡ Done → 4608 ≤ length before → Wrote t (nothing t) before after reply
    → TableOf t (nothing t) before after
table-written t before after reply h l W =
    subst (Left t (nothing t) before after) (writing-passed t (length before) h l) W.left

-- ---- and loaded
module _ (t : Tables) (before table square : List ℕ) (h : table_fault t ≡ Done) (T : TableOf t (nothing t) before table)
    (L : Loaded (count_of t.concepts) table square) where
  row : (i j : ℕ) → i < count_of t.concepts → j < count_of t.concepts → in_row square i j ≡ known table (count_of t.concepts) i j
  row i j l k = L.marks i j l (omega (arith, (well_formed t h).few))

  row-sound : (i j : ℕ) → i < count_of t.concepts → j < count_of t.concepts → in_row square i j ≡ true → Subsumed t (nothing t) i j
  row-sound i j l k e = T.sound i j l k (both_true _ _ (sym (row i j l k) ∙ e)).1

  row-complete : (i j : ℕ) → i < count_of t.concepts → j < count_of t.concepts → Subsumed t (nothing t) i j → in_row square i j ≡ true
  row-complete i j l k s = row i j l k ∙ both-intro _ _ (lt-ltb j (count_of t.concepts) k) (T.complete i j l k s)

  mirror : (i j : ℕ) → i < count_of t.concepts → j < count_of t.concepts → in_row square i j ≡ in_column square i j
  mirror i j l k = L.whole.mirror i j (omega (arith, (well_formed t h).few)) (omega (arith, (well_formed t h).few))

  pub lines_of : LinesOf t square
  lines_of =
      record {
        long = L.whole.long;
        above = λ i j l k. (row-sound i j l k, row-complete i j l k);
        below = λ i j l k. (λ e. row-sound i j l k (mirror i j l k ∙ e), λ s. sym (mirror i j l k) ∙ row-complete i j l k s);
      }
