-- An asked pair judged: its checks, the table, and whether the pair is marked.
use Rattle.std.specs.Prelude.{Err, Ok, Result}
use Prim.Native.Nat.{ℕ, ◌*◌, ◌<◌}
use mathlib.Core.Path.{◌≡◌, refl, sym, ap, ◌∙◌, subst}
use mathlib.Core.List.{List}
use mathlib.Core.Bool.{Bool, true, false}
use native.Mathlib.Omega.{arith}
use lib.ListN.{length}
use Rattle.subsumption.specs.declared.refusal.Refusal.{Refusal}
use Rattle.subsumption.specs.declared.refusal.Refusal.TheVariants.{NoCountermodel}
use Rattle.subsumption.specs.Tables.{Tables, count_of}
use Rattle.subsumption.specs.Refusal.{or_else, value_reply, Outcome, Done}
use Rattle.subsumption.specs.Check.{table_fault, pair_fault, assignment_fault, buffer_fault}
use Rattle.subsumption.specs.Decide.{deciding_fault}
use Rattle.subsumption.specs.Table.{row_start, marked, writing_fault, TableOf, Left, Wrote}
use Rattle.subsumption.specs.Inner.Roles.{LowRoles}
use Rattle.subsumption.proofs.Refusals.{refused-if, done-if, done-le, stops, goes_on, passed_first, passed-second, passed-if}
use Rattle.subsumption.proofs.Replies.{by-refusal, by_value}
use Rattle.subsumption.proofs.Accepted.{well_formed, table-concepts, concepts-layered, concepts-named, concepts-roles, roles-low}
use Rattle.subsumption.proofs.ListingLaws.{pair-tables}
use Rattle.subsumption.proofs.Deciding.{pair_left, pair-right, asked-tables}
use Rattle.countermodel.specs.Countermodel.{Exactly}
use Rattle.countermodel.specs.Show.{holding_fault}
use Rattle.countermodel.specs.Inner.Show.{Checked, Judged}

pub checked : (t : Tables) → table_fault t ≡ Done → Checked t.concepts
checked t h =
    let k = table-concepts t h in
    record { layered = concepts-layered t k; low-names = concepts-named t k; low-roles = concepts-roles t k }

module _ (t : Tables) (assignment : List ℕ) (left right : ℕ) where
  judged-refused : (table : List ℕ) (r : Refusal) → length table ≡ 4608 → Err r ≡ deciding_fault t assignment left right → Judged t assignment left right table (Err r)
  judged-refused table r l e =
      record {
        long = l;
        judged = stops (Err r) _ _ r e refl;
        exactly = λ h. absurd (let z : ◌≡◌ {A = ℕ} 0 1 = cc (e ∙ h) in omega arith);
      }

  pub judged-pair : (table : List ℕ) (r : Refusal) → length table ≡ 4608 → Err r ≡ pair_fault t left right → Judged t assignment left right table (Err r)
  unfolding deciding_fault
  judged-pair table r l e = judged-refused table r l (stops (Err r) _ _ r e refl)

  module _ (p : pair_fault t left right ≡ Done) (before after : List ℕ) (long : length before ≡ 4608) (r : (Result ℕ Refusal)) (w : Wrote t assignment before after (value_reply r)) where
    -- 4608 bytes are room enough, so that only check 9 is left
    room : Done ≡ buffer_fault (row_start (count_of t.concepts)) (length before)
    unfolding buffer_fault row_start
    room = done-le (length before) (count_of t.concepts * 24) _ (omega (arith, (well_formed t (pair-tables t left right p)).few))

    only-choices : deciding_fault t assignment left right ≡ writing_fault t assignment (length before)
    unfolding deciding_fault writing_fault or_else
    only-choices =
        sym (goes_on _ _ _ _ refl p refl) ∙ goes_on _ _ _ _ refl (pair-tables t left right p) (last (assignment_fault t assignment) room)
      where
        last : (f : Outcome) {g : Outcome} → Done ≡ g → f ≡ or_else f g
        last (Ok tt) e = e
        last (Err q) e = refl

    pub written-long : length after ≡ 4608
    written-long = go (writing_fault t assignment (length before)) w.left ∙ long
      where
        go : (f : Outcome) → Left t assignment before after f → length after ≡ length before
        go (Ok tt) h = h.size
        go (Err q) h = ap length h

    pub marked-asks : (length after ≡ 4608) × ((left < 192) × (right < 192))
    marked-asks =
        let few = (well_formed t (pair-tables t left right p)).few in
        (written-long, (omega (arith, pair_left t left right p, few), omega (arith, pair-right t left right p, few)))

    pub judged-choices : (q : Refusal) → r ≡ Err q → Judged t assignment left right after (Err q)
    judged-choices q e = judged-refused after q written-long (by-refusal _ _ q (ap value_reply (sym e) ∙ w.replied) ∙ sym only-choices)

    module _ (n : ℕ) (e : r ≡ Ok n) where
      passed : writing_fault t assignment (length before) ≡ Done
      passed = (by_value _ _ n (ap value_reply (sym e) ∙ w.replied)).0

      written : TableOf t assignment before after
      written = subst (Left t assignment before after) passed w.left

      exact : Exactly t assignment (marked after)
      exact = record { sound = written.sound; complete = written.complete }

      judged-by : (f : Outcome) → f ≡ holding_fault (marked after) left right → Judged t assignment left right after f
      judged-by f h = record { long = written-long; judged = goes_on _ _ _ f (sym only-choices) passed h; exactly = λ z. exact }

      pub judged-holds : (b : Bool) → b ≡ marked after left right → b ≡ true → Judged t assignment left right after (Err NoCountermodel)
      unfolding holding_fault
      judged-holds b m h = judged-by _ (refused-if _ _ (sym m ∙ h))

      pub judged-fails : (b : Bool) → b ≡ marked after left right → b ≡ false → Judged t assignment left right after Done
      unfolding holding_fault
      judged-fails b m h = judged-by _ (done-if _ _ (sym m ∙ h))

-- ---- what a passed judgement tells
module _ (t : Tables) (assignment : List ℕ) (left right : ℕ) (table : List ℕ) (x : Outcome) (J : Judged t assignment left right table x) (e : x ≡ Done) where
  pub judged-decided : deciding_fault t assignment left right ≡ Done
  judged-decided = passed_first _ _ (sym J.judged ∙ e)

  pub judged-unmarked : marked table left right ≡ false
  unfolding holding_fault
  judged-unmarked = passed-if _ _ (passed-second _ _ (sym J.judged ∙ e))

  pub judged-tables : table_fault t ≡ Done
  judged-tables = asked-tables t assignment left right judged-decided

  pub judged-checked : Checked t.concepts
  judged-checked = checked t judged-tables

  pub judged-roles : LowRoles t.roles
  judged-roles = roles-low t judged-tables
