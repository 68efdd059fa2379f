-- If the held table was right with the older inclusions, all else the same, the updated one is the table made afresh.
use Prim.Native.Nat.{ℕ, ◌+◌, ◌*◌, ◌/◌, ◌%◌, ◌<◌, ◌≤◌}
use mathlib.Core.Path.{◌≡◌, sym, ap, ◌∙◌, subst}
use mathlib.Core.List.{List, Memᴰ}
use mathlib.Core.Bool.{true}
use mathlib.Core.Logic.{⊎_elim, ◌↔◌}
use native.Mathlib.Omega.{arith}
use lib.ListN.{length, get_or, get_or-eq_default}
use borrow.Author.Tests.{eqb-true, ltb-true, not-false}
use Rattle.subsumption.specs.Tables.{Tables, count_of, left_of, right_of, Concept, top, name, exists, and, var, tree}
use Rattle.subsumption.specs.Atoms.{bit, atoms, chosen}
use Rattle.subsumption.specs.Subsumption.{Interpretation, Reading, Member, Included, no_variables, assigned, Obeys, Subsumed}
use Rattle.subsumption.specs.Refusal.{Reply, Outcome, Done}
use Rattle.subsumption.specs.Check.{table_fault, assignment_fault, assignment_fault_at}
use Rattle.subsumption.specs.Rules.{follows}
use Rattle.subsumption.specs.Table.{row_start, marked, TableOf}
use Rattle.subsumption.proofs.Bools.{both_true, same_bool, le-or-lt}
use Rattle.subsumption.proofs.Bits.{bit-of-zero}
use Rattle.subsumption.proofs.Refusals.{passed_first, passed-if}
use Rattle.subsumption.proofs.WellFormed.{WellFormed}
use Rattle.subsumption.proofs.Accepted.{well_formed}
use Rattle.subsumption.proofs.Chosen.{pick-member}
use Rattle.subsumption.proofs.RuleSoundness.{follows-sound}
use Rattle.subsumption.proofs.RuleCompleteness.{follows-complete}
use Rattle.incremental.specs.Told.{told_assignment}
use Rattle.incremental.specs.Update.{ClosedUnder, Holds, ClosureOf, updating_fault, UpdatedBy, Updates}
use Rattle.incremental.specs.Fresh.{with_others, PairsAmong, SameChoices, RightBefore, Bytes, SameRows}
use Rattle.incremental.proofs.ToldLaws.{told-accepted, same_bits}

-- Membership is monotone in how variables are read.
module _ (I : Interpretation) (ρ ρ' : Reading) (reads : (k x : ℕ) → ρ k x → ρ' k x) where
  member-reads : (c : Concept) (x : ℕ) → Member I ρ c x → Member I ρ' c x
  member-reads top x h = h
  member-reads (name n) x h = h
  member-reads (exists r c) x (y, u, k, h) = (y, u, k, member-reads c y h)
  member-reads (and c d) x (h, k) = (member-reads c x h, member-reads d x k)
  member-reads (var k) x h = reads k x h

-- An accepted assignment chooses nothing past the last variable.
module _ (t : Tables) (α : List ℕ) (A : assignment_fault t α ≡ Done) where
  assignment-length : length α ≡ t.variables
  unfolding assignment_fault assignment_fault_at
  assignment-length = eqb-true _ _ (not-false _ (passed-if _ _ (passed_first _ _ A)))

  chosen-past : (k p : ℕ) → t.variables ≤ k → Memᴰ p (chosen t α k) → ⊥
  unfolding chosen
  chosen-past k p h m =
      let c = pick-member (atoms t) (get_or α k 0) p m in
      bit-of-zero c.place (subst (λ (z : ℕ). bit z c.place ≡ true) (get_or-eq_default α 0 (omega (arith, assignment-length))) c.chosen)

module _ (t : Tables) (inclusions₀ questions₀ α₀ α : List ℕ) where
  abbrev t₀ : Tables
  t₀ = with_others t inclusions₀ questions₀

  -- What follows from fewer inclusions follows from more.
  module _ (among : PairsAmong inclusions₀ t.inclusions) (same : SameChoices t₀ α₀ t α) (A₀ : assignment_fault t₀ α₀ ≡ Done) (A : assignment_fault t α ≡ Done) where
    obeys-fewer : (I : Interpretation) → Obeys t I → Obeys t₀ I
    obeys-fewer I O =
        record {
          inclusions = λ m l.
              let (n, k, e, f) = among m l in
              subst (λ (z : ℕ). Included I no_variables (tree t.concepts z) (tree t.concepts (right_of inclusions₀ m))) e
              (subst (λ (z : ℕ). Included I no_variables (tree t.concepts (left_of t.inclusions n)) (tree t.concepts z)) f (O.inclusions n k));
          roles = O.roles;
        }

    same-choices : (k p : ℕ) → Memᴰ p (chosen t₀ α₀ k) ↔ Memᴰ p (chosen t α k)
    same-choices k p =
        ⊎_elim (λ h. ((λ m. absurd (chosen-past t₀ α₀ A₀ k p h m)), (λ m. absurd (chosen-past t α A k p h m)))) (λ h. same k p h) (le-or-lt t.variables k)

    pub subsumed-more : (i j : ℕ) → Subsumed t₀ α₀ i j → Subsumed t α i j
    subsumed-more i j s I O x l h =
        member-reads I (assigned t₀ α₀ I) (assigned t α I) (λ k y u p m. u p ((same-choices k p).1 m)) (tree t.concepts j) x
        (s I (obeys-fewer I O) x l
        (member-reads I (assigned t α I) (assigned t₀ α₀ I) (λ k y u p m. u p ((same-choices k p).0 m)) (tree t.concepts i) x h))

    -- ---- the tables
    module _ (passed : table_fault t ≡ Done) (held before after other fresh : List ℕ) (B : TableOf t₀ α₀ held before) (C : ClosureOf t α before after)
        (F : TableOf t α other fresh) where
      wf : WellFormed t
      wf = well_formed t passed

      fresh-closed : ClosedUnder t α (marked fresh)
      unfolding follows
      fresh-closed rule left right extra h =
          let (l, u) = both_true _ _ h in
          let (k, _) = both_true _ _ u in
          F.complete left right (ltb-true _ _ l) (ltb-true _ _ k) (follows-sound t α wf (marked fresh) F.sound rule left right extra h)

      fresh_holds : Holds t (marked before) (marked fresh)
      fresh_holds i j l k h = F.complete i j l k (subsumed-more i j (B.sound i j l k h))

      -- The updated table holds exactly what is subsumed.
      pub fresh-table : TableOf t α before after
      fresh-table =
          record {
            size = C.size;
            sound = λ i j l k h. F.sound i j l k (C.least (marked fresh) fresh-closed fresh_holds i j l k h);
            complete = follows-complete t α wf (marked after) C.closed;
            zero = λ i j l k h. C.past i j l k h ∙ B.zero i j l k h;
            rest = C.rest;
          }

      same-marks : (i j : ℕ) → i < count_of t.concepts → j < 192 → marked after i j ≡ marked fresh i j
      same-marks i j l h =
          ⊎_elim (λ k. fresh-table.zero i j l k h ∙ sym (F.zero i j l k h))
          (λ k.
          same_bool _ _ (C.least (marked fresh) fresh-closed fresh_holds i j l k) (λ u. fresh-table.complete i j l k (F.sound i j l k u)))
          (le-or-lt (count_of t.concepts) j)

      -- Its rows are those of the fresh one, byte by byte.
      pub fresh-rows : Bytes after → Bytes fresh → SameRows t after fresh
      unfolding marked row_start
      fresh-rows a f p l =
          same_bits 8 (get_or after p 0) (get_or fresh p 0) (a p) (f p)
          (λ q h. at p q after h ∙ same-marks (p / 24) (p % 24 * 8 + q) (omega arith) (omega arith) ∙ sym (at p q fresh h))
        where
          at : (p q : ℕ) (bytes : List ℕ) → q < 8 → bit (get_or bytes p 0) q ≡ marked bytes (p / 24) (p % 24 * 8 + q)
          at p q bytes h =
              let e : p ≡ p / 24 * 24 + (p % 24 * 8 + q) / 8 = omega arith in
              let f : q ≡ (p % 24 * 8 + q) % 8 = omega arith in
              ap (λ (z : ℕ). bit (get_or bytes z 0) q) e ∙ ap (bit (get_or bytes (p / 24 * 24 + (p % 24 * 8 + q) / 8) 0)) f

-- ---- the operation's contract: it leaves the table that is made afresh
pub update-fresh :
    (t : Tables) (told inclusions₀ questions₀ assignment₀ held before after other fresh : List ℕ) (reply : Reply)
    → RightBefore t told inclusions₀ questions₀ assignment₀ held before → Updates t told before after reply
    → updating_fault t told (length before) ≡ Done → TableOf t (told_assignment t told) other fresh
    → TableOf t (told_assignment t told) before after × (Bytes after → Bytes fresh → SameRows t after fresh)
unfolding updating_fault
update-fresh t told inclusions₀ questions₀ assignment₀ held before after other fresh reply B U done F =
    let passed : table_fault t ≡ Done = passed_first _ _ done in
    let closure : ClosureOf t (told_assignment t told) before after = subst (λ (o : Outcome). UpdatedBy o t told before after) done U.updated in (
      fresh-table t inclusions₀ questions₀ assignment₀ (told_assignment t told) B.among B.same B.accepted (told-accepted t told) passed held before
          after other fresh B.right closure F,
      fresh-rows t inclusions₀ questions₀ assignment₀ (told_assignment t told) B.among B.same B.accepted (told-accepted t told) passed held before
          after other fresh B.right closure F,
    )
