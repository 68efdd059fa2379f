-- The walk: each answer by the kind of the concept, and the loops over an element's links and over a variable's atoms.
use Prim.Native.Nat.{ℕ, ◌+◌, ◌*◌, ◌/◌, ◌%◌, ◌^◌, ◌<◌, ◌≤◌}
use mathlib.Core.Path.{◌≡◌, refl, sym, subst}
use mathlib.Core.List.{List, Memᴰ}
use mathlib.Core.Bool.{Bool, true, false}
use mathlib.Core.Logic.{⊎_elim}
use native.Mathlib.Omega.{arith}
use lib.ListN.{length, get_or, set}
use borrow.Author.Tests.{eq-eqb}
use Rattle.subsumption.specs.Tables.{top_at, name_at, exists_at, and_at, var_at, Concept, top, name, exists, and, var, node, tree, count_of, has_variable}
use Rattle.subsumption.specs.Atoms.{bit, pick}
use Rattle.subsumption.proofs.Bools.{last-cases}
use Rattle.subsumption.proofs.Bits.{zero_bit}
use Rattle.subsumption.proofs.Trees.{tree-top, tree-name, tree-exists, tree-and, tree-var}
use Rattle.subsumption.proofs.Picks.{ChosenBelow, picked-at, at-picked}
use Rattle.subsumption.proofs.Membership.{member-ground}
use Rattle.countermodel.specs.Rows.{rows_of, at, interpretation_of}
use Rattle.countermodel.specs.Inner.Membership.{Right, LowRows, Stretches, Walkable, IsIn, IsInAll, Bears, noted, Remembers, Walked}
use Rattle.countermodel.proofs.RowMembers.{LinkedAt, link-in, link-out}
use Rattle.countermodel.proofs.MemberLaws.Scanning.{right-yes, right-no, Unmet, link-stretch}
use Rattle.countermodel.proofs.MemberLaws.Memo.{remembers-more}

-- an answer that is right of one is right of the other
right-as : {P Q : Type 0} (answer : Bool) → (P → Q) → (Q → P) → Right answer P → Right answer Q
right-as answer f g r = record { yes = λ e. f (r.yes e); no = λ e q. r.no e (g q) }

module _ (concepts atoms assignment rows : List ℕ) (W : Walkable concepts atoms assignment rows) where
  -- ---- a concept, by its kind
  module _ (x i : ℕ) where
    as-tree : (answer : Bool) (c : Concept) → tree concepts i ≡ c → Right answer (IsIn concepts atoms assignment rows c x) → Right answer (IsIn concepts atoms assignment rows (tree concepts i) x)
    as-tree answer c e r = subst (λ (d : Concept). Right answer (IsIn concepts atoms assignment rows d x)) (sym e) r

    pub in_top : node concepts i ≡ top_at → Right true (IsIn concepts atoms assignment rows (tree concepts i) x)
    in_top e = as-tree true top (tree-top concepts W.rising i e) (right-yes tt)

    pub in-name :
        (n : ℕ) (answer : Bool) → node concepts i ≡ name_at n → Right answer (Bears rows x n)
        → Right answer (IsIn concepts atoms assignment rows (tree concepts i) x)
    in-name n answer e r = as-tree answer (name _) (tree-name concepts W.rising i _ e) r

    pub in-exists :
        (r j : ℕ) (answer : Bool) → node concepts i ≡ exists_at r j → Right answer (IsIn concepts atoms assignment rows (exists r (tree concepts j)) x)
        → Right answer (IsIn concepts atoms assignment rows (tree concepts i) x)
    in-exists r j answer e a = as-tree answer _ (tree-exists concepts W.rising i _ _ e) a

    pub in-first :
        (j k : ℕ) (first : Bool) → node concepts i ≡ and_at j k → Right first (IsIn concepts atoms assignment rows (tree concepts j) x) → first ≡ false
        → Right false (IsIn concepts atoms assignment rows (tree concepts i) x)
    in-first j k first e r f = as-tree false (and _ _) (tree-and concepts W.rising i _ _ e) (right-no (λ h. r.no f h.0))

    pub in_both :
        (j k : ℕ) (first second : Bool) → node concepts i ≡ and_at j k → Right first (IsIn concepts atoms assignment rows (tree concepts j) x)
        → first ≡ true → Right second (IsIn concepts atoms assignment rows (tree concepts k) x)
        → Right second (IsIn concepts atoms assignment rows (tree concepts i) x)
    in_both j k first second e r f s =
        as-tree second (and _ _) (tree-and concepts W.rising i _ _ e) (right-as second (λ h. (r.yes f, h)) (λ h. h.1) s)

    -- atoms hold no variable
    pub in-var :
        (k : ℕ) (answer : Bool) → node concepts i ≡ var_at k → Right answer (IsInAll concepts atoms assignment rows (get_or assignment k 0) x)
        → Right answer (IsIn concepts atoms assignment rows (tree concepts i) x)
    in-var k answer e r =
        as-tree answer (var k) (tree-var concepts W.rising i k e)
        (right-as answer (λ h p m. member-ground _ _ _ (tree concepts p) (ground p m) x (h p m)) (λ h p m. member-ground _ _ _ (tree concepts p) (ground p m) x (h p m)) r)
      where
        ground : (p : ℕ) → Memᴰ p (pick atoms (get_or assignment k 0)) → has_variable (tree concepts p) ≡ false
        ground p m =
            let c : ChosenBelow (length atoms) atoms (get_or assignment k 0) p = at-picked atoms (get_or assignment k 0) p m in
            subst (λ (z : ℕ). has_variable (tree concepts z) ≡ false) c.found (W.atoms-ground c.place c.before)

  -- ---- an answer that is noted
  pub noted-walked :
      (x i : ℕ) → x < 192 → i < count_of concepts → (memo after : List ℕ) → Remembers concepts atoms assignment rows memo
      → (answer r : Bool) → (r ≡ answer) × (after ≡ set memo (x * 192 + i) (noted answer)) → Right answer (IsIn concepts atoms assignment rows (tree concepts i) x)
      → Walked concepts atoms assignment rows (IsIn concepts atoms assignment rows (tree concepts i) x) after r
  noted-walked x i h l memo after M answer r n R =
      record {
        answered = subst (λ (b : Bool). Right b (IsIn concepts atoms assignment rows (tree concepts i) x)) (sym n.0) R;
        remembered =
            subst (Remembers concepts atoms assignment rows) (sym n.1)
            (remembers-more concepts atoms assignment rows memo M x i (omega (arith, W.few)) h answer R);
      }

-- ---- the loops
module _ (concepts atoms assignment rows : List ℕ) where
  -- the links of an element
  module _ (x r inner : ℕ) where
    -- the row q is a link to a member
    pub record Leads (q : ℕ) : Type 0 where
      pub link : LinkedAt rows x r (at rows q 3) q
      pub member : IsIn concepts atoms assignment rows (tree concepts inner) (at rows q 3)

    pub leads-met : LowRows rows → (p : ℕ) → Leads p → Right true (IsIn concepts atoms assignment rows (exists r (tree concepts inner)) x)
    unfolding interpretation_of
    leads-met L p h = right-yes (at rows p 3, L.right p h.link.known, link-in 192 rows x r (at rows p 3) p h.link, h.member)

    pub leads-none :
        (ends : List ℕ) → Stretches rows ends → (p : ℕ)
        → Unmet Leads (get_or ends (x * 4 + 2) 0) (get_or ends (x * 4 + 3) 0) (rows_of rows) p → get_or ends (x * 4 + 3) 0 ≤ p
        → Right false (IsIn concepts atoms assignment rows (exists r (tree concepts inner)) x)
    leads-none ends S p u l =
        right-no
        (λ h.
        let (y, b, m, k) = h in
        let (q, w) = link-out 192 rows x r y m in
        let (from, past) = link-stretch rows ends S x r y q w in
        u.none q from (omega arith)
        (record {
          link = record { known = w.known; kind = w.kind; from = w.from; role = w.role; to = refl };
          member = subst (IsIn concepts atoms assignment rows (tree concepts inner)) (sym w.to) k;
        }))

  -- the chosen atoms of a variable
  module _ (x choice : ℕ) where
    -- the element is a member of those at places below q
    pub record Sofar (q : ℕ) : Type 0 where
      pub within : q ≤ length atoms
      pub each : (m : ℕ) → m < q → bit choice m ≡ true → IsIn concepts atoms assignment rows (tree concepts (get_or atoms m 0)) x

    pub sofar-none : Sofar 0
    sofar-none = record { within = omega arith; each = λ m l b. absurd (omega arith) }

    module _ (q : ℕ) (l : q < length atoms) where
      sofar-next : Sofar q → (bit choice q ≡ true → IsIn concepts atoms assignment rows (tree concepts (get_or atoms q 0)) x) → Sofar (q + 1)
      sofar-next s h =
          record {
            within = omega arith;
            each = λ m k b.
                ⊎_elim (λ (e : m ≡ q). subst (λ (z : ℕ). bit choice z ≡ true → IsIn concepts atoms assignment rows (tree concepts (get_or atoms z 0)) x) (sym e) h b)
                (λ k. s.each m k b) (last-cases m q (omega arith));
          }

      pub sofar-skip : Sofar q → choice / 2 ^ q % 2 ≡ 0 → Sofar (q + 1)
      sofar-skip s e = sofar-next s (λ b. absurd (zero_bit choice q e b))

      pub sofar-more : Sofar q → IsIn concepts atoms assignment rows (tree concepts (get_or atoms q 0)) x → Sofar (q + 1)
      sofar-more s h = sofar-next s (λ b. h)

      pub sofar-not :
          (choice / 2 ^ q % 2 ≡ 0 → ⊥) → (IsIn concepts atoms assignment rows (tree concepts (get_or atoms q 0)) x → ⊥)
          → Right false (IsInAll concepts atoms assignment rows choice x)
      unfolding bit
      sofar-not n h = right-no (λ a. h (a (get_or atoms q 0) (picked-at atoms choice q l (eq-eqb (choice / 2 ^ q % 2) 1 (omega arith)))))

    pub sofar-done : (q : ℕ) → Sofar q → length atoms ≤ q → Right true (IsInAll concepts atoms assignment rows choice x)
    sofar-done q s l =
        right-yes
        (λ p m.
        let c : ChosenBelow (length atoms) atoms choice p = at-picked atoms choice p m in
        subst (λ (z : ℕ). IsIn concepts atoms assignment rows (tree concepts z) x) c.found (s.each c.place (omega (arith, c.before)) c.picked))
