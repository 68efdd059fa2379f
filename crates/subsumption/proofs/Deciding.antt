-- From passed checks to the closure, and from its columns to the answer.
use Rattle.std.specs.Prelude.{Err, Ok, true, false}
use Prim.Native.Nat.{ℕ, ◌*◌, ◌<◌, ◌≤◌}
use mathlib.Core.Path.{◌≡◌, refl, sym, ap, ◌∙◌, subst}
use mathlib.Core.List.{List}
use mathlib.Core.Bool.{Bool, true, false, not, false≢true}
use native.Mathlib.Omega.{arith}
use lib.ListN.{length, get_or, replicate, get_or-replicate, length-replicate}
use borrow.Author.Tests.{eqb-true, ltb-true, lt-ltb, not-false}
use Rattle.subsumption.specs.declared.refusal.Refusal.{Refusal}
use Rattle.subsumption.specs.Tables.{Tables, tables, var_at, node, count_of}
use Rattle.subsumption.specs.Atoms.{atoms}
use Rattle.subsumption.specs.Roles.{wider}
use Rattle.subsumption.specs.Refusal.{reply_done, reply_refused, reply_with, Replies, Outcome, Done}
use Rattle.subsumption.specs.Check.{buffer_fault, no_concept, alone_fault, table_fault, pair_fault, assignment_fault_at, assignment_fault}
use Rattle.subsumption.specs.Inner.Columns.{has, Empty}
use Rattle.subsumption.specs.Inner.Roles.{LowRoles}
use Rattle.subsumption.specs.Inner.Settling.{choose_from}
use Rattle.subsumption.specs.Inner.Closure.{Ready, Closed, ColumnsOf}
use Rattle.subsumption.specs.Inner.Atoms.{Layered}
use Rattle.subsumption.specs.Inner.Listing.{Accepted, Prepared, ForAccepted}
use Rattle.subsumption.specs.Inner.Rows.{Written}
use Rattle.subsumption.specs.Table.{row_start, counted, total, marks_in, writing_fault, TableOf, Left, Wrote}
use Rattle.subsumption.specs.Decide.{deciding_fault, decision_reply, Tells, Decides}
use Rattle.subsumption.proofs.Bools.{or-false, or-skip}
use Rattle.subsumption.proofs.Refusals.{passed_first, passed-second, passed-if, done-if, stops, goes_on, both-done, refuses}
use Rattle.subsumption.proofs.AtomLaws.{atom-known}
use Rattle.subsumption.proofs.Chosen.{get_or-member}
use Rattle.subsumption.proofs.Accepted.{well_formed, table-concepts, concepts-named, concepts-layered, roles-low}
use Rattle.subsumption.proofs.ListingLaws.{pair-tables}
use Rattle.subsumption.proofs.Closing.{nothing}
use Rattle.subsumption.proofs.RowLaws.{table_of}
use Rattle.subsumption.proofs.MarkLaws.{marks-counted}
use Rattle.subsumption.proofs.Completeness.{closed-exactly}

module _ (t : Tables) (assignment : List ℕ) (h : table_fault t ≡ Done) where
  pub count-assignment : assignment_fault t assignment ≡ Done → length assignment ≡ t.variables
  unfolding assignment_fault assignment_fault_at
  count-assignment k = eqb-true _ _ (not-false _ (passed-if _ _ (passed_first _ _ k)))

  pub ready : assignment_fault t assignment ≡ Done → Ready t.concepts t.inclusions (atoms t) assignment
  ready k =
      let wf = well_formed t h in
      record {
        whole = wf.whole;
        few = wf.few;
        even = wf.even;
        rising = λ i l. wf.rising i;
        numbered = λ i n e. omega (arith, wf.numbered i n e, count-assignment k);
        left-known = wf.left-known;
        right-known = wf.right-known;
        low-names = concepts-named t (table-concepts t h);
        low-roles = wf.low-roles;
        few-atoms = wf.few-atoms;
        atoms-known = λ q l. atom-known t (get_or (atoms t) q 0) (get_or-member (atoms t) q l);
      }

-- columns that hold nothing
pub no-columns : Empty (replicate 576 0)
no-columns = record { long = length-replicate {A = ℕ} 576 0; zeros = λ p h. get_or-replicate 576 p 0 0 h }

-- ---- what the accepted tables and their atoms give
module _ (cs is qs rs : List ℕ) (v : ℕ) (assignment ids : List ℕ) (a : Accepted (tables cs is qs rs v) ids) where
  -- check 9, given the number of atoms
  pub choices-fault : (r : Outcome) → r ≡ assignment_fault_at (length ids) v assignment → r ≡ assignment_fault (tables cs is qs rs v) assignment
  unfolding assignment_fault
  choices-fault r f = f ∙ ap (λ (z : List ℕ). assignment_fault_at (length z) v assignment) a.listed

  pub accepted-ready : (x : Outcome) → x ≡ assignment_fault_at (length ids) v assignment → x ≡ Done → Ready cs is ids assignment
  accepted-ready x e f =
      subst (λ (z : List ℕ). Ready cs is z assignment) (sym a.listed) (ready (tables cs is qs rs v) assignment a.passed (sym (choices-fault x e) ∙ f))

  pub accepted-columns :
      (given columns : List ℕ) → Empty given → Closed cs is (wider rs) (choose_from ids assignment) given columns → ColumnsOf (tables cs is qs rs v) assignment columns
  accepted-columns given columns E c =
      let wf = well_formed (tables cs is qs rs v) a.passed in
      closed-exactly (tables cs is qs rs v) assignment given columns wf
      (λ i j l k m. absurd (nothing given E i j (omega (arith, wf.few)) (omega (arith, wf.few)) m))
      (subst (λ (z : List ℕ). Closed cs is (wider rs) (choose_from z assignment) given columns) a.listed c)

-- the same for tables accepted with some questions
module _ (cs is rs : List ℕ) (v : ℕ) (ids : List ℕ) (p : Prepared cs is rs v ids) where
  pub few-atoms : length ids ≤ 64
  few-atoms = omega (arith, ap length p.accepted.listed, (well_formed _ p.accepted.passed).few-atoms)

  pub few-concepts : count_of cs ≤ 192
  few-concepts = (well_formed _ p.accepted.passed).few

  pub layered : Layered cs
  layered = concepts-layered _ (table-concepts _ p.accepted.passed)

  pub few-numbers : (j k : ℕ) → node cs j ≡ var_at k → k < 8
  few-numbers j k e =
      let wf = well_formed _ p.accepted.passed in
      omega (arith, wf.numbered j k e, wf.few-variables)

  pub prepared-roles : LowRoles rs
  prepared-roles = roles-low _ p.accepted.passed

  pub prepared-ready : (assignment : List ℕ) (x : Outcome) → x ≡ assignment_fault_at (length ids) v assignment → x ≡ Done → Ready cs is ids assignment
  prepared-ready assignment x e f = accepted-ready cs is p.questions rs v assignment ids p.accepted x e f

-- what an asked pair's checks leave
module _ (t : Tables) (assignment : List ℕ) (left right : ℕ) (h : deciding_fault t assignment left right ≡ Done) where
  pair-passed : pair_fault t left right ≡ Done
  unfolding deciding_fault
  pair-passed = passed_first _ _ h

  pub asked-assignment : assignment_fault t assignment ≡ Done
  unfolding deciding_fault
  asked-assignment = passed-second _ _ h

  pub asked-tables : table_fault t ≡ Done
  asked-tables = pair-tables t left right pair-passed

  alone : no_concept (count_of t.concepts) left right ≡ false
  unfolding pair_fault alone_fault
  alone = passed-if _ _ (passed_first _ _ (passed-second _ _ pair-passed))

  pub asked-left : left < count_of t.concepts
  unfolding no_concept
  asked-left = ltb-true _ _ (not-false _ (or-false _ _ alone).0)

  pub asked-right : right < count_of t.concepts
  unfolding no_concept
  asked-right = ltb-true _ _ (not-false _ (or-false _ _ alone).1)

  pub asked-few : count_of t.concepts ≤ 192
  asked-few = (well_formed t asked-tables).few

module _ (t : Tables) (left right : ℕ) (h : pair_fault t left right ≡ Done) where
  pub pair_left : left < count_of t.concepts
  unfolding pair_fault alone_fault no_concept
  pair_left = ltb-true _ _ (not-false _ (or-false _ _ (passed-if _ _ (passed_first _ _ (passed-second _ _ h)))).0)

  pub pair-right : right < count_of t.concepts
  unfolding pair_fault alone_fault no_concept
  pair-right = ltb-true _ _ (not-false _ (or-false _ _ (passed-if _ _ (passed_first _ _ (passed-second _ _ h)))).1)

-- ---- the decision
module _ (t : Tables) (assignment : List ℕ) (left right : ℕ) where
  pub decides-refused : (r : Refusal) → Err r ≡ deciding_fault t assignment left right → Decides t assignment left right (reply_refused r)
  decides-refused r e = subst (λ (f : Outcome). Replies f (Tells t assignment left right) (reply_refused r)) e refl

  decides : (value : ℕ) → deciding_fault t assignment left right ≡ Done → Tells t assignment left right value → Decides t assignment left right (reply_done value)
  decides value h s = subst (λ (f : Outcome). Replies f (Tells t assignment left right) (reply_done value)) (sym h) (refl, s)

  module _ (columns : List ℕ) (C : ColumnsOf t assignment columns) (h : deciding_fault t assignment left right ≡ Done) (b : Bool) (e : b ≡ has columns left right) where
    pub decides-yes : b ≡ true → Decides t assignment left right (decision_reply (Ok true))
    decides-yes y = decides 1 h (C.sound left right (asked-left t assignment left right h) (asked-right t assignment left right h) (sym e ∙ y))

    pub decides-no : b ≡ false → Decides t assignment left right (decision_reply (Ok false))
    decides-no n = decides 0 h (λ s. false≢true (sym n ∙ e ∙ C.complete left right (asked-left t assignment left right h) (asked-right t assignment left right h) s))

-- ---- writing the table
module _ (t : Tables) (assignment before : List ℕ) where
  pub wrote-refused : (r : Refusal) → Err r ≡ writing_fault t assignment (length before) → Wrote t assignment before before (reply_refused r)
  wrote-refused r e = record { replied = ap (λ (z : Outcome). reply_with z (marks_in (count_of t.concepts) before)) e; left = subst (Left t assignment before before) e refl }

  pub wrote-done :
      (after : List ℕ) (marks : ℕ) → Done ≡ writing_fault t assignment (length before) → TableOf t assignment before after → marks ≡ marks_in (count_of t.concepts) after
      → Wrote t assignment before after (reply_done marks)
  wrote-done after marks e k n = record { replied = ap reply_done n ∙ ap (λ (z : Outcome). reply_with z (marks_in (count_of t.concepts) after)) e; left = subst (Left t assignment before after) e k }

  pub table-written :
      (columns after : List ℕ) → table_fault t ≡ Done → ColumnsOf t assignment columns
      → Written columns (count_of t.concepts) before after → TableOf t assignment before after
  table-written columns after h c w = table_of t assignment columns before after (well_formed t h).few c w

  pub table-refused : (r : Refusal) → Err r ≡ table_fault t → Wrote t assignment before before (reply_refused r)
  unfolding writing_fault
  table-refused r e = wrote-refused r (stops (Err r) _ _ r e refl)

module _ (cs is rs : List ℕ) (v : ℕ) (ids assignment before : List ℕ) (x : Outcome) (ex : x ≡ assignment_fault_at (length ids) v assignment) where
  pub put-choices : (r : Refusal) → x ≡ Err r → ForAccepted cs is rs v ids (λ t. Wrote t assignment before before (reply_refused r))
  unfolding writing_fault
  put-choices r h qs a =
      wrote-refused (tables cs is qs rs v) assignment before r
      (goes_on Done _ _ _ (sym a.passed) refl (stops x _ _ r (choices-fault cs is qs rs v assignment ids a x ex) h))

  module _ (hx : x ≡ Done) (y : Outcome) (ey : y ≡ buffer_fault (count_of cs * 24) (length before)) where
    pub put-room : (r : Refusal) → y ≡ Err r → ForAccepted cs is rs v ids (λ t. Wrote t assignment before before (reply_refused r))
    unfolding writing_fault row_start
    put-room r h qs a =
        wrote-refused (tables cs is qs rs v) assignment before r
        (goes_on Done _ _ _ (sym a.passed) refl (goes_on x _ _ _ (choices-fault cs is qs rs v assignment ids a x ex) hx (refuses y _ r ey h)))

    pub put-done :
        (columns after : List ℕ) (marks : ℕ) → y ≡ Done → Closed cs is (wider rs) (choose_from ids assignment) (replicate 576 0) columns → Written columns (count_of cs) before after
        → marks ≡ total (λ j. counted (λ i. has columns i j) (count_of cs)) (count_of cs) → ForAccepted cs is rs v ids (λ t. Wrote t assignment before after (reply_done marks))
    unfolding writing_fault row_start
    put-done columns after marks hy c w n qs a =
        wrote-done (tables cs is qs rs v) assignment before after marks
        (goes_on Done _ _ _ (sym a.passed) refl (both-done x _ y _ (choices-fault cs is qs rs v assignment ids a x ex) hx ey hy))
        (table-written (tables cs is qs rs v) assignment before columns after a.passed (accepted-columns cs is qs rs v assignment ids a _ columns no-columns c) w)
        (n ∙ marks-counted columns (count_of cs) before after (well_formed (tables cs is qs rs v) a.passed).few w)

-- ---- deciding
module _ (t : Tables) (assignment : List ℕ) (left right : ℕ) where
  pub pair-refused : (r : Refusal) → Err r ≡ pair_fault t left right → Decides t assignment left right (reply_refused r)
  unfolding deciding_fault
  pair-refused r e = decides-refused t assignment left right r (stops (Err r) _ _ r e refl)

module _ (cs is rs : List ℕ) (v : ℕ) (ids assignment : List ℕ) (left right : ℕ) (l : left < count_of cs) (k : right < count_of cs)
    (x : Outcome) (ex : x ≡ assignment_fault_at (length ids) v assignment) where
  pair-passes : (qs : List ℕ) → table_fault (tables cs is qs rs v) ≡ Done → pair_fault (tables cs is qs rs v) left right ≡ Done
  unfolding table_fault pair_fault alone_fault no_concept
  pair-passes qs h =
      sym (goes_on _ _ _ Done refl (passed_first _ _ h)
      (goes_on _ _ _ Done (done-if _ _ (or-skip _ _ (ap not (lt-ltb _ _ l)) ∙ ap not (lt-ltb _ _ k))) refl (sym (passed-second _ _ h))))

  pub known-fault : (qs : List ℕ) → Accepted (tables cs is qs rs v) ids → x ≡ deciding_fault (tables cs is qs rs v) assignment left right
  unfolding deciding_fault
  known-fault qs a = goes_on Done _ _ _ (sym (pair-passes qs a.passed)) refl (choices-fault cs is qs rs v assignment ids a x ex)

  pub known-refused : (r : Refusal) → x ≡ Err r → ForAccepted cs is rs v ids (λ t. Decides t assignment left right (reply_refused r))
  known-refused r h qs a = decides-refused (tables cs is qs rs v) assignment left right r (refuses x _ r (known-fault qs a) h)

  module _ (hx : x ≡ Done) (columns : List ℕ) (c : Closed cs is (wider rs) (choose_from ids assignment) (replicate 576 0) columns) (b : Bool) (e : b ≡ has columns left right) where
    known : (qs : List ℕ) (a : Accepted (tables cs is qs rs v) ids) → deciding_fault (tables cs is qs rs v) assignment left right ≡ Done
    known qs a = sym (known-fault qs a) ∙ hx

    pub known-yes : b ≡ true → ForAccepted cs is rs v ids (λ t. Decides t assignment left right (decision_reply (Ok true)))
    known-yes y qs a = decides-yes (tables cs is qs rs v) assignment left right columns (accepted-columns cs is qs rs v assignment ids a _ columns no-columns c) (known qs a) b e y

    pub known-no : b ≡ false → ForAccepted cs is rs v ids (λ t. Decides t assignment left right (decision_reply (Ok false)))
    known-no n qs a = decides-no (tables cs is qs rs v) assignment left right columns (accepted-columns cs is qs rs v assignment ids a _ columns no-columns c) (known qs a) b e n
