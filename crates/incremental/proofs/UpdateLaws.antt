-- What an update leaves: from the closed square to the table, and the checks in their order.
use Rattle.std.specs.Prelude.{Err}
use Prim.Native.Nat.{ℕ, ◌*◌, ◌<◌, ◌≤◌}
use mathlib.Core.Path.{◌≡◌, refl, sym, ap, ◌∙◌, subst}
use mathlib.Core.List.{List, Memᴰ}
use mathlib.Core.Bool.{Bool, true, false}
use mathlib.Core.Logic.{⊎_elim}
use native.Mathlib.Omega.{arith}
use lib.ListN.{length, get_or}
use borrow.Author.Tests.{ltb-true, lt-ltb}
use Rattle.subsumption.specs.declared.refusal.Refusal.{Refusal}
use Rattle.subsumption.specs.declared.refusal.Refusal.TheVariants.{BufferTooShort}
use Rattle.subsumption.specs.Tables.{Tables, tables, or, Node, top_at, name_at, exists_at, and_at, var_at, node, count_of, pairs_of}
use Rattle.subsumption.specs.Atoms.{atoms, pick, chosen}
use Rattle.subsumption.specs.Roles.{wider}
use Rattle.subsumption.specs.Refusal.{reply_of, Outcome, Done}
use Rattle.subsumption.specs.Check.{table_fault, buffer_fault}
use Rattle.subsumption.specs.Rules.{follows}
use Rattle.subsumption.specs.Table.{row_start, marked}
use Rattle.subsumption.specs.Inner.Roles.{LowRoles}
use Rattle.subsumption.specs.Inner.Settling.{choose_from}
use Rattle.subsumption.specs.Inner.Closure.{Ready}
use Rattle.subsumption.specs.Inner.Listing.{Accepted, Prepared, ForAccepted}
use Rattle.subsumption.proofs.Bools.{or_cases, or-second, both_true, both-intro}
use Rattle.subsumption.proofs.WellFormed.{WellFormed}
use Rattle.subsumption.proofs.Accepted.{well_formed, table-concepts, inclusions-few, roles-low, concepts-named}
use Rattle.subsumption.proofs.AtomLaws.{atom-known}
use Rattle.subsumption.proofs.Chosen.{get_or-member, atoms-distinct}
use Rattle.subsumption.proofs.Refusals.{stops, goes_on, refused-lt, done-le}
use Rattle.subsumption.proofs.Rules.{Rules, follows-elim, follows-rules}
use Rattle.incremental.specs.Told.{told_fault, tells, coded, told_assignment}
use Rattle.incremental.specs.Update.{updating_fault, ClosedUnder, Holds, ClosureOf, UpdatedBy, Updates}
use Rattle.square.specs.Inner.Square.{in_row}
use Rattle.incremental.specs.Inner.Lines.{InnerAt, MeetAt, Lines}
use Rattle.incremental.specs.Inner.Pass.{Within}
use Rattle.incremental.specs.Inner.Closing.{Closed}
use Rattle.square.specs.Inner.Loading.{Loaded}
use Rattle.incremental.specs.Inner.Bytes.{Stored}
use Rattle.incremental.specs.Inner.Told.{told_fault_in, Readable, ToldChoices}
use Rattle.incremental.proofs.ToldLaws.{told_at, pair-variable, pair-atom}

-- ---- the rules as lines, and back; `choices` has what the assignment has, for the variables
module _ (t : Tables) (assignment choices : List ℕ) (wf : WellFormed t) (agree : (k : ℕ) → k < t.variables → get_or choices k 0 ≡ get_or assignment k 0) where
  abbrev choose : ℕ → List ℕ
  choose = choose_from (atoms t) choices

  same-choice : (i k : ℕ) → node t.concepts i ≡ var_at k → choose k ≡ chosen t assignment k
  unfolding chosen
  same-choice i k e = ap (pick (atoms t)) (agree k (wf.numbered i k e))

  pub rules-of : (R : ℕ → ℕ → Bool) → Lines t.concepts t.inclusions (wider t.roles) choose R → Rules t assignment (λ i j. R i j ≡ true)
  rules-of R L =
      record {
        same = L.start.same;
        named = L.start.named;
        top = L.start.top;
        first = λ i j a b l k e h. (inner i (and_at a b) l e).0 j k h;
        second = λ i j a b l k e h. (inner i (and_at a b) l e).1 j k h;
        meet = λ i j a b l k e h u. met j (and_at a b) k e i l h u;
        linked = λ i j r s a b l k e f w h. L.link j k i r s a b l e f w h;
        included = λ i j m l k u h v. L.include i l m u h j k v;
        chooses = λ i j v p l k e m h. inner i (var_at v) l e p (subst (Memᴰ p) (sym (same-choice i v e)) m) j k h;
        all-chosen = λ i j v l k e f. met j (var_at v) k e i l (λ p m. f p (subst (Memᴰ p) (same-choice j v e) m));
      }
    where
      inner : (i : ℕ) (m : Node) → i < count_of t.concepts → node t.concepts i ≡ m → InnerAt (count_of t.concepts) choose R i m
      inner i m l e = subst (λ (z : Node). InnerAt (count_of t.concepts) choose R i z) e (L.inner i l)

      met : (j : ℕ) (m : Node) → j < count_of t.concepts → node t.concepts j ≡ m → MeetAt (count_of t.concepts) choose R j m
      met j m l e = subst (λ (z : Node). MeetAt (count_of t.concepts) choose R j z) e (L.meet j l)

  pub lines_of : (R : ℕ → ℕ → Bool) → Rules t assignment (λ i j. R i j ≡ true) → Lines t.concepts t.inclusions (wider t.roles) choose R
  lines_of R r =
      record {
        start = record { same = r.same; named = r.named; top = r.top };
        inner = λ i l. inner i l (node t.concepts i) refl;
        meet = λ j l. met j l (node t.concepts j) refl;
        include = λ i l m u h j k v. r.included i j m l k u h v;
        link = λ f l e p s x y k n o w h. r.linked e f p s x y k l n o w h;
      }
    where
      inner : (i : ℕ) → i < count_of t.concepts → (m : Node) → node t.concepts i ≡ m → InnerAt (count_of t.concepts) choose R i m
      inner i l top_at e = tt
      inner i l (name_at n) e = tt
      inner i l (exists_at s x) e = tt
      inner i l (and_at a b) e = ((λ j k h. r.first i j a b l k e h), (λ j k h. r.second i j a b l k e h))
      inner i l (var_at v) e = λ p m j k h. r.chooses i j v p l k e (subst (Memᴰ p) (same-choice i v e) m) h

      met : (j : ℕ) → j < count_of t.concepts → (m : Node) → node t.concepts j ≡ m → MeetAt (count_of t.concepts) choose R j m
      met j l top_at e = tt
      met j l (name_at n) e = tt
      met j l (exists_at s x) e = tt
      met j l (and_at a b) e = λ i k h u. r.meet i j a b k l e h u
      met j l (var_at v) e = λ i k f. r.all-chosen i j v k l e (λ p m. f p (subst (Memᴰ p) (sym (same-choice j v e)) m))

-- ---- the table
module _ (t : Tables) (assignment choices : List ℕ) (wf : WellFormed t) (agree : (k : ℕ) → k < t.variables → get_or choices k 0 ≡ get_or assignment k 0)
    (before after loaded closed : List ℕ) (L : Loaded (count_of t.concepts) before loaded)
    (C : Closed t.concepts t.inclusions (wider t.roles) (choose_from (atoms t) choices) loaded closed) (S : Stored closed (count_of t.concepts) before after) where
  few : (i : ℕ) → i < count_of t.concepts → i < 192
  few i l = omega (arith, wf.few)

  -- what the held table has marked, the closed square has
  held : (i j : ℕ) → i < count_of t.concepts → j < count_of t.concepts → marked before i j ≡ true → in_row closed i j ≡ true
  held i j l k h =
      C.grown.kept i j (few i l) (few j k) (L.marks i j l (few j k) ∙ both-intro _ _ (lt-ltb j (count_of t.concepts) k) h)

  from-square : (i j : ℕ) → i < count_of t.concepts → j < count_of t.concepts → in_row closed i j ≡ true → marked after i j ≡ true
  from-square i j l k h = S.bits i j l (few j k) ∙ or-second _ _ h

  to-square : (i j : ℕ) → i < count_of t.concepts → j < count_of t.concepts → marked after i j ≡ true → in_row closed i j ≡ true
  to-square i j l k h = ⊎_elim (λ u. held i j l k u) (λ u. u) (or_cases _ _ (sym (S.bits i j l (few j k)) ∙ h))

  -- the loaded marks are at ids, and held
  loaded-within : (R : ℕ → ℕ → Bool) → Holds t (marked before) R → Within (count_of t.concepts) R loaded
  loaded-within R h i j l k u =
      let (p, q) = both_true _ _ (sym (L.marks i j l k) ∙ u) in
      let m = ltb-true j (count_of t.concepts) p in
      (m, h i j l m q)

  closed-within : (R : ℕ → ℕ → Bool) → Rules t assignment (λ i j. R i j ≡ true) → Holds t (marked before) R → Within (count_of t.concepts) R closed
  closed-within R r h = C.grown.sound R (lines_of t assignment choices wf agree R r) (loaded-within R h)

  -- no mark past the last column comes in: all pairs of ids are one relation with the rules
  none-past : (i j : ℕ) → i < count_of t.concepts → count_of t.concepts ≤ j → j < 192 → in_row closed i j ≡ false
  none-past i j l k m = go (in_row closed i j) refl
    where
      all : Rules t assignment (λ i j. true ≡ true)
      all =
          record {
            same = λ i l. refl;
            named = λ i j n l k e f. refl;
            top = λ i j l k e. refl;
            first = λ i j a b l k e h. refl;
            second = λ i j a b l k e h. refl;
            meet = λ i j a b l k e h u. refl;
            linked = λ i j r s a b l k e f w h. refl;
            included = λ i j m l k u h v. refl;
            chooses = λ i j v p l k e m h. refl;
            all-chosen = λ i j v l k e f. refl;
          }

      go : (b : Bool) → in_row closed i j ≡ b → in_row closed i j ≡ false
      go true e = absurd (omega (arith, (closed-within (λ i j. true) all (λ i j l k h. refl) i j l m e).0))
      go false e = e

  or-none : (a b : Bool) → b ≡ false → or a b ≡ a
  unfolding or
  or-none true b e = refl
  or-none false b e = e

  after-closed : ClosedUnder t assignment (marked after)
  unfolding follows
  after-closed rule left right extra h =
      let (l, u) = both_true _ _ h in
      let (k, v) = both_true _ _ u in
      from-square left right (ltb-true _ _ l) (ltb-true _ _ k)
      (follows-elim t assignment wf (λ i j. in_row closed i j ≡ true) (rules-of t assignment choices wf agree (in_row closed) C.lines) (marked after) to-square rule left right extra h)

  pub closure-of : ClosureOf t assignment before after
  closure-of =
      record {
        size = S.size;
        kept = λ i j l k h. from-square i j l k (held i j l k h);
        closed = after-closed;
        least =
            λ R c h i j l k m. (closed-within R (follows-rules t assignment R c) h i j l (few j k) (to-square i j l k m)).1;
        past = λ i j l k m. S.bits i j l m ∙ or-none _ _ (none-past i j l k m);
        rest = S.rest;
      }

-- ---- the checks
module _ (t : Tables) (told before : List ℕ) where
  updates-refused : (r : Refusal) → Err r ≡ updating_fault t told (length before) → Updates t told before before (reply_of (Err r))
  updates-refused r e = record { replied = ap reply_of e; updated = subst (λ (f : Outcome). UpdatedBy f t told before before) e refl }

  updates-done : (after : List ℕ) → Done ≡ updating_fault t told (length before) → ClosureOf t (told_assignment t told) before after → Updates t told before after (reply_of Done)
  updates-done after e c = record { replied = ap reply_of e; updated = subst (λ (f : Outcome). UpdatedBy f t told before after) e c }

  pub update-refused : (r : Refusal) → Err r ≡ table_fault t → Updates t told before before (reply_of (Err r))
  unfolding updating_fault
  update-refused r e = updates-refused r (stops (Err r) _ _ r e refl)

module _ (cs is rs : List ℕ) (v : ℕ) (ids told before : List ℕ) (x : Outcome) (ex : x ≡ told_fault_in ids v told) where
  told-fault : (qs : List ℕ) → Accepted (tables cs is qs rs v) ids → x ≡ told_fault (tables cs is qs rs v) told
  unfolding told_fault told_fault_in
  told-fault qs a = ex ∙ ap (λ (z : List ℕ). told_fault_in z v told) a.listed

  pub update-told : (r : Refusal) → x ≡ Err r → ForAccepted cs is rs v ids (λ t. Updates t told before before (reply_of (Err r)))
  unfolding updating_fault
  update-told r h qs a =
      updates-refused (tables cs is qs rs v) told before r (goes_on Done _ _ _ (sym a.passed) refl (stops x _ _ r (told-fault qs a) h))

  module _ (hx : x ≡ Done) where
    pub update-room : length before < count_of cs * 24 → ForAccepted cs is rs v ids (λ t. Updates t told before before (reply_of (Err (BufferTooShort (count_of cs * 24)))))
    unfolding updating_fault buffer_fault row_start
    update-room h qs a =
        updates-refused (tables cs is qs rs v) told before (BufferTooShort (count_of cs * 24))
        (goes_on Done _ _ _ (sym a.passed) refl (goes_on x _ _ _ (told-fault qs a) hx (refused-lt (length before) (count_of cs * 24) _ h)))

    pub update-done :
        (choices loaded closed after : List ℕ) → count_of cs * 24 ≤ length before → ToldChoices ids told choices → Loaded (count_of cs) before loaded
        → Closed cs is (wider rs) (choose_from ids choices) loaded closed → Stored closed (count_of cs) before after
        → ForAccepted cs is rs v ids (λ t. Updates t told before after (reply_of Done))
    unfolding updating_fault buffer_fault row_start
    update-done choices loaded closed after room T L C S qs a =
        updates-done t told before after
        (goes_on Done _ _ _ (sym a.passed) refl (goes_on x _ _ _ (told-fault qs a) hx (done-le (length before) (count_of cs * 24) _ room)))
        (closure-of t (told_assignment t told) choices wf agree before after loaded closed L
        (subst (λ (z : List ℕ). Closed cs is (wider rs) (choose_from z choices) loaded closed) a.listed C) S)
      where
        t : Tables
        t = tables cs is qs rs v

        wf : WellFormed (tables cs is qs rs v)
        wf = well_formed (tables cs is qs rs v) a.passed

        agree : (k : ℕ) → k < v → get_or choices k 0 ≡ get_or (told_assignment (tables cs is qs rs v) told) k 0
        agree k l =
            T.each k (omega (arith, wf.few-variables)) ∙ ap (λ (z : List ℕ). coded (tells told k) z) a.listed ∙ sym (told_at (tables cs is qs rs v) told k l)

-- ---- what the steps ask
module _ (cs is rs : List ℕ) (v : ℕ) (ids told : List ℕ) (p : Prepared cs is rs v ids) where
  abbrev t' : Tables
  t' = tables cs is p.questions rs v

  wf' : WellFormed t'
  wf' = well_formed t' p.accepted.passed

  pub update-few : count_of cs ≤ 192
  update-few = wf'.few

  pub update-pairs : pairs_of is ≤ 96
  update-pairs = inclusions-few t' (table-concepts t' p.accepted.passed)

  pub update-roles : LowRoles rs
  update-roles = roles-low t' p.accepted.passed

  pub update-readable : (x : Outcome) → x ≡ told_fault_in ids v told → x ≡ Done → Readable ids told
  unfolding told_fault told_fault_in
  update-readable x e h =
      let passed : told_fault t' told ≡ Done = sym (ap (λ (z : List ℕ). told_fault_in z v told) p.accepted.listed) ∙ sym e ∙ h in
      subst (λ (z : List ℕ). Readable z told) (sym p.accepted.listed)
      (record {
        few = wf'.few-atoms;
        distinct = atoms-distinct t';
        left = λ m l. omega (arith, pair-variable t' told passed m l, wf'.few-variables);
        right = pair-atom t' told passed;
      })

  pub update-ready : (choices : List ℕ) → length choices ≡ 8 → Ready cs is ids choices
  update-ready choices n =
      subst (λ (z : List ℕ). Ready cs is z choices) (sym p.accepted.listed)
      (record {
        whole = wf'.whole;
        few = wf'.few;
        even = wf'.even;
        rising = λ i l. wf'.rising i;
        numbered = λ i k e. omega (arith, wf'.numbered i k e, wf'.few-variables);
        left-known = wf'.left-known;
        right-known = wf'.right-known;
        low-names = concepts-named t' (table-concepts t' p.accepted.passed);
        low-roles = wf'.low-roles;
        few-atoms = wf'.few-atoms;
        atoms-known = λ q l. atom-known t' (get_or (atoms t') q 0) (get_or-member (atoms t') q l);
      })
