-- The shown interpretation: its members are what is subsumed, so it refutes a pair that fails.
use Rattle.subsumption.specs.Refusal.{Done}
use Prim.Native.Nat.{ℕ, ◌<◌}
use mathlib.Core.Path.{◌≡◌, refl, sym, ◌∙◌}
use mathlib.Core.List.{List}
use mathlib.Core.Bool.{Bool, true, false, false≢true, true≢false}
use mathlib.Core.Logic.{◌↔◌}
use borrow.Author.Tests.{eqb-true, eq-eqb}
use Rattle.subsumption.specs.Tables.{Tables, Node, top_at, name_at, exists_at, and_at, var_at, node, count_of, left_of, right_of}
use Rattle.subsumption.specs.Roles.{wider}
use Rattle.subsumption.specs.Subsumption.{Subsumed}
use Rattle.subsumption.specs.Check.{table_fault}
use Rattle.subsumption.proofs.Bools.{both_true, both-intro, any_below-intro, any_below-elim}
use Rattle.subsumption.proofs.RoleLaws.{wider-refl, wider-trans, wider-pair}
use Rattle.subsumption.proofs.Accepted.{well_formed, table-concepts, concepts-named}
use Rattle.subsumption.proofs.Inward.{below-inward}
use Rattle.subsumption.proofs.Soundness.{subsumed-steps}
use Rattle.subsumption.proofs.Canonical.{Canonical, obeys, assigned-in, assigned-out}
use Rattle.countermodel.specs.Rows.{interpretation_of}
use Rattle.countermodel.specs.Countermodel.{Exactly, is_named, leads_to, bears, is_linked, shown_rows, Refutes}
use Rattle.countermodel.specs.Membership.{IsMember}
use Rattle.countermodel.proofs.ShownLaws.{shown-named, shown-linked}

is_named-out : (n : ℕ) (row : Node) → is_named n row ≡ true → row ≡ name_at n
unfolding is_named
is_named-out n top_at h = cc
is_named-out n (name_at m) h = let e = eqb-true n m h in cc
is_named-out n (exists_at r j) h = cc
is_named-out n (and_at i j) h = cc
is_named-out n (var_at k) h = cc

leads_to-out : (roles : List ℕ) (s y : ℕ) (row : Node) → leads_to roles s y row ≡ true → (r : ℕ) × (row ≡ exists_at r y) × (wider roles r s ≡ true)
unfolding leads_to
leads_to-out roles s y top_at h = absurd (false≢true h)
leads_to-out roles s y (name_at m) h = absurd (false≢true h)
leads_to-out roles s y (exists_at r j) h =
    let (w, k) = both_true _ _ h in
    let e = eqb-true y j k in
    (r, cc, w)
leads_to-out roles s y (and_at i j) h = absurd (false≢true h)
leads_to-out roles s y (var_at k) h = absurd (false≢true h)

module _ (concepts : List ℕ) (marks : ℕ → ℕ → Bool) where
  bears-in : (i j n : ℕ) → j < count_of concepts → node concepts j ≡ name_at n → marks i j ≡ true → bears concepts marks i n ≡ true
  unfolding bears is_named
  bears-in i j n l e h = any_below-intro _ _ j l (both-intro _ _ h (rw e (eq-eqb n n refl)))

  bears-out : (i n : ℕ) → bears concepts marks i n ≡ true → (j : ℕ) × (j < count_of concepts) × (node concepts j ≡ name_at n) × (marks i j ≡ true)
  unfolding bears
  bears-out i n h =
      let (j, l, k) = any_below-elim _ _ h in
      let (m, e) = both_true _ _ k in
      (j, l, is_named-out n _ e, m)

module _ (concepts roles : List ℕ) (marks : ℕ → ℕ → Bool) where
  linked-in :
      (i j r s y : ℕ) → j < count_of concepts → node concepts j ≡ exists_at r y → wider roles r s ≡ true → marks i j ≡ true
      → is_linked concepts roles marks i s y ≡ true
  unfolding is_linked leads_to
  linked-in i j r s y l e w h = any_below-intro _ _ j l (both-intro _ _ h (rw e (both-intro _ _ w (eq-eqb y y refl))))

  linked-out :
      (i s y : ℕ) → is_linked concepts roles marks i s y ≡ true
      → (j : ℕ) × (r : ℕ) × (j < count_of concepts) × (node concepts j ≡ exists_at r y) × (wider roles r s ≡ true) × (marks i j ≡ true)
  unfolding is_linked
  linked-out i s y h =
      let (j, l, k) = any_below-elim _ _ h in
      let (m, u) = both_true _ _ k in
      let (r, e, w) = leads_to-out roles s y _ u in
      (j, r, l, e, w, m)

module _ (t : Tables) (assignment : List ℕ) (fine : table_fault t ≡ Done) (marks : ℕ → ℕ → Bool) (exactly : Exactly t assignment marks) where
  shown-canonical : Canonical t assignment (interpretation_of (count_of t.concepts) (shown_rows t.concepts t.roles marks)) (Subsumed t assignment) (Subsumed t assignment)
  unfolding interpretation_of
  shown-canonical =
      let wf = well_formed t fine in
      let steps = subsumed-steps t assignment wf in
      record {
        size = refl;
        self = steps.same;
        obeying = steps.included;
        roles-obeyed = λ m l x y _ _ h.
            let (k, _, u, v) = (shown-linked t.concepts t.roles marks x (left_of t.roles m) y).0 h in
            let (j, r, o, e, w, p) = linked-out t.concepts t.roles marks x (left_of t.roles m) y v in
            (shown-linked t.concepts t.roles marks x (right_of t.roles m) y).1 (
              k,
              wf.wide_low m l,
              u,
              linked-in t.concepts t.roles marks x j r (right_of t.roles m) y o e
                  (wider-trans t.roles r _ _ w (wider-pair t.roles m l)) p,
            );
        name_in = λ x c n l k e h.
            (shown-named t.concepts t.roles marks x n).1 (
              l,
              concepts-named t (table-concepts t fine) c n e,
              bears-in t.concepts marks x c n k e (exactly.complete x c l k h),
            );
        link-in = λ x c r d l k e h.
            let u = (below-inward t.concepts wf.rising (count_of t.concepts)).inner c r d e k in (
              d,
              u,
              (shown-linked t.concepts t.roles marks x r d).1 (
                l,
                wf.low-roles c r d e,
                u,
                linked-in t.concepts t.roles marks x c r r d k e (wider-refl t.roles r) (exactly.complete x c l k h),
              ),
              steps.same d u,
            );
        first-in = steps.first;
        second-in = steps.second;
        chosen-in = steps.chooses;
        top-out = steps.top;
        name_out = λ x c n l k e h.
            let (_, _, b) = (shown-named t.concepts t.roles marks x n).0 h in
            let (j, u, f, m) = bears-out t.concepts marks x n b in
            steps.named x j c n l u k f e (exactly.sound x j l u m);
        link-out = λ x c r d y l k _ e h s.
            let (_, _, _, v) = (shown-linked t.concepts t.roles marks x r y).0 h in
            let (j, q, u, f, w, m) = linked-out t.concepts t.roles marks x r y v in
            steps.linked x j c q r y d l u k f e w s (exactly.sound x j l u m);
        and-out = steps.meet;
        chosen-out = steps.all-chosen;
      }

  -- An element is a member of exactly the concepts that it is below.
  pub shown-members :
      (i j : ℕ) → i < count_of t.concepts → j < count_of t.concepts
      → IsMember t assignment (interpretation_of (count_of t.concepts) (shown_rows t.concepts t.roles marks)) j i ↔ Subsumed t assignment i j
  shown-members i j l k = (
    assigned-out t assignment (well_formed t fine) _ _ _ shown-canonical j i k l,
    assigned-in t assignment (well_formed t fine) _ _ _ shown-canonical j i k l,
  )

  pub shown-refutes :
      (left right : ℕ) → left < count_of t.concepts → right < count_of t.concepts → marks left right ≡ false
      → Refutes t assignment left right (interpretation_of (count_of t.concepts) (shown_rows t.concepts t.roles marks))
  unfolding interpretation_of
  shown-refutes left right l k e =
      record {
        obeys = obeys t assignment (well_formed t fine) _ _ _ shown-canonical;
        element = l;
        of_left = (shown-members left left l l).1 (shown-canonical.self left l);
        not_right = λ h. true≢false (sym (exactly.complete left right l k ((shown-members left right l k).0 h)) ∙ e);
      }
