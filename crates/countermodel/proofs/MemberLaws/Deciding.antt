-- From passed checks to the walk, and from its answer to the decision.
use Rattle.std.specs.Prelude.{Err, Ok, true, false}
use Prim.Native.Nat.{ℕ, ◌<◌, ◌≤◌}
use mathlib.Core.Path.{◌≡◌, refl, sym, ap, ◌∙◌, subst}
use mathlib.Core.List.{List}
use mathlib.Core.Bool.{Bool, true, false}
use native.Mathlib.Omega.{arith}
use lib.ListN.{length, get_or}
use Rattle.subsumption.specs.declared.refusal.Refusal.{Refusal}
use Rattle.subsumption.specs.Tables.{Tables, tables, count_of, tree, has_variable}
use Rattle.subsumption.specs.Atoms.{atoms}
use Rattle.subsumption.specs.Refusal.{reply_done, reply_refused, Replies, or_else, Outcome, Done}
use Rattle.subsumption.specs.Check.{table_fault, assignment_fault_at, assignment_fault}
use Rattle.subsumption.specs.Decide.{decision_reply}
use Rattle.subsumption.specs.Inner.Listing.{Accepted}
use Rattle.subsumption.proofs.Refusals.{stops, goes_on, refuses}
use Rattle.subsumption.proofs.Accepted.{well_formed}
use Rattle.subsumption.proofs.AtomLaws.{atom-known, atom-ground}
use Rattle.subsumption.proofs.Chosen.{get_or-member}
use Rattle.subsumption.proofs.Deciding.{count-assignment, choices-fault}
use Rattle.countermodel.specs.Rows.{interpretation_of}
use Rattle.countermodel.specs.Membership.{size_fault, rows_fault, element_fault, membership_fault, TellsMember, DecidesMember}
use Rattle.countermodel.specs.Inner.Membership.{Listing, ForListing, Right, LowRows, Walkable, IsIn}
use Rattle.countermodel.proofs.MemberLaws.Checks.{size_few, row_last, low_rows, concept-known, element-known}
use Rattle.countermodel.proofs.MemberLaws.Sizes.{given-in, given_out}

-- ---- what the checks leave for the walk
walkable :
    (t : Tables) (ids assignment rows : List ℕ) → Accepted t ids → assignment_fault t assignment ≡ Done → LowRows rows
    → Walkable t.concepts ids assignment rows
walkable t ids assignment rows a k L =
    let wf = well_formed t a.passed in
    record {
      few = wf.few;
      rising = wf.rising;
      numbered = λ i n e. omega (arith, wf.numbered i n e, count-assignment t assignment a.passed k);
      few-atoms = omega (arith, ap length a.listed, wf.few-atoms);
      atoms-known = subst Atoms-known (sym a.listed) (λ q l. atom-known t _ (get_or-member (atoms t) q l));
      atoms-ground = subst Atoms-ground (sym a.listed) (λ q l. atom-ground t _ wf (get_or-member (atoms t) q l));
      low = L;
    }
  where
    Atoms-known : List ℕ → Type 0
    Atoms-known z = (q : ℕ) → q < length z → get_or z q 0 < count_of t.concepts

    Atoms-ground : List ℕ → Type 0
    Atoms-ground z = (q : ℕ) → q < length z → has_variable (tree t.concepts (get_or z q 0)) ≡ false

pub few-listed : (cs : List ℕ) (v : ℕ) (ids : List ℕ) → Listing cs v ids → length ids ≤ 64
few-listed cs v ids l = omega (arith, ap length l.accepted.listed, (well_formed _ l.accepted.passed).few-atoms)

pub listing : (cs is qs rs : List ℕ) (v : ℕ) (ids : List ℕ) → Accepted (tables cs is qs rs v) ids → Listing cs v ids
listing cs is qs rs v ids a = record { inclusions = is; questions = qs; roles = rs; accepted = a }

-- ---- the decision
module _ (t : Tables) (assignment : List ℕ) (size : ℕ) (rows : List ℕ) (concept element : ℕ) where
  pub member-refused : (r : Refusal) → Err r ≡ membership_fault t assignment size rows concept element → DecidesMember t assignment size rows concept element (reply_refused r)
  member-refused r e = subst (λ (f : Outcome). Replies f (TellsMember t assignment (interpretation_of size rows) concept element) (reply_refused r)) e refl

  pub tables-refused : (r : Refusal) → Err r ≡ table_fault t → DecidesMember t assignment size rows concept element (reply_refused r)
  unfolding membership_fault
  tables-refused r e = member-refused r (stops (Err r) _ _ r e refl)

  told : (value : ℕ) → Done ≡ membership_fault t assignment size rows concept element → TellsMember t assignment (interpretation_of size rows) concept element value → DecidesMember t assignment size rows concept element (reply_done value)
  told value e h = subst (λ (f : Outcome). Replies f (TellsMember t assignment (interpretation_of size rows) concept element) (reply_done value)) e (refl, h)

-- The rest of the checks, in their order: x is what the check of the assignment gave.
module _ (cs : List ℕ) (v : ℕ) (ids assignment : List ℕ) (size : ℕ) (rows : List ℕ) (concept element : ℕ)
    (x : Outcome) (ex : x ≡ assignment_fault_at (length ids) v assignment) where
  known-fault :
      (is qs rs : List ℕ) → Accepted (tables cs is qs rs v) ids
      → or_else x (or_else (size_fault size rows) (or_else (rows_fault size rows) (element_fault (count_of cs) size concept element)))
      ≡ membership_fault (tables cs is qs rs v) assignment size rows concept element
  unfolding membership_fault
  known-fault is qs rs a =
      goes_on Done _ _ _ (sym a.passed) refl
      (ap (λ (z : Outcome). or_else z (or_else (size_fault size rows) (or_else (rows_fault size rows) (element_fault (count_of cs) size concept element))))
      (choices-fault cs is qs rs v assignment ids a x ex))

  refused :
      (r : Refusal) → Err r ≡ or_else x (or_else (size_fault size rows) (or_else (rows_fault size rows) (element_fault (count_of cs) size concept element)))
      → ForListing cs v ids (λ t. DecidesMember t assignment size rows concept element (reply_refused r))
  refused r e is qs rs a = member-refused (tables cs is qs rs v) assignment size rows concept element r (e ∙ known-fault is qs rs a)

  pub choices-refused : (r : Refusal) → x ≡ Err r → ForListing cs v ids (λ t. DecidesMember t assignment size rows concept element (reply_refused r))
  choices-refused r h = refused r (stops x _ _ r refl h)

  module _ (hx : x ≡ Done) (y : Outcome) (ey : y ≡ size_fault size rows) where
    pub size-refused : (r : Refusal) → y ≡ Err r → ForListing cs v ids (λ t. DecidesMember t assignment size rows concept element (reply_refused r))
    size-refused r h = refused r (goes_on x _ _ _ refl hx (stops y _ _ r ey h))

    module _ (hy : y ≡ Done) (z : Outcome) (ez : z ≡ rows_fault size rows) where
      pub rows-refused : (r : Refusal) → z ≡ Err r → ForListing cs v ids (λ t. DecidesMember t assignment size rows concept element (reply_refused r))
      rows-refused r h = refused r (goes_on x _ _ _ refl hx (goes_on y _ _ _ ey hy (stops z _ _ r ez h)))

      module _ (hz : z ≡ Done) (w : Outcome) (ew : w ≡ element_fault (count_of cs) size concept element) where
        pub element-refused : (r : Refusal) → w ≡ Err r → ForListing cs v ids (λ t. DecidesMember t assignment size rows concept element (reply_refused r))
        element-refused r h = refused r (goes_on x _ _ _ refl hx (goes_on y _ _ _ ey hy (goes_on z _ _ _ ez hz (refuses w _ r ew h))))

        module _ (hw : w ≡ Done) where
          pub walk-asked : Listing cs v ids → Walkable cs ids assignment rows × ((element < 192) × (concept < count_of cs))
          walk-asked l = (
            walkable (tables cs l.inclusions l.questions l.roles v) ids assignment rows l.accepted
                (sym (choices-fault cs l.inclusions l.questions l.roles v assignment ids l.accepted x ex) ∙ hx)
                (low_rows size rows (sym ey ∙ hy) (sym ez ∙ hz)),
            (
              omega (arith, element-known (count_of cs) size concept element (sym ew ∙ hw), size_few size rows (sym ey ∙ hy)),
              concept-known (count_of cs) size concept element (sym ew ∙ hw),
            ),
          )

          passed :
              (is qs rs : List ℕ) → Accepted (tables cs is qs rs v) ids
              → Done ≡ membership_fault (tables cs is qs rs v) assignment size rows concept element
          passed is qs rs a = goes_on x _ _ _ refl hx (goes_on y _ _ _ ey hy (goes_on z _ _ _ ez hz (sym hw ∙ ew))) ∙ known-fault is qs rs a

          module _ (b : Bool) (R : Right b (IsIn cs ids assignment rows (tree cs concept) element)) where
            pub known-yes : b ≡ true → ForListing cs v ids (λ t. DecidesMember t assignment size rows concept element (decision_reply (Ok true)))
            known-yes e is qs rs a =
                told (tables cs is qs rs v) assignment size rows concept element 1 (passed is qs rs a)
                (given-in (tables cs is qs rs v) ids assignment a.listed size rows (row_last size rows (sym ez ∙ hz)) (low_rows size rows (sym ey ∙ hy) (sym ez ∙ hz)).right (tree cs concept) element (R.yes e))

            pub known-no : b ≡ false → ForListing cs v ids (λ t. DecidesMember t assignment size rows concept element (decision_reply (Ok false)))
            known-no e is qs rs a =
                told (tables cs is qs rs v) assignment size rows concept element 0 (passed is qs rs a)
                (λ h. R.no e (given_out (tables cs is qs rs v) ids assignment a.listed size rows (row_last size rows (sym ez ∙ hz)) (low_rows size rows (sym ey ∙ hy) (sym ez ∙ hz)).right (tree cs concept) element h))
