-- Closing brackets.
use Rattle.std.specs.Prelude.{Result, Ok, Err}
use Prim.Native.Nat.{ℕ, ◌+◌, ◌-◌, ◌*◌, ◌<◌, ◌≤◌}
use mathlib.Core.Path.{◌≡◌, refl, sym, ap, ◌∙◌, subst}
use mathlib.Core.List.{List, [], ◌∷◌, ◌++◌}
use native.Mathlib.Omega.{arith}
use lib.ListN.{length, get_or, take, set, length-set}
use lib.Seq.{length-take-le}
use borrow.Author.Tests.{lt-ltb, le-ltb, eq-eqb, ne_eqb}
use Rattle.subsumption.specs.declared.refusal.Refusal.{Refusal}
use Rattle.subsumption.specs.declared.refusal.Refusal.TheVariants.{BadSyntax, Limit}
use Rattle.subsumption.specs.Tables.{count_of}
use Rattle.owl.specs.declared.frames.Reader.{Reader}
use Rattle.owl.specs.Tokens.{closing}
use Rattle.owl.specs.Judgement.{Kind, subclass, meet, exist, item, State, Step, go, go_if, closed, meet_rows, shut_by, shut, item_step}
use Rattle.owl.specs.Inner.Frames.{kind_of, between, frame_of, frames_of, state_of, Nested, Bounds, Fits, NextOf, Closes, closing-frame, ShutsAxiom, ShutsClass}
use Rattle.owl.specs.Inner.Rows.{Paired}
use Rattle.owl.specs.Inner.Judging.{ShutsFrame}
use Rattle.owl.proofs.FrameLaws.{between-length, top_frame, top-nested, kind-exist, same-state, stops, goes}
use Rattle.subsumption.proofs.Lists.{take-two}
use Rattle.owl.proofs.RowLaws.{behind, closes-not, closes-row, between_cons, between-end, meet-length}

module _ (outer : Reader) (used place : ℕ) (pending : List ℕ) (long : length pending ≡ 192) where
  members : List ℕ
  members = between outer.used used pending

  members-count : used ≤ 192 → length members ≡ used - outer.used
  unfolding members
  members-count h = between-length outer.used used pending (omega arith)

  -- ---- an axiom
  module _ (inclusions : List ℕ) (order : (outer.used ≤ used) × (outer.pairs * 2 + used ≤ 192)) where
    pub axiom-not : (used - outer.used ≡ 2 → ⊥) → ShutsAxiom outer used place pending inclusions inclusions (Err (BadSyntax place))
    unfolding shut shut_by go_if members
    axiom-not n frames rows f =
        stops frames pending rows inclusions
        (shut place (closing-frame subclass 0 outer used pending) (frames_of outer.depth outer.used frames pending) (state_of outer frames pending rows inclusions))
        (BadSyntax place) (rw (members-count (omega (arith, order)), ne_eqb (used - outer.used) 2 n) refl)

    pub axiom-shut :
        used - outer.used ≡ 2 → outer.pairs * 2 + used ≤ outer.count → length inclusions ≡ 192
        → ShutsAxiom outer used place pending inclusions
        (set (set inclusions (outer.pairs * 2) (get_or pending outer.used 0)) (outer.pairs * 2 + 1) (get_or pending (outer.used + 1) 0))
        (Ok (record { depth = outer.depth; used = outer.used; count = outer.count; pairs = outer.pairs + 1; want = 3 }))
    unfolding shut shut_by go_if members
    axiom-shut e apart l frames rows f =
        let s : State =
        record {
          frames = frames_of outer.depth outer.used frames pending;
          want = item;
          rows = take (outer.count * 3) rows;
          inclusions = take (outer.pairs * 2) inclusions ++ members;
        }
        in
        let both : members ≡ get_or pending outer.used 0 ∷ get_or pending (outer.used + 1) 0 ∷ [] =
        between_cons outer.used used pending (omega arith) (omega (arith, order))
        ∙ ap (λ (z : List ℕ). get_or pending outer.used 0 ∷ z)
        (between_cons (outer.used + 1) used pending (omega arith) (omega (arith, order))
        ∙ ap (λ (z : List ℕ). get_or pending (outer.used + 1) 0 ∷ z) (between-end (outer.used + 1 + 1) used pending (omega arith)))
        in
        let step : shut place (closing-frame subclass 0 outer used pending) (frames_of outer.depth outer.used frames pending) (state_of outer frames pending rows inclusions) ≡ go s =
        rw (members-count (omega (arith, order)), eq-eqb (used - outer.used) 2 e) refl
        in
        goes frames pending rows _ _ s _ step
        (same-state refl refl refl
        (ap (λ (z : List ℕ). take (outer.pairs * 2) inclusions ++ z) both
        ∙ sym (take-two (outer.pairs * 2) ((outer.pairs + 1) * 2) (get_or pending outer.used 0) (get_or pending (outer.used + 1) 0) inclusions (omega arith) (omega (arith, order)))))
        (record {
          bounds = record {
            deep = f.bounds.deep;
            bracket-room = λ k. absurd (omega arith);
            role-frame = λ k. absurd (omega arith);
            few = f.bounds.few;
            apart = omega arith;
          };
          nested = f.nested;
          frames-long = f.frames-long;
          pending-long = f.pending-long;
          rows_long = f.rows_long;
          inclusions-long = simp length-set l;
        })

  module _ (order : (outer.used ≤ used) × (used ≤ 192)) where
    -- ---- an existential
    module _ (r : ℕ) (rows : List ℕ) where
      pub exist-not : (used - outer.used ≡ 1 → ⊥) → ShutsClass exist r outer used place pending pending rows rows (Err (BadSyntax place))
      unfolding shut shut_by go_if members
      exist-not n frames inclusions f =
          stops frames pending rows inclusions
          (shut place (closing-frame exist r outer used pending) (frames_of outer.depth outer.used frames pending) (state_of outer frames pending rows inclusions))
          (BadSyntax place) (rw (members-count (omega (arith, order)), ne_eqb (used - outer.used) 1 n) refl)

      pub exist-shut :
          (pending' rows' : List ℕ) (next : Result Reader Refusal) → used - outer.used ≡ 1
          → Closes outer (2 ∷ r ∷ get_or pending outer.used 0 ∷ []) pending pending' rows rows' next
          → ShutsClass exist r outer used place pending pending' rows rows' next
      unfolding shut shut_by go_if members
      exist-shut pending' rows' next e c frames inclusions f =
          let one : members ≡ get_or pending outer.used 0 ∷ [] =
          between_cons outer.used used pending (omega arith) (omega (arith, order))
          ∙ ap (λ (z : List ℕ). get_or pending outer.used 0 ∷ z) (between-end (outer.used + 1) used pending (omega arith))
          in
          let step :
          shut place (closing-frame exist r outer used pending) (frames_of outer.depth outer.used frames pending) (state_of outer frames pending rows inclusions)
          ≡ closed (2 ∷ r ∷ get_or pending outer.used 0 ∷ []) (frames_of outer.depth outer.used frames pending) (state_of outer frames pending rows inclusions) =
          rw one refl
          in
          subst (λ (z : Step). NextOf z next frames pending' rows' inclusions) (sym step) (c frames inclusions f)

    -- ---- an intersection
    module _ (rows : List ℕ) where
      pub meet-not : used - outer.used < 2 → ShutsClass meet 0 outer used place pending pending rows rows (Err (BadSyntax place))
      unfolding shut shut_by go_if members
      meet-not h frames inclusions f =
          stops frames pending rows inclusions
          (shut place (closing-frame meet 0 outer used pending) (frames_of outer.depth outer.used frames pending) (state_of outer frames pending rows inclusions))
          (BadSyntax place) (rw (members-count (omega (arith, order)), le-ltb 1 (used - outer.used) (omega arith)) refl)

      module _ (enough : 2 ≤ used - outer.used) where
        meet-closes :
            (frames inclusions : List ℕ) → Fits outer frames pending rows inclusions
            → shut place (closing-frame meet 0 outer used pending) (frames_of outer.depth outer.used frames pending) (state_of outer frames pending rows inclusions)
            ≡ closed (meet_rows outer.count members) (frames_of outer.depth outer.used frames pending) (state_of outer frames pending rows inclusions)
        unfolding shut shut_by go_if members
        meet-closes frames inclusions f =
            let l : length (take (outer.count * 3) rows) ≡ outer.count * 3 = length-take-le (outer.count * 3) rows (omega (arith, f.bounds.few, f.rows_long)) in
            let z : count_of (take (outer.count * 3) rows) ≡ outer.count = omega arith in
            rw (members-count (omega (arith, order)), lt-ltb 1 (used - outer.used) (omega arith), z) refl

        meet-size : length (meet_rows outer.count members) ≡ (used - outer.used - 1) * 3
        meet-size = meet-length outer.count members ∙ ap (λ (z : ℕ). (z - 1) * 3) (members-count order.1)

        pub meet-full : 192 < outer.count + (used - outer.used - 1) → ShutsClass meet 0 outer used place pending pending rows rows (Err (Limit 0))
        meet-full h frames inclusions f =
            subst (λ (z : Step). NextOf z (Err (Limit 0)) frames pending rows inclusions) (sym (meet-closes frames inclusions f))
            (closes-not outer (used - outer.used - 1) (meet_rows outer.count members) frames pending rows inclusions f meet-size h pending rows)

        pub meet-shut :
            outer.count + (used - outer.used - 1) ≤ 192 → (rows' : List ℕ) → Paired outer.used used outer.count pending rows rows'
            → ShutsClass meet 0 outer used place pending (set pending outer.used (outer.count + (used - outer.used - 1) - 1)) rows rows'
            (Ok (behind outer (outer.count + (used - outer.used - 1))))
        unfolding members
        meet-shut h rows' paired frames inclusions f =
            let total = outer.count + (used - outer.used - 1) in
            let z : outer.count + (used - outer.used) - 1 ≡ total = omega arith in
            subst (λ (x : Step). NextOf x (Ok (behind outer total)) frames (set pending outer.used (total - 1)) rows' inclusions) (sym (meet-closes frames inclusions f))
            (closes-row outer (used - outer.used - 1) (meet_rows outer.count members) frames pending rows inclusions f meet-size total (total - 1) refl (omega arith) (omega arith) h
            rows' (paired.long ∙ f.rows_long) (subst (λ (n : ℕ). take (n * 3) rows' ≡ take (outer.count * 3) rows ++ meet_rows outer.count members) z paired.put))

-- ---- the innermost frame
abbrev pub around : Reader → ℕ → Reader
around r start = record { depth = r.depth - 1; used = start; count = r.count; pairs = r.pairs; want = 3 }

module _ (r : Reader) (frames pending rows inclusions : List ℕ) (deep : 0 < r.depth) (f : Fits r frames pending rows inclusions) (start : ℕ) (e : start ≡ get_or frames ((r.depth - 1) * 3 + 2) 0) where
  nest : (start ≤ r.used) × Nested (r.depth - 1) start frames
  nest = subst (λ (z : ℕ). (z ≤ r.used) × Nested (r.depth - 1) z frames) (sym e) (top-nested r.depth r.used frames deep f.nested)

  pub around-bounds : Bounds (around r start)
  around-bounds =
      record {
        deep = omega (arith, f.bounds.deep);
        bracket-room = λ k. absurd (omega arith);
        role-frame = λ k. absurd (omega arith);
        few = f.bounds.few;
        apart = omega (arith, nest.0, f.bounds.apart);
      }

  around-fits : Fits (around r start) frames pending rows inclusions
  around-fits =
      record {
        bounds = around-bounds;
        nested = nest.1;
        frames-long = f.frames-long;
        pending-long = f.pending-long;
        rows_long = f.rows_long;
        inclusions-long = f.inclusions-long;
      }

  pub around-order : (start ≤ r.used) × (r.used ≤ 192)
  around-order = (nest.0, omega (arith, f.bounds.few, f.bounds.apart))

  pub around-pairs : (start ≤ r.used) × (r.pairs * 2 + r.used ≤ 192)
  around-pairs = (nest.0, omega (arith, f.bounds.few, f.bounds.apart))

  module _ (place : ℕ) where
    -- the step, by the frame's kind
    shuts-top :
        item_step place (state_of r frames pending rows inclusions) (frames_of r.depth r.used frames pending) closing
        ≡ shut place (frame_of (r.depth - 1) r.used frames pending) (frames_of (r.depth - 1) start frames pending) (state_of r frames pending rows inclusions)
    unfolding item_step
    shuts-top = rw (top_frame r.depth r.used frames pending deep, sym e) refl

    module _ (kind : Kind) (k : kind_of (get_or frames ((r.depth - 1) * 3) 0) ≡ kind) where
      with-kind :
          shut place (frame_of (r.depth - 1) r.used frames pending) (frames_of (r.depth - 1) start frames pending) (state_of r frames pending rows inclusions)
          ≡ shut place (closing-frame kind (get_or frames ((r.depth - 1) * 3 + 1) 0) (around r start) r.used pending) (frames_of (r.depth - 1) start frames pending)
          (state_of r frames pending rows inclusions)
      with-kind = rw (k, sym e) refl

    pub shuts-axiom :
        (inclusions' : List ℕ) (next : Result Reader Refusal) → get_or frames ((r.depth - 1) * 3) 0 ≡ 0
        → ShutsAxiom (around r start) r.used place pending inclusions inclusions' next
        → ShutsFrame r place frames pending pending rows rows inclusions inclusions' next
    unfolding shut shut_by
    shuts-axiom inclusions' next k c =
        subst (λ (z : Step). NextOf z next frames pending rows inclusions') (sym (shuts-top ∙ with-kind subclass (ap kind_of k))) (c frames rows around-fits)

    pub shuts-meet :
        (pending' rows' : List ℕ) (next : Result Reader Refusal) → get_or frames ((r.depth - 1) * 3) 0 ≡ 1
        → ShutsClass meet 0 (around r start) r.used place pending pending' rows rows' next
        → ShutsFrame r place frames pending pending' rows rows' inclusions inclusions next
    unfolding shut shut_by closed
    shuts-meet pending' rows' next k c =
        subst (λ (z : Step). NextOf z next frames pending' rows' inclusions) (sym (shuts-top ∙ with-kind meet (ap kind_of k))) (c frames inclusions around-fits)

    pub shuts-exist :
        (pending' rows' : List ℕ) (next : Result Reader Refusal) → (get_or frames ((r.depth - 1) * 3) 0 ≡ 0 → ⊥) → (get_or frames ((r.depth - 1) * 3) 0 ≡ 1 → ⊥)
        → ShutsClass exist (get_or frames ((r.depth - 1) * 3 + 1) 0) (around r start) r.used place pending pending' rows rows' next
        → ShutsFrame r place frames pending pending' rows rows' inclusions inclusions next
    unfolding shut shut_by closed
    shuts-exist pending' rows' next a b c =
        subst (λ (z : Step). NextOf z next frames pending' rows' inclusions) (sym (shuts-top ∙ with-kind exist (kind-exist _ a b)))
        (c frames inclusions around-fits)
