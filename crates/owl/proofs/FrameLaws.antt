-- The frames and the state as the code holds them.
use Rattle.std.specs.Prelude.{Result, Ok, Err}
use Prim.Native.Nat.{ℕ, zero, suc, ◌+◌, ◌-◌, ◌*◌, ◌<◌, ◌≤◌}
use mathlib.Core.Path.{◌≡◌, refl, sym, ap, ◌∙◌, subst}
use mathlib.Core.List.{List, [], ◌∷◌, ◌++◌}
use mathlib.Core.Bool.{true}
use native.Mathlib.Omega.{arith}
use native.Mathlib.Numerals.{add-one}
use lib.Dec.{ltb}
use lib.ListN.{length, get_or, take, drop, set, length-set, length-take, length-drop}
use lib.Seq.{get_or-set_same, get_or-set_other, drop-set-add, take-set-le, take-suc-set}
use Rattle.subsumption.specs.declared.refusal.Refusal.{Refusal}
use Rattle.subsumption.specs.declared.refusal.Refusal.TheVariants.{BadSyntax}
use Rattle.owl.specs.declared.words.Word.{Word}
use Rattle.owl.specs.declared.words.Word.TheVariants.{AxiomKey, TopKey, AndKey, SomeKey, NameOf, RoleOf, Other}
use Rattle.owl.specs.declared.frames.Reader.{Reader}
use Rattle.owl.specs.Tokens.{opening}
use Rattle.owl.specs.Judgement.{exist, Frame, Want, item, State, Step, go, stop, first, opened, roled, joins, room_by, has_room, of_role, item_step, bracket_step, role_step, step_on, step}
use Rattle.owl.specs.Inner.Frames.{kind_of, want_of, between, start_of, frame_of, frames_of, state_of, Nested, Fits, NextOf, waiting, room_at, FirstOf, TellsRoom, Opens, Roles}

-- ---- parts of a list
pub between-length : (start end : ℕ) (l : List ℕ) → end ≤ length l → length (between start end l) ≡ end - start
between-length start end l h = omega (arith, length-take (end - start) (drop start l), length-drop start l)

pub between-set : (start end p v : ℕ) (l : List ℕ) → start ≤ p → end ≤ p → between start end (set l p v) ≡ between start end l
between-set start end p v l s e =
    let z : p ≡ start + (p - start) = omega arith in
    subst (λ (q : ℕ). take (end - start) (drop start (set l q v)) ≡ take (end - start) (drop start l)) (sym z)
    (rw (drop-set-add start l (p - start) v) (take-set-le (end - start) (drop start l) (p - start) v (omega arith)))

pub between_more : (start end v : ℕ) (l : List ℕ) → start ≤ end → end < length l → between start (end + 1) (set l end v) ≡ between start end l ++ (v ∷ [])
between_more start end v l s e =
    let z : end ≡ start + (end - start) = omega arith in
    let n : end + 1 - start ≡ suc (end - start) = omega arith in
    rw n
    (subst (λ (q : ℕ). take (suc (end - start)) (drop start (set l q v)) ≡ between start end l ++ (v ∷ [])) (sym z)
    (rw (drop-set-add start l (end - start) v) (take-suc-set (drop start l) (end - start) v (omega (arith, length-drop start l)))))

pub between_none : (start : ℕ) (l : List ℕ) → between start start l ≡ []
between_none start l = let z : start - start ≡ 0 = omega arith in rw z refl

-- ---- the frames
pub frames-count : (d used : ℕ) (frames pending : List ℕ) → length (frames_of d used frames pending) ≡ d
unfolding frames_of
frames-count zero used frames pending = refl
frames-count (suc d) used frames pending = ap suc (frames-count d (start_of d frames) frames pending)

pub top_frame :
    (depth used : ℕ) (frames pending : List ℕ) → 0 < depth
    → frames_of depth used frames pending ≡ frame_of (depth - 1) used frames pending ∷ frames_of (depth - 1) (start_of (depth - 1) frames) frames pending
unfolding frames_of
top_frame zero used frames pending h = absurd (omega arith)
top_frame (suc d) used frames pending h = let z : suc d - 1 ≡ d = omega arith in rw z refl

pub top-nested : (depth used : ℕ) (frames : List ℕ) → 0 < depth → Nested depth used frames → (start_of (depth - 1) frames ≤ used) × Nested (depth - 1) (start_of (depth - 1) frames) frames
top-nested zero used frames h n = absurd (omega arith)
top-nested (suc d) used frames h n = let z : suc d - 1 ≡ d = omega arith in rw z n

-- a write past the frames, or past the members, leaves them
frames-kept : (d used p v : ℕ) (frames pending : List ℕ) → d * 3 ≤ p → frames_of d used (set frames p v) pending ≡ frames_of d used frames pending
unfolding frames_of
frames-kept zero used p v frames pending h = refl
frames-kept (suc d) used p v frames pending h =
    rw (
      get_or-set_other frames p (d * 3) v 0 (λ e. omega arith),
      get_or-set_other frames p (d * 3 + 1) v 0 (λ e. omega arith),
      get_or-set_other frames p (d * 3 + 2) v 0 (λ e. omega arith),
      frames-kept d (start_of d frames) p v frames pending (omega arith),
    )
    refl

nested-kept : (d used p v : ℕ) (frames : List ℕ) → d * 3 ≤ p → Nested d used frames → Nested d used (set frames p v)
nested-kept zero used p v frames h n = tt
nested-kept (suc d) used p v frames h n =
    let e = get_or-set_other frames p (d * 3 + 2) v 0 (λ z. omega arith) in
    subst (λ (k : ℕ). (k ≤ used) × Nested d k (set frames p v)) (sym e) (n.0, nested-kept d (start_of d frames) p v frames (omega arith) n.1)

pub members_kept : (d used p v : ℕ) (frames pending : List ℕ) → Nested d used frames → used ≤ p → frames_of d used frames (set pending p v) ≡ frames_of d used frames pending
unfolding frames_of
members_kept zero used p v frames pending n h = refl
members_kept (suc d) used p v frames pending n h =
    rw (
      between-set (start_of d frames) used p v pending (omega (arith, n.0)) h,
      members_kept d (start_of d frames) p v frames pending n.1 (omega (arith, n.0)),
    )
    refl

-- a member more
pub member-joins :
    (depth used v : ℕ) (frames pending : List ℕ) → Nested depth used frames → used < length pending
    → joins v (frames_of depth used frames pending) ≡ frames_of depth (used + 1) frames (set pending used v)
unfolding frames_of joins
member-joins zero used v frames pending n h = refl
member-joins (suc d) used v frames pending n h =
    rw (between_more (start_of d frames) used v pending n.0 h, members_kept d (start_of d frames) used v frames pending n.1 n.0) refl

pub nested-more : (depth used more : ℕ) (frames : List ℕ) → used ≤ more → Nested depth used frames → Nested depth more frames
nested-more zero used more frames h n = tt
nested-more (suc d) used more frames h n = (omega (arith, n.0), n.1)

-- ---- states and steps
pub same-state :
    {f g : List Frame} {v w : Want} {r q : List ℕ} {i j : List ℕ} → f ≡ g → v ≡ w → r ≡ q → i ≡ j
    → ◌≡◌ {A = State} (record { frames = f; want = v; rows = r; inclusions = i }) (record { frames = g; want = w; rows = q; inclusions = j })
same-state a b c d = cc

module _ (frames pending rows inclusions : List ℕ) where
  pub stops : (step : Step) (q : Refusal) → step ≡ stop q → NextOf step (Err q) frames pending rows inclusions
  stops step q e = subst (λ (z : Step). NextOf z (Err q) frames pending rows inclusions) (sym e) refl

  pub goes :
      (step : Step) (s : State) (r : Reader) → step ≡ go s → s ≡ state_of r frames pending rows inclusions → Fits r frames pending rows inclusions
      → NextOf step (Ok r) frames pending rows inclusions
  goes step s r e h f = subst (λ (z : Step). NextOf z (Ok r) frames pending rows inclusions) (sym e) (record { state = h; fits = f })

  -- the same frames and tables
  pub waits :
      (r : Reader) (want : ℕ) → (want < 3 → r.depth < 33) → (3 < want → 0 < r.depth) → Fits r frames pending rows inclusions
      → Fits (waiting r want) frames pending rows inclusions
  waits r want a b f =
      record {
        bounds = record { deep = f.bounds.deep; bracket-room = a; role-frame = b; few = f.bounds.few; apart = f.bounds.apart };
        nested = f.nested;
        frames-long = f.frames-long;
        pending-long = f.pending-long;
        rows_long = f.rows_long;
        inclusions-long = f.inclusions-long;
      }

-- ---- room for a class
pub kind-exist : (k : ℕ) → (k ≡ 0 → ⊥) → (k ≡ 1 → ⊥) → kind_of k ≡ exist
kind-exist zero a b = absurd (a refl)
kind-exist (suc zero) a b = absurd (b refl)
kind-exist (suc (suc k)) a b = refl

module _ (r : Reader) (frames : List ℕ) where
  room-is : (pending : List ℕ) → length pending ≡ 192 → r.used ≤ 192 → room_at r frames pending ≡ room_by (kind_of (get_or frames ((r.depth - 1) * 3) 0)) (r.used - start_of (r.depth - 1) frames)
  unfolding has_room
  room-is pending l h = rw (between-length (start_of (r.depth - 1) frames) r.used pending (omega arith)) refl

  module _ (w : ℕ) (e : w ≡ get_or frames ((r.depth - 1) * 3 + 2) 0) where
    pub room-axiom : get_or frames ((r.depth - 1) * 3) 0 ≡ 0 → TellsRoom r frames (ltb (r.used - w) 2)
    unfolding room_by
    room-axiom k pending l h = sym (room-is pending l h ∙ rw (k, sym e) refl)

    pub room-exist : (get_or frames ((r.depth - 1) * 3) 0 ≡ 0 → ⊥) → (get_or frames ((r.depth - 1) * 3) 0 ≡ 1 → ⊥) → TellsRoom r frames (ltb (r.used - w) 1)
    unfolding room_by
    room-exist a b pending l h = sym (room-is pending l h ∙ rw (kind-exist _ a b, sym e) refl)

  pub room-meet : get_or frames ((r.depth - 1) * 3) 0 ≡ 1 → TellsRoom r frames true
  unfolding room_by
  room-meet k pending l h = sym (room-is pending l h ∙ rw k refl)

-- ---- an opening bracket
pub first-role : (kind : ℕ) → kind ≡ 2 → FirstOf kind 4
unfolding first
first-role kind e = record { behind = omega arith; is-first = rw e refl }

pub first-item : (kind : ℕ) → kind < 3 → (kind ≡ 2 → ⊥) → FirstOf kind 3
unfolding first
first-item zero h n = record { behind = omega arith; is-first = refl }
first-item (suc zero) h n = record { behind = omega arith; is-first = refl }
first-item (suc (suc k)) h n = absurd (omega arith)

module _ (s : State) (place : ℕ) where
  item-open : (fs : List Frame) → item_step place s fs opening ≡ stop (BadSyntax place)
  unfolding item_step
  item-open [] = refl
  item-open (f ∷ fs) = refl

  not-open : (want : ℕ) → 3 ≤ want → step_on s (record { place = place; token = opening }) (want_of want) ≡ stop (BadSyntax place)
  unfolding step_on role_step
  not-open zero h = absurd (omega arith)
  not-open (suc zero) h = absurd (omega arith)
  not-open (suc (suc zero)) h = absurd (omega arith)
  not-open (suc (suc (suc zero))) h = item-open s.frames
  not-open (suc (suc (suc (suc want)))) h = refl

  does-open : (want : ℕ) → want < 3 → step_on s (record { place = place; token = opening }) (want_of want) ≡ opened (kind_of want) s
  unfolding step_on bracket_step
  does-open zero h = refl
  does-open (suc zero) h = refl
  does-open (suc (suc zero)) h = refl
  does-open (suc (suc (suc want))) h = absurd (omega arith)

-- the frame that is pushed
module _ (d kind used : ℕ) (frames : List ℕ) (long : length frames ≡ 99) (room : d < 33) where
  one : List ℕ
  one = set frames (d * 3) kind

  two : List ℕ
  two = set one (d * 3 + 1) 0

  pushed : List ℕ
  pushed = set two (d * 3 + 2) used

  pushed-kind : get_or pushed (d * 3) 0 ≡ kind
  unfolding pushed two one
  pushed-kind =
      get_or-set_other two (d * 3 + 2) (d * 3) used 0 (λ e. omega arith) ∙ get_or-set_other one (d * 3 + 1) (d * 3) 0 0 (λ e. omega arith)
      ∙ get_or-set_same frames (d * 3) kind 0 (omega arith)

  pushed-role : get_or pushed (d * 3 + 1) 0 ≡ 0
  unfolding pushed two one
  pushed-role =
      get_or-set_other two (d * 3 + 2) (d * 3 + 1) used 0 (λ e. omega arith)
      ∙ get_or-set_same one (d * 3 + 1) 0 0 (simp length-set (omega arith))

  pushed_start : start_of d pushed ≡ used
  unfolding pushed two one
  pushed_start = get_or-set_same two (d * 3 + 2) used 0 (simp length-set (omega arith))

  pushed_long : length pushed ≡ 99
  unfolding pushed two one
  pushed_long = simp length-set long

  pushed-kept : (pending : List ℕ) → frames_of d used pushed pending ≡ frames_of d used frames pending
  unfolding pushed two one
  pushed-kept pending =
      frames-kept d used (d * 3 + 2) used two pending (omega arith) ∙ frames-kept d used (d * 3 + 1) 0 one pending (omega arith)
      ∙ frames-kept d used (d * 3) kind frames pending (omega arith)

  pushed-frames :
      (pending : List ℕ) → record { kind = kind_of kind; role = 0; members = [] } ∷ frames_of d used frames pending ≡ frames_of (suc d) used pushed pending
  unfolding frames_of
  pushed-frames pending = sym (rw (pushed-kind, pushed-role, pushed_start, between_none used pending, pushed-kept pending) refl)

  pushed-nested : Nested d used frames → Nested (suc d) used pushed
  unfolding pushed two one
  pushed-nested n =
      subst (λ (k : ℕ). (k ≤ used) × Nested d k pushed) (sym pushed_start) (
        omega arith,
        nested-kept d used (d * 3 + 2) used two (omega arith)
            (nested-kept d used (d * 3 + 1) 0 one (omega arith) (nested-kept d used (d * 3) kind frames (omega arith) n)),
      )

module _ (r : Reader) (place : ℕ) (frames : List ℕ) where
  pub opens_not : 3 ≤ r.want → Opens r place frames frames (Err (BadSyntax place))
  unfolding step
  opens_not h pending rows inclusions f = stops frames pending rows inclusions _ _ (not-open (state_of r frames pending rows inclusions) place r.want h)

  pub opens :
      r.want < 3 → length frames ≡ 99 → (want : ℕ) → FirstOf r.want want
      → Opens r place frames (set (set (set frames (r.depth * 3) r.want) (r.depth * 3 + 1) 0) (r.depth * 3 + 2) r.used)
      (Ok (record { depth = r.depth + 1; used = r.used; count = r.count; pairs = r.pairs; want = want }))
  unfolding step opened pushed two one
  opens h l want w pending rows inclusions f =
      let room : r.depth < 33 = f.bounds.bracket-room h in
      goes _ pending rows inclusions _ _ _ (does-open (state_of r frames pending rows inclusions) place r.want h)
      (same-state (pushed-frames r.depth r.want r.used frames l room pending ∙ ap (λ (d : ℕ). frames_of d r.used (pushed r.depth r.want r.used frames l room) pending) (sym (add-one r.depth))) (sym w.is-first) refl refl)
      (record {
        bounds = record {
          deep = omega arith;
          bracket-room = λ k. absurd (omega (arith, w.behind));
          role-frame = λ k. omega arith;
          few = f.bounds.few;
          apart = f.bounds.apart;
        };
        nested = subst (λ (d : ℕ). Nested d r.used (pushed r.depth r.want r.used frames l room)) (sym (add-one r.depth))
            (pushed-nested r.depth r.want r.used frames l room f.nested);
        frames-long = pushed_long r.depth r.want r.used frames l room;
        pending-long = f.pending-long;
        rows_long = f.rows_long;
        inclusions-long = f.inclusions-long;
      })

-- ---- a role
roles-frames :
    (d used q : ℕ) (frames pending : List ℕ) → length frames ≡ 99 → d < 33
    → roled q (frames_of (suc d) used frames pending) ≡ frames_of (suc d) used (set frames (d * 3 + 1) q) pending
unfolding frames_of roled
roles-frames d used q frames pending l h =
    sym
    (rw (
      get_or-set_other frames (d * 3 + 1) (d * 3) q 0 (λ e. omega arith),
      get_or-set_same frames (d * 3 + 1) q 0 (omega arith),
      get_or-set_other frames (d * 3 + 1) (d * 3 + 2) q 0 (λ e. omega arith),
      frames-kept d (start_of d frames) (d * 3 + 1) q frames pending (omega arith),
    )
    refl)

roles-nested : (d used q : ℕ) (frames : List ℕ) → Nested (suc d) used frames → Nested (suc d) used (set frames (d * 3 + 1) q)
roles-nested d used q frames n =
    subst (λ (k : ℕ). (k ≤ used) × Nested d k (set frames (d * 3 + 1) q)) (sym (get_or-set_other frames (d * 3 + 1) (d * 3 + 2) q 0 (λ e. omega arith)))
    (n.0, nested-kept d (start_of d frames) (d * 3 + 1) q frames (omega arith) n.1)

-- no role
abbrev NoRole : Word → Type 0
NoRole AxiomKey = Unit {0}
NoRole TopKey = Unit {0}
NoRole AndKey = Unit {0}
NoRole SomeKey = Unit {0}
NoRole (NameOf n) = Unit {0}
NoRole (RoleOf q) = ⊥
NoRole Other = Unit {0}

role-off : (place : ℕ) (s : State) (w : Word) → NoRole w → of_role place s w ≡ stop (BadSyntax place)
unfolding of_role
role-off place s AxiomKey n = refl
role-off place s TopKey n = refl
role-off place s AndKey n = refl
role-off place s SomeKey n = refl
role-off place s (NameOf k) n = refl
role-off place s (RoleOf q) n = absurd n
role-off place s Other n = refl

role-on : (place : ℕ) (s : State) (q : ℕ) → of_role place s (RoleOf q) ≡ go (record { frames = roled q s.frames; want = item; rows = s.rows; inclusions = s.inclusions })
unfolding of_role
role-on place s q = refl

module _ (r : Reader) (place : ℕ) (word : Word) (frames : List ℕ) where
  pub roles-not : (w : Word) → word ≡ w → NoRole w → Roles r place word frames frames (Err (BadSyntax place))
  roles-not w e n pending rows inclusions f =
      stops frames pending rows inclusions _ _ (role-off place _ word (subst NoRole (sym e) n))

  pub roles :
      (q : ℕ) → word ≡ RoleOf q → (0 < r.depth) × (r.depth ≤ 33) → length frames ≡ 99 → (next : Result Reader Refusal) → next ≡ Ok (waiting r 3)
      → Roles r place word frames (set frames ((r.depth - 1) * 3 + 1) q) next
  roles q e (low, high) l next g pending rows inclusions f =
      let d = r.depth - 1 in
      let z : r.depth ≡ suc d = omega arith in
      subst (λ (x : Result Reader Refusal). NextOf (of_role place (state_of r frames pending rows inclusions) word) x (set frames (d * 3 + 1) q) pending rows inclusions) (sym g)
      (goes _ pending rows inclusions _ _ _ (taken (state_of r frames pending rows inclusions))
      (same-state
      (subst (λ (k : ℕ). roled q (frames_of k r.used frames pending) ≡ frames_of k r.used (set frames (d * 3 + 1) q) pending) (sym z) (roles-frames d r.used q frames pending l (omega arith)))
      refl refl refl)
      (record {
        bounds = record { deep = f.bounds.deep; bracket-room = λ k. absurd (omega arith); role-frame = λ k. absurd (omega arith); few = f.bounds.few; apart = f.bounds.apart };
        nested = subst (λ (k : ℕ). Nested k r.used (set frames (d * 3 + 1) q)) (sym z)
            (roles-nested d r.used q frames (subst (λ (k : ℕ). Nested k r.used frames) z f.nested));
        frames-long = length-set frames (d * 3 + 1) q ∙ l;
        pending-long = f.pending-long;
        rows_long = f.rows_long;
        inclusions-long = f.inclusions-long;
      }))
    where
      taken : (s : State) → of_role place s word ≡ go (record { frames = roled q s.frames; want = item; rows = s.rows; inclusions = s.inclusions })
      taken s = subst (λ (w : Word). of_role place s w ≡ go (record { frames = roled q s.frames; want = item; rows = s.rows; inclusions = s.inclusions })) (sym e) (role-on place s q)
