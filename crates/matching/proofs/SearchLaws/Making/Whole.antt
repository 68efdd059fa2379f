-- The sets and numbers together tell of the tables what a problem is to tell.
use Prim.Native.Nat.{ℕ, ◌+◌, ◌-◌, ◌/◌, ◌%◌, ◌<◌, ◌≤◌}
use mathlib.Core.Path.{◌≡◌, refl, sym, ap, ◌∙◌, subst}
use mathlib.Core.List.{List, ◌++◌}
use mathlib.Core.Bool.{Bool, true, false, not}
use mathlib.Core.Logic.{inl, inr}
use native.Mathlib.Omega.{arith}
use lib.Dec.{eqb}
use lib.ListN.{length, get_or, drop, replicate, get_or-replicate, length-append, length-drop, get_or-append}
use lib.Seq.{get_or-append-add, get_or-drop}
use borrow.Author.Tests.{eq-eqb, eqb-true, lt-ltb, ltb-true, not-true}
use Rattle.subsumption.specs.Tables.{Tables, or, Node, exists_at, and_at, node, count_of, pairs_of, tree, has_variable}
use Rattle.subsumption.specs.Atoms.{inside, bit}
use Rattle.subsumption.specs.Roles.{wider}
use Rattle.subsumption.specs.Inner.Tables.{Rising}
use Rattle.subsumption.specs.Inner.Roles.{in_set, RoleSets}
use Rattle.subsumption.specs.Inner.Listing.{Accepted}
use Rattle.subsumption.proofs.Bools.{or-first, or-second, both_true, both-intro}
use Rattle.subsumption.proofs.Nodes.{node-exists, exists-node}
use Rattle.square.specs.Inner.Square.{on_line}
use Rattle.square.proofs.BitLaws.{no_bits}
use Rattle.matching.specs.Inner.Search.Problem.{line_at, fit_at, cone_at, closers_at, held_at, inner_at, question_count, counting, Fitting, Cone, Problem, Shaped}
use Rattle.matching.specs.Inner.Search.Making.{NumbersOf, kind_at, first_at, LinesOf, Readable, fits_by, is_open_at, fits_in, FitsNoted, ConeOf, NoCones, ConesNoted, NoClosers, AllClosers}
use Rattle.matching.proofs.SearchLaws.Making.Numbers.{formed, same-node, left-same, right-same, numbers, readable}
use Rattle.matching.proofs.SearchLaws.Making.Cones.{cone-same}

or-none : (a b : Bool) → b ≡ false → or a b ≡ a
unfolding or
or-none true b e = refl
or-none false b e = e

-- ---- each kind of set
module _ (t : Tables) (ids problem into : List ℕ) (A : Accepted t ids) (N : NumbersOf t.concepts t.questions ids problem) (W : RoleSets t.roles into) where
  abbrev count : ℕ
  count = count_of t.concepts

  node_of : (i : ℕ) → i < count → node problem i ≡ node t.concepts i
  node_of = same-node t ids problem A N

  role-low : (i : ℕ) → i < count → kind_at problem i ≡ 2 → first_at problem i < 100
  role-low i l e = (readable t ids problem A N).low-roles i l e

  counted_same : (right : Bool) (r s : ℕ) → r < 100 → s < 100 → counting right (in_set into) r s ≡ counting right (wider t.roles) r s
  counted_same true r s h k = W.each s r k h
  counted_same false r s h k = W.each r s h k

  fitting : (right : Bool) (j e : ℕ) → j < count → fits_in problem into count right j e ≡ true → Fitting t right j e
  unfolding fits_in is_open_at fits_by
  fitting right j e l h =
      let u = both_true _ _ h in
      let o = both_true _ _ u.0 in
      let v = both_true _ _ u.1 in
      let w = both_true _ _ v.1 in
      let x = both_true _ _ w.1 in
      let k : kind_at problem j ≡ 2 = eqb-true _ 2 o.0 in
      let f : kind_at problem e ≡ 2 = eqb-true _ 2 w.0 in
      let b : e < count = ltb-true e count v.0 in
      record {
        free = record { ground = sym (N.held e b) ∙ not-true _ x.0; known = b };
        own-role = first_at problem j;
        own-inner = inner_at problem j;
        role = first_at problem e;
        inner = inner_at problem e;
        own = sym (node_of j l) ∙ node-exists problem j k;
        row = sym (node_of e b) ∙ node-exists problem e f;
        counts = sym (counted_same right (first_at problem j) (first_at problem e) (role-low j l k) (role-low e b f)) ∙ x.1;
      }

  fits-back : (right : Bool) (j e : ℕ) → j < count → held_at problem j ≡ true → Fitting t right j e → fits_in problem into count right j e ≡ true
  unfolding fits_in is_open_at fits_by
  fits-back right j e l h F =
      let b : e < count = F.free.known in
      let o = exists-node problem j F.own-role F.own-inner (node_of j l ∙ F.own) in
      let r = exists-node problem e F.role F.inner (node_of e b ∙ F.row) in
      both-intro _ _ (both-intro _ _ (eq-eqb _ 2 o.0) h)
      (both-intro _ _ (lt-ltb e count b)
      (both-intro _ _ (eq-eqb _ 2 r.0)
      (both-intro _ _ (ap not (N.held e b ∙ F.free.ground))
      (counted_same right (first_at problem j) (first_at problem e) (role-low j l o.0) (role-low e b r.0)
      ∙ subst (λ (z : ℕ). counting right (wider t.roles) z (first_at problem e) ≡ true) (sym o.1)
      (subst (λ (z : ℕ). counting right (wider t.roles) F.own-role z ≡ true) (sym r.1) F.counts)))))

  held-side : (sets : List ℕ) (m a b : ℕ) → a ≡ b → b < count → (held_at problem a ≡ true → on_line sets (cone_at m) a ≡ true) → has_variable (tree t.concepts b) ≡ true → on_line sets (cone_at m) b ≡ true
  held-side sets m a b e l f h =
      subst (λ (z : ℕ). on_line sets (cone_at m) z ≡ true) e (f (subst (λ (z : ℕ). held_at problem z ≡ true) (sym e) (N.held b l ∙ h)))

  module _ (sets : List ℕ) (m : ℕ) (asked : m < pairs_of t.questions) (C : ConeOf problem count m (on_line sets (cone_at m))) where
    inner-comes :
        (i j : ℕ) (n : Node) → i < 192 → on_line sets (cone_at m) i ≡ true → node t.concepts i ≡ n → inside (eqb j) n ≡ true → j < i
        → has_variable (tree t.concepts j) ≡ true → on_line sets (cone_at m) j ≡ true
    inner-comes i j n l e q o k h =
        let b = (C.known i l e).0 in
        C.inner i j l e (both-intro _ _ (ap (inside (eqb j)) (node_of i b ∙ q) ∙ o) (N.held j (omega arith) ∙ h))

    cone : Cone t sets m
    unfolding inside
    cone =
        record {
          known = λ i l e. let u = C.known i l e in (u.0, sym (N.held i u.0) ∙ u.1);
          left = held-side sets m _ _ (left-same t ids problem A N m asked) ((formed t ids problem A N).question-left m asked) C.left;
          right = held-side sets m _ _ (right-same t ids problem A N m asked) ((formed t ids problem A N).question-right m asked) C.right;
          inner =
              λ i r j l e q h.
              let k : j < i = subst (Rising i) q ((formed t ids problem A N).rising i) in
              inner-comes i j (exists_at r j) l e q (eq-eqb j j refl) k h;
          first =
              λ i j k l e q h.
              let u : (j < i) × (k < i) = subst (Rising i) q ((formed t ids problem A N).rising i) in
              inner-comes i j (and_at j k) l e q (or-first _ _ (eq-eqb j j refl)) u.0 h;
          second =
              λ i j k l e q h.
              let u : (j < i) × (k < i) = subst (Rising i) q ((formed t ids problem A N).rising i) in
              inner-comes i k (and_at j k) l e q (or-second _ _ (eq-eqb k k refl)) u.1 h;
        }

-- ---- the lines, one stretch after the other
pub sets-whole : (sets : List ℕ) → sets ≡ replicate 2496 0 → length sets ≡ 2496
sets-whole sets e = ap length e

pub lined-long : (t : Tables) (part s0 : List ℕ) → LinesOf t part → s0 ≡ replicate 2496 0 → length (part ++ drop 1152 s0) ≡ 2496
lined-long t part s0 L e = length-append part (drop 1152 s0) ∙ omega (arith, L.long, length-drop 1152 s0, sets-whole s0 e)

module _ (part s0 : List ℕ) (long : length part ≡ 1152) (zeros : s0 ≡ replicate 2496 0) where
  abbrev pub lined : List ℕ
  lined = part ++ drop 1152 s0

  front : (at q : ℕ) → q < 192 → at + 3 ≤ 1152 → on_line lined at q ≡ on_line part at q
  unfolding on_line
  front at q l h = ap (λ (w : ℕ). bit w (q % 64)) (get_or-append part (drop 1152 s0) 0 (at + q / 64) (omega (arith, long)))

  back-word : (p : ℕ) → 1152 ≤ p → p < 2496 → get_or lined p 0 ≡ 0
  back-word p h l =
      let u : p ≡ length part + (p - 1152) = omega (arith, long) in
      let v : 1152 + (p - 1152) ≡ p = omega arith in
      ap (λ (z : ℕ). get_or lined z 0) u ∙ get_or-append-add part (drop 1152 s0) (p - 1152) 0 ∙ get_or-drop 1152 s0 (p - 1152) 0
      ∙ ap (λ (z : ℕ). get_or s0 z 0) v ∙ ap (λ (z : List ℕ). get_or z p 0) zeros ∙ get_or-replicate 2496 p 0 0 l

  back : (at q : ℕ) → q < 192 → 1152 ≤ at → at + 3 ≤ 2496 → on_line lined at q ≡ false
  unfolding on_line
  back at q l h k = ap (λ (w : ℕ). bit w (q % 64)) (back-word (at + q / 64) (omega arith) (omega arith)) ∙ no_bits (q % 64)

  module _ (problem into : List ℕ) (count : ℕ) (s2 s3 : List ℕ) (F : FitsNoted problem into count true lined s2) (G : FitsNoted problem into count false s2 s3) where
    no-cones : NoCones s3
    no-cones m q l h =
        G.there (cone_at m) q h (inr (omega arith)) ∙ F.there (cone_at m) q h (inr (omega arith)) ∙ back (cone_at m) q h (omega arith) (omega arith)

    module _ (s4 : List ℕ) (C : ConesNoted problem count s3 s4) where
      no-closers : NoClosers s4
      no-closers m q l h =
          C.there (closers_at m) q h (inr (omega arith)) ∙ G.there (closers_at m) q h (inr (omega arith)) ∙ F.there (closers_at m) q h (inr (omega arith))
          ∙ back (closers_at m) q h (omega arith) (omega arith)

      module _ (s5 : List ℕ) (few : count ≤ 192) (K : AllClosers problem count s4 s5) where
        line_kept : (at q : ℕ) → q < 192 → at + 3 ≤ 1152 → on_line s5 at q ≡ on_line part at q
        line_kept at q l h =
            K.there at q l (inl (omega arith)) ∙ C.there at q l (inl (omega arith)) ∙ G.there at q l (inl (omega arith))
            ∙ F.there at q l (inl (omega arith)) ∙ front at q l h

        fit_line : (right : Bool) (j e : ℕ) → j < count → e < 192 → on_line s5 (fit_at right j) e ≡ fits_in problem into count right j e
        fit_line true j e l h =
            K.there (fit_at true j) e h (inl (omega arith)) ∙ C.there (fit_at true j) e h (inl (omega arith)) ∙ G.there (fit_at true j) e h (inl (omega arith))
            ∙ F.here j e l h ∙ or-none _ _ (back (fit_at true j) e h (omega arith) (omega arith))
        fit_line false j e l h =
            K.there (fit_at false j) e h (inl (omega arith)) ∙ C.there (fit_at false j) e h (inl (omega arith)) ∙ G.here j e l h
            ∙ or-none _ _ (F.there (fit_at false j) e h (inr (omega arith)) ∙ back (fit_at false j) e h (omega arith) (omega arith))

        cone-of : (m : ℕ) → Readable problem count → m < question_count problem → ConeOf problem count m (on_line s5 (cone_at m))
        cone-of m R asked =
            cone-same problem count m (on_line s4 (cone_at m)) (on_line s5 (cone_at m)) R asked
            (λ q h. K.there (cone_at m) q h (inl (omega (arith, R.few-questions)))) (C.cones m asked)

        sets-long : length lined ≡ 2496 → length s5 ≡ 2496
        sets-long h = K.long ∙ C.long ∙ G.long ∙ F.long ∙ h

module _ (t : Tables) (part s0 : List ℕ) (L : LinesOf t part) (zeros : s0 ≡ replicate 2496 0) (problem into : List ℕ) (count : ℕ) (s2 s3 : List ℕ)
    (F : FitsNoted problem into count true (part ++ drop 1152 s0) s2) (G : FitsNoted problem into count false s2 s3) where
  pub cones-empty : NoCones s3
  cones-empty = no-cones part s0 L.long zeros problem into count s2 s3 F G

  pub closers-empty : (s4 : List ℕ) → ConesNoted problem count s3 s4 → NoClosers s4
  closers-empty = no-closers part s0 L.long zeros problem into count s2 s3 F G

-- ---- all of it
module _ (t : Tables) (ids problem into part s0 s2 s3 s4 s5 : List ℕ) (A : Accepted t ids) (N : NumbersOf t.concepts t.questions ids problem)
    (W : RoleSets t.roles into) (zeros : s0 ≡ replicate 2496 0) (L : LinesOf t part)
    (F : FitsNoted problem into (count_of t.concepts) true (part ++ drop 1152 s0) s2) (G : FitsNoted problem into (count_of t.concepts) false s2 s3)
    (C : ConesNoted problem (count_of t.concepts) s3 s4) (K : AllClosers problem (count_of t.concepts) s4 s5) where
  few : count_of t.concepts ≤ 192
  few = (formed t ids problem A N).few

  kept : (at q : ℕ) → q < 192 → at + 3 ≤ 1152 → on_line s5 at q ≡ on_line part at q
  kept = line_kept part s0 L.long zeros problem into (count_of t.concepts) s2 s3 F G s4 C s5 few K

  fit_is : (right : Bool) (j e : ℕ) → j < count_of t.concepts → e < 192 → on_line s5 (fit_at right j) e ≡ fits_in problem into (count_of t.concepts) right j e
  fit_is = fit_line part s0 L.long zeros problem into (count_of t.concepts) s2 s3 F G s4 C s5 few K

  pub made-shape : Shaped s5 problem
  made-shape =
      record {
        sets-long = sets-long part s0 L.long zeros problem into (count_of t.concepts) s2 s3 F G s4 C s5 few K (lined-long t part s0 L zeros);
        numbers = numbers t ids problem A N;
      }

  pub made : Problem t s5 problem
  made =
      record {
        passed = A.passed;
        rows = same-node t ids problem A N;
        held = N.held;
        atom =
            λ q l.
            N.atoms q (subst (λ (z : List ℕ). q < length z) (sym A.listed) l) ∙ ap (λ (z : List ℕ). get_or z q 0) A.listed;
        questions = N.count;
        left = left-same t ids problem A N;
        right = right-same t ids problem A N;
        above =
            λ i j a b.
            let e = kept (line_at false i) j (omega (arith, few, b.known)) (omega (arith, few, a.known)) in
            (λ h. (L.above i j a.known b.known).0 (sym e ∙ h), λ s. e ∙ (L.above i j a.known b.known).1 s);
        below =
            λ i j a b.
            let e = kept (line_at true j) i (omega (arith, few, a.known)) (omega (arith, few, b.known)) in
            (λ h. (L.below i j a.known b.known).0 (sym e ∙ h), λ s. e ∙ (L.below i j a.known b.known).1 s);
        fits =
            λ right j e l h k. (
              λ u. fitting t ids problem into A N W right j e l (sym (fit_is right j e l h) ∙ u),
              λ u. fit_is right j e l h ∙ fits-back t ids problem into A N W right j e l k u,
            );
        cones =
            λ m l.
            cone t ids problem into A N W s5 m l
            (cone-of part s0 L.long zeros problem into (count_of t.concepts) s2 s3 F G s4 C s5 few K m (readable t ids problem A N) (omega (arith, N.count)));
        closers = λ m l. K.closers m (omega (arith, N.count));
      }
