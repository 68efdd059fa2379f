-- Tests read no number from 931 on: a problem stays one when only the counts and the asked questions change.
use Prim.Native.Nat.{ℕ, ◌+◌, ◌*◌, ◌<◌, ◌≤◌}
use mathlib.Core.Path.{◌≡◌, sym, ap, ◌∙◌}
use mathlib.Core.List.{List}
use native.Mathlib.Omega.{arith}
use lib.Dec.{eqb}
use lib.ListN.{length, get_or}
use Rattle.subsumption.specs.Tables.{Tables, Node, node}
use Rattle.subsumption.proofs.WellFormed.{WellFormed}
use Rattle.subsumption.proofs.Accepted.{well_formed}
use Rattle.matching.specs.Inner.Search.Problem.{held_at, closes, in_members, Numbers, Shaped, Closers, Problem}

module _ (before after : List ℕ) (front : (p : ℕ) → p < 931 → get_or after p 0 ≡ get_or before p 0) where
  node_kept : (i : ℕ) → i < 192 → node after i ≡ node before i
  unfolding node
  node_kept i l = cc (front (i * 3) (omega arith), front (i * 3 + 1) (omega arith), front (i * 3 + 2) (omega arith))

  held_kept : (i : ℕ) → i < 192 → held_at after i ≡ held_at before i
  held_kept i l = ap (λ (z : ℕ). eqb z 1) (front (576 + i) (omega arith))

  numbers-kept : length after ≡ length before → Numbers before → Numbers after
  numbers-kept e N =
      record {
        long = e ∙ N.long;
        kind-low = λ i l. omega (arith, front (i * 3) (omega arith), N.kind-low i l);
        inner-low = λ i l. omega (arith, front (i * 3 + 2) (omega arith), N.inner-low i l);
        first-low = λ i l k. omega (arith, front (i * 3 + 1) (omega arith), N.first-low i l (sym (front (i * 3) (omega arith)) ∙ k));
        variable-low = λ i l k. omega (arith, front (i * 3 + 1) (omega arith), N.variable-low i l (sym (front (i * 3) (omega arith)) ∙ k));
        atoms-low = λ q l. omega (arith, front (768 + q) (omega arith), N.atoms-low q l);
        left-low = λ m l. omega (arith, front (832 + m * 2) (omega arith), N.left-low m l);
        right-low = λ m l. omega (arith, front (832 + m * 2 + 1) (omega arith), N.right-low m l);
        few = omega (arith, front 897 (omega arith), N.few);
      }

  pub shaped-kept : (sets : List ℕ) → length after ≡ length before → Shaped sets before → Shaped sets after
  shaped-kept sets e s = record { sets-long = s.sets-long; numbers = numbers-kept e s.numbers }

  closers-kept : (sets : List ℕ) (count m : ℕ) → count ≤ 192 → m < 32 → Closers sets before count m → Closers sets after count m
  closers-kept sets count m few l C =
      record {
        wanted = C.wanted;
        right = ap C.wanted (front (832 + m * 2 + 1) (omega arith)) ∙ C.right;
        inner = λ j e a b x y. ap C.wanted (front (e * 3 + 2) (omega arith)) ∙ C.inner j e a b x y;
        only = λ e a x. ((C.only e a x).0, held_kept e a ∙ (C.only e a x).1);
        members = λ e i j a x n. C.members e i j a x (sym (node_kept e a) ∙ n);
        quiet =
            λ e a h x o d b y w.
            ap (λ (z : Node). in_members sets z d) (node_kept e (omega arith))
            ∙ C.quiet e a (sym (held_kept e (omega arith)) ∙ h) (ap closes (sym (node_kept e (omega arith))) ∙ x) o d b y w;
      }

  pub problem-kept : (t : Tables) (sets : List ℕ) → Problem t sets before → Problem t sets after
  problem-kept t sets c =
      let formed : WellFormed t = well_formed t c.passed in
      record {
        passed = c.passed;
        rows = λ i l. node_kept i (omega (arith, formed.few)) ∙ c.rows i l;
        held = λ i l. held_kept i (omega (arith, formed.few)) ∙ c.held i l;
        atom = λ q l. front (768 + q) (omega (arith, formed.few-atoms)) ∙ c.atom q l;
        questions = front 897 (omega arith) ∙ c.questions;
        left = λ m l. front (832 + m * 2) (omega (arith, formed.few-questions)) ∙ c.left m l;
        right = λ m l. front (832 + m * 2 + 1) (omega (arith, formed.few-questions)) ∙ c.right m l;
        above = c.above;
        below = c.below;
        fits = λ b j e l m h. c.fits b j e l m (sym (held_kept j (omega (arith, formed.few))) ∙ h);
        cones = c.cones;
        closers = λ m l. closers-kept sets _ m formed.few (omega (arith, formed.few-questions)) (c.closers m l);
      }
