-- Narrowing: an asked question with variables on the right that fails with one pair alone fails with every assignment that takes the pair.
use Rattle.subsumption.specs.Refusal.{Done}
use Prim.Native.Nat.{ℕ, ◌+◌, ◌<◌, ◌≤◌}
use mathlib.Core.Path.{◌≡◌, refl, sym, ap, ◌∙◌, subst}
use mathlib.Core.List.{List}
use mathlib.Core.Bool.{Bool, true, false}
use mathlib.Core.Logic.{⊎_elim}
use native.Mathlib.Omega.{arith}
use lib.ListN.{length, get_or, take}
use lib.Seq.{length-take-le}
use Rattle.subsumption.specs.Tables.{Tables, pairs_of, right_of, tree, has_variable}
use Rattle.subsumption.specs.Atoms.{bit}
use Rattle.subsumption.specs.Check.{table_fault, assignment_fault}
use Rattle.subsumption.proofs.Bits.{bit-of-zero}
use Rattle.subsumption.proofs.Accepted.{well_formed}
use Rattle.matching.specs.Solving.{takes}
use Rattle.matching.specs.Among.{SolvesAmong}
use Rattle.matching.specs.Inner.Search.{Decided, HoldsAt, Within}
use Rattle.matching.specs.Inner.Search.Problem.{Problem, held_at, right_at, question_count, AskedAt}
use Rattle.matching.specs.Inner.Search.Pairs.{Changed}
use Rattle.matching.specs.Inner.Search.Patterns.{Tested}
use Rattle.matching.specs.Inner.Search.Sets.{NextBit}
use Rattle.matching.specs.Inner.Search.Narrow.{Narrower, Narrowed}
use Rattle.matching.proofs.SearchLaws.Fronts.{front-known, front-takes, front-within, within-accepted}
use Rattle.matching.proofs.SearchLaws.Monotone.{left-free, antitone}
use Rattle.matching.proofs.SearchLaws.Interval.{at_pair, grown-cases, shrunk, shrunk-cases}

front_long : (t : Tables) → table_fault t ≡ Done → (a : List ℕ) → length a ≡ 8 → length (take t.variables a) ≡ t.variables
front_long t h a e = length-take-le _ a (omega (arith, e, (well_formed t h).few-variables))

-- ---- one step after another
pub narrowed_none : (sets problem full : List ℕ) → Narrowed sets problem full full
narrowed_none sets problem full t k a = record { fewer = λ l r e. e; all = λ other x s w. w }

pub narrowed-more :
    (sets problem a b c : List ℕ) → length b ≡ 8 → Narrowed sets problem a b → Narrowed sets problem b c → Narrowed sets problem a c
narrowed-more sets problem a b c long x y t k h = record { fewer = λ l r e. p.fewer l r (q.fewer l r e); all = λ other u s w. q.all other u s (p.all other u s w) }
  where
    p : Narrower t problem a b
    p = x t k h

    q : Narrower t problem b c
    q = y t k (within-accepted t _ _ h (front_long t k.passed b long) (front-within t.variables b a p.fewer))

-- ---- a pair that fails alone
module _ (sets problem : List ℕ) (m k q : ℕ) (low : m < question_count problem) (asked : AskedAt problem m) (right : held_at problem (right_at problem m) ≡ true)
    (none alone : List ℕ) (zeros : (l : ℕ) → get_or none l 0 ≡ 0) (one : Changed none alone k q true)
    (b : Bool) (d : Tested sets problem m alone b) (e : b ≡ false) where
  module _ (t : Tables) (c : Problem t sets problem) where
    known : m < pairs_of t.questions
    known = omega (arith, low, c.questions)

    right-held : has_variable (tree t.concepts (right_of t.questions m)) ≡ true
    right-held =
        sym (c.held _ ((well_formed t c.passed).question-right m known)) ∙ ap (held_at problem) (sym (c.right m known)) ∙ right

    alone-within : (other : List ℕ) → takes other k q ≡ true → Within (take t.variables alone) other
    alone-within other x l r w =
        ⊎_elim (λ y. at_pair other l r k q true y x) (λ y. absurd (bit-of-zero r (subst (λ (z : ℕ). bit z r ≡ true) (zeros l) y)))
        (grown-cases none alone k q one l r (front-known t.variables alone l r w).1)

    pub not_taken : (other : List ℕ) → assignment_fault t other ≡ Done → SolvesAmong (AskedAt problem) t other → takes other k q ≡ true → ⊥
    not_taken other a s x =
        subst (Decided (HoldsAt t (take t.variables alone) m)) e
        (d t c (within-accepted t _ other a (front_long t c.passed alone one.long) (alone-within other x)) known)
        (antitone t (well_formed t c.passed) _ other (alone-within other x) _ _ (left-free t c.passed m known right-held) (s m known asked))

  pub narrowed-pair : (high fewer : List ℕ) → Changed high fewer k q false → Narrowed sets problem high fewer
  narrowed-pair high fewer x t c h =
      record {
        fewer = shrunk high fewer k q x;
        all =
            λ other a s w l r y.
            let (v, z) = front-known t.variables high l r (w l r y) in
            ⊎_elim (λ (n : (l ≡ k) × (r ≡ q)). absurd (not_taken t c other a s (at_pair other k q l r true (sym n.0, sym n.1) y)))
            (λ n. front-takes t.variables fewer l r v n)
            (shrunk-cases high fewer k q x l r z);
      }

-- ---- through the pairs of one variable: those from place q on are as they were
pub record Narrowing (sets problem full high : List ℕ) (k q : ℕ) : Type 0 where
  pub long : length high ≡ 8
  pub within : q ≤ 64
  pub here : q < 64 → takes full k q ≡ true
  pub rest : (r : ℕ) → q ≤ r → takes high k r ≡ takes full k r
  pub narrowed : Narrowed sets problem full high

module _ (sets problem full : List ℕ) (k : ℕ) where
  pub narrowing_none : (q : ℕ) → length full ≡ 8 → NextBit (get_or full k 0) 0 q → Narrowing sets problem full full k q
  narrowing_none q e n =
      record { long = e; within = n.within; here = n.here; rest = λ r l. refl; narrowed = narrowed_none sets problem full }

  module _ (high : List ℕ) (q next : ℕ) (w : Narrowing sets problem full high k q) (n : NextBit (get_or full k 0) (q + 1) next) where
    pub narrowing-keep : Narrowing sets problem full high k next
    narrowing-keep =
        record {
          long = w.long;
          within = n.within;
          here = n.here;
          rest = λ r l. w.rest r (omega (arith, n.after));
          narrowed = w.narrowed;
        }

    pub narrowing-less : (fewer : List ℕ) → Changed high fewer k q false → Narrowed sets problem high fewer → Narrowing sets problem full fewer k next
    narrowing-less fewer x y =
        record {
          long = x.long;
          within = n.within;
          here = n.here;
          rest = λ r l. x.elsewhere k r (λ z. omega (arith, n.after, z.1)) ∙ w.rest r (omega (arith, n.after));
          narrowed = narrowed-more sets problem full high fewer w.long w.narrowed y;
        }

pub still-taken : (sets problem full high : List ℕ) (k q : ℕ) → Narrowing sets problem full high k q → q < 64 → takes high k q ≡ true
still-taken sets problem full high k q w l = w.rest q (omega arith) ∙ w.here l
