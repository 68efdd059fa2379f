-- What passes passes with every easier choice, what fails fails with every harder one: so what is kept tells, and stays true.
use Rattle.subsumption.specs.Refusal.{Done}
use Prim.Native.Nat.{ℕ, ◌+◌, ◌*◌, ◌%◌, ◌<◌, ◌≤◌}
use mathlib.Core.Path.{◌≡◌, refl, sym, ap, ◌∙◌, subst}
use mathlib.Core.List.{List}
use mathlib.Core.Bool.{Bool, true, false, beq, false≢true, true≢false}
use mathlib.Core.Logic.{◌⊎◌, inl, inr, ⊎_elim}
use native.Mathlib.Omega.{arith}
use lib.ListN.{length, get_or, set, take, replicate, length-set, length-replicate, get_or-replicate}
use lib.Seq.{get_or-set_same, get_or-set_other}
use Rattle.subsumption.specs.Tables.{Tables}
use Rattle.subsumption.specs.Check.{table_fault}
use Rattle.subsumption.proofs.Bools.{last-cases, le-or-lt}
use Rattle.subsumption.proofs.Accepted.{well_formed}
use Rattle.matching.specs.Inner.Search.{Decided, Within}
use Rattle.matching.specs.Inner.Search.Problem.{question_count}
use Rattle.matching.specs.Inner.Search.Nogoods.{Put}
use Rattle.matching.specs.Inner.Search.Solve.{FailingOf}
use Rattle.matching.proofs.SearchLaws.Monotone.{monotone, antitone, left-free}
use Rattle.matching.proofs.SearchLaws.Fronts.{front-within}
use Rattle.matching.proofs.SearchLaws.Nogoods.{words_are, words_same}
use Rattle.matching.proofs.SearchLaws.Solve.{is-question}
use Rattle.allowance.specs.Partial.{Asked}
use Rattle.allowance.specs.Inner.Kept.{ring_at, noted, in_ring, Told, Kept, Easier, Follows, FollowsIf, Recalled, Noted, Tried}

-- ---- the rings
ring-low : (right passed : Bool) → ring_at right passed ≤ 387
ring-low false false = omega arith
ring-low false true = omega arith
ring-low true false = omega arith
ring-low true true = omega arith

abbrev Apart : ℕ → ℕ → Type 0
Apart a b = (a + 129 ≤ b) ⊎ (b + 129 ≤ a)

-- two rings are the same or apart
rings : (r p right passed : Bool) → ((r ≡ right) × (p ≡ passed)) ⊎ Apart (ring_at r p) (ring_at right passed)
rings false false false false = inl (refl, refl)
rings false true false true = inl (refl, refl)
rings true false true false = inl (refl, refl)
rings true true true true = inl (refl, refl)
rings false false false true = inr (inl (omega arith))
rings false false true false = inr (inl (omega arith))
rings false false true true = inr (inl (omega arith))
rings false true true false = inr (inl (omega arith))
rings false true true true = inr (inl (omega arith))
rings true false true true = inr (inl (omega arith))
rings false true false false = inr (inr (omega arith))
rings true false false false = inr (inr (omega arith))
rings true true false false = inr (inr (omega arith))
rings true false false true = inr (inr (omega arith))
rings true true false true = inr (inr (omega arith))
rings true true true false = inr (inr (omega arith))

same_or_not : (m n : ℕ) → (m ≡ n) ⊎ (m ≡ n → ⊥)
same_or_not m n = ⊎_elim (λ (x : m ≤ n). ⊎_elim inl (λ y. inr (λ e. omega arith)) (last-cases m n (omega arith))) (λ x. inr (λ e. omega arith)) (le-or-lt m n)

-- ---- a choice noted in the place of the oldest
module _ (before mid choice : List ℕ) (right passed : Bool) (long : length before ≡ 516) (eight : length choice ≡ 8)
    (put : Put (ring_at right passed + noted before right passed % 16 * 8) choice before mid) (v : ℕ) (few : v ≤ noted before right passed + 1) where
  abbrev ring : ℕ
  ring = ring_at right passed

  abbrev oldest : ℕ
  oldest = noted before right passed % 16

  abbrev after : List ℕ
  after = set mid (ring + 128) v

  after-long : length after ≡ 516
  after-long = length-set mid _ v ∙ put.size ∙ long

  counted : noted after right passed ≡ v
  counted = get_or-set_same mid _ v 0 (omega (arith, put.size, ring-low right passed))

  -- outside the place and the count all is as before
  untouched : (p : ℕ) → (p ≡ ring + 128 → ⊥) → (p < ring + oldest * 8) ⊎ (ring + oldest * 8 + 8 ≤ p) → get_or after p 0 ≡ get_or before p 0
  untouched p n o = get_or-set_other mid _ p v 0 n ∙ put.there p o

  new : in_ring after right passed oldest ≡ choice
  new =
      sym
      (words_are after choice _ (omega (arith, after-long, ring-low right passed)) eight
      (λ k l. sym (get_or-set_other mid _ _ v 0 (λ e. omega arith) ∙ put.here k l)))

  old : (i : ℕ) → i < 16 → (i ≡ oldest → ⊥) → in_ring after right passed i ≡ in_ring before right passed i
  old i l n =
      words_same after before _ (omega (arith, after-long, ring-low right passed)) (omega (arith, long, ring-low right passed))
      (λ (p : ℕ) (a : ring + i * 8 ≤ p) (b : p < ring + i * 8 + 8).
      untouched p (λ e. omega arith) (⊎_elim (λ (x : oldest ≤ i). inr (omega (arith, n))) (λ x. inl (omega arith)) (le-or-lt oldest i)))

  -- the other rings
  far : (r p : Bool) → Apart (ring_at r p) ring → (q : ℕ) → ring_at r p ≤ q → q < ring_at r p + 129 → get_or after q 0 ≡ get_or before q 0
  far r p a q l m = untouched q (λ e. ⊎_elim (λ x. omega arith) (λ x. omega arith) a) (⊎_elim (λ x. inl (omega arith)) (λ x. inr (omega arith)) a)

  abbrev Stays : Bool → Bool → Type 0
  Stays r p =
      (i : ℕ) → i < 16 → i < noted after r p
      → ((i < noted before r p) × (in_ring after r p i ≡ in_ring before r p i)) ⊎ ((r ≡ right) × (p ≡ passed) × (in_ring after r p i ≡ choice))

  stays_here : Stays right passed
  stays_here i l m =
      ⊎_elim (λ (e : i ≡ oldest). inr (refl, refl, ap (in_ring after right passed) e ∙ new)) (λ n. inl (omega (arith, counted, n), old i l n))
      (same_or_not i oldest)

  stays-far : (r p : Bool) → Apart (ring_at r p) ring → Stays r p
  stays-far r p x i l m =
      inl (
        subst (λ (z : ℕ). i < z) (far r p x _ (omega arith) (omega arith)) m,
        words_same after before _ (omega (arith, after-long, ring-low r p)) (omega (arith, long, ring-low r p))
            (λ (q : ℕ) (a : ring_at r p + i * 8 ≤ q) (b : q < ring_at r p + i * 8 + 8). far r p x q (omega arith) (omega arith)),
      )

  noted_one : Noted before (set mid (ring_at right passed + 128) v) choice right passed
  noted_one =
      record {
        long = after-long;
        each =
            λ r p.
            ⊎_elim
            (λ (x : (r ≡ right) × (p ≡ passed)). subst (λ (z : Bool). Stays z p) (sym x.0) (subst (Stays right) (sym x.1) stays_here))
            (λ x. stays-far r p x) (rings r p right passed);
      }

module _ (before mid choice : List ℕ) (right passed : Bool) (long : length before ≡ 516) (eight : length choice ≡ 8) where
  abbrev NotedAt : ℕ → Type 0
  NotedAt ring =
      Put (ring + get_or before (ring + 128) 0 % 16 * 8) choice before mid → (v : ℕ) → v ≤ get_or before (ring + 128) 0 + 1
      → Noted before (set mid (ring + 128) v) choice right passed

  pub noted-at : (ring : ℕ) → ring ≡ ring_at right passed → NotedAt ring
  noted-at ring e = subst NotedAt (sym e) (λ put v few. noted_one before mid choice right passed long eight put v few)

-- ---- what is kept tells
module _ (t : Tables) (h : table_fault t ≡ Done) where
  asked-easier : (right : Bool) (a b : List ℕ) → Easier right a b → Asked t right (take t.variables b) → Asked t right (take t.variables a)
  asked-easier true a b w s m l e = antitone t (well_formed t h) _ _ (front-within t.variables a b w) _ _ (left-free t h m l e) (s m l e)
  asked-easier false a b w s m l e = monotone t (well_formed t h) _ _ (front-within t.variables b a w) _ _ e (s m l e)

  told-follows :
      (right passed : Bool) (choice other : List ℕ) → Follows right passed choice other → Told t right passed other
      → Told t right passed choice
  told-follows right true choice other f x = asked-easier right choice other f x
  told-follows right false choice other f x = λ s. x (asked-easier right other choice f s)

pub follows-alike :
    (b right passed : Bool) (choice other : List ℕ) → beq right passed ≡ true → Decided (Within choice other) b → FollowsIf b right passed choice other
follows-alike true true true choice other e w = w
follows-alike true false false choice other e w = w
follows-alike true true false choice other e w = absurd (false≢true e)
follows-alike true false true choice other e w = absurd (false≢true e)
follows-alike false right passed choice other e w = tt

pub follows-unlike :
    (b right passed : Bool) (choice other : List ℕ) → beq right passed ≡ false → Decided (Within other choice) b → FollowsIf b right passed choice other
follows-unlike true true false choice other e w = w
follows-unlike true false true choice other e w = w
follows-unlike true true true choice other e w = absurd (true≢false e)
follows-unlike true false false choice other e w = absurd (true≢false e)
follows-unlike false right passed choice other e w = tt

module _ (sets problem choice : List ℕ) (right : Bool) (kept : List ℕ) where
  pub tried-known : (passed b : Bool) → Recalled kept choice right passed b → b ≡ true → Tried sets problem choice right kept kept passed
  tried-known passed true a e t c all i k = (told-follows t c.passed right passed choice _ a.follows (k.each right passed a.place a.low a.read), k)
  tried-known passed false a e t c all i k = absurd (false≢true e)

-- ---- what is kept stays true
pub kept-none : (t : Tables) → Kept t (replicate 516 0)
kept-none t = record { long = length-replicate {A = ℕ} 516 0; each = λ r p i l m. absurd (omega (arith, get_or-replicate {A = ℕ} 516 (ring_at r p + 128) 0 0 (omega (arith, ring-low r p)))) }

kept-noted :
    (t : Tables) (before after choice : List ℕ) (right passed : Bool) → Kept t before → Told t right passed choice → Noted before after choice right passed
    → Kept t after
kept-noted t before after choice right passed k x n =
    record {
      long = n.long;
      each =
          λ r p i l m.
          ⊎_elim
          (λ (y : (i < noted before r p) × (in_ring after r p i ≡ in_ring before r p i)). subst (Told t r p) (sym y.1) (k.each r p i l y.0))
          (λ (y : (r ≡ right) × (p ≡ passed) × (in_ring after r p i ≡ choice)).
          subst (λ (z : Bool). Told t z p (in_ring after r p i)) (sym y.0)
          (subst (λ (z : Bool). Told t right z (in_ring after r p i)) (sym y.1) (subst (Told t right passed) (sym y.2) x)))
          (n.each r p i l m);
    }

-- ---- a test
module _ (sets problem choice : List ℕ) (right : Bool) (m : ℕ) (f : FailingOf sets problem choice right m) (before after : List ℕ) where
  pub tried-passes : question_count problem ≤ m → Noted before after choice right true → Tried sets problem choice right before after true
  tried-passes l n t c all a k =
      let holds : Asked t right (take t.variables choice) = λ o x e. (f t c a).before o (omega (arith, c.questions)) (all o x, e) in
      (holds, kept-noted t before after choice right true k holds n)

  pub tried-fails : m < question_count problem → Noted before after choice right false → Tried sets problem choice right before after false
  tried-fails l n t c all a k =
      let at = is-question t sets problem c m l in
      let fails : Asked t right (take t.variables choice) → ⊥ = λ s. (f t c a).fails at (s m at ((f t c a).of-kind at).1) in
      (fails, kept-noted t before after choice right false k fails n)
