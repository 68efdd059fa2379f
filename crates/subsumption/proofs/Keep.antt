-- Members of what `keep` keeps.
use Prim.Native.Nat.{ℕ, zero, suc, ◌+◌, ◌<◌, ◌≤◌}
use mathlib.Core.Path.{◌≡◌, refl, sym, ap, ◌∙◌}
use mathlib.Core.List.Memᴰ
use mathlib.Core.List.{Memᴰ}
use mathlib.Core.Bool.{Bool, true, false, false≢true}
use mathlib.Core.Logic.{⊎_elim}
use native.Mathlib.Omega.{arith}
use lib.Dec.{eqb}
use borrow.Author.Tests.{eqb-true, eqb-false}
use Rattle.subsumption.specs.Atoms.{keep}

pub record Kept (test : ℕ → Bool) (from count p : ℕ) : Type 0 where
  pub low : from ≤ p
  pub high : p < from + count
  pub passes : test p ≡ true

pub keep-member : (test : ℕ → Bool) (from count p : ℕ) → Memᴰ p (keep test from count) → Kept test from count p
unfolding keep
keep-member test from zero p h = absurd (Memᴰ.not-nil h)
keep-member test from (suc count) p h = go (λ m. later (keep-member test (suc from) count p m)) (test from) refl
  where
    later : Kept test (suc from) count p → Kept test from (suc count) p
    later k = record { low = omega arith; high = omega arith; passes = k.passes }

    go : (Memᴰ p (keep test (suc from) count) → Kept test from (suc count) p) → (b : Bool) → test from ≡ b → Kept test from (suc count) p
    go rest true e =
        ⊎_elim (λ (s : p ≡ from). record { low = omega arith; high = omega arith; passes = ap test s ∙ e }) rest (Memᴰ.cases_cons (rw e at h))
    go rest false e = rest (rw e at h)

pub keep-intro : (test : ℕ → Bool) (from count p : ℕ) → Kept test from count p → Memᴰ p (keep test from count)
unfolding keep
keep-intro test from zero p k = absurd (omega arith)
keep-intro test from (suc count) p k =
    go (λ l. keep-intro test (suc from) count p (record { low = omega arith; high = omega arith; passes = k.passes })) (test from) refl
    (eqb p from) refl
  where
    go :
        (from < p → Memᴰ p (keep test (suc from) count)) → (b : Bool) → test from ≡ b → (c : Bool) → eqb p from ≡ c
        → Memᴰ p (keep test from (suc count))
    go rest true e true s = rw e (Memᴰ.head (eqb-true p from s))
    go rest true e false s = rw e (Memᴰ.tail (rest (omega (arith, eqb-false p from s))))
    go rest false e true s = absurd (false≢true (sym e ∙ ap test (sym (eqb-true p from s)) ∙ k.passes))
    go rest false e false s = rw e (rest (omega (arith, eqb-false p from s)))
