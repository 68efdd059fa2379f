-- One table: settings that permit all, the stretch it has, and what its answer says of its count.
use Rattle.std.specs.Prelude.{Err, Ok}
use Prim.Native.Nat.{ℕ, ◌+◌, ◌-◌, ◌*◌, ◌^◌, ◌≤◌, min}
use mathlib.Core.Path.{◌≡◌, sym, ap, ap₂, ◌∙◌, subst}
use mathlib.Core.List.{List, ◌++◌}
use mathlib.Core.Logic.{inl, inr}
use native.Mathlib.Omega.{arith}
use lib.ListN.{length, take, drop, length-drop, replicate, length-replicate, get_or-replicate}
use lib.Seq.{length-take-le, ext_get_or}
use Rattle.subsumption.specs.declared.refusal.Refusal.{Refusal}
use Rattle.subsumption.specs.declared.refusal.Code.{Code}
use Rattle.subsumption.specs.Tables.{Tables, tables}
use Rattle.subsumption.specs.Atoms.{atoms}
use Rattle.subsumption.specs.Refusal.{Reply, code_of, Outcome, Done}
use Rattle.subsumption.specs.Inner.Listing.{Accepted}
use Rattle.subsumption.proofs.Accepted.{well_formed}
use Rattle.settings.specs.Settings.{Settings, settings}
use Rattle.matching.specs.Within.{within_fault}
use Rattle.matching.specs.Inner.Find.{Full}
use Rattle.matching.proofs.FindLaws.{permitted-of, largest-of}
use Rattle.allowance.specs.Find.{FindsCountedAfter, FindsCounted}
use Rattle.batches.specs.Batch.{unrestricted, stretch}
use Rattle.batches.specs.Inner.Find.{FindsAt, Coded}
use Rattle.batches.proofs.StretchLaws.{lent-stretch, written, written_on}

-- ---- the settings that permit all
module _ (t : Tables) (ids : List ℕ) (a : Accepted t ids) (count : ℕ) (e : count ≡ length ids) (all : List ℕ) (full : Full count all) where
  whole : Full (length (atoms t)) all
  whole = subst (λ (z : ℕ). Full z all) (e ∙ ap length a.listed) full

  few : t.variables ≤ 8
  few = (well_formed t a.passed).few-variables

  permits-all : take t.variables all ≡ replicate t.variables (2 ^ length (atoms t) - 1)
  permits-all =
      ext_get_or 0 _ _ (long ∙ sym (length-replicate t.variables _))
      (λ k l. permitted-of t a.passed all whole k (omega (arith, long)) ∙ sym (get_or-replicate t.variables k _ 0 (omega (arith, long))))
    where
      long : length (take t.variables all) ≡ t.variables
      long = length-take-le _ all (omega (arith, few, full.long))

  counts_all : take {A = ℕ} t.variables (replicate 8 64) ≡ replicate t.variables 64
  counts_all =
      ext_get_or 0 _ _ (long ∙ sym (length-replicate t.variables _))
      (λ k l. largest-of t a.passed all whole k (omega (arith, long)) ∙ sym (get_or-replicate t.variables k _ 0 (omega (arith, long))))
    where
      long : length (take {A = ℕ} t.variables (replicate 8 64)) ≡ t.variables
      long = length-take-le _ (replicate 8 64) few

  pub finds-all :
      (allowance : ℕ) (before after : List ℕ) (reply : Reply)
      → FindsCounted t (settings (take t.variables all) (take t.variables (replicate 8 64))) allowance before after reply
      → FindsCounted t (unrestricted t) allowance before after reply
  unfolding unrestricted
  finds-all allowance before after reply =
      subst (λ (s : Settings). FindsCounted t s allowance before after reply) (ap₂ settings permits-all counts_all)

-- ---- one table's answer on its stretch
pub finds-at :
    (t : Tables) (allowance k from to : ℕ) (before part : List ℕ) (reply : Reply) → from ≡ min (k * t.variables) (length before)
    → to ≡ min (from + t.variables) (length before) → length part ≡ length (take (to - from) (drop from before))
    → FindsCounted t (unrestricted t) allowance (take (to - from) (drop from before)) part reply
    → FindsAt t allowance k before (take from before ++ (part ++ drop (to - from) (drop from before))) reply
finds-at t allowance k from to before part reply e f h x =
    let g : length part ≡ to - from = h ∙ length-take-le (to - from) (drop from before) (omega (arith, length-drop from before)) in
    record {
      finds =
          subst (λ (z : List ℕ). FindsCounted t (unrestricted t) allowance z (stretch t.variables (take from before ++ (part ++ drop (to - from) (drop from before))) k) reply)
          (lent-stretch t.variables k from to before e f)
          (subst (λ (z : List ℕ). FindsCounted t (unrestricted t) allowance (take (to - from) (drop from before)) z reply)
          (sym (written t.variables k from to before part e f g)) x);
      only = written_on t.variables k from to before part e f g;
    }

-- ---- its number and place
pub filled-coded : (answer : Outcome) (code : Code) → answer ≡ Done → code ≡ record { number = 0; place = 0 } → Coded answer code
filled-coded answer code e f count = rw (e, f)

pub refused-coded : (answer : Outcome) (r : Refusal) (code : Code) → answer ≡ Err r → code ≡ code_of r → Coded answer code
refused-coded answer r code e f count = rw (e, f)

-- ---- the answer for some questions over a catalogue, by what it goes by
abbrev pub Answer : Tables → List ℕ → ℕ → List ℕ → List ℕ → Reply → Type 0
Answer t questions allowance before after reply =
    FindsCounted (tables t.concepts t.inclusions questions t.roles t.variables)
    (unrestricted (tables t.concepts t.inclusions questions t.roles t.variables)) allowance before after reply

pub answer-same :
    (t : Tables) (questions questions₁ : List ℕ) (allowance allowance₁ : ℕ) (before before₁ after after₁ : List ℕ) (reply reply₁ : Reply)
    → questions ≡ questions₁ → allowance ≡ allowance₁ → before ≡ before₁ → after ≡ after₁ → reply ≡ reply₁
    → Answer t questions allowance before after reply → Answer t questions₁ allowance₁ before₁ after₁ reply₁
answer-same t questions questions₁ allowance allowance₁ before before₁ after after₁ reply reply₁ e f g h i x = rw (← e, ← f, ← g, ← h, ← i) x

-- ---- what an answer says of its count
module _ (t : Tables) (s : Settings) (allowance : ℕ) (before after : List ℕ) (reply : Reply) where
  within-after : (f : Outcome) → FindsCountedAfter f t s allowance before after reply → reply.value ≤ allowance
  within-after (Err r) (e, k) = omega (arith, ap (λ (z : Reply). z.value) e)
  within-after (Ok tt) (inl (e, (x, c))) = c.enough
  within-after (Ok tt) (inr (inl (e, (x, c)))) = c.enough
  within-after (Ok tt) (inr (inr (e, x))) = omega (arith, ap (λ (z : Reply). z.value) e)

  -- no more is used than the allowance
  pub count-within : FindsCounted t s allowance before after reply → reply.value ≤ allowance
  count-within = within-after (within_fault t s (length before))

  unused-after :
      (f : Outcome) → FindsCountedAfter f t s allowance before after reply → (reply.number ≡ 0 → ⊥) → (reply.number ≡ 10 → ⊥)
      → (reply.number ≡ 14 → ⊥) → reply.value ≡ 0
  unused-after (Err r) (e, k) a b c = ap (λ (z : Reply). z.value) e
  unused-after (Ok tt) (inl (e, x)) a b c = absurd (a (ap (λ (z : Reply). z.number) e))
  unused-after (Ok tt) (inr (inl (e, x))) a b c = absurd (b (ap (λ (z : Reply). z.number) e))
  unused-after (Ok tt) (inr (inr (e, x))) a b c = absurd (c (ap (λ (z : Reply). z.number) e))

  -- nor anything with a refusal but 10 and 14
  pub count-unused :
      FindsCounted t s allowance before after reply → (reply.number ≡ 0 → ⊥) → (reply.number ≡ 10 → ⊥) → (reply.number ≡ 14 → ⊥)
      → reply.value ≡ 0
  count-unused = unused-after (within_fault t s (length before))

  kept-after : (f : Outcome) → FindsCountedAfter f t s allowance before after reply → (reply.number ≡ 0 → ⊥) → after ≡ before
  kept-after (Err r) (e, k) a = k
  kept-after (Ok tt) (inl (e, x)) a = absurd (a (ap (λ (z : Reply). z.number) e))
  kept-after (Ok tt) (inr (inl (e, (x, c)))) a = x.kept
  kept-after (Ok tt) (inr (inr (e, x))) a = x.kept

  -- with a refusal nothing is written
  pub refused-kept : FindsCounted t s allowance before after reply → (reply.number ≡ 0 → ⊥) → after ≡ before
  refused-kept = kept-after (within_fault t s (length before))
