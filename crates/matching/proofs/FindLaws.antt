-- Finding without settings: all atoms, and what settings that permit them all leave of the answer.
use Rattle.std.specs.Prelude.{Err, Ok}
use Prim.Native.Nat.{ℕ, zero, suc, ◌*◌, ◌-◌, ◌%◌, ◌^◌, ◌<◌, ◌≤◌}
use mathlib.Core.Path.{◌≡◌, refl, sym, ap, ◌∙◌, subst}
use mathlib.Core.List.{List, [], ◌∷◌}
use mathlib.Core.Bool.{true}
use mathlib.Core.Logic.{inl, inr}
use native.Mathlib.Omega.{arith}
use native.Mathlib.Nat.{mod-eq_of_lt}
use lib.Pow.{pow_pos, pow-lt, ones_lt}
use lib.Bits.{and_mask}
use lib.ListN.{length, get_or, take, replicate, get_or-replicate}
use lib.Seq.{get_or-take, length-take-le}
use Rattle.subsumption.specs.declared.refusal.Refusal.{Refusal}
use Rattle.subsumption.specs.Tables.{Tables, pairs_of}
use Rattle.subsumption.specs.Atoms.{atoms, bit}
use Rattle.subsumption.specs.Check.{table_fault, buffer_fault}
use Rattle.subsumption.specs.Refusal.{Reply, reply_refused, or_else, Outcome, Done}
use Rattle.subsumption.specs.Inner.Listing.{Accepted}
use Rattle.subsumption.proofs.Bools.{both_true}
use Rattle.subsumption.proofs.Bits.{bit-and, bit-pow}
use Rattle.subsumption.proofs.Refusals.{stops}
use Rattle.subsumption.proofs.Accepted.{well_formed}
use Rattle.settings.specs.Settings.{Settings, settings, Unrestricted, settings_fault}
use Rattle.settings.proofs.SettingsLaws.{settings-accept}
use Rattle.matching.specs.Find.{finding_fault, FindsAfter, Finds}
use Rattle.matching.specs.Within.{within_fault, FindsWithinAfter, FindsWithin}
use Rattle.matching.specs.Inner.Find.{Full}
use Rattle.matching.specs.Inner.Within.{FindsAmong}
use Rattle.matching.proofs.SearchLaws.Choices.{one_bit}
use Rattle.matching.proofs.SubstitutionLaws.Conjoined.{some-solves}
use Rattle.matching.proofs.WithinLaws.{heeds-all, finds-within}

-- ---- all zeros, all ones
pub all-zeros : (k : ℕ) → ◌≡◌ {A = ℕ} (get_or (0 ∷ 0 ∷ 0 ∷ 0 ∷ 0 ∷ 0 ∷ 0 ∷ 0 ∷ []) k 0) 0
all-zeros zero = refl
all-zeros (suc zero) = refl
all-zeros (suc (suc zero)) = refl
all-zeros (suc (suc (suc zero))) = refl
all-zeros (suc (suc (suc (suc zero)))) = refl
all-zeros (suc (suc (suc (suc (suc zero))))) = refl
all-zeros (suc (suc (suc (suc (suc (suc zero)))))) = refl
all-zeros (suc (suc (suc (suc (suc (suc (suc zero))))))) = refl
all-zeros (suc (suc (suc (suc (suc (suc (suc (suc k)))))))) = refl

pub ones-all : (count : ℕ) → count ≡ 64 → 18446744073709551615 ≡ 2 ^ count - 1
ones-all count e = rw e

pub ones-room : (count : ℕ) → count < 64 → 1 ≤ 1 * 2 ^ count % 18446744073709551616
ones-room count h = omega (arith, one_bit count h, pow_pos count)

pub ones-some : (count : ℕ) → count < 64 → 1 * 2 ^ count % 18446744073709551616 - 1 ≡ 2 ^ count - 1
ones-some count h = ap (λ (z : ℕ). z - 1) (one_bit count h)

bit-of-ones : (n q : ℕ) → q < n → bit (2 ^ n - 1) q ≡ true
bit-of-ones n q h =
    (both_true (bit (2 ^ q) q) (bit (2 ^ n - 1) q)
    (sym (bit-and (2 ^ q) (2 ^ n - 1) q) ∙ ap (λ (z : ℕ). bit z q) (and_mask (2 ^ q) n ∙ mod-eq_of_lt (pow-lt h)) ∙ bit-pow q)).1

pub full-atoms : (count full : ℕ) → full ≡ 2 ^ count - 1 → Full count (replicate 8 full)
full-atoms count full e = record { long = refl; all = λ k l. get_or-replicate 8 k full 0 l ∙ e }

-- ---- all questions are asked
pub all_asked : (t : Tables) → table_fault t ≡ Done → (m : ℕ) → m < pairs_of t.questions → bit 18446744073709551615 m ≡ true
all_asked t h m l = bit-of-ones 64 m (omega (arith, (well_formed t h).few-questions))

-- ---- settings that permit all
module _ (t : Tables) (h : table_fault t ≡ Done) (all : List ℕ) (full : Full (length (atoms t)) all) where
  few : t.variables ≤ 8
  few = (well_formed t h).few-variables

  pub permitted-of : (k : ℕ) → k < t.variables → get_or (take t.variables all) k 0 ≡ 2 ^ length (atoms t) - 1
  permitted-of k l = get_or-take _ all k 0 l ∙ full.all k (omega (arith, few))

  pub largest-of : (k : ℕ) → k < t.variables → ◌≡◌ {A = ℕ} (get_or (take t.variables (replicate 8 64)) k 0) 64
  largest-of k l = get_or-take _ (replicate 8 64) k 0 l ∙ get_or-replicate 8 k 64 0 (omega (arith, few))

  all-accepted : settings_fault t (settings (take t.variables all) (take t.variables (replicate 8 64))) ≡ Done
  all-accepted =
      settings-accept t _ (length-take-le _ all (omega (arith, few, full.long))) (length-take-le _ (replicate 8 64) few)
      (λ k l. (subst (λ (z : ℕ). z < 2 ^ length (atoms t)) (sym (permitted-of k l)) (ones_lt (length (atoms t))), omega (arith, largest-of k l)))

  all-permitted : Unrestricted t (settings (take t.variables all) (take t.variables (replicate 8 64)))
  all-permitted =
      record {
        all = λ k q l m. subst (λ (z : ℕ). bit z q ≡ true) (sym (permitted-of k l)) (bit-of-ones (length (atoms t)) q m);
        most = largest-of;
      }

-- ---- the answer
pub tables-refuse : (t : Tables) (before : List ℕ) (r : Refusal) → Err r ≡ table_fault t → Finds t before before (reply_refused r)
unfolding finding_fault
tables-refuse t before r e =
    subst (λ (f : Outcome). FindsAfter f t before before (reply_refused r)) (stops (Err r) _ _ r e refl) (refl, refl)

module _ (t : Tables) (s : Settings) (before after : List ℕ) (reply : Reply) (h : table_fault t ≡ Done) (set : settings_fault t s ≡ Done) (u : Unrestricted t s) where
  same-fault : within_fault t s (length before) ≡ finding_fault t (length before)
  unfolding within_fault finding_fault or_else
  same-fault = ap (λ (z : Outcome). or_else (table_fault t) (or_else z (buffer_fault t.variables (length before)))) set

  after-fault : (f : Outcome) → FindsWithinAfter f t s before after reply → FindsAfter f t before after reply
  after-fault (Ok tt) (inl (e, f)) =
      inl (
        e,
        record {
          some = some-solves t (well_formed t h) _ f.first.solves;
          size = f.size;
          first =
              record {
                accepted = f.first.accepted;
                solves = f.first.solves;
                first = λ other a x. f.first.first other a (heeds-all t s u other a) x;
              };
          rest = f.rest;
        },
      )
  after-fault (Ok tt) (inr (e, f)) = inr (e, record { none = f.by-substitution u; kept = f.kept })
  after-fault (Err r) x = x

  -- with settings that permit all nothing moves
  pub finds-unrestricted : FindsWithin t s before after reply → Finds t before after reply
  finds-unrestricted x = subst (λ (z : Outcome). FindsAfter z t before after reply) same-fault (after-fault (within_fault t s (length before)) x)

pub finds-all :
    (t : Tables) (ids : List ℕ) → Accepted t ids → (count : ℕ) → count ≡ length ids → (all : List ℕ) → Full count all → (before after : List ℕ) (reply : Reply)
    → FindsAmong (λ m. bit 18446744073709551615 m ≡ true) t (settings (take t.variables all) (take t.variables (replicate 8 64))) before after reply
    → Finds t before after reply
finds-all t ids A count e all full before after reply x =
    finds-unrestricted t _ before after reply A.passed (all-accepted t A.passed all whole) (all-permitted t A.passed all whole)
    (finds-within _ t _ before after reply (all_asked t A.passed) x)
  where
    whole : Full (length (atoms t)) all
    whole = subst (λ (z : ℕ). Full z all) (e ∙ ap length A.listed) full
