-- From the walk to the answer: what the walk is lent, what it finds, and what is written.
use Rattle.std.specs.Prelude.{Err}
use Prim.Native.Nat.{ℕ, ◌*◌, ◌<◌, ◌≤◌}
use mathlib.Core.Path.{◌≡◌, refl, sym, ap, ◌∙◌, subst}
use mathlib.Core.List.{List}
use mathlib.Core.Bool.{Bool, false}
use mathlib.Core.Logic.{inl, inr}
use native.Mathlib.Omega.{arith}
use native.Mathlib.Nat.{mul-le-mul_right}
use lib.ListN.{length, take}
use lib.Seq.{get_or-take, length-take-le}
use Rattle.subsumption.specs.declared.refusal.Refusal.{Refusal}
use Rattle.subsumption.specs.declared.refusal.Refusal.TheVariants.{BufferTooShort, NoAssignment, AllowanceSpent}
use Rattle.subsumption.specs.Tables.{Tables}
use Rattle.subsumption.specs.Atoms.{atoms, bit}
use Rattle.subsumption.specs.Check.{table_fault, buffer_fault}
use Rattle.subsumption.specs.Refusal.{Reply, reply_done, reply_refused, Outcome, Done}
use Rattle.subsumption.specs.Inner.Listing.{Accepted}
use Rattle.subsumption.proofs.Refusals.{stops, goes_on, done-le, refused-lt}
use Rattle.subsumption.proofs.Accepted.{well_formed}
use Rattle.settings.specs.Settings.{Settings, settings_fault}
use Rattle.settings.specs.Inner.Check.{Loaded}
use Rattle.settings.proofs.SettingsLaws.{settings-long}
use Rattle.matching.specs.Within.{within_fault, FirstWithin}
use Rattle.matching.specs.Inner.Search.Problem.{Problem}
use Rattle.matching.specs.Inner.Within.{Counting, Asking, Copied}
use Rattle.matching.proofs.SearchLaws.Problem.{problem-kept}
use Rattle.matching.proofs.SearchLaws.Fronts.{below-bits, front-known, accept}
use Rattle.matching.proofs.FindLaws.{all_asked}
use Rattle.matching.proofs.SubstitutionLaws.Locality.{none-by-substitution}
use Rattle.matching.proofs.WithinLaws.{asked-bit, written-front, written-most, heeds-all, front-copied, rest-kept}
use Rattle.allowance.specs.Partial.{Completed}
use Rattle.allowance.specs.declared.walk.Ending.{Ending}
use Rattle.allowance.specs.declared.walk.Ending.TheVariants.{Found, Spent, Absent}
use Rattle.allowance.specs.Count.{CountOf, Exceeds, answered, unanswered}
use Rattle.allowance.specs.Find.{reply_counted, FindsCountedAfter, FindsCounted}
use Rattle.allowance.specs.Inner.Place.{At}
use Rattle.allowance.specs.Inner.Walk.{Lent, WalkedTo}
use Rattle.allowance.specs.Inner.Find.{FirstCounted, NoneCounted, WalkedBy}
use Rattle.allowance.proofs.FindLaws.{first-within, none_within}

-- ---- what the walk is lent
module _ (t : Tables) (ids : List ℕ) (a : Accepted t ids) where
  pub ids-few : length ids ≤ 64
  ids-few = omega (arith, ap length a.listed, (well_formed t a.passed).few-atoms)

  pub pairs-few : t.variables * length ids ≤ 8 * length ids
  pairs-few = mul-le-mul_right {m = t.variables} {n = 8} (length ids) (well_formed t a.passed).few-variables

pub lent :
    (t : Tables) (s : Settings) (ids sets before counted problem permitted : List ℕ) → Accepted t ids → settings_fault t s ≡ Done → Problem t sets before
    → Counting s.largest before counted → Asking 18446744073709551615 counted problem → Loaded s.permitted permitted
    → Lent t s sets problem permitted (length ids)
lent t s ids sets before counted problem permitted a ok c counting asking loaded =
    record {
      problem-of = problem-kept before problem (written-front s.largest before counted problem _ counting asking) t sets c;
      all_asked = λ m l. (asked-bit _ counted problem asking m (omega (arith, (well_formed t a.passed).few-questions))).1 (all_asked t a.passed m l);
      set = ok;
      loaded = loaded;
      counts =
          λ k l.
          written-most s.largest before counted problem _ counting asking k (omega (arith, (settings-long t s ok).1))
          (omega (arith, (well_formed t a.passed).few-variables));
      many = sym (ap length a.listed);
    }

-- the words of a partial choice, the unsettled atoms left out, are an assignment
low-completed :
    (t : Tables) (permitted low high : List ℕ) (p : List Bool) → table_fault t ≡ Done → At t.variables (length (atoms t)) permitted low high p
    → Completed t p (λ k q. false) (take t.variables low)
low-completed t permitted low high p h w =
    record {
      accepted =
          accept t _ (length-take-le _ low (omega (arith, w.low-long, (well_formed t h).few-variables)))
          (λ k l. below-bits _ _ (λ q e. (w.low-known k q (front-known t.variables low k q e).1).1));
      taken = λ k q l m. ap (λ (z : ℕ). bit z q) (get_or-take _ low k 0 l) ∙ w.low-taken k q l m;
    }

module _ (t : Tables) (s : Settings) (sets problem permitted : List ℕ) (count allowance : ℕ) (lends : Lent t s sets problem permitted count) where
  pub walked_by :
      (ending : Ending) (met : ℕ) → WalkedTo t s permitted count allowance ending met → WalkedBy t s allowance ending met
  walked_by (Found choice) met (f, e) =
      record {
        long = f.words.low-long;
        first =
            first-within t s f.before f.s f.first _
            (low-completed t permitted choice f.high f.s lends.problem-of.passed
            (subst (λ (z : ℕ). At t.variables z permitted choice f.high f.s) (sym lends.many) f.words));
        counted = subst (CountOf t s) (sym f.counted) (answered f.before f.s f.first);
        enough = e;
      }
  walked_by Spent met x = x
  walked_by Absent met (x, e) =
      record { none = λ other a h y. none_within t s other a h y met x; counted = unanswered met x; enough = e }

-- ---- the answer
module _ (t : Tables) (s : Settings) (allowance : ℕ) (before : List ℕ) (r : Refusal) (reply : Reply) (is : reply ≡ reply_refused r) where
  refuses : Err r ≡ within_fault t s (length before) → FindsCounted t s allowance before before reply
  refuses e = subst (λ (f : Outcome). FindsCountedAfter f t s allowance before before reply) e (is, refl)

  pub tables-refuse : Err r ≡ table_fault t → FindsCounted t s allowance before before reply
  unfolding within_fault
  tables-refuse e = refuses (stops (Err r) _ _ r e refl)

  pub settings-refuse : table_fault t ≡ Done → Err r ≡ settings_fault t s → FindsCounted t s allowance before before reply
  unfolding within_fault
  settings-refuse h e = refuses (goes_on Done _ _ _ (sym h) refl (stops (Err r) _ _ r e refl))

pub buffer-refuses :
    (t : Tables) (s : Settings) (allowance : ℕ) (before : List ℕ) (reply : Reply) → reply ≡ reply_refused (BufferTooShort t.variables) → table_fault t ≡ Done
    → settings_fault t s ≡ Done → length before < t.variables → FindsCounted t s allowance before before reply
unfolding within_fault buffer_fault
buffer-refuses t s allowance before reply is h g l =
    refuses t s allowance before _ reply is
    (goes_on Done _ _ _ (sym h) refl (goes_on Done _ _ _ (sym g) refl (refused-lt (length before) t.variables _ l)))

module _ (t : Tables) (s : Settings) (allowance : ℕ) (before : List ℕ) (ok : table_fault t ≡ Done) (set : settings_fault t s ≡ Done) (room : t.variables ≤ length before)
    (met : ℕ) where
  passed : Done ≡ within_fault t s (length before)
  unfolding within_fault buffer_fault
  passed = goes_on Done _ _ Done (sym ok) refl (goes_on Done _ _ Done (sym set) refl (done-le (length before) t.variables _ room))

  pub counted-filled :
      (choice after : List ℕ) → FirstCounted t s allowance choice met → Copied t.variables choice before after
      → FindsCounted t s allowance before after (reply_done met)
  counted-filled choice after f c =
      subst (λ (z : Outcome). FindsCountedAfter z t s allowance before after (reply_done met)) passed
      (inl (
        refl,
        (
          record {
            size = c.size;
            first = subst (FirstWithin t s) (sym (front-copied t choice before after c f.long (well_formed t ok).few-variables room)) f.first;
            rest = rest-kept t choice before after c;
          },
          record { counted = f.counted; enough = f.enough },
        ),
      ))

  pub counted-spent : Exceeds t s allowance × (met ≡ allowance)
      → FindsCounted t s allowance before before (reply_counted AllowanceSpent met)
  counted-spent x =
      subst (λ (z : Outcome). FindsCountedAfter z t s allowance before before (reply_counted AllowanceSpent met)) passed
      (inr (inr (ap (reply_counted AllowanceSpent) x.1, record { over = x.0; kept = refl })))

  pub counted_none : NoneCounted t s allowance met → FindsCounted t s allowance before before (reply_counted NoAssignment met)
  counted_none x =
      subst (λ (z : Outcome). FindsCountedAfter z t s allowance before before (reply_counted NoAssignment met)) passed
      (inr (inl (
        refl,
        (
          record {
            none = x.none;
            by-substitution = λ u. none-by-substitution t ok (λ other a y. x.none other a (heeds-all t s u other a) y);
            kept = refl;
          },
          record { counted = x.counted; enough = x.enough },
        ),
      )))
