-- The first answer in the order of partial choices is the first assignment within the settings that solves.
use Rattle.subsumption.specs.Refusal.{Done}
use Prim.Native.Nat.{ℕ, suc, ◌+◌, ◌*◌, ◌/◌, ◌%◌, ◌<◌}
use mathlib.Core.Path.{◌≡◌, refl, sym, ap, ◌∙◌, subst}
use mathlib.Core.List.Memᴰ
use mathlib.Core.List.{List, [], ◌∷◌, ◌++◌, Memᴰ}
use mathlib.Core.Bool.{Bool, false}
use mathlib.Core.Logic.{◌⊎◌, inl, inr, ⊎_elim}
use native.Mathlib.Omega.{arith}
use native.Mathlib.Nat.{mul-le-mul_right, suc-mul, div-add-mod'}
use lib.ListN.{length}
use Rattle.subsumption.specs.Tables.{Tables}
use Rattle.subsumption.specs.Atoms.{atoms}
use Rattle.subsumption.specs.Check.{assignment_fault}
use Rattle.subsumption.proofs.Bools.{same_bool}
use Rattle.settings.specs.Settings.{Settings, Heeds}
use Rattle.matching.specs.Solving.{Solves, Earlier, takes}
use Rattle.matching.specs.Within.{FirstWithin}
use Rattle.matching.proofs.SearchLaws.Fronts.{accepted-bits}
use Rattle.allowance.specs.Partial.{pairs, Completed, Open, all_partials}
use Rattle.allowance.specs.Count.{Stretch, none, opened, shut, Answered}
use Rattle.allowance.proofs.PartialLaws.{up_to, up_to-length, taken_at, taken_at-pair, completed-same, read-completed, whole-read, whole-heeds, whole-solves, whole_open}
use Rattle.allowance.proofs.OrderLaws.{Later, whole-listed, placed}

-- no answer stands in a stretch
stretch-whole :
    (t : Tables) (settings : Settings) (xs : List (List Bool)) (n : ℕ) (s : List Bool) → Stretch t settings xs n → Memᴰ s xs → length s ≡ pairs t
    → Open t settings s → ⊥
stretch-whole t settings xs n s none m w o = Memᴰ.not-nil m
stretch-whole t settings xs n s (opened x rest k l u y) m w o =
    ⊎_elim (λ (e : s ≡ x). omega (arith, ap length e)) (λ d. stretch-whole t settings rest k s y d w o) (Memᴰ.cases_cons m)
stretch-whole t settings xs n s (shut x rest k u y) m w o =
    ⊎_elim (λ (e : s ≡ x). u (subst (Open t settings) e o)) (λ d. stretch-whole t settings rest k s y d w o) (Memᴰ.cases_cons m)

-- the whole partial choice that an assignment is
read : Tables → List ℕ → List Bool
read t a = up_to (taken_at a (length (atoms t))) (pairs t)

module _ (t : Tables) (settings : Settings) (other : List ℕ) (accepted : assignment_fault t other ≡ Done) (heeds : Heeds settings other) (solves : Solves t other) where
  read_whole : length (read t other) ≡ pairs t
  unfolding read
  read_whole = up_to-length _ (pairs t)

  read-open : Open t settings (read t other)
  unfolding read
  read-open = whole_open t settings (read t other) read_whole other (read-completed t other accepted) heeds solves

  pub none_within : (n : ℕ) → Stretch t settings (all_partials t) n → ⊥
  unfolding read all_partials up_to
  none_within n x =
      stretch-whole t settings _ n (read t other) x (whole-listed (taken_at other (length (atoms t))) (pairs t) (pairs t) [] (omega arith) refl) read_whole read-open

-- what comes later in the order of pairs comes later in the order of assignments
module _ (t : Tables) (a b : List ℕ) (h : assignment_fault t a ≡ Done) (i : assignment_fault t b ≡ Done)
    (l : Later (taken_at a (length (atoms t))) (taken_at b (length (atoms t)))) where
  same-before : (k q : ℕ) → (q < length (atoms t) → k * length (atoms t) + q < l.at) → takes a k q ≡ takes b k q
  same-before k q f = same_bool _ _ (λ e. sym (same (accepted-bits t a h k q e).1) ∙ e) (λ e. same (accepted-bits t b i k q e).1 ∙ e)
    where
      same : q < length (atoms t) → takes a k q ≡ takes b k q
      same m = sym (taken_at-pair a _ k q m) ∙ l.same _ (f m) ∙ taken_at-pair b _ k q m

  earlier : Earlier a b
  earlier =
      let count = length (atoms t) in
      record {
        variable = l.at / count;
        position = l.at % count;
        left_out = l.left_out;
        taken = l.taken;
        same-variables =
            λ k q m.
            same-before k q (λ n. omega (arith, mul-le-mul_right {m = suc k} {n = l.at / count} count (omega arith), suc-mul k count, div-add-mod' l.at count));
        same-positions = λ q m. same-before (l.at / count) q (λ n. omega (arith, div-add-mod' l.at count));
      }

module _ (t : Tables) (settings : Settings) (n : ℕ) (s : List Bool) (x : Answered t settings n s) (a : List ℕ) (c : Completed t s (λ k q. false) a) where
  first-placed :
      (other : List ℕ) → assignment_fault t other ≡ Done → Heeds settings other → Solves t other → (other ≡ a) ⊎ Earlier a other
  unfolding read all_partials up_to
  first-placed other h i y =
      let is : read t a ≡ s = whole-read t settings s x.whole a c in
      ⊎_elim (λ m. absurd (stretch-whole t settings _ n (read t other) x.stretch m (read_whole t settings other h i y) (read-open t settings other h i y)))
      (λ w.
      ⊎_elim
      (λ e. inl (completed-same t (read t a) _ _ _ (subst (λ (z : List Bool). Completed t z (λ k q. false) other) e (read-completed t other h)) (read-completed t a c.accepted)))
      (λ l. inr (earlier t a other c.accepted h l)) w)
      (placed (taken_at a (length (atoms t))) (taken_at other (length (atoms t))) (pairs t) (pairs t) [] x.before x.after (omega arith) refl refl
      (x.order ∙ ap (λ (z : List Bool). x.before ++ (z ∷ x.after)) (sym is)))

  pub first-within : FirstWithin t settings a
  first-within =
      record {
        accepted = c.accepted;
        heeds = whole-heeds t settings s x.whole a c x.is_open;
        solves = whole-solves t settings s x.whole a c x.is_open;
        first = first-placed;
      }
