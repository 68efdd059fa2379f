-- The groups' assignments put together are the assignment of the whole, and there is none of the whole exactly where a group has none.
use Prim.Native.Nat.{ℕ, zero, suc, ◌<◌, ◌≤◌}
use mathlib.Core.Path.{◌≡◌, refl, sym, ap, ◌∙◌, subst}
use mathlib.Core.List.{List, []}
use mathlib.Core.Bool.{Bool, true, false, true≢false}
use mathlib.Core.Logic.{◌⊎◌, inl, inr, ⊎_elim, ◌↔◌}
use native.Mathlib.Omega.{arith}
use lib.ListN.{length, get_or, take}
use Rattle.subsumption.specs.declared.refusal.Refusal.TheVariants.{NoAssignment}
use Rattle.subsumption.specs.Tables.{Tables, pairs_of}
use Rattle.subsumption.specs.Atoms.{bit}
use Rattle.subsumption.specs.Refusal.{Reply, reply_done, reply_refused, Outcome, Done}
use Rattle.subsumption.specs.Check.{table_fault, assignment_fault, buffer_fault}
use Rattle.subsumption.proofs.Bools.{le-or-lt, last-cases, same_bool}
use Rattle.subsumption.proofs.Bits.{bit-of-zero, bit_or_left, bit_or_right, bit-or-cases}
use Rattle.subsumption.proofs.Refusals.{goes_on, done-le}
use Rattle.settings.specs.Settings.{Settings, Heeds, size}
use Rattle.settings.proofs.SizeLaws.{size-le, size-zero}
use Rattle.matching.specs.Solving.{takes, Solves, Earlier}
use Rattle.matching.specs.Within.{within_fault, FirstWithin, FilledWithin, FindsWithinAfter}
use Rattle.matching.specs.Among.{FirstAmong, NoneAmong}
use Rattle.matching.proofs.EarlierLaws.{never_both, one-first}
use Rattle.matching.proofs.SearchLaws.Choices.{same_bits}
use Rattle.matching.proofs.SearchLaws.Fronts.{below-bits, accepted-bits, accept}
use Rattle.groups.specs.Group.{holds, InGroup, Outside}
use Rattle.groups.specs.Find.{FilledGroup, FindsGroupAfter}
use Rattle.groups.specs.Together.{choice_of, together, Answers}
use Rattle.groups.proofs.GroupLaws.{HeldIn, in-group-self, in-group-symmetric, in-group-transitive, held-or-outside}
use Rattle.groups.proofs.AgreementLaws.{holds_agree}
use Rattle.groups.proofs.RestrictedLaws.{numbers-long, numbers-at, numbers-past, restricted, restricted-same, restricted-empty, restricted-within, restricted-accepted, restricted-heeds, restricted-solves}
use Rattle.groups.proofs.FindLaws.{first-among-same, first-outside-empty, group-checks}
use Rattle.groups.proofs.OrderLaws.{first-place, same-or-earlier}

-- ---- what is put together takes what one of the parts takes
module _ (part : ℕ → List ℕ) (k q : ℕ) where
  choice-takes : (n count : ℕ) → n < count → takes (part n) k q ≡ true → bit (choice_of part k count) q ≡ true
  unfolding choice_of
  choice-takes n zero l e = absurd (omega arith)
  choice-takes n (suc count) l e =
      ⊎_elim (λ (i : n ≡ count). bit_or_right (choice_of part k count) _ q (subst (λ (z : ℕ). takes (part z) k q ≡ true) i e))
      (λ m. bit_or_left (choice_of part k count) _ q (choice-takes n count m e)) (last-cases n count l)

  choice-taken : (count : ℕ) → bit (choice_of part k count) q ≡ true → (n : ℕ) × (n < count) × (takes (part n) k q ≡ true)
  unfolding choice_of
  choice-taken zero e = absurd (bit-of-zero q e)
  choice-taken (suc count) e =
      ⊎_elim (λ f. let (n, l, x) = choice-taken count f in (n, omega arith, x)) (λ f. (count, omega arith, f)) (bit-or-cases _ _ q e)

  module _ (t : Tables) where
    together-takes : (n : ℕ) → n < pairs_of t.questions → k < t.variables → takes (part n) k q ≡ true → takes (together t part) k q ≡ true
    unfolding together
    together-takes n l v e = subst (λ (z : ℕ). bit z q ≡ true) (sym (numbers-at _ t.variables k v)) (choice-takes n _ l e)

    together-taken : takes (together t part) k q ≡ true → (n : ℕ) × (n < pairs_of t.questions) × (takes (part n) k q ≡ true)
    unfolding together
    together-taken e =
        ⊎_elim (λ (l : t.variables ≤ k). absurd (bit-of-zero q (subst (λ (z : ℕ). bit z q ≡ true) (numbers-past _ t.variables k l) e)))
        (λ l. choice-taken _ (subst (λ (z : ℕ). bit z q ≡ true) (numbers-at _ t.variables k l) e)) (le-or-lt t.variables k)

-- ---- whether a question of m's group holds the variable
abbrev is_held : {t : Tables} {m k : ℕ} → HeldIn t m k ⊎ Outside t m k → Bool
is_held (inl x) = true
is_held (inr x) = false

is-held :
    (t : Tables) (m k : ℕ) (d : HeldIn t m k ⊎ Outside t m k) (n : ℕ) → n < pairs_of t.questions → InGroup t m n → holds t n k ≡ true → is_held d ≡ true
is-held t m k (inl x) n l u e = refl
is-held t m k (inr x) n l u e = absurd (true≢false (sym e ∙ x n l u))

not-that : (b : Bool) → (b ≡ true → ⊥) → b ≡ false
not-that true h = absurd (h refl)
not-that false h = refl

-- no assignment of a group, none of the whole
pub none-of-group :
    (t : Tables) (s : Settings) (m : ℕ) → NoneAmong (InGroup t m) t s → (other : List ℕ) → assignment_fault t other ≡ Done → Heeds s other
    → Solves t other → ⊥
none-of-group t s m none other a h x = none other a h (λ n l u. x n l)

-- ---- the answers
not_done : (reply : Reply) {A : Type 0} → reply ≡ reply_done 0 → reply ≡ reply_refused NoAssignment → A
not_done reply e f = absurd (omega (arith, ap (λ (z : Reply). z.number) e, ap (λ (z : Reply). z.number) f))

module _ (t : Tables) (s : Settings) (before after : List ℕ) (reply : Reply) (befores afters : ℕ → List ℕ) (replies : ℕ → Reply)
    (x : Answers t s before after reply befores afters replies) where
  passed : (size : ℕ) → t.variables ≤ size → within_fault t s size ≡ Done
  unfolding within_fault buffer_fault
  passed size l = sym (goes_on Done _ _ Done (sym x.tables) refl (goes_on Done _ _ Done (sym x.settings) refl (done-le size t.variables _ l)))

  whole-answer : FindsWithinAfter Done t s before after reply
  whole-answer = subst (λ (o : Outcome). FindsWithinAfter o t s before after reply) (passed (length before) x.room) x.whole

  group-answer : (m : ℕ) → m < pairs_of t.questions → FindsGroupAfter Done t s m (befores m) (afters m) (replies m)
  group-answer m l =
      subst (λ (o : Outcome). FindsGroupAfter o t s m (befores m) (afters m) (replies m))
      (sym (group-checks t s m (length (befores m)) x.tables l) ∙ passed (length (befores m)) (x.rooms m l)) (x.groups m l)

  -- a group's refusal 10 is one of the whole
  refused-of-group : (m : ℕ) → m < pairs_of t.questions → replies m ≡ reply_refused NoAssignment → reply ≡ reply_refused NoAssignment
  refused-of-group m l e =
      ⊎_elim (λ (y : (replies m ≡ reply_done 0) × FilledGroup t s m (befores m) (afters m)). not_done (replies m) y.0 e)
      (λ y.
      ⊎_elim
      (λ (z : (reply ≡ reply_done 0) × FilledWithin t s before after).
      absurd (none-of-group t s m y.1.none _ z.1.first.accepted z.1.first.heeds z.1.first.solves))
      (λ z. z.0) whole-answer)
      (group-answer m l)

-- ---- what follows from the laws of groups
module _ (t : Tables) (ok : table_fault t ≡ Done) (s : Settings) where
  -- groups that hold one variable are one
  held-joins : (m n k : ℕ) → HeldIn t m k → HeldIn t n k → InGroup t m n
  held-joins m n k x y =
      in-group-transitive t m x.question n x.known x.grouped
      (in-group-transitive t x.question y.question n y.known
      (inl (record { others = []; chain = record { variable = k; first = x.held; second = y.held } }))
      (in-group-symmetric t n y.question y.grouped))

  module _ (part : ℕ → List ℕ) (firsts : (m : ℕ) → m < pairs_of t.questions → FirstAmong (InGroup t m) t s (part m)) where
    part_same : (m n : ℕ) → m < pairs_of t.questions → n < pairs_of t.questions → InGroup t m n → part n ≡ part m
    part_same m n l u x =
        let f : FirstAmong (InGroup t m) t s (part m) = firsts m l in
        let g : FirstAmong (InGroup t m) t s (part n) =
        first-among-same t s (InGroup t n) (InGroup t m)
        (λ o v. (λ y. in-group-transitive t m n o u x y, λ y. in-group-transitive t n m o l (in-group-symmetric t m n x) y)) (part n) (firsts n u) in
        one-first (part n) (part m) (g.first _ f.accepted f.heeds f.solves) (f.first _ g.accepted g.heeds g.solves)

    empty-outside : (m k q : ℕ) (l : m < pairs_of t.questions) → Outside t m k → takes (part m) k q ≡ true → ⊥
    empty-outside m k q l o e = bit-of-zero q (subst (λ (z : ℕ). bit z q ≡ true) (first-outside-empty t s m (part m) (firsts m l) k o) e)

    -- the whole is as the group's part at the variables that the group holds
    held-choice : (m k : ℕ) → m < pairs_of t.questions → HeldIn t m k → get_or (together t part) k 0 ≡ get_or (part m) k 0
    held-choice m k l x = same_bits _ _ (λ q. same_bool _ _ (there q) (back q))
      where
        there : (q : ℕ) → takes (together t part) k q ≡ true → takes (part m) k q ≡ true
        there q e =
            let (n, u, f) = together-taken part k q t e in
            ⊎_elim (λ (y : HeldIn t n k). subst (λ (z : List ℕ). takes z k q ≡ true) (part_same m n l u (held-joins m n k x y)) f)
            (λ o. absurd (empty-outside n k q u o f)) (held-or-outside t ok n k u)

        back : (q : ℕ) → takes (part m) k q ≡ true → takes (together t part) k q ≡ true
        back q e = together-takes part k q t m l (accepted-bits t (part m) (firsts m l).accepted k q e).0 e

    whole-accepted : assignment_fault t (together t part) ≡ Done
    unfolding together
    whole-accepted =
        accept t _ (numbers-long _ t.variables)
        (λ k l.
        below-bits _ _
        (λ q e. let (n, u, f) = together-taken part k q t e in (accepted-bits t (part n) (firsts n u).accepted k q f).1))

    whole-few : (k : ℕ) → size (get_or (together t part) k 0) ≤ get_or s.largest k 0
    whole-few k =
        ⊎_elim
        (λ (none : (m : ℕ) → m < pairs_of t.questions → Outside t m k).
        omega (
          arith,
          size-zero,
          size-le (get_or (together t part) k 0) 0
              (λ q e. let (n, u, f) = together-taken part k q t e in absurd (empty-outside n k q u (none n u) f)),
        ))
        (λ p. omega (arith, ap size (held-choice p.place k p.below p.here), (firsts p.place p.below).heeds.few k))
        (first-place _ _ (pairs_of t.questions) (λ m l. ⊎_elim (λ x. inr x) (λ x. inl x) (held-or-outside t ok m k l)))

    whole-heeds : Heeds s (together t part)
    whole-heeds =
        record {
          permitted = λ k q e. let (n, u, f) = together-taken part k q t e in (firsts n u).heeds.permitted k q f;
          few = whole-few;
        }

    whole-solves : Solves t (together t part)
    whole-solves m l =
        holds_agree t m (part m) _ (λ k e. sym (held-choice m k l (record { question = m; known = l; grouped = in-group-self t ok m l; held = e })))
        ((firsts m l).solves m l (in-group-self t ok m l))

    -- another one that came before the whole would, restricted to a group, come before that group's part
    module _ (other : List ℕ) (accepted : assignment_fault t other ≡ Done) (heeds : Heeds s other) (solves : Solves t other)
        (x : Earlier other (together t part)) (m : ℕ) (l : m < pairs_of t.questions) where
      abbrev kept : ℕ → Bool
      kept k = is_held (held-or-outside t ok m k l)

      near : (k q : ℕ) → takes other k q ≡ takes (together t part) k q → takes (restricted kept other) k q ≡ takes (part m) k q
      near k q e = go (held-or-outside t ok m k l) refl
        where
          go : (d : HeldIn t m k ⊎ Outside t m k) → held-or-outside t ok m k l ≡ d → takes (restricted kept other) k q ≡ takes (part m) k q
          go (inl y) f =
              ap (λ (z : ℕ). bit z q) (restricted-same kept other k (ap is_held f)) ∙ e ∙ ap (λ (z : ℕ). bit z q) (held-choice m k l y)
          go (inr y) f =
              ap (λ (z : ℕ). bit z q)
              (restricted-empty kept other k (ap is_held f) ∙ sym (first-outside-empty t s m (part m) (firsts m l) k y))

      never-before : takes (part m) x.variable x.position ≡ true → ⊥
      never-before e =
          ⊎_elim
          (λ (i : restricted kept other ≡ part m).
          true≢false (sym e ∙ ap (λ (z : List ℕ). takes z x.variable x.position) (sym i) ∙ sooner.left_out))
          (never_both _ _ sooner)
          ((firsts m l).first _ (restricted-accepted kept other t accepted) (restricted-heeds kept other s heeds)
          (restricted-solves kept other t (InGroup t m) (λ n k u v f. is-held t m k (held-or-outside t ok m k l) n u v f) (λ n u v. solves n u)))
        where
          sooner : Earlier (restricted kept other) (part m)
          sooner =
              record {
                variable = x.variable;
                position = x.position;
                left_out = not-that _ (λ f. true≢false (sym (restricted-within kept other _ _ f) ∙ x.left_out));
                taken = e;
                same-variables = λ k q u. near k q (x.same-variables k q u);
                same-positions = λ q u. near _ q (x.same-positions q u);
              }

    whole-first : FirstWithin t s (together t part)
    whole-first =
        record {
          accepted = whole-accepted;
          heeds = whole-heeds;
          solves = whole-solves;
          first =
              λ other a h x.
              ⊎_elim (λ e. inl e)
              (λ y.
              ⊎_elim (λ z. inr z)
              (λ z. let (m, l, e) = together-taken part _ _ t z.taken in absurd (never-before other a h x z m l e)) y)
              (same-or-earlier t (together t part) other whole-accepted a);
        }

module _ (t : Tables) (s : Settings) (before after : List ℕ) (reply : Reply) (befores afters : ℕ → List ℕ) (replies : ℕ → Reply)
    (x : Answers t s before after reply befores afters replies) where
  abbrev parts : ℕ → List ℕ
  parts m = take t.variables (afters m)

  every-filled :
      ((m : ℕ) → m < pairs_of t.questions → FirstAmong (InGroup t m) t s (parts m))
      → (reply ≡ reply_done 0) × (take t.variables after ≡ together t parts)
  every-filled firsts =
      let f : FirstWithin t s (together t parts) = whole-first t x.tables s parts firsts in
      ⊎_elim
      (λ (y : (reply ≡ reply_done 0) × FilledWithin t s before after). (
        y.0,
        one-first _ _ (y.1.first.first _ f.accepted f.heeds f.solves)
            (f.first _ y.1.first.accepted y.1.first.heeds y.1.first.solves),
      ))
      (λ y. absurd (y.1.none _ f.accepted f.heeds f.solves))
      (whole-answer t s before after reply befores afters replies x)

  group-cases :
      (m : ℕ) → m < pairs_of t.questions → FirstAmong (InGroup t m) t s (parts m) ⊎ (replies m ≡ reply_refused NoAssignment)
  group-cases m l =
      ⊎_elim (λ (y : (replies m ≡ reply_done 0) × FilledGroup t s m (befores m) (afters m)). inl y.1.filled.first) (λ y. inr y.0)
      (group-answer t s before after reply befores afters replies x m l)

-- The groups' first assignments put together are the first one of the whole.
pub together-first :
    (t : Tables) → table_fault t ≡ Done → (s : Settings) (part : ℕ → List ℕ)
    → ((m : ℕ) → m < pairs_of t.questions → FirstAmong (InGroup t m) t s (part m)) → FirstWithin t s (together t part)
together-first = whole-first

-- The whole is refused with 10 exactly where a group is.
pub none-exactly :
    (t : Tables) (s : Settings) (before after : List ℕ) (reply : Reply) (befores afters : ℕ → List ℕ) (replies : ℕ → Reply)
    → Answers t s before after reply befores afters replies
    → (reply ≡ reply_refused NoAssignment) ↔ ((m : ℕ) × (m < pairs_of t.questions) × (replies m ≡ reply_refused NoAssignment))
none-exactly t s before after reply befores afters replies x = (
  λ e.
      ⊎_elim (λ firsts. not_done reply (every-filled t s before after reply befores afters replies x firsts).0 e) (λ p. (p.place, p.below, p.here))
      (first-place _ _ (pairs_of t.questions) (group-cases t s before after reply befores afters replies x)),
  λ y. refused-of-group t s before after reply befores afters replies x y.0 y.1 y.2,
)

-- Where every group is filled, the whole is, by what they put together.
pub filled-together :
    (t : Tables) (s : Settings) (before after : List ℕ) (reply : Reply) (befores afters : ℕ → List ℕ) (replies : ℕ → Reply)
    → Answers t s before after reply befores afters replies → ((m : ℕ) → m < pairs_of t.questions → replies m ≡ reply_done 0)
    → (reply ≡ reply_done 0) × (take t.variables after ≡ together t (λ m. take t.variables (afters m)))
filled-together t s before after reply befores afters replies x h =
    every-filled t s before after reply befores afters replies x
    (λ m l. ⊎_elim (λ y. y) (λ e. not_done (replies m) (h m l) e) (group-cases t s before after reply befores afters replies x m l))
