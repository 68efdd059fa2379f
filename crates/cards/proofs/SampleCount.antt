-- The sample problem's count of decisions (02, A.4): it is four, and an allowance of three is spent.
use Rattle.subsumption.specs.Refusal.{Done}
use Prim.Native.Nat.{ℕ, ◌*◌}
use mathlib.Core.Path.{◌≡◌, refl, sym, ap, ◌∙◌, subst}
use mathlib.Core.List.Memᴰ
use mathlib.Core.List.{List, [], ◌∷◌, ◌++◌}
use mathlib.Core.Bool.{Bool, true, false}
use native.Mathlib.Omega.{arith}
use lib.ListN.{length, get_or}
use Rattle.subsumption.specs.Tables.{both}
use Rattle.subsumption.specs.Atoms.{bit}
use Rattle.subsumption.specs.Check.{assignment_fault}
use Rattle.settings.specs.Settings.{Unrestricted}
use Rattle.matching.proofs.WithinLaws.{heeds-all}
use Rattle.allowance.specs.Partial.{pairs, Completed, Open, partials, all_partials}
use Rattle.allowance.specs.Count.{Stretch, none, opened, shut, CountOf, answered, Exceeds}
use Rattle.allowance.proofs.PartialLaws.{up_to, taken_at, read-completed, whole-solves, whole_open, open-back}
use Rattle.cards.specs.Samples.{Holds, card, D, G, H, not_below, parts, filling, house, questions, cards, free}
use Rattle.cards.proofs.SampleLaws.{all_below, all_below-at}
use Rattle.cards.proofs.SampleCards.{every-card}

card-d : Holds (card D (house questions) (not_below (0 ∷ []) 5 3))
unfolding cards
card-d = every-card _ (Memᴰ.tail (Memᴰ.tail (Memᴰ.tail (Memᴰ.head refl))))

pub card-g : Holds (card G (house questions) (parts (0 ∷ 2 ∷ 3 ∷ [])))
unfolding cards
card-g = every-card _ (Memᴰ.tail (Memᴰ.tail (Memᴰ.tail (Memᴰ.tail (Memᴰ.tail (Memᴰ.tail (Memᴰ.head refl)))))))

pub card-h : Holds (card H (house questions) (filling (4 ∷ [])))
unfolding cards
card-h = every-card _ (Memᴰ.tail (Memᴰ.tail (Memᴰ.tail (Memᴰ.tail (Memᴰ.tail (Memᴰ.tail (Memᴰ.tail (Memᴰ.head refl))))))))

three : pairs (house questions) ≡ 3
unfolding house
three = ap (λ (z : List ℕ). 1 * length z) card-g.1

pub unrestricted : Unrestricted (house questions) free
unfolding house all_below both bit
unrestricted =
    record {
      all =
          λ k q l m.
          let e : k ≡ 0 = omega arith in
          subst (λ (z : ℕ). bit (get_or (7 ∷ []) z 0) q ≡ true) (sym e) (all_below-at 3 (λ p. bit 7 p) refl q (omega (arith, ap length card-g.1)));
      most = λ k l. let e : k ≡ 0 = omega arith in ap (λ (z : ℕ). get_or (64 ∷ []) z 0) e;
    }

-- the whole partial choice of an assignment
whole : (c : ℕ) (s : List Bool) → up_to (taken_at (c ∷ []) 3) 3 ≡ s → assignment_fault (house questions) (c ∷ []) ≡ Done → Completed (house questions) s (λ k q. false) (c ∷ [])
unfolding house
whole c s e h =
    subst (λ (z : List Bool). Completed (house questions) z (λ k q. false) (c ∷ []))
    (ap (λ (z : List ℕ). up_to (taken_at (c ∷ []) (length z)) (1 * length z)) card-g.1 ∙ e) (read-completed (house questions) (c ∷ []) h)

-- the answer takes id 3; leaving it out as well solves nothing
open-answer : Open (house questions) free (true ∷ false ∷ false ∷ [])
unfolding up_to bit
open-answer =
    whole_open (house questions) free _ (sym three) (4 ∷ []) (whole 4 _ refl card-h.1.accepted)
    (heeds-all (house questions) free unrestricted (4 ∷ []) card-h.1.accepted) card-h.1.solves

shut_none : Open (house questions) free (false ∷ false ∷ false ∷ []) → ⊥
unfolding up_to bit house questions
shut_none o =
    card-d.1.1 (whole-solves (house questions) free _ (sym three) (0 ∷ []) (whole 0 _ refl card-d.1.0) o 0 (omega arith))

open-two : Open (house questions) free (false ∷ false ∷ [])
open-two = open-back (house questions) free true _ open-answer card-h.0

open-one : Open (house questions) free (false ∷ [])
open-one = open-back (house questions) free false _ open-two card-h.0

open-start : Open (house questions) free []
open-start = open-back (house questions) free false _ open-one card-h.0

before : List (List Bool)
before = [] ∷ (false ∷ []) ∷ (false ∷ false ∷ []) ∷ (false ∷ false ∷ false ∷ []) ∷ []

after : List (List Bool)
after = partials 1 (true ∷ false ∷ []) ++ partials 2 (true ∷ [])

in_order : all_partials (house questions) ≡ before ++ ((true ∷ false ∷ false ∷ []) ∷ after)
unfolding all_partials partials before after
in_order = ap (λ (z : ℕ). partials z []) three

stretch : Stretch (house questions) free before 3
unfolding before
stretch =
    opened [] _ 2 (omega (arith, three)) open-start
    (opened (false ∷ []) _ 1 (omega (arith, three)) open-one
    (opened (false ∷ false ∷ []) _ 0 (omega (arith, three)) open-two (shut (false ∷ false ∷ false ∷ []) [] 0 shut_none none)))

pub sample-count : CountOf (house questions) free 4
sample-count =
    answered 3 _
    (record { before = before; after = after; order = in_order; stretch = stretch; whole = sym three; is_open = open-answer })

pub sample-spent : Exceeds (house questions) free 3
sample-spent =
    record { before = before; here = _; after = after; order = in_order; stretch = stretch; is_open = open-answer }
