-- Assignments that agree on a question's variables agree on the question.
use Prim.Native.Nat.{ℕ}
use mathlib.Core.Path.{◌≡◌, refl, sym, subst}
use mathlib.Core.List.{List, Memᴰ}
use mathlib.Core.Bool.{true}
use lib.ListN.{get_or}
use borrow.Author.Tests.{eq-eqb}
use Rattle.subsumption.specs.Tables.{Tables, left_of, right_of, Concept, top, name, exists, and, var}
use Rattle.subsumption.specs.Atoms.{atoms, pick, chosen}
use Rattle.subsumption.specs.Variables.{stands_in}
use Rattle.subsumption.specs.Subsumption.{Interpretation, Reading, Member, assigned, Subsumed}
use Rattle.subsumption.proofs.Bools.{or-first, or-second}
use Rattle.groups.specs.Group.{holds}

pub member-agree :
    (I : Interpretation) (ρ ρ' : Reading) (c : Concept) → ((k x : ℕ) → stands_in k c ≡ true → ρ k x → ρ' k x) → (x : ℕ) → Member I ρ c x
    → Member I ρ' c x
unfolding stands_in
member-agree I ρ ρ' top reads x h = h
member-agree I ρ ρ' (name n) reads x h = h
member-agree I ρ ρ' (exists r c) reads x (y, l, k, h) = (y, l, k, member-agree I ρ ρ' c reads y h)
member-agree I ρ ρ' (and c d) reads x (h, k) = (
  member-agree I ρ ρ' c (λ j y e. reads j y (or-first _ _ e)) x h,
  member-agree I ρ ρ' d (λ j y e. reads j y (or-second _ _ e)) x k,
)
member-agree I ρ ρ' (var k) reads x h = reads k x (eq-eqb k k refl) h

-- what is chosen for a variable depends on that variable's number alone
assigned-same :
    (t : Tables) (a b : List ℕ) (I : Interpretation) (k x : ℕ) → get_or a k 0 ≡ get_or b k 0 → assigned t a I k x → assigned t b I k x
unfolding chosen
assigned-same t a b I k x e h p m = h p (subst (λ (z : ℕ). Memᴰ p (pick (atoms t) z)) (sym e) m)

pub holds_agree :
    (t : Tables) (m : ℕ) (a b : List ℕ) → ((k : ℕ) → holds t m k ≡ true → get_or a k 0 ≡ get_or b k 0)
    → Subsumed t a (left_of t.questions m) (right_of t.questions m) → Subsumed t b (left_of t.questions m) (right_of t.questions m)
unfolding holds
holds_agree t m a b same h I obeys x l u =
    member-agree I _ _ _ (λ k y e. assigned-same t a b I k y (same k (or-second _ _ e))) x
    (h I obeys x l (member-agree I _ _ _ (λ k y e. assigned-same t b a I k y (sym (same k (or-first _ _ e)))) x u))
