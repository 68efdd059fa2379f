-- What is chosen, by place: the elements at whose place the choice has a one.
use Prim.Native.Nat.{ℕ, ◌<◌}
use mathlib.Core.Path.{◌≡◌, refl}
use mathlib.Core.List.{List, Memᴰ}
use mathlib.Core.Bool.{true}
use lib.ListN.{length, get_or}
use Rattle.subsumption.specs.Atoms.{bit, pick}
use Rattle.subsumption.proofs.Chosen.{pick-member, pick_intro}

-- p is chosen at a place below n
pub record ChosenBelow (n : ℕ) (xs : List ℕ) (choice p : ℕ) : Type 0 where
  pub place : ℕ
  pub before : place < n
  pub picked : bit choice place ≡ true
  pub found : get_or xs place 0 ≡ p

pub picked-at : (xs : List ℕ) (choice q : ℕ) → q < length xs → bit choice q ≡ true → Memᴰ (get_or xs q 0) (pick xs choice)
picked-at xs choice q h e = pick_intro xs choice (get_or xs q 0) (record { place = q; known = h; chosen = e; here = refl })

pub at-picked : (xs : List ℕ) (choice p : ℕ) → Memᴰ p (pick xs choice) → ChosenBelow (length xs) xs choice p
at-picked xs choice p m =
    let k = pick-member xs choice p m in
    record { place = k.place; before = k.known; picked = k.chosen; found = k.here }
