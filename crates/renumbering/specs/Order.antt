-- Lists that give each id its new one (02, A.12), and the checks of such a list.
use Rattle.std.specs.Prelude.{ℕ, zero, suc, List, [], ◌∷◌, Bool, true, false, not, eqb, ltb, length, get_or}
use Rattle.subsumption.specs.declared.refusal.Refusal.TheVariants.{BadOrder}
use Rattle.subsumption.specs.Tables.{or, any_below}
use Rattle.subsumption.specs.Refusal.{or_else, refuse_if, first_at, Outcome}

-- The new id of an id.
abbrev pub new_id : List ℕ → ℕ → ℕ
new_id order i = get_or order i 0

-- The number at place m stood before it.
unfoldable pub stood : List ℕ → ℕ → Bool
stood order m = any_below m (λ n. eqb (new_id order n) (new_id order m))

-- Check 21: the first number that is no id or stood before; where only that is wrong, the length.
unfoldable pub order_fault : ℕ → List ℕ → Outcome
order_fault count order =
    or_else (first_at BadOrder (λ m. or (not (ltb (new_id order m) count)) (stood order m)) 0 (length order))
    (refuse_if (not (eqb (length order) count)) (BadOrder (length order)))

-- The old id of a new one: its place in the list.
unfoldable pub place_of : ℕ → List ℕ → ℕ
place_of k [] = 0
place_of k (x ∷ xs) = after (eqb x k) (place_of k xs)
  where
    after : Bool → ℕ → ℕ
    after true place = 0
    after false place = suc place

-- The places of the numbers from `from` on, of `count`.
unfoldable pub places_of : List ℕ → ℕ → ℕ → List ℕ
places_of order from zero = []
places_of order from (suc count) = place_of from order ∷ places_of order (suc from) count

-- The list that leads back.
unfoldable pub inverse : List ℕ → List ℕ
inverse order = places_of order 0 (length order)

-- Each id of a list is replaced by its new one.
unfoldable pub moved_ids : List ℕ → List ℕ → List ℕ
moved_ids order [] = []
moved_ids order (i ∷ ids) = new_id order i ∷ moved_ids order ids

-- One list after another, as one.
unfoldable pub composed : List ℕ → List ℕ → List ℕ
composed order next = moved_ids next order
