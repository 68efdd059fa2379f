-- Rows as records of four numbers: their numbers one behind the other, and how they are read off again.
use Prim.Native.Nat.{ℕ, zero, suc, ◌+◌, ◌*◌, ◌<◌}
use mathlib.Core.Path.{◌≡◌, refl, sym, ap, ◌∙◌, subst}
use mathlib.Core.List.{List, [], ◌∷◌, ◌++◌, Memᴰ}
use native.Mathlib.Omega.{arith}
use lib.ListN.{length, get_or}
use Rattle.countermodel.specs.Rows.{rows_of, at, joined}
use Rattle.countermodel.proofs.JoinedLaws.{joined_in, joined-out}

-- The name or role is `word`; what a link leads to is `last`.
pub record Row : Type 0 where
  pub kind : ℕ
  pub element : ℕ
  pub word : ℕ
  pub last : ℕ

unfoldable pub flat : List Row → List ℕ
flat [] = []
flat (r ∷ rows) = r.kind ∷ r.element ∷ r.word ∷ r.last ∷ flat rows

abbrev pub row_at : List ℕ → ℕ → Row
row_at numbers p = record { kind = at numbers p 0; element = at numbers p 1; word = at numbers p 2; last = at numbers p 3 }

abbrev pub no_row : Row
no_row = record { kind = 0; element = 0; word = 0; last = 0 }

pub flat_append : (a b : List Row) → flat (a ++ b) ≡ flat a ++ flat b
unfolding flat
flat_append [] b = refl
flat_append (r ∷ a) b = rw (flat_append a b) refl

pub flat-joined : (list : ℕ → List Row) (from count : ℕ) → flat (joined list from count) ≡ joined (λ i. flat (list i)) from count
unfolding flat joined
flat-joined list from zero = refl
flat-joined list from (suc count) = flat_append (list from) _ ∙ ap (λ (z : List ℕ). flat (list from) ++ z) (flat-joined list (suc from) count)

pub flat-length : (rows : List Row) → length (flat rows) ≡ length rows * 4
unfolding flat
flat-length [] = refl
flat-length (r ∷ rows) = omega (arith, flat-length rows)

pub flat-count : (rows : List Row) → rows_of (flat rows) ≡ length rows
flat-count rows = omega (arith, flat-length rows)

module _ (r : Row) (rows : List Row) (p : ℕ) where
  later : (k : ℕ) → at (flat (r ∷ rows)) (suc p) k ≡ at (flat rows) p k
  unfolding flat
  later k = let e : suc p * 4 + k ≡ suc (suc (suc (suc (p * 4 + k)))) = omega arith in rw e refl

  next_row : row_at (flat (r ∷ rows)) (suc p) ≡ row_at (flat rows) p
  next_row = λ i. record { kind = later 0 i; element = later 1 i; word = later 2 i; last = later 3 i }

-- the row p read off the numbers is the p-th record
pub flat-at : (rows : List Row) (p : ℕ) → row_at (flat rows) p ≡ get_or rows p no_row
unfolding flat
flat-at [] p = refl
flat-at (r ∷ rows) zero = refl
flat-at (r ∷ rows) (suc p) = next_row r rows p ∙ flat-at rows p

-- a record stands at a place, and what stands at a place is a record
pub get_or-in : (rows : List Row) (p : ℕ) → p < length rows → Memᴰ (get_or rows p no_row) rows
get_or-in [] p l = absurd (omega arith)
get_or-in (r ∷ rows) zero l = Memᴰ.head refl
get_or-in (r ∷ rows) (suc p) l = Memᴰ.tail (get_or-in rows p (omega arith))

pub place-of : {r : Row} {rows : List Row} → Memᴰ r rows → (p : ℕ) × (p < length rows) × (get_or rows p no_row ≡ r)
place-of (Memᴰ.head e) = (0, omega arith, sym e)
place-of (Memᴰ.tail m) = let (p, l, e) = place-of m in (suc p, omega arith, e)

-- What the rows say is what the records say.
module _ {A : Type 0} (says : Row → List A) (rows : List Row) where
  pub said_in : {a : A} {r : Row} → Memᴰ r rows → Memᴰ a (says r) → Memᴰ a (joined (λ p. says (row_at (flat rows) p)) 0 (rows_of (flat rows)))
  said_in {a} m h =
      let (p, l, e) = place-of m in
      joined_in _ 0 _ p (omega arith) (omega (arith, flat-count rows))
      (subst (λ (z : Row). Memᴰ a (says z)) (sym (flat-at rows p ∙ e)) h)

  pub said-out : {a : A} → Memᴰ a (joined (λ p. says (row_at (flat rows) p)) 0 (rows_of (flat rows))) → (r : Row) × Memᴰ r rows × Memᴰ a (says r)
  said-out {a} h =
      let (p, _, l, u) = joined-out _ 0 _ h in (
        get_or rows p no_row,
        get_or-in rows p (omega (arith, flat-count rows)),
        subst (λ (z : Row). Memᴰ a (says z)) (flat-at rows p) u,
      )
