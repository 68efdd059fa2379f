-- The shown rows are rising and free of repeats.
use Prim.Native.Nat.{ℕ, zero, suc, ◌<◌}
use mathlib.Core.Path.{◌≡◌, refl, sym, subst, subst₂}
use mathlib.Core.List.Memᴰ
use mathlib.Core.List.{List, [], ◌∷◌, ◌++◌, map, Memᴰ}
use mathlib.Core.Bool.{Bool, true, false}
use mathlib.Core.Logic.{⊎_elim}
use native.Mathlib.Omega.{arith}
use lib.ListN.{length, get_or}
use Rattle.subsumption.specs.Tables.{count_of}
use Rattle.subsumption.specs.Atoms.{keep}
use Rattle.subsumption.proofs.Keep.{keep-member}
use Rattle.countermodel.specs.Rows.{at, joined}
use Rattle.countermodel.specs.Countermodel.{names_at, links_at, shown_rows}
use Rattle.countermodel.specs.Order.{Before, Rising}
use Rattle.countermodel.proofs.JoinedLaws.{joined-out}
use Rattle.countermodel.proofs.FlatLaws.{Row, flat, row_at, no_row, flat-count, flat-at, get_or-in}
use Rattle.countermodel.proofs.ShownLaws.{name_row, link_row, shown_names, links_of, shown_links, shown, shown-flat, names-out, links-out}

abbrev number : Row → ℕ → ℕ
number r zero = r.kind
number r (suc zero) = r.element
number r (suc (suc zero)) = r.word
number r (suc (suc (suc k))) = r.last

-- `Before` of two rows as records
abbrev Lower : Row → Row → Type 0
Lower a b = (k : ℕ) × (k < 4) × ((l : ℕ) → l < k → number a l ≡ number b l) × (number a k < number b k)

abbrev row : ℕ → ℕ → ℕ → ℕ → Row
row c i m x = record { kind = c; element = i; word = m; last = x }

lower-kind : (a b : Row) → a.kind < b.kind → Lower a b
lower-kind a b h = (0, omega arith, λ l u. absurd (omega arith), h)

lower-element : (c i j m n x y : ℕ) → i < j → Lower (row c i m x) (row c j n y)
lower-element c i j m n x y h = (1, omega arith, agree, h)
  where
    agree : (l : ℕ) → l < 1 → number (row c i m x) l ≡ number (row c j n y) l
    agree zero u = refl
    agree (suc l) u = absurd (omega arith)

lower_word : (c i m n x y : ℕ) → m < n → Lower (row c i m x) (row c i n y)
lower_word c i m n x y h = (2, omega arith, agree, h)
  where
    agree : (l : ℕ) → l < 2 → number (row c i m x) l ≡ number (row c i n y) l
    agree zero u = refl
    agree (suc zero) u = refl
    agree (suc (suc l)) u = absurd (omega arith)

lower_last : (c i m x y : ℕ) → x < y → Lower (row c i m x) (row c i m y)
lower_last c i m x y h = (3, omega arith, agree, h)
  where
    agree : (l : ℕ) → l < 3 → number (row c i m x) l ≡ number (row c i m y) l
    agree zero u = refl
    agree (suc zero) u = refl
    agree (suc (suc zero)) u = refl
    agree (suc (suc (suc l))) u = absurd (omega arith)

number_at : (rows : List ℕ) (p k : ℕ) → k < 4 → number (row_at rows p) k ≡ at rows p k
number_at rows p zero l = refl
number_at rows p (suc zero) l = refl
number_at rows p (suc (suc zero)) l = refl
number_at rows p (suc (suc (suc zero))) l = refl
number_at rows p (suc (suc (suc (suc k)))) l = absurd (omega arith)

lower-before : (rows : List ℕ) (p q : ℕ) → Lower (row_at rows p) (row_at rows q) → Before rows p q
lower-before rows p q (k, l, same, less) = (
  k,
  l,
  λ m u. cc (number_at rows p m (omega arith), number_at rows q m (omega arith), same m u),
  omega (arith, number_at rows p k l, number_at rows q k l, less),
)

-- each row is lower than every later one
abbrev Sorted : List Row → Type 0
Sorted [] = Unit {0}
Sorted (a ∷ rows) = ((b : Row) → Memᴰ b rows → Lower a b) × Sorted rows

sorted-at : (rows : List Row) → Sorted rows → (p q : ℕ) → p < q → q < length rows → Lower (get_or rows p no_row) (get_or rows q no_row)
sorted-at [] s p q l k = absurd (omega arith)
sorted-at (a ∷ rows) s zero zero l k = absurd (omega arith)
sorted-at (a ∷ rows) s zero (suc q) l k = s.0 _ (get_or-in rows q (omega arith))
sorted-at (a ∷ rows) s (suc p) zero l k = absurd (omega arith)
sorted-at (a ∷ rows) s (suc p) (suc q) l k = sorted-at rows s.1 p q (omega arith) (omega arith)

sorted-rising : (rows : List Row) → Sorted rows → Rising (flat rows)
sorted-rising rows s p q l k =
    lower-before (flat rows) p q
    (subst₂ Lower (sym (flat-at rows p)) (sym (flat-at rows q)) (sorted-at rows s p q l (omega (arith, flat-count rows))))

sorted-append : (xs ys : List Row) → Sorted xs → Sorted ys → ((a b : Row) → Memᴰ a xs → Memᴰ b ys → Lower a b) → Sorted (xs ++ ys)
sorted-append [] ys s u less = u
sorted-append (a ∷ xs) ys s u less = (
  λ b m. ⊎_elim (λ k. s.0 b k) (λ k. less a b (Memᴰ.head refl) k) (Memᴰ.append_cases xs m),
  sorted-append xs ys s.1 u (λ c b m k. less c b (Memᴰ.tail m) k),
)

sorted-joined :
    (list : ℕ → List Row) → ((i : ℕ) → Sorted (list i)) → ((i j : ℕ) → i < j → (a b : Row) → Memᴰ a (list i) → Memᴰ b (list j) → Lower a b)
    → (from count : ℕ) → Sorted (joined list from count)
unfolding joined
sorted-joined list each less from zero = tt
sorted-joined list each less from (suc count) =
    sorted-append (list from) _ (each from) (sorted-joined list each less (suc from) count)
    (λ a b m k. let (j, l, _, u) = joined-out list (suc from) count k in less from j l a b m u)

-- rows made of kept numbers
sorted-kept :
    (entry : ℕ → Row) → ((m n : ℕ) → m < n → Lower (entry m) (entry n)) → (test : ℕ → Bool) (from count : ℕ) → Sorted (map entry (keep test from count))
unfolding keep
sorted-kept entry less test from zero = tt
sorted-kept entry less test from (suc count) = go (sorted-kept entry less test (suc from) count) (test from) refl
  where
    go : Sorted (map entry (keep test (suc from) count)) → (v : Bool) → test from ≡ v → Sorted (map entry (keep test from (suc count)))
    go s true e =
        rw e (
          λ b m.
              let (n, k, f) = Memᴰ.of_map entry _ m in
              subst (Lower (entry from)) f (less from n (keep-member test (suc from) count n k).low),
          s,
        )
    go s false e = rw e s

-- between two lists of rows made of numbers
lower-maps :
    (f g : ℕ → Row) (xs ys : List ℕ) → ((x y : ℕ) → Lower (f x) (g y)) → (a b : Row) → Memᴰ a (map f xs) → Memᴰ b (map g ys) → Lower a b
lower-maps f g xs ys less a b m k =
    let (x, _, p) = Memᴰ.of_map f xs m in
    let (y, _, q) = Memᴰ.of_map g ys k in
    subst₂ Lower p q (less x y)

module _ (concepts roles : List ℕ) (marks : ℕ → ℕ → Bool) where
  names-sorted : Sorted (shown_names concepts roles marks)
  unfolding shown_names names_at
  names-sorted =
      sorted-joined _ (λ i. sorted-kept (name_row i) (λ m n l. lower_word 0 i m n 0 0 l) _ 0 1000)
      (λ i j l. lower-maps (name_row i) (name_row j) (names_at concepts marks i) (names_at concepts marks j) (λ m n. lower-element 0 i j m n 0 0 l))
      0 (count_of concepts)

  links-sorted : (i : ℕ) → Sorted (links_of concepts roles marks i)
  unfolding links_of links_at
  links-sorted i =
      sorted-joined _ (λ s. sorted-kept (link_row i s) (λ x y l. lower_last 1 i s x y l) _ 0 _)
      (λ r s l. lower-maps (link_row i r) (link_row i s) (links_at concepts roles marks i r) (links_at concepts roles marks i s) (λ x y. lower_word 1 i r s x y l))
      0 100

  links-lower : (i j : ℕ) → i < j → (a b : Row) → Memᴰ a (links_of concepts roles marks i) → Memᴰ b (links_of concepts roles marks j) → Lower a b
  unfolding links_of
  links-lower i j l a b m k =
      let (r, _, _, u) = joined-out _ 0 100 m in
      let (s, _, _, v) = joined-out _ 0 100 k in
      lower-maps (link_row i r) (link_row j s) (links_at concepts roles marks i r) (links_at concepts roles marks j s) (λ x y. lower-element 1 i j r s x y l) a b u v

  shown-sorted : Sorted (shown concepts roles marks)
  unfolding shown_links
  shown-sorted =
      sorted-append (shown_names concepts roles marks) _ names-sorted
      (sorted-joined (links_of concepts roles marks) links-sorted links-lower 0 (count_of concepts))
      (λ a b m k. lower-kind a b (omega (arith, (names-out concepts roles marks m).kind, (links-out concepts roles marks k).kind)))

-- The shown rows are rising and free of repeats.
pub shown-rising : (concepts roles : List ℕ) (marks : ℕ → ℕ → Bool) → Rising (shown_rows concepts roles marks)
shown-rising concepts roles marks =
    subst Rising (shown-flat concepts roles marks) (sorted-rising (shown concepts roles marks) (shown-sorted concepts roles marks))
