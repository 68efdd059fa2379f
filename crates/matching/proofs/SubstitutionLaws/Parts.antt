-- Lists of concepts that hold the parts of their members.
use Prim.Native.Nat.{ℕ, suc, ◌<◌}
use mathlib.Core.Path.{◌≡◌, refl, sym, subst}
use mathlib.Core.List.Memᴰ
use mathlib.Core.List.{List, [], ◌∷◌, ◌++◌, Memᴰ}
use mathlib.Core.Logic.{⊎_elim}
use native.Mathlib.Omega.{arith}
use lib.ListN.{length, get_or}
use Rattle.subsumption.specs.Tables.{Concept, top, name, exists, and, var}
use Rattle.subsumption.proofs.ModelRows.{gather, gather-in, gather-out}

abbrev pub HasInner : List Concept → Concept → Type 0
HasInner E top = Unit {0}
HasInner E (name n) = Unit {0}
HasInner E (exists r c) = Memᴰ c E
HasInner E (and c d) = Memᴰ c E × Memᴰ d E
HasInner E (var k) = Unit {0}

abbrev pub Closed : List Concept → Type 0
Closed E = (c : Concept) → Memᴰ c E → HasInner E c

inner-more : (E F : List Concept) → ((c : Concept) → Memᴰ c E → Memᴰ c F) → (c : Concept) → HasInner E c → HasInner F c
inner-more E F f top h = tt
inner-more E F f (name n) h = tt
inner-more E F f (exists r c) h = f c h
inner-more E F f (and c d) (h, k) = (f c h, f d k)
inner-more E F f (var k) h = tt

unfoldable pub parts : Concept → List Concept
parts top = top ∷ []
parts (name n) = name n ∷ []
parts (exists r c) = exists r c ∷ parts c
parts (and c d) = and c d ∷ (parts c ++ parts d)
parts (var k) = var k ∷ []

pub parts_self : (c : Concept) → Memᴰ c (parts c)
unfolding parts
parts_self top = Memᴰ.head refl
parts_self (name n) = Memᴰ.head refl
parts_self (exists r c) = Memᴰ.head refl
parts_self (and c d) = Memᴰ.head refl
parts_self (var k) = Memᴰ.head refl

pub append-closed : (E F : List Concept) → Closed E → Closed F → Closed (E ++ F)
append-closed E F p q c h =
    ⊎_elim (λ m. inner-more E (E ++ F) (λ d. Memᴰ.append_left F) c (p c m)) (λ m. inner-more F (E ++ F) (λ d. Memᴰ.append_right E) c (q c m))
    (Memᴰ.append_cases E h)

cons-closed : (d : Concept) (E : List Concept) → HasInner E d → Closed E → Closed (d ∷ E)
cons-closed d E p q c h =
    inner-more E (d ∷ E) (λ e. Memᴰ.tail) c (⊎_elim (λ e. subst (HasInner E) (sym e) p) (q c) (Memᴰ.cases_cons h))

none-closed : Closed []
none-closed c h = elim h [ ]

pub parts-closed : (c : Concept) → Closed (parts c)
unfolding parts
parts-closed top = cons-closed top [] tt none-closed
parts-closed (name n) = cons-closed (name n) [] tt none-closed
parts-closed (exists r c) = cons-closed (exists r c) (parts c) (parts_self c) (parts-closed c)
parts-closed (and c d) =
    cons-closed (and c d) (parts c ++ parts d) (Memᴰ.append_left (parts d) (parts_self c), Memᴰ.append_right (parts c) (parts_self d))
    (append-closed (parts c) (parts d) (parts-closed c) (parts-closed d))
parts-closed (var k) = cons-closed (var k) [] tt none-closed

pub gather-closed : (f : ℕ → Concept) (n : ℕ) → Closed (gather (λ i. parts (f i)) n)
gather-closed f n c h =
    let (m, l, u) = gather-out _ n h in
    inner-more (parts (f m)) _ (λ d v. gather-in (λ i. parts (f i)) n m l v) c (parts-closed (f m) c u)

-- the place of a member
pub place : {A : Type 0} (default : A) (list : List A) (a : A) → Memᴰ a list → (j : ℕ) × (j < length list) × (get_or list j default ≡ a)
place {A = A} default list a m = go a list m
  where
    go : (a : A) (list : List A) → Memᴰ a list → (j : ℕ) × (j < length list) × (get_or list j default ≡ a)
    go a list (Memᴰ.head e) = (0, omega arith, sym e)
    go a list (Memᴰ.tail {x} {xs} m) = let (j, l, e) = go a xs m in (suc j, omega arith, e)

abbrev pub concept_at : List Concept → ℕ → Concept
concept_at E j = get_or E j top
