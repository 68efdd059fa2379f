-- What keeping passes and failures promises (src/kept.rt).
use Rattle.subsumption.specs.Refusal.{Done}
use Rattle.std.specs.Prelude.{ℕ, ◌+◌, ◌*◌, ◌<◌, ◌≡◌, List, Bool, true, false, ◌⊎◌, length, get_or, take}
use Rattle.subsumption.specs.Tables.{Tables, pairs_of}
use Rattle.subsumption.specs.Check.{assignment_fault}
use Rattle.matching.specs.Inner.Search.{Decided, Within}
use Rattle.matching.specs.Inner.Search.Problem.{Problem, AskedAt}
use Rattle.matching.specs.Inner.Search.Nogoods.{words}
use Rattle.allowance.specs.Partial.{Asked}

abbrev pub ring_at : Bool → Bool → ℕ
ring_at false false = 0
ring_at false true = 129
ring_at true false = 258
ring_at true true = 387

-- how many choices of a ring are read
abbrev pub noted : List ℕ → Bool → Bool → ℕ
noted kept right passed = get_or kept (ring_at right passed + 128) 0

abbrev pub in_ring : List ℕ → Bool → Bool → ℕ → List ℕ
in_ring kept right passed i = words kept (ring_at right passed + i * 8)

-- the questions of the kind hold under the choice, or not all of them
abbrev pub Told : Tables → Bool → Bool → List ℕ → Type 0
Told t right passed choice = Decided (Asked t right (take t.variables choice)) passed

pub record Kept (t : Tables) (kept : List ℕ) : Type 0 where
  pub long : length kept ≡ 516
  pub each : (right passed : Bool) (i : ℕ) → i < 16 → i < noted kept right passed → Told t right passed (in_ring kept right passed i)

-- no harder for the kind
abbrev pub Easier : Bool → List ℕ → List ℕ → Type 0
Easier true a b = Within a b
Easier false a b = Within b a

-- of two choices, what comes of the other comes of the first
abbrev pub Follows : Bool → Bool → List ℕ → List ℕ → Type 0
Follows right true choice other = Easier right choice other
Follows right false choice other = Easier right other choice

abbrev pub FollowsIf : Bool → Bool → Bool → List ℕ → List ℕ → Type 0
FollowsIf true right passed choice other = Follows right passed choice other
FollowsIf false right passed choice other = Unit {0}

pub record Among (kept choice : List ℕ) (right passed : Bool) : Type 0 where
  pub place : ℕ
  pub low : place < 16
  pub read : place < noted kept right passed
  pub follows : Follows right passed choice (in_ring kept right passed place)

abbrev pub Recalled : List ℕ → List ℕ → Bool → Bool → Bool → Type 0
Recalled kept choice right passed true = Among kept choice right passed
Recalled kept choice right passed false = Unit {0}

-- each choice that is read was there before, or it is the new one
pub record Noted (before after choice : List ℕ) (right passed : Bool) : Type 0 where
  pub long : length after ≡ 516
  pub each :
      (r p : Bool) (i : ℕ) → i < 16 → i < noted after r p
      → ((i < noted before r p) × (in_ring after r p i ≡ in_ring before r p i)) ⊎ ((r ≡ right) × (p ≡ passed) × (in_ring after r p i ≡ choice))

-- the problem asks every question
abbrev pub AllAsked : Tables → List ℕ → Type 0
AllAsked t problem = (m : ℕ) → m < pairs_of t.questions → AskedAt problem m

-- whether the questions of the kind hold; what is kept stays true
abbrev pub Tried : List ℕ → List ℕ → List ℕ → Bool → List ℕ → List ℕ → Bool → Type 0
Tried sets problem choice right before after answer =
    (t : Tables) → Problem t sets problem → AllAsked t problem → assignment_fault t (take t.variables choice) ≡ Done → Kept t before
    → Decided (Asked t right (take t.variables choice)) answer × Kept t after
