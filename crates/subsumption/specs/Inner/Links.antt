-- The steps at the existentials, and the sets by which they are found (src/closure/links.rt, src/closure/sets.rt). Sets are laid out as
-- columns are: `has sets e x` says that e is in the set x.
use Rattle.std.specs.Prelude.{ℕ, ◌+◌, ◌<◌, ◌≤◌, ◌≡◌, List, Bool, true, ◌⊎◌, length}
use Rattle.subsumption.specs.Tables.{exists_at, node, count_of}
use Rattle.subsumption.specs.Atoms.{bit}
use Rattle.subsumption.specs.Inner.Columns.{has, Into, InThree}
use Rattle.subsumption.specs.Inner.Roles.{in_set}

-- the existential e, of a role that counts as that role, has its inner id below that inner id
pub record Linkable (concepts columns : List ℕ) (counts : ℕ → Bool) (inner e : ℕ) : Type 0 where
  pub narrow : ℕ
  pub from : ℕ
  pub row : node concepts e ≡ exists_at narrow from
  pub counting : counts narrow ≡ true
  pub below : has columns from inner ≡ true

abbrev pub LinkedTo : List ℕ → (ℕ → ℕ → Bool) → ℕ → List ℕ → Type 0
LinkedTo concepts wide f columns =
    (e s y : ℕ) → e < count_of concepts → node concepts f ≡ exists_at s y → Linkable concepts columns (λ r. wide r s) y e
    → Into (count_of concepts) columns e f

abbrev pub AllLinked : List ℕ → (ℕ → ℕ → Bool) → List ℕ → Type 0
AllLinked concepts wide columns = (f : ℕ) → f < count_of concepts → LinkedTo concepts wide f columns

-- what looking for existentials asks of the rows
pub record Inner (concepts : List ℕ) : Type 0 where
  pub few : count_of concepts ≤ 192
  pub known : (e r x : ℕ) → e < count_of concepts → node concepts e ≡ exists_at r x → x < count_of concepts
  pub low : (e r x : ℕ) → node concepts e ≡ exists_at r x → r < 100

-- ---- sets
-- the set `to` takes in the id, and nothing else changes
pub record Inserted (before after : List ℕ) (to id : ℕ) : Type 0 where
  pub long : length after ≡ length before
  pub kept : (i j : ℕ) → has before i j ≡ true → has after i j ≡ true
  pub bits : (i j : ℕ) → i < 192 → has after i j ≡ true → (has before i j ≡ true) ⊎ ((j ≡ to) × (i ≡ id))
  pub taken : has after id to ≡ true

-- the set `to` is now that one
pub record Put (before after : List ℕ) (to first second third : ℕ) : Type 0 where
  pub long : length after ≡ length before
  pub only : (i : ℕ) → i < 192 → has after i to ≡ true → InThree first second third i
  pub every : (i : ℕ) → i < 192 → InThree first second third i → has after i to ≡ true
  pub there : (i j : ℕ) → i < 192 → (j ≡ to → ⊥) → has after i j ≡ has before i j

-- e is in one of the sets, from the set `from` on, that the word picks
pub record Picked (sets : List ℕ) (from word e : ℕ) : Type 0 where
  pub place : ℕ
  pub low : place < 64
  pub chosen : bit word place ≡ true
  pub in-set : has sets e (from + place) ≡ true

-- the picked sets come to one that was there
pub record Joins (sets : List ℕ) (from word : ℕ) (before after : ℕ → Type 0) : Type 0 where
  pub only : (e : ℕ) → e < 192 → after e → before e ⊎ Picked sets from word e
  pub every : (e : ℕ) → e < 192 → before e ⊎ Picked sets from word e → after e

-- the union of all sets with these numbers
pub record Union (sets : List ℕ) (numbers union : ℕ → Type 0) : Type 0 where
  pub only : (e : ℕ) → e < 192 → union e → (x : ℕ) × (x < 192) × numbers x × (has sets e x ≡ true)
  pub every : (e x : ℕ) → e < 192 → x < 192 → numbers x → has sets e x ≡ true → union e

-- ---- the existentials as sets
-- the existential e below n has some role and that inner id
pub record WithInner (concepts : List ℕ) (n x e : ℕ) : Type 0 where
  pub before : e < n
  pub role : ℕ
  pub row : node concepts e ≡ exists_at role x

pub record WithRole (concepts : List ℕ) (n r e : ℕ) : Type 0 where
  pub before : e < n
  pub inner : ℕ
  pub row : node concepts e ≡ exists_at r inner

-- those below n: by inner id, all inner ids, by role
pub record Existentials (concepts outer inners lines : List ℕ) (n : ℕ) : Type 0 where
  pub outer-long : length outer ≡ 576
  pub inners-long : length inners ≡ 3
  pub lines_long : length lines ≡ 576
  pub outer-only : (x e : ℕ) → e < 192 → has outer e x ≡ true → WithInner concepts n x e
  pub outer-every : (x e : ℕ) → WithInner concepts n x e → has outer e x ≡ true
  pub inners-every : (x e : ℕ) → WithInner concepts n x e → has inners x 0 ≡ true
  pub lines-only : (r e : ℕ) → e < 192 → has lines e r ≡ true → WithRole concepts n r e
  pub lines-every : (r e : ℕ) → WithRole concepts n r e → has lines e r ≡ true

-- for each role below n, the union of the lines of the roles that count as it
pub record KindsTo (into lines kinds : List ℕ) (n : ℕ) : Type 0 where
  pub long : length kinds ≡ 300
  pub only : (s e : ℕ) → s < n → e < 192 → has kinds e s ≡ true → (r : ℕ) × (in_set into r s ≡ true) × (has lines e r ≡ true)
  pub every : (s e r : ℕ) → s < n → e < 192 → r < 100 → in_set into r s ≡ true → has lines e r ≡ true → has kinds e s ≡ true

-- what finding them asks of the sets
pub record Laid (outer inners kinds : List ℕ) : Type 0 where
  pub outer-long : length outer ≡ 576
  pub inners-long : length inners ≡ 3
  pub kinds-long : length kinds ≡ 300

-- by inner id, all inner ids, and by the roles that theirs counts as
pub record Sorted (concepts : List ℕ) (wide : ℕ → ℕ → Bool) (outer inners kinds : List ℕ) : Type 0 where
  pub outer-only : (x e : ℕ) → e < 192 → has outer e x ≡ true → WithInner concepts (count_of concepts) x e
  pub outer-every : (x e : ℕ) → WithInner concepts (count_of concepts) x e → has outer e x ≡ true
  pub inners-every : (x e : ℕ) → WithInner concepts (count_of concepts) x e → has inners x 0 ≡ true
  pub kinds-only :
      (s e : ℕ) → s < 100 → e < 192 → has kinds e s ≡ true → (r : ℕ) × (wide r s ≡ true) × WithRole concepts (count_of concepts) r e
  pub kinds-every : (s e r : ℕ) → s < 100 → wide r s ≡ true → WithRole concepts (count_of concepts) r e → has kinds e s ≡ true
