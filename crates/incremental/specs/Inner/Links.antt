-- Rule 5 (src/links.rt): existentials by inner id and by role, unions of sets, and the lines.
use Rattle.std.specs.Prelude.{ℕ, ◌+◌, ◌*◌, ◌<◌, ◌≡◌, List, Bool, true, ◌⊎◌, length}
use Rattle.subsumption.specs.Tables.{exists_at, node, count_of}
use Rattle.subsumption.specs.Atoms.{bit}
use Rattle.subsumption.specs.Inner.Roles.{in_set}
use Rattle.square.specs.Inner.Square.{on_line, in_row}
use Rattle.incremental.specs.Inner.Lines.{LinkAt, LinkLines}
use Rattle.incremental.specs.Inner.Including.{is_in}
use Rattle.incremental.specs.Inner.Pass.{Pass}

-- the existential e below n has some role and that inner id
pub record WithInner (concepts : List ℕ) (n x e : ℕ) : Type 0 where
  pub before : e < n
  pub role : ℕ
  pub row : node concepts e ≡ exists_at role x

pub record WithRole (concepts : List ℕ) (n r e : ℕ) : Type 0 where
  pub before : e < n
  pub inner : ℕ
  pub row : node concepts e ≡ exists_at r inner

-- the sets of the existentials below n: for each inner id, and for each role
pub record OuterTo (concepts outer : List ℕ) (n : ℕ) : Type 0 where
  pub long : length outer ≡ 576
  pub only : (x e : ℕ) → x < 192 → e < 192 → on_line outer (x * 3) e ≡ true → WithInner concepts n x e
  pub every : (x e : ℕ) → x < 192 → e < 192 → WithInner concepts n x e → on_line outer (x * 3) e ≡ true

pub record RolesTo (concepts roles : List ℕ) (n : ℕ) : Type 0 where
  pub long : length roles ≡ 384
  pub only : (r e : ℕ) → r < 128 → e < 192 → on_line roles (r * 3) e ≡ true → WithRole concepts n r e
  pub every : (r e : ℕ) → r < 128 → e < 192 → WithRole concepts n r e → on_line roles (r * 3) e ≡ true

-- every inner id is in the set
pub record InnersTo (concepts inners : List ℕ) (n : ℕ) : Type 0 where
  pub long : length inners ≡ 3
  pub every : (x e : ℕ) → x < 192 → WithInner concepts n x e → is_in inners x ≡ true

pub record Existentials (concepts outer inners roles : List ℕ) (n : ℕ) : Type 0 where
  pub outers : OuterTo concepts outer n
  pub inner : InnersTo concepts inners n
  pub role : RolesTo concepts roles n

-- e is on one of the lines from line `from` on that the word picks
pub record Picked (sets : List ℕ) (from word e : ℕ) : Type 0 where
  pub place : ℕ
  pub low : place < 64
  pub chosen : bit word place ≡ true
  pub has : on_line sets ((from + place) * 3) e ≡ true

-- the picked lines come to a set that was there
pub record Joins (sets : List ℕ) (from word : ℕ) (before after : ℕ → Type 0) : Type 0 where
  pub only : (e : ℕ) → e < 192 → after e → before e ⊎ Picked sets from word e
  pub every : (e : ℕ) → e < 192 → before e ⊎ Picked sets from word e → after e

-- the lines of all roles that count as s
pub record ByRole (into roles : List ℕ) (s : ℕ) (set : ℕ → Type 0) : Type 0 where
  pub only : (e : ℕ) → e < 192 → set e → (r : ℕ) × (r < 128) × (in_set into r s ≡ true) × (on_line roles (r * 3) e ≡ true)
  pub every : (e r : ℕ) → e < 192 → r < 128 → in_set into r s ≡ true → on_line roles (r * 3) e ≡ true → set e

-- the lines of all inner ids that are below y
pub record ByInner (square outer inners : List ℕ) (y : ℕ) (set : ℕ → Type 0) : Type 0 where
  pub only : (e : ℕ) → e < 192 → set e → (x : ℕ) × (x < 192) × (in_row square x y ≡ true) × (on_line outer (x * 3) e ≡ true)
  pub every : (e x : ℕ) → e < 192 → x < 192 → in_row square x y ≡ true → is_in inners x ≡ true → on_line outer (x * 3) e ≡ true → set e

abbrev pub LinkPass : List ℕ → (ℕ → ℕ → Bool) → ℕ → List ℕ → List ℕ → Bool → Type 0
LinkPass concepts wide f before after changed =
    Pass (count_of concepts) (LinkLines concepts wide) (λ s. LinkAt concepts wide (in_row s) f) before after changed
