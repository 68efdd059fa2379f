-- What judging a pair and the walk over its marks promise (src/show.rt, marks.rt, roles.rt, rows.rt, elements.rt).
use Rattle.std.specs.Prelude.{ℕ, zero, suc, ◌+◌, ◌<◌, ◌≤◌, ◌≡◌, List, [], ◌∷◌, ◌++◌, Bool, true, false, eqb, length}
use Rattle.std.proofs.lemmas.List.Edits.{sets}
use Rattle.subsumption.specs.Tables.{Tables, both, any_below, Node, top_at, name_at, exists_at, and_at, var_at, node, count_of}
use Rattle.subsumption.specs.Refusal.{Reply, reply_with, or_else, Outcome, Done}
use Rattle.subsumption.specs.Check.{buffer_fault}
use Rattle.subsumption.specs.Decide.{deciding_fault}
use Rattle.subsumption.specs.Table.{marked}
use Rattle.subsumption.specs.Inner.Atoms.{Layered, mark_at}
use Rattle.subsumption.specs.Inner.Roles.{in_set, RoleSets}
use Rattle.countermodel.specs.Rows.{rows_of, joined}
use Rattle.countermodel.specs.Countermodel.{Exactly, bears, is_linked, names_at, links_at, name_rows, link_rows}
use Rattle.countermodel.specs.Show.{holding_fault, shown_in}

-- The checks 1 to 3 passed, with the ranges of names and roles.
pub record Checked (concepts : List ℕ) : Type 0 where
  pub layered : Layered concepts
  pub low-names : (j n : ℕ) → node concepts j ≡ name_at n → n < 1000
  pub low-roles : (j r y : ℕ) → node concepts j ≡ exists_at r y → r < 100

-- An asked pair is judged by the checks 1 to 7, 9 and 15, and the table holds the marks.
pub record Judged (t : Tables) (assignment : List ℕ) (left right : ℕ) (table : List ℕ) (outcome : Outcome) : Type 0 where
  pub long : length table ≡ 4608
  pub judged : outcome ≡ or_else (deciding_fault t assignment left right) (holding_fault (marked table) left right)
  pub exactly : deciding_fault t assignment left right ≡ Done → Exactly t assignment (marked table)

-- Which names an element bears.
pub record NamesOf (concepts : List ℕ) (marks : ℕ → ℕ → Bool) (i : ℕ) (names : List Bool) : Type 0 where
  pub long : length names ≡ 1000
  pub each : (n : ℕ) → n < 1000 → mark_at names n ≡ bears concepts marks i n

-- Which elements an element is linked to by the role s.
pub record LinksOf (concepts roles : List ℕ) (marks : ℕ → ℕ → Bool) (i s : ℕ) (links : List Bool) : Type 0 where
  pub long : length links ≡ 192
  pub each : (y : ℕ) → y < count_of concepts → mark_at links y ≡ is_linked concepts roles marks i s y

-- The rows in front of the buffer, or check 8.
pub record Laid (rows before after : List ℕ) (reply : Reply) : Type 0 where
  pub replied : reply ≡ reply_with (buffer_fault (length rows) (length before)) (rows_of rows)
  pub shown : after ≡ shown_in (buffer_fault (length rows) (length before)) rows before

-- For whatever roles these are the sets of.
abbrev pub ForRoles : List ℕ → (List ℕ → Type 0) → Type 0
ForRoles into Holds = (roles : List ℕ) → RoleSets roles into → Holds roles

-- `end` is the place behind the rows from `at` on. Where there is room for them they stand in the buffer, and the rest is as it was.
pub record Put (before : List ℕ) (at : ℕ) (rows : List ℕ) (end : ℕ) (after : List ℕ) : Type 0 where
  pub size : length after ≡ length before
  pub place : end ≡ at + length rows
  pub buffer : end ≤ length before → after ≡ sets before at rows

-- The row of a mark q: of kind 0 the name q, else the link by the role s to q.
unfoldable pub row_for : ℕ → ℕ → ℕ → ℕ → List ℕ
row_for zero i s q = 0 ∷ i ∷ q ∷ 0 ∷ []
row_for (suc kind) i s q = 1 ∷ i ∷ s ∷ q ∷ []

unfoldable pub rows_for : ℕ → ℕ → ℕ → List ℕ → List ℕ
rows_for kind i s [] = []
rows_for kind i s (q ∷ marks) = row_for kind i s q ++ rows_for kind i s marks

-- The rows of one element: its names, its links by one role, its links.
abbrev pub names_of : List ℕ → (ℕ → ℕ → Bool) → ℕ → List ℕ
names_of concepts marks i = name_rows i (names_at concepts marks i)

abbrev pub links_by : List ℕ → List ℕ → (ℕ → ℕ → Bool) → ℕ → ℕ → List ℕ
links_by concepts roles marks i s = link_rows i s (links_at concepts roles marks i s)

abbrev pub links_of : List ℕ → List ℕ → (ℕ → ℕ → Bool) → ℕ → List ℕ
links_of concepts roles marks i = joined (links_by concepts roles marks i) 0 100

-- "some" of the role r
unfoldable pub is_of : ℕ → Node → Bool
is_of r top_at = false
is_of r (name_at m) = false
is_of r (exists_at q j) = eqb r q
is_of r (and_at i j) = false
is_of r (var_at k) = false

-- The roles of the existentials that the element i is below.
pub record RolesOf (concepts : List ℕ) (marks : ℕ → ℕ → Bool) (i : ℕ) (own : List Bool) : Type 0 where
  pub long : length own ≡ 100
  pub each : (r : ℕ) → r < 100 → mark_at own r ≡ any_below (count_of concepts) (λ j. both (marks i j) (is_of r (node concepts j)))

-- The roles that the role r counts as are marked besides those marked before.
pub record Widened (into : List ℕ) (r : ℕ) (before after : List Bool) : Type 0 where
  pub long : length after ≡ 100
  pub kept : (s : ℕ) → mark_at before s ≡ true → mark_at after s ≡ true
  pub wide : (s : ℕ) → s < 100 → in_set into r s ≡ true → mark_at after s ≡ true

-- All roles that an own role counts as are marked.
pub record UsedRoles (into : List ℕ) (own used : List Bool) : Type 0 where
  pub long : length used ≡ 100
  pub wide : (r s : ℕ) → r < 100 → s < 100 → mark_at own r ≡ true → in_set into r s ≡ true → mark_at used s ≡ true
