-- How a text is judged (02, A.8): token by token, with a frame for each bracket that is open. The first token at fault decides.
use Rattle.std.specs.Prelude.{ℕ, suc, ◌-◌, List, [], ◌∷◌, ◌++◌, Bool, true, false, eqb, ltb, length}
use Rattle.subsumption.specs.declared.refusal.Refusal.{Refusal}
use Rattle.subsumption.specs.declared.refusal.Refusal.TheVariants.{Limit, BadSyntax, TooDeep}
use Rattle.subsumption.specs.Tables.{count_of}
use Rattle.owl.specs.declared.words.Word.{Word}
use Rattle.owl.specs.declared.words.Word.TheVariants.{AxiomKey, TopKey, AndKey, SomeKey, NameOf, RoleOf, Other}
use Rattle.owl.specs.Tokens.{Token, opening, closing, word, Placed, tokens}
use Rattle.owl.specs.Words.{read_word}

-- An open bracket belongs to an axiom, an intersection or an existential.
pub data Kind : Type 0 where
  subclass : Kind
  meet : Kind
  exist : Kind

-- An open bracket: its kind, the role of an existential, and the ids of its members so far, in order.
pub record Frame : Type 0 where
  pub kind : Kind
  pub role : ℕ
  pub members : List ℕ

-- What may come next: an axiom, a class or a closing bracket; the opening bracket behind a keyword; the role of an existential.
pub data Want : Type 0 where
  item : Want
  bracket : Kind → Want
  role : Want

-- The open brackets, the innermost first, and the tables so far: an entry for each class that is closed, a pair for each axiom.
pub record State : Type 0 where
  pub frames : List Frame
  pub want : Want
  pub rows : List ℕ
  pub inclusions : List ℕ

pub data Step : Type 0 where
  go : State → Step
  stop : Refusal → Step

unfoldable pub go_if : Bool → Step → Refusal → Step
go_if true step r = step
go_if false step r = stop r

-- A keyword: its bracket comes next. Only in front of a member is there a frame.
unfoldable pub keyed : Kind → State → Step
keyed kind s = go (record { frames = s.frames; want = bracket kind; rows = s.rows; inclusions = s.inclusions })

unfoldable pub first : Kind → Want
first subclass = item
first meet = item
first exist = role

unfoldable pub opened : Kind → State → Step
opened kind s =
    go
    (record {
      frames = record { kind = kind; role = 0; members = [] } ∷ s.frames;
      want = first kind;
      rows = s.rows;
      inclusions = s.inclusions;
    })

-- The role of the innermost existential.
unfoldable pub roled : ℕ → List Frame → List Frame
roled r [] = []
roled r (f ∷ fs) = record { kind = f.kind; role = r; members = f.members } ∷ fs

-- A class is closed with these rows behind those before; its id is the last of them, a member of the innermost frame.
unfoldable pub joins : ℕ → List Frame → List Frame
joins id [] = []
joins id (f ∷ fs) = record { kind = f.kind; role = f.role; members = f.members ++ (id ∷ []) } ∷ fs

-- Past 192 entries it is refused.
unfoldable pub closed : List ℕ → List Frame → State → Step
closed rows frames s =
    go_if (ltb (count_of (s.rows ++ rows)) 193)
    (go (record { frames = joins (count_of (s.rows ++ rows) - 1) frames; want = item; rows = s.rows ++ rows; inclusions = s.inclusions }))
    (Limit 0)

-- Pairing from the left: one "and" for each member after the first; the first of them gets the id `next`.
unfoldable pub pair_rows : ℕ → ℕ → List ℕ → List ℕ
pair_rows next left [] = []
pair_rows next left (right ∷ more) = 3 ∷ left ∷ right ∷ pair_rows (suc next) next more

unfoldable pub meet_rows : ℕ → List ℕ → List ℕ
meet_rows next [] = []
meet_rows next (m ∷ more) = pair_rows next m more

-- A closing bracket: an axiom has two members, an existential one, an intersection two or more.
unfoldable pub shut_by : Kind → ℕ → Frame → List Frame → State → Step
shut_by subclass place f fs s =
    go_if (eqb (length f.members) 2) (go (record { frames = fs; want = item; rows = s.rows; inclusions = s.inclusions ++ f.members }))
    (BadSyntax place)
shut_by exist place f fs s = go_if (eqb (length f.members) 1) (closed (2 ∷ f.role ∷ f.members) fs s) (BadSyntax place)
shut_by meet place f fs s = go_if (ltb 1 (length f.members)) (closed (meet_rows (count_of s.rows) f.members) fs s) (BadSyntax place)

unfoldable pub shut : ℕ → Frame → List Frame → State → Step
shut place f fs s = shut_by f.kind place f fs s

unfoldable pub room_by : Kind → ℕ → Bool
room_by subclass count = ltb count 2
room_by exist count = ltb count 1
room_by meet count = true

unfoldable pub has_room : Frame → Bool
has_room f = room_by f.kind (length f.members)

-- A class that begins in the innermost frame is as deep as there are frames.
unfoldable pub begun : ℕ → State → Word → Step
begun place s AxiomKey = stop (BadSyntax place)
begun place s TopKey = go_if (ltb (length s.frames) 33) (closed (0 ∷ 0 ∷ 0 ∷ []) s.frames s) (TooDeep place)
begun place s (NameOf n) = go_if (ltb (length s.frames) 33) (closed (1 ∷ n ∷ 0 ∷ []) s.frames s) (TooDeep place)
begun place s AndKey = go_if (ltb (length s.frames) 33) (keyed meet s) (TooDeep place)
begun place s SomeKey = go_if (ltb (length s.frames) 33) (keyed exist s) (TooDeep place)
begun place s (RoleOf r) = stop (BadSyntax place)
begun place s Other = stop (BadSyntax place)

-- Between axioms.
unfoldable pub outside : ℕ → State → Word → Step
outside place s AxiomKey = keyed subclass s
outside place s TopKey = stop (BadSyntax place)
outside place s (NameOf n) = stop (BadSyntax place)
outside place s AndKey = stop (BadSyntax place)
outside place s SomeKey = stop (BadSyntax place)
outside place s (RoleOf r) = stop (BadSyntax place)
outside place s Other = stop (BadSyntax place)

unfoldable pub of_role : ℕ → State → Word → Step
of_role place s AxiomKey = stop (BadSyntax place)
of_role place s TopKey = stop (BadSyntax place)
of_role place s (NameOf n) = stop (BadSyntax place)
of_role place s AndKey = stop (BadSyntax place)
of_role place s SomeKey = stop (BadSyntax place)
of_role place s (RoleOf r) = go (record { frames = roled r s.frames; want = item; rows = s.rows; inclusions = s.inclusions })
of_role place s Other = stop (BadSyntax place)

unfoldable pub item_step : ℕ → State → List Frame → Token → Step
item_step place s [] opening = stop (BadSyntax place)
item_step place s [] closing = stop (BadSyntax place)
item_step place s [] (word w) = outside place s (read_word w)
item_step place s (f ∷ fs) opening = stop (BadSyntax place)
item_step place s (f ∷ fs) closing = shut place f fs s
item_step place s (f ∷ fs) (word w) = go_if (has_room f) (begun place s (read_word w)) (BadSyntax place)

unfoldable pub bracket_step : ℕ → State → Kind → Token → Step
bracket_step place s kind opening = opened kind s
bracket_step place s kind closing = stop (BadSyntax place)
bracket_step place s kind (word w) = stop (BadSyntax place)

unfoldable pub role_step : ℕ → State → Token → Step
role_step place s opening = stop (BadSyntax place)
role_step place s closing = stop (BadSyntax place)
role_step place s (word w) = of_role place s (read_word w)

unfoldable pub step_on : State → Placed → Want → Step
step_on s t item = item_step t.place s s.frames t.token
step_on s t (bracket kind) = bracket_step t.place s kind t.token
step_on s t role = role_step t.place s t.token

unfoldable pub step : State → Placed → Step
step s t = step_on s t s.want

-- The text may end between axioms.
unfoldable pub ended : ℕ → State → List Frame → Want → Step
ended end s [] item = go s
ended end s [] (bracket kind) = stop (BadSyntax end)
ended end s [] role = stop (BadSyntax end)
ended end s (f ∷ fs) want = stop (BadSyntax end)

unfoldable pub onward : Step → (State → Step) → Step
onward (go s) next = next s
onward (stop r) next = stop r

unfoldable pub run : ℕ → List Placed → State → Step
run end [] s = ended end s s.frames s.want
run end (t ∷ more) s = onward (step s t) (run end more)

unfoldable pub start : State
start = record { frames = []; want = item; rows = []; inclusions = [] }

unfoldable pub judge : List ℕ → Step
judge text = run (length text) (tokens text) start
