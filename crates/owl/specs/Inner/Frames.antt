-- The state of the judgement as the code holds it (src/frames.rt): three numbers a frame (kind, role, where its members start), the
-- members' ids of all frames one behind the other, and the tables so far in front of their buffers.
use Rattle.std.specs.Prelude.{ℕ, zero, suc, ◌+◌, ◌-◌, ◌*◌, ◌<◌, ◌≤◌, ◌≡◌, List, [], ◌∷◌, Bool, length, get_or, take, drop, Result, Ok, Err}
use Rattle.owl.specs.declared.words.Word.{Word}
use Rattle.owl.specs.declared.frames.Reader.{Reader}
use Rattle.subsumption.specs.declared.refusal.Refusal.{Refusal}
use Rattle.subsumption.specs.declared.refusal.Refusal.TheVariants.{BadSyntax}
use Rattle.owl.specs.Tokens.{opening}
use Rattle.owl.specs.Judgement.{Kind, subclass, meet, exist, Frame, Want, item, bracket, role, State, Step, go, stop, go_if, first, closed, shut, has_room, begun, outside, of_role, step}

abbrev pub kind_of : ℕ → Kind
kind_of zero = subclass
kind_of (suc zero) = meet
kind_of (suc (suc code)) = exist

abbrev pub want_of : ℕ → Want
want_of zero = bracket subclass
want_of (suc zero) = bracket meet
want_of (suc (suc zero)) = bracket exist
want_of (suc (suc (suc zero))) = item
want_of (suc (suc (suc (suc code)))) = role

-- the numbers of a list from `start` on that stand in front of `end`
abbrev pub between : ℕ → ℕ → List ℕ → List ℕ
between start end numbers = take (end - start) (drop start numbers)

-- where the members of frame `d` start
abbrev pub start_of : ℕ → List ℕ → ℕ
start_of d frames = get_or frames (d * 3 + 2) 0

abbrev pub frame_of : ℕ → ℕ → List ℕ → List ℕ → Frame
frame_of d used frames pending =
    record { kind = kind_of (get_or frames (d * 3) 0); role = get_or frames (d * 3 + 1) 0; members = between (start_of d frames) used pending }

-- the frames, the innermost first, of which there are `depth`; the members of the innermost end in front of `used`
unfoldable pub frames_of : ℕ → ℕ → List ℕ → List ℕ → List Frame
frames_of zero used frames pending = []
frames_of (suc d) used frames pending = frame_of d used frames pending ∷ frames_of d (start_of d frames) frames pending

abbrev pub state_of : Reader → List ℕ → List ℕ → List ℕ → List ℕ → State
state_of r frames pending rows inclusions =
    record {
      frames = frames_of r.depth r.used frames pending;
      want = want_of r.want;
      rows = take (r.count * 3) rows;
      inclusions = take (r.pairs * 2) inclusions;
    }

-- each frame's members start behind those of the frame around it
abbrev pub Nested : ℕ → ℕ → List ℕ → Type 0
Nested zero used frames = Unit {0}
Nested (suc d) used frames = (start_of d frames ≤ used) × Nested d (start_of d frames) frames

-- each member that waits and each side of an inclusion is an entry of its own, so that the buffers are long enough
pub record Bounds (r : Reader) : Type 0 where
  pub deep : r.depth ≤ 33
  pub bracket-room : r.want < 3 → r.depth < 33
  pub role-frame : 3 < r.want → 0 < r.depth
  pub few : r.count ≤ 192
  pub apart : r.pairs * 2 + r.used ≤ r.count

pub record Fits (r : Reader) (frames pending rows inclusions : List ℕ) : Type 0 where
  pub bounds : Bounds r
  pub nested : Nested r.depth r.used frames
  pub frames-long : length frames ≡ 99
  pub pending-long : length pending ≡ 192
  pub rows_long : length rows ≡ 576
  pub inclusions-long : length inclusions ≡ 192

-- the reader and the buffers hold the state
pub record Holds (s : State) (r : Reader) (frames pending rows inclusions : List ℕ) : Type 0 where
  pub state : s ≡ state_of r frames pending rows inclusions
  pub fits : Fits r frames pending rows inclusions

-- what a step of the judgement comes to in the code
abbrev pub NextOf : Step → Result Reader Refusal → List ℕ → List ℕ → List ℕ → List ℕ → Type 0
NextOf (go s) (Ok r) frames pending rows inclusions = Holds s r frames pending rows inclusions
NextOf (go s) (Err q) frames pending rows inclusions = ⊥
NextOf (stop p) (Ok r) frames pending rows inclusions = ⊥
NextOf (stop p) (Err q) frames pending rows inclusions = q ≡ p

-- ---- what the functions do to a state that is held, whatever stands in the buffers that they are not lent
abbrev pub waiting : Reader → ℕ → Reader
waiting r want = record { depth = r.depth; used = r.used; count = r.count; pairs = r.pairs; want = want }

-- the innermost frame has room for a class
abbrev pub room_at : Reader → List ℕ → List ℕ → Bool
room_at r frames pending = has_room (frame_of (r.depth - 1) r.used frames pending)

-- what comes first in a bracket of that kind
pub record FirstOf (kind want : ℕ) : Type 0 where
  pub behind : 2 < want
  pub is-first : want_of want ≡ first (kind_of kind)

abbrev pub Opens : Reader → ℕ → List ℕ → List ℕ → Result Reader Refusal → Type 0
Opens r place frames frames' next =
    (pending rows inclusions : List ℕ) → Fits r frames pending rows inclusions
    → NextOf (step (state_of r frames pending rows inclusions) (record { place = place; token = opening })) next frames' pending rows
    inclusions

abbrev pub Roles : Reader → ℕ → Word → List ℕ → List ℕ → Result Reader Refusal → Type 0
Roles r place word frames frames' next =
    (pending rows inclusions : List ℕ) → Fits r frames pending rows inclusions
    → NextOf (of_role place (state_of r frames pending rows inclusions) word) next frames' pending rows inclusions

abbrev pub Starts : Reader → ℕ → Word → Result Reader Refusal → Type 0
Starts r place word next =
    (frames pending rows inclusions : List ℕ) → r.depth ≡ 0 → Fits r frames pending rows inclusions
    → NextOf (outside place (state_of r frames pending rows inclusions) word) next frames pending rows inclusions

abbrev pub Closes : Reader → List ℕ → List ℕ → List ℕ → List ℕ → List ℕ → Result Reader Refusal → Type 0
Closes r row pending pending' rows rows' next =
    (frames inclusions : List ℕ) → Fits r frames pending rows inclusions
    → NextOf (closed row (frames_of r.depth r.used frames pending) (state_of r frames pending rows inclusions)) next frames
    pending' rows' inclusions

abbrev pub Begins : Reader → ℕ → Word → List ℕ → List ℕ → List ℕ → List ℕ → Result Reader Refusal → Type 0
Begins r place word pending pending' rows rows' next =
    (frames inclusions : List ℕ) → Fits r frames pending rows inclusions
    → NextOf (begun place (state_of r frames pending rows inclusions) word) next frames pending' rows' inclusions

-- the frame that closes, behind which the reader `outer` goes on; its members end in front of `used`
abbrev pub closing-frame : Kind → ℕ → Reader → ℕ → List ℕ → Frame
closing-frame kind r outer used pending = record { kind = kind; role = r; members = between outer.used used pending }

-- the innermost frame's members are counted right, whatever the members are
abbrev pub TellsRoom : Reader → List ℕ → Bool → Type 0
TellsRoom r frames answer = (pending : List ℕ) → length pending ≡ 192 → r.used ≤ 192 → answer ≡ room_at r frames pending

abbrev pub Shuts : ℕ → Frame → Reader → List ℕ → List ℕ → List ℕ → List ℕ → List ℕ → List ℕ → List ℕ → Result Reader Refusal → Type 0
Shuts place f outer frames pending pending' rows rows' inclusions inclusions' next =
    Fits outer frames pending rows inclusions
    → NextOf (shut place f (frames_of outer.depth outer.used frames pending) (state_of outer frames pending rows inclusions))
    next frames pending' rows'
    inclusions'

-- a word, by what may come next and by the frames
abbrev pub word_step : ℕ → State → Want → List Frame → Word → Step
word_step place s item [] word = outside place s word
word_step place s item (f ∷ fs) word = go_if (has_room f) (begun place s word) (BadSyntax place)
word_step place s (bracket kind) fs word = stop (BadSyntax place)
word_step place s role fs word = of_role place s word

-- a closing bracket whose frame has that kind; frames, and the rows or the inclusions, are not lent
abbrev pub ShutsAxiom : Reader → ℕ → ℕ → List ℕ → List ℕ → List ℕ → Result Reader Refusal → Type 0
ShutsAxiom outer used place pending inclusions inclusions' next =
    (frames rows : List ℕ)
    → Shuts place (closing-frame subclass 0 outer used pending) outer frames pending pending rows rows inclusions inclusions' next

abbrev pub ShutsClass : Kind → ℕ → Reader → ℕ → ℕ → List ℕ → List ℕ → List ℕ → List ℕ → Result Reader Refusal → Type 0
ShutsClass kind r outer used place pending pending' rows rows' next =
    (frames inclusions : List ℕ)
    → Shuts place (closing-frame kind r outer used pending) outer frames pending pending' rows rows' inclusions inclusions next
