-- The judgement, token by token.
use Rattle.std.specs.Prelude.{Result, Ok, Err}
use Prim.Native.Nat.{ℕ, zero, suc, ◌-◌, ◌<◌, ◌≤◌}
use mathlib.Core.Path.{◌≡◌, refl, sym, ap, ◌∙◌, subst}
use mathlib.Core.List.{List, [], ◌∷◌}
use mathlib.Core.Bool.{Bool, true, false, not}
use native.Mathlib.Omega.{arith}
use lib.Dec.{ltb}
use lib.ListN.{length, get_or, take, drop, drop_of_length-le, length-take, length-drop}
use borrow.Author.Tests.{lt-ltb, le-ltb, eq-eqb, ne_eqb, not-true, not-false}
use Rattle.subsumption.specs.declared.refusal.Refusal.{Refusal}
use Rattle.subsumption.specs.declared.refusal.Refusal.TheVariants.{BadSyntax, TooDeep}
use Rattle.subsumption.specs.Tables.{or}
use Rattle.owl.specs.declared.words.Word.{Word}
use Rattle.owl.specs.declared.words.Word.TheVariants.{AxiomKey, TopKey, AndKey, SomeKey, NameOf, RoleOf, Other}
use Rattle.owl.specs.declared.frames.Reader.{Reader}
use Rattle.owl.specs.Tokens.{Token, opening, closing, word, Placed, is_space, is_bracket, bracket_of, tokens_from}
use Rattle.owl.specs.Words.{read_word}
use Rattle.owl.specs.Judgement.{Kind, subclass, meet, exist, Frame, Want, item, bracket, role, State, Step, go, stop, go_if, keyed, closed, begun, outside, item_step, bracket_step, role_step, step_on, step, ended, onward, run, start, judge}
use Rattle.owl.specs.Inner.Tokens.{Skips, Ends, token_of, token_at}
use Rattle.owl.specs.Inner.Frames.{want_of, frames_of, start_of, state_of, Fits, NextOf, waiting, TellsRoom, Opens, Roles, Starts, Closes, Begins, word_step}
use Rattle.owl.specs.Inner.Judging.{deep_next, StepsOnWord, ShutsFrame, Steps, EndsText, Judged}
use Rattle.owl.proofs.FrameLaws.{frames-count, top_frame, top-nested, stops, goes, waits}

-- ---- a word between axioms
abbrev NoAxiom : Word → Type 0
NoAxiom AxiomKey = ⊥
NoAxiom TopKey = Unit {0}
NoAxiom AndKey = Unit {0}
NoAxiom SomeKey = Unit {0}
NoAxiom (NameOf n) = Unit {0}
NoAxiom (RoleOf q) = Unit {0}
NoAxiom Other = Unit {0}

module _ (place : ℕ) (s : State) where
  outside-off : (w : Word) → NoAxiom w → outside place s w ≡ stop (BadSyntax place)
  unfolding outside
  outside-off AxiomKey n = absurd n
  outside-off TopKey n = refl
  outside-off AndKey n = refl
  outside-off SomeKey n = refl
  outside-off (NameOf k) n = refl
  outside-off (RoleOf q) n = refl
  outside-off Other n = refl

  outside-on : (w : Word) → w ≡ AxiomKey → outside place s w ≡ keyed subclass s
  unfolding outside
  outside-on w e = rw e refl

module _ (r : Reader) (place : ℕ) (w : Word) where
  pub starts-not : (v : Word) → w ≡ v → NoAxiom v → Starts r place w (Err (BadSyntax place))
  starts-not v e n frames pending rows inclusions d f =
      stops frames pending rows inclusions _ _ (outside-off place _ w (subst NoAxiom (sym e) n))

  pub starts : (next : Result Reader Refusal) → w ≡ AxiomKey → next ≡ Ok (waiting r 0) → Starts r place w next
  unfolding keyed
  starts next e g frames pending rows inclusions d f =
      subst (λ (x : Result Reader Refusal). NextOf (outside place (state_of r frames pending rows inclusions) w) x frames pending rows inclusions) (sym g)
      (goes frames pending rows inclusions _ (state_of (waiting r 0) frames pending rows inclusions) (waiting r 0) (outside-on place _ w e) refl
      (waits frames pending rows inclusions r 0 (λ h. omega arith) (λ h. absurd (omega arith)) f))

-- ---- a class begins
abbrev NoClass : Word → Type 0
NoClass AxiomKey = Unit {0}
NoClass TopKey = ⊥
NoClass AndKey = ⊥
NoClass SomeKey = ⊥
NoClass (NameOf n) = ⊥
NoClass (RoleOf q) = Unit {0}
NoClass Other = Unit {0}

abbrev IsClass : Word → Type 0
IsClass AxiomKey = ⊥
IsClass TopKey = Unit {0}
IsClass AndKey = Unit {0}
IsClass SomeKey = Unit {0}
IsClass (NameOf n) = Unit {0}
IsClass (RoleOf q) = ⊥
IsClass Other = ⊥

module _ (place : ℕ) (s : State) where
  begun-off : (w : Word) → NoClass w → begun place s w ≡ stop (BadSyntax place)
  unfolding begun
  begun-off AxiomKey n = refl
  begun-off TopKey n = absurd n
  begun-off AndKey n = absurd n
  begun-off SomeKey n = absurd n
  begun-off (NameOf k) n = absurd n
  begun-off (RoleOf q) n = refl
  begun-off Other n = refl

  begun-deep :
      (w : Word) → ltb (length s.frames) 33 ≡ false → (frames pending rows inclusions : List ℕ)
      → NextOf (begun place s w) (deep_next w place) frames pending rows inclusions
  unfolding begun go_if deep_next
  begun-deep AxiomKey h frames pending rows inclusions = refl
  begun-deep TopKey h frames pending rows inclusions = stops frames pending rows inclusions (begun place s TopKey) (TooDeep place) (rw h refl)
  begun-deep AndKey h frames pending rows inclusions = stops frames pending rows inclusions (begun place s AndKey) (TooDeep place) (rw h refl)
  begun-deep SomeKey h frames pending rows inclusions = stops frames pending rows inclusions (begun place s SomeKey) (TooDeep place) (rw h refl)
  begun-deep (NameOf n) h frames pending rows inclusions = stops frames pending rows inclusions (begun place s (NameOf n)) (TooDeep place) (rw h refl)
  begun-deep (RoleOf q) h frames pending rows inclusions = refl
  begun-deep Other h frames pending rows inclusions = refl

  module _ (h : ltb (length s.frames) 33 ≡ true) (w : Word) where
    begun-top : w ≡ TopKey → begun place s w ≡ closed (0 ∷ 0 ∷ 0 ∷ []) s.frames s
    unfolding begun go_if
    begun-top e = rw (e, h) refl

    begun-name : (n : ℕ) → w ≡ NameOf n → begun place s w ≡ closed (1 ∷ n ∷ 0 ∷ []) s.frames s
    unfolding begun go_if
    begun-name n e = rw (e, h) refl

    begun-and : w ≡ AndKey → begun place s w ≡ keyed meet s
    unfolding begun go_if
    begun-and e = rw (e, h) refl

    begun-some : w ≡ SomeKey → begun place s w ≡ keyed exist s
    unfolding begun go_if
    begun-some e = rw (e, h) refl

module _ (r : Reader) (place : ℕ) (w : Word) (pending rows : List ℕ) where
  pub begins-not : (v : Word) → w ≡ v → NoClass v → Begins r place w pending pending rows rows (Err (BadSyntax place))
  begins-not v e n frames inclusions f = stops frames pending rows inclusions _ _ (begun-off place _ w (subst NoClass (sym e) n))

  pub begins-deep : (next : Result Reader Refusal) → 32 < r.depth → next ≡ deep_next w place → Begins r place w pending pending rows rows next
  begins-deep next h g frames inclusions f =
      subst (λ (x : Result Reader Refusal). NextOf (begun place (state_of r frames pending rows inclusions) w) x frames pending rows inclusions) (sym g)
      (begun-deep place (state_of r frames pending rows inclusions) w
      (rw (frames-count r.depth r.used frames pending) (le-ltb r.depth 33 (omega arith))) frames pending rows inclusions)

  module _ (h : r.depth ≤ 32) where
    shallow : (frames : List ℕ) → ltb (length (frames_of r.depth r.used frames pending)) 33 ≡ true
    shallow frames = rw (frames-count r.depth r.used frames pending) (lt-ltb r.depth 33 (omega arith))

    pub begins-top :
        (pending' rows' : List ℕ) (next : Result Reader Refusal) → w ≡ TopKey → Closes r (0 ∷ 0 ∷ 0 ∷ []) pending pending' rows rows' next
        → Begins r place w pending pending' rows rows' next
    begins-top pending' rows' next e c frames inclusions f =
        subst (λ (z : Step). NextOf z next frames pending' rows' inclusions) (sym (begun-top place (state_of r frames pending rows inclusions) (shallow frames) w e))
        (c frames inclusions f)

    pub begins-name :
        (pending' rows' : List ℕ) (next : Result Reader Refusal) (n : ℕ) → w ≡ NameOf n → Closes r (1 ∷ n ∷ 0 ∷ []) pending pending' rows rows' next
        → Begins r place w pending pending' rows rows' next
    begins-name pending' rows' next n e c frames inclusions f =
        subst (λ (z : Step). NextOf z next frames pending' rows' inclusions) (sym (begun-name place (state_of r frames pending rows inclusions) (shallow frames) w n e))
        (c frames inclusions f)

    pub begins-and : (next : Result Reader Refusal) → w ≡ AndKey → next ≡ Ok (waiting r 1) → Begins r place w pending pending rows rows next
    unfolding keyed
    begins-and next e g frames inclusions f =
        subst (λ (x : Result Reader Refusal). NextOf (begun place (state_of r frames pending rows inclusions) w) x frames pending rows inclusions) (sym g)
        (goes frames pending rows inclusions _ (state_of (waiting r 1) frames pending rows inclusions) (waiting r 1)
        (begun-and place (state_of r frames pending rows inclusions) (shallow frames) w e) refl
        (waits frames pending rows inclusions r 1 (λ k. omega arith) (λ k. absurd (omega arith)) f))

    pub begins-some : (next : Result Reader Refusal) → w ≡ SomeKey → next ≡ Ok (waiting r 2) → Begins r place w pending pending rows rows next
    unfolding keyed
    begins-some next e g frames inclusions f =
        subst (λ (x : Result Reader Refusal). NextOf (begun place (state_of r frames pending rows inclusions) w) x frames pending rows inclusions) (sym g)
        (goes frames pending rows inclusions _ (state_of (waiting r 2) frames pending rows inclusions) (waiting r 2)
        (begun-some place (state_of r frames pending rows inclusions) (shallow frames) w e) refl
        (waits frames pending rows inclusions r 2 (λ k. omega arith) (λ k. absurd (omega arith)) f))

-- ---- a word where a class would be too deep
module _ (w : Word) (place : ℕ) where
  pub deep-bad : (v : Word) → w ≡ v → NoClass v → Err (BadSyntax place) ≡ deep_next w place
  unfolding deep_next
  deep-bad AxiomKey e n = rw e refl
  deep-bad TopKey e n = absurd n
  deep-bad AndKey e n = absurd n
  deep-bad SomeKey e n = absurd n
  deep-bad (NameOf k) e n = absurd n
  deep-bad (RoleOf q) e n = rw e refl
  deep-bad Other e n = rw e refl

  pub deep-class : (v : Word) → w ≡ v → IsClass v → Err (TooDeep place) ≡ deep_next w place
  unfolding deep_next
  deep-class AxiomKey e n = absurd n
  deep-class TopKey e n = rw e refl
  deep-class AndKey e n = rw e refl
  deep-class SomeKey e n = rw e refl
  deep-class (NameOf k) e n = rw e refl
  deep-class (RoleOf q) e n = absurd n
  deep-class Other e n = absurd n

-- ---- what may come next
want-role : (want : ℕ) → 3 < want → want_of want ≡ role
want-role zero h = absurd (omega arith)
want-role (suc zero) h = absurd (omega arith)
want-role (suc (suc zero)) h = absurd (omega arith)
want-role (suc (suc (suc zero))) h = absurd (omega arith)
want-role (suc (suc (suc (suc want)))) h = refl

want-bracket : (want : ℕ) → want < 3 → (kind : Kind) × (want_of want ≡ bracket kind)
want-bracket zero h = (subclass, refl)
want-bracket (suc zero) h = (meet, refl)
want-bracket (suc (suc zero)) h = (exist, refl)
want-bracket (suc (suc (suc want))) h = absurd (omega arith)

no_frames : (depth used : ℕ) (frames pending : List ℕ) → depth ≡ 0 → frames_of depth used frames pending ≡ []
unfolding frames_of
no_frames depth used frames pending e = rw e refl

-- ---- a word
module _ (r : Reader) (place : ℕ) (w : Word) (frames pending rows : List ℕ) where
  pub word-role :
      (frames' : List ℕ) (next : Result Reader Refusal) → 3 < r.want → Roles r place w frames frames' next → StepsOnWord r place w frames frames' pending pending rows rows next
  word-role frames' next h c inclusions f =
      subst (λ (v : Want). NextOf (word_step place (state_of r frames pending rows inclusions) v (frames_of r.depth r.used frames pending) w) next frames' pending rows inclusions)
      (sym (want-role r.want h)) (c pending rows inclusions f)

  pub word-bracket : r.want < 3 → StepsOnWord r place w frames frames pending pending rows rows (Err (BadSyntax place))
  word-bracket h inclusions f =
      let b = want-bracket r.want h in
      subst (λ (v : Want). NextOf (word_step place (state_of r frames pending rows inclusions) v (frames_of r.depth r.used frames pending) w) (Err (BadSyntax place)) frames pending rows inclusions)
      (sym b.1) refl

  module _ (low : r.want ≤ 3) (high : 3 ≤ r.want) where
    is-item : want_of r.want ≡ item
    is-item = let z : r.want ≡ 3 = omega arith in ap want_of z

    pub word-outside : (next : Result Reader Refusal) → r.depth ≡ 0 → Starts r place w next → StepsOnWord r place w frames frames pending pending rows rows next
    word-outside next d c inclusions f =
        subst (λ (v : Want). NextOf (word_step place (state_of r frames pending rows inclusions) v (frames_of r.depth r.used frames pending) w) next frames pending rows inclusions)
        (sym is-item)
        (subst (λ (fs : List Frame). NextOf (word_step place (state_of r frames pending rows inclusions) item fs w) next frames pending rows inclusions)
        (sym (no_frames r.depth r.used frames pending d)) (c frames pending rows inclusions d f))

    module _ (some : r.depth ≡ 0 → ⊥) (answer : Bool) (tells : TellsRoom r frames answer) where
      inside :
          (inclusions : List ℕ) → Fits r frames pending rows inclusions
          → word_step place (state_of r frames pending rows inclusions) (want_of r.want) (frames_of r.depth r.used frames pending) w
          ≡ go_if answer (begun place (state_of r frames pending rows inclusions) w) (BadSyntax place)
      inside inclusions f =
          ap (λ (v : Want). word_step place (state_of r frames pending rows inclusions) v (frames_of r.depth r.used frames pending) w) is-item
          ∙ ap (λ (fs : List Frame). word_step place (state_of r frames pending rows inclusions) item fs w) (top_frame r.depth r.used frames pending (omega arith))
          ∙ ap (λ (b : Bool). go_if b (begun place (state_of r frames pending rows inclusions) w) (BadSyntax place))
          (sym (tells pending f.pending-long (omega (arith, f.bounds.few, f.bounds.apart))))

      pub word-full : not answer ≡ true → StepsOnWord r place w frames frames pending pending rows rows (Err (BadSyntax place))
      unfolding go_if
      word-full h inclusions f =
          stops frames pending rows inclusions _ _
          (inside inclusions f ∙ ap (λ (b : Bool). go_if b (begun place (state_of r frames pending rows inclusions) w) (BadSyntax place)) (not-true answer h))

      pub word-begins :
          (pending' rows' : List ℕ) (next : Result Reader Refusal) → not answer ≡ false → Begins r place w pending pending' rows rows' next
          → StepsOnWord r place w frames frames pending pending' rows rows' next
      unfolding go_if
      word-begins pending' rows' next h c inclusions f =
          subst (λ (z : Step). NextOf z next frames pending' rows' inclusions)
          (sym (inside inclusions f ∙ ap (λ (b : Bool). go_if b (begun place (state_of r frames pending rows inclusions) w) (BadSyntax place)) (not-false answer h)))
          (c frames inclusions f)

-- what the helpers of a word want
module _ (r : Reader) (frames pending rows inclusions : List ℕ) (f : Fits r frames pending rows inclusions) where
  pub role-room : 3 < r.want → (0 < r.depth) × (r.depth ≤ 33)
  role-room h = (f.bounds.role-frame h, f.bounds.deep)

  pub frame-room : (r.depth ≡ 0 → ⊥) → ((0 < r.depth) × (r.depth ≤ 33)) × (length frames ≡ 99) × (start_of (r.depth - 1) frames ≤ r.used)
  frame-room n = ((omega arith, f.bounds.deep), f.frames-long, (top-nested r.depth r.used frames (omega arith) f.nested).0)

-- ---- a closing bracket
module _ (s : State) (place : ℕ) where
  closing-due : (want : ℕ) → (want ≡ 3 → ⊥) → step_on s (record { place = place; token = closing }) (want_of want) ≡ stop (BadSyntax place)
  unfolding step_on bracket_step role_step
  closing-due zero n = refl
  closing-due (suc zero) n = refl
  closing-due (suc (suc zero)) n = refl
  closing-due (suc (suc (suc zero))) n = absurd (n refl)
  closing-due (suc (suc (suc (suc want)))) n = refl

  closing-item : (want : ℕ) → want ≡ 3 → step_on s (record { place = place; token = closing }) (want_of want) ≡ item_step place s s.frames closing
  unfolding step_on
  closing-item want e = rw e refl

  closing-none : item_step place s [] closing ≡ stop (BadSyntax place)
  unfolding item_step
  closing-none = refl

module _ (r : Reader) (place : ℕ) (frames pending rows inclusions : List ℕ) where
  pub closes-due : (r.want ≡ 3 → ⊥) → Steps r place closing frames frames pending pending rows rows inclusions inclusions (Err (BadSyntax place))
  unfolding step
  closes-due n = stops frames pending rows inclusions _ _ (closing-due (state_of r frames pending rows inclusions) place r.want n)

  pub closes-none : r.want ≡ 3 → r.depth ≡ 0 → Steps r place closing frames frames pending pending rows rows inclusions inclusions (Err (BadSyntax place))
  unfolding step
  closes-none e d =
      stops frames pending rows inclusions _ _
      (closing-item (state_of r frames pending rows inclusions) place r.want e
      ∙ ap (λ (fs : List Frame). item_step place (state_of r frames pending rows inclusions) fs closing) (no_frames r.depth r.used frames pending d)
      ∙ closing-none (state_of r frames pending rows inclusions) place)

  pub closes-frame :
      (pending' rows' inclusions' : List ℕ) (next : Result Reader Refusal) → r.want ≡ 3 → ShutsFrame r place frames pending pending' rows rows' inclusions inclusions' next
      → Steps r place closing frames frames pending pending' rows rows' inclusions inclusions' next
  unfolding step
  closes-frame pending' rows' inclusions' next e c =
      subst (λ (z : Step). NextOf z next frames pending' rows' inclusions') (sym (closing-item (state_of r frames pending rows inclusions) place r.want e)) c

-- ---- a token by its bytes
token-bracket : (token : List ℕ) → 0 < length token → is_bracket (get_or token 0 0) ≡ true → token_of token ≡ bracket_of (get_or token 0 0)
token-bracket [] h e = absurd (omega arith)
token-bracket (b ∷ rest) h e = rw (e, token_of) refl

token-word : (token : List ℕ) → 0 < length token → is_bracket (get_or token 0 0) ≡ false → token_of token ≡ word token
token-word [] h e = absurd (omega arith)
token-word (b ∷ rest) h e = rw (e, token_of) refl

token-open : (token : List ℕ) → 0 < length token → get_or token 0 0 ≡ 40 → token_of token ≡ opening
unfolding is_bracket or bracket_of
token-open token h e = token-bracket token h (rw (eq-eqb (get_or token 0 0) 40 e) refl) ∙ rw (eq-eqb (get_or token 0 0) 40 e, bracket_of) refl

token-close : (token : List ℕ) → 0 < length token → (get_or token 0 0 ≡ 40 → ⊥) → get_or token 0 0 ≡ 41 → token_of token ≡ closing
unfolding is_bracket or bracket_of
token-close token h n e =
    token-bracket token h (rw (ne_eqb (get_or token 0 0) 40 n, eq-eqb (get_or token 0 0) 41 e) refl) ∙ rw (ne_eqb (get_or token 0 0) 40 n, bracket_of) refl

token-plain : (token : List ℕ) → 0 < length token → (get_or token 0 0 ≡ 40 → ⊥) → (get_or token 0 0 ≡ 41 → ⊥) → token_of token ≡ word token
unfolding is_bracket or
token-plain token h n m = token-word token h (rw (ne_eqb (get_or token 0 0) 40 n, ne_eqb (get_or token 0 0) 41 m) refl)

word-steps :
    (s : State) (place : ℕ) (bytes : List ℕ) (want : Want) (fs : List Frame) → s.frames ≡ fs
    → step_on s (record { place = place; token = word bytes }) want ≡ word_step place s want fs (read_word bytes)
unfolding step_on item_step bracket_step role_step
word-steps s place bytes item [] e = rw e refl
word-steps s place bytes item (f ∷ fs) e = rw e refl
word-steps s place bytes (bracket kind) fs e = refl
word-steps s place bytes role fs e = refl

module _ (token : List ℕ) (some : 0 < length token) (r : Reader) (place : ℕ) (frames pending rows inclusions : List ℕ) (f : Fits r frames pending rows inclusions) where
  pub token-opens :
      (frames' : List ℕ) (next : Result Reader Refusal) → get_or token 0 0 ≡ 40 → Opens r place frames frames' next
      → Steps r place (token_of token) frames frames' pending pending rows rows inclusions inclusions next
  token-opens frames' next e c =
      subst (λ (t : Token). Steps r place t frames frames' pending pending rows rows inclusions inclusions next) (sym (token-open token some e))
      (c pending rows inclusions f)

  pub token-closes :
      (pending' rows' inclusions' : List ℕ) (next : Result Reader Refusal) → (get_or token 0 0 ≡ 40 → ⊥) → get_or token 0 0 ≡ 41
      → Steps r place closing frames frames pending pending' rows rows' inclusions inclusions' next
      → Steps r place (token_of token) frames frames pending pending' rows rows' inclusions inclusions' next
  token-closes pending' rows' inclusions' next n e c =
      subst (λ (t : Token). Steps r place t frames frames pending pending' rows rows' inclusions inclusions' next) (sym (token-close token some n e)) c

  pub token-words :
      (frames' pending' rows' : List ℕ) (next : Result Reader Refusal) (w : Word) → (get_or token 0 0 ≡ 40 → ⊥) → (get_or token 0 0 ≡ 41 → ⊥) → w ≡ read_word token
      → StepsOnWord r place w frames frames' pending pending' rows rows' next
      → Steps r place (token_of token) frames frames' pending pending' rows rows' inclusions inclusions next
  unfolding step
  token-words frames' pending' rows' next w n m e c =
      let s = state_of r frames pending rows inclusions in
      subst (λ (t : Token). Steps r place t frames frames' pending pending' rows rows' inclusions inclusions next) (sym (token-plain token some n m))
      (subst (λ (z : Step). NextOf z next frames' pending' rows' inclusions)
      (sym (word-steps s place token s.want s.frames refl ∙ ap (λ (v : Word). word_step place s s.want s.frames v) (sym e)))
      (c inclusions f))

-- ---- the end of the text
module _ (s : State) (end : ℕ) where
  ended-open : (fs : List Frame) (want : Want) → 0 < length fs → ended end s fs want ≡ stop (BadSyntax end)
  unfolding ended
  ended-open [] want h = absurd (omega arith)
  ended-open (f ∷ fs) want h = refl

  ended-due : (want : ℕ) → (want ≡ 3 → ⊥) → ended end s [] (want_of want) ≡ stop (BadSyntax end)
  unfolding ended
  ended-due zero n = refl
  ended-due (suc zero) n = refl
  ended-due (suc (suc zero)) n = refl
  ended-due (suc (suc (suc zero))) n = absurd (n refl)
  ended-due (suc (suc (suc (suc want)))) n = refl

  ended-well : (want : ℕ) → want ≡ 3 → ended end s [] (want_of want) ≡ go s
  unfolding ended
  ended-well want e = rw e refl

module _ (r : Reader) (end : ℕ) where
  pub ends_open : 0 < r.depth → EndsText r end (Err (BadSyntax end))
  ends_open h frames pending rows inclusions f =
      stops frames pending rows inclusions _ _
      (ended-open (state_of r frames pending rows inclusions) end _ _ (rw (frames-count r.depth r.used frames pending) h))

  module _ (flat : r.depth ≤ 0) where
    none : (frames pending : List ℕ) → frames_of r.depth r.used frames pending ≡ []
    none frames pending = no_frames r.depth r.used frames pending (omega arith)

    pub ends-due : (r.want ≡ 3 → ⊥) → EndsText r end (Err (BadSyntax end))
    ends-due n frames pending rows inclusions f =
        stops frames pending rows inclusions _ _
        (ap (λ (fs : List Frame). ended end (state_of r frames pending rows inclusions) fs (want_of r.want)) (none frames pending)
        ∙ ended-due (state_of r frames pending rows inclusions) end r.want n)

    pub ends-well : r.want ≡ 3 → EndsText r end (Ok r)
    ends-well e frames pending rows inclusions f =
        goes frames pending rows inclusions _ (state_of r frames pending rows inclusions) r
        (ap (λ (fs : List Frame). ended end (state_of r frames pending rows inclusions) fs (want_of r.want)) (none frames pending)
        ∙ ended-well (state_of r frames pending rows inclusions) end r.want e)
        refl f

-- ---- the whole text
module _ (text : List ℕ) where
  pub record Judging (r : Reader) (at : ℕ) (frames pending rows inclusions : List ℕ) : Type 0 where
    pub high : at ≤ length text
    pub here : at < length text → is_space (get_or text at 0) ≡ false
    pub fits : Fits r frames pending rows inclusions
    pub left : run (length text) (tokens_from at (drop at text)) (state_of r frames pending rows inclusions) ≡ judge text

  abbrev pub beginning : Reader
  beginning = record { depth = 0; used = 0; count = 0; pairs = 0; want = 3 }

  pub judging-none :
      (at : ℕ) (frames pending rows inclusions : List ℕ) → Skips text 0 at → length frames ≡ 99 → length pending ≡ 192 → length rows ≡ 576 → length inclusions ≡ 192
      → Judging beginning at frames pending rows inclusions
  unfolding judge start frames_of
  judging-none at frames pending rows inclusions s a b c d =
      record {
        high = s.high;
        here = s.here;
        fits =
            record {
              bounds = record { deep = omega arith; bracket-room = λ k. omega arith; role-frame = λ k. absurd (omega arith); few = omega arith; apart = omega arith };
              nested = tt;
              frames-long = a;
              pending-long = b;
              rows_long = c;
              inclusions-long = d;
            };
        left = ap (λ (ts : List Placed). run (length text) ts (state_of beginning frames pending rows inclusions)) (sym s.same);
      }

  pub token-some : (at end : ℕ) → Ends text at end → 0 < length (take (end - at) (drop at text))
  token-some at end e = omega (arith, e.low, e.high, length-take (end - at) (drop at text), length-drop at text)

  -- a step that went on, or stopped
  went :
      (st : Step) (r : Reader) (frames pending rows inclusions : List ℕ) → NextOf st (Ok r) frames pending rows inclusions
      → (st ≡ go (state_of r frames pending rows inclusions)) × Fits r frames pending rows inclusions
  went (go s) r frames pending rows inclusions h = (ap go h.state, h.fits)
  went (stop q) r frames pending rows inclusions h = absurd h

  stopped : (st : Step) (q : Refusal) (frames pending rows inclusions : List ℕ) → NextOf st (Err q) frames pending rows inclusions → st ≡ stop q
  stopped (go s) q frames pending rows inclusions h = absurd h
  stopped (stop p) q frames pending rows inclusions h = ap stop (sym h)

  module _
      (r : Reader) (at : ℕ) (frames pending rows inclusions : List ℕ) (j : Judging r at frames pending rows inclusions) (end : ℕ) (e : Ends text at end)
      (frames' pending' rows' inclusions' : List ℕ) (next : Result Reader Refusal)
      (st : Steps r at (token_of (take (end - at) (drop at text))) frames frames' pending pending' rows rows' inclusions inclusions' next) where
    split :
        judge text
        ≡ onward (step (state_of r frames pending rows inclusions) (token_at text at end)) (run (length text) (tokens_from end (drop end text)))
    unfolding run
    split = sym j.left ∙ ap (λ (ts : List Placed). run (length text) ts (state_of r frames pending rows inclusions)) e.split

    pub judging-more :
        (after : Reader) → next ≡ Ok after → (at' : ℕ) → Skips text end at' → Judging after at' frames' pending' rows' inclusions'
    unfolding onward
    judging-more after g at' s =
        let w = went (step (state_of r frames pending rows inclusions) (token_at text at end)) after frames' pending' rows' inclusions' (subst (λ (x : Result Reader Refusal). NextOf (step (state_of r frames pending rows inclusions) (token_at text at end)) x frames' pending' rows' inclusions') g st) in
        record {
          high = s.high;
          here = s.here;
          fits = w.1;
          left =
              ap (λ (ts : List Placed). run (length text) ts (state_of after frames' pending' rows' inclusions')) (sym s.same)
              ∙ sym (split ∙ ap (λ (z : Step). onward z (run (length text) (tokens_from end (drop end text)))) w.0);
        }

    pub judging-stops : (q : Refusal) → next ≡ Err q → Judged text (Err q) frames' pending' rows' inclusions'
    unfolding onward
    judging-stops q g =
        let w = stopped (step (state_of r frames pending rows inclusions) (token_at text at end)) q frames' pending' rows' inclusions' (subst (λ (x : Result Reader Refusal). NextOf (step (state_of r frames pending rows inclusions) (token_at text at end)) x frames' pending' rows' inclusions') g st) in
        record {
          judged = stops frames' pending' rows' inclusions' (judge text) q
              (split ∙ ap (λ (z : Step). onward z (run (length text) (tokens_from end (drop end text)))) w);
        }

  pub judging-done :
      (r : Reader) (at : ℕ) (frames pending rows inclusions : List ℕ) → Judging r at frames pending rows inclusions → length text ≤ at → (next : Result Reader Refusal)
      → EndsText r (length text) next → Judged text next frames pending rows inclusions
  unfolding run tokens_from
  judging-done r at frames pending rows inclusions j h next c =
      let e : drop at text ≡ [] = drop_of_length-le text h in
      record {
        judged =
            subst (λ (z : Step). NextOf z next frames pending rows inclusions)
            (sym (ap (λ (l : List ℕ). run (length text) (tokens_from at l) (state_of r frames pending rows inclusions)) e) ∙ j.left)
            (c frames pending rows inclusions j.fits);
      }
