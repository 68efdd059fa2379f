-- Tokens that take the judgement from a state to another, whatever comes behind them.
use Prim.Native.Nat.{ℕ, suc, ◌+◌, ◌-◌, ◌*◌, ◌<◌, ◌≤◌}
use mathlib.Core.Path.{◌≡◌, refl, sym, ap, ◌∙◌, subst}
use mathlib.Core.List.{List, [], ◌∷◌, ◌++◌, append_assoc}
use mathlib.Core.Bool.{true}
use native.Mathlib.Omega.{arith}
use lib.Dec.{ltb}
use lib.ListN.{length, length-append}
use borrow.Author.Tests.{lt-ltb}
use Rattle.subsumption.specs.Tables.{count_of}
use Rattle.numerals.specs.Digits.{digits}
use Rattle.subsumption.specs.declared.refusal.Refusal.{Refusal}
use Rattle.owl.specs.declared.words.Word.{Word}
use Rattle.owl.specs.declared.words.Word.TheVariants.{TopKey, AndKey, SomeKey, NameOf}
use Rattle.owl.specs.Tokens.{Token, opening, closing, word, Placed}
use Rattle.owl.specs.Words.{axiom_text, top_text, and_text, some_text, name_key, role_key, read_word}
use Rattle.owl.specs.Judgement.{Kind, subclass, meet, exist, Frame, Want, item, bracket, role, State, Step, go, go_if, keyed, first, opened, roled, joins, closed, pair_rows, meet_rows, shut_by, shut, has_room, begun, outside, of_role, item_step, bracket_step, role_step, step_on, step, onward, run}
use Rattle.owl.specs.Grammar.{unplaced}
use Rattle.owl.proofs.EntryLaws.{last_of, last-is, pairs-length}
use Rattle.owl.proofs.SpellingLaws.{axiom-read, top_read, and-read, some_read, name-read, role-read}

abbrev pub Passes : State → List Token → State → Type 0
Passes s written s' =
    (end : ℕ) (ts : List Placed) (rest : List Token) → unplaced ts ≡ written ++ rest
    → (ts' : List Placed) × (unplaced ts' ≡ rest) × (run end ts s ≡ run end ts' s')

pub pass-none : (s : State) → Passes s [] s
pass-none s end ts rest e = (ts, e, refl)

pub pass_on : (s s' s'' : State) (a b : List Token) → Passes s a s' → Passes s' b s'' → Passes s (a ++ b) s''
pass_on s s' s'' a b p q end ts rest e =
    let x = p end ts (b ++ rest) (e ∙ append_assoc a b rest) in
    let y = q end x.0 rest x.1 in
    (y.0, y.1, x.2 ∙ y.2)

abbrev pub placed : ℕ → Token → Placed
placed place t = record { place = place; token = t }

pub pass-one : (s s' : State) (t : Token) → ((place : ℕ) → step s (placed place t) ≡ go s') → Passes s (t ∷ []) s'
unfolding unplaced run onward
pass-one s s' t h end [] rest e = absurd (let z : ◌≡◌ {A = ℕ} 0 1 = cc e in omega arith)
pass-one s s' t h end (p ∷ ts) rest e =
    let same : p.token ≡ t = cc e in
    let left : unplaced ts ≡ rest = cc e in
    let goes : step s p ≡ go s' = subst (λ (z : Token). step s (placed p.place z) ≡ go s') (sym same) (h p.place) in
    (ts, left, ap (λ (z : Step). onward z (run end ts)) goes)

-- ---- single steps
abbrev pub inside : List Frame → Want → List ℕ → List ℕ → State
inside frames want rows inclusions = record { frames = frames; want = want; rows = rows; inclusions = inclusions }

abbrev pub frame : Kind → ℕ → List ℕ → Frame
frame kind r ids = record { kind = kind; role = r; members = ids }

pub closed-goes :
    (added : List ℕ) (frames : List Frame) (s : State) (n k : ℕ) → length s.rows ≡ n * 3 → length added ≡ k * 3 → n + k ≤ 192
    → closed added frames s ≡ go (inside (joins (n + k - 1) frames) item (s.rows ++ added) s.inclusions)
unfolding closed go_if
closed-goes added frames s n k e f few =
    let q : count_of (s.rows ++ added) ≡ n + k = omega (arith, length-append s.rows added) in
    rw (q, lt-ltb (n + k) 193 (omega arith)) refl

closed-one :
    (added : List ℕ) (frames : List Frame) (s : State) (n : ℕ) → length s.rows ≡ n * 3 → length added ≡ 3 → n < 192
    → closed added frames s ≡ go (inside (joins n frames) item (s.rows ++ added) s.inclusions)
closed-one added frames s n e f few =
    let q : n + 1 - 1 ≡ n = omega arith in
    closed-goes added frames s n 1 e (omega arith) (omega arith) ∙ ap (λ (z : ℕ). go (inside (joins z frames) item (s.rows ++ added) s.inclusions)) q

-- a word in front of a class, where there is room
module _ (f : Frame) (fs : List Frame) (rows inclusions : List ℕ) (room : has_room f ≡ true) (deep : length (f ∷ fs) ≤ 32) where
  word-step :
      (place : ℕ) (w : List ℕ) (read : Word) → read_word w ≡ read
      → step (inside (f ∷ fs) item rows inclusions) (placed place (word w)) ≡ begun place (inside (f ∷ fs) item rows inclusions) read
  unfolding step step_on item_step go_if
  word-step place w read e = rw (room, e) refl

  begins : (a : Step) (r : Refusal) → go_if (ltb (length (f ∷ fs)) 33) a r ≡ a
  unfolding go_if
  begins a r = rw (lt-ltb (length (f ∷ fs)) 33 (omega arith)) refl

  pub pass-and : Passes (inside (f ∷ fs) item rows inclusions) (word and_text ∷ opening ∷ []) (inside (frame meet 0 [] ∷ f ∷ fs) item rows inclusions)
  unfolding begun keyed step step_on bracket_step opened first
  pass-and =
      pass_on _ (inside (f ∷ fs) (bracket meet) rows inclusions) _ (word and_text ∷ []) (opening ∷ [])
      (pass-one _ _ _ (λ place. word-step place and_text AndKey and-read ∙ begins _ _)) (pass-one _ _ _ (λ place. refl))

  pub pass-some :
      (r : ℕ) → r ≤ 99
      → Passes (inside (f ∷ fs) item rows inclusions) (word some_text ∷ opening ∷ word (role_key ++ digits r) ∷ [])
      (inside (frame exist r [] ∷ f ∷ fs) item rows inclusions)
  unfolding begun keyed step step_on bracket_step opened first role_step of_role roled
  pass-some r low =
      pass_on _ (inside (f ∷ fs) (bracket exist) rows inclusions) _ (word some_text ∷ []) (opening ∷ word (role_key ++ digits r) ∷ [])
      (pass-one _ _ _ (λ place. word-step place some_text SomeKey some_read ∙ begins _ _))
      (pass_on _ (inside (frame exist 0 [] ∷ f ∷ fs) role rows inclusions) _ (opening ∷ []) (word (role_key ++ digits r) ∷ [])
      (pass-one _ _ _ (λ place. refl))
      (pass-one _ _ _
      (λ place. ap (of_role place (inside (frame exist 0 [] ∷ f ∷ fs) role rows inclusions)) (role-read r low))))

  module _ (n : ℕ) (size : length rows ≡ n * 3) (few : n < 192) where
    pub pass-thing : Passes (inside (f ∷ fs) item rows inclusions) (word top_text ∷ []) (inside (joins n (f ∷ fs)) item (rows ++ (0 ∷ 0 ∷ 0 ∷ [])) inclusions)
    unfolding begun
    pass-thing =
        pass-one _ _ _ (λ place. word-step place top_text TopKey top_read ∙ begins _ _ ∙ closed-one (0 ∷ 0 ∷ 0 ∷ []) (f ∷ fs) (inside (f ∷ fs) item rows inclusions) n size refl few)

    pub pass-named :
        (m : ℕ) → m ≤ 999
        → Passes (inside (f ∷ fs) item rows inclusions) (word (name_key ++ digits m) ∷ []) (inside (joins n (f ∷ fs)) item (rows ++ (1 ∷ m ∷ 0 ∷ [])) inclusions)
    unfolding begun
    pass-named m low =
        pass-one _ _ _
        (λ place. word-step place (name_key ++ digits m) (NameOf m) (name-read m low) ∙ begins _ _ ∙ closed-one (1 ∷ m ∷ 0 ∷ []) (f ∷ fs) (inside (f ∷ fs) item rows inclusions) n size refl few)

-- ---- a closing bracket
module _ (fs : List Frame) (rows inclusions : List ℕ) where
  pub pass-shut-some :
      (r i n : ℕ) → length rows ≡ n * 3 → n < 192
      → Passes (inside (frame exist r (i ∷ []) ∷ fs) item rows inclusions) (closing ∷ []) (inside (joins n fs) item (rows ++ (2 ∷ r ∷ i ∷ [])) inclusions)
  unfolding step step_on item_step shut shut_by go_if
  pass-shut-some r i n size few =
      pass-one _ _ _ (λ place. closed-one (2 ∷ r ∷ i ∷ []) fs (inside (frame exist r (i ∷ []) ∷ fs) item rows inclusions) n size refl few)

  pub pass-shut-axiom :
      (l r : ℕ) → Passes (inside (frame subclass 0 (l ∷ r ∷ []) ∷ fs) item rows inclusions) (closing ∷ []) (inside fs item rows (inclusions ++ (l ∷ r ∷ [])))
  unfolding step step_on item_step shut shut_by go_if
  pass-shut-axiom l r = pass-one _ _ _ (λ place. refl)

  pub pass-shut-meet :
      (i : ℕ) (ids : List ℕ) (n : ℕ) → 0 < length ids → length rows ≡ n * 3 → n + length ids ≤ 192
      → Passes (inside (frame meet 0 (i ∷ ids) ∷ fs) item rows inclusions) (closing ∷ [])
      (inside (joins (last_of n i ids) fs) item (rows ++ pair_rows n i ids) inclusions)
  unfolding step step_on item_step shut shut_by go_if meet_rows
  pass-shut-meet i ids n some size few =
      let count : count_of rows ≡ n = omega arith in
      let last : n + length ids - 1 ≡ last_of n i ids = omega (arith, last-is n i ids some) in
      pass-one _ _ _
      (λ place. rw (lt-ltb 1 (suc (length ids)) (omega arith), count)
      (closed-goes (pair_rows n i ids) fs (inside (frame meet 0 (i ∷ ids) ∷ fs) item rows inclusions) n (length ids) size (pairs-length n i ids) few
      ∙ ap (λ (z : ℕ). go (inside (joins z fs) item (rows ++ pair_rows n i ids) inclusions)) last))

pub pass-axiom : (rows inclusions : List ℕ) → Passes (inside [] item rows inclusions) (word axiom_text ∷ opening ∷ []) (inside (frame subclass 0 [] ∷ []) item rows inclusions)
unfolding step step_on item_step outside keyed bracket_step opened first
pass-axiom rows inclusions =
    pass_on _ (inside [] (bracket subclass) rows inclusions) _ (word axiom_text ∷ []) (opening ∷ [])
    (pass-one _ _ _ (λ place. ap (outside place (inside [] item rows inclusions)) axiom-read)) (pass-one _ _ _ (λ place. refl))
