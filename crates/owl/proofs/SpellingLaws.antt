-- Which words are read as what.
use Prim.Native.Nat.{ℕ, ◌+◌, ◌≤◌}
use mathlib.Core.Path.{◌≡◌, refl, sym, ap, ◌∙◌}
use mathlib.Core.List.{List, ◌∷◌, ◌++◌, append-nil}
use mathlib.Core.Bool.{Bool, true, false, not}
use native.Mathlib.Omega.{arith}
use lib.ListN.{length, drop, length-append, length-drop, drop_of_length-le}
use lib.Seq.{drop-append_seam}
use borrow.Author.Tests.{eqb-true, ltb-true, ltb-false, lt-ltb, le-ltb, eq-eqb, not-true}
use Rattle.subsumption.specs.Tables.{both}
use Rattle.subsumption.proofs.Bools.{both_true, both-intro, both-none, both-second}
use Rattle.numerals.specs.declared.reading.Run.{Run}
use Rattle.numerals.specs.Bytes.{starts}
use Rattle.numerals.specs.Digits.{digits}
use Rattle.numerals.specs.Reading.{run_of}
use Rattle.numerals.proofs.ReadingLaws.{starts-front, starts-right}
use Rattle.numerals.proofs.DigitLaws.{digits-some, run-of-digits, run-digits}
use Rattle.owl.specs.declared.words.Word.{Word}
use Rattle.owl.specs.declared.words.Word.TheVariants.{AxiomKey, TopKey, AndKey, SomeKey, NameOf, RoleOf, Other}
use Rattle.owl.specs.Words.{axiom_text, top_text, and_text, some_text, name_key, role_key, is_text, pick_word, is_numbered, read_word}

-- ---- what a word that is read so is
text-is : (text w : List ℕ) → is_text text w ≡ true → w ≡ text
unfolding is_text
text-is text w h =
    let p = both_true _ _ h in
    let q : length w ≡ length text = eqb-true _ _ p.0 in
    starts-front text w p.1 ∙ ap (λ (z : List ℕ). text ++ z) (drop_of_length-le w {i = length text} (omega arith)) ∙ append-nil text

-- the number behind a key
pub record Numbered (key : List ℕ) (most : ℕ) (w : List ℕ) (n : ℕ) : Type 0 where
  pub text : w ≡ key ++ digits n
  pub small : n ≤ most

numbered_is : (key : List ℕ) (most : ℕ) (w : List ℕ) → is_numbered key most w ≡ true → Numbered key most w (run_of (drop (length key) w)).value
unfolding is_numbered
numbered_is key most w h =
    let p = both_true _ _ h in
    let q = both_true _ _ p.1 in
    let r = both_true _ _ q.1 in
    let size : length key + (run_of (drop (length key) w)).length ≡ length w = eqb-true _ _ r.0 in
    record {
      text = starts-front key w p.0 ∙ ap (λ (z : List ℕ). key ++ z) (run-digits (drop (length key) w) (ltb-true _ _ q.0) (omega (arith, length-drop (length key) w)));
      small = ltb-false _ _ (not-true _ r.1);
    }

-- What a reading tells of its word.
abbrev pub Spelt : List ℕ → Word → Type 0
Spelt w AxiomKey = w ≡ axiom_text
Spelt w TopKey = w ≡ top_text
Spelt w AndKey = w ≡ and_text
Spelt w SomeKey = w ≡ some_text
Spelt w (NameOf n) = Numbered name_key 999 w n
Spelt w (RoleOf n) = Numbered role_key 99 w n
Spelt w Other = Unit {0}

picked : (P : Word → Type 0) (test : Bool) (a b : Word) → (test ≡ true → P a) → P b → P (pick_word test a b)
unfolding pick_word
picked P true a b h k = h refl
picked P false a b h k = k

pub spelt : (w : List ℕ) → Spelt w (read_word w)
unfolding read_word
spelt w =
    picked (Spelt w) _ AxiomKey _ (text-is axiom_text w)
    (picked (Spelt w) _ TopKey _ (text-is top_text w)
    (picked (Spelt w) _ AndKey _ (text-is and_text w)
    (picked (Spelt w) _ SomeKey _ (text-is some_text w)
    (picked (Spelt w) _ (NameOf _) _ (numbered_is name_key 999 w) (picked (Spelt w) _ (RoleOf _) _ (numbered_is role_key 99 w) tt)))))

-- ---- what a word is read as
pub axiom-read : read_word axiom_text ≡ AxiomKey
unfolding read_word pick_word is_text both starts
axiom-read = refl

pub top_read : read_word top_text ≡ TopKey
unfolding read_word pick_word is_text both starts
top_read = refl

pub and-read : read_word and_text ≡ AndKey
unfolding read_word pick_word is_text both starts
and-read = refl

pub some_read : read_word some_text ≡ SomeKey
unfolding read_word pick_word is_text both starts
some_read = refl

other_text : (text w : List ℕ) → starts text w ≡ false → is_text text w ≡ false
unfolding is_text
other_text text w h = both-second _ _ h

other_key : (key : List ℕ) (most : ℕ) (w : List ℕ) → starts key w ≡ false → is_numbered key most w ≡ false
unfolding is_numbered
other_key key most w h = both-none _ _ h

module _ (key : List ℕ) (most n : ℕ) (low : most ≤ 65535) (small : n ≤ most) where
  behind : run_of (drop (length key) (key ++ digits n)) ≡ record { value = n; length = length (digits n) }
  behind = rw drop-append_seam (run-of-digits n (omega arith))

  own_key : is_numbered key most (key ++ digits n) ≡ true
  unfolding is_numbered
  own_key =
      both-intro _ _ (starts-right key (digits n))
      (rw behind
      (both-intro _ _ (lt-ltb 0 (length (digits n)) (digits-some n))
      (both-intro _ _ (eq-eqb _ _ (sym (length-append key (digits n)))) (ap not (le-ltb most n small)))))

passed : (test : Bool) (a b : Word) → test ≡ false → pick_word test a b ≡ b
unfolding pick_word
passed test a b h = rw h

taken : (test : Bool) (a b : Word) → test ≡ true → pick_word test a b ≡ a
unfolding pick_word
taken test a b h = rw h

-- no keyword starts with a colon
module _ (rest : List ℕ) where
  behind-keywords :
      read_word (58 ∷ rest)
      ≡ pick_word (is_numbered name_key 999 (58 ∷ rest)) (NameOf (run_of (drop 2 (58 ∷ rest))).value)
      (pick_word (is_numbered role_key 99 (58 ∷ rest)) (RoleOf (run_of (drop 2 (58 ∷ rest))).value) Other)
  unfolding read_word starts both
  behind-keywords =
      passed _ AxiomKey _ (other_text axiom_text (58 ∷ rest) refl)
      ∙ (passed _ TopKey _ (other_text top_text (58 ∷ rest) refl)
      ∙ (passed _ AndKey _ (other_text and_text (58 ∷ rest) refl) ∙ passed _ SomeKey _ (other_text some_text (58 ∷ rest) refl)))

pub name-read : (n : ℕ) → n ≤ 999 → read_word (name_key ++ digits n) ≡ NameOf n
name-read n h =
    behind-keywords (99 ∷ digits n)
    ∙ (taken _ _ _ (own_key name_key 999 n (omega arith) h) ∙ ap (λ (z : Run). NameOf z.value) (behind name_key 999 n (omega arith) h))

pub role-read : (n : ℕ) → n ≤ 99 → read_word (role_key ++ digits n) ≡ RoleOf n
unfolding starts both
role-read n h =
    behind-keywords (114 ∷ digits n)
    ∙ (passed _ _ _ (other_key name_key 999 (role_key ++ digits n) refl)
    ∙ (taken _ _ _ (own_key role_key 99 n (omega arith) h) ∙ ap (λ (z : Run). RoleOf z.value) (behind role_key 99 n (omega arith) h)))
