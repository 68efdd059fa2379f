-- The words of the syntax.
use Prim.Native.Nat.{ℕ, suc, ◌+◌, ◌-◌, ◌*◌, ◌≤◌}
use mathlib.Core.Path.{◌≡◌, refl, sym, ap, ◌∙◌}
use mathlib.Core.List.{List, [], ◌∷◌}
use mathlib.Core.Bool.{Bool, true, false, not}
use native.Mathlib.Omega.{arith}
use lib.Dec.{eqb, ltb, leb}
use lib.ListN.{length, take, drop, length-append, length-drop}
use lib.Seq.{take_all}
use borrow.Author.Tests.{lt-ltb, le-ltb, leb-true, leb-false, eq-eqb, ne_eqb, not-true, not-false}
use Rattle.subsumption.specs.Tables.{both}
use Rattle.subsumption.proofs.Bools.{both_true}
use Rattle.numerals.specs.declared.reading.Run.{Run}
use Rattle.numerals.specs.Bytes.{starts}
use Rattle.numerals.specs.Reading.{wrong_digit, run_from, run_of}
use Rattle.numerals.proofs.ReadingLaws.{starts-front, run-wrong, run-right}
use Rattle.owl.specs.declared.words.Word.{Word}
use Rattle.owl.specs.declared.words.Word.TheVariants.{AxiomKey, TopKey, AndKey, SomeKey, NameOf, RoleOf, Other}
use Rattle.owl.specs.Words.{axiom_text, top_text, and_text, some_text, name_key, role_key, is_text, pick_word, is_numbered, read_word}
use Rattle.owl.specs.Inner.Words.{read_numbered}

-- ---- a text
module _ (text word : List ℕ) where
  pub text-other : (length word ≡ length text → ⊥) → false ≡ is_text text word
  unfolding is_text both
  text-other n = rw (ne_eqb _ _ n)

  pub text_same : (r : Bool) → length word ≡ length text → r ≡ starts text word → r ≡ is_text text word
  unfolding is_text both
  text_same r e h = rw (eq-eqb _ _ e) h

-- ---- a number behind a key
run_short : (l : List ℕ) (value count : ℕ) → (run_from value count l).length ≤ count + length l
unfolding run_from
run_short [] value count = omega arith
run_short (b ∷ l) value count = go (wrong_digit value count b) refl (run_short l _ _)
  where
    go :
        (v : Bool) → wrong_digit value count b ≡ v → (run_from (value * 10 + (b - 48)) (suc count) l).length ≤ suc count + length l
        → (run_from value count (b ∷ l)).length ≤ count + suc (length l)
    go true e ih = rw (run-wrong value count b l e) (omega arith)
    go false e ih = rw (run-right value count b l e) (omega arith)

starts-long : (key word : List ℕ) → starts key word ≡ true → length key ≤ length word
starts-long key word e = omega (arith, ap length (starts-front key word e), length-append key (drop (length key) word))

-- a part up to the end is all that is left
rest-is : (k : ℕ) (word : List ℕ) → take (length word - k) (drop k word) ≡ drop k word
rest-is k word = take_all (length word - k) (drop k word) (omega (arith, length-drop k word))

leb-not : (a b : ℕ) → leb a b ≡ not (ltb b a)
leb-not a b = go (leb a b) refl
  where
    go : (v : Bool) → leb a b ≡ v → leb a b ≡ not (ltb b a)
    go true e = e ∙ rw (le-ltb b a (leb-true a b e)) refl
    go false e = e ∙ rw (lt-ltb b a (leb-false a b e)) refl

module _ (key : List ℕ) (most : ℕ) (word : List ℕ) (r : Bool) (is : r ≡ starts key word) where
  pub numbered-off : not r ≡ true → false ≡ is_numbered key most word
  unfolding is_numbered both
  numbered-off h = rw (sym is ∙ not-true r h)

  module _ (h : not r ≡ false) where
    pub key-within : length key ≤ length word
    key-within = starts-long key word (sym is ∙ not-false r h)

    module _ (run : Run) (e : run ≡ run_of (take (length word - length key) (drop (length key) word))) where
      here : run ≡ run_of (drop (length key) word)
      here = e ∙ ap (λ (z : List ℕ). run_of z) (rest-is (length key) word)

      pub run-within : length key + run.length ≤ length word
      run-within =
          omega (arith, key-within, ap (λ (z : Run). z.length) here, run_short (drop (length key) word) 0 0, length-drop (length key) word)

      start : is_numbered key most word ≡ both (ltb 0 run.length) (both (eqb (length key + run.length) (length word)) (not (ltb most run.value)))
      unfolding is_numbered both
      start = rw (sym is ∙ not-false r h, here) refl

      pub numbered-empty : run.length ≡ 0 → false ≡ is_numbered key most word
      unfolding both
      numbered-empty z = sym (start ∙ rw (le-ltb 0 run.length (omega arith)) refl)

      module _ (some : run.length ≡ 0 → ⊥) where
        pub numbered-longer : (length key + run.length ≡ length word → ⊥) → false ≡ is_numbered key most word
        unfolding both
        numbered-longer n = sym (start ∙ rw (lt-ltb 0 run.length (omega arith), ne_eqb (length key + run.length) (length word) n) refl)

        pub numbered-whole : length key + run.length ≡ length word → leb run.value most ≡ is_numbered key most word
        unfolding both
        numbered-whole z =
            leb-not run.value most
            ∙ sym (start ∙ rw (lt-ltb 0 run.length (omega arith), eq-eqb (length key + run.length) (length word) z) refl)

-- ---- the words
module _ (word : List ℕ) where
  numbered-two : (key : List ℕ) (most : ℕ) → length key ≡ 2 → is_numbered key most word ≡ true → 2 ≤ length word
  unfolding is_numbered
  numbered-two key most e h = omega (arith, starts-long key word (both_true _ _ h).0)

  module _ (n : Bool) (is : n ≡ is_numbered name_key 999 word) where
    pub name-long : n ≡ true → 2 ≤ length word
    name-long h = numbered-two name_key 999 refl (sym is ∙ h)

    pub reads-name : (run : Run) → n ≡ true → run ≡ run_of (take (length word - 2) (drop 2 word)) → NameOf run.value ≡ read_numbered word
    unfolding read_numbered pick_word
    reads-name run h e = rw (sym is ∙ h, e ∙ ap (λ (z : List ℕ). run_of z) (rest-is 2 word))

    module _ (no : n ≡ false) (m : Bool) (is-role : m ≡ is_numbered role_key 99 word) where
      pub role-long : m ≡ true → 2 ≤ length word
      role-long h = numbered-two role_key 99 refl (sym is-role ∙ h)

      pub reads-role : (run : Run) → m ≡ true → run ≡ run_of (take (length word - 2) (drop 2 word)) → RoleOf run.value ≡ read_numbered word
      unfolding read_numbered pick_word
      reads-role run h e = rw (sym is ∙ no, sym is-role ∙ h, e ∙ ap (λ (z : List ℕ). run_of z) (rest-is 2 word))

      pub reads_other : m ≡ false → Other ≡ read_numbered word
      unfolding read_numbered pick_word
      reads_other h = rw (sym is ∙ no, sym is-role ∙ h)

  module _ (a : Bool) (is-a : a ≡ is_text axiom_text word) where
    pub reads-axiom : a ≡ true → AxiomKey ≡ read_word word
    unfolding read_word pick_word
    reads-axiom h = rw (sym is-a ∙ h)

    module _ (no-a : a ≡ false) (t : Bool) (is-t : t ≡ is_text top_text word) where
      pub reads-top : t ≡ true → TopKey ≡ read_word word
      unfolding read_word pick_word
      reads-top h = rw (sym is-a ∙ no-a, sym is-t ∙ h)

      module _ (no-t : t ≡ false) (b : Bool) (is_b : b ≡ is_text and_text word) where
        pub reads-and : b ≡ true → AndKey ≡ read_word word
        unfolding read_word pick_word
        reads-and h = rw (sym is-a ∙ no-a, sym is-t ∙ no-t, sym is_b ∙ h)

        module _ (no-b : b ≡ false) (s : Bool) (is-s : s ≡ is_text some_text word) where
          pub reads-some : s ≡ true → SomeKey ≡ read_word word
          unfolding read_word pick_word
          reads-some h = rw (sym is-a ∙ no-a, sym is-t ∙ no-t, sym is_b ∙ no-b, sym is-s ∙ h)

          pub reads-numbered : (w : Word) → s ≡ false → w ≡ read_numbered word → w ≡ read_word word
          unfolding read_word pick_word read_numbered
          reads-numbered w h e = e ∙ rw (sym is-a ∙ no-a, sym is-t ∙ no-t, sym is_b ∙ no-b, sym is-s ∙ h) refl
