-- What a line that was read shows of the text.
use Rattle.std.specs.Prelude.{Option, Some, None}
use Prim.Native.Nat.{ℕ, ◌+◌, ◌-◌, ◌<◌, ◌≤◌}
use mathlib.Core.Path.{◌≡◌, refl, sym, ap, ◌∙◌}
use mathlib.Core.List.{List, [], ◌∷◌, ◌++◌, append_assoc}
use mathlib.Core.Bool.{Bool, true, false}
use native.Mathlib.Omega.{arith}
use native.Mathlib.Numerals.{add-one}
use lib.ListN.{length, take, drop, length-append, length-drop}
use lib.Seq.{take_all, drop-drop}
use Rattle.numerals.specs.Digits.{digits}
use Rattle.numerals.specs.Bytes.{starts}
use Rattle.numerals.specs.Reading.{run_of}
use Rattle.numerals.proofs.ReadingLaws.{starts-front}
use Rattle.numerals.proofs.DigitLaws.{run_ran}
use Rattle.hermitcasket.specs.declared.lines.Number.{Number}
use Rattle.hermitcasket.specs.Lines.{a_number, a_pair, pick_number, number_from, behind, number_line, second_of, first_of, pair_if, pair_line}
use Rattle.hermitcasket.proofs.NumberLaws.{number-found}

-- ---- the remaining text begins with so many bytes
pub record Holds (rest text : List ℕ) (n : ℕ) : Type 0 where
  pub front : rest ≡ text ++ drop n rest
  pub size : n ≡ length text

pub holds-within : (rest text : List ℕ) (n : ℕ) → Holds rest text n → n ≤ length rest
holds-within rest text n s = omega (arith, s.size, simp length-append at (ap length s.front))

pub holds-join : (rest a b : List ℕ) (k n : ℕ) → Holds rest a k → Holds (drop k rest) b n → Holds rest (a ++ b) (k + n)
holds-join rest a b k n s t =
    record {
      front = s.front ∙ ap (λ (z : List ℕ). a ++ z) t.front ∙ sym (append_assoc a b (drop n (drop k rest))) ∙ ap (λ (z : List ℕ). (a ++ b) ++ z) (drop-drop n k rest);
      size = rw length-append (omega (arith, s.size, t.size));
    }

-- ---- the bytes in front
pub starts-holds : (key rest : List ℕ) → starts key rest ≡ true → Holds rest key (length key)
starts-holds key rest e = record { front = starts-front key rest e; size = refl }

-- the part of a slice from k on
pub rest-whole : (s : List ℕ) (k : ℕ) → take (length s - k) (drop k s) ≡ drop k s
rest-whole s k = take_all (length s - k) (drop k s) (rw length-drop (omega arith))

-- ---- a number
pub number-holds : (stop w k : ℕ) (rest : List ℕ) → stop < 48 → number_from stop 0 0 rest ≡ a_number w k
    → Holds rest (digits w ++ (stop ∷ [])) k
number-holds stop w k rest low e =
    let f = number-found stop low rest w k e in
    let r = run_of rest in
    let onward : drop k rest ≡ f.more =
    ap (λ (z : ℕ). drop z rest) (sym f.size ∙ sym (add-one r.length)) ∙ sym (drop-drop 1 r.length rest) ∙ ap (drop 1) f.byte in
    record {
      front =
          (run_ran rest).front f.some ∙ ap (λ (z : ℕ). digits z ++ drop r.length rest) f.value ∙ ap (λ (z : List ℕ). digits w ++ z) (f.byte ∙ ap (λ (z : List ℕ). stop ∷ z) (sym onward))
          ∙ sym (append_assoc (digits w) (stop ∷ []) (drop k rest));
      size = rw length-append (omega (arith, f.size, (run_ran rest).size f.some, ap (λ (z : ℕ). length (digits z)) f.value));
    }

pub number_small : (stop w k : ℕ) (rest : List ℕ) → stop < 48 → number_from stop 0 0 rest ≡ a_number w k → w ≤ 65535
number_small stop w k rest low e = omega (arith, (run_ran rest).small, (number-found stop low rest w k e).value)

-- ---- what the code of a line of one number shows
module _ (key rest : List ℕ) (begins : Bool) (same : begins ≡ starts key rest) where
  begun : begins ≡ true → starts key rest ≡ true
  begun h = sym same ∙ h

  pub key-within : begins ≡ true → length key ≤ length rest
  key-within h = holds-within rest key (length key) (starts-holds key rest (begun h))

  pub number-unkeyed : begins ≡ false → None ≡ number_line key rest
  unfolding number_line pick_number
  number-unkeyed h = rw (sym same ∙ h)

  pub pair-unkeyed : begins ≡ false → None ≡ pair_line key rest
  unfolding pair_line pair_if
  pair-unkeyed h = rw (sym same ∙ h)

  module _ (keyed : begins ≡ true) (digits : List ℕ) (part : digits ≡ drop (length key) rest) (found : Option Number) where
    here : (stop : ℕ) → found ≡ number_from stop 0 0 digits → found ≡ number_from stop 0 0 (drop (length key) rest)
    here stop e = e ∙ ap (number_from stop 0 0) part

    pub value_line : (v : Number) → found ≡ number_from 10 0 0 digits → found ≡ Some v
        → a_number v.value (length key + v.length) ≡ number_line key rest
    unfolding number_line pick_number behind
    value_line v e h = rw (begun keyed, sym (here 10 e) ∙ h)

    digits-within : (stop : ℕ) (v : Number) → stop < 48 → found ≡ number_from stop 0 0 digits → found ≡ Some v → v.length ≤ length digits
    digits-within stop v low e h = holds-within digits _ v.length (number-holds stop v.value v.length digits low (sym e ∙ h))

    keyed-within : (stop : ℕ) (v : Number) → stop < 48 → found ≡ number_from stop 0 0 digits → found ≡ Some v
        → length key + v.length ≤ length rest
    keyed-within stop v low e h = omega
        (arith, digits-within stop v low e h, ap length part, length-drop (length key) rest, key-within keyed)

    pub value-within : (v : Number) → found ≡ number_from 10 0 0 digits → found ≡ Some v → length key + v.length ≤ length rest
    value-within v e h = keyed-within 10 v (omega arith) e h

    pub none-line : found ≡ number_from 10 0 0 digits → found ≡ None → None ≡ number_line key rest
    unfolding number_line pick_number behind
    none-line e h = rw (begun keyed, sym (here 10 e) ∙ h)

    -- ---- of two numbers
    pub first-none : found ≡ number_from 44 0 0 digits → found ≡ None → None ≡ pair_line key rest
    unfolding pair_line pair_if first_of
    first-none e h = rw (begun keyed, sym (here 44 e) ∙ h)

    module _ (a : Number) (e : found ≡ number_from 44 0 0 digits) (h : found ≡ Some a) where
      pub first-within : a.length ≤ length digits
      first-within = digits-within 44 a (omega arith) e h

      pub first_short : length key + a.length ≤ length rest
      first_short = keyed-within 44 a (omega arith) e h

      module _ (more : List ℕ) (onward : more ≡ drop a.length digits) (second : Option Number) (f : second ≡ number_from 10 0 0 more) where
        there : more ≡ drop (length key + a.length) rest
        there = onward ∙ ap (drop a.length) part ∙ drop-drop a.length (length key) rest

        pub second_none : second ≡ None → None ≡ pair_line key rest
        unfolding pair_line pair_if first_of second_of
        second_none k = rw (begun keyed, sym (here 44 e) ∙ h, sym (f ∙ ap (number_from 10 0 0) there) ∙ k)

        module _ (b : Number) (k : second ≡ Some b) where
          pub second-within : length key + a.length + b.length ≤ length rest
          second-within =
              omega (
                arith,
                holds-within more _ b.length (number-holds 10 b.value b.length more (omega arith) (sym f ∙ k)),
                ap length there,
                length-drop (length key + a.length) rest,
                first_short,
              )

          pub two-line : a_pair a.value b.value (length key + a.length + b.length) ≡ pair_line key rest
          unfolding pair_line pair_if first_of second_of
          two-line = rw (begun keyed, sym (here 44 e) ∙ h, sym (f ∙ ap (number_from 10 0 0) there) ∙ k)
