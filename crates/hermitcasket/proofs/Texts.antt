-- The accepted texts are exactly the layouts of tables within the counts, with the section of the roles or, where there are none,
-- without it, and with the line of an asked pair or without; and reading a layout gives the tables and what is asked back.
use Prim.Native.Nat.{ℕ, zero, suc, ◌+◌, ◌*◌, ◌≤◌}
use mathlib.Core.Path.{◌≡◌, ap, ◌∙◌}
use mathlib.Core.List.{List, ◌++◌}
use mathlib.Core.Bool.{Bool, true, false}
use mathlib.Core.Logic.{◌↔◌, ⊎_elim}
use native.Mathlib.Omega.{arith}
use lib.ListN.{length, get_or, take, drop, length-append}
use Rattle.subsumption.specs.Tables.{Tables, count_of, pairs_of}
use Rattle.numerals.specs.Digits.{digits}
use Rattle.numerals.specs.Printing.{number_text, pair_text}
use Rattle.numerals.specs.Lines.{variables_key, roles_key, wider_key, concepts_key, inclusions_key, questions_key, below_key, show_key, name_key, some_key, and_key, variable_key, row_text, lines_text, row_of_numbers, pair_of_numbers}
use Rattle.numerals.proofs.DigitLaws.{digits-short}
use Rattle.numerals.proofs.WriteLaws.{number-length, pair-length}
use Rattle.hermitcasket.specs.declared.text.Ask.{Ask}
use Rattle.hermitcasket.specs.declared.text.Ask.TheVariants.{Fill, Show}
use Rattle.hermitcasket.specs.Text.{roles_text, ask_text, layout, Says, RowFits, RowsFit, ConceptFits, PairFits, AskFits, Sayable, accepted, judge}
use Rattle.hermitcasket.proofs.LayoutLaws.{accepted-layout}
use Rattle.hermitcasket.proofs.LayoutRead.{layout-accepted}

-- ---- a layout within the counts is never longer than 8192 bytes
short : (n : ℕ) → n ≤ 65535 → length (digits n) ≤ 5
short n h = digits-short 4 n (omega arith)

number_size : (key : List ℕ) (n : ℕ) → n ≤ 65535 → length (number_text key n) ≤ length key + 6
number_size key n h = omega (arith, short n h, number-length key n)

pair_size : (key : List ℕ) (a b : ℕ) → a ≤ 65535 → b ≤ 65535 → length (pair_text key a b) ≤ length key + 12
pair_size key a b ha hb = omega (arith, short a ha, short b hb, pair-length key a b)

row-size : (kind a b : ℕ) → RowFits kind a b → length (row_text kind a b) ≤ 18
unfolding row_text
row-size zero a b h = omega arith
row-size (suc zero) a b h = omega (arith, number_size name_key a h.0)
row-size (suc (suc zero)) a b h = omega (arith, pair_size some_key a b h.0 h.1)
row-size (suc (suc (suc zero))) a b h = omega (arith, pair_size and_key a b h.0 h.1)
row-size (suc (suc (suc (suc zero)))) a b h = omega (arith, number_size variable_key a h.0)
row-size (suc (suc (suc (suc (suc kind))))) a b h = absurd h

module _ (write : List ℕ → List ℕ) (Fits : List ℕ → Type 0) (width : ℕ) (each : (xs : List ℕ) → Fits xs → length (write xs) ≤ 18) where
  lines-size : (count : ℕ) (xs : List ℕ) → RowsFit Fits width count xs → length (lines_text write width count xs) ≤ count * 18
  unfolding lines_text
  lines-size zero xs h = omega arith
  lines-size (suc count) xs h =
      omega (arith, each (take width xs) h.1, lines-size count (drop width xs) h.2, length-append (write (take width xs)) (lines_text write width count (drop width xs)))

pairs-size : (key xs : List ℕ) → length key ≤ 6 → RowsFit PairFits 2 (pairs_of xs) xs → length (lines_text (pair_of_numbers key) 2 (pairs_of xs) xs) ≤ pairs_of xs * 18
pairs-size key xs l h =
    lines-size (pair_of_numbers key) PairFits 2 (λ ys f. omega (arith, pair_size key (get_or ys 0 0) (get_or ys 1 0) f.0 f.1)) (pairs_of xs) xs h

roles-size : (present : Bool) (roles : List ℕ) → pairs_of roles ≤ 32 → RowsFit PairFits 2 (pairs_of roles) roles → length (roles_text present roles) ≤ 12 + 32 * 18
unfolding roles_text
roles-size true roles l h =
    omega (
      arith,
      number_size roles_key (pairs_of roles) (omega arith),
      pairs-size wider_key roles (omega arith) h,
      length-append (number_text roles_key (pairs_of roles)) (lines_text (pair_of_numbers wider_key) 2 (pairs_of roles) roles),
    )
roles-size false roles l h = omega arith

ask-size : (ask : Ask) → AskFits ask → length (ask_text ask) ≤ 17
unfolding ask_text
ask-size Fill h = omega arith
ask-size (Show left right) h = omega (arith, pair_size show_key left right h.0 h.1)

nine :
    (a r b c d e f g h : List ℕ)
    → length (a ++ (r ++ (b ++ (c ++ (d ++ (e ++ (f ++ (g ++ h))))))))
    ≡ length a + length r + length b + length c + length d + length e + length f + length g + length h
nine a r b c d e f g h =
    omega (
      arith,
      length-append a (r ++ (b ++ (c ++ (d ++ (e ++ (f ++ (g ++ h))))))),
      length-append r (b ++ (c ++ (d ++ (e ++ (f ++ (g ++ h)))))),
      length-append b (c ++ (d ++ (e ++ (f ++ (g ++ h))))),
      length-append c (d ++ (e ++ (f ++ (g ++ h)))),
      length-append d (e ++ (f ++ (g ++ h))),
      length-append e (f ++ (g ++ h)),
      length-append f (g ++ h),
      length-append g h,
    )

pub layout-size : (present : Bool) (t : Tables) (ask : Ask) → Sayable t ask → length (layout present t ask) ≤ 8192
unfolding layout
layout-size present t ask s =
    omega (
      arith,
      s,
      number_size variables_key t.variables (omega (arith, s.few-variables)),
      roles-size present t.roles s.few-roles s.roles-fit,
      number_size concepts_key (count_of t.concepts) (omega (arith, s.few-concepts)),
      number_size inclusions_key (pairs_of t.inclusions) (omega (arith, s.few-inclusions)),
      number_size questions_key (pairs_of t.questions) (omega (arith, s.few-questions)),
      lines-size row_of_numbers ConceptFits 3 (λ xs h. row-size (get_or xs 0 0) (get_or xs 1 0) (get_or xs 2 0) h) (count_of t.concepts) t.concepts s.concepts-fit,
      pairs-size below_key t.inclusions (omega arith) s.inclusions-fit,
      pairs-size below_key t.questions (omega arith) s.questions-fit,
      ask-size ask s.ask-fits,
      nine (number_text variables_key t.variables) (roles_text present t.roles) (number_text concepts_key (count_of t.concepts))
          (lines_text row_of_numbers 3 (count_of t.concepts) t.concepts)
          (number_text inclusions_key (pairs_of t.inclusions)) (lines_text (pair_of_numbers below_key) 2 (pairs_of t.inclusions) t.inclusions)
          (number_text questions_key (pairs_of t.questions)) (lines_text (pair_of_numbers below_key) 2 (pairs_of t.questions) t.questions) (ask_text ask),
    )

says-accepted : (text : List ℕ) (t : Tables) (ask : Ask) → Says text t ask → Sayable t ask → judge text ≡ accepted t ask
says-accepted text t ask h s =
    ⊎_elim (λ e. ap judge e ∙ layout-accepted t ask s true (λ f. absurd (let z : ◌≡◌ {A = ℕ} 0 1 = cc in omega arith)) (layout-size true t ask s))
    (λ (e, none). ap judge e ∙ layout-accepted t ask s false (λ f. none) (layout-size false t ask s)) h

pub texts : (text : List ℕ) (t : Tables) (ask : Ask) → (judge text ≡ accepted t ask) ↔ (Says text t ask × Sayable t ask)
texts text t ask = (accepted-layout text t ask, λ h. says-accepted text t ask h.0 h.1)
