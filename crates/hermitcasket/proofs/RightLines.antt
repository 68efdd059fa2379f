-- A line that is read is the right line of its numbers, and each right line is read.
use Rattle.std.specs.Prelude.{Option, Some, None}
use Prim.Native.Nat.{ℕ, ◌+◌, ◌≤◌}
use mathlib.Core.Path.{◌≡◌, refl, sym, ap, ap₂, ◌∙◌, subst}
use mathlib.Core.List.{List, [], ◌∷◌, ◌++◌, append_assoc}
use mathlib.Core.Bool.{Bool, true, false}
use mathlib.Core.Logic.{◌⊎◌, inl, inr, ⊎_elim}
use native.Mathlib.Omega.{arith}
use lib.ListN.{length, drop}
use Rattle.numerals.specs.Digits.{digits}
use Rattle.numerals.specs.Bytes.{starts}
use Rattle.numerals.specs.Printing.{number_text, pair_text}
use Rattle.numerals.specs.Lines.{top_text, name_key, some_key, and_key, variable_key, row_text}
use Rattle.hermitcasket.specs.declared.lines.Number.{Number}
use Rattle.hermitcasket.specs.declared.lines.PairLine.{PairLine}
use Rattle.hermitcasket.specs.declared.lines.RowLine.{RowLine}
use Rattle.hermitcasket.specs.Lines.{a_number, a_pair, a_row, pick_number, number_from, behind, number_line, second_of, first_of, pair_if, pair_line, top_row, one_row, two_row, or_row, row_line}
use Rattle.hermitcasket.specs.Text.{RowFits}
use Rattle.hermitcasket.proofs.NumberLaws.{same-number}
use Rattle.hermitcasket.proofs.LineLaws.{Holds, holds-within, holds-join, starts-holds, number-holds, number_small}

same-pair : (a b n a' b' n' : ℕ) → a_pair a b n ≡ a_pair a' b' n' → (a ≡ a') × (b ≡ b') × (n ≡ n')
same-pair a b n a' b' n' e =
    let f : ◌≡◌ {A = PairLine} (record { a = a; b = b; length = n }) (record { a = a'; b = b'; length = n' }) = cc in
    (ap (λ (z : PairLine). z.a) f, ap (λ (z : PairLine). z.b) f, ap (λ (z : PairLine). z.length) f)

same-row :
    (k a b n k' a' b' n' : ℕ) → a_row k a b n ≡ a_row k' a' b' n' → (k ≡ k') × (a ≡ a') × (b ≡ b') × (n ≡ n')
same-row k a b n k' a' b' n' e =
    let f : ◌≡◌ {A = RowLine} (record { kind = k; a = a; b = b; length = n }) (record { kind = k'; a = a'; b = b'; length = n' }) = cc in
    (ap (λ (z : RowLine). z.kind) f, ap (λ (z : RowLine). z.a) f, ap (λ (z : RowLine). z.b) f, ap (λ (z : RowLine). z.length) f)

-- ---- one number
module _ (key rest : List ℕ) (v n : ℕ) where
  number_line-shows : number_line key rest ≡ a_number v n → Holds rest (number_text key v) n × (v ≤ 65535)
  unfolding number_line pick_number behind number_text
  number_line-shows e = go (starts key rest) refl (number_from 10 0 0 (drop (length key) rest)) refl
    where
      go : (x : Bool) → starts key rest ≡ x → (y : Option Number) → number_from 10 0 0 (drop (length key) rest) ≡ y
          → Holds rest (key ++ (digits v ++ (10 ∷ []))) n × (v ≤ 65535)
      go false p y q = absurd (let f : None ≡ a_number v n = rw p at e in let z : ◌≡◌ {A = ℕ} 0 1 = cc in omega arith)
      go true p None q = absurd (let f : None ≡ a_number v n = rw (p, q) at e in let z : ◌≡◌ {A = ℕ} 0 1 = cc in omega arith)
      go true p (Some l) q =
          let f : a_number l.value (length key + l.length) ≡ a_number v n = rw (p, q) at e in
          let s = same-number _ _ v n f in
          let vw : l.value ≡ v = s.0 in
          let nk : length key + l.length ≡ n = s.1 in (
            subst (λ (z : ℕ). Holds rest (key ++ (digits v ++ (10 ∷ []))) z) nk
                (subst (λ (z : ℕ). Holds rest (key ++ (digits z ++ (10 ∷ []))) (length key + l.length)) vw
                (holds-join rest key (digits l.value ++ (10 ∷ [])) (length key) l.length (starts-holds key rest p)
                (number-holds 10 l.value l.length (drop (length key) rest) (omega arith) q))),
            omega (arith, number_small 10 l.value l.length (drop (length key) rest) (omega arith) q),
          )

  pub number_line-holds : number_line key rest ≡ a_number v n → Holds rest (number_text key v) n
  number_line-holds e = (number_line-shows e).0

  pub number_line-small : number_line key rest ≡ a_number v n → v ≤ 65535
  number_line-small e = (number_line-shows e).1

-- ---- two numbers
module _ (key rest : List ℕ) (a b n : ℕ) where
  pair_line-shows : pair_line key rest ≡ a_pair a b n → Holds rest (pair_text key a b) n × (a ≤ 65535) × (b ≤ 65535)
  unfolding pair_line pair_if first_of second_of pair_text
  pair_line-shows e = go (starts key rest) refl (number_from 44 0 0 (drop (length key) rest)) refl
    where
      clash : None ≡ a_pair a b n → Holds rest (key ++ (digits a ++ (44 ∷ (digits b ++ (10 ∷ []))))) n × (a ≤ 65535) × (b ≤ 65535)
      clash f = absurd (let z : ◌≡◌ {A = ℕ} 0 1 = cc in omega arith)

      last :
          starts key rest ≡ true → (w k : ℕ) → number_from 44 0 0 (drop (length key) rest) ≡ a_number w k
          → (y : Option Number) → number_from 10 0 0 (drop (length key + k) rest) ≡ y
          → second_of w (length key + k) (number_from 10 0 0 (drop (length key + k) rest)) ≡ a_pair a b n
          → Holds rest (key ++ (digits a ++ (44 ∷ (digits b ++ (10 ∷ []))))) n × (a ≤ 65535) × (b ≤ 65535)
      last p w k q None r f = clash (rw r at f)
      last p w k q (Some y) r f =
          let g : a_pair w y.value (length key + k + y.length) ≡ a_pair a b n = rw r at f in
          let s = same-pair _ _ _ a b n g in
          let aw : w ≡ a = s.0 in
          let bx : y.value ≡ b = s.1 in
          let nl : length key + k + y.length ≡ n = s.2 in
          let h = holds-join rest _ (digits y.value ++ (10 ∷ [])) (length key + k) y.length
          (holds-join rest key (digits w ++ (44 ∷ [])) (length key) k (starts-holds key rest p)
          (number-holds 44 w k (drop (length key) rest) (omega arith) q))
          (number-holds 10 y.value y.length (drop (length key + k) rest) (omega arith) r) in (
            subst (λ (z : ℕ). Holds rest (key ++ (digits a ++ (44 ∷ (digits b ++ (10 ∷ []))))) z) nl
                (subst (λ (z : ℕ). Holds rest (key ++ (digits a ++ (44 ∷ (digits z ++ (10 ∷ []))))) (length key + k + y.length)) bx
                (subst (λ (z : ℕ). Holds rest (key ++ (digits z ++ (44 ∷ (digits y.value ++ (10 ∷ []))))) (length key + k + y.length)) aw
                (subst (λ (z : List ℕ). Holds rest z (length key + k + y.length))
                (append_assoc key (digits w ++ (44 ∷ [])) (digits y.value ++ (10 ∷ []))
                ∙ ap (λ (z : List ℕ). key ++ z) (append_assoc (digits w) (44 ∷ []) (digits y.value ++ (10 ∷ [])))) h))),
            omega (arith, number_small 44 w k (drop (length key) rest) (omega arith) q),
            omega (arith, number_small 10 y.value y.length (drop (length key + k) rest) (omega arith) r),
          )

      go : (x : Bool) → starts key rest ≡ x → (y : Option Number) → number_from 44 0 0 (drop (length key) rest) ≡ y
          → Holds rest (key ++ (digits a ++ (44 ∷ (digits b ++ (10 ∷ []))))) n × (a ≤ 65535) × (b ≤ 65535)
      go false p y q = clash (rw p at e)
      go true p None q = clash (rw (p, q) at e)
      go true p (Some l) q = last p l.value l.length q (number_from 10 0 0 (drop (length key + l.length) rest)) refl (rw (p, q) at e)

  pub pair_line-holds : pair_line key rest ≡ a_pair a b n → Holds rest (pair_text key a b) n
  pair_line-holds e = (pair_line-shows e).0

  pub pair_line-small : pair_line key rest ≡ a_pair a b n → (a ≤ 65535) × (b ≤ 65535)
  pair_line-small e = ((pair_line-shows e).1, (pair_line-shows e).2)

  pub pair-within : pair_line key rest ≡ a_pair a b n → n ≤ length rest
  pair-within e = holds-within rest _ n (pair_line-holds e)

-- ---- a row
module _ (rest : List ℕ) (k a b n : ℕ) where
  either-row : (x y : Option RowLine) → or_row x y ≡ a_row k a b n → (x ≡ a_row k a b n) ⊎ (y ≡ a_row k a b n)
  unfolding or_row
  either-row None y e = inr e
  either-row (Some l) y e = inl e

  pub RowShown : Type 0
  RowShown = Holds rest (row_text k a b) n × RowFits k a b

  from-top : top_row (starts top_text rest) ≡ a_row k a b n → RowShown
  unfolding top_row RowShown row_text
  from-top e = go (starts top_text rest) refl
    where
      go : (x : Bool) → starts top_text rest ≡ x → Holds rest (row_text k a b) n × RowFits k a b
      go false p = absurd (let f : None ≡ a_row k a b n = rw p at e in let z : ◌≡◌ {A = ℕ} 0 1 = cc in omega arith)
      go true p =
          let f : a_row 0 0 0 6 ≡ a_row k a b n = rw p at e in
          let s = same-row _ _ _ _ k a b n f in
          let ek : 0 ≡ k = s.0 in
          let ea : 0 ≡ a = s.1 in
          let eb : 0 ≡ b = s.2 in
          let en : 6 ≡ n = s.3 in
          subst (λ (z : ℕ). Holds rest (row_text z a b) n × RowFits z a b) ek
          (subst (λ (z : ℕ). Holds rest top_text z) en (starts-holds top_text rest p), (sym ea, sym eb))

  from_one : (kind : ℕ) (x : Option Number) → one_row kind x ≡ a_row k a b n → (x ≡ a_number a n) × (kind ≡ k) × (b ≡ 0)
  unfolding one_row
  from_one kind None e = absurd (let z : ◌≡◌ {A = ℕ} 0 1 = cc in omega arith)
  from_one kind (Some l) e =
      let s = same-row _ _ _ _ k a b n e in
      (ap₂ (λ (x y : ℕ). a_number x y) s.1 s.3, s.0, sym s.2)

  from-two : (kind : ℕ) (x : Option PairLine) → two_row kind x ≡ a_row k a b n → (x ≡ a_pair a b n) × (kind ≡ k)
  unfolding two_row
  from-two kind None e = absurd (let z : ◌≡◌ {A = ℕ} 0 1 = cc in omega arith)
  from-two kind (Some l) e =
      let s = same-row _ _ _ _ k a b n e in
      (rw (s.1, s.2, s.3) refl, s.0)

  from-name : one_row 1 (number_line name_key rest) ≡ a_row k a b n → RowShown
  unfolding RowShown row_text
  from-name e =
      let f = from_one 1 _ e in
      subst (λ (z : ℕ). Holds rest (row_text z a b) n × RowFits z a b) f.1
      (number_line-holds name_key rest a n f.0, (number_line-small name_key rest a n f.0, f.2))

  from-variable : one_row 4 (number_line variable_key rest) ≡ a_row k a b n → RowShown
  unfolding RowShown row_text
  from-variable e =
      let f = from_one 4 _ e in
      subst (λ (z : ℕ). Holds rest (row_text z a b) n × RowFits z a b) f.1
      (number_line-holds variable_key rest a n f.0, (number_line-small variable_key rest a n f.0, f.2))

  from-existential : two_row 2 (pair_line some_key rest) ≡ a_row k a b n → RowShown
  unfolding RowShown row_text
  from-existential e =
      let f = from-two 2 _ e in
      subst (λ (z : ℕ). Holds rest (row_text z a b) n × RowFits z a b) f.1
      (pair_line-holds some_key rest a b n f.0, pair_line-small some_key rest a b n f.0)

  from-conjunction : two_row 3 (pair_line and_key rest) ≡ a_row k a b n → RowShown
  unfolding RowShown row_text
  from-conjunction e =
      let f = from-two 3 _ e in
      subst (λ (z : ℕ). Holds rest (row_text z a b) n × RowFits z a b) f.1
      (pair_line-holds and_key rest a b n f.0, pair_line-small and_key rest a b n f.0)

  row_line-shows : row_line rest ≡ a_row k a b n → RowShown
  unfolding row_line
  row_line-shows e =
      ⊎_elim from-top
      (λ e1. ⊎_elim from-name
      (λ e2. ⊎_elim from-existential
      (λ e3. ⊎_elim from-conjunction from-variable (either-row _ _ e3)) (either-row _ _ e2)) (either-row _ _ e1)) (either-row _ _ e)

  pub row_line-holds : row_line rest ≡ a_row k a b n → Holds rest (row_text k a b) n
  unfolding RowShown
  row_line-holds e = (row_line-shows e).0

  pub row_line-fits : row_line rest ≡ a_row k a b n → RowFits k a b
  unfolding RowShown
  row_line-fits e = (row_line-shows e).1

  pub row_within : row_line rest ≡ a_row k a b n → n ≤ length rest
  row_within e = holds-within rest _ n (row_line-holds e)
