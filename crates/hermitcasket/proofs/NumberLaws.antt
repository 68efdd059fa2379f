-- A number that a byte ends, by the run of digits in front; the byte is no digit.
use Rattle.std.specs.Prelude.{Option, None}
use Prim.Native.Nat.{ℕ, suc, ◌+◌, ◌-◌, ◌*◌, ◌<◌, ◌≤◌}
use mathlib.Core.Path.{◌≡◌, refl, sym, ap, ◌∙◌}
use mathlib.Core.List.{List, [], ◌∷◌, ◌++◌, append_assoc}
use mathlib.Core.Bool.{Bool, true, false}
use native.Mathlib.Omega.{arith}
use native.Mathlib.Numerals.{add-one}
use lib.Dec.{eqb}
use lib.ListN.{length, get_or, drop, length-append, drop_of_length-le}
use lib.Seq.{drop_at, drop-append_seam, drop-cons}
use borrow.Author.Tests.{eq-eqb, ne_eqb, eqb-true, eqb-false}
use Rattle.numerals.specs.declared.reading.Run.{Run}
use Rattle.numerals.specs.Digits.{digits}
use Rattle.numerals.specs.Reading.{wrong_digit, run_from, run_of}
use Rattle.numerals.proofs.ReadingLaws.{wrong-low, digit-right, run-wrong, run-right}
use Rattle.numerals.proofs.DigitLaws.{digits-some, run-over-digits}
use Rattle.hermitcasket.specs.declared.lines.Number.{Number}
use Rattle.hermitcasket.specs.Lines.{a_number, pick_number, number_from}

pub same-number : (v n w k : ℕ) → a_number v n ≡ a_number w k → (v ≡ w) × (n ≡ k)
same-number v n w k e =
    let f : ◌≡◌ {A = Number} (record { value = v; length = n }) (record { value = w; length = k }) = cc in
    (ap (λ (z : Number). z.value) f, ap (λ (z : Number). z.length) f)

module _ (stop : ℕ) where
  -- what a number is whose digits end here
  pub ended : ℕ → ℕ → List ℕ → Option Number
  ended value count [] = None
  ended value count (b ∷ rest) = pick_number (eqb b stop) (pick_number (eqb count 0) None (a_number value (suc count))) None

  abbrev pub ended_by : Run → List ℕ → Option Number
  ended_by r text = ended r.value r.length (drop r.length text)

  at-wrong : (v n b : ℕ) (rest : List ℕ) → wrong_digit v n b ≡ true → number_from stop v n (b ∷ rest) ≡ ended v n (b ∷ rest)
  unfolding number_from pick_number ended
  at-wrong v n b rest e = rw e refl

  at-digit : (v n b : ℕ) (rest : List ℕ) → (b ≡ stop → ⊥) → wrong_digit v n b ≡ false → number_from stop v n (b ∷ rest) ≡ number_from stop (v * 10 + (b - 48)) (suc n) rest
  unfolding number_from pick_number
  at-digit v n b rest d e = rw (ne_eqb b stop d, e) refl

  module _ (low : stop < 48) where
    runs : (rest front : List ℕ) (v n : ℕ) → length front ≡ n → number_from stop v n rest ≡ ended_by (run_from v n rest) (front ++ rest)
    unfolding number_from run_from ended
    runs [] front v n l = sym (ap (ended v n) (drop_at front [] n l))
    runs (b ∷ rest) front v n l = go (wrong_digit v n b) refl (runs rest (front ++ (b ∷ [])) (v * 10 + (b - 48)) (suc n) (rw length-append (omega arith)))
      where
        go :
            (x : Bool) → wrong_digit v n b ≡ x
            → number_from stop (v * 10 + (b - 48)) (suc n) rest ≡ ended_by (run_from (v * 10 + (b - 48)) (suc n) rest) ((front ++ (b ∷ [])) ++ rest)
            → number_from stop v n (b ∷ rest) ≡ ended_by (run_from v n (b ∷ rest)) (front ++ (b ∷ rest))
        go true e ih =
            at-wrong v n b rest e
            ∙ sym (ap (λ (r : Run). ended_by r (front ++ (b ∷ rest))) (run-wrong v n b rest e) ∙ ap (ended v n) (drop_at front (b ∷ rest) n l))
        go false e ih =
            at-digit v n b rest (λ z. omega (arith, (digit-right v n b e).low)) e ∙ ih
            ∙ ap (ended_by (run_from (v * 10 + (b - 48)) (suc n) rest)) (append_assoc front (b ∷ []) rest)
            ∙ sym (ap (λ (r : Run). ended_by r (front ++ (b ∷ rest))) (run-right v n b rest e))

    pub number-by-run : (rest : List ℕ) → number_from stop 0 0 rest ≡ ended_by (run_of rest) rest
    number-by-run rest = runs rest [] 0 0 refl

    -- ---- what the code shows
    module _ (rest : List ℕ) (run : Run) (ran : run ≡ run_of rest) where
      here : number_from stop 0 0 rest ≡ ended_by run rest
      here = number-by-run rest ∙ ap (λ (r : Run). ended_by r rest) (sym ran)

      pub number-empty : run.length ≡ 0 → None ≡ number_from stop 0 0 rest
      unfolding pick_number ended
      number-empty h = sym (here ∙ go (drop run.length rest))
        where
          either : (x : Bool) → pick_number x None None ≡ None
          either true = refl
          either false = refl

          go : (more : List ℕ) → ended run.value run.length more ≡ None
          go [] = refl
          go (b ∷ more) = rw (eq-eqb run.length 0 h) (either (eqb b stop))

      pub number-unended : length rest ≤ run.length → None ≡ number_from stop 0 0 rest
      unfolding ended
      number-unended h = sym (here ∙ rw (drop_of_length-le rest h) refl)

      module _ (h : run.length < length rest) where
        pub number-other : (get_or rest run.length 0 ≡ stop → ⊥) → None ≡ number_from stop 0 0 rest
        unfolding pick_number ended
        number-other d = sym (here ∙ rw (drop-cons rest run.length 0 h, ne_eqb _ _ d) refl)

        pub number-ended : (run.length ≡ 0 → ⊥) → get_or rest run.length 0 ≡ stop
            → a_number run.value (run.length + 1) ≡ number_from stop 0 0 rest
        unfolding pick_number ended
        number-ended z e = sym (here ∙ rw (drop-cons rest run.length 0 h, eq-eqb _ _ e, ne_eqb _ _ z, add-one) refl)

    -- ---- a number that is read
    -- The byte stands behind at least one digit.
    pub record Ended (rest : List ℕ) (r : Run) (w k : ℕ) : Type 0 where
      pub more : List ℕ
      pub byte : drop r.length rest ≡ stop ∷ more
      pub some : 0 < r.length
      pub value : r.value ≡ w
      pub size : suc r.length ≡ k

    pub number-found : (rest : List ℕ) (w k : ℕ) → number_from stop 0 0 rest ≡ a_number w k → Ended rest (run_of rest) w k
    unfolding pick_number ended
    number-found rest w k e = go (drop (run_of rest).length rest) refl (sym (number-by-run rest) ∙ e)
      where
        none : None ≡ a_number w k → Ended rest (run_of rest) w k
        none f = absurd (let z : ◌≡◌ {A = ℕ} 0 1 = cc f in omega arith)

        right : (b : ℕ) (more : List ℕ) → drop (run_of rest).length rest ≡ b ∷ more → b ≡ stop → (n : ℕ) → (run_of rest).length ≡ n
            → a_number (run_of rest).value (suc n) ≡ a_number w k → 0 < n → Ended rest (run_of rest) w k
        right b more p q n l f h =
            let s = same-number _ _ w k f in
            let vw : (run_of rest).value ≡ w = s.0 in
            let nk : suc n ≡ k = s.1 in
            record { more = more; byte = p ∙ ap (λ (z : ℕ). z ∷ more) q; some = omega arith; value = vw; size = omega arith }

        go : (behind : List ℕ) → drop (run_of rest).length rest ≡ behind
            → ended (run_of rest).value (run_of rest).length (drop (run_of rest).length rest) ≡ a_number w k → Ended rest (run_of rest) w k
        go [] p f = none (rw p at f)
        go (b ∷ more) p f = pick (eqb b stop) refl (eqb (run_of rest).length 0) refl (sym (ap (ended (run_of rest).value (run_of rest).length) p) ∙ f)
          where
            pick :
                (x : Bool) → eqb b stop ≡ x → (y : Bool) → eqb (run_of rest).length 0 ≡ y
                → pick_number (eqb b stop)
                (pick_number (eqb (run_of rest).length 0) None
                (a_number (run_of rest).value (suc (run_of rest).length))) None ≡ a_number w k
                → Ended rest (run_of rest) w k
            pick false q y l g = none (rw q at g)
            pick true q true l g = none (rw (q, l) at g)
            pick true q false l g = right b more p (eqb-true b stop q) (run_of rest).length refl (rw (q, l) at g) (omega (arith, eqb-false (run_of rest).length 0 l))

    -- ---- a number that is written
    pub number-right : (v : ℕ) (more : List ℕ) → v ≤ 65535
        → number_from stop 0 0 (digits v ++ (stop ∷ more)) ≡ a_number v (length (digits v) + 1)
    unfolding pick_number ended
    number-right v more small =
        number-by-run (digits v ++ (stop ∷ more))
        ∙ ap (λ (r : Run). ended_by r (digits v ++ (stop ∷ more)))
        (run-over-digits v (stop ∷ more) small ∙ run-wrong v (length (digits v)) stop more (sym (wrong-low v (length (digits v)) stop low)))
        ∙ rw (drop-append_seam (digits v) (stop ∷ more), eq-eqb stop stop refl, ne_eqb (length (digits v)) 0 (λ e. omega (arith, digits-some v)), add-one) refl
