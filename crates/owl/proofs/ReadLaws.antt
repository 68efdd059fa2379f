-- Reading a catalogue.
use Rattle.std.specs.Prelude.{Result, Ok, Err}
use Prim.Native.Nat.{ℕ, suc, ◌+◌, ◌*◌, ◌/◌, ◌<◌, ◌≤◌}
use mathlib.Core.Path.{◌≡◌, refl, sym, ap, ◌∙◌, subst}
use mathlib.Core.List.{List, [], ◌∷◌, ◌++◌, append_assoc}
use native.Mathlib.Omega.{arith}
use native.Mathlib.Numerals.{add-one}
use lib.ListN.{length, get_or, take, drop, set, length-set}
use lib.Seq.{take-suc, take_all, drop-cons, set_at, length-take-le}
use borrow.Author.Tests.{lt-ltb, le-ltb}
use Rattle.subsumption.specs.declared.refusal.Refusal.{Refusal}
use Rattle.subsumption.specs.declared.refusal.Refusal.TheVariants.{BufferTooShort, BadSyntax}
use Rattle.subsumption.specs.Refusal.{or_else, refuse_if, Outcome, Done}
use Rattle.subsumption.specs.Check.{buffer_fault}
use Rattle.owl.specs.declared.frames.Reader.{Reader}
use Rattle.owl.specs.declared.read.Catalogue.{Catalogue}
use Rattle.owl.specs.Judgement.{State, Step, go, stop, judge}
use Rattle.owl.specs.Read.{refused_reply, catalogue_reply, catalogue_fault, in_front, Put, ReadsBy, reading_of, ReadsCatalogue}
use Rattle.owl.specs.Inner.Frames.{Fits, NextOf}
use Rattle.owl.specs.Inner.Judging.{Judged}

-- ---- numbers in front of a buffer
module _ (numbers before : List ℕ) where
  pub record Copied (out : List ℕ) (i : ℕ) : Type 0 where
    pub within : i ≤ length numbers
    pub long : length out ≡ length before
    pub here : out ≡ take i numbers ++ drop i before

  pub copied_none : Copied before 0
  copied_none = record { within = omega arith; long = refl; here = refl }

  module _ (out : List ℕ) (i : ℕ) (s : Copied out i) where
    pub copied-room : i < length numbers → length numbers ≤ length before → i < length out
    copied-room h l = omega (arith, s.long)

    pub copied_more : i < length numbers → length numbers ≤ length before → Copied (set out i (get_or numbers i 0)) (i + 1)
    copied_more h l =
        record {
          within = omega arith;
          long = length-set out i (get_or numbers i 0) ∙ s.long;
          here =
              ap (λ (z : List ℕ). set z i (get_or numbers i 0)) s.here
              ∙ rw (drop-cons before i 0 (omega arith), add-one i)
              (set_at (take i numbers) (get_or before i 0) (drop (suc i) before) (get_or numbers i 0) i (length-take-le i numbers (omega arith))
              ∙ sym (rw (take-suc numbers i 0 h) (append_assoc (take i numbers) (get_or numbers i 0 ∷ []) (drop (suc i) before))));
        }

    pub copied-done : length numbers ≤ i → out ≡ in_front numbers before
    unfolding in_front
    copied-done h =
        let e : i ≡ length numbers = omega (arith, s.within) in
        s.here ∙ rw e (ap (λ (z : List ℕ). z ++ drop (length numbers) before) (take_all (length numbers) numbers (omega arith)))

-- ---- the judged tables
module _ (text : List ℕ) (next : Result Reader Refusal) (frames pending rows sides : List ℕ) (held : Judged text next frames pending rows sides) where
  pub reads-stop :
      (q : Refusal) → next ≡ Err q → (concepts inclusions : List ℕ) → ReadsBy (judge text) concepts concepts inclusions inclusions (catalogue_reply (Err q))
  reads-stop q e concepts inclusions = go_on (judge text) (subst (λ (x : Result Reader Refusal). NextOf (judge text) x frames pending rows sides) e held.judged)
    where
      go_on : (z : Step) → NextOf z (Err q) frames pending rows sides → ReadsBy z concepts concepts inclusions inclusions (catalogue_reply (Err q))
      go_on (go s) h = absurd h
      go_on (stop p) h = record { told = ap (λ (x : Refusal). refused_reply x) h; kept-concepts = refl; kept-inclusions = refl }

  module _ (r : Reader) (e : next ≡ Ok r) where
    fits : Fits r frames pending rows sides
    fits = go_on (judge text) (subst (λ (x : Result Reader Refusal). NextOf (judge text) x frames pending rows sides) e held.judged)
      where
        go_on : (z : Step) → NextOf z (Ok r) frames pending rows sides → Fits r frames pending rows sides
        go_on (go s) h = h.fits
        go_on (stop p) h = absurd h

    pub few-tables : (r.count ≤ 192) × (r.pairs * 2 ≤ 192)
    few-tables = (fits.bounds.few, omega (arith, fits.bounds.few, fits.bounds.apart))

    pub rows-within : r.count * 3 ≤ length rows
    rows-within = omega (arith, few-tables, fits.rows_long)

    pub rows-count : r.count * 3 ≡ length (take (r.count * 3) rows)
    rows-count = sym (length-take-le (r.count * 3) rows rows-within)

    pub rows-room : (out : List ℕ) → 576 ≤ length out → length (take (r.count * 3) rows) ≤ length out
    rows-room out h = omega (arith, rows-count, few-tables)

    pub sides-within : r.pairs * 2 ≤ length sides
    sides-within = omega (arith, few-tables, fits.inclusions-long)

    pub sides-count : r.pairs * 2 ≡ length (take (r.pairs * 2) sides)
    sides-count = sym (length-take-le (r.pairs * 2) sides sides-within)

    pub sides-room : (out : List ℕ) → 192 ≤ length out → length (take (r.pairs * 2) sides) ≤ length out
    sides-room out h = omega (arith, sides-count, few-tables)

    pub reads-tables :
        (concepts concepts' inclusions inclusions' : List ℕ) → concepts' ≡ in_front (take (r.count * 3) rows) concepts
        → inclusions' ≡ in_front (take (r.pairs * 2) sides) inclusions
        → ReadsBy (judge text) concepts concepts' inclusions inclusions' (catalogue_reply (Ok (record { concepts = r.count; inclusions = r.pairs })))
    reads-tables concepts concepts' inclusions inclusions' c i =
        let n : r.count ≡ length (take (r.count * 3) rows) / 3 = omega (arith, rows-count) in
        let k : r.pairs ≡ length (take (r.pairs * 2) sides) / 2 = omega (arith, sides-count) in
        go_on (judge text) (subst (λ (x : Result Reader Refusal). NextOf (judge text) x frames pending rows sides) e held.judged) n k
      where
        go_on :
            (z : Step) → NextOf z (Ok r) frames pending rows sides → r.count ≡ length (take (r.count * 3) rows) / 3
            → r.pairs ≡ length (take (r.pairs * 2) sides) / 2
            → ReadsBy z concepts concepts' inclusions inclusions' (catalogue_reply (Ok (record { concepts = r.count; inclusions = r.pairs })))
        go_on (stop p) h n k = absurd h
        go_on (go s) h n k =
            subst (λ (z : State). Put z concepts concepts' inclusions inclusions' (catalogue_reply (Ok (record { concepts = r.count; inclusions = r.pairs })))) (sym h.state)
            (record { told = cc (n, k); put-concepts = c; put-inclusions = i })

-- ---- the checks
module _ (text concepts inclusions : List ℕ) where
  refuses :
      (q : Refusal) → catalogue_fault text (length concepts) (length inclusions) ≡ Err q
      → ReadsCatalogue text concepts concepts inclusions inclusions (catalogue_reply (Err q))
  unfolding reading_of
  refuses q e =
      subst (λ (z : Outcome). ReadsBy (reading_of z text) concepts concepts inclusions inclusions (catalogue_reply (Err q))) (sym e)
      (record { told = refl; kept-concepts = refl; kept-inclusions = refl })

  pub short-concepts : length concepts < 576 → ReadsCatalogue text concepts concepts inclusions inclusions (catalogue_reply (Err (BufferTooShort 576)))
  unfolding catalogue_fault or_else refuse_if buffer_fault
  short-concepts h = refuses (BufferTooShort 576) (rw (lt-ltb (length concepts) 576 h) refl)

  module _ (a : 576 ≤ length concepts) where
    pub short-inclusions : length inclusions < 192 → ReadsCatalogue text concepts concepts inclusions inclusions (catalogue_reply (Err (BufferTooShort 192)))
    unfolding catalogue_fault or_else refuse_if buffer_fault
    short-inclusions h = refuses (BufferTooShort 192) (rw (le-ltb (length concepts) 576 a, lt-ltb (length inclusions) 192 h) refl)

    module _ (b : 192 ≤ length inclusions) where
      pub long-text : 8192 < length text → ReadsCatalogue text concepts concepts inclusions inclusions (catalogue_reply (Err (BadSyntax 8192)))
      unfolding catalogue_fault or_else refuse_if buffer_fault
      long-text h =
          refuses (BadSyntax 8192) (rw (le-ltb (length concepts) 576 a, le-ltb (length inclusions) 192 b, lt-ltb 8192 (length text) h) refl)

      pub reads_on :
          length text ≤ 8192 → (concepts' inclusions' : List ℕ) (answer : Result Catalogue Refusal)
          → ReadsBy (judge text) concepts concepts' inclusions inclusions' (catalogue_reply answer)
          → ReadsCatalogue text concepts concepts' inclusions inclusions' (catalogue_reply answer)
      unfolding reading_of catalogue_fault or_else refuse_if buffer_fault
      reads_on h concepts' inclusions' answer c =
          let e : catalogue_fault text (length concepts) (length inclusions) ≡ Done =
          rw (le-ltb (length concepts) 576 a, le-ltb (length inclusions) 192 b, le-ltb 8192 (length text) h) refl
          in
          subst (λ (z : Outcome). ReadsBy (reading_of z text) concepts concepts' inclusions inclusions' (catalogue_reply answer)) (sym e) c
