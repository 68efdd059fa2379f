-- All rows: which are finished, and that at last all are.
use Prim.Native.Nat.{ℕ, ◌+◌, ◌*◌, ◌-◌, ◌<◌, ◌≤◌}
use mathlib.Core.Path.{◌≡◌, refl, sym, ◌∙◌, subst}
use mathlib.Core.List.{List}
use mathlib.Core.Bool.{Bool, true, false, ◌||◌}
use mathlib.Core.Logic.{⊎_elim}
use native.Mathlib.Omega.{arith}
use lib.ListN.{length, replicate}
use Rattle.subsumption.specs.Tables.{node, count_of}
use Rattle.subsumption.proofs.Bools.{eq-or-ne}
use Rattle.square.specs.Inner.Square.{in_row, Square}
use Rattle.incremental.specs.Inner.Lines.{InnerAt, IncludeAt}
use Rattle.incremental.specs.Inner.Pass.{Pass}
use Rattle.incremental.specs.Inner.Settling.{InnerPass}
use Rattle.square.specs.Inner.Sets.{Inserted}
use Rattle.incremental.specs.Inner.Including.{is_in, DoneRows, IncludePass, Proposed}
use Rattle.incremental.specs.Inner.Rows.{RowLines, RowsPass}
use Rattle.square.proofs.SetLaws.{empty-line}
use Rattle.incremental.proofs.Passes.{pass-none, pass-as, pass-then, pass-law}

module _ (concepts inclusions : List ℕ) (choose : ℕ → List ℕ) where
  -- the row k has taken in all that the rules ask of it
  abbrev pub RowAt : List ℕ → ℕ → Type 0
  RowAt s k = InnerAt (count_of concepts) choose (in_row s) k (node concepts k) × IncludeAt (count_of concepts) inclusions (in_row s) k

  pub record RowsTo (before : List ℕ) (n : ℕ) (done : List ℕ) (hint : ℕ) (after : List ℕ) (changed : Bool) : Type 0 where
    pub long : length done ≡ 3
    pub hinted : 0 < count_of concepts → hint < count_of concepts
    pub within : n ≤ count_of concepts * 2
    pub turned : (k : ℕ) → k + count_of concepts < n → is_in done k ≡ true
    pub passed :
        Pass (count_of concepts) (RowLines concepts inclusions choose) (λ s. (k : ℕ) → k < count_of concepts → is_in done k ≡ true → RowAt s k) before after changed

  pub rows-first : (s : List ℕ) → count_of concepts ≤ 192 → Square s → RowsTo s 0 (replicate 3 0) 0 s false
  rows-first s few S =
      record {
        long = refl;
        hinted = λ h. h;
        within = omega arith;
        turned = λ k h. absurd (omega arith);
        passed = pass-none S (λ k h u. absurd (empty-line 3 0 k (omega arith) (omega arith) u));
      }

  module _ (before : List ℕ) (n : ℕ) (done : List ℕ) (hint : ℕ) (mid : List ℕ) (a : Bool) (T : RowsTo before n done hint mid a) (inside : n < count_of concepts * 2)
      (i : ℕ) (N : Proposed (count_of concepts) n i) where
    -- the turns past the count of ids go through all ids
    turned_more : (set : List ℕ) → ((k : ℕ) → is_in done k ≡ true → is_in set k ≡ true) → is_in set i ≡ true → (k : ℕ) → k + count_of concepts < n + 1 → is_in set k ≡ true
    turned_more set more here k h =
        ⊎_elim
        (λ (e : k + count_of concepts ≡ n). subst (λ (z : ℕ). is_in set z ≡ true) (is k e (N.last (omega arith))) here)
        (λ v. more k (T.turned k (omega (arith, v)))) (eq-or-ne (k + count_of concepts) n)
      where
        is : (k : ℕ) → k + count_of concepts ≡ n → i ≡ n - count_of concepts → i ≡ k
        is k e f = omega arith

    pub rows_more :
        (few : count_of concepts ≤ 192) (one after done' : List ℕ) (b c : Bool) → InnerPass concepts choose i mid one b
        → IncludePass (count_of concepts) inclusions (λ s. DoneRows (count_of concepts) inclusions s done → IncludeAt (count_of concepts) inclusions (in_row s) i) one after c
        → Inserted done done' 0 i → RowsTo before (n + 1) done' i after ((a || b) || c)
    rows_more few one after done' b c A B I =
        record {
          long = I.long ∙ T.long;
          hinted = λ h. N.low;
          within = omega arith;
          turned = turned_more done' (λ k u. I.kept 0 k u) I.taken;
          passed = pass-as (pass-then (pass-then T.passed (pass-law (λ R r. r.0) A)) (pass-law (λ R r. r.1) B)) quiet;
        }
      where
        quiet :
            (((k : ℕ) → k < count_of concepts → is_in done k ≡ true → RowAt before k) × InnerAt (count_of concepts) choose (in_row before) i (node concepts i))
            × (DoneRows (count_of concepts) inclusions before done → IncludeAt (count_of concepts) inclusions (in_row before) i)
            → (k : ℕ) → k < count_of concepts → is_in done' k ≡ true → RowAt before k
        quiet ((t, u), v) k h w =
            ⊎_elim (λ x. t k h x) (λ (e : k ≡ i). subst (λ (z : ℕ). RowAt before z) (sym e) (u, v (λ q l x. (t q l x).1))) (I.bits k (omega arith) w)

  pub rows-done :
      (before : List ℕ) (n : ℕ) (done : List ℕ) (hint : ℕ) (after : List ℕ) (changed : Bool) → RowsTo before n done hint after changed → count_of concepts * 2 ≤ n
      → RowsPass concepts inclusions choose before after changed
  rows-done before n done hint after changed T over =
      pass-as T.passed
      (λ u. ((λ i h. (u i h (T.turned i (omega arith))).0), (λ i h. (u i h (T.turned i (omega arith))).1)))
