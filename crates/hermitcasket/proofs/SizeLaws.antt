-- How long the output can be.
use Rattle.subsumption.specs.Refusal.{Done}
use Prim.Native.Nat.{ℕ, zero, suc, ◌+◌, ◌*◌, ◌/◌, ◌<◌, ◌≤◌}
use mathlib.Core.Path.{◌≡◌, refl, ap}
use mathlib.Core.List.{List, [], ◌∷◌}
use mathlib.Core.Bool.{Bool, true, false}
use native.Mathlib.Omega.{arith}
use lib.ListN.{length, length-append}
use borrow.Author.Tests.{eqb-true}
use Rattle.subsumption.specs.Tables.{Tables, or, both, any_below, Node, top_at, name_at, exists_at, and_at, var_at, node, count_of}
use Rattle.subsumption.specs.Atoms.{bit, keep, pick, is_atom, atoms}
use Rattle.subsumption.specs.Check.{table_fault}
use Rattle.subsumption.specs.Inner.Atoms.{mark_at, marked_ids}
use Rattle.subsumption.proofs.Accepted.{well_formed}
use Rattle.subsumption.proofs.Bools.{both_true}
use Rattle.subsumption.proofs.Lists.{keep-le}
use Rattle.countermodel.specs.Countermodel.{is_named, bears, names_at}
use Rattle.countermodel.specs.Inner.Show.{Checked}
use Rattle.numerals.specs.Digits.{digits}
use Rattle.numerals.specs.Printing.{number_text, pair_text}
use Rattle.numerals.specs.Lines.{variables_key}
use Rattle.numerals.proofs.DigitLaws.{digits-short}
use Rattle.numerals.proofs.WriteLaws.{number-length, pair-length}
use Rattle.hermitcasket.specs.Printing.{id_text, ids_text, fill_text, fills_text, filled_text, things_key, is_key, link_text}
use Rattle.hermitcasket.specs.Inner.Print.{mark_line, mark_lines}

-- ---- every id is below a bound
pub AllBelow : ℕ → List ℕ → Type 0
AllBelow b [] = Unit
AllBelow b (x ∷ xs) = (x < b) × AllBelow b xs

pub keep-below : (test : ℕ → Bool) (b from count : ℕ) → from + count ≤ b → AllBelow b (keep test from count)
unfolding keep AllBelow
keep-below test b from zero h = tt
keep-below test b from (suc count) h = go (test from) refl (keep-below test b (suc from) count (omega arith))
  where
    go : (x : Bool) → test from ≡ x → AllBelow b (keep test (suc from) count) → AllBelow b (keep test from (suc count))
    go true e ih = rw e (omega arith, ih)
    go false e ih = rw e ih

pick-below : (b : ℕ) (xs : List ℕ) (choice : ℕ) → AllBelow b xs → AllBelow b (pick xs choice)
unfolding pick AllBelow
pick-below b [] choice h = tt
pick-below b (x ∷ xs) choice h = go (bit choice 0) refl (pick-below b xs (choice / 2) h.1)
  where
    go : (v : Bool) → bit choice 0 ≡ v → AllBelow b (pick xs (choice / 2)) → AllBelow b (pick (x ∷ xs) choice)
    go true e ih = rw e (h.0, ih)
    go false e ih = rw e ih

pick-length : (xs : List ℕ) (choice : ℕ) → length (pick xs choice) ≤ length xs
unfolding pick
pick-length [] choice = omega arith
pick-length (x ∷ xs) choice = go (bit choice 0) refl (pick-length xs (choice / 2))
  where
    go : (v : Bool) → bit choice 0 ≡ v → length (pick xs (choice / 2)) ≤ length xs → length (pick (x ∷ xs) choice) ≤ suc (length xs)
    go true e ih = rw e (omega arith)
    go false e ih = rw e (omega arith)

id-length : (later : Bool) (id : ℕ) → id < 1000 → length (id_text later id) ≤ 4
unfolding id_text
id-length true id h = omega (arith, digits-short 2 id h)
id-length false id h = omega (arith, digits-short 2 id h)

ids-length : (later : Bool) (ids : List ℕ) → AllBelow 1000 ids → length (ids_text later ids) ≤ 4 * length ids
unfolding ids_text AllBelow
ids-length later [] h = omega arith
ids-length later (id ∷ ids) h = omega (arith, id-length later id h.0, ids-length true ids h.1, length-append (id_text later id) (ids_text true ids))

fill-length : (ids : List ℕ) → AllBelow 1000 ids → length (fill_text ids) ≤ 6 + 4 * length ids
unfolding fill_text
fill-length ids h = omega (arith, ids-length false ids h, length-append (ids_text false ids) (10 ∷ []))

fills-length : (ids choices : List ℕ) → AllBelow 1000 ids → length ids ≤ 64 → length (fills_text ids choices) ≤ 262 * length choices
unfolding fills_text
fills-length ids [] h l = omega arith
fills-length ids (choice ∷ choices) h l =
    omega (
      arith,
      fill-length (pick ids choice) (pick-below 1000 ids choice h),
      pick-length ids choice,
      fills-length ids choices h l,
      length-append (fill_text (pick ids choice)) (fills_text ids choices),
    )

pub filled-room : (t : Tables) (choices out : List ℕ) → table_fault t ≡ Done → length choices ≤ 8 → 4096 ≤ length out → 0 + length (filled_text (atoms t) choices) ≤ length out
unfolding filled_text atoms
filled-room t choices out h l k =
    omega (
      arith,
      fills-length (atoms t) choices (keep-below (is_atom t) 1000 0 _ (omega (arith, (well_formed t h).few))) (well_formed t h).few-atoms,
      number-length variables_key (length choices),
      digits-short 0 (length choices) (omega arith),
      length-append (number_text variables_key (length choices)) (fills_text (atoms t) choices),
    )

-- ---- the parts of an interpretation that is shown
mark-length : (link : Bool) (i s q : ℕ) → i < 1000 → s < 100 → q < 1000 → length (mark_line link i s q) ≤ 16
unfolding mark_line link_text
mark-length false i s q hi hs hq = omega (arith, pair-length is_key i q, digits-short 2 i hi, digits-short 2 q hq)
mark-length true i s q hi hs hq =
    omega (
      arith,
      length-append (digits i) (pair_text (44 ∷ []) s q),
      pair-length (44 ∷ []) s q,
      digits-short 2 i hi,
      digits-short 1 s hs,
      digits-short 2 q hq,
    )

marks-length : (link : Bool) (i s : ℕ) (qs : List ℕ) → i < 1000 → s < 100 → AllBelow 1000 qs → length (mark_lines link i s qs) ≤ 16 * length qs
unfolding mark_lines AllBelow
marks-length link i s [] hi hs h = omega arith
marks-length link i s (q ∷ qs) hi hs h =
    omega (arith, mark-length link i s q hi hs h.0, marks-length link i s qs hi hs h.1, length-append (mark_line link i s q) (mark_lines link i s qs))

-- an element bears at most one name for each concept
keep-none : (test : ℕ → Bool) (from count : ℕ) → ((n : ℕ) → from ≤ n → test n ≡ true → ⊥) → keep test from count ≡ []
unfolding keep
keep-none test from zero h = refl
keep-none test from (suc count) h = go (test from) refl (keep-none test (suc from) count (λ n l. h n (omega arith)))
  where
    go : (b : Bool) → test from ≡ b → keep test (suc from) count ≡ [] → keep test from (suc count) ≡ []
    go true e ih = absurd (h from (omega arith) e)
    go false e ih = rw e ih

keep_one : (test : ℕ → Bool) (p from count : ℕ) → ((n : ℕ) → test n ≡ true → n ≡ p) → length (keep test from count) ≤ 1
unfolding keep
keep_one test p from zero h = omega arith
keep_one test p from (suc count) h = go (test from) refl (keep_one test p (suc from) count h)
  where
    go : (b : Bool) → test from ≡ b → length (keep test (suc from) count) ≤ 1 → length (keep test from (suc count)) ≤ 1
    go true e ih = rw (e, keep-none test (suc from) count (λ n l y. omega (arith, h n y, h from e))) (omega arith)
    go false e ih = rw e ih

keep-or : (f g : ℕ → Bool) (from count : ℕ) → length (keep (λ n. or (f n) (g n)) from count) ≤ length (keep f from count) + length (keep g from count)
unfolding keep or
keep-or f g from zero = omega arith
keep-or f g from (suc count) = go (f from) (g from) refl refl (keep-or f g (suc from) count)
  where
    go :
        (a b : Bool) → f from ≡ a → g from ≡ b
        → length (keep (λ n. or (f n) (g n)) (suc from) count) ≤ length (keep f (suc from) count) + length (keep g (suc from) count)
        → length (keep (λ n. or (f n) (g n)) from (suc count)) ≤ length (keep f from (suc count)) + length (keep g from (suc count))
    go true true d e ih = rw (d, e) (omega arith)
    go true false d e ih = rw (d, e) (omega arith)
    go false true d e ih = rw (d, e) (omega arith)
    go false false d e ih = rw (d, e) ih

no_name : (b : Bool) (from count : ℕ) → length (keep (λ n. both b false) from count) ≤ 1
no_name b from count = keep_one (λ n. both b false) 0 from count (λ n e. let f = (both_true b false e).1 in let z : ◌≡◌ {A = ℕ} 0 1 = cc in absurd (omega arith))

one_name : (b : Bool) (node : Node) (from count : ℕ) → length (keep (λ n. both b (is_named n node)) from count) ≤ 1
unfolding is_named
one_name b (name_at m) from count = keep_one _ m from count (λ n e. eqb-true n m (both_true b _ e).1)
one_name b top_at from count = no_name b from count
one_name b (exists_at r j) from count = no_name b from count
one_name b (and_at i j) from count = no_name b from count
one_name b (var_at k) from count = no_name b from count

few-names :
    (concepts : List ℕ) (marks : ℕ → Bool) (rows from count : ℕ)
    → length (keep (λ n. any_below rows (λ j. both (marks j) (is_named n (node concepts j)))) from count) ≤ rows
unfolding any_below
few-names concepts marks zero from count = omega (arith, ap length (keep-none (λ n. false) from count (λ n l e. let z : ◌≡◌ {A = ℕ} 0 1 = cc in omega arith)))
few-names concepts marks (suc rows) from count =
    omega (
      arith,
      keep-or (λ n. both (marks rows) (is_named n (node concepts rows))) (λ n. any_below rows (λ j. both (marks j) (is_named n (node concepts j)))) from count,
      one_name (marks rows) (node concepts rows) from count,
      few-names concepts marks rows from count,
    )

pub few-borne : (concepts : List ℕ) (marks : ℕ → ℕ → Bool) (i : ℕ) → length (names_at concepts marks i) ≤ count_of concepts
unfolding names_at bears
few-borne concepts marks i = few-names concepts (marks i) (count_of concepts) 0 1000

pub names-short : (i : ℕ) (names out : List ℕ) → i < 192 → AllBelow 1000 names → length names ≤ 192 → 4096 ≤ length out → 0 + length (mark_lines false i 0 names) ≤ length out
names-short i names out hi h l k = omega (arith, marks-length false i 0 names (omega arith) (omega arith) h)

pub links-short :
    (concepts : List ℕ) (links : List Bool) (i s : ℕ) (out : List ℕ) → Checked concepts → i < count_of concepts → s < 100 → 4096 ≤ length out
    → 0 + length (mark_lines true i s (marked_ids links (count_of concepts))) ≤ length out
links-short concepts links i s out C hi hs k =
    let few = C.layered.few in
    omega (
      arith,
      few,
      keep-le (mark_at links) (count_of concepts),
      marks-length true i s (marked_ids links (count_of concepts)) (omega arith) hs (keep-below (mark_at links) 1000 0 (count_of concepts) (omega arith)),
    )

pub things-room : (concepts out : List ℕ) → Checked concepts → 4096 ≤ length out → 0 + length (number_text things_key (count_of concepts)) ≤ length out
things-room concepts out C k = let few = C.layered.few in omega (arith, number-length things_key (count_of concepts), digits-short 2 (count_of concepts) (omega arith))
