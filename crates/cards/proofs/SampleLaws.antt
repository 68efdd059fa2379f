-- A computed test of what a card says, and the law that turns it into the sentence.
use Rattle.std.specs.Prelude.{Err, Ok}
use Rattle.subsumption.specs.Refusal.{Outcome, Done}
use Prim.Native.Nat.{ℕ, zero, suc, ◌^◌, ◌<◌}
use mathlib.Core.Path.{◌≡◌, refl, sym, ap, ap₂, ◌∙◌, subst}
use mathlib.Core.List.Memᴰ
use mathlib.Core.List.{List, [], ◌∷◌, ◌++◌, Memᴰ}
use mathlib.Core.Bool.{Bool, true, false, not, false≢true, true≢false}
use mathlib.Core.Logic.{inl, inr, ⊎_elim}
use native.Mathlib.Omega.{arith}
use lib.Dec.{eqb, ltb}
use lib.ListN.{length, get_or}
use borrow.Author.Tests.{eqb-true, ltb-true, not-true}
use Rattle.subsumption.specs.Tables.{Tables, or, both, any_below, count_of, pairs_of, left_of, right_of}
use Rattle.subsumption.specs.Atoms.{atoms, bit}
use Rattle.subsumption.specs.Subsumption.{Subsumed}
use Rattle.subsumption.specs.Rules.{follows}
use Rattle.subsumption.specs.Check.{table_fault, assignment_fault}
use Rattle.subsumption.proofs.Bools.{or_cases, both_true, both-intro, any_below-elim, last-cases}
use Rattle.subsumption.proofs.WellFormed.{WellFormed}
use Rattle.subsumption.proofs.Accepted.{well_formed}
use Rattle.subsumption.proofs.ModelRows.{gather, gather-in}
use Rattle.subsumption.proofs.Rules.{Rules, follows_same, follows-named, follows-top, follows-first, follows-second, follows-meet, follows-linked, follows-included, follows-chooses, follows-all-chosen}
use Rattle.subsumption.proofs.RuleSoundness.{follows-sound}
use Rattle.subsumption.proofs.RuleCompleteness.{rules-complete}
use Rattle.subsumption.proofs.Chosen.{chosen-known}
use Rattle.matching.specs.Solving.{Solves, takes, Earlier}
use Rattle.cards.specs.Samples.{Saying, always_below, never_below, below, not_below, parts, filling, no_filling, Says, Card, Holds}
use Rattle.matching.proofs.SubstitutionLaws.Locality.{none-by-substitution}
use Rattle.matching.proofs.ChosenLaws.Faults.{choices-length, choices-low}
use Rattle.matching.proofs.SubstitutionLaws.Members.{any_in, any_in-intro, any_in-elim}

-- ---- all numbers below n pass
unfoldable pub all_below : ℕ → (ℕ → Bool) → Bool
all_below zero test = true
all_below (suc n) test = both (test n) (all_below n test)

pub all_below-at : (n : ℕ) (test : ℕ → Bool) → all_below n test ≡ true → (m : ℕ) → m < n → test m ≡ true
unfolding all_below
all_below-at zero test h m l = absurd (omega arith)
all_below-at (suc n) test h m l =
    let (p, q) = both_true _ _ h in
    ⊎_elim (λ (e : m ≡ n). subst (λ (z : ℕ). test z ≡ true) (sym e) p) (λ k. all_below-at n test q m k) (last-cases m n l)

pub all_below-intro : (n : ℕ) (test : ℕ → Bool) → ((m : ℕ) → m < n → test m ≡ true) → all_below n test ≡ true
unfolding all_below
all_below-intro zero test h = refl
all_below-intro (suc n) test h = both-intro _ _ (h n (omega arith)) (all_below-intro n test (λ m l. h m (omega arith)))

-- ---- tables of truth values
unfoldable pub built : {A : Type 0} → (ℕ → A) → ℕ → List A
built f zero = []
built f (suc n) = f 0 ∷ built (λ i. f (suc i)) n

built-at : {A : Type 0} (f : ℕ → A) (d : A) (n i : ℕ) → i < n → get_or (built f n) i d ≡ f i
unfolding built
built-at f d zero i l = absurd (omega arith)
built-at f d (suc n) zero l = refl
built-at f d (suc n) (suc i) l = built-at (λ i. f (suc i)) d n i (omega arith)

unfoldable pub mark_at : List (List Bool) → ℕ → ℕ → Bool
mark_at marks i j = get_or (get_or marks i []) j false

pub record Line : Type 0 where
  pub rule : ℕ
  pub extra : ℕ

abbrev pub line : ℕ → ℕ → Line
line rule extra = record { rule = rule; extra = extra }

-- the rules and extras that a pair can follow by
unfoldable pub lines : Tables → List Line
lines t =
    line 1 0 ∷ line 2 0 ∷ line 3 0 ∷ line 3 1 ∷ line 4 0 ∷ line 5 0 ∷ line 8 0
    ∷ (gather (λ m. line 6 m ∷ []) (pairs_of t.inclusions) ++ gather (λ p. line 7 p ∷ []) (count_of t.concepts))

module _ (t : Tables) (α : List ℕ) where
  unfoldable pub some : List Line → List (List Bool) → ℕ → ℕ → Bool
  some ls marks i j = any_in (λ l. follows t α (mark_at marks) l.rule i j l.extra) ls

  unfoldable pub round : List Line → List (List Bool) → List (List Bool)
  round ls marks = built (λ i. built (λ j. or (mark_at marks i j) (some ls marks i j)) (count_of t.concepts)) (count_of t.concepts)

  unfoldable pub rounds : List Line → ℕ → List (List Bool)
  rounds ls zero = []
  rounds ls (suc n) = round ls (rounds ls n)

  unfoldable pub closed_test : List Line → List (List Bool) → Bool
  closed_test ls marks = all_below (count_of t.concepts) (λ i. all_below (count_of t.concepts) (λ j. or (mark_at marks i j) (not (some ls marks i j))))

  module _ (wf : WellFormed t) where
    pub rounds-sound :
        (ls : List Line) (n i j : ℕ) → i < count_of t.concepts → j < count_of t.concepts → mark_at (rounds ls n) i j ≡ true → Subsumed t α i j
    unfolding rounds round some mark_at
    rounds-sound ls zero i j l k h = absurd (false≢true h)
    rounds-sound ls (suc n) i j l k h =
        ⊎_elim (λ e. rounds-sound ls n i j l k e)
        (λ e. let (x, _, f) = any_in-elim _ ls e in follows-sound t α wf (mark_at (rounds ls n)) (rounds-sound ls n) x.rule i j x.extra f)
        (or_cases (mark_at (rounds ls n) i j) _
        (sym (built-at _ false _ j k) ∙ ap (λ (z : List Bool). get_or z j false) (sym (built-at _ [] _ i l)) ∙ h))

    module _ (marks : List (List Bool)) (closed : closed_test (lines t) marks ≡ true) where
      taken : (i j : ℕ) (x : Line) → i < count_of t.concepts → j < count_of t.concepts → Memᴰ x (lines t) → follows t α (mark_at marks) x.rule i j x.extra ≡ true → mark_at marks i j ≡ true
      unfolding closed_test some
      taken i j x l k m f =
          ⊎_elim (λ e. e) (λ e. absurd (true≢false (sym (any_in-intro _ m f) ∙ not-true _ e)))
          (or_cases _ _ (all_below-at _ _ (all_below-at _ _ closed i l) j k))

      closed-rules : Rules t α (λ i j. mark_at marks i j ≡ true)
      unfolding lines
      closed-rules =
          record {
            same = λ i l. taken i i (line 1 0) l l (Memᴰ.head refl) (follows_same t α _ i i l l refl);
            named = λ i j n l k e f. taken i j (line 1 0) l k (Memᴰ.head refl) (follows-named t α _ i j l k n e f);
            top = λ i j l k e. taken i j (line 2 0) l k (Memᴰ.tail (Memᴰ.head refl)) (follows-top t α _ i j l k e);
            first = λ i j a b l k e h. taken i j (line 3 0) l k (Memᴰ.tail (Memᴰ.tail (Memᴰ.head refl))) (follows-first t α _ i j l k a b e h);
            second = λ i j a b l k e h. taken i j (line 3 1) l k (Memᴰ.tail (Memᴰ.tail (Memᴰ.tail (Memᴰ.head refl)))) (follows-second t α _ i j l k a b e h);
            meet = λ i j a b l k e h u. taken i j (line 4 0) l k (Memᴰ.tail (Memᴰ.tail (Memᴰ.tail (Memᴰ.tail (Memᴰ.head refl))))) (follows-meet t α _ i j l k a b e h u);
            linked = λ i j r s a b l k e f w h. taken i j (line 5 0) l k (Memᴰ.tail (Memᴰ.tail (Memᴰ.tail (Memᴰ.tail (Memᴰ.tail (Memᴰ.head refl)))))) (follows-linked t α _ i j l k r s a b e f w h);
            included = λ i j m l k u h v. taken i j (line 6 m) l k (later (Memᴰ.append_left _ (gather-in (λ m. line 6 m ∷ []) _ m u (Memᴰ.head refl)))) (follows-included t α _ i j l k m u h v);
            chooses = λ i j v p l k e m h. taken i j (line 7 p) l k (later (Memᴰ.append_right (gather (λ m. line 6 m ∷ []) (pairs_of t.inclusions)) (gather-in (λ p. line 7 p ∷ []) _ p (chosen-known t α v p m) (Memᴰ.head refl)))) (follows-chooses t α _ i j l k v p e m h);
            all-chosen = λ i j v l k e h. taken i j (line 8 0) l k (Memᴰ.tail (Memᴰ.tail (Memᴰ.tail (Memᴰ.tail (Memᴰ.tail (Memᴰ.tail (Memᴰ.head refl))))))) (follows-all-chosen t α _ i j l k v e h);
          }
        where
          later : {x : Line} → Memᴰ x (gather (λ m. line 6 m ∷ []) (pairs_of t.inclusions) ++ gather (λ p. line 7 p ∷ []) (count_of t.concepts)) → Memᴰ x (lines t)
          later m = Memᴰ.tail (Memᴰ.tail (Memᴰ.tail (Memᴰ.tail (Memᴰ.tail (Memᴰ.tail (Memᴰ.tail m))))))

      pub closed-complete : (i j : ℕ) → i < count_of t.concepts → j < count_of t.concepts → Subsumed t α i j → mark_at marks i j ≡ true
      closed-complete = rules-complete t α wf (mark_at marks) closed-rules

-- ---- lists
unfoldable pub same_list : List ℕ → List ℕ → Bool
same_list [] [] = true
same_list [] (y ∷ ys) = false
same_list (x ∷ xs) [] = false
same_list (x ∷ xs) (y ∷ ys) = both (eqb x y) (same_list xs ys)

pub same-list : (xs ys : List ℕ) → same_list xs ys ≡ true → xs ≡ ys
unfolding same_list
same-list [] [] h = refl
same-list [] (y ∷ ys) h = absurd (false≢true h)
same-list (x ∷ xs) [] h = absurd (false≢true h)
same-list (x ∷ xs) (y ∷ ys) h = let (p, q) = both_true _ _ h in ap₂ ◌∷◌ (eqb-true x y p) (same-list xs ys q)

unfoldable pub all_in : {A : Type 0} → (A → Bool) → List A → Bool
all_in test [] = true
all_in test (a ∷ list) = both (test a) (all_in test list)

pub all_in-at : {A : Type 0} (test : A → Bool) {a : A} {list : List A} → Memᴰ a list → all_in test list ≡ true → test a ≡ true
unfolding all_in
all_in-at test (Memᴰ.head e) h = rw e (both_true _ _ h).0
all_in-at test (Memᴰ.tail m) h = all_in-at test m (both_true _ _ h).1

-- every list of v numbers below n
unfoldable pub before : ℕ → List (List ℕ) → List (List ℕ)
before c [] = []
before c (list ∷ lists) = (c ∷ list) ∷ before c lists

unfoldable pub all_lists : ℕ → ℕ → List (List ℕ)
all_lists n zero = [] ∷ []
all_lists n (suc v) = gather (λ c. before c (all_lists n v)) n

before-in : (c : ℕ) {list : List ℕ} {lists : List (List ℕ)} → Memᴰ list lists → Memᴰ (c ∷ list) (before c lists)
unfolding before
before-in c (Memᴰ.head e) = Memᴰ.head (ap (λ (z : List ℕ). c ∷ z) e)
before-in c (Memᴰ.tail m) = Memᴰ.tail (before-in c m)

all_listed : (n v : ℕ) (list : List ℕ) → length list ≡ v → ((k : ℕ) → k < v → get_or list k 0 < n) → Memᴰ list (all_lists n v)
unfolding all_lists
all_listed n zero [] e h = Memᴰ.head refl
all_listed n zero (x ∷ list) e h = absurd (omega arith)
all_listed n (suc v) [] e h = absurd (omega arith)
all_listed n (suc v) (x ∷ list) e h =
    gather-in (λ c. before c (all_lists n v)) n x (h 0 (omega arith))
    (before-in x (all_listed n v list (omega arith) (λ k l. h (suc k) (omega arith))))

unfoldable pub assignments : Tables → List (List ℕ)
assignments t = all_lists (2 ^ length (atoms t)) t.variables

pub all-assignments : (t : Tables) (α : List ℕ) → assignment_fault t α ≡ Done → Memᴰ α (assignments t)
unfolding assignments assignment_fault
all-assignments t α h =
    all_listed _ _ α (choices-length (length (atoms t)) t.variables α h) (λ k l. choices-low (length (atoms t)) t.variables α k h l)

-- ---- the order
unfoldable pub bools_agree : Bool → Bool → Bool
bools_agree true b = b
bools_agree false b = not b

same-bools : (a b : Bool) → bools_agree a b ≡ true → a ≡ b
unfolding bools_agree
same-bools true b h = sym h
same-bools false b h = sym (not-true b h)

unfoldable pub earlier_test : ℕ → ℕ → List ℕ → List ℕ → Bool
earlier_test v n a b =
    any_below v
    (λ k. both (all_below k (λ m. eqb (get_or a m 0) (get_or b m 0)))
    (any_below n (λ q. both (not (takes a k q)) (both (takes b k q) (all_below q (λ p. bools_agree (takes a k p) (takes b k p)))))))

pub test-earlier : (v n : ℕ) (a b : List ℕ) → earlier_test v n a b ≡ true → Earlier a b
unfolding earlier_test
test-earlier v n a b h =
    let (k, _, e) = any_below-elim v _ h in
    let (s, f) = both_true _ _ e in
    let (q, _, g) = any_below-elim n _ f in
    let (l, u) = both_true _ _ g in
    let (r, w) = both_true _ _ u in
    record {
      variable = k;
      position = q;
      left_out = not-true _ l;
      taken = r;
      same-variables = λ m p z. ap (λ (x : ℕ). bit x p) (eqb-true _ _ (all_below-at k _ s m z));
      same-positions = λ p z. same-bools _ _ (all_below-at q _ w p z);
    }

-- ---- what a card says
unfoldable pub is_done : Outcome → Bool
is_done (Ok tt) = true
is_done (Err r) = false

pub is-done : (o : Outcome) → is_done o ≡ true → o ≡ Done
unfolding is_done
is-done (Ok tt) h = refl
is-done (Err r) h = absurd (false≢true h)

unfoldable pub solved_by : Tables → List (List Bool) → Bool
solved_by t marks = all_below (pairs_of t.questions) (λ m. mark_at marks (left_of t.questions m) (right_of t.questions m))

-- the marks after n rounds are closed, and a question is not marked
unfoldable pub refuted : Tables → ℕ → List ℕ → Bool
refuted t n α = let marks = rounds t α (lines t) n in both (closed_test t α (lines t) marks) (not (solved_by t marks))

-- both are ids, and the test passes
unfoldable pub on_ids : Tables → ℕ → ℕ → Bool → Bool
on_ids t i j test = both (ltb i (count_of t.concepts)) (both (ltb j (count_of t.concepts)) test)

-- the marks after n rounds have the pair; they are closed, and do not
unfoldable pub marks : Tables → ℕ → List ℕ → ℕ → ℕ → Bool
marks t n α i j = mark_at (rounds t α (lines t) n) i j

unfoldable pub misses : Tables → ℕ → List ℕ → ℕ → ℕ → Bool
misses t n α i j = let marked = rounds t α (lines t) n in both (closed_test t α (lines t) marked) (not (mark_at marked i j))

unfoldable pub says_test : Tables → ℕ → Saying → Bool
says_test t n (always_below i j) = on_ids t i j (all_in (λ α. marks t n α i j) (assignments t))
says_test t n (never_below i j) = on_ids t i j (all_in (λ α. misses t n α i j) (assignments t))
says_test t n (below α i j) = both (is_done (assignment_fault t α)) (on_ids t i j (marks t n α i j))
says_test t n (not_below α i j) = both (is_done (assignment_fault t α)) (on_ids t i j (misses t n α i j))
says_test t n (parts ids) = same_list (atoms t) ids
says_test t n (filling α) =
    both (is_done (assignment_fault t α)) (both (solved_by t (rounds t α (lines t) n)) (all_in (λ β. or (same_list β α) (or (earlier_test t.variables (length (atoms t)) α β) (refuted t n β))) (assignments t)))
says_test t n no_filling = all_in (refuted t n) (assignments t)

module _ (t : Tables) (n : ℕ) (ok : table_fault t ≡ Done) where
  refuted-not : (α : List ℕ) → refuted t n α ≡ true → Solves t α → ⊥
  unfolding refuted solved_by
  refuted-not α h s =
      let (c, q) = both_true _ _ h in
      let wf = well_formed t ok in
      true≢false (sym (all_below-intro _ _ (λ m l. closed-complete t α wf _ c _ _ (wf.question-left m l) (wf.question-right m l) (s m l))) ∙ not-true _ q)

  ids-pass : (i j : ℕ) (test : Bool) → on_ids t i j test ≡ true → (i < count_of t.concepts) × (j < count_of t.concepts) × (test ≡ true)
  unfolding on_ids
  ids-pass i j test h =
      let (l, q) = both_true _ _ h in
      let (k, m) = both_true _ _ q in
      (ltb-true _ _ l, ltb-true _ _ k, m)

  marks-below : (α : List ℕ) (i j : ℕ) → i < count_of t.concepts → j < count_of t.concepts → marks t n α i j ≡ true → Subsumed t α i j
  unfolding marks
  marks-below α i j l k m = rounds-sound t α (well_formed t ok) (lines t) n i j l k m

  misses-not : (α : List ℕ) (i j : ℕ) → i < count_of t.concepts → j < count_of t.concepts → misses t n α i j ≡ true → Subsumed t α i j → ⊥
  unfolding misses
  misses-not α i j l k h s =
      let (c, m) = both_true _ _ h in
      true≢false (sym (closed-complete t α (well_formed t ok) _ c i j l k s) ∙ not-true _ m)

  pub test-says : (s : Saying) → says_test t n s ≡ true → Says t s
  unfolding says_test solved_by
  test-says (always_below i j) h = let (l, k, m) = ids-pass i j _ h in λ α a. marks-below α i j l k (all_in-at _ (all-assignments t α a) m)
  test-says (never_below i j) h = let (l, k, m) = ids-pass i j _ h in λ α a. misses-not α i j l k (all_in-at _ (all-assignments t α a) m)
  test-says (below α i j) h =
      let (a, p) = both_true _ _ h in
      let (l, k, m) = ids-pass i j _ p in
      (is-done _ a, marks-below α i j l k m)
  test-says (not_below α i j) h =
      let (a, p) = both_true _ _ h in
      let (l, k, m) = ids-pass i j _ p in
      (is-done _ a, misses-not α i j l k m)
  test-says (parts ids) h = same-list _ _ h
  test-says (filling α) h =
      let (a, p) = both_true _ _ h in
      let (q, e) = both_true _ _ p in
      let wf = well_formed t ok in
      record {
        accepted = is-done _ a;
        solves = λ m l. rounds-sound t α wf (lines t) n _ _ (wf.question-left m l) (wf.question-right m l) (all_below-at _ _ q m l);
        first = λ β b s.
            ⊎_elim (λ u. inl (same-list β α u))
            (λ u. ⊎_elim (λ v. inr (test-earlier _ _ α β v)) (λ v. absurd (refuted-not β v s)) (or_cases _ _ u))
            (or_cases _ _ (all_in-at _ (all-assignments t β b) e));
      }
  test-says no_filling h = none-by-substitution t ok (λ α a s. refuted-not α (all_in-at _ (all-assignments t α a) h) s)

-- A card that passes holds.
unfoldable pub card_test : ℕ → Card → Bool
card_test n c = both (is_done (table_fault c.tables)) (says_test c.tables n c.saying)

pub test-holds : (n : ℕ) (c : Card) → card_test n c ≡ true → Holds c
unfolding card_test
test-holds n c h =
    let (a, p) = both_true _ _ h in
    let ok = is-done _ a in
    (ok, test-says c.tables n ok c.saying p)
