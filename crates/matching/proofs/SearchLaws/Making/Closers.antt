-- The tops and conjunctions of a question: what is asked of closed values, and keeping until nothing is new.
use Prim.Native.Nat.{ℕ, zero, suc, ◌+◌, ◌*◌, ◌<◌, ◌≤◌}
use mathlib.Core.Path.{◌≡◌, refl, sym, ap, ap₂, ◌∙◌, subst}
use mathlib.Core.List.{List}
use mathlib.Core.Bool.{Bool, true, false, not, true≢false, false≢true}
use mathlib.Core.Logic.{inl, inr, ⊎_elim}
use native.Mathlib.Omega.{arith}
use lib.Dec.{eqb}
use lib.ListN.{length}
use borrow.Author.Tests.{eq-eqb, ne_eqb, eqb-true, not-true}
use Rattle.subsumption.specs.Tables.{or, both, Node, top_at, name_at, exists_at, and_at, var_at, node, decode}
use Rattle.subsumption.proofs.Bools.{or-first, or-second, or-skip, or_cases, both_true, both-intro, last-cases, eq-or-ne}
use Rattle.subsumption.proofs.Nodes.{and-node}
use Rattle.square.specs.Inner.Square.{on_line}
use Rattle.square.specs.Inner.Sets.{Inserted}
use Rattle.subsumption.specs.declared.closure.columns.Words.{Words}
use Rattle.matching.specs.Inner.Search.Sets.{in_words, NextIn, Same, Joined}
use Rattle.matching.specs.Inner.Search.Problem.{line_at, fit_at, cone_at, closers_at, held_at, right_at, inner_at, question_count, Numbers, closes, in_members, Covered, Closers}
use Rattle.matching.specs.Inner.Search.Making.{kind_at, Outside, is_closer, Grew, WantsInner, AskedFor, NewAt, NextNew, Kept, KeptAll, ClosersNoted}
use Rattle.matching.proofs.SearchLaws.Sets.{none_in}
use Rattle.matching.proofs.SearchLaws.Walks.{passed-cases, passed_none, members-low}
use Rattle.matching.proofs.SearchLaws.Making.Filling.{filled-one}

-- ---- what is wanted
pub grew_none : (a : List ℕ) → Grew a a
grew_none a = record { long = refl; kept = λ q u. u }

pub grew_then : (a b c : List ℕ) → Grew a b → Grew b c → Grew a c
grew_then a b c G H = record { long = H.long ∙ G.long; kept = λ q u. H.kept q (G.kept q u) }

pub grew-one : (a b : List ℕ) (y : ℕ) → Inserted a b 0 y → Grew a b
grew-one a b y I = record { long = I.long; kept = λ q u. I.kept 0 q u }

-- a walk through a set after which each of its ids has what it asks for
pub record WantTo (sets : List ℕ) (at : ℕ) (P : ℕ → List ℕ → Type 0) (before : List ℕ) (e : ℕ) (wanted : List ℕ) : Type 0 where
  pub within : e ≤ 192
  pub grew : Grew before wanted
  pub done : (f : ℕ) → f < e → on_line sets at f ≡ true → P f wanted

module _ (sets : List ℕ) (at : ℕ) (P : ℕ → List ℕ → Type 0) (before : List ℕ) where
  pub want-first : (e : ℕ) → NextIn sets at 0 e → WantTo sets at P before e before
  want-first e N =
      record {
        within = N.within;
        grew = grew_none before;
        done = λ f l o. absurd (passed_none (on_line sets at) e f N.between l o);
      }

  want-more :
      (f next : ℕ) (mid after : List ℕ) → ((k : ℕ) → P k mid → P k after) → WantTo sets at P before f mid → NextIn sets at (f + 1) next → Grew mid after → P f after
      → WantTo sets at P before next after
  want-more f next mid after lift W N g p =
      record {
        within = N.within;
        grew = grew_then before mid after W.grew g;
        done =
            λ k l o.
            ⊎_elim (λ (u : k ≡ f). subst (λ (z : ℕ). P z after) (sym u) p) (λ u. lift k (W.done k u o))
            (passed-cases (on_line sets at) f next k N.between l o);
      }

abbrev pub InnerIn : List ℕ → ℕ → List ℕ → Type 0
InnerIn problem f wanted = on_line wanted 0 (inner_at problem f) ≡ true

module _ (sets problem before : List ℕ) where
  pub inner-more :
      (j f next : ℕ) (mid after : List ℕ) → WantTo sets (fit_at false j) (InnerIn problem) before f mid → NextIn sets (fit_at false j) (f + 1) next
      → Inserted mid after 0 (inner_at problem f) → WantTo sets (fit_at false j) (InnerIn problem) before next after
  inner-more j f next mid after W N I =
      want-more sets (fit_at false j) (InnerIn problem) before f next mid after (λ k u. I.kept 0 _ u) W N (grew-one mid after _ I) I.taken

  pub inner-done : (j e : ℕ) (wanted : List ℕ) → 192 ≤ e → WantTo sets (fit_at false j) (InnerIn problem) before e wanted → WantsInner sets problem j wanted
  inner-done j e wanted h W f l o = W.done f (omega arith) o

  pub asked-more :
      (m f next : ℕ) (mid after : List ℕ) → WantTo sets (cone_at m) (WantsInner sets problem) before f mid → NextIn sets (cone_at m) (f + 1) next
      → Grew mid after → WantsInner sets problem f after → WantTo sets (cone_at m) (WantsInner sets problem) before next after
  asked-more m f next mid after W N g w =
      want-more sets (cone_at m) (WantsInner sets problem) before f next mid after (λ k u e l o. g.kept _ (u e l o)) W N g w

  pub asked-done :
      (m e : ℕ) (start wanted : List ℕ) → length start ≡ 3 → Inserted start before 0 (right_at problem m) → 192 ≤ e
      → WantTo sets (cone_at m) (WantsInner sets problem) before e wanted → AskedFor sets problem m wanted
  asked-done m e start wanted long I h W =
      record {
        long = W.grew.long ∙ I.long ∙ long;
        right = W.grew.kept _ I.taken;
        inner = λ j l o. W.done j (omega arith) o;
      }

-- ---- what brings nothing
module _ (sets problem wanted : List ℕ) (e : ℕ) (row want asked : Words) (R : Same row sets (e * 3)) (W : Same want wanted 0)
    (M : (c : ℕ) → c < 192 → in_words asked c ≡ both (in_words row c) (in_words want c)) where
  in-asked : (d : ℕ) → d < 192 → on_line sets (line_at false e) d ≡ true → on_line wanted 0 d ≡ true → in_words asked d ≡ true
  in-asked d l r u = M d l ∙ both-intro _ _ (R d l ∙ r) (W d l ∙ u)

  pub covered-and :
      (i j : ℕ) (a b own sum : Words) (answer : Bool) → node problem e ≡ and_at i j → Same a sets (i * 3) → Same b sets (j * 3) → Joined a b own
      → Joined own asked sum → (answer ≡ true → sum ≡ own) → answer ≡ true → Covered sets problem (on_line wanted 0) e
  unfolding in_members
  covered-and i j a b own sum answer k A B J S same t d l r u =
      let x : in_words sum d ≡ true = S.bits d l ∙ or-second _ _ (in-asked d l r u) in
      let y : in_words own d ≡ true = subst (λ (z : Words). in_words z d ≡ true) (same t) x in
      subst (λ (n : Node). in_members sets n d ≡ true) (sym k) (sym (ap₂ or (A d l) (B d l)) ∙ sym (J.bits d l) ∙ y)

  pub covered_none :
      (answer : Bool) → (answer ≡ true → asked ≡ record { first = 0; second = 0; third = 0 }) → answer ≡ true → Covered sets problem (on_line wanted 0) e
  covered_none answer same t d l r u =
      absurd (none_in d l (subst (λ (z : Words). in_words z d ≡ true) (same t) (in-asked d l r u)))

-- ---- what is new
module _ (sets problem : List ℕ) (at : ℕ) (wanted : List ℕ) (e : ℕ) where
  pub new-kept : on_line sets at e ≡ true → NewAt sets problem at wanted e false
  new-kept h =
      record {
        closer = λ u. absurd (false≢true u);
        fresh = λ u. absurd (false≢true u);
        quiet = λ _ _ o. absurd (true≢false (sym h ∙ o));
      }

  pub new-other : is_closer problem e ≡ false → NewAt sets problem at wanted e false
  new-other h =
      record {
        closer = λ u. absurd (false≢true u);
        fresh = λ u. absurd (false≢true u);
        quiet = λ _ c _. absurd (true≢false (sym c ∙ h));
      }

  pub new-covered : Covered sets problem (on_line wanted 0) e → NewAt sets problem at wanted e false
  new-covered h = record { closer = λ u. absurd (false≢true u); fresh = λ u. absurd (false≢true u); quiet = λ _ _ _. h }

  pub new-here : is_closer problem e ≡ true → on_line sets at e ≡ false → NewAt sets problem at wanted e true
  new-here c f = record { closer = λ _. c; fresh = λ _. f; quiet = λ u. absurd (true≢false u) }

module _ (sets problem : List ℕ) (count at : ℕ) (wanted : List ℕ) (from : ℕ) where
  pub record NextTo (e : ℕ) : Type 0 where
    pub after : from ≤ e
    pub within : e ≤ count
    pub quiet : (k : ℕ) → from ≤ k → k < e → is_closer problem k ≡ true → on_line sets at k ≡ false → Covered sets problem (on_line wanted 0) k

  module _ (e : ℕ) (answer : Bool) (T : NextTo e) (low : e < count) (N : NewAt sets problem at wanted e answer) where
    pub next_more : answer ≡ false → NextTo (e + 1)
    next_more h =
        record {
          after = omega (arith, T.after);
          within = omega arith;
          quiet =
              λ k l u c f.
              ⊎_elim
              (λ (v : k ≡ e).
              subst (Covered sets problem (on_line wanted 0)) (sym v)
              (N.quiet h (subst (λ (z : ℕ). is_closer problem z ≡ true) v c) (subst (λ (z : ℕ). on_line sets at z ≡ false) v f)))
              (λ v. T.quiet k l v c f) (last-cases k e (omega arith));
        }

-- ---- keeping one
module _ (problem : List ℕ) (at e : ℕ) (before after wanted : List ℕ) (I : Inserted before after at e) where
  pub kept_and :
      (x y : ℕ) (mid more : List ℕ) → node problem e ≡ and_at x y → Inserted wanted mid 0 x → Inserted mid more 0 y
      → Kept problem at e before after wanted more
  kept_and x y mid more k J L =
      record {
        filled = filled-one at e before after I;
        grew = grew_then wanted mid more (grew-one wanted mid _ J) (grew-one mid more _ L);
        members =
            λ i j n.
            let p : x ≡ i = cc in
            let q : y ≡ j = cc in
            (subst (λ (z : ℕ). on_line more 0 z ≡ true) p (L.kept 0 _ J.taken), subst (λ (z : ℕ). on_line more 0 z ≡ true) q L.taken);
      }

  pub kept-other : ((i j : ℕ) → node problem e ≡ and_at i j → ⊥) → Kept problem at e before after wanted wanted
  kept-other h =
      record {
        filled = filled-one at e before after I;
        grew = grew_none wanted;
        members = λ i j n. absurd (h i j n);
      }

-- ---- how many are not kept
one : Bool → ℕ
one true = 0
one false = 1

unset : (ℕ → Bool) → ℕ → ℕ
unset f zero = 0
unset f (suc n) = one (f n) + unset f n

unset-same : (f g : ℕ → Bool) (n : ℕ) → ((q : ℕ) → q < n → g q ≡ f q) → unset g n ≡ unset f n
unfolding unset
unset-same f g zero h = refl
unset-same f g (suc n) h = ap₂ ◌+◌ (ap one (h n (omega arith))) (unset-same f g n (λ q l. h q (omega arith)))

unset-less : (f g : ℕ → Bool) (e n : ℕ) → e < n → f e ≡ false → ((q : ℕ) → q < n → g q ≡ or (eqb q e) (f q)) → unset g n < unset f n
unfolding unset one
unset-less f g e zero l h s = absurd (omega arith)
unset-less f g e (suc n) l h s =
    ⊎_elim
    (λ (u : e ≡ n).
    let a : one (g n) ≡ 0 = ap one (s n (omega arith) ∙ or-first _ _ (eq-eqb n e (sym u))) in
    let b : one (f n) ≡ 1 = ap one (subst (λ (z : ℕ). f z ≡ false) u h) in
    let c : unset g n ≡ unset f n = unset-same f g n (λ q k. s q (omega arith) ∙ or-skip _ _ (ne_eqb q e (λ v. omega arith))) in omega arith)
    (λ u.
    let a : one (g n) ≡ one (f n) = ap one (s n (omega arith) ∙ or-skip _ _ (ne_eqb n e (λ v. omega arith))) in
    let b : unset g n < unset f n = unset-less f g e n u h (λ q k. s q (omega arith)) in omega arith)
    (last-cases e n (omega arith))

walking : ℕ → ℕ
walking zero = 0
walking (suc n) = 1

-- a walk that began in the middle costs one more
pub weight : List ℕ → ℕ → ℕ → ℕ
weight sets at from = unset (on_line sets at) 192 * 2 + walking from

walking-low : (n : ℕ) → walking n < 2
unfolding walking
walking-low zero = omega arith
walking-low (suc n) = omega arith

walking-one : (n : ℕ) → (n ≡ 0 → ⊥) → walking n ≡ 1
unfolding walking
walking-one zero h = absurd (h refl)
walking-one (suc n) h = refl

pub again-less : (sets : List ℕ) (at from : ℕ) → (from ≡ 0 → ⊥) → weight sets at 0 < weight sets at from
unfolding weight walking
again-less sets at from h = let u = walking-one from h in omega arith

-- ---- keeping all
module _ (problem : List ℕ) (count at : ℕ) (before wanted : List ℕ) where
  pub record KeepTo (from : ℕ) (sets more : List ℕ) : Type 0 where
    pub low : from ≤ count
    pub long : length sets ≡ length before
    pub there : Outside at (at + 3) before sets
    pub grew : Grew wanted more
    pub only : (e : ℕ) → e < 192 → on_line sets at e ≡ true → (e < count) × (is_closer problem e ≡ true)
    pub members :
        (e i j : ℕ) → e < 192 → on_line sets at e ≡ true → node problem e ≡ and_at i j → (on_line more 0 i ≡ true) × (on_line more 0 j ≡ true)

  pub keep-first : ((q : ℕ) → q < 192 → on_line before at q ≡ false) → KeepTo 0 before wanted
  keep-first empty =
      record {
        low = omega arith;
        long = refl;
        there = λ x q l o. refl;
        grew = grew_none wanted;
        only = λ e l o. absurd (true≢false (sym o ∙ empty e l));
        members = λ e i j l o. absurd (true≢false (sym o ∙ empty e l));
      }

  pub keep-again : (from : ℕ) (sets more : List ℕ) → KeepTo from sets more → KeepTo 0 sets more
  keep-again from sets more K =
      record { low = omega arith; long = K.long; there = K.there; grew = K.grew; only = K.only; members = K.members }

  module _ (from e : ℕ) (sets more : List ℕ) (few : count ≤ 192) (K : KeepTo from sets more) (N : NextNew sets problem count at more from e) where
    module _ (after most : List ℕ) (l : e < count) (S : Kept problem at e sets after more most) where
      pub keep-more : KeepTo (e + 1) after most
      keep-more =
          record {
            low = omega arith;
            long = S.filled.long ∙ K.long;
            there = λ x q h o. S.filled.there x q h o ∙ K.there x q h o;
            grew = grew_then wanted more most K.grew S.grew;
            only =
                λ k h o.
                ⊎_elim
                (λ u.
                let v = eqb-true k e u in
                (omega arith, subst (λ (z : ℕ). is_closer problem z ≡ true) (sym v) (N.closer l)))
                (λ u. K.only k h u) (or_cases _ _ (sym (S.filled.here k h) ∙ o));
            members =
                λ k i j h o n.
                ⊎_elim (λ u. S.members i j (subst (λ (z : ℕ). node problem z ≡ and_at i j) (eqb-true k e u) n))
                (λ u. let (p, q) = K.members k i j h u n in (S.grew.kept _ p, S.grew.kept _ q)) (or_cases _ _ (sym (S.filled.here k h) ∙ o));
          }

      pub keep-less : weight after at (e + 1) < weight sets at from
      unfolding weight
      keep-less =
          let u : unset (on_line after at) 192 < unset (on_line sets at) 192 =
          unset-less (on_line sets at) (on_line after at) e 192 (omega arith) (N.fresh l) (λ q h. S.filled.here q h) in
          omega (arith, walking-low (e + 1))

    pub keep-done : count ≤ e → from ≡ 0 → KeptAll problem count at before sets wanted more
    keep-done h z =
        record {
          long = K.long;
          there = K.there;
          grew = K.grew;
          only = K.only;
          members = K.members;
          quiet = λ k l c f. N.quiet k (omega arith) (omega arith) c f;
        }

-- ---- the closers of one question
top-decoded : (k a b : ℕ) → k < 5 → decode k a b ≡ top_at → k ≡ 0
unfolding decode
top-decoded zero a b l e = refl
top-decoded (suc zero) a b l e = let z : ◌≡◌ {A = ℕ} 0 1 = cc in absurd (omega arith)
top-decoded (suc (suc zero)) a b l e = let z : ◌≡◌ {A = ℕ} 0 1 = cc in absurd (omega arith)
top-decoded (suc (suc (suc zero))) a b l e = let z : ◌≡◌ {A = ℕ} 0 1 = cc in absurd (omega arith)
top-decoded (suc (suc (suc (suc zero)))) a b l e = let z : ◌≡◌ {A = ℕ} 0 1 = cc in absurd (omega arith)
top-decoded (suc (suc (suc (suc (suc k))))) a b l e = absurd (omega arith)

top-kind : (problem : List ℕ) (i : ℕ) → kind_at problem i < 5 → node problem i ≡ top_at → kind_at problem i ≡ 0
unfolding node
top-kind problem i l e = top-decoded _ _ _ l e

module _ (problem : List ℕ) (numbers : Numbers problem) (e : ℕ) (low : e < 192) where
  closer-kind : (n : Node) → node problem e ≡ n → closes n ≡ true → or (eqb (kind_at problem e) 0) (eqb (kind_at problem e) 3) ≡ true
  unfolding closes
  closer-kind top_at q h = or-first _ _ (eq-eqb _ 0 (top-kind problem e (numbers.kind-low e low) q))
  closer-kind (name_at n) q h = absurd (false≢true h)
  closer-kind (exists_at r j) q h = absurd (false≢true h)
  closer-kind (and_at i j) q h = or-second _ _ (eq-eqb _ 3 (and-node problem e i j q).0)
  closer-kind (var_at k) q h = absurd (false≢true h)

  closer-from : held_at problem e ≡ false → closes (node problem e) ≡ true → is_closer problem e ≡ true
  unfolding is_closer
  closer-from h k = both-intro _ _ (ap not h) (closer-kind (node problem e) refl k)

  closer-free : is_closer problem e ≡ true → held_at problem e ≡ false
  unfolding is_closer
  closer-free h = not-true _ (both_true _ _ h).0

module _ (problem : List ℕ) (numbers : Numbers problem) (count m : ℕ) (few : count ≤ 192) (asked : m < 32) where
  pub closers-noted :
      (before after wanted more : List ℕ) → AskedFor before problem m wanted → KeptAll problem count (closers_at m) before after wanted more
      → ClosersNoted problem count m before after
  closers-noted before after wanted more A K =
      record {
        long = K.long;
        there = K.there;
        closers =
            record {
              wanted = on_line more 0;
              right = K.grew.kept _ A.right;
              inner =
                  λ j e l h c f.
                  K.grew.kept _
                  (A.inner j l (sym (K.there (cone_at m) j l (inl (omega arith))) ∙ c) e h (sym (K.there (fit_at false j) e h (inl (omega arith))) ∙ f));
              only = λ e l o. let (b, c) = K.only e l o in (b, closer-free problem numbers e l c);
              members = K.members;
              quiet = λ e l h k o. K.quiet e l (closer-from problem numbers e (omega arith) h k) o;
            };
      }

  -- the same lines have the same closers
  module _ (a b : List ℕ) (front : (at q : ℕ) → q < 192 → at + 3 ≤ 2400 → on_line b at q ≡ on_line a at q)
      (own : (q : ℕ) → q < 192 → on_line b (closers_at m) q ≡ on_line a (closers_at m) q) where
    members-same : (e d : ℕ) (n : Node) → e < 192 → d < 192 → node problem e ≡ n → in_members a n d ≡ true → in_members b n d ≡ true
    unfolding in_members
    members-same e d top_at l h u i = i
    members-same e d (name_at n) l h u i = i
    members-same e d (exists_at r j) l h u i = i
    members-same e d (and_at j k) l h u i =
        let (p, q) = members-low problem numbers e l j k u in
        ap₂ or (front (line_at false j) d h (omega arith)) (front (line_at false k) d h (omega arith)) ∙ i
    members-same e d (var_at k) l h u i = i

    pub closers-same : Closers a problem count m → Closers b problem count m
    closers-same K =
        record {
          wanted = K.wanted;
          right = K.right;
          inner =
              λ j e l h c f.
              K.inner j e l h (sym (front (cone_at m) j l (omega arith)) ∙ c) (sym (front (fit_at false j) e h (omega arith)) ∙ f);
          only = λ e l o. K.only e l (sym (own e l) ∙ o);
          members = λ e i j l o n. K.members e i j l (sym (own e l) ∙ o) n;
          quiet =
              λ e l h k o d ld r u.
              members-same e d (node problem e) (omega arith) ld refl
              (K.quiet e l h k (sym (own e (omega arith)) ∙ o) d ld (sym (front (line_at false e) d ld (omega arith)) ∙ r) u);
        }

-- ---- of all questions
module _ (problem : List ℕ) (count : ℕ) (before : List ℕ) where
  pub record ClosersTo (k : ℕ) (sets : List ℕ) : Type 0 where
    pub within : k ≤ question_count problem
    pub long : length sets ≡ length before
    pub done : (m : ℕ) → m < k → Closers sets problem count m
    pub rest : (m q : ℕ) → k ≤ m → m < 32 → q < 192 → on_line sets (closers_at m) q ≡ false
    pub there : Outside (closers_at 0) (closers_at 32) before sets

  pub closers-more :
      (k : ℕ) (mid after : List ℕ) → Numbers problem → count ≤ 192 → k < question_count problem → ClosersTo k mid → ClosersNoted problem count k mid after
      → ClosersTo (k + 1) after
  closers-more k mid after numbers few asked C N =
      record {
        within = omega arith;
        long = N.long ∙ C.long;
        done =
            λ m l.
            ⊎_elim (λ (u : m ≡ k). subst (Closers after problem count) (sym u) N.closers)
            (λ (u : m ≡ k → ⊥).
            closers-same problem numbers count m few (omega (arith, numbers.few)) mid after (λ at q h o. N.there at q h (inl (omega arith)))
            (λ q h. N.there (closers_at m) q h (inl (omega arith))) (C.done m (omega arith)))
            (eq-or-ne m k);
        rest = λ m q l h u. N.there (closers_at m) q u (inr (omega arith)) ∙ C.rest m q (omega arith) h u;
        there =
            λ x q l o.
            N.there x q l (⊎_elim (λ (u : x + 3 ≤ 2400). inl (omega arith)) (λ (u : 2496 ≤ x). inr (omega (arith, numbers.few))) o) ∙ C.there x q l o;
      }
