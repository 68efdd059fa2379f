-- The values of a pattern, by the rows of the tables: exact on the right, enough on the left.
use Rattle.subsumption.specs.Refusal.{Done}
use Prim.Native.Nat.{ℕ, zero, suc, ◌*◌, ◌<◌}
use mathlib.Core.Path.{◌≡◌, refl, sym, ap, ◌∙◌, subst}
use mathlib.Core.List.{List, Memᴰ}
use mathlib.Core.Bool.{Bool, true, false, not, false≢true}
use mathlib.Core.Logic.{◌⊎◌, ◌↔◌, ⊎_elim}
use native.Mathlib.Omega.{arith}
use lib.ListN.{length, get_or, take}
use lib.Seq.{get_or-take}
use borrow.Author.Tests.{not-true}
use Rattle.subsumption.specs.Tables.{Tables, both, or, Node, top_at, exists_at, and_at, var_at, node, count_of, pairs_of, tree, has_variable}
use Rattle.subsumption.specs.Atoms.{atoms, bit, chosen}
use Rattle.subsumption.specs.Roles.{wider}
use Rattle.subsumption.specs.Subsumption.{assigned, Subsumed}
use Rattle.subsumption.specs.Check.{assignment_fault}
use Rattle.subsumption.proofs.Bools.{or_cases, or-first, or-second, both_true, both-intro, last-cases}
use Rattle.subsumption.proofs.WellFormed.{WellFormed}
use Rattle.subsumption.proofs.Accepted.{well_formed}
use Rattle.subsumption.proofs.Chosen.{pick-member, pick_intro}
use Rattle.subsumption.proofs.Membership.{subsumed-ground}
use Rattle.subsumption.proofs.Nodes.{exists-node}
use Rattle.subsumption.proofs.Soundness.{subsumed-same, subsumed-trans}
use Rattle.square.specs.Inner.Square.{on_line}
use Rattle.subsumption.specs.declared.closure.columns.Words.{Words}
use Rattle.matching.specs.Inner.Search.Sets.{in_words, Joined}
use Rattle.matching.specs.Inner.Search.Problem.{line_at, fit_at, closers_at, held_at, atom_at, inner_at, FreeId, nothing, Fitting, closes, in_members, Closers, Problem}
use Rattle.matching.specs.Inner.Search.Patterns.{ReadBy, ValueRead, BelowAll, ChosenAbove, AboveSome, LinkOf, Linked, MembersOf, Follows, by-set, by-top, by_and, ClosedUp, Upper, Exact, Generates, ValueOf}
use Rattle.matching.proofs.PatternLaws.Free.{free-inward, free-chosen}
use Rattle.matching.proofs.PatternLaws.Least.{true-stable}
use Rattle.matching.proofs.PatternLaws.Down.{right-var, right-and, right-exists, right-linked}
use Rattle.matching.proofs.PatternLaws.Up.{above-upper, above-var, above-first, above-second, above-exists, left-var, left_and, left-exists}
use Rattle.matching.proofs.SearchLaws.Fronts.{accepted-bits}

exists-role : {r s x y : ℕ} → exists_at r x ≡ exists_at s y → r ≡ s
exists-role e = cc

exists-inner : {r s x y : ℕ} → exists_at r x ≡ exists_at s y → x ≡ y
exists-inner e = cc

-- ---- a test of each number below another
all_below : (ℕ → Bool) → ℕ → Bool
all_below f zero = true
all_below f (suc n) = both (f n) (all_below f n)

all-intro : (f : ℕ → Bool) (n : ℕ) → ((d : ℕ) → d < n → f d ≡ true) → all_below f n ≡ true
unfolding all_below
all-intro f zero h = refl
all-intro f (suc n) h = both-intro _ _ (h n (omega arith)) (all-intro f n (λ d k. h d (omega arith)))

all-at : (f : ℕ → Bool) (n : ℕ) → all_below f n ≡ true → (d : ℕ) → d < n → f d ≡ true
unfolding all_below
all-at f zero e d h = absurd (omega arith)
all-at f (suc n) e d h =
    let (here, rest) = both_true _ _ e in
    ⊎_elim (λ (u : d ≡ n). subst (λ (z : ℕ). f z ≡ true) (sym u) here) (λ u. all-at f n rest d u) (last-cases d n (omega arith))

implies-intro : (a b : Bool) → (a ≡ true → b ≡ true) → or (not a) b ≡ true
unfolding or
implies-intro true b h = h refl
implies-intro false b h = refl

implies-at : (a b : Bool) → or (not a) b ≡ true → a ≡ true → b ≡ true
unfolding or
implies-at true b e h = e
implies-at false b e h = absurd (false≢true h)

module _ (t : Tables) (sets problem : List ℕ) (C : Problem t sets problem) (assignment : List ℕ) where
  wf : WellFormed t
  wf = well_formed t C.passed

  abbrev Below : ℕ → ℕ → Type 0
  Below i j = Subsumed t assignment i j

  pub free-low : (c : ℕ) → FreeId t c → c < 192
  free-low c f = omega (arith, f.known, wf.few)

  same : (i : ℕ) → Below i i
  same = subsumed-same t (assigned t assignment)

  trans : (i j k : ℕ) → Below i j → Below j k → Below i k
  trans = subsumed-trans t (assigned t assignment)

  -- ---- lines of variable-free ids
  pub row-above : (i j : ℕ) → FreeId t i → FreeId t j → on_line sets (line_at false i) j ≡ true → Below i j
  row-above i j f g e = subsumed-ground t (nothing t) assignment i j f.ground g.ground ((C.above i j f g).0 e)

  pub above-row : (i j : ℕ) → FreeId t i → FreeId t j → Below i j → on_line sets (line_at false i) j ≡ true
  above-row i j f g s = (C.above i j f g).1 (subsumed-ground t assignment (nothing t) i j f.ground g.ground s)

  column-below : (i j : ℕ) → FreeId t i → FreeId t j → on_line sets (line_at true j) i ≡ true → Below i j
  column-below i j f g e = subsumed-ground t (nothing t) assignment i j f.ground g.ground ((C.below i j f g).0 e)

  below-column : (i j : ℕ) → FreeId t i → FreeId t j → Below i j → on_line sets (line_at true j) i ≡ true
  below-column i j f g s = (C.below i j f g).1 (subsumed-ground t assignment (nothing t) i j f.ground g.ground s)

  inner_of : (e r x : ℕ) → FreeId t e → node t.concepts e ≡ exists_at r x → inner_at problem e ≡ x
  inner_of e r x f n = (exists-node problem e r x (C.rows e f.known ∙ n)).2

  -- ---- values by their bits
  pub exact_same : (j : ℕ) (f g : ℕ → Bool) → ((c : ℕ) → c < 192 → f c ≡ g c) → Exact t assignment j f → Exact t assignment j g
  exact_same j f g h E c free =
      let e = h c (free-low c free) in
      (λ u. (E c free).0 (e ∙ u), λ s. sym e ∙ (E c free).1 s)

  pub generates-same : (j : ℕ) (f g : ℕ → Bool) → ((c : ℕ) → c < 192 → f c ≡ g c) → Generates t assignment j f → Generates t assignment j g
  generates-same j f g h G =
      record {
        sound = λ c free u. G.sound c free (h c (free-low c free) ∙ u);
        upward = λ c d free more s u. sym (h d (free-low d more)) ∙ G.upward c d free more s (h c (free-low c free) ∙ u);
        enough = λ X upper k. G.enough X upper (λ c free u. k c free (sym (h c (free-low c free)) ∙ u));
      }

  pub value_same : (right : Bool) (j : ℕ) (f g : ℕ → Bool) → ((c : ℕ) → c < 192 → f c ≡ g c) → ValueOf right t assignment j f → ValueOf right t assignment j g
  value_same true j f g h E = exact_same j f g h E
  value_same false j f g h G = generates-same j f g h G

  -- ---- the value of a member, made or a line
  line-exact : (i : ℕ) → FreeId t i → Exact t assignment i (on_line sets (line_at true i))
  line-exact i f c g = (column-below c i g f, below-column c i g f)

  line-generates : (i : ℕ) → FreeId t i → Generates t assignment i (on_line sets (line_at false i))
  line-generates i f =
      record {
        sound = λ c g u. row-above i c f g u;
        upward = λ c d g h s u. above-row i d f h (trans i c d (row-above i c f g u) s);
        enough = λ X upper k c g s. upper.upward i c f g s (k i f (above-row i i f f (same i)));
      }

  line-value : (right : Bool) (i : ℕ) → FreeId t i → ValueOf right t assignment i (on_line sets (line_at right i))
  line-value true i f = line-exact i f
  line-value false i f = line-generates i f

  pub read-value :
      (right : Bool) (values : List ℕ) (i : ℕ) (w : Words) → i < count_of t.concepts
      → (has_variable (tree t.concepts i) ≡ true → ValueOf right t assignment i (on_line values (i * 3))) → ValueRead sets problem values right i w
      → ValueOf right t assignment i (in_words w)
  read-value right values i w l made R = go (held_at problem i) refl R
    where
      go : (b : Bool) → held_at problem i ≡ b → ReadBy b sets values right i w → ValueOf right t assignment i (in_words w)
      go true e S = value_same right i (on_line values (i * 3)) (in_words w) (λ c m. sym (S c m)) (made (sym (C.held i l) ∙ e))
      go false e S =
          value_same right i (on_line sets (line_at right i)) (in_words w) (λ c m. sym (S c m))
          (line-value right i (record { ground = sym (C.held i l) ∙ e; known = l }))

  -- ---- "and"
  module _ (j i k : ℕ) (l : j < count_of t.concepts) (n : node t.concepts j ≡ and_at i k) (a b w : Words) where
    pub and-exact :
        Exact t assignment i (in_words a) → Exact t assignment k (in_words b) → ((c : ℕ) → c < 192 → in_words w c ≡ both (in_words a c) (in_words b c))
        → Exact t assignment j (in_words w)
    and-exact A B M c f =
        let m = M c (free-low c f) in
        let r = right-and t assignment wf c j i k f.known l n in (
          λ u. let (x, y) = both_true _ _ (sym m ∙ u) in r.1 ((A c f).0 x, (B c f).0 y),
          λ s. let (x, y) = r.0 s in m ∙ both-intro _ _ ((A c f).1 x) ((B c f).1 y),
        )

    pub and-generates :
        Generates t assignment i (in_words a) → Generates t assignment k (in_words b) → Joined a b w → Generates t assignment j (in_words w)
    and-generates A B J =
        record {
          sound =
              λ c f u.
              ⊎_elim (λ x. above-first t assignment wf j i k c l n (A.sound c f x)) (λ y. above-second t assignment wf j i k c l n (B.sound c f y)) (cases c f u);
          upward =
              λ c d f g s u.
              ⊎_elim (λ x. in-first d g (A.upward c d f g s x)) (λ y. in-second d g (B.upward c d f g s y)) (cases c f u);
          enough =
              λ X upper h.
              left_and t assignment wf (λ c. X c ≡ true) upper (λ c. true-stable (X c)) j i k l n
              (A.enough X upper (λ c f x. h c f (in-first c f x))) (B.enough X upper (λ c f y. h c f (in-second c f y)));
        }
      where
        cases : (c : ℕ) → FreeId t c → in_words w c ≡ true → (in_words a c ≡ true) ⊎ (in_words b c ≡ true)
        cases c f u = or_cases (in_words a c) (in_words b c) (sym (J.bits c (free-low c f)) ∙ u)

        in-first : (c : ℕ) → FreeId t c → in_words a c ≡ true → in_words w c ≡ true
        in-first c f x = J.bits c (free-low c f) ∙ or-first _ _ x

        in-second : (c : ℕ) → FreeId t c → in_words b c ≡ true → in_words w c ≡ true
        in-second c f y = J.bits c (free-low c f) ∙ or-second _ _ y

  -- ---- "some"
  module _ (j r x : ℕ) (l : j < count_of t.concepts) (has : has_variable (tree t.concepts j) ≡ true)
      (n : node t.concepts j ≡ exists_at r x) (own w : Words) where
    held : held_at problem j ≡ true
    held = C.held j l ∙ has

    fitting : (right : Bool) (e : ℕ) → e < 192 → on_line sets (fit_at right j) e ≡ true → Fitting t right j e
    fitting right e h u = (C.fits right j e l h held).0 u

    fitted : (right : Bool) (e : ℕ) → Fitting t right j e → on_line sets (fit_at right j) e ≡ true
    fitted right e F = (C.fits right j e l (free-low e F.free) held).1 F

    pub exists-exact : Exact t assignment x (in_words own) → Linked sets problem own true j w → Exact t assignment j (in_words w)
    exists-exact E L c f = (λ u. to ((L c (free-low c f)).0 u), from)
      where
        to : LinkOf sets problem own true j c → Below c j
        to k =
            let F = fitting true k.by k.low k.fits in
            let inward = (free-inward t wf).inner k.by F.role F.inner F.row F.free in
            right-linked t assignment wf c j r x f.known l n
            (record {
              by = k.by;
              narrow = F.role;
              to = F.inner;
              free = F.free;
              link = F.row;
              widened = subst (λ (z : ℕ). wider t.roles F.role z ≡ true) (exists-role (sym F.own ∙ n)) F.counts;
              above = column-below c k.by f F.free k.here;
              inward =
                  (E F.inner inward).0
                  (subst (λ (z : ℕ). in_words own z ≡ true) (inner_of k.by F.role F.inner F.free F.row) k.inside);
            })

        from : Below c j → in_words w c ≡ true
        from s =
            true-stable (in_words w c)
            (λ never.
            right-exists t assignment wf c j r x f l n s
            (λ k.
            never
            ((L c (free-low c f)).1
            (record {
              by = k.by;
              low = free-low k.by k.free;
              fits =
                  fitted true k.by
                  (record {
                    free = k.free;
                    own-role = r;
                    own-inner = x;
                    role = k.narrow;
                    inner = k.to;
                    own = n;
                    row = k.link;
                    counts = k.widened;
                  });
              inside =
                  subst (λ (z : ℕ). in_words own z ≡ true) (sym (inner_of k.by k.narrow k.to k.free k.link))
                  ((E k.to ((free-inward t wf).inner k.by k.narrow k.to k.link k.free)).1 k.inward);
              here = below-column c k.by f k.free k.above;
            }))))

    -- the inner set holds what is above the inner id and asked for
    pub exists-generates :
        ((c : ℕ) → FreeId t c → in_words own c ≡ true → Below x c)
        → ((e : ℕ) → e < 192 → on_line sets (fit_at false j) e ≡ true → FreeId t (inner_at problem e) → Below x (inner_at problem e) → in_words own (inner_at problem e) ≡ true)
        → Linked sets problem own false j w → Generates t assignment j (in_words w)
    exists-generates E K L =
        record {
          sound = λ c f u. sound c f ((L c (free-low c f)).0 u);
          upward = λ c d f g s u. (L d (free-low d g)).1 (on c d f g s ((L c (free-low c f)).0 u));
          enough =
              λ X upper h.
              left-exists t assignment wf (λ c. X c ≡ true) upper (λ c. true-stable (X c)) j r x l n
              (λ a s d f m v b. h a f ((L a (free-low a f)).1 (link a s d f m v b)));
        }
      where
        sound : (c : ℕ) → FreeId t c → LinkOf sets problem own false j c → Below j c
        sound c f k =
            let F = fitting false k.by k.low k.fits in
            let inward = (free-inward t wf).inner k.by F.role F.inner F.row F.free in
            trans j k.by c
            (above-exists t assignment wf j r x k.by F.role F.inner l F.free.known n F.row
            (subst (λ (z : ℕ). wider t.roles z F.role ≡ true) (exists-role (sym F.own ∙ n)) F.counts)
            (E F.inner inward
            (subst (λ (z : ℕ). in_words own z ≡ true) (inner_of k.by F.role F.inner F.free F.row) k.inside)))
            (row-above k.by c F.free f k.here)

        on : (c d : ℕ) → FreeId t c → FreeId t d → Below c d → LinkOf sets problem own false j c → LinkOf sets problem own false j d
        on c d f g s k =
            let F = fitting false k.by k.low k.fits in
            record {
              by = k.by;
              low = k.low;
              fits = k.fits;
              inside = k.inside;
              here = above-row k.by d F.free g (trans k.by c d (row-above k.by c F.free f k.here) s);
            }

        link :
            (a s d : ℕ) → FreeId t a → node t.concepts a ≡ exists_at s d → wider t.roles r s ≡ true → Below x d → LinkOf sets problem own false j a
        link a s d f m v b =
            let u = inner_of a s d f m in
            let o = fitted false a (record { free = f; own-role = r; own-inner = x; role = s; inner = d; own = n; row = m; counts = v }) in
            record {
              by = a;
              low = free-low a f;
              fits = o;
              inside = K a (free-low a f) o (subst (FreeId t) (sym u) ((free-inward t wf).inner a s d m f)) (subst (Below x) (sym u) b);
              here = above-row a a f f (same a);
            }

  -- ---- closing up
  module _ (m i : ℕ) (x w : Words) (asked : m < pairs_of t.questions) (l : i < count_of t.concepts)
      (G : Generates t assignment i (in_words x)) (U : ClosedUp sets problem (closers_at m) x w) where
    abbrev K : Closers sets problem (count_of t.concepts) m
    K = C.closers m asked

    closer : (e : ℕ) → e < 192 → on_line sets (closers_at m) e ≡ true → FreeId t e
    closer e h u = let (known, free) = K.only e h u in record { ground = sym (C.held e known) ∙ free; known = known }

    follows-above : {c : ℕ} → FreeId t c → Follows sets problem (closers_at m) x c → Below i c
    follows-above f (by-set c h e) = G.sound c f e
    follows-above f (by-top e c h o n k r) =
        let g = closer e h o in
        trans i e c ((above-upper t assignment wf i l).tops e g (sym (C.rows e g.known) ∙ n)) (row-above e c g f r)
    follows-above f (by_and e a b c h o n p q k r) =
        let g = closer e h o in
        let v = sym (C.rows e g.known) ∙ n in
        trans i e c
        ((above-upper t assignment wf i l).meets e a b g v (follows-above ((free-inward t wf).first e a b v g) p)
        (follows-above ((free-inward t wf).second e a b v g) q)) (row-above e c g f r)

    pub closed-sound : (c : ℕ) → FreeId t c → in_words w c ≡ true → Below i c
    closed-sound c f u = follows-above f (U.followed.least c (free-low c f) u)

    members-top : (e : ℕ) → node problem e ≡ top_at → MembersOf (λ c. in_words w c ≡ true) (node problem e)
    members-top e n = subst (MembersOf (λ c. in_words w c ≡ true)) (sym n) tt

    members-and :
        (e a b : ℕ) → node problem e ≡ and_at a b → in_words w a ≡ true → in_words w b ≡ true → MembersOf (λ c. in_words w c ≡ true) (node problem e)
    members-and e a b n p q = subst (MembersOf (λ c. in_words w c ≡ true)) (sym n) (p, q)

    -- each wanted id above c is in the closed set
    abbrev Reaches : ℕ → Type 0
    Reaches c = (d : ℕ) → FreeId t d → K.wanted d ≡ true → Below c d → in_words w d ≡ true

    reaches_at : ℕ → ℕ → Bool
    reaches_at c d = or (not (both (not (has_variable (tree t.concepts d))) (both (K.wanted d) (on_line sets (line_at false c) d)))) (in_words w d)

    reaches : ℕ → Bool
    reaches c = all_below (reaches_at c) (count_of t.concepts)

    reaches-in : (c : ℕ) → FreeId t c → Reaches c → reaches c ≡ true
    unfolding reaches reaches_at
    reaches-in c f h =
        all-intro (reaches_at c) (count_of t.concepts)
        (λ d k.
        implies-intro _ (in_words w d)
        (λ u.
        let (free, v) = both_true _ _ u in
        let (want, row) = both_true _ _ v in
        let g : FreeId t d = record { ground = not-true _ free; known = k } in h d g want (row-above c d f g row)))

    reaches-out : (c : ℕ) → FreeId t c → reaches c ≡ true → Reaches c
    unfolding reaches reaches_at
    reaches-out c f u d g want s =
        implies-at _ (in_words w d) (all-at (reaches_at c) (count_of t.concepts) u d g.known)
        (both-intro _ _ (ap not g.ground) (both-intro _ _ want (above-row c d f g s)))

    -- what is not kept brings nothing wanted
    brings :
        (c d : ℕ) → FreeId t c → FreeId t d → closes (node t.concepts c) ≡ true → on_line sets (closers_at m) c ≡ false → K.wanted d ≡ true → Below c d
        → in_members sets (node t.concepts c) d ≡ true
    brings c d f g k o want s =
        subst (λ (n : Node). in_members sets n d ≡ true) (C.rows c f.known)
        (K.quiet c f.known (C.held c f.known ∙ f.ground) (ap closes (C.rows c f.known) ∙ k) o d (free-low d g) (above-row c d f g s) want)

    reaches-top : (c : ℕ) → FreeId t c → node t.concepts c ≡ top_at → Reaches c
    unfolding closes in_members
    reaches-top c f n d g want s = go (on_line sets (closers_at m) c) refl
      where
        go : (b : Bool) → on_line sets (closers_at m) c ≡ b → in_words w d ≡ true
        go true o =
            U.closed c (free-low c f) o (members-top c (C.rows c f.known ∙ n)) d (free-low d g) (above-row c d f g s)
        go false o =
            absurd
            (false≢true (subst (λ (n : Node). in_members sets n d ≡ true) n (brings c d f g (ap closes n) o want s)))

    reaches-and : (c a b : ℕ) → FreeId t c → node t.concepts c ≡ and_at a b → Reaches a → Reaches b → Reaches c
    unfolding closes in_members
    reaches-and c a b f n p q d g want s = go (on_line sets (closers_at m) c) refl
      where
        fa : FreeId t a
        fa = (free-inward t wf).first c a b n f

        fb : FreeId t b
        fb = (free-inward t wf).second c a b n f

        go : (v : Bool) → on_line sets (closers_at m) c ≡ v → in_words w d ≡ true
        go true o =
            let row = C.rows c f.known ∙ n in
            let (wa, wb) = K.members c a b (free-low c f) o row in
            U.closed c (free-low c f) o (members-and c a b row (p a fa wa (same a)) (q b fb wb (same b))) d (free-low d g) (above-row c d f g s)
        go false o =
            ⊎_elim (λ u. p d g want (row-above a d fa g u)) (λ u. q d g want (row-above b d fb g u))
            (or_cases _ _ (subst (λ (n : Node). in_members sets n d ≡ true) n (brings c d f g (ap closes n) o want s)))

    reaches-upper : Upper t assignment (λ c. reaches c ≡ true)
    reaches-upper =
        record {
          tops = λ c f n. reaches-in c f (reaches-top c f n);
          upward = λ c d f g s u. reaches-in d g (λ e h want v. reaches-out c f u e h want (trans c d e s v));
          meets =
              λ c a b f n p q.
              reaches-in c f
              (reaches-and c a b f n (reaches-out a ((free-inward t wf).first c a b n f) p) (reaches-out b ((free-inward t wf).second c a b n f) q));
        }

    pub closed-wanted : (c : ℕ) → FreeId t c → K.wanted c ≡ true → Below i c → in_words w c ≡ true
    closed-wanted c f want s =
        reaches-out c f
        (G.enough reaches reaches-upper
        (λ d g u. reaches-in d g (λ e h _ v. U.followed.kept e (free-low e h) (G.upward d e g h v u))) c f s) c f want (same c)

-- ---- a variable
module _ (t : Tables) (sets problem : List ℕ) (C : Problem t sets problem) (choice : List ℕ)
    (accepted : assignment_fault t (take t.variables choice) ≡ Done) where
  abbrev α : List ℕ
  α = take t.variables choice

  record Place (k p : ℕ) : Type 0 where
    place : ℕ
    low : place < 64
    taken : bit (get_or choice k 0) place ≡ true
    here : atom_at problem place ≡ p

  place-of : (k p : ℕ) → k < t.variables → Memᴰ p (chosen t α k) → Place k p
  unfolding chosen
  place-of k p l m =
      let P = pick-member (atoms t) (get_or α k 0) p m in
      record {
        place = P.place;
        low = omega (arith, P.known, (well_formed t C.passed).few-atoms);
        taken = sym (ap (λ (z : ℕ). bit z P.place) (get_or-take t.variables choice k 0 l)) ∙ P.chosen;
        here = C.atom P.place P.known ∙ P.here;
      }

  chosen_at : (k q : ℕ) → k < t.variables → bit (get_or choice k 0) q ≡ true → Memᴰ (atom_at problem q) (chosen t α k)
  unfolding chosen
  chosen_at k q l e =
      let taken : bit (get_or α k 0) q ≡ true = ap (λ (z : ℕ). bit z q) (get_or-take t.variables choice k 0 l) ∙ e in
      let known : q < length (atoms t) = (accepted-bits t α accepted k q taken).1 in
      pick_intro (atoms t) (get_or α k 0) (atom_at problem q) (record { place = q; known = known; chosen = taken; here = sym (C.atom q known) })

  module _ (j k : ℕ) (l : j < count_of t.concepts) (n : node t.concepts j ≡ var_at k) (w : Words) where
    number : k < t.variables
    number = (well_formed t C.passed).numbered j k n

    pub var-exact : BelowAll sets problem (get_or choice k 0) w → Exact t α j (in_words w)
    var-exact B c f = (λ u. rule.1 (to u), from)
      where
        rule : Subsumed t α c j ↔ ((p : ℕ) → Memᴰ p (chosen t α k) → Subsumed t α c p)
        rule = right-var t α (well_formed t C.passed) c j k f.known l n

        to : in_words w c ≡ true → (p : ℕ) → Memᴰ p (chosen t α k) → Subsumed t α c p
        to u p m =
            let P = place-of k p number m in
            column-below t sets problem C α c p f (free-chosen t (well_formed t C.passed) α k p m)
            (subst (λ (z : ℕ). on_line sets (line_at true z) c ≡ true) P.here ((B c (free-low t sets problem C α c f)).0 u P.place P.low P.taken))

        from : Subsumed t α c j → in_words w c ≡ true
        from s =
            (B c (free-low t sets problem C α c f)).1
            (λ q h b.
            let m = chosen_at k q number b in
            below-column t sets problem C α c (atom_at problem q) f (free-chosen t (well_formed t C.passed) α k _ m) (rule.0 s (atom_at problem q) m))

    pub var-generates : AboveSome sets problem (get_or choice k 0) w → Generates t α j (in_words w)
    var-generates A =
        record {
          sound = λ c f u. sound c f ((A c (low c f)).0 u);
          upward = λ c d f g s u. (A d (low d g)).1 (on c d f g s ((A c (low c f)).0 u));
          enough =
              λ X upper h.
              left-var t α (well_formed t C.passed) (λ c. X c ≡ true) upper (λ c. true-stable (X c)) j k l n
              (λ p m. let f = free-chosen t (well_formed t C.passed) α k p m in h p f ((A p (low p f)).1 (own p f m)));
        }
      where
        low : (c : ℕ) → FreeId t c → c < 192
        low = free-low t sets problem C α

        free : (q : ℕ) → bit (get_or choice k 0) q ≡ true → FreeId t (atom_at problem q)
        free q b = free-chosen t (well_formed t C.passed) α k _ (chosen_at k q number b)

        sound : (c : ℕ) → FreeId t c → ChosenAbove sets problem (get_or choice k 0) c → Subsumed t α j c
        sound c f a =
            subsumed-trans t (assigned t α) j (atom_at problem a.place) c
            (above-var t α (well_formed t C.passed) j k (atom_at problem a.place) l n (chosen_at k a.place number a.chosen))
            (row-above t sets problem C α (atom_at problem a.place) c (free a.place a.chosen) f a.here)

        on :
            (c d : ℕ) → FreeId t c → FreeId t d → Subsumed t α c d → ChosenAbove sets problem (get_or choice k 0) c
            → ChosenAbove sets problem (get_or choice k 0) d
        on c d f g s a =
            let e = free a.place a.chosen in
            record {
              place = a.place;
              low = a.low;
              chosen = a.chosen;
              here =
                  above-row t sets problem C α (atom_at problem a.place) d e g
                  (subsumed-trans t (assigned t α) (atom_at problem a.place) c d
                  (row-above t sets problem C α (atom_at problem a.place) c e f a.here) s);
            }

        own : (p : ℕ) → FreeId t p → Memᴰ p (chosen t α k) → ChosenAbove sets problem (get_or choice k 0) p
        own p f m =
            let P = place-of k p number m in
            record {
              place = P.place;
              low = P.low;
              chosen = P.taken;
              here =
                  subst (λ (z : ℕ). on_line sets (line_at false z) p ≡ true) (sym P.here)
                  (above-row t sets problem C α p p f f (subsumed-same t (assigned t α) p));
            }
