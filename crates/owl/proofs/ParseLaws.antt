-- What is accepted is what some axioms within the limits write: the tokens read so far are those of the axioms and of the open brackets.
use Prim.Native.Nat.{ℕ, suc, ◌+◌, ◌-◌, ◌*◌, ◌<◌, ◌≤◌}
use mathlib.Core.Path.{◌≡◌, refl, sym, ap, ◌∙◌, subst}
use mathlib.Core.List.{List, [], ◌∷◌, ◌++◌, append-nil, append_assoc}
use mathlib.Core.Bool.{Bool, true, false}
use native.Mathlib.Omega.{arith}
use lib.ListN.{length, length-append}
use borrow.Author.Tests.{eqb-true, ltb-true}
use Rattle.subsumption.specs.declared.refusal.Refusal.{Refusal}
use Rattle.subsumption.specs.Tables.{count_of}
use Rattle.numerals.specs.Digits.{digits}
use Rattle.owl.specs.declared.words.Word.{Word}
use Rattle.owl.specs.declared.words.Word.TheVariants.{AxiomKey, TopKey, AndKey, SomeKey, NameOf, RoleOf, Other}
use Rattle.owl.specs.Tokens.{Token, opening, closing, word, Placed}
use Rattle.owl.specs.Words.{axiom_text, and_text, some_text, role_key, read_word}
use Rattle.owl.specs.Judgement.{Kind, subclass, meet, exist, Frame, Want, item, bracket, role, State, Step, go, stop, go_if, keyed, first, opened, roled, joins, closed, meet_rows, shut_by, shut, begun, outside, of_role, item_step, bracket_step, role_step, step_on, step, ended, onward, run}
use Rattle.owl.specs.Grammar.{class, members, Syntax, thing, named, some, all, two, more, written, NoDeeper, entries, InRange, Axiom, axiom_written, axioms_written, axioms_entries, WithinLimits, AllWithin, unplaced}
use Rattle.owl.proofs.EntryLaws.{pairs-length}
use Rattle.owl.proofs.SpellingLaws.{Spelt, spelt}
use Rattle.owl.proofs.PassLaws.{inside, frame, placed}

-- ---- members so far
unfoldable all_written : List (Syntax class) → List Token
all_written [] = []
all_written (c ∷ cs) = written c ++ all_written cs

unfoldable all_entries : List (Syntax class) → ℕ
all_entries [] = 0
all_entries (c ∷ cs) = entries c + all_entries cs

abbrev AllFit : ℕ → List (Syntax class) → Type 0
AllFit most [] = Unit {0}
AllFit most (c ∷ cs) = NoDeeper most c × InRange c × AllFit most cs

written_one : (cs : List (Syntax class)) (c : Syntax class) → all_written (cs ++ (c ∷ [])) ≡ all_written cs ++ written c
unfolding all_written
written_one [] c = append-nil (written c)
written_one (d ∷ cs) c = ap (λ (z : List Token). written d ++ z) (written_one cs c) ∙ sym (append_assoc (written d) (all_written cs) (written c))

entries-one : (cs : List (Syntax class)) (c : Syntax class) → all_entries (cs ++ (c ∷ [])) ≡ all_entries cs + entries c
unfolding all_entries
entries-one [] c = omega arith
entries-one (d ∷ cs) c = omega (arith, entries-one cs c)

fit-one : (most : ℕ) (cs : List (Syntax class)) (c : Syntax class) → AllFit most cs → NoDeeper most c → InRange c → AllFit most (cs ++ (c ∷ []))
fit-one most [] c h low range = (low, range, tt)
fit-one most (d ∷ cs) c h low range = (h.0, h.1, fit-one most cs c h.2 low range)

-- ---- the members of an intersection
unfoldable gather : Syntax members → List (Syntax class) → Syntax members
gather m [] = m
gather m (c ∷ cs) = gather (more m c) cs

gather-written : (cs : List (Syntax class)) (m : Syntax members) → written (gather m cs) ≡ written m ++ all_written cs
unfolding gather written all_written
gather-written [] m = sym (append-nil (written m))
gather-written (c ∷ cs) m = gather-written cs (more m c) ∙ append_assoc (written m) (written c) (all_written cs)

gather-entries : (cs : List (Syntax class)) (m : Syntax members) → entries (gather m cs) ≡ entries m + all_entries cs + length cs
unfolding gather entries all_entries
gather-entries [] m = omega arith
gather-entries (c ∷ cs) m = omega (arith, gather-entries cs (more m c))

gather-fit : (most : ℕ) (cs : List (Syntax class)) (m : Syntax members) → AllFit most cs → NoDeeper most m → InRange m → NoDeeper most (gather m cs) × InRange (gather m cs)
unfolding gather
gather-fit most [] m h low range = (low, range)
gather-fit most (c ∷ cs) m h low range = gather-fit most cs (more m c) h.2 (low, h.0) (range, h.1)

-- ---- what was read
key_text : Kind → List ℕ
key_text subclass = axiom_text
key_text meet = and_text
key_text exist = some_text

-- an open bracket in front of its members
opened_by : Kind → ℕ → List Token
opened_by subclass r = word axiom_text ∷ opening ∷ []
opened_by meet r = word and_text ∷ opening ∷ []
opened_by exist r = word some_text ∷ opening ∷ word (role_key ++ digits r) ∷ []

-- an axiom stands in no bracket, a class in one, at most 32 deep
abbrev Fits : Kind → List Frame → Type 0
Fits subclass [] = Unit {0}
Fits subclass (f ∷ fs) = ⊥
Fits meet [] = ⊥
Fits meet (f ∷ fs) = length (f ∷ fs) ≤ 32
Fits exist [] = ⊥
Fits exist (f ∷ fs) = length (f ∷ fs) ≤ 32

-- no bracket is open: the tokens are those of axioms, which give n entries
pub record Between (ts : List Token) (n : ℕ) : Type 0 where
  pub axioms : List Axiom
  pub text : ts ≡ axioms_written axioms
  pub within : AllWithin axioms
  pub count : n ≡ axioms_entries axioms

-- behind the tokens `before` and their k entries a bracket stands open, with these classes in it
record InFrame (f : Frame) (fs : List Frame) (before : List Token) (k : ℕ) (ts : List Token) (n : ℕ) : Type 0 where
  classes : List (Syntax class)
  text : ts ≡ before ++ (opened_by f.kind f.role ++ all_written classes)
  same : length classes ≡ length f.members
  fit : AllFit (32 - length fs) classes
  low : f.role ≤ 99
  fits : Fits f.kind fs
  count : n ≡ k + all_entries classes

-- the brackets that are open, the innermost first
abbrev Held : List Frame → List Token → ℕ → Type 0
Held [] ts n = Between ts n
Held (f ∷ fs) ts n = (before : List Token) × (k : ℕ) × Held fs before k × InFrame f fs before k ts n

-- the same in front of what may come next: behind a keyword, or where a role is due, the bracket's class is only begun
abbrev Stands : Want → List Frame → List Token → ℕ → Type 0
Stands item frames ts n = Held frames ts n
Stands (bracket kind) frames ts n = (before : List Token) × Held frames before n × (ts ≡ before ++ (word (key_text kind) ∷ [])) × Fits kind frames
Stands role [] ts n = ⊥
Stands role (f ∷ fs) ts n =
    (before : List Token) × Held fs before n × (ts ≡ before ++ (word some_text ∷ opening ∷ [])) × Fits exist fs × (f ≡ frame exist 0 [])

-- what every step keeps
record Inv (s : State) (ts : List Token) : Type 0 where
  n : ℕ
  size : length s.rows ≡ n * 3
  few : n ≤ 192
  stands : Stands s.want s.frames ts n

-- a class joins the innermost frame
join :
    (id : ℕ) (g : Frame) (gs : List Frame) (before : List Token) (k : ℕ) → Held (g ∷ gs) before k → (c : Syntax class) → NoDeeper (32 - length gs) c → InRange c
    → (ts : List Token) (n : ℕ) → ts ≡ before ++ written c → n ≡ k + entries c → Held (joins id (g ∷ gs)) ts n
unfolding joins
join id g gs before k (b, l, h, x) c low range ts n e f = (
  b,
  l,
  h,
  record {
    classes = x.classes ++ (c ∷ []);
    text =
        e ∙ ap (λ (z : List Token). z ++ written c) x.text
        ∙ simp append_assoc (ap (λ (z : List Token). b ++ (opened_by g.kind g.role ++ z)) (sym (written_one x.classes c)));
    same = omega (arith, x.same, length-append x.classes (c ∷ []), length-append g.members (id ∷ []));
    fit = fit-one _ x.classes c x.fit low range;
    low = x.low;
    fits = x.fits;
    count = omega (arith, x.count, entries-one x.classes c);
  },
)

-- ---- an axiom closes
axioms-one : (axioms : List Axiom) (a : Axiom) → axioms_written (axioms ++ (a ∷ [])) ≡ axioms_written axioms ++ axiom_written a
unfolding axioms_written
axioms-one [] a = append-nil (axiom_written a)
axioms-one (b ∷ axioms) a = ap (λ (z : List Token). axiom_written b ++ z) (axioms-one axioms a) ∙ sym (append_assoc (axiom_written b) (axioms_written axioms) (axiom_written a))

axioms-entries-one : (axioms : List Axiom) (a : Axiom) → axioms_entries (axioms ++ (a ∷ [])) ≡ axioms_entries axioms + (entries a.left + entries a.right)
unfolding axioms_entries
axioms-entries-one [] a = omega arith
axioms-entries-one (b ∷ axioms) a = omega (arith, axioms-entries-one axioms a)

within-one : (axioms : List Axiom) (a : Axiom) → AllWithin axioms → WithinLimits a → AllWithin (axioms ++ (a ∷ []))
within-one [] a h w = (w, tt)
within-one (b ∷ axioms) a h w = (h.0, within-one axioms a h.1 w)

shut-axiom : (r : ℕ) (ids : List ℕ) (fs : List Frame) (ts : List Token) (n : ℕ) → Held (frame subclass r ids ∷ fs) ts n → length ids ≡ 2 → Held fs (ts ++ (closing ∷ [])) n
unfolding opened_by all_written all_entries axiom_written
shut-axiom r ids [] ts n (b, k, h, x) pair = pick x.classes x.text (omega (arith, x.same)) x.fit x.count
  where
    pick :
        (cs : List (Syntax class)) → ts ≡ b ++ (opened_by subclass r ++ all_written cs) → length cs ≡ 2 → AllFit 32 cs → n ≡ k + all_entries cs
        → Between (ts ++ (closing ∷ [])) n
    pick [] e l fit f = absurd (omega arith)
    pick (c ∷ []) e l fit f = absurd (omega arith)
    pick (c ∷ d ∷ []) e l fit f =
        let a : Axiom = record { left = c; right = d } in
        record {
          axioms = h.axioms ++ (a ∷ []);
          text =
              ap (λ (z : List Token). z ++ (closing ∷ [])) e
              ∙ simp (append_assoc, append-nil) (ap (λ (z : List Token). z ++ axiom_written a) h.text ∙ sym (axioms-one h.axioms a));
          within =
              within-one h.axioms a h.within
              (record { left-range = fit.1; right-range = fit.2.1; left-depth = fit.0; right-depth = fit.2.0 });
          count = omega (arith, h.count, axioms-entries-one h.axioms a);
        }
    pick (c ∷ d ∷ e' ∷ cs) e l fit f = absurd (omega arith)
shut-axiom r ids (f ∷ fs) ts n (b, k, h, x) pair = absurd x.fits

-- ---- a class closes
shut-some :
    (r : ℕ) (ids : List ℕ) (fs : List Frame) (ts : List Token) (n id : ℕ) → Held (frame exist r ids ∷ fs) ts n → length ids ≡ 1
    → Held (joins id fs) (ts ++ (closing ∷ [])) (n + 1)
unfolding opened_by all_written all_entries written entries
shut-some r ids [] ts n id (b, k, h, x) one = absurd x.fits
shut-some r ids (g ∷ gs) ts n id (b, k, h, x) one = pick x.classes x.text (omega (arith, x.same)) x.fit x.count
  where
    pick :
        (cs : List (Syntax class)) → ts ≡ b ++ (opened_by exist r ++ all_written cs) → length cs ≡ 1 → AllFit (32 - suc (length gs)) cs → n ≡ k + all_entries cs
        → Held (joins id (g ∷ gs)) (ts ++ (closing ∷ [])) (n + 1)
    pick [] e l fit f = absurd (omega arith)
    pick (c ∷ []) e l fit f =
        let q : 32 - suc (length gs) ≡ 32 - length gs - 1 = omega arith in
        join id g gs b k h (some r c) (omega (arith, x.fits), subst (λ (m : ℕ). NoDeeper m c) q fit.0) (x.low, fit.1) (ts ++ (closing ∷ [])) (n + 1)
        (ap (λ (z : List Token). z ++ (closing ∷ [])) e ∙ simp (append_assoc, append-nil)) (omega arith)
    pick (c ∷ d ∷ cs) e l fit f = absurd (omega arith)

shut-meet :
    (r : ℕ) (ids : List ℕ) (fs : List Frame) (ts : List Token) (n id : ℕ) → Held (frame meet r ids ∷ fs) ts n → 1 < length ids
    → Held (joins id fs) (ts ++ (closing ∷ [])) (n + (length ids - 1))
unfolding opened_by all_written all_entries written entries
shut-meet r ids [] ts n id (b, k, h, x) several = absurd x.fits
shut-meet r ids (g ∷ gs) ts n id (b, k, h, x) several = pick x.classes x.text x.same x.fit x.count
  where
    pick :
        (cs : List (Syntax class)) → ts ≡ b ++ (opened_by meet r ++ all_written cs) → length cs ≡ length ids → AllFit (32 - suc (length gs)) cs → n ≡ k + all_entries cs
        → Held (joins id (g ∷ gs)) (ts ++ (closing ∷ [])) (n + (length ids - 1))
    pick [] e l fit f = absurd (omega arith)
    pick (c ∷ []) e l fit f = absurd (omega arith)
    pick (c ∷ d ∷ cs) e l fit f =
        let q : 32 - suc (length gs) ≡ 32 - length gs - 1 = omega arith in
        let m : Syntax members = gather (two c d) cs in
        let g-fit = gather-fit (32 - suc (length gs)) cs (two c d) fit.2.2 (fit.0, fit.2.0) (fit.1, fit.2.1) in
        join id g gs b k h (all m) (omega (arith, x.fits), subst (λ (z : ℕ). NoDeeper z m) q g-fit.0) g-fit.1 (ts ++ (closing ∷ [])) (n + (length ids - 1))
        (ap (λ (z : List Token). z ++ (closing ∷ [])) e ∙ append_assoc b _ (closing ∷ [])
        ∙ ap (λ (z : List Token). b ++ (word and_text ∷ opening ∷ (z ++ (closing ∷ [])))) (sym (gather-written cs (two c d) ∙ append_assoc (written c) (written d) (all_written cs))))
        (omega (arith, gather-entries cs (two c d)))

-- ---- one step
goes-if : (test : Bool) (a : Step) (r : Refusal) (s : State) → go_if test a r ≡ go s → (test ≡ true) × (a ≡ go s)
unfolding go_if
goes-if true a r s e = (refl, e)
goes-if false a r s e = absurd (let z : ◌≡◌ {A = ℕ} 0 1 = cc e in omega arith)

stopped : (r : Refusal) (s : State) {A : Type 0} → stop r ≡ go s → A
stopped r s e = absurd (let z : ◌≡◌ {A = ℕ} 0 1 = cc e in omega arith)

went : (s s' : State) (ts : List Token) → go s ≡ go s' → Inv s ts → Inv s' ts
went s s' ts e i = let q : s ≡ s' = cc e in subst (λ (z : State). Inv z ts) q i

-- a class closes with k entries
closes :
    (added : List ℕ) (frames : List Frame) (s s' : State) (ts : List Token) (n k : ℕ) → length s.rows ≡ n * 3 → length added ≡ k * 3
    → ((id : ℕ) → Held (joins id frames) ts (n + k)) → closed added frames s ≡ go s' → Inv s' ts
unfolding closed
closes added frames s s' ts n k e f held h =
    let (few, goes) = goes-if _ _ _ s' h in
    let size : length (s.rows ++ added) ≡ (n + k) * 3 = omega (arith, length-append s.rows added) in
    let small : count_of (s.rows ++ added) < 193 = ltb-true _ _ few in
    went _ s' ts goes (record { n = n + k; size = size; few = omega arith; stands = held (count_of (s.rows ++ added) - 1) })

meet-length : (next : ℕ) (ids : List ℕ) → 1 < length ids → length (meet_rows next ids) ≡ (length ids - 1) * 3
unfolding meet_rows
meet-length next [] h = absurd (omega arith)
meet-length next (i ∷ ids) h = pairs-length next i ids ∙ (let e : length ids ≡ suc (length ids) - 1 = omega arith in ap (λ (z : ℕ). z * 3) e)

-- ---- a closing bracket
module _ (r : ℕ) (ids : List ℕ) (fs : List Frame) (rows inclusions : List ℕ) (place : ℕ) (s' : State) (ts : List Token) (n : ℕ) (size : length rows ≡ n * 3) (few : n ≤ 192) where
  keeps-shut :
      (kind : Kind) → Held (frame kind r ids ∷ fs) ts n → shut_by kind place (frame kind r ids) fs (inside (frame kind r ids ∷ fs) item rows inclusions) ≡ go s'
      → Inv s' (ts ++ (closing ∷ []))
  unfolding shut_by
  keeps-shut subclass held h =
      let (pair, goes) = goes-if _ _ _ s' h in
      went _ s' _ goes (record { n = n; size = size; few = few; stands = shut-axiom r ids fs ts n held (eqb-true _ _ pair) })
  keeps-shut exist held h =
      let (one, goes) = goes-if _ _ _ s' h in
      let l : length ids ≡ 1 = eqb-true _ _ one in
      closes (2 ∷ r ∷ ids) fs (inside (frame exist r ids ∷ fs) item rows inclusions) s' _ n 1 size (omega arith) (λ id. shut-some r ids fs ts n id held l) goes
  keeps-shut meet held h =
      let (several, goes) = goes-if _ _ _ s' h in
      let l : 1 < length ids = ltb-true _ _ several in
      closes (meet_rows (count_of rows) ids) fs (inside (frame meet r ids ∷ fs) item rows inclusions) s' _ n (length ids - 1) size
      (meet-length (count_of rows) ids l) (λ id. shut-meet r ids fs ts n id held l) goes

-- ---- a word
module _ (w : List ℕ) (rows inclusions : List ℕ) (place : ℕ) (s' : State) (ts : List Token) (n : ℕ) (size : length rows ≡ n * 3) (few : n ≤ 192) where
  keeps_outside :
      (read : Word) → Spelt w read → Held [] ts n → outside place (inside [] item rows inclusions) read ≡ go s' → Inv s' (ts ++ (word w ∷ []))
  unfolding outside keyed key_text
  keeps_outside AxiomKey e held h =
      went _ s' _ h (record { n = n; size = size; few = few; stands = (ts, held, ap (λ (z : List ℕ). ts ++ (word z ∷ [])) e, tt) })
  keeps_outside TopKey e held h = stopped _ s' h
  keeps_outside AndKey e held h = stopped _ s' h
  keeps_outside SomeKey e held h = stopped _ s' h
  keeps_outside (NameOf m) e held h = stopped _ s' h
  keeps_outside (RoleOf m) e held h = stopped _ s' h
  keeps_outside Other e held h = stopped _ s' h

  keeps-begun :
      (f : Frame) (fs : List Frame) (read : Word) → Spelt w read → Held (f ∷ fs) ts n → begun place (inside (f ∷ fs) item rows inclusions) read ≡ go s'
      → Inv s' (ts ++ (word w ∷ []))
  unfolding begun keyed key_text written entries
  keeps-begun f fs AxiomKey e held h = stopped _ s' h
  keeps-begun f fs (RoleOf m) e held h = stopped _ s' h
  keeps-begun f fs Other e held h = stopped _ s' h
  keeps-begun f fs TopKey e held h =
      let (deep, goes) = goes-if _ _ _ s' h in
      let low : length (f ∷ fs) < 33 = ltb-true _ _ deep in
      closes (0 ∷ 0 ∷ 0 ∷ []) (f ∷ fs) (inside (f ∷ fs) item rows inclusions) s' _ n 1 size refl
      (λ id. join id f fs ts n held thing (omega arith) tt _ (n + 1) (ap (λ (z : List ℕ). ts ++ (word z ∷ [])) e) refl) goes
  keeps-begun f fs (NameOf m) e held h =
      let (deep, goes) = goes-if _ _ _ s' h in
      let low : length (f ∷ fs) < 33 = ltb-true _ _ deep in
      closes (1 ∷ m ∷ 0 ∷ []) (f ∷ fs) (inside (f ∷ fs) item rows inclusions) s' _ n 1 size refl
      (λ id. join id f fs ts n held (named m) (omega arith) e.small _ (n + 1) (ap (λ (z : List ℕ). ts ++ (word z ∷ [])) e.text) refl) goes
  keeps-begun f fs AndKey e held h =
      let (deep, goes) = goes-if _ _ _ s' h in
      let low : length (f ∷ fs) < 33 = ltb-true _ _ deep in
      went _ s' _ goes (record { n = n; size = size; few = few; stands = (ts, held, ap (λ (z : List ℕ). ts ++ (word z ∷ [])) e, omega arith) })
  keeps-begun f fs SomeKey e held h =
      let (deep, goes) = goes-if _ _ _ s' h in
      let low : length (f ∷ fs) < 33 = ltb-true _ _ deep in
      went _ s' _ goes (record { n = n; size = size; few = few; stands = (ts, held, ap (λ (z : List ℕ). ts ++ (word z ∷ [])) e, omega arith) })

  keeps-role :
      (f : Frame) (fs : List Frame) (read : Word) → Spelt w read → Stands role (f ∷ fs) ts n → of_role place (inside (f ∷ fs) role rows inclusions) read ≡ go s'
      → Inv s' (ts ++ (word w ∷ []))
  unfolding of_role roled opened_by all_written all_entries
  keeps-role f fs AxiomKey e held h = stopped _ s' h
  keeps-role f fs TopKey e held h = stopped _ s' h
  keeps-role f fs AndKey e held h = stopped _ s' h
  keeps-role f fs SomeKey e held h = stopped _ s' h
  keeps-role f fs (NameOf m) e held h = stopped _ s' h
  keeps-role f fs (RoleOf r) e (before, held, text, fits, is) h =
      let same : inside (frame exist r [] ∷ fs) item rows inclusions ≡ inside (roled r (f ∷ fs)) item rows inclusions = cc in
      let now : Inv (inside (frame exist r [] ∷ fs) item rows inclusions) (ts ++ (word w ∷ [])) =
      record {
        n = n;
        size = size;
        few = few;
        stands = (
          before,
          n,
          held,
          record {
            classes = [];
            text = ap (λ (z : List Token). z ++ (word w ∷ [])) text ∙ append_assoc before _ (word w ∷ []) ∙ ap (λ (z : List ℕ). before ++ (word some_text ∷ opening ∷ word z ∷ [])) e.text;
            same = refl;
            fit = tt;
            low = e.small;
            fits = fits;
            count = omega arith;
          },
        );
      } in
      went _ s' _ h (subst (λ (z : State). Inv z (ts ++ (word w ∷ []))) same now)
  keeps-role f fs Other e held h = stopped _ s' h

-- ---- an opening bracket
module _ (frames : List Frame) (rows inclusions : List ℕ) (s' : State) (ts : List Token) (n : ℕ) (size : length rows ≡ n * 3) (few : n ≤ 192) where
  behind-key : (before : List Token) (kind : Kind) → ts ≡ before ++ (word (key_text kind) ∷ []) → ts ++ (opening ∷ []) ≡ before ++ (word (key_text kind) ∷ opening ∷ [])
  behind-key before kind e = ap (λ (z : List Token). z ++ (opening ∷ [])) e ∙ append_assoc before _ (opening ∷ [])

  now-open :
      (kind : Kind) → opened_by kind 0 ++ [] ≡ word (key_text kind) ∷ opening ∷ [] → Stands (bracket kind) frames ts n
      → Held (frame kind 0 [] ∷ frames) (ts ++ (opening ∷ [])) n
  unfolding all_written all_entries
  now-open kind e (before, held, text, fits) = (
    before,
    n,
    held,
    record {
      classes = [];
      text = behind-key before kind text ∙ ap (λ (z : List Token). before ++ z) (sym e);
      same = refl;
      fit = tt;
      low = omega arith;
      fits = fits;
      count = omega arith;
    },
  )

  keeps-opened :
      (kind : Kind) → Stands (bracket kind) frames ts n → opened kind (inside frames (bracket kind) rows inclusions) ≡ go s' → Inv s' (ts ++ (opening ∷ []))
  unfolding opened first key_text opened_by
  keeps-opened subclass held h = went _ s' _ h (record { n = n; size = size; few = few; stands = now-open subclass refl held })
  keeps-opened meet held h = went _ s' _ h (record { n = n; size = size; few = few; stands = now-open meet refl held })
  keeps-opened exist (before, held, text, fits) h =
      went _ s' _ h (record { n = n; size = size; few = few; stands = (before, held, behind-key before exist text, fits, refl) })

-- ---- any step
module _ (rows inclusions : List ℕ) (place : ℕ) (s' : State) (ts : List Token) (n : ℕ) (size : length rows ≡ n * 3) (few : n ≤ 192) where
  keeps-item :
      (frames : List Frame) (t : Token) → Held frames ts n → item_step place (inside frames item rows inclusions) frames t ≡ go s' → Inv s' (ts ++ (t ∷ []))
  unfolding item_step shut
  keeps-item [] opening held h = stopped _ s' h
  keeps-item [] closing held h = stopped _ s' h
  keeps-item [] (word w) held h = keeps_outside w rows inclusions place s' ts n size few (read_word w) (spelt w) held h
  keeps-item (f ∷ fs) opening held h = stopped _ s' h
  keeps-item (f ∷ fs) closing held h = keeps-shut f.role f.members fs rows inclusions place s' ts n size few f.kind held h
  keeps-item (f ∷ fs) (word w) held h = keeps-begun w rows inclusions place s' ts n size few f fs (read_word w) (spelt w) held (goes-if _ _ _ s' h).1

  keeps-bracket :
      (kind : Kind) (frames : List Frame) (t : Token) → Stands (bracket kind) frames ts n
      → bracket_step place (inside frames (bracket kind) rows inclusions) kind t ≡ go s' → Inv s' (ts ++ (t ∷ []))
  unfolding bracket_step
  keeps-bracket kind frames opening held h = keeps-opened frames rows inclusions s' ts n size few kind held h
  keeps-bracket kind frames closing held h = stopped _ s' h
  keeps-bracket kind frames (word w) held h = stopped _ s' h

  keeps-roled :
      (frames : List Frame) (t : Token) → Stands role frames ts n → role_step place (inside frames role rows inclusions) t ≡ go s' → Inv s' (ts ++ (t ∷ []))
  unfolding role_step
  keeps-roled [] t held h = absurd held
  keeps-roled (f ∷ fs) opening held h = stopped _ s' h
  keeps-roled (f ∷ fs) closing held h = stopped _ s' h
  keeps-roled (f ∷ fs) (word w) held h = keeps-role w rows inclusions place s' ts n size few f fs (read_word w) (spelt w) held h

  keeps-wanted :
      (want : Want) (frames : List Frame) (t : Token) → Stands want frames ts n → step_on (inside frames want rows inclusions) (placed place t) want ≡ go s'
      → Inv s' (ts ++ (t ∷ []))
  unfolding step_on
  keeps-wanted item frames t held h = keeps-item frames t held h
  keeps-wanted (bracket kind) frames t held h = keeps-bracket kind frames t held h
  keeps-wanted role frames t held h = keeps-roled frames t held h

step_keeps : (s s' : State) (t : Placed) (ts : List Token) → Inv s ts → step s t ≡ go s' → Inv s' (ts ++ (t.token ∷ []))
unfolding step
step_keeps s s' t ts i h =
    keeps-wanted s.rows s.inclusions t.place s' ts i.n i.size i.few s.want s.frames t.token i.stands h

-- ---- a whole run
pub record Accepted (ts : List Token) : Type 0 where
  pub axioms : List Axiom
  pub text : ts ≡ axioms_written axioms
  pub within : AllWithin axioms
  pub few : axioms_entries axioms ≤ 192

keeps-ended :
    (end : ℕ) (s s' : State) (ts : List Token) (n : ℕ) → n ≤ 192 → (frames : List Frame) (want : Want) → Stands want frames ts n → ended end s frames want ≡ go s' → Accepted ts
unfolding ended
keeps-ended end s s' ts n few [] item b h = record { axioms = b.axioms; text = b.text; within = b.within; few = omega (arith, b.count) }
keeps-ended end s s' ts n few [] (bracket kind) b h = stopped _ s' h
keeps-ended end s s' ts n few [] role b h = stopped _ s' h
keeps-ended end s s' ts n few (f ∷ fs) want b h = stopped _ s' h

run-keeps : (end : ℕ) (ps : List Placed) (s s' : State) (ts : List Token) → Inv s ts → run end ps s ≡ go s' → Accepted (ts ++ unplaced ps)
unfolding run unplaced onward
run-keeps end [] s s' ts i h =
    subst Accepted (sym (append-nil ts)) (keeps-ended end s s' ts i.n i.few s.frames s.want i.stands h)
run-keeps end (p ∷ ps) s s' ts i h = next (step s p) refl h (λ z j k. run-keeps end ps z s' (ts ++ (p.token ∷ [])) j k)
  where
    next :
        (x : Step) → step s p ≡ x → onward x (run end ps) ≡ go s'
        → ((z : State) → Inv z (ts ++ (p.token ∷ [])) → run end ps z ≡ go s' → Accepted ((ts ++ (p.token ∷ [])) ++ unplaced ps))
        → Accepted (ts ++ (p.token ∷ unplaced ps))
    next (go z) e k rest = subst Accepted (append_assoc ts (p.token ∷ []) (unplaced ps)) (rest z (step_keeps s z p ts i e) k)
    next (stop r) e k rest = stopped r s' k

pub run-accepted : (end : ℕ) (ps : List Placed) (s' : State) → run end ps (inside [] item [] []) ≡ go s' → Accepted (unplaced ps)
unfolding axioms_written axioms_entries
run-accepted end ps s' h =
    run-keeps end ps (inside [] item [] []) s' []
    (record { n = 0; size = refl; few = omega arith; stands = record { axioms = []; text = refl; within = tt; count = refl } }) h
