-- What is written within the limits is accepted, and its entries mean what it says.
use Prim.Native.Nat.{ℕ, suc, ◌+◌, ◌-◌, ◌*◌, ◌<◌, ◌≤◌}
use mathlib.Core.Path.{◌≡◌, refl, sym, ap, ap₂, ◌∙◌, subst}
use mathlib.Core.List.{List, [], ◌∷◌, ◌++◌, append-nil, append_assoc}
use mathlib.Core.Bool.{true}
use native.Mathlib.Omega.{arith}
use lib.ListN.{length, length-append}
use borrow.Author.Tests.{le-ltb}
use Rattle.subsumption.specs.Tables.{or, decode, Concept, exists, and, shape, tree}
use Rattle.subsumption.specs.Check.{malformed_row}
use Rattle.owl.specs.Tokens.{opening, closing, word, Placed, tokens}
use Rattle.owl.specs.Words.{axiom_text, and_text, some_text}
use Rattle.owl.specs.Judgement.{subclass, meet, exist, Frame, item, State, go, joins, pair_rows, room_by, has_room, ended, run, start, judge}
use Rattle.owl.specs.Grammar.{Sort, class, members, Syntax, thing, named, some, all, two, more, written, meaning, NoDeeper, entries, InRange, Axiom, axiom_written, axioms_written, axioms_entries, AllWithin, unplaced, Says, Means}
use Rattle.owl.proofs.EntryLaws.{Tabled, none-tabled, Grown, grown-none, grown-on, one_more, Under, under_more, under-append, meet_of, meet_one, meet-same, last_of, paired}
use Rattle.owl.proofs.PassLaws.{Passes, pass-none, pass_on, inside, frame, pass-and, pass-some, pass-thing, pass-named, pass-shut-some, pass-shut-meet, pass-shut-axiom, pass-axiom}

-- a class whose id joins the innermost frame
pub record ClassRead (c : Syntax class) (f : Frame) (fs : List Frame) (rows inclusions : List ℕ) (n : ℕ) : Type 0 where
  pub rows' : List ℕ
  pub id : ℕ
  pub passes : Passes (inside (f ∷ fs) item rows inclusions) (written c) (inside (joins id (f ∷ fs)) item rows' inclusions)
  pub grown : Grown rows n rows' (n + entries c)
  pub known : id < n + entries c
  pub means : tree rows' id ≡ meaning c

-- the members of an intersection, which is still open: one "and" for each member after the first is due
pub record MembersRead (m : Syntax members) (fs : List Frame) (rows inclusions : List ℕ) (n : ℕ) : Type 0 where
  pub rows' : List ℕ
  pub count : ℕ
  pub first : ℕ
  pub later : List ℕ
  pub passes :
      Passes (inside (frame meet 0 [] ∷ fs) item rows inclusions) (written m) (inside (frame meet 0 (first ∷ later) ∷ fs) item rows' inclusions)
  pub grown : Grown rows n rows' count
  pub due : count + length later ≡ n + entries m
  pub several : 0 < length later
  pub known : Under count (first ∷ later)
  pub means : meet_of (tree rows') (tree rows' first) later ≡ meaning m

-- room in the innermost frame, depth and entries
abbrev Reads : (s : Sort) → Syntax s → Type 0
Reads class c =
    (f : Frame) (fs : List Frame) (rows inclusions : List ℕ) (n most : ℕ) → has_room f ≡ true → length (f ∷ fs) + most ≤ 33 → NoDeeper most c → InRange c
    → Tabled rows n → n + entries c ≤ 192 → ClassRead c f fs rows inclusions n
Reads members m =
    (fs : List Frame) (rows inclusions : List ℕ) (n most : ℕ) → suc (length fs) + most ≤ 33 → NoDeeper most m → InRange m → Tabled rows n
    → n + entries m ≤ 192 → MembersRead m fs rows inclusions n

module _ (f : Frame) (fs : List Frame) (rows inclusions : List ℕ) (n : ℕ) (room : has_room f ≡ true) (deep : length (f ∷ fs) ≤ 32) where
  read-thing : Tabled rows n → n < 192 → ClassRead thing f fs rows inclusions n
  unfolding written entries meaning malformed_row or decode shape
  read-thing t few =
      let one = one_more rows n t 0 0 0 refl tt in
      let e : suc n ≡ n + 1 = omega arith in
      record {
        rows' = rows ++ (0 ∷ 0 ∷ 0 ∷ []);
        id = n;
        passes = pass-thing f fs rows inclusions room deep n t.size few;
        grown = subst (Grown rows n (rows ++ (0 ∷ 0 ∷ 0 ∷ []))) e one.0;
        known = omega arith;
        means = one.1;
      }

  read_named : (m : ℕ) → m ≤ 999 → Tabled rows n → n < 192 → ClassRead (named m) f fs rows inclusions n
  unfolding written entries meaning malformed_row or decode shape
  read_named m low t few =
      let one = one_more rows n t 1 m 0 (rw (le-ltb 999 m low) refl) tt in
      let e : suc n ≡ n + 1 = omega arith in
      record {
        rows' = rows ++ (1 ∷ m ∷ 0 ∷ []);
        id = n;
        passes = pass-named f fs rows inclusions room deep n t.size few m low;
        grown = subst (Grown rows n (rows ++ (1 ∷ m ∷ 0 ∷ []))) e one.0;
        known = omega arith;
        means = one.1;
      }

  read_some :
      (r : ℕ) (c : Syntax class) → r ≤ 99 → ClassRead c (frame exist r []) (f ∷ fs) rows inclusions n → n + entries c < 192
      → ClassRead (some r c) f fs rows inclusions n
  unfolding written entries meaning malformed_row decode shape joins
  read_some r c low x few =
      let one = one_more x.rows' (n + entries c) x.grown.tabled 2 r x.id (le-ltb 99 r low) x.known in
      let e : suc (n + entries c) ≡ n + suc (entries c) = omega arith in
      record {
        rows' = x.rows' ++ (2 ∷ r ∷ x.id ∷ []);
        id = n + entries c;
        passes =
            pass_on _ (inside (frame exist r [] ∷ f ∷ fs) item rows inclusions) _ (word some_text ∷ opening ∷ word _ ∷ []) (written c ++ (closing ∷ []))
            (pass-some f fs rows inclusions room deep r low)
            (pass_on _ (inside (frame exist r (x.id ∷ []) ∷ f ∷ fs) item x.rows' inclusions) _ (written c) (closing ∷ []) x.passes
            (pass-shut-some (f ∷ fs) x.rows' inclusions r x.id (n + entries c) x.grown.tabled.size few));
        grown = subst (Grown rows n (x.rows' ++ (2 ∷ r ∷ x.id ∷ []))) e (grown-on x.grown one.0);
        known = omega arith;
        means = one.1 ∙ ap (exists r) x.means;
      }

  read_all :
      (m : Syntax members) → MembersRead m (f ∷ fs) rows inclusions n → n + entries m ≤ 192 → ClassRead (all m) f fs rows inclusions n
  unfolding written entries meaning
  read_all m x few =
      let p = paired x.later x.rows' x.count x.first x.grown.tabled x.known.0 x.known.1 in
      record {
        rows' = x.rows' ++ pair_rows x.count x.first x.later;
        id = last_of x.count x.first x.later;
        passes =
            pass_on _ (inside (frame meet 0 [] ∷ f ∷ fs) item rows inclusions) _ (word and_text ∷ opening ∷ []) (written m ++ (closing ∷ []))
            (pass-and f fs rows inclusions room deep)
            (pass_on _ (inside (frame meet 0 (x.first ∷ x.later) ∷ f ∷ fs) item x.rows' inclusions) _ (written m) (closing ∷ []) x.passes
            (pass-shut-meet (f ∷ fs) x.rows' inclusions x.first x.later x.count x.several x.grown.tabled.size (omega (arith, x.due))));
        grown = subst (Grown rows n (x.rows' ++ pair_rows x.count x.first x.later)) x.due (grown-on x.grown p.grown);
        known = omega (arith, x.due, p.known);
        means = p.means ∙ x.means;
      }

module _ (fs : List Frame) (rows inclusions : List ℕ) (n : ℕ) where
  read-two :
      (c d : Syntax class) (x : ClassRead c (frame meet 0 []) fs rows inclusions n)
      → ClassRead d (frame meet 0 (x.id ∷ [])) fs x.rows' inclusions (n + entries c) → MembersRead (two c d) fs rows inclusions n
  unfolding written entries meaning joins meet_of
  read-two c d x y =
      record {
        rows' = y.rows';
        count = n + entries c + entries d;
        first = x.id;
        later = y.id ∷ [];
        passes = pass_on _ (inside (frame meet 0 (x.id ∷ []) ∷ fs) item x.rows' inclusions) _ (written c) (written d) x.passes y.passes;
        grown = grown-on x.grown y.grown;
        due = omega arith;
        several = omega arith;
        known = (omega (arith, x.known), (omega (arith, y.known), tt));
        means = ap₂ and (y.grown.kept x.id x.known ∙ x.means) y.means;
      }

  read_more :
      (m : Syntax members) (c : Syntax class) (x : MembersRead m fs rows inclusions n)
      → ClassRead c (frame meet 0 (x.first ∷ x.later)) fs x.rows' inclusions x.count → MembersRead (more m c) fs rows inclusions n
  unfolding written entries meaning joins
  read_more m c x y =
      record {
        rows' = y.rows';
        count = x.count + entries c;
        first = x.first;
        later = x.later ++ (y.id ∷ []);
        passes = pass_on _ (inside (frame meet 0 (x.first ∷ x.later) ∷ fs) item x.rows' inclusions) _ (written m) (written c) x.passes y.passes;
        grown = grown-on x.grown y.grown;
        due = omega (arith, x.due, length-append x.later (y.id ∷ []));
        several = omega (arith, length-append x.later (y.id ∷ []));
        known = under-append (x.count + entries c) (x.first ∷ x.later) (y.id ∷ []) (under_more x.count _ (x.first ∷ x.later) (omega arith) x.known) (y.known, tt);
        means =
            meet_one (tree y.rows') _ x.later y.id
            ∙ ap₂ and
            (ap (λ (z : Concept). meet_of (tree y.rows') z x.later) (y.grown.kept x.first x.known.0)
            ∙ meet-same (tree y.rows') (tree x.rows') x.count y.grown.kept (tree x.rows' x.first) x.later x.known.1 ∙ x.means)
            y.means;
      }

pub reads : {s : Sort} (c : Syntax s) → Reads s c
unfolding entries has_room room_by
reads thing = λ f fs rows inclusions n most room deep low range t few. read-thing f fs rows inclusions n room (omega (arith, low)) t (omega arith)
reads (named m) = λ f fs rows inclusions n most room deep low range t few. read_named f fs rows inclusions n room (omega (arith, low)) m range t (omega arith)
reads (some r c) = λ f fs rows inclusions n most room deep low range t few.
    read_some f fs rows inclusions n room (omega (arith, low.0)) r c range.0
    (reads c (frame exist r []) (f ∷ fs) rows inclusions n (most - 1) refl (omega (arith, low.0)) low.1 range.1 t (omega arith)) (omega arith)
reads (all m) = λ f fs rows inclusions n most room deep low range t few.
    read_all f fs rows inclusions n room (omega (arith, low.0)) m
    (reads m (f ∷ fs) rows inclusions n (most - 1) (omega (arith, low.0)) low.1 range t few) few
reads (two c d) = λ fs rows inclusions n most deep low range t few.
    let x = reads c (frame meet 0 []) fs rows inclusions n most refl deep low.0 range.0 t (omega arith) in
    read-two fs rows inclusions n c d x
    (reads d (frame meet 0 (x.id ∷ [])) fs x.rows' inclusions (n + entries c) most refl deep low.1 range.1 x.grown.tabled (omega arith))
reads (more m c) = λ fs rows inclusions n most deep low range t few.
    let x = reads m fs rows inclusions n most deep low.0 range.0 t (omega arith) in
    read_more fs rows inclusions n m c x
    (reads c (frame meet 0 (x.first ∷ x.later)) fs x.rows' inclusions x.count most refl deep low.1 range.1 x.grown.tabled (omega (arith, x.due, x.several)))

-- ---- axioms
pub record AxiomsRead (axioms : List Axiom) (rows inclusions : List ℕ) (n : ℕ) : Type 0 where
  pub rows' : List ℕ
  pub pairs : List ℕ
  pub passes : Passes (inside [] item rows inclusions) (axioms_written axioms) (inside [] item rows' (inclusions ++ pairs))
  pub grown : Grown rows n rows' (n + axioms_entries axioms)
  pub known : Under (n + axioms_entries axioms) pairs
  pub size : length pairs ≡ length axioms * 2
  pub means : Means rows' pairs axioms

module _ (rows inclusions : List ℕ) (n : ℕ) where
  read_none : Tabled rows n → AxiomsRead [] rows inclusions n
  unfolding axioms_written axioms_entries
  read_none t =
      let e : n ≡ n + 0 = omega arith in
      record {
        rows' = rows;
        pairs = [];
        passes = subst (λ (z : List ℕ). Passes (inside [] item rows inclusions) [] (inside [] item rows z)) (sym (append-nil inclusions)) (pass-none (inside [] item rows inclusions));
        grown = subst (Grown rows n rows) e (grown-none rows n t);
        known = tt;
        size = refl;
        means = tt;
      }

  read-axiom :
      (a : Axiom) (axioms : List Axiom) (x : ClassRead a.left (frame subclass 0 []) [] rows inclusions n)
      (y : ClassRead a.right (frame subclass 0 (x.id ∷ [])) [] x.rows' inclusions (n + entries a.left))
      → AxiomsRead axioms y.rows' (inclusions ++ (x.id ∷ y.id ∷ [])) (n + entries a.left + entries a.right) → AxiomsRead (a ∷ axioms) rows inclusions n
  unfolding axiom_written axioms_written axioms_entries joins
  read-axiom a axioms x y z =
      let e : n + entries a.left + entries a.right + axioms_entries axioms ≡ n + (entries a.left + entries a.right + axioms_entries axioms) = omega arith in
      let both = grown-on x.grown y.grown in
      record {
        rows' = z.rows';
        pairs = x.id ∷ y.id ∷ z.pairs;
        passes =
            pass_on _ (inside [] item y.rows' (inclusions ++ (x.id ∷ y.id ∷ []))) _ (axiom_written a) (axioms_written axioms)
            (pass_on _ (inside (frame subclass 0 [] ∷ []) item rows inclusions) _ (word axiom_text ∷ opening ∷ []) (written a.left ++ (written a.right ++ (closing ∷ [])))
            (pass-axiom rows inclusions)
            (pass_on _ (inside (frame subclass 0 (x.id ∷ []) ∷ []) item x.rows' inclusions) _ (written a.left) (written a.right ++ (closing ∷ [])) x.passes
            (pass_on _ (inside (frame subclass 0 (x.id ∷ y.id ∷ []) ∷ []) item y.rows' inclusions) _ (written a.right) (closing ∷ []) y.passes
            (pass-shut-axiom [] y.rows' inclusions x.id y.id))))
            (subst
            (λ (i : List ℕ). Passes (inside [] item y.rows' (inclusions ++ (x.id ∷ y.id ∷ []))) (axioms_written axioms) (inside [] item z.rows' i))
            (append_assoc inclusions (x.id ∷ y.id ∷ []) z.pairs) z.passes);
        grown = subst (Grown rows n z.rows') e (grown-on both z.grown);
        known = (omega (arith, x.known), (omega (arith, y.known), under_more _ _ z.pairs (omega arith) z.known));
        size = omega (arith, z.size);
        means = (
          z.grown.kept x.id (omega (arith, x.known)) ∙ (y.grown.kept x.id x.known ∙ x.means),
          z.grown.kept y.id y.known ∙ y.means,
          z.means,
        );
      }

pub axioms-read :
    (axioms : List Axiom) (rows inclusions : List ℕ) (n : ℕ) → AllWithin axioms → Tabled rows n → n + axioms_entries axioms ≤ 192
    → AxiomsRead axioms rows inclusions n
unfolding axioms_entries has_room room_by
axioms-read [] rows inclusions n w t few = read_none rows inclusions n t
axioms-read (a ∷ axioms) rows inclusions n w t few =
    let x = reads a.left (frame subclass 0 []) [] rows inclusions n 32 refl (omega arith) w.0.left-depth w.0.left-range t (omega arith) in
    let y =
    reads a.right (frame subclass 0 (x.id ∷ [])) [] x.rows' inclusions (n + entries a.left) 32 refl (omega arith) w.0.right-depth w.0.right-range
    x.grown.tabled (omega arith) in
    read-axiom rows inclusions n a axioms x y
    (axioms-read axioms y.rows' (inclusions ++ (x.id ∷ y.id ∷ [])) (n + entries a.left + entries a.right) w.1 y.grown.tabled (omega arith))

-- ---- a text
run_out : (end : ℕ) (ts : List Placed) (rows pairs : List ℕ) → unplaced ts ≡ [] → run end ts (inside [] item rows pairs) ≡ go (inside [] item rows pairs)
unfolding unplaced run ended
run_out end [] rows pairs e = refl
run_out end (t ∷ ts) rows pairs e = absurd (let z : ◌≡◌ {A = ℕ} 0 1 = cc e in omega arith)

-- the tables that axioms give
pub record Catalogued (axioms : List Axiom) (s : State) : Type 0 where
  pub tabled : Tabled s.rows (axioms_entries axioms)
  pub known : Under (axioms_entries axioms) s.inclusions
  pub size : length s.inclusions ≡ length axioms * 2
  pub means : Means s.rows s.inclusions axioms

pub says-judged : (text : List ℕ) (axioms : List Axiom) → Says text axioms → (s : State) × (judge text ≡ go s) × Catalogued axioms s
unfolding judge start
says-judged text axioms says =
    let x = axioms-read axioms [] [] 0 says.within none-tabled (omega (arith, says.few)) in
    let y = x.passes (length text) (tokens text) [] (says.said ∙ sym (append-nil (axioms_written axioms))) in
    let e : 0 + axioms_entries axioms ≡ axioms_entries axioms = omega arith in (
      inside [] item x.rows' x.pairs,
      y.2 ∙ run_out (length text) y.0 x.rows' x.pairs y.1,
      record {
        tabled = subst (Tabled x.rows') e x.grown.tabled;
        known = subst (λ (n : ℕ). Under n x.pairs) e x.known;
        size = x.size;
        means = x.means;
      },
    )

pub judged-catalogued : (text : List ℕ) (s : State) (axioms : List Axiom) → judge text ≡ go s → Says text axioms → Catalogued axioms s
judged-catalogued text s axioms h says =
    let (z, k, c) = says-judged text axioms says in
    let e : go z ≡ go s = sym k ∙ h in
    let q : z ≡ s = cc e in
    subst (Catalogued axioms) q c
