-- An accepted text is a layout of the tables that it says, and they can be said.
use Rattle.std.specs.Prelude.{Option, Some, None}
use Prim.Native.Nat.{ℕ, zero, suc, ◌+◌, ◌*◌, ◌≤◌}
use mathlib.Core.Path.{◌≡◌, refl, sym, ap, ◌∙◌, subst}
use mathlib.Core.List.{List, [], ◌∷◌, ◌++◌, append_assoc, append-nil}
use mathlib.Core.Bool.{Bool, true, false}
use mathlib.Core.Logic.{inl, inr}
use native.Mathlib.Omega.{arith}
use native.Mathlib.Nat.{zero-mul, suc-mul}
use lib.Dec.{ltb}
use lib.ListN.{length, take, drop, length-append, drop_of_length-le}
use lib.Seq.{take_at, drop_at, drop-drop}
use borrow.Author.Tests.{ltb-false}
use Rattle.subsumption.specs.declared.refusal.Refusal.{Refusal}
use Rattle.subsumption.specs.declared.refusal.Refusal.TheVariants.{Limit, BadText}
use Rattle.subsumption.specs.Tables.{Tables, tables, count_of, pairs_of}
use Rattle.numerals.specs.Bytes.{starts}
use Rattle.numerals.specs.Printing.{number_text, pair_text}
use Rattle.numerals.specs.Lines.{variables_key, roles_key, wider_key, concepts_key, inclusions_key, questions_key, below_key, show_key, lines_text, row_of_numbers, pair_of_numbers}
use Rattle.hermitcasket.specs.declared.lines.Number.{Number}
use Rattle.hermitcasket.specs.declared.lines.PairLine.{PairLine}
use Rattle.hermitcasket.specs.declared.lines.RowLine.{RowLine}
use Rattle.hermitcasket.specs.declared.text.Ask.{Ask}
use Rattle.hermitcasket.specs.declared.text.Ask.TheVariants.{Fill, Show}
use Rattle.hermitcasket.specs.Lines.{number_line, pair_line, row_line}
use Rattle.hermitcasket.specs.Text.{roles_text, ask_text, layout, Says, RowsFit, ConceptFits, PairFits, AskFits, Sayable, Line, numbers, off, row_numbers, pair_numbers, row_at, pair_at, Part, part, faulty, prepend, line_then, read_lines, accepted, refused, pick_judged, Onward, count_then, count_at, part_then, section_at, roles_at, show_then, judge_end, judge_questions, judge_inclusions, judge_concepts, judge_roles, judge_lines, judge}
use Rattle.hermitcasket.proofs.LineLaws.{Holds, holds-join}
use Rattle.hermitcasket.proofs.RightLines.{number_line-holds, pair_line-holds, pair_line-small, row_line-holds, row_line-fits}

not-accepted : {A : Type 0} (r : Refusal) (t : Tables) (ask : Ask) → refused r ≡ accepted t ask → A
not-accepted r t ask e = absurd (let z : ◌≡◌ {A = ℕ} 0 1 = cc e in omega arith)

holds-none : (rest : List ℕ) → Holds rest [] 0
holds-none rest = record { front = refl; size = refl }

-- ---- several lines
module _
    (line : List ℕ → Line) (text : List ℕ → List ℕ) (Fits : List ℕ → Type 0) (width : ℕ)
    (shows : (rest xs : List ℕ) (n : ℕ) → line rest ≡ numbers xs n → Holds rest (text xs) n × Fits xs × (length xs ≡ width)) where
  pub record Read (count at : ℕ) (rest xs : List ℕ) (p : ℕ) (behind : List ℕ) : Type 0 where
    pub used : ℕ
    pub place : p ≡ at + used
    pub remains : behind ≡ drop used rest
    pub holds : Holds rest (lines_text text width count xs) used
    pub fits : RowsFit Fits width count xs
    pub size : length xs ≡ count * width

  unpart :
      (front : List ℕ) (q : Part) (xs : List ℕ) (p : ℕ) (behind : List ℕ) → prepend front q ≡ part xs p behind
      → (more : List ℕ) × (q ≡ part more p behind) × (xs ≡ front ++ more)
  unfolding prepend
  unpart front (part more at rest) xs p behind e = (more, cc, cc)
  unpart front (faulty at) xs p behind e = absurd (let z : ◌≡◌ {A = ℕ} 0 1 = cc in omega arith)

  pub lines-read : (count at : ℕ) (rest xs : List ℕ) (p : ℕ) (behind : List ℕ) → read_lines line count at rest ≡ part xs p behind → Read count at rest xs p behind
  unfolding read_lines lines_text line_then
  lines-read zero at rest xs p behind e =
      let ex : [] ≡ xs = cc in
      let ep : at ≡ p = cc in
      let er : rest ≡ behind = cc in
      record { used = 0; place = omega arith; remains = sym er; holds = holds-none rest; fits = sym ex; size = sym (ap length ex) ∙ sym (zero-mul width) }
  lines-read (suc count) at rest xs p behind e = go (line rest) refl (λ n more. lines-read count (at + n) (drop n rest) more p behind)
    where
      go :
          (l : Line) → line rest ≡ l
          → ((n : ℕ) (more : List ℕ) → read_lines line count (at + n) (drop n rest) ≡ part more p behind → Read count (at + n) (drop n rest) more p behind)
          → Read (suc count) at rest xs p behind
      go off f ih = absurd (let g : faulty at ≡ part xs p behind = rw f at e in let z : ◌≡◌ {A = ℕ} 0 1 = cc in omega arith)
      go (numbers front n) f ih =
          let u = unpart front (read_lines line count (at + n) (drop n rest)) xs p behind (rw f at e) in
          let r = ih n u.0 u.1 in
          let s = shows rest front n f in
          let tk : take width xs ≡ front = ap (λ (z : List ℕ). take width z) u.2 ∙ take_at front u.0 width s.2 in
          let dp : drop width xs ≡ u.0 = ap (λ (z : List ℕ). drop width z) u.2 ∙ drop_at front u.0 width s.2 in
          record {
            used = n + r.used;
            place = omega (arith, r.place);
            remains = r.remains ∙ drop-drop r.used n rest;
            holds =
                subst (λ (z : List ℕ). Holds rest (text z ++ lines_text text width count (drop width xs)) (n + r.used)) (sym tk)
                (subst (λ (z : List ℕ). Holds rest (text front ++ lines_text text width count z) (n + r.used)) (sym dp)
                (holds-join rest (text front) (lines_text text width count u.0) n r.used s.0 r.holds));
            fits = (
              ap length tk ∙ s.2,
              subst Fits (sym tk) s.1,
              subst (λ (z : List ℕ). RowsFit Fits width count z) (sym dp) r.fits,
            );
            size = ap length u.2 ∙ length-append front u.0 ∙ more-size count (length front) (length u.0) s.2 r.size;
          }
        where
          more-size : (count a b : ℕ) → a ≡ width → b ≡ count * width → a + b ≡ suc count * width
          more-size count a b h k = omega (arith, suc-mul count width)

rows-show : (rest xs : List ℕ) (n : ℕ) → row_at rest ≡ numbers xs n → Holds rest (row_of_numbers xs) n × ConceptFits xs × (length xs ≡ 3)
unfolding row_numbers
rows-show rest xs n e = go (row_line rest) refl
  where
    go : (l : Option RowLine) → row_line rest ≡ l → Holds rest (row_of_numbers xs) n × ConceptFits xs × (length xs ≡ 3)
    go None f = absurd (let g : off ≡ numbers xs n = rw f at e in let z : ◌≡◌ {A = ℕ} 0 1 = cc in omega arith)
    go (Some l) f =
        let g : numbers (l.kind ∷ l.a ∷ l.b ∷ []) l.length ≡ numbers xs n = rw f at e in
        let ex : l.kind ∷ l.a ∷ l.b ∷ [] ≡ xs = cc in
        let en : l.length ≡ n = cc in
        subst (λ (z : List ℕ). Holds rest (row_of_numbers z) n × ConceptFits z × (length z ≡ 3)) ex (
          subst (λ (z : ℕ). Holds rest (row_of_numbers (l.kind ∷ l.a ∷ l.b ∷ [])) z) en (row_line-holds rest l.kind l.a l.b l.length f),
          row_line-fits rest l.kind l.a l.b l.length f,
          refl,
        )

pairs-show : (key rest xs : List ℕ) (n : ℕ) → pair_at key rest ≡ numbers xs n → Holds rest (pair_of_numbers key xs) n × PairFits xs × (length xs ≡ 2)
unfolding pair_numbers
pairs-show key rest xs n e = go (pair_line key rest) refl
  where
    go : (l : Option PairLine) → pair_line key rest ≡ l → Holds rest (pair_of_numbers key xs) n × PairFits xs × (length xs ≡ 2)
    go None f = absurd (let g : off ≡ numbers xs n = rw f at e in let z : ◌≡◌ {A = ℕ} 0 1 = cc in omega arith)
    go (Some l) f =
        let g : numbers (l.a ∷ l.b ∷ []) l.length ≡ numbers xs n = rw f at e in
        let ex : l.a ∷ l.b ∷ [] ≡ xs = cc in
        let en : l.length ≡ n = cc in
        subst (λ (z : List ℕ). Holds rest (pair_of_numbers key z) n × PairFits z × (length z ≡ 2)) ex (
          subst (λ (z : ℕ). Holds rest (pair_of_numbers key (l.a ∷ l.b ∷ [])) z) en (pair_line-holds key rest l.a l.b l.length f),
          pair_line-small key rest l.a l.b l.length f,
          refl,
        )

-- ---- counts and sections
module _ (key : List ℕ) (limit table at : ℕ) (rest : List ℕ) (t : Tables) (ask : Ask) where
  pub record Counted (go : ℕ → Onward) : Type 0 where
    pub count : ℕ
    pub used : ℕ
    pub holds : Holds rest (number_text key count) used
    pub few : count ≤ limit
    pub goes : go count (at + used) (drop used rest) ≡ accepted t ask

  pub count-read : (go : ℕ → Onward) → count_at key limit table go at rest ≡ accepted t ask → Counted go
  unfolding count_then pick_judged
  count-read go e = pick (number_line key rest) refl
    where
      pick : (l : Option Number) → number_line key rest ≡ l → Counted go
      pick None f = not-accepted (BadText at) t ask (rw f at e)
      pick (Some l) f = test (ltb limit l.value) refl
        where
          test : (b : Bool) → ltb limit l.value ≡ b → Counted go
          test true h = not-accepted (Limit table) t ask (rw (f, h) at e)
          test false h =
              record {
                count = l.value;
                used = l.length;
                holds = number_line-holds key rest l.value l.length f;
                few = ltb-false limit l.value h;
                goes = rw (f, h) at e;
              }

part-read :
    (q : Part) (go : List ℕ → Onward) (t : Tables) (ask : Ask) → part_then q go ≡ accepted t ask
    → (xs : List ℕ) × (p : ℕ) × (behind : List ℕ) × (q ≡ part xs p behind) × (go xs p behind ≡ accepted t ask)
unfolding part_then
part-read (part xs p behind) go t ask e = (xs, p, behind, refl, e)
part-read (faulty p) go t ask e = not-accepted (BadText p) t ask e

module _
    (line : List ℕ → Line) (write : List ℕ → List ℕ) (Fits : List ℕ → Type 0) (width : ℕ)
    (shows : (rest xs : List ℕ) (n : ℕ) → line rest ≡ numbers xs n → Holds rest (write xs) n × Fits xs × (length xs ≡ width))
    (key : List ℕ) (limit table at : ℕ) (rest : List ℕ) (t : Tables) (ask : Ask) where
  pub record Section (go : List ℕ → Onward) : Type 0 where
    pub count : ℕ
    pub xs : List ℕ
    pub used : ℕ
    pub holds : Holds rest (number_text key count ++ lines_text write width count xs) used
    pub few : count ≤ limit
    pub fits : RowsFit Fits width count xs
    pub size : length xs ≡ count * width
    pub goes : go xs (at + used) (drop used rest) ≡ accepted t ask

  pub section-read : (go : List ℕ → Onward) → section_at key limit table line go at rest ≡ accepted t ask → Section go
  unfolding section_at
  section-read go e =
      let c = count-read key limit table at rest t ask _ e in
      let q = part-read (read_lines line c.count (at + c.used) (drop c.used rest)) go t ask c.goes in
      let r = lines-read line write Fits width shows c.count (at + c.used) (drop c.used rest) q.0 q.1 q.2 q.3 in
      record {
        count = c.count;
        xs = q.0;
        used = c.used + r.used;
        holds = holds-join rest (number_text key c.count) (lines_text write width c.count q.0) c.used r.used c.holds r.holds;
        few = c.few;
        fits = r.fits;
        size = r.size;
        goes =
            subst (λ (z : ℕ). go q.0 z (drop (c.used + r.used) rest) ≡ accepted t ask) (places at c.used r.used q.1 r.place)
            (subst (λ (z : List ℕ). go q.0 q.1 z ≡ accepted t ask) (r.remains ∙ drop-drop r.used c.used rest) q.4);
      }
    where
      places : (a b c p : ℕ) → p ≡ a + b + c → p ≡ a + (b + c)
      places a b c p e = omega arith

-- ---- the roles
module _ (at : ℕ) (rest : List ℕ) (t : Tables) (ask : Ask) where
  pub record Roles (go : List ℕ → Onward) : Type 0 where
    pub present : Bool
    pub count : ℕ
    pub xs : List ℕ
    pub used : ℕ
    pub absent : present ≡ false → xs ≡ []
    pub holds : Holds rest (roles_text present xs) used
    pub few : count ≤ 32
    pub fits : RowsFit PairFits 2 count xs
    pub size : length xs ≡ count * 2
    pub goes : go xs (at + used) (drop used rest) ≡ accepted t ask

  pub roles-read : (go : List ℕ → Onward) → roles_at go at rest ≡ accepted t ask → Roles go
  unfolding roles_at pick_judged roles_text
  roles-read go e = pick (starts roles_key rest) refl
    where
      pick : (b : Bool) → starts roles_key rest ≡ b → Roles go
      pick true h =
          let s = section-read (pair_at wider_key) (pair_of_numbers wider_key) PairFits 2 (pairs-show wider_key) roles_key 32 4 at rest t ask go (rw h at e) in
          let q : s.count ≡ pairs_of s.xs = omega (arith, s.size) in
          record {
            present = true;
            absent = λ f. absurd (let z : ◌≡◌ {A = ℕ} 0 1 = cc in omega arith);
            count = s.count;
            xs = s.xs;
            used = s.used;
            holds = subst (λ (z : ℕ). Holds rest (number_text roles_key z ++ lines_text (pair_of_numbers wider_key) 2 z s.xs) s.used) q s.holds;
            few = s.few;
            fits = s.fits;
            size = s.size;
            goes = s.goes;
          }
      pick false h =
          let z : at ≡ at + 0 = omega arith in
          record {
            present = false;
            absent = λ f. refl;
            count = 0;
            xs = [];
            used = 0;
            holds = holds-none rest;
            few = omega arith;
            fits = refl;
            size = omega arith;
            goes = subst (λ (y : ℕ). go [] y rest ≡ accepted t ask) z (rw h at e);
          }

-- ---- the whole text
regroup :
    (a r b c d e f g h : List ℕ) → a ++ (r ++ ((b ++ c) ++ ((d ++ e) ++ ((f ++ g) ++ h)))) ≡ a ++ (r ++ (b ++ (c ++ (d ++ (e ++ (f ++ (g ++ h)))))))
regroup a r b c d e f g h = simp append_assoc

-- what stands behind a part that is held
on : (rest front more : List ℕ) (u : ℕ) → Holds rest front u → drop u rest ≡ more → rest ≡ front ++ more
on rest front more u h e = h.front ∙ ap (λ (z : List ℕ). front ++ z) e

-- five parts, each behind the one before, and the end behind the last
all_held :
    (text a r b c d e f g h : List ℕ) (u0 u1 u2 u3 u4 : ℕ) → Holds text a u0 → Holds (drop u0 text) r u1 → Holds (drop u1 (drop u0 text)) (b ++ c) u2
    → Holds (drop u2 (drop u1 (drop u0 text))) (d ++ e) u3 → Holds (drop u3 (drop u2 (drop u1 (drop u0 text)))) (f ++ g) u4
    → drop u4 (drop u3 (drop u2 (drop u1 (drop u0 text)))) ≡ h → text ≡ a ++ (r ++ (b ++ (c ++ (d ++ (e ++ (f ++ (g ++ h)))))))
all_held text a r b c d e f g h u0 u1 u2 u3 u4 h0 h1 h2 h3 h4 q =
    on _ _ _ _ h0 (on _ _ _ _ h1 (on _ _ _ _ h2 (on _ _ _ _ h3 (on _ _ _ _ h4 q))))
    ∙ regroup a r b c d e f g h

module _
    (v : ℕ) (C I Q R : List ℕ) (c i q r : ℕ) (sizeC : length C ≡ c * 3) (sizeI : length I ≡ i * 2) (sizeQ : length Q ≡ q * 2) (sizeR : length R ≡ r * 2) (ask : Ask) where
  counts : (count_of C ≡ c) × (pairs_of I ≡ i) × (pairs_of Q ≡ q) × (pairs_of R ≡ r)
  counts = (omega arith, omega arith, omega arith, omega arith)

  laid_out :
      (present : Bool)
      → layout present (tables C I Q R v) ask
      ≡ number_text variables_key v
      ++ (roles_text present R
      ++ (number_text concepts_key c ++ (lines_text row_of_numbers 3 c C
      ++ (number_text inclusions_key i ++ (lines_text (pair_of_numbers below_key) 2 i I
      ++ (number_text questions_key q ++ (lines_text (pair_of_numbers below_key) 2 q Q ++ ask_text ask)))))))
  unfolding layout
  laid_out present = rw (counts.0, counts.1, counts.2) refl

  sayable :
      v ≤ 8 → c ≤ 192 → i ≤ 96 → q ≤ 32 → r ≤ 32 → RowsFit ConceptFits 3 c C → RowsFit PairFits 2 i I → RowsFit PairFits 2 q Q → RowsFit PairFits 2 r R
      → AskFits ask → Sayable (tables C I Q R v) ask
  sayable hv hc hi hq hr fc fi fq fr fa =
      record {
        few-variables = hv;
        few-concepts = omega (arith, counts.0);
        few-inclusions = omega (arith, counts.1);
        few-questions = omega (arith, counts.2);
        few-roles = omega (arith, counts.3);
        concepts-fit = subst (λ (z : ℕ). RowsFit ConceptFits 3 z C) (sym counts.0) fc;
        inclusions-fit = subst (λ (z : ℕ). RowsFit PairFits 2 z I) (sym counts.1) fi;
        questions-fit = subst (λ (z : ℕ). RowsFit PairFits 2 z Q) (sym counts.2) fq;
        roles-fit = subst (λ (z : ℕ). RowsFit PairFits 2 z R) (sym counts.3) fr;
        ask-fits = fa;
      }

  says : (text : List ℕ) (present : Bool) → (present ≡ false → R ≡ []) → text ≡ layout present (tables C I Q R v) ask → Says text (tables C I Q R v) ask
  says text true absent e = inl e
  says text false absent e = inr (e, absent refl)

  whole :
      (text : List ℕ) (present : Bool) (u0 u1 u2 u3 u4 : ℕ) → Holds text (number_text variables_key v) u0 → Holds (drop u0 text) (roles_text present R) u1
      → Holds (drop u1 (drop u0 text)) (number_text concepts_key c ++ lines_text row_of_numbers 3 c C) u2
      → Holds (drop u2 (drop u1 (drop u0 text))) (number_text inclusions_key i ++ lines_text (pair_of_numbers below_key) 2 i I) u3
      → Holds (drop u3 (drop u2 (drop u1 (drop u0 text)))) (number_text questions_key q ++ lines_text (pair_of_numbers below_key) 2 q Q) u4
      → drop u4 (drop u3 (drop u2 (drop u1 (drop u0 text)))) ≡ ask_text ask → text ≡ layout present (tables C I Q R v) ask
  whole text present u0 u1 u2 u3 u4 h0 h1 h2 h3 h4 e =
      all_held text (number_text variables_key v) (roles_text present R) (number_text concepts_key c) (lines_text row_of_numbers 3 c C) (number_text inclusions_key i)
      (lines_text (pair_of_numbers below_key) 2 i I) (number_text questions_key q) (lines_text (pair_of_numbers below_key) 2 q Q) (ask_text ask) u0 u1 u2 u3 u4 h0 h1 h2 h3 h4 e
      ∙ sym (laid_out present)

-- ---- the end
module _ (s t : Tables) (ask : Ask) (at : ℕ) where
  pub record Ended (rest : List ℕ) : Type 0 where
    pub line : rest ≡ ask_text ask
    pub fits : AskFits ask
    pub same : s ≡ t

  pub end_read : (rest : List ℕ) → judge_end s at rest ≡ accepted t ask → Ended rest
  unfolding judge_end ask_text show_then pick_judged
  end_read [] e = let f : Fill ≡ ask = cc in record { line = ap ask_text f; fits = subst AskFits f tt; same = cc }
  end_read (byte ∷ rest) e = go (pair_line show_key (byte ∷ rest)) refl
    where
      go : (l : Option PairLine) → pair_line show_key (byte ∷ rest) ≡ l → Ended (byte ∷ rest)
      go None f = not-accepted (BadText at) t ask (rw f at e)
      go (Some l) f = test (ltb l.length (length (byte ∷ rest))) refl
        where
          test : (b : Bool) → ltb l.length (length (byte ∷ rest)) ≡ b → Ended (byte ∷ rest)
          test true h = not-accepted (BadText (at + l.length)) t ask (rw (f, h) at e)
          test false h =
              let g : accepted s (Show l.a l.b) ≡ accepted t ask = rw (f, h) at e in
              let a : Show l.a l.b ≡ ask = cc in
              let w = pair_line-holds show_key (byte ∷ rest) l.a l.b l.length f in
              record {
                line = on (byte ∷ rest) _ [] l.length w (drop_of_length-le (byte ∷ rest) (ltb-false l.length _ h))
                    ∙ append-nil (pair_text show_key l.a l.b) ∙ ap ask_text a;
                fits = subst AskFits a (pair_line-small show_key (byte ∷ rest) l.a l.b l.length f);
                same = cc;
              }

lines-accepted : (text : List ℕ) (t : Tables) (ask : Ask) → judge_lines 0 text ≡ accepted t ask → Says text t ask × Sayable t ask
unfolding judge_lines judge_roles judge_concepts judge_inclusions judge_questions
lines-accepted text t ask e =
    let a = count-read variables_key 8 3 0 text t ask _ e in
    let t1 = drop a.used text in
    let s1 = roles-read (0 + a.used) t1 t ask _ a.goes in
    let t2 = drop s1.used t1 in
    let s2 = section-read row_at row_of_numbers ConceptFits 3 rows-show concepts_key 192 0 (0 + a.used + s1.used) t2 t ask _ s1.goes in
    let t3 = drop s2.used t2 in
    let s3 = section-read (pair_at below_key) (pair_of_numbers below_key) PairFits 2 (pairs-show below_key) inclusions_key 96 1 (0 + a.used + s1.used + s2.used) t3 t ask _ s2.goes in
    let t4 = drop s3.used t3 in
    let s4 = section-read (pair_at below_key) (pair_of_numbers below_key) PairFits 2 (pairs-show below_key) questions_key 32 2 (0 + a.used + s1.used + s2.used + s3.used) t4 t ask _ s3.goes in
    let z = end_read (tables s2.xs s3.xs s4.xs s1.xs a.count) t ask (0 + a.used + s1.used + s2.used + s3.used + s4.used) (drop s4.used t4) s4.goes in
    subst (λ (y : Tables). Says text y ask × Sayable y ask) z.same (
      says a.count s2.xs s3.xs s4.xs s1.xs s2.count s3.count s4.count s1.count s2.size s3.size s4.size s1.size ask text s1.present s1.absent
          (whole a.count s2.xs s3.xs s4.xs s1.xs s2.count s3.count s4.count s1.count s2.size s3.size s4.size s1.size ask text s1.present
          a.used s1.used s2.used s3.used s4.used a.holds s1.holds s2.holds s3.holds s4.holds z.line),
      sayable a.count s2.xs s3.xs s4.xs s1.xs s2.count s3.count s4.count s1.count s2.size s3.size s4.size s1.size ask
          a.few s2.few s3.few s4.few s1.few s2.fits s3.fits s4.fits s1.fits z.fits,
    )

pub accepted-layout : (text : List ℕ) (t : Tables) (ask : Ask) → judge text ≡ accepted t ask → Says text t ask × Sayable t ask
unfolding judge pick_judged
accepted-layout text t ask e = go (ltb 8192 (length text)) refl
  where
    go : (b : Bool) → ltb 8192 (length text) ≡ b → Says text t ask × Sayable t ask
    go true h = not-accepted (BadText 8192) t ask (rw h at e)
    go false h = lines-accepted text t ask (rw h at e)
