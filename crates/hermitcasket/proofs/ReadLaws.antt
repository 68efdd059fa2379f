-- The whole text, section by section.
use Rattle.std.specs.Prelude.{Result, Ok, Err}
use Prim.Native.Nat.{ℕ, ◌+◌, ◌*◌, ◌<◌, ◌≤◌}
use mathlib.Core.Path.{◌≡◌, refl, sym, ap, ◌∙◌, subst}
use mathlib.Core.List.{List}
use native.Mathlib.Omega.{arith}
use lib.ListN.{length, take, drop, length-drop}
use borrow.Author.Tests.{lt-ltb, le-ltb}
use Rattle.subsumption.specs.declared.refusal.Refusal.{Refusal}
use Rattle.subsumption.specs.declared.refusal.Refusal.TheVariants.{BadText}
use Rattle.numerals.specs.Lines.{variables_key, concepts_key, inclusions_key, questions_key, below_key}
use Rattle.hermitcasket.specs.declared.text.Ask.{Ask}
use Rattle.hermitcasket.specs.declared.text.Asked.{Asked}
use Rattle.hermitcasket.specs.declared.text.Section.{Section}
use Rattle.hermitcasket.specs.declared.text.Problem.{Problem}
use Rattle.subsumption.specs.Tables.{Tables, tables}
use Rattle.hermitcasket.specs.Text.{row_at, pair_at, refused, pick_judged, Onward, section_at, roles_at, judge_end, judge_questions, judge_inclusions, judge_concepts, judge_roles, judge_lines, judge}
use Rattle.hermitcasket.specs.Inner.Text.{counted_then, section_then, end_then, Ends, last_then, LastFits, SectionFits, Counts, Sectioned, Last, judged_by, TablesRead}

-- what a section that was read through shows
module _
    (section : (List ℕ → Onward) → Onward) (limit width at : ℕ) (rest : List ℕ) (s : Result Section Refusal) (out : List ℕ)
    (r : Sectioned section limit width at rest s out) where
  module _ (x : Section) (h : s ≡ Ok x) where
    pub section-fits : (x.count ≤ limit) × (x.length ≤ length rest)
    section-fits = subst (λ (z : Result Section Refusal). SectionFits z limit (length rest)) h r.fits

    pub section-within : x.length ≤ length rest
    section-within = section-fits.1

    pub section-room : at + length rest ≤ 8192 → (more : List ℕ) → more ≡ drop x.length rest → at + x.length + length more ≤ 8192
    section-room l more e = omega (arith, section-fits, ap length e, length-drop x.length rest)

    goes :
        (more : List ℕ) → more ≡ drop x.length rest → (go : List ℕ → Onward)
        → section go at rest ≡ go (take (x.count * width) out) (at + x.length) more
    unfolding section_then
    goes more e go = r.judged go ∙ rw (h, e) refl

  stops : (f : Refusal) (go : List ℕ → Onward) → s ≡ Err f → section go at rest ≡ refused f
  unfolding section_then
  stops f go h = r.judged go ∙ rw h refl

-- ---- the questions and the end
module _
    (at : ℕ) (rest : List ℕ) (section : Result Section Refusal) (out : List ℕ)
    (s : Sectioned (section_at questions_key 32 2 (pair_at below_key)) 32 2 at rest section out) where
  pub last-refused : (r : Refusal) → section ≡ Err r → Last at rest (Err r) out
  unfolding last_then
  last-refused r h = record { judged = λ t. stops _ _ _ _ _ _ _ s r _ h; fits = tt }

  module _
      (x : Section) (h : section ≡ Ok x) (last : List ℕ) (e : last ≡ drop x.length rest) (end : Result Ask Refusal)
      (ends : Ends (at + x.length) last end) where
    at-end :
        (t : List ℕ → Tables)
        → section_at questions_key 32 2 (pair_at below_key) (λ questions. judge_end (t questions)) at rest ≡ end_then end
        (t (take (x.count * 2) out))
    at-end t = goes _ _ _ _ _ _ _ s x h last e _ ∙ ends _

    pub last-damaged : (r : Refusal) → end ≡ Err r → Last at rest (Err r) out
    unfolding end_then last_then
    last-damaged r f = record { judged = λ t. at-end t ∙ rw f refl; fits = tt }

    pub last-asked : (ask : Ask) → end ≡ Ok ask → Last at rest (Ok (record { questions = x.count; ask = ask })) out
    unfolding end_then last_then
    last-asked ask f = record { judged = λ t. at-end t ∙ rw f refl; fits = (section-fits _ _ _ _ _ _ _ s x h).0 }

-- ---- the tables
module _
    (at v p : ℕ) (rest : List ℕ) (rows : Result Section Refusal) (C : List ℕ)
    (s1 : Sectioned (section_at concepts_key 192 0 row_at) 192 3 at rest rows C) where
  pub fault-3 : (f : Refusal) (I Q : List ℕ) → rows ≡ Err f → TablesRead v p at rest (Err f) C I Q
  unfolding judge_concepts judged_by
  fault-3 f I Q h = record { judged = λ R. stops _ _ _ _ _ _ _ s1 f _ h; fits = tt }

  module _
      (c : Section) (h1 : rows ≡ Ok c) (second : List ℕ) (e1 : second ≡ drop c.length rest) (given : Result Section Refusal) (I : List ℕ)
      (s2 : Sectioned (section_at inclusions_key 96 1 (pair_at below_key)) 96 2 (at + c.length) second given I) where
    after-1 : (roles : List ℕ) → judge_concepts v roles at rest ≡ judge_inclusions v roles (take (c.count * 3) C) (at + c.length) second
    unfolding judge_concepts
    after-1 roles = goes _ _ _ _ _ _ _ s1 c h1 second e1 _

    pub fault-4 : (f : Refusal) (Q : List ℕ) → given ≡ Err f → TablesRead v p at rest (Err f) C I Q
    unfolding judge_inclusions judged_by
    fault-4 f Q h = record { judged = λ R. after-1 _ ∙ stops _ _ _ _ _ _ _ s2 f _ h; fits = tt }

    module _
        (i : Section) (h2 : given ≡ Ok i) (third : List ℕ) (e2 : third ≡ drop i.length second) (asked : Result Asked Refusal) (Q : List ℕ)
        (s3 : Last (at + c.length + i.length) third asked Q) where
      after-2 :
          (roles : List ℕ)
          → judge_concepts v roles at rest
          ≡ last_then asked Q (λ questions. tables (take (c.count * 3) C) (take (i.count * 2) I) questions roles v)
      unfolding judge_inclusions judge_questions
      after-2 roles = after-1 roles ∙ goes _ _ _ _ _ _ _ s2 i h2 third e2 _ ∙ s3.judged _

      pub fault-5 : (x : Refusal) → asked ≡ Err x → TablesRead v p at rest (Err x) C I Q
      unfolding last_then judged_by
      fault-5 x h = record { judged = λ R. after-2 _ ∙ rw h refl; fits = tt }

      pub read_all :
          v ≤ 8 → p ≤ 32 → (q : Asked) → asked ≡ Ok q
          → TablesRead v p at rest
          (Ok
          (record { variables = v; concepts = c.count; inclusions = i.count; questions = q.questions; roles = p; ask = q.ask }))
          C I Q
      unfolding last_then judged_by
      read_all few-v few-p q h =
          record {
            judged = λ R. after-2 _ ∙ rw h refl;
            fits = (
              few-v,
              (section-fits _ _ _ _ _ _ _ s1 c h1).0,
              (section-fits _ _ _ _ _ _ _ s2 i h2).0,
              subst LastFits h s3.fits,
              few-p,
            );
          }

-- ---- the whole text
module _ (text : List ℕ) where
  pub read-long : (C I Q R : List ℕ) → 8192 < length text → judge text ≡ judged_by (Err (BadText 8192)) C I Q R
  unfolding judge pick_judged judged_by
  read-long C I Q R h = rw (lt-ltb 8192 (length text) h)

  module _ (short : length text ≤ 8192) (counted : Result Section Refusal) (counts : Counts variables_key 8 3 0 text counted) where
    lines : judge text ≡ counted_then counted judge_roles 0 text
    unfolding judge pick_judged judge_lines
    lines = rw (le-ltb 8192 (length text) short) (counts.judged _)

    pub fault-1 : (f : Refusal) (C I Q R : List ℕ) → counted ≡ Err f → judge text ≡ judged_by (Err f) C I Q R
    unfolding counted_then judged_by
    fault-1 f C I Q R h = lines ∙ rw h refl

    module _ (v : Section) (h : counted ≡ Ok v) where
      pub counts-fit : (v.count ≤ 8) × (v.length ≤ length text)
      counts-fit = subst (λ (z : Result Section Refusal). SectionFits z 8 (length text)) h counts.fits

      module _ (rest : List ℕ) (e : rest ≡ drop v.length text) where
        pub roles-room : v.length + length rest ≤ 8192
        roles-room = omega (arith, counts-fit, ap length e, length-drop v.length text)

        after-0 : judge text ≡ judge_roles v.count v.length rest
        unfolding counted_then
        after-0 = let z : 0 + v.length ≡ v.length = omega arith in lines ∙ rw (h, z, sym e) refl

        module _ (above : Result Section Refusal) (R : List ℕ) (s : Sectioned roles_at 32 2 v.length rest above R) where
          pub fault-2 : (f : Refusal) (C I Q : List ℕ) → above ≡ Err f → judge text ≡ judged_by (Err f) C I Q R
          unfolding judge_roles judged_by
          fault-2 f C I Q k = after-0 ∙ stops _ _ _ _ _ _ _ s f _ k

          module _ (p : Section) (k : above ≡ Ok p) where
            pub roles-fit : (p.count ≤ 32) × (p.length ≤ length rest)
            roles-fit = section-fits _ _ _ _ _ _ _ s p k

            module _ (more : List ℕ) (g : more ≡ drop p.length rest) where
              pub tables-room : v.length + p.length + length more ≤ 8192
              tables-room = section-room _ _ _ _ _ _ _ s p k roles-room more g

              pub read-on : (r : Result Problem Refusal) (C I Q : List ℕ) → TablesRead v.count p.count (v.length + p.length) more r C I Q
                  → judge text ≡ judged_by r C I Q R
              unfolding judge_roles
              read-on r C I Q q = after-0 ∙ goes _ _ _ _ _ _ _ s p k more g _ ∙ q.judged R
