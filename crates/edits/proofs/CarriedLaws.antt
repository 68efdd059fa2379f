-- Tables over the same concepts, roles and variables: what is subsumed with fewer inclusions still is with more.
use Rattle.subsumption.specs.Refusal.{Done}
use Prim.Native.Nat.{ℕ, ◌<◌}
use mathlib.Core.Path.{◌≡◌, refl, sym, subst}
use mathlib.Core.List.{List}
use Rattle.subsumption.specs.Tables.{Tables, Node, top_at, name_at, exists_at, and_at, var_at, node, left_of, right_of, tree}
use Rattle.subsumption.specs.Subsumption.{Interpretation, Reading, Member, Included, no_variables, assigned, Obeys, Subsumed}
use Rattle.subsumption.specs.Check.{table_fault}
use Rattle.subsumption.proofs.Depth.{by-smaller}
use Rattle.subsumption.proofs.Trees.{tree-top, tree-name, tree-exists, tree-and, tree-var, inner-exists, inner-and}
use Rattle.subsumption.proofs.WellFormed.{WellFormed}
use Rattle.subsumption.proofs.Accepted.{well_formed}
use Rattle.incremental.specs.Fresh.{with_others, PairsAmong, SameChoices}
use Rattle.edits.specs.Edits.{MoreInclusions, MoreQuestions}

-- An edit's tables are the same tables with other inclusions, or with other questions.
pub by-inclusions :
    (P : Tables → Tables → Type 0)
    → ((t : Tables) (inclusions₀ : List ℕ) → MoreInclusions (with_others t inclusions₀ t.questions) t → P (with_others t inclusions₀ t.questions) t)
    → (older newer : Tables) → MoreInclusions older newer → P older newer
by-inclusions P h older newer M =
    let e : older ≡ with_others newer older.inclusions newer.questions = rw (M.concepts, M.questions, M.roles, M.variables) refl in
    subst (λ (z : Tables). P z newer) (sym e) (h newer older.inclusions (subst (λ (z : Tables). MoreInclusions z newer) e M))

pub by-questions :
    (P : Tables → Tables → Type 0)
    → ((t : Tables) (questions : List ℕ) → MoreQuestions t (with_others t t.inclusions questions) → P t (with_others t t.inclusions questions))
    → (older newer : Tables) → MoreQuestions older newer → P older newer
by-questions P h older newer M =
    let e : newer ≡ with_others older older.inclusions newer.questions = rw (← M.concepts, ← M.inclusions, ← M.roles, ← M.variables) refl in
    subst (P older) (sym e) (h older newer.questions (subst (MoreQuestions older) e M))

-- Membership is monotone in how the tables' own variables are read.
module _ (t : Tables) (wf : WellFormed t) (I : Interpretation) (ρ ρ' : Reading) (reads : (k x : ℕ) → k < t.variables → ρ k x → ρ' k x) where
  abbrev Reads : ℕ → Type 0
  Reads i = (x : ℕ) → Member I ρ (tree t.concepts i) x → Member I ρ' (tree t.concepts i) x

  member-reads : (i : ℕ) → Reads i
  member-reads = by-smaller Reads (λ i smaller. go i smaller (node t.concepts i) refl)
    where
      go : (i : ℕ) → ((j : ℕ) → j < i → Reads j) → (m : Node) → node t.concepts i ≡ m → Reads i
      go i smaller top_at e = rw (tree-top t.concepts wf.rising i e) (λ x h. h)
      go i smaller (name_at n) e = rw (tree-name t.concepts wf.rising i n e) (λ x h. h)
      go i smaller (exists_at r j) e =
          rw (tree-exists t.concepts wf.rising i r j e)
          (λ x (y, l, k, h). (y, l, k, smaller j (inner-exists t.concepts wf.rising i r j e) y h))
      go i smaller (and_at j k) e =
          let (p, q) = inner-and t.concepts wf.rising i j k e in
          rw (tree-and t.concepts wf.rising i j k e) (λ x (g, h). (smaller j p x g, smaller k q x h))
      go i smaller (var_at k) e = rw (tree-var t.concepts wf.rising i k e) (λ x h. reads k x (wf.numbered i k e) h)

module _ (t : Tables) (inclusions₀ questions₀ : List ℕ) (among : PairsAmong inclusions₀ t.inclusions) where
  pub obeys-fewer : (I : Interpretation) → Obeys t I → Obeys (with_others t inclusions₀ questions₀) I
  obeys-fewer I O =
      record {
        inclusions = λ m l.
            let (n, k, e, f) = among m l in
            subst (λ (z : ℕ). Included I no_variables (tree t.concepts z) (tree t.concepts (right_of inclusions₀ m))) e
            (subst (λ (z : ℕ). Included I no_variables (tree t.concepts (left_of t.inclusions n)) (tree t.concepts z)) f (O.inclusions n k));
        roles = O.roles;
      }

  pub subsumed-still :
      table_fault t ≡ Done → (a b : List ℕ) → SameChoices (with_others t inclusions₀ questions₀) a t b
      → (i j : ℕ) → Subsumed (with_others t inclusions₀ questions₀) a i j → Subsumed t b i j
  subsumed-still ok a b same i j s I O x l h =
      let wf = well_formed t ok in
      let t₀ = with_others t inclusions₀ questions₀ in
      member-reads t wf I (assigned t₀ a I) (assigned t b I) (λ k y v u p m. u p ((same k p v).1 m)) j x
      (s I (obeys-fewer I O) x l
      (member-reads t wf I (assigned t b I) (assigned t₀ a I) (λ k y v u p m. u p ((same k p v).0 m)) i x h))
