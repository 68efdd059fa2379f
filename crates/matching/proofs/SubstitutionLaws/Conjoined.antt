-- An assignment is a substitution: each variable stands for the conjunction of its chosen atoms, top if there are none.
use Prim.Native.Nat.{ℕ}
use mathlib.Core.Path.{◌≡◌, refl, subst, sym, ◌∙◌}
use mathlib.Core.List.{List, [], ◌∷◌, Memᴰ}
use mathlib.Core.Bool.{false}
use Rattle.subsumption.specs.Tables.{Tables, Concept, top, and, tree, variables_of, has_variable, left_of, right_of}
use Rattle.subsumption.specs.Atoms.{chosen}
use Rattle.subsumption.specs.Subsumption.{Interpretation, Member, no_variables, assigned}
use Rattle.subsumption.proofs.Bools.{or-skip}
use Rattle.subsumption.proofs.VariableLaws.{variable-both}
use Rattle.subsumption.proofs.WellFormed.{WellFormed}
use Rattle.subsumption.proofs.Inward.{Ground}
use Rattle.subsumption.proofs.Chosen.{chosen-ground}
use Rattle.matching.specs.Solving.{Solves, Substitution, substituted, SolvesBy}
use Rattle.matching.specs.Find.{SomeSolves}
use Rattle.matching.proofs.SubstitutionLaws.Readings.{member-reads}

unfoldable pub conjoined : List ℕ → List ℕ → Concept
conjoined concepts [] = top
conjoined concepts (p ∷ ps) = and (tree concepts p) (conjoined concepts ps)

pub conjoined-ground : (concepts ps : List ℕ) → ((p : ℕ) → Memᴰ p ps → Ground concepts p) → has_variable (conjoined concepts ps) ≡ false
unfolding conjoined has_variable variables_of
conjoined-ground concepts [] g = refl
conjoined-ground concepts (p ∷ ps) g =
    variable-both (tree concepts p) (conjoined concepts ps) ∙ or-skip _ _ (g p (Memᴰ.head refl))
    ∙ conjoined-ground concepts ps (λ q m. g q (Memᴰ.tail m))

module _ (I : Interpretation) (concepts : List ℕ) (x : ℕ) where
  pub conjoined-in :
      (ps : List ℕ) → ((p : ℕ) → Memᴰ p ps → Member I no_variables (tree concepts p) x) → Member I no_variables (conjoined concepts ps) x
  unfolding conjoined
  conjoined-in [] h = tt
  conjoined-in (p ∷ ps) h = (h p (Memᴰ.head refl), conjoined-in ps (λ q m. h q (Memᴰ.tail m)))

  pub conjoined-out : {p : ℕ} {ps : List ℕ} → Memᴰ p ps → Member I no_variables (conjoined concepts ps) x → Member I no_variables (tree concepts p) x
  unfolding conjoined
  conjoined-out (Memᴰ.head e) (h, _) = subst (λ (z : ℕ). Member I no_variables (tree concepts z) x) (sym e) h
  conjoined-out (Memᴰ.tail m) (_, h) = conjoined-out m h

module _ (t : Tables) (wf : WellFormed t) (α : List ℕ) where
  pub as_substitution : Substitution t
  as_substitution =
      record {
        concept = λ k. conjoined t.concepts (chosen t α k);
        variable-free = λ k l. conjoined-ground t.concepts (chosen t α k) (λ p m. chosen-ground t α k p wf m);
      }

  -- An assignment that solves is a substitution that does.
  pub solves-by-substitution : Solves t α → SolvesBy t as_substitution
  unfolding as_substitution
  solves-by-substitution s m l I obeys x k h =
      member-reads I (assigned t α I) (substituted as_substitution.concept I) (λ v z u a. conjoined-in I t.concepts z (chosen t α v) a)
      (tree t.concepts (right_of t.questions m)) x k
      (s m l I obeys x k
      (member-reads I (substituted as_substitution.concept I) (assigned t α I) (λ v z u a p n. conjoined-out I t.concepts z n a)
      (tree t.concepts (left_of t.questions m)) x k h))

  pub some-solves : Solves t α → SomeSolves t
  some-solves s = record { substitution = as_substitution; solves = solves-by-substitution s }
