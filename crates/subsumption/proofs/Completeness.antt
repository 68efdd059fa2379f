-- Marks that take every step of the closure hold all that is subsumed.
use Prim.Native.Nat.{ℕ, ◌<◌}
use mathlib.Core.Path.{◌≡◌, refl}
use mathlib.Core.List.{List}
use mathlib.Core.Bool.{Bool, true}
use Rattle.subsumption.specs.Tables.{Tables, count_of}
use Rattle.subsumption.specs.Atoms.{atoms, chosen}
use Rattle.subsumption.specs.Roles.{wider}
use Rattle.subsumption.specs.Subsumption.{Subsumed}
use Rattle.subsumption.specs.Inner.Columns.{has}
use Rattle.subsumption.specs.Inner.Settling.{choose_from}
use Rattle.subsumption.specs.Inner.Closure.{Steps, Closed, ColumnsOf}
use Rattle.subsumption.proofs.WellFormed.{WellFormed}
use Rattle.subsumption.proofs.Inward.{below-inward}
use Rattle.subsumption.proofs.Soundness.{flow-sound}
use Rattle.subsumption.proofs.Canonical.{Canonical, canonical-complete}
use Rattle.subsumption.proofs.ModelRows.{interpretation, named_in, named-out, linked-in, linked-out, linked-widened}
use Rattle.subsumption.proofs.RoleLaws.{wider-refl}

module _ (t : Tables) (assignment : List ℕ) (wf : WellFormed t) (marks : ℕ → ℕ → Bool)
    (steps : Steps t.concepts t.inclusions (wider t.roles) (chosen t assignment) (λ i j. marks i j ≡ true)) where
  steps-canonical : Canonical t assignment (interpretation t.concepts t.roles marks) (λ i j. marks i j ≡ true) (λ i j. marks i j ≡ true)
  steps-canonical =
      record {
        size = refl;
        self = steps.same;
        obeying = steps.included;
        roles-obeyed = λ m l x y k u. linked-widened t.concepts t.roles marks x y m k l (wf.wide_low m l);
        name_in = named_in t.concepts t.roles marks;
        link-in = λ x c r d l k e h.
            let u = (below-inward t.concepts wf.rising (count_of t.concepts)).inner c r d e k in
            (d, u, linked-in t.concepts t.roles marks x c r r d l k e (wider-refl t.roles r) (wf.low-roles c r d e) h, steps.same d u);
        first-in = steps.first;
        second-in = steps.second;
        chosen-in = steps.chooses;
        top-out = steps.top;
        name_out = λ x c n l k e h.
            let (j, u, f, m) = named-out t.concepts t.roles marks x n h in
            steps.named x j c n l u k f e m;
        link-out = λ x c r d y l k _ e h m.
            let (j, q, u, f, w, o) = linked-out t.concepts t.roles marks x r y h in
            steps.linked x j c q r y d l u k f e w m o;
        and-out = steps.meet;
        chosen-out = steps.all-chosen;
      }

  pub steps-complete :
      (i j : ℕ) → i < count_of t.concepts → j < count_of t.concepts → Subsumed t assignment i j → marks i j ≡ true
  steps-complete = canonical-complete t assignment wf _ _ _ steps-canonical

-- Columns closed from what is subsumed hold exactly what is subsumed.
pub closed-exactly :
    (t : Tables) (assignment given columns : List ℕ) → WellFormed t
    → ((i j : ℕ) → i < count_of t.concepts → j < count_of t.concepts → has given i j ≡ true → Subsumed t assignment i j)
    → Closed t.concepts t.inclusions (wider t.roles) (choose_from (atoms t) assignment) given columns → ColumnsOf t assignment columns
unfolding chosen
closed-exactly t assignment given columns wf start c =
    record {
      long = c.long;
      sound = λ i j l k h. flow-sound t assignment given wf start (c.sound i j l k h);
      complete = steps-complete t assignment wf (has columns) c.closed;
    }
