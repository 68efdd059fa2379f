-- Each step of the closure holds in every interpretation, so that all that flows is subsumed.
use Prim.Native.Nat.{ℕ, ◌<◌}
use mathlib.Core.Path.{◌≡◌}
use mathlib.Core.List.{List, Memᴰ}
use mathlib.Core.Bool.{Bool, true}
use Rattle.subsumption.specs.Tables.{Tables, count_of}
use Rattle.subsumption.specs.Atoms.{chosen}
use Rattle.subsumption.specs.Roles.{wider}
use Rattle.subsumption.specs.Subsumption.{Interpretation, Reading, no_variables, assigned, Obeys, SubsumedBy, Subsumed}
use Rattle.subsumption.specs.Inner.Columns.{has}
use Rattle.subsumption.specs.Inner.Closure.{Steps, Flow, flow-given, flow-same, flow-top, flow-named, flow-first, flow-second, flow-meet, flow-included, flow-linked, flow-chooses, flow-all-chosen}
use Rattle.subsumption.proofs.WellFormed.{WellFormed}
use Rattle.subsumption.proofs.RoleLaws.{wider-along}
use Rattle.subsumption.proofs.Trees.{tree-top, tree-name, tree-exists, tree-and, tree-var}
use Rattle.subsumption.proofs.Chosen.{chosen-ground}
use Rattle.subsumption.proofs.Membership.{member-ground}

pub subsumed-same : (t : Tables) (ρ : Interpretation → Reading) (i : ℕ) → SubsumedBy t ρ i i
subsumed-same t ρ i I obeys x l h = h

pub subsumed-trans : (t : Tables) (ρ : Interpretation → Reading) (i j k : ℕ) → SubsumedBy t ρ i j → SubsumedBy t ρ j k → SubsumedBy t ρ i k
subsumed-trans t ρ i j k p q I obeys x l h = q I obeys x l (p I obeys x l h)

-- in an interpretation that obeys the pairs, a link of a role is one of every wider role
pub wider-link :
    (t : Tables) (I : Interpretation) → Obeys t I → (x y : ℕ) → x < I.size → y < I.size → (r s : ℕ) → wider t.roles r s ≡ true
    → Memᴰ (record { from = x; role = r; to = y }) I.links → Memᴰ (record { from = x; role = s; to = y }) I.links
wider-link t I o x y l k r s =
    wider-along t.roles (λ z. Memᴰ (record { from = x; role = z; to = y }) I.links) (λ m u. o.roles m u x y l k) r s

pub subsumed-steps : (t : Tables) (assignment : List ℕ) → WellFormed t → Steps t.concepts t.inclusions (wider t.roles) (chosen t assignment) (Subsumed t assignment)
subsumed-steps t assignment wf =
    record {
      same = λ j l. subsumed-same t (assigned t assignment) j;
      top = λ i j _ _ e I o x l h. rw (tree-top t.concepts wf.rising j e) tt;
      named = λ i j k n _ _ _ e f s I o x l h. rw (tree-name t.concepts wf.rising k n f) (rw (tree-name t.concepts wf.rising j n e) at (s I o x l h));
      first = λ i j a b _ _ e s I o x l h. (rw (tree-and t.concepts wf.rising j a b e) at (s I o x l h)).0;
      second = λ i j a b _ _ e s I o x l h. (rw (tree-and t.concepts wf.rising j a b e) at (s I o x l h)).1;
      meet = λ i j a b _ _ e p q I o x l h. rw (tree-and t.concepts wf.rising j a b e) (p I o x l h, q I o x l h);
      included = λ i m _ lm s I o x l h.
          member-ground I no_variables (assigned t assignment I) _ (wf.right-ground m lm) x
          (o.inclusions m lm x l (member-ground I (assigned t assignment I) no_variables _ (wf.left-ground m lm) x (s I o x l h)));
      linked = λ i e f r q a b _ _ _ p u w s v I o x l h.
          rw (tree-exists t.concepts wf.rising f q b u)
          (let (y, k, link, m) = rw (tree-exists t.concepts wf.rising e r a p) at (v I o x l h) in
          (y, k, wider-link t I o x y l k r q w link, s I o y k m));
      chooses = λ i v k p _ _ e c s I o x l h.
          member-ground I no_variables (assigned t assignment I) _ (chosen-ground t assignment k p wf c) x
          ((rw (tree-var t.concepts wf.rising v k e) at (s I o x l h)) p c);
      all-chosen = λ i v k _ _ e s I o x l h.
          rw (tree-var t.concepts wf.rising v k e)
          (λ p c. member-ground I (assigned t assignment I) no_variables _ (chosen-ground t assignment k p wf c) x (s p c I o x l h));
    }

module _ (concepts inclusions : List ℕ) (wide : ℕ → ℕ → Bool) (choose : ℕ → List ℕ) (R : ℕ → ℕ → Type 0) (steps : Steps concepts inclusions wide choose R)
    (given : List ℕ) (start : (i j : ℕ) → i < count_of concepts → j < count_of concepts → has given i j ≡ true → R i j) where
  pub flow-least : {i j : ℕ} → Flow concepts inclusions wide choose given i j → R i j
  flow-least (flow-given i j l k e) = start i j l k e
  flow-least (flow-same j l) = steps.same j l
  flow-least (flow-top i j l k e) = steps.top i j l k e
  flow-least (flow-named i j k n li lj lk e f s) = steps.named i j k n li lj lk e f (flow-least s)
  flow-least (flow-first i j a b l k e s) = steps.first i j a b l k e (flow-least s)
  flow-least (flow-second i j a b l k e s) = steps.second i j a b l k e (flow-least s)
  flow-least (flow-meet i j a b l k e s u) = steps.meet i j a b l k e (flow-least s) (flow-least u)
  flow-least (flow-included i m l k s) = steps.included i m l k (flow-least s)
  flow-least (flow-linked i e f r q x y li le lf p u w s v) = steps.linked i e f r q x y li le lf p u w (flow-least s) (flow-least v)
  flow-least (flow-chooses i v k p li lv e c s) = steps.chooses i v k p li lv e c (flow-least s)
  flow-least (flow-all-chosen i v k li lv e s) = steps.all-chosen i v k li lv e (λ p c. flow-least (s p c))

-- Started from columns that hold only what is subsumed.
pub flow-sound :
    (t : Tables) (assignment given : List ℕ) → WellFormed t
    → ((i j : ℕ) → i < count_of t.concepts → j < count_of t.concepts → has given i j ≡ true → Subsumed t assignment i j)
    → {i j : ℕ} → Flow t.concepts t.inclusions (wider t.roles) (chosen t assignment) given i j → Subsumed t assignment i j
flow-sound t assignment given wf = flow-least _ _ _ _ (Subsumed t assignment) (subsumed-steps t assignment wf) given
