-- Membership does not depend on how many elements there are, as long as every link leads to one.
use Prim.Native.Nat.{ℕ, ◌<◌}
use mathlib.Core.Path.{◌≡◌, sym, ap, subst}
use mathlib.Core.List.{List, Memᴰ}
use Rattle.subsumption.specs.Tables.{Tables, Concept, top, name, exists, and, var, tree}
use Rattle.subsumption.specs.Atoms.{atoms, pick, chosen}
use Rattle.subsumption.specs.Subsumption.{Reading, Member, no_variables, assigned}
use Rattle.subsumption.specs.Inner.Settling.{choose_from}
use lib.ListN.{get_or}
use Rattle.countermodel.specs.Rows.{rows_of, at, interpretation_of}
use Rattle.countermodel.specs.Inner.Membership.{IsIn}
use Rattle.countermodel.proofs.RowMembers.{link-out}

resized :
    (m n : ℕ) (rows : List ℕ) → ((p : ℕ) → p < rows_of rows → at rows p 3 < n)
    → (ρ ρ' : Reading) → ((k x : ℕ) → ρ k x → ρ' k x) → (c : Concept) (x : ℕ) → Member (interpretation_of m rows) ρ c x → Member (interpretation_of n rows) ρ' c x
unfolding interpretation_of
resized m n rows low ρ ρ' f top x h = h
resized m n rows low ρ ρ' f (name a) x h = h
resized m n rows low ρ ρ' f (exists r c) x (y, l, k, h) =
    let (p, w) = link-out m rows x r y k in
    (y, subst (λ (z : ℕ). z < n) w.to (low p w.known), k, resized m n rows low ρ ρ' f c y h)
resized m n rows low ρ ρ' f (and c d) x (h, k) = (resized m n rows low ρ ρ' f c x h, resized m n rows low ρ ρ' f d x k)
resized m n rows low ρ ρ' f (var k) x h = f k x h

module _ (t : Tables) (ids assignment : List ℕ) (e : ids ≡ atoms t) (size : ℕ) (rows : List ℕ)
    (low : (p : ℕ) → p < rows_of rows → at rows p 3 < size) (lower : (p : ℕ) → p < rows_of rows → at rows p 3 < 192) (c : Concept) (x : ℕ) where
  same-choice : (k : ℕ) → choose_from ids assignment k ≡ chosen t assignment k
  unfolding chosen
  same-choice k = ap (λ (z : List ℕ). pick z (get_or assignment k 0)) e

  pub given-in : IsIn t.concepts ids assignment rows c x → Member (interpretation_of size rows) (assigned t assignment (interpretation_of size rows)) c x
  given-in =
      resized 192 size rows low _ _
      (λ k y h p m. resized 192 size rows low no_variables no_variables (λ k x u. u) (tree t.concepts p) y (h p (subst (Memᴰ p) (sym (same-choice k)) m))) c x

  pub given_out : Member (interpretation_of size rows) (assigned t assignment (interpretation_of size rows)) c x → IsIn t.concepts ids assignment rows c x
  given_out =
      resized size 192 rows lower _ _
      (λ k y h p m. resized size 192 rows lower no_variables no_variables (λ k x u. u) (tree t.concepts p) y (h p (subst (Memᴰ p) (same-choice k) m))) c x
