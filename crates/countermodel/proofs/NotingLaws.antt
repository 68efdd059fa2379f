-- Names and links of an element, noted row by row of the concept table.
use Prim.Native.Nat.{ℕ, ◌+◌, ◌*◌, ◌/◌, ◌%◌, ◌^◌, ◌<◌, ◌≤◌}
use mathlib.Core.Path.{◌≡◌, refl, sym, ap, ◌∙◌, subst}
use mathlib.Core.List.{List}
use mathlib.Core.Bool.{Bool, true, false}
use mathlib.Core.Logic.{⊎_elim}
use native.Mathlib.Omega.{arith}
use native.Mathlib.Numerals.{add-one}
use lib.Dec.{eqb}
use lib.ListN.{length, get_or, set, length-set, replicate, length-replicate, get_or-replicate}
use lib.Seq.{get_or-set_same, get_or-set_other}
use borrow.Author.Tests.{eq-eqb, ne_eqb}
use Rattle.subsumption.specs.Tables.{both, any_below, Node, top_at, name_at, exists_at, and_at, var_at, node, count_of}
use Rattle.subsumption.specs.Atoms.{bit}
use Rattle.subsumption.specs.Roles.{wider}
use Rattle.subsumption.specs.Table.{row_start, marked}
use Rattle.subsumption.specs.Inner.Tables.{Rising}
use Rattle.subsumption.specs.Inner.Atoms.{mark_at}
use Rattle.subsumption.specs.Inner.Roles.{in_set, RoleSets}
use Rattle.subsumption.proofs.Bools.{or-first, or-skip, both-none, both-skip, both-second, eq-or-ne}
use Rattle.countermodel.specs.Countermodel.{is_named, leads_to, bears, is_linked}
use Rattle.countermodel.specs.Inner.Show.{Checked, NamesOf, LinksOf, is_of, RolesOf}

pub mark-read : (table : List ℕ) (i j : ℕ) → eqb (get_or table (i * 24 + j / 8) 0 / 2 ^ (j % 8) % 2) 1 ≡ marked table i j
unfolding marked row_start bit
mark-read table i j = refl

-- ---- a scan of the rows: q is noted when i is below one of the first j rows that says q
pub record NotedTo (size : ℕ) (says : ℕ → Node → Bool) (concepts : List ℕ) (marks : ℕ → ℕ → Bool) (i : ℕ) (noted : List Bool) (j : ℕ) : Type 0 where
  pub within : j ≤ count_of concepts
  pub long : length noted ≡ size
  pub each : (q : ℕ) → q < size → mark_at noted q ≡ any_below j (λ k. both (marks i k) (says q (node concepts k)))

pub none-length : (size : ℕ) (noted : List Bool) → noted ≡ replicate size false → length noted ≡ size
none-length size noted e = ap length e ∙ length-replicate size false

module _ (size : ℕ) (says : ℕ → Node → Bool) (concepts : List ℕ) (marks : ℕ → ℕ → Bool) (i : ℕ) where
  pub noted-none : (noted : List Bool) → noted ≡ replicate size false → NotedTo size says concepts marks i noted 0
  unfolding any_below
  noted-none noted e =
      subst (λ (z : List Bool). NotedTo size says concepts marks i z 0) (sym e)
      (record { within = omega arith; long = length-replicate size false; each = λ q h. get_or-replicate size q false false h })

  module _ (noted : List Bool) (j : ℕ) (N : NotedTo size says concepts marks i noted j) (h : j < count_of concepts) where
    skip : ((q : ℕ) → both (marks i j) (says q (node concepts j)) ≡ false) → NotedTo size says concepts marks i noted (j + 1)
    unfolding any_below
    skip e = record { within = omega arith; long = N.long; each = λ q l. N.each q l ∙ rw add-one (sym (or-skip _ _ (e q))) }

    pub noted-silent : ((q : ℕ) → says q (node concepts j) ≡ false) → NotedTo size says concepts marks i noted (j + 1)
    noted-silent e = skip (λ q. both-second _ _ (e q))

    pub noted-unmarked : (b : Bool) → b ≡ marks i j → b ≡ false → NotedTo size says concepts marks i noted (j + 1)
    noted-unmarked b m f = skip (λ q. both-none _ _ (sym m ∙ f))

    pub noted_more :
        (b : Bool) → b ≡ marks i j → b ≡ true → (p : ℕ) → p < size → ((q : ℕ) → says q (node concepts j) ≡ eqb q p)
        → NotedTo size says concepts marks i (set noted p true) (j + 1)
    unfolding any_below
    noted_more b m f p l e =
        record {
          within = omega arith;
          long = length-set noted p true ∙ N.long;
          each = λ q k. ⊎_elim (here q) (there q k) (eq-or-ne q p);
        }
      where
        says_so : (q : ℕ) → both (marks i j) (says q (node concepts j)) ≡ eqb q p
        says_so q = both-skip _ _ (sym m ∙ f) ∙ e q

        here : (q : ℕ) → q ≡ p → mark_at (set noted p true) q ≡ any_below (j + 1) (λ k. both (marks i k) (says q (node concepts k)))
        here q s =
            ap (mark_at (set noted p true)) s ∙ get_or-set_same noted p true false (omega (arith, N.long))
            ∙ rw add-one (sym (or-first _ _ (says_so q ∙ eq-eqb q p s)))

        there : (q : ℕ) → q < size → (q ≡ p → ⊥) → mark_at (set noted p true) q ≡ any_below (j + 1) (λ k. both (marks i k) (says q (node concepts k)))
        there q k n = get_or-set_other noted p q true false n ∙ N.each q k ∙ rw add-one (sym (or-skip _ _ (says_so q ∙ ne_eqb q p n)))

  -- all rows
  noted-all :
      (noted : List Bool) (j : ℕ) → NotedTo size says concepts marks i noted j → count_of concepts ≤ j
      → NotedTo size says concepts marks i noted (count_of concepts)
  noted-all noted j N h =
      let e : j ≡ count_of concepts = omega (arith, N.within) in
      subst (λ (z : ℕ). NotedTo size says concepts marks i noted z) e N

-- ---- what a row says
no_name : (q : ℕ) (m : Node) → ((n : ℕ) → m ≡ name_at n → ⊥) → is_named q m ≡ false
unfolding is_named
no_name q top_at h = refl
no_name q (name_at n) h = absurd (h n refl)
no_name q (exists_at r x) h = refl
no_name q (and_at x y) h = refl
no_name q (var_at k) h = refl

no-role : (q : ℕ) (m : Node) → ((r x : ℕ) → m ≡ exists_at r x → ⊥) → is_of q m ≡ false
unfolding is_of
no-role q top_at h = refl
no-role q (name_at n) h = refl
no-role q (exists_at r x) h = absurd (h r x refl)
no-role q (and_at x y) h = refl
no-role q (var_at k) h = refl

no-link : (roles : List ℕ) (s q : ℕ) (m : Node) → ((r x : ℕ) → m ≡ exists_at r x → ⊥) → leads_to roles s q m ≡ false
unfolding leads_to
no-link roles s q top_at h = refl
no-link roles s q (name_at n) h = refl
no-link roles s q (exists_at r x) h = absurd (h r x refl)
no-link roles s q (and_at x y) h = refl
no-link roles s q (var_at k) h = refl

module _ (concepts : List ℕ) (j : ℕ) where
  pub not_named : ((n : ℕ) → node concepts j ≡ name_at n → ⊥) → (q : ℕ) → is_named q (node concepts j) ≡ false
  not_named h q = no_name q (node concepts j) h

  pub named : (n : ℕ) → node concepts j ≡ name_at n → (q : ℕ) → is_named q (node concepts j) ≡ eqb q n
  unfolding is_named
  named n e q = ap (is_named q) e

  pub not-of : ((r x : ℕ) → node concepts j ≡ exists_at r x → ⊥) → (q : ℕ) → is_of q (node concepts j) ≡ false
  not-of h q = no-role q (node concepts j) h

  pub of-role : (r x : ℕ) → node concepts j ≡ exists_at r x → (q : ℕ) → is_of q (node concepts j) ≡ eqb q r
  unfolding is_of
  of-role r x e q = ap (is_of q) e

  pub not-linked : (roles : List ℕ) (s : ℕ) → ((r x : ℕ) → node concepts j ≡ exists_at r x → ⊥) → (q : ℕ) → leads_to roles s q (node concepts j) ≡ false
  not-linked roles s h q = no-link roles s q (node concepts j) h

  module _ (C : Checked concepts) (r x : ℕ) (e : node concepts j ≡ exists_at r x) where
    pub inner-low : j < count_of concepts → x < 192
    inner-low l = let h : x < j = subst (Rising j) e (C.layered.rising j) in omega (arith, h, C.layered.few)

    module _ (roles into : List ℕ) (R : RoleSets roles into) (s : ℕ) (l : s < 100) (w : Bool) (ew : w ≡ in_set into r s) where
      is-wider : w ≡ wider roles r s
      is-wider = ew ∙ R.each r s (C.low-roles j r x e) l

      pub not_wider : w ≡ false → (q : ℕ) → leads_to roles s q (node concepts j) ≡ false
      unfolding leads_to
      not_wider f q = ap (leads_to roles s q) e ∙ both-none _ _ (sym is-wider ∙ f)

      pub linked : w ≡ true → (q : ℕ) → leads_to roles s q (node concepts j) ≡ eqb q x
      unfolding leads_to
      linked f q = ap (leads_to roles s q) e ∙ both-skip _ _ (sym is-wider ∙ f)

-- ---- all names, all roles, all links by a role
module _ (concepts : List ℕ) (marks : ℕ → ℕ → Bool) (i : ℕ) (noted : List Bool) (j : ℕ) where
  pub names-done : NotedTo 1000 is_named concepts marks i noted j → count_of concepts ≤ j → NamesOf concepts marks i noted
  unfolding bears
  names-done N h = let A = noted-all _ _ _ _ _ noted j N h in record { long = A.long; each = A.each }

  pub roles-done : NotedTo 100 is_of concepts marks i noted j → count_of concepts ≤ j → RolesOf concepts marks i noted
  roles-done N h = let A = noted-all _ _ _ _ _ noted j N h in record { long = A.long; each = A.each }

  pub links-done : (roles : List ℕ) (s : ℕ) → Checked concepts → NotedTo 192 (leads_to roles s) concepts marks i noted j → count_of concepts ≤ j → LinksOf concepts roles marks i s noted
  unfolding is_linked
  links-done roles s C N h = let A = noted-all _ _ _ _ _ noted j N h in record { long = A.long; each = λ y l. A.each y (omega (arith, C.layered.few)) }
