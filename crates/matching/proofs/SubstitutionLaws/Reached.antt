-- The extended interpretation where the new elements reach all that their concept is below, and the old ones only what their members force:
-- it obeys the inclusions, and the old elements gain no membership that matters.
use Prim.Native.Nat.{ℕ, ◌+◌, ◌-◌, ◌<◌}
use mathlib.Core.Path.{◌≡◌, sym, subst}
use mathlib.Core.List.{List, Memᴰ}
use mathlib.Core.Bool.{Bool, true}
use mathlib.Core.Logic.{◌⊎◌, inl, inr, ⊎_elim}
use native.Mathlib.Omega.{arith}
use lib.ListN.{length}
use Rattle.subsumption.specs.Tables.{Tables, Concept, top, name, exists, and, var}
use Rattle.subsumption.specs.Subsumption.{Interpretation, Reading, Member, Included, no_variables, Obeys}
use Rattle.subsumption.specs.Roles.{wider}
use Rattle.subsumption.proofs.Bools.{le-or-lt}
use Rattle.subsumption.proofs.Soundness.{wider-link}
use Rattle.matching.proofs.SubstitutionLaws.Decided.{Decides}
use Rattle.matching.proofs.SubstitutionLaws.Parts.{Closed, concept_at, place}
use Rattle.matching.proofs.SubstitutionLaws.Extended.{extended, name-old, name_new, link-old, link-new, name-cases, NewLink, link-cases}

-- One concept is below another in all that obeys the inclusions.
abbrev pub Below : Tables → Concept → Concept → Type 0
Below t c d = (I : Interpretation) → Obeys t I → Included I no_variables c d

unfoldable pub inner_of : Concept → Concept
inner_of top = top
inner_of (name n) = top
inner_of (exists r c) = c
inner_of (and c d) = top
inner_of (var k) = top

below-inner : (t : Tables) (c d e : Concept) (r s : ℕ) → wider t.roles r s ≡ true → Below t c (exists r d) → Below t d e → Below t c (exists s e)
below-inner t c d e r s w p q I o x l h = let (y, u, k, m) = p I o x l h in (y, u, wider-link t I o x y l u r s w k, q I o y u m)

-- A property of every name and existential in a concept, and of the concepts inside.
abbrev pub Each : (Concept → Type 0) → Concept → Type 0
Each P top = Unit {0}
Each P (name n) = P (name n)
Each P (exists r c) = P (exists r c) × Each P c
Each P (and c d) = Each P c × Each P d
Each P (var k) = Unit {0}

-- an element is new or old
split : (s n z : ℕ) → z < s + n → ((y : ℕ) × (y < n) × (z ≡ s + y)) ⊎ (z < s)
split s n z l = ⊎_elim (λ u. inl (z - s, omega arith, omega arith)) inr (le-or-lt s z)

-- The concept's variables are below v.
abbrev pub Numbered : ℕ → Concept → Type 0
Numbered v top = Unit {0}
Numbered v (name n) = Unit {0}
Numbered v (exists r c) = Numbered v c
Numbered v (and c d) = Numbered v c × Numbered v d
Numbered v (var k) = k < v

-- old elements keep their memberships
module _ (roles : List ℕ) (I : Interpretation) (E : List Concept) (inner reach : ℕ → ℕ → Bool) (ρ ρ' : Reading) (v : ℕ)
    (reads : (k x : ℕ) → k < v → x < I.size → ρ k x → ρ' k x) where
  pub old-in : (c : Concept) → Numbered v c → (x : ℕ) → x < I.size → Member I ρ c x → Member (extended roles I E inner reach) ρ' c x
  old-in top g x l h = h
  old-in (name n) g x l h = name-old roles I E inner reach x n l h
  old-in (exists r c) g x l (y, u, k, h) = (y, omega arith, link-old roles I E inner reach x r y l u k, old-in c g y u h)
  old-in (and c d) (g, f) x l (h, k) = (old-in c g x l h, old-in d f x l k)
  old-in (var k) g x l h = reads k x g l h

module _ (t : Tables) (I : Interpretation) (E : List Concept) (closed : Closed E) (inner reach : ℕ → ℕ → Bool) where
  -- x is forced to be in a concept: all the concepts that it is below are reached
  abbrev Reaches : ℕ → Concept → Type 0
  Reaches z c = (j : ℕ) → j < length E → Below t c (concept_at E j) → reach z j ≡ true

  module _ (decides : (j : ℕ) → j < length E → (y : ℕ) → y < length E → Decides (Below t (inner_of (concept_at E j)) (concept_at E y)) (inner j y))
      (new : (y : ℕ) → y < length E → (j : ℕ) → j < length E → Decides (Below t (concept_at E y) (concept_at E j)) (reach (I.size + y) j)) where
    inward : (r z w : ℕ) (l : NewLink t.roles I E inner reach z r w) → Below t l.concept (concept_at E l.into)
    unfolding inner_of
    inward r z w l =
        subst (λ (c : Concept). Below t (inner_of c) (concept_at E l.into)) l.linked
        ((decides l.by l.known l.into l.into-known).0 l.inward)

    new-out : (c : Concept) (y : ℕ) → y < length E → Member (extended t.roles I E inner reach) no_variables c (I.size + y) → Below t (concept_at E y) c
    new-out top y l h = λ K o x k m. tt
    new-out (name n) y l h =
        ⊎_elim (λ (s, _). absurd (omega arith))
        (λ o. subst (Below t (concept_at E y)) o.named ((new y l o.by o.known).0 o.reached))
        (name-cases t.roles I E inner reach (I.size + y) n h)
    new-out (exists r d) y l (w, u, link, m) =
        go (λ v k e. new-out d v k (subst (Member (extended t.roles I E inner reach) no_variables d) e m)) (link-cases t.roles I E inner reach (I.size + y) r w link)
      where
        go :
            ((v : ℕ) → v < length E → w ≡ I.size + v → Below t (concept_at E v) d)
            → ((I.size + y < I.size) × (w < I.size) × Memᴰ (record { from = I.size + y; role = r; to = w }) I.links)
            ⊎ NewLink t.roles I E inner reach (I.size + y) r w
            → Below t (concept_at E y) (exists r d)
        go below (inl (s, _, _)) = absurd (omega arith)
        go below (inr o) =
            below-inner t (concept_at E y) o.concept d o.narrow r o.widened
            (subst (Below t (concept_at E y)) o.linked ((new y l o.by o.known).0 o.reached))
            (λ K b x k m. below o.into o.into-known o.there K b x k (inward r (I.size + y) w o K b x k m))
    new-out (and c d) y l (h, k) = λ K o x u m. (new-out c y l h K o x u m, new-out d y l k K o x u m)
    new-out (var k) y l h = λ K o x u m. tt

    pub reached-in : (c : Concept) → Memᴰ c E → (z : ℕ) → z < I.size + length E → Reaches z c → Member (extended t.roles I E inner reach) no_variables c z
    unfolding inner_of
    reached-in top m z l h = tt
    reached-in (name n) m z l h =
        let (j, k, e) = place top E (name n) m in
        name_new t.roles I E inner reach z j n l k e (h j k (subst (Below t (name n)) (sym e) (λ K o x u v. v)))
    reached-in (exists r d) m z l h = go (closed (exists r d) m) (place top E (exists r d) m) (reached-in d (closed (exists r d) m))
      where
        go :
            Memᴰ d E → (j : ℕ) × (j < length E) × (concept_at E j ≡ exists r d)
            → ((w : ℕ) → w < I.size + length E → Reaches w d → Member (extended t.roles I E inner reach) no_variables d w)
            → Member (extended t.roles I E inner reach) no_variables (exists r d) z
        go n (j, k, e) rest =
            let (y, u, f) = place top E d n in (
              I.size + y,
              omega arith,
              link-new t.roles I E inner reach z j r y d l k u e (h j k (subst (Below t (exists r d)) (sym e) (λ K o x u v. v)))
                  ((decides j k y u).1 (subst (λ (c : Concept). Below t (inner_of c) (concept_at E y)) (sym e) (subst (Below t d) (sym f) (λ K o x u v. v)))),
              rest (I.size + y) (omega arith) (λ i q b. (new y u i q).1 (subst (λ (c : Concept). Below t c (concept_at E i)) (sym f) b)),
            )
    reached-in (and c d) m z l h = (
      reached-in c (closed (and c d) m).0 z l (λ j k b. h j k (λ K o x u v. b K o x u v.0)),
      reached-in d (closed (and c d) m).1 z l (λ j k b. h j k (λ K o x u v. b K o x u v.1)),
    )
    reached-in (var k) m z l h = tt

    new_in : (c : Concept) → Memᴰ c E → (y : ℕ) → y < length E → Below t (concept_at E y) c → Member (extended t.roles I E inner reach) no_variables c (I.size + y)
    new_in c m y l b = reached-in c m (I.size + y) (omega arith) (λ j k d. (new y l j k).1 (λ K o x u v. d K o x u (b K o x u v)))

    -- what an old element reaches, it is a member of
    module _ (v : ℕ) (σ : ℕ → Concept) (of : ℕ → ℕ → Bool)
        (old : (x j : ℕ) → x < I.size → j < length E → reach x j ≡ true → (k : ℕ) × (k < v) × (of k x ≡ true) × Below t (σ k) (concept_at E j)) where
      abbrev pub Holds : Concept → Type 0
      Holds c = (k x : ℕ) → k < v → x < I.size → of k x ≡ true → Below t (σ k) c → Member I no_variables c x

      pub old-out : (c : Concept) → Each Holds c → (x : ℕ) → x < I.size → Member (extended t.roles I E inner reach) no_variables c x → Member I no_variables c x
      old-out top g x l h = h
      old-out (name n) g x l h =
          ⊎_elim (λ (_, m). m)
          (λ o. let (k, lk, p, b) = old x o.by l o.known o.reached in g k x lk l p (subst (Below t (σ k)) o.named b))
          (name-cases t.roles I E inner reach x n h)
      old-out (exists r d) (g, f) x l (w, u, link, m) =
          go (λ k. old-out d f w k m) (λ y k e. new-out d y k (subst (Member (extended t.roles I E inner reach) no_variables d) e m))
          (link-cases t.roles I E inner reach x r w link)
        where
          go :
              (w < I.size → Member I no_variables d w) → ((y : ℕ) → y < length E → w ≡ I.size + y → Below t (concept_at E y) d)
              → ((x < I.size) × (w < I.size) × Memᴰ (record { from = x; role = r; to = w }) I.links) ⊎ NewLink t.roles I E inner reach x r w
              → Member I no_variables (exists r d) x
          go inside outside (inl (_, s, e)) = (w, s, e, inside s)
          go inside outside (inr o) =
              let (k, lk, p, b) = old x o.by l o.known o.reached in
              g k x lk l p
              (below-inner t (σ k) o.concept d o.narrow r o.widened (subst (Below t (σ k)) o.linked b)
              (λ K c z u m. outside o.into o.into-known o.there K c z u (inward r x w o K c z u m)))
      old-out (and c d) (g, f) x l (h, k) = (old-out c g x l h, old-out d f x l k)
      old-out (var k) g x l h = h

      -- an inclusion that the interpretation obeys is obeyed still
      pub included-still :
          (c d : Concept) → Each Holds c → Numbered v d → Memᴰ d E → Included I no_variables c d → Below t c d
          → Included (extended t.roles I E inner reach) no_variables c d
      included-still c d g f m holds below z k h =
          ⊎_elim
          (λ (y, l, e).
          subst (Member (extended t.roles I E inner reach) no_variables d) (sym e)
          (new_in d m y l (λ K o x u a. below K o x u (new-out c y l (subst (Member (extended t.roles I E inner reach) no_variables c) e h) K o x u a))))
          (λ l. old-in t.roles I E inner reach no_variables no_variables v (λ _ _ _ _ _. tt) d f z l (holds z l (old-out c g z l h)))
          (split I.size (length E) z k)
