-- Marks closed under the rules hold all that is subsumed. No cut is needed: the interpretation asks of an id all that a row forces.
use Prim.Native.Nat.{ℕ, ◌<◌}
use mathlib.Core.Path.{◌≡◌, refl, ap₂, ◌∙◌}
use mathlib.Core.List.{List}
use mathlib.Core.Bool.{Bool, true}
use mathlib.Core.Logic.{◌↔◌, ⊎_elim}
use native.Mathlib.Omega.{arith}
use borrow.Author.Tests.{eq-eqb}
use Rattle.subsumption.specs.Tables.{Tables, or, node, count_of}
use Rattle.subsumption.specs.Atoms.{keep}
use Rattle.subsumption.specs.Roles.{wider}
use Rattle.subsumption.specs.Subsumption.{assigned, Subsumed}
use Rattle.subsumption.specs.Rules.{every, same_name, on_inner, follows}
use Rattle.subsumption.proofs.Bools.{or_cases, or-first, or-second, both-intro}
use Rattle.subsumption.proofs.WellFormed.{WellFormed}
use Rattle.subsumption.proofs.Inward.{below-inward}
use Rattle.subsumption.proofs.Keep.{keep-member, keep-intro}
use Rattle.subsumption.proofs.Canonical.{Canonical, canonical-complete}
use Rattle.subsumption.proofs.ModelRows.{interpretation, named_in, named-out, linked-in, linked-out, linked-widened}
use Rattle.subsumption.proofs.RoleLaws.{wider-refl}
use Rattle.subsumption.proofs.RuleTests.{every-elim, every-intro, same_name-elim, onInner-elim}
use Rattle.subsumption.proofs.Rules.{Rules, follows-rules}
use Rattle.subsumption.proofs.Soundness.{subsumed-trans}

-- By rule 1 or 5 the row j is below the row f.
unfoldable pub forces : List ℕ → List ℕ → (ℕ → ℕ → Bool) → ℕ → ℕ → Bool
forces concepts roles marks j f = or (same_name (node concepts j) (node concepts f)) (on_inner (wider roles) marks (node concepts j) (node concepts f))

-- The id x is marked below all that the row j forces.
unfoldable pub forced : List ℕ → List ℕ → (ℕ → ℕ → Bool) → ℕ → ℕ → Bool
forced concepts roles marks x j = every (marks x) (keep (forces concepts roles marks j) 0 (count_of concepts))

-- The id x is marked below all that c is marked below.
abbrev pub Absorbs : List ℕ → (ℕ → ℕ → Bool) → ℕ → ℕ → Type 0
Absorbs concepts marks x c = (d : ℕ) → d < count_of concepts → marks c d ≡ true → marks x d ≡ true

module _ (t : Tables) (assignment : List ℕ) (wf : WellFormed t) (marks : ℕ → ℕ → Bool) (rules : Rules t assignment (λ i j. marks i j ≡ true)) where
  forced-elim :
      (x j f : ℕ) → f < count_of t.concepts → forced t.concepts t.roles marks x j ≡ true → forces t.concepts t.roles marks j f ≡ true → marks x f ≡ true
  unfolding forced
  forced-elim x j f l h e =
      every-elim _ _ h f (keep-intro _ 0 (count_of t.concepts) f (record { low = omega arith; high = omega arith; passes = e }))

  absorbs-forced : (x c : ℕ) → c < count_of t.concepts → Absorbs t.concepts marks x c → forced t.concepts t.roles marks x c ≡ true
  unfolding forced forces
  absorbs-forced x c l h = every-intro _ _ (λ f m. let k = keep-member _ 0 _ f m in reached f (omega arith) k.passes)
    where
      reached : (f : ℕ) → f < count_of t.concepts → forces t.concepts t.roles marks c f ≡ true → marks x f ≡ true
      reached f u e =
          h f u
          (⊎_elim (λ s. let (n, p, q) = same_name-elim _ _ s in rules.named c f n l u p q)
          (λ s. let (r, v, a, b, p, q, w, o) = onInner-elim (wider t.roles) marks _ _ s in rules.linked c f r v a b l u p q w o) (or_cases _ _ e))

  rules-canonical : Canonical t assignment (interpretation t.concepts t.roles (forced t.concepts t.roles marks)) (Absorbs t.concepts marks) (λ i j. marks i j ≡ true)
  unfolding forces same_name on_inner
  rules-canonical =
      record {
        size = refl;
        self = λ i l d u h. h;
        obeying = λ x m l u h d k s. rules.included x d m l k u h s;
        roles-obeyed = λ m l x y k u. linked-widened t.concepts t.roles (forced t.concepts t.roles marks) x y m k l (wf.wide_low m l);
        name_in = λ x c n l k e h. named_in t.concepts t.roles (forced t.concepts t.roles marks) x c n l k e (absorbs-forced x c k h);
        link-in = λ x c r d l k e h. (
          d,
          (below-inward t.concepts wf.rising (count_of t.concepts)).inner c r d e k,
          linked-in t.concepts t.roles (forced t.concepts t.roles marks) x c r r d l k e (wider-refl t.roles r) (wf.low-roles c r d e) (absorbs-forced x c k h),
          λ _ _ s. s,
        );
        first-in = λ x c a b l k e h d u s. h d u (rules.first c d a b k u e s);
        second-in = λ x c a b l k e h d u s. h d u (rules.second c d a b k u e s);
        chosen-in = λ x c v p l k e m h d u s. h d u (rules.chooses c d v p k u e m s);
        top-out = rules.top;
        name_out = λ x c n l k e h.
            let (j, _, f, s) = named-out t.concepts t.roles (forced t.concepts t.roles marks) x n h in
            forced-elim x j c k s (or-first _ _ (ap₂ same_name f e ∙ eq-eqb n n refl));
        link-out = λ x c r d y l k _ e h m.
            let (j, q, _, f, w, s) = linked-out t.concepts t.roles (forced t.concepts t.roles marks) x r y h in
            forced-elim x j c k s (or-second _ _ (ap₂ (on_inner (wider t.roles) marks) f e ∙ both-intro _ _ w m));
        and-out = rules.meet;
        chosen-out = rules.all-chosen;
      }

  pub rules-complete : (i j : ℕ) → i < count_of t.concepts → j < count_of t.concepts → Subsumed t assignment i j → marks i j ≡ true
  rules-complete = canonical-complete t assignment wf _ _ _ rules-canonical

  module _ (sound : (i j : ℕ) → i < count_of t.concepts → j < count_of t.concepts → marks i j ≡ true → Subsumed t assignment i j) where
    -- Sound marks closed under the rules are exactly subsumption.
    pub exactly : (i j : ℕ) → i < count_of t.concepts → j < count_of t.concepts → (marks i j ≡ true) ↔ Subsumed t assignment i j
    exactly i j l k = (sound i j l k, rules-complete i j l k)

    pub cut :
        (i j k : ℕ) → i < count_of t.concepts → j < count_of t.concepts → k < count_of t.concepts
        → marks i j ≡ true → marks j k ≡ true → marks i k ≡ true
    cut i j k li lj lk p q = rules-complete i k li lk (subsumed-trans t (assigned t assignment) i j k (sound i j li lj p) (sound j k lj lk q))

pub follows-complete :
    (t : Tables) (assignment : List ℕ) → WellFormed t → (marks : ℕ → ℕ → Bool)
    → ((rule left right extra : ℕ) → follows t assignment marks rule left right extra ≡ true → marks left right ≡ true)
    → (i j : ℕ) → i < count_of t.concepts → j < count_of t.concepts → Subsumed t assignment i j → marks i j ≡ true
follows-complete t assignment wf marks closed = rules-complete t assignment wf marks (follows-rules t assignment marks closed)
