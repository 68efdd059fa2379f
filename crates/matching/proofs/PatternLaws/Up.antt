-- Variables on the left: what ids without variables subsume an id.
use Prim.Native.Nat.{ℕ, ◌<◌}
use mathlib.Core.Path.{◌≡◌, subst}
use mathlib.Core.List.{List, Memᴰ}
use mathlib.Core.Bool.{true}
use native.Mathlib.Omega.{arith}
use Rattle.subsumption.specs.Tables.{Tables, top_at, exists_at, and_at, var_at, node, count_of, left_of, right_of}
use Rattle.subsumption.specs.Atoms.{chosen}
use Rattle.subsumption.specs.Roles.{wider}
use Rattle.subsumption.specs.Subsumption.{assigned, Subsumed}
use Rattle.subsumption.specs.Inner.Closure.{Steps}
use Rattle.subsumption.proofs.WellFormed.{WellFormed}
use Rattle.subsumption.proofs.RoleLaws.{wider-refl, wider-trans}
use Rattle.subsumption.proofs.Soundness.{subsumed-same, subsumed-trans, subsumed-steps}
use Rattle.matching.specs.Inner.Search.Problem.{FreeId}
use Rattle.matching.specs.Inner.Search.Patterns.{Upper}
use Rattle.matching.proofs.SubstitutionLaws.Decided.{NotNot}
use Rattle.matching.proofs.PatternLaws.Free.{known-inward, free-inward, free-top, free-name, free-var, free-left, free-right, free-chosen}
use Rattle.matching.proofs.PatternLaws.Least.{steps-least}

module _ (t : Tables) (assignment : List ℕ) where
  -- b is shown to be below c, going up from what b is made of
  data Up : ℕ → ℕ → Type 0 where
    up-free : (b c : ℕ) → FreeId t b → Subsumed t assignment b c → Up b c
    up_top : (b c : ℕ) → node t.concepts c ≡ top_at → Up b c
    up-var : (b k p : ℕ) → node t.concepts b ≡ var_at k → Memᴰ p (chosen t assignment k) → Up b p
    up_first : (b i j c : ℕ) → node t.concepts b ≡ and_at i j → Up i c → Up b c
    up_second : (b i j c : ℕ) → node t.concepts b ≡ and_at i j → Up j c → Up b c
    up-exists :
        (b r x c s d : ℕ) → node t.concepts b ≡ exists_at r x → node t.concepts c ≡ exists_at s d → wider t.roles r s ≡ true → Up x d → Up b c
    up-meet : (b c i j : ℕ) → node t.concepts c ≡ and_at i j → Up b i → Up b j → Up b c
    up-on : (b c d : ℕ) → FreeId t c → Up b c → Subsumed t assignment c d → Up b d

module _ (t : Tables) (assignment : List ℕ) (wf : WellFormed t) where
  steps : Steps t.concepts t.inclusions (wider t.roles) (chosen t assignment) (Subsumed t assignment)
  steps = subsumed-steps t assignment wf

  same : (i : ℕ) → Subsumed t assignment i i
  same = subsumed-same t (assigned t assignment)

  up_same : (c : ℕ) → FreeId t c → Up t assignment c c
  up_same c f = up-free c c f (same c)

  up-upper : (b : ℕ) → Upper t assignment (Up t assignment b)
  up-upper b =
      record {
        tops = λ c f e. up_top b c e;
        upward = λ c d f g s h. up-on b c d f h s;
        meets = λ c i j f e p q. up-meet b c i j e p q;
      }

  -- ---- what is above an id is an upper set
  pub above-upper : (b : ℕ) → b < count_of t.concepts → Upper t assignment (Subsumed t assignment b)
  above-upper b l =
      record {
        tops = λ c f e. steps.top b c l f.known e;
        upward = λ c d f g s h. subsumed-trans t (assigned t assignment) b c d h s;
        meets = λ c i j f e p q. steps.meet b c i j l f.known e p q;
      }

  -- ---- and holds, by its row,
  pub above-var :
      (b k p : ℕ) → b < count_of t.concepts → node t.concepts b ≡ var_at k → Memᴰ p (chosen t assignment k) → Subsumed t assignment b p
  above-var b k p l e m = steps.chooses b b k p l l e m (same b)

  pub above-first :
      (b i j c : ℕ) → b < count_of t.concepts → node t.concepts b ≡ and_at i j → Subsumed t assignment i c → Subsumed t assignment b c
  above-first b i j c l e = subsumed-trans t (assigned t assignment) b i c (steps.first b b i j l l e (same b))

  pub above-second :
      (b i j c : ℕ) → b < count_of t.concepts → node t.concepts b ≡ and_at i j → Subsumed t assignment j c → Subsumed t assignment b c
  above-second b i j c l e = subsumed-trans t (assigned t assignment) b j c (steps.second b b i j l l e (same b))

  pub above-exists :
      (b r x c s d : ℕ) → b < count_of t.concepts → c < count_of t.concepts → node t.concepts b ≡ exists_at r x
      → node t.concepts c ≡ exists_at s d → wider t.roles r s ≡ true → Subsumed t assignment x d → Subsumed t assignment b c
  above-exists b r x c s d l k e u w h = steps.linked b b c r s x d l l k e u w h (same b)

  up-sound : {b c : ℕ} → b < count_of t.concepts → FreeId t c → Up t assignment b c → Subsumed t assignment b c
  up-sound l f (up-free b c g s) = s
  up-sound l f (up_top b c e) = steps.top b c l f.known e
  up-sound l f (up-var b k p e m) = above-var b k p l e m
  up-sound l f (up_first b i j c e h) = above-first b i j c l e (up-sound ((known-inward t wf).first b i j e l) f h)
  up-sound l f (up_second b i j c e h) = above-second b i j c l e (up-sound ((known-inward t wf).second b i j e l) f h)
  up-sound l f (up-exists b r x c s d e u w h) =
      above-exists b r x c s d l f.known e u w (up-sound ((known-inward t wf).inner b r x e l) ((free-inward t wf).inner c s d u f) h)
  up-sound l f (up-meet b c i j e p q) =
      steps.meet b c i j l f.known e (up-sound l ((free-inward t wf).first c i j e f) p) (up-sound l ((free-inward t wf).second c i j e f) q)
  up-sound l f (up-on b c d g h s) = subsumed-trans t (assigned t assignment) b c d (up-sound l g h) s

  -- ---- an upper set that holds what a row brings holds all that is shown above it
  module _ (X : ℕ → Type 0) (upper : Upper t assignment X) where
    up-of-var :
        {b c : ℕ} (k : ℕ) → node t.concepts b ≡ var_at k → ((p : ℕ) → Memᴰ p (chosen t assignment k) → X p) → FreeId t c → Up t assignment b c → X c
    up-of-var k e h f (up-free b c g s) = absurd (free-var t wf b k e g)
    up-of-var k e h f (up_top b c u) = upper.tops c f u
    up-of-var k e h f (up-var b v p u m) = let x : v ≡ k = cc in h p (subst (λ (z : ℕ). Memᴰ p (chosen t assignment z)) x m)
    up-of-var k e h f (up_first b i j c u d) = let z : ◌≡◌ {A = ℕ} 0 1 = cc in absurd (omega arith)
    up-of-var k e h f (up_second b i j c u d) = let z : ◌≡◌ {A = ℕ} 0 1 = cc in absurd (omega arith)
    up-of-var k e h f (up-exists b r x c s d u v w o) = let z : ◌≡◌ {A = ℕ} 0 1 = cc in absurd (omega arith)
    up-of-var k e h f (up-meet b c i j u p q) =
        upper.meets c i j f u (up-of-var k e h ((free-inward t wf).first c i j u f) p) (up-of-var k e h ((free-inward t wf).second c i j u f) q)
    up-of-var k e h f (up-on b c d g o s) = upper.upward c d g f s (up-of-var k e h g o)

    up-of-and :
        {b c : ℕ} (i j : ℕ) → node t.concepts b ≡ and_at i j → ((d : ℕ) → FreeId t d → Up t assignment i d → X d)
        → ((d : ℕ) → FreeId t d → Up t assignment j d → X d) → FreeId t c → Up t assignment b c → X c
    up-of-and i j e h k f (up-free b c g s) =
        let m = (free-inward t wf).first b i j e g in
        let n = (free-inward t wf).second b i j e g in
        upper.upward b c g f s (upper.meets b i j g e (h i m (up_same i m)) (k j n (up_same j n)))
    up-of-and i j e h k f (up_top b c u) = upper.tops c f u
    up-of-and i j e h k f (up-var b v p u m) = let z : ◌≡◌ {A = ℕ} 0 1 = cc in absurd (omega arith)
    up-of-and i j e h k f (up_first b a d c u o) = let x : a ≡ i = cc in h c f (subst (λ (z : ℕ). Up t assignment z c) x o)
    up-of-and i j e h k f (up_second b a d c u o) = let x : d ≡ j = cc in k c f (subst (λ (z : ℕ). Up t assignment z c) x o)
    up-of-and i j e h k f (up-exists b r x c s d u v w o) = let z : ◌≡◌ {A = ℕ} 0 1 = cc in absurd (omega arith)
    up-of-and i j e h k f (up-meet b c a d u p q) =
        upper.meets c a d f u (up-of-and i j e h k ((free-inward t wf).first c a d u f) p) (up-of-and i j e h k ((free-inward t wf).second c a d u f) q)
    up-of-and i j e h k f (up-on b c d g o s) = upper.upward c d g f s (up-of-and i j e h k g o)

    up-of-exists :
        {b c : ℕ} (r x : ℕ) → node t.concepts b ≡ exists_at r x
        → ((a s d : ℕ) → FreeId t a → node t.concepts a ≡ exists_at s d → wider t.roles r s ≡ true → Up t assignment x d → X a)
        → FreeId t c → Up t assignment b c → X c
    up-of-exists r x e h f (up-free b c g s) = upper.upward b c g f s (h b r x g e (wider-refl t.roles r) (up_same x ((free-inward t wf).inner b r x e g)))
    up-of-exists r x e h f (up_top b c u) = upper.tops c f u
    up-of-exists r x e h f (up-var b v p u m) = let z : ◌≡◌ {A = ℕ} 0 1 = cc in absurd (omega arith)
    up-of-exists r x e h f (up_first b i j c u o) = let z : ◌≡◌ {A = ℕ} 0 1 = cc in absurd (omega arith)
    up-of-exists r x e h f (up_second b i j c u o) = let z : ◌≡◌ {A = ℕ} 0 1 = cc in absurd (omega arith)
    up-of-exists r x e h f (up-exists b q y c s d u v w o) =
        let m : q ≡ r = cc in
        let n : y ≡ x = cc in
        h c s d f v (rw m at w) (subst (λ (z : ℕ). Up t assignment z d) n o)
    up-of-exists r x e h f (up-meet b c i j u p q) =
        upper.meets c i j f u (up-of-exists r x e h ((free-inward t wf).first c i j u f) p) (up-of-exists r x e h ((free-inward t wf).second c i j u f) q)
    up-of-exists r x e h f (up-on b c d g o s) = upper.upward c d g f s (up-of-exists r x e h g o)

  -- ---- whatever is above j is above i
  abbrev Passes : ℕ → ℕ → Type 0
  Passes i j = (c : ℕ) → FreeId t c → Up t assignment j c → Up t assignment i c

  -- of an id without variables it is enough that it is above itself
  passes-free : (i j : ℕ) → FreeId t j → Up t assignment i j → Passes i j
  passes-free i j f h c g k = up-on i j c f h (up-sound f.known g k)

  passes_on : (i j k : ℕ) → FreeId t j → FreeId t k → Subsumed t assignment j k → Passes i j → Passes i k
  passes_on i j k f g s h = passes-free i k g (up-on i j k f (h j f (up_same j f)) s)

  passes-steps : Steps t.concepts t.inclusions (wider t.roles) (chosen t assignment) Passes
  passes-steps =
      record {
        same = λ j l c f d. d;
        top = λ i j li lj e. passes-free i j (free-top t wf j lj e) (up_top i j e);
        named = λ i j k n li lj lk e u.
            passes_on i j k (free-name t wf j n lj e) (free-name t wf k n lk u) (steps.named j j k n lj lj lk e u (same j));
        first = λ i j a b li lj e h c f d. h c f (up_first j a b c e d);
        second = λ i j a b li lj e h c f d. h c f (up_second j a b c e d);
        meet = λ i j a b li lj e h k c f. up-of-and (Up t assignment i) (up-upper i) a b e h k f;
        included = λ i m li lm.
            passes_on i (left_of t.inclusions m) (right_of t.inclusions m) (free-left t wf m lm) (free-right t wf m lm)
            (steps.included _ m (wf.left-known m lm) lm (same _));
        linked = λ i e b r s x y li le lb u v w h k c f d.
            k c f
            (up-of-exists (Up t assignment e) (up-upper e) s y v
            (λ a q z g o n m.
            up-exists e r x a q z u o (wider-trans t.roles r s q w n) (h z ((free-inward t wf).inner a q z o g) m))
            f d);
        chooses = λ i v k p li lv e m h. passes-free i p (free-chosen t wf assignment k p m) (h p (free-chosen t wf assignment k p m) (up-var v k p e m));
        all-chosen = λ i v k li lv e h c f.
            up-of-var (Up t assignment i) (up-upper i) k e
            (λ p m. let g = free-chosen t wf assignment k p m in h p m p g (up_same p g)) f;
      }

  up-complete : (b c : ℕ) → b < count_of t.concepts → FreeId t c → Subsumed t assignment b c → NotNot (Up t assignment b c)
  up-complete b c l f s never = steps-least t assignment wf Passes passes-steps b c l f.known s (λ h. never (h c f (up_same c f)))

  -- ---- an upper set that holds what a row brings holds all that is above it
  module _ (X : ℕ → Type 0) (upper : Upper t assignment X) (stable : (c : ℕ) → NotNot (X c) → X c) where
    pub left-var :
        (b k : ℕ) → b < count_of t.concepts → node t.concepts b ≡ var_at k → ((p : ℕ) → Memᴰ p (chosen t assignment k) → X p)
        → (c : ℕ) → FreeId t c → Subsumed t assignment b c → X c
    left-var b k l e h c f s = stable c (λ never. up-complete b c l f s (λ d. never (up-of-var X upper k e h f d)))

    pub left_and :
        (b i j : ℕ) → b < count_of t.concepts → node t.concepts b ≡ and_at i j → ((d : ℕ) → FreeId t d → Subsumed t assignment i d → X d)
        → ((d : ℕ) → FreeId t d → Subsumed t assignment j d → X d) → (c : ℕ) → FreeId t c → Subsumed t assignment b c → X c
    left_and b i j l e h k c f s =
        stable c
        (λ never.
        up-complete b c l f s
        (λ d.
        never
        (up-of-and X upper i j e (λ a g u. h a g (up-sound ((known-inward t wf).first b i j e l) g u))
        (λ a g u. k a g (up-sound ((known-inward t wf).second b i j e l) g u)) f d)))

    pub left-exists :
        (b r x : ℕ) → b < count_of t.concepts → node t.concepts b ≡ exists_at r x
        → ((a s d : ℕ) → FreeId t a → node t.concepts a ≡ exists_at s d → wider t.roles r s ≡ true → Subsumed t assignment x d → X a)
        → (c : ℕ) → FreeId t c → Subsumed t assignment b c → X c
    left-exists b r x l e h c f s =
        stable c
        (λ never.
        up-complete b c l f s
        (λ d.
        never
        (up-of-exists X upper r x e
        (λ a q z g o n m. h a q z g o n (up-sound ((known-inward t wf).inner b r x e l) ((free-inward t wf).inner a q z o g) m)) f d)))
