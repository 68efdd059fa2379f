-- Variables on the right: what an id without variables is subsumed by.
use Prim.Native.Nat.{ℕ, ◌<◌}
use mathlib.Core.Path.{◌≡◌, subst}
use mathlib.Core.List.{List, Memᴰ}
use mathlib.Core.Bool.{true}
use mathlib.Core.Logic.{◌↔◌}
use native.Mathlib.Omega.{arith}
use Rattle.subsumption.specs.Tables.{Tables, exists_at, and_at, var_at, node, count_of}
use Rattle.subsumption.specs.Atoms.{chosen}
use Rattle.subsumption.specs.Roles.{wider}
use Rattle.subsumption.specs.Subsumption.{assigned, Subsumed}
use Rattle.subsumption.specs.Inner.Closure.{Steps}
use Rattle.subsumption.proofs.WellFormed.{WellFormed}
use Rattle.subsumption.proofs.RoleLaws.{wider-refl, wider-trans}
use Rattle.subsumption.proofs.Soundness.{subsumed-same, subsumed-steps}
use Rattle.matching.specs.Inner.Search.Problem.{FreeId}
use Rattle.matching.proofs.SubstitutionLaws.Decided.{NotNot}
use Rattle.matching.proofs.PatternLaws.Free.{known-inward, free-inward, free-top, free-name, free-var, free-right, free-chosen}
use Rattle.matching.proofs.PatternLaws.Least.{steps-least}

-- An existential without variables, above c, whose role counts as the given one and whose inner id has P.
pub record LinkBy (t : Tables) (assignment : List ℕ) (P : ℕ → Type 0) (c role : ℕ) : Type 0 where
  pub by : ℕ
  pub narrow : ℕ
  pub to : ℕ
  pub free : FreeId t by
  pub link : node t.concepts by ≡ exists_at narrow to
  pub widened : wider t.roles narrow role ≡ true
  pub above : Subsumed t assignment c by
  pub inward : P to

-- What is below "some role inner" goes through one whose inner id is below `inner`.
abbrev pub RightLink : Tables → List ℕ → ℕ → ℕ → ℕ → Type 0
RightLink t assignment c role inner = LinkBy t assignment (λ d. Subsumed t assignment d inner) c role

module _ (t : Tables) (assignment : List ℕ) where
  -- c is shown to be below b, going down b to ids without variables
  data Down : ℕ → ℕ → Type 0 where
    down-free : (c b : ℕ) → FreeId t b → Subsumed t assignment c b → Down c b
    down-var :
        (c b k : ℕ) → node t.concepts b ≡ var_at k → ((p : ℕ) → Memᴰ p (chosen t assignment k) → Subsumed t assignment c p) → Down c b
    down-and : (c b i j : ℕ) → node t.concepts b ≡ and_at i j → Down c i → Down c j → Down c b
    down-exists :
        (c b r x e s d : ℕ) → node t.concepts b ≡ exists_at r x → FreeId t e → node t.concepts e ≡ exists_at s d → wider t.roles s r ≡ true
        → Subsumed t assignment c e → Down d x → Down c b

module _ (t : Tables) (assignment : List ℕ) (wf : WellFormed t) where
  steps : Steps t.concepts t.inclusions (wider t.roles) (chosen t assignment) (Subsumed t assignment)
  steps = subsumed-steps t assignment wf

  down-sound : {c b : ℕ} → FreeId t c → b < count_of t.concepts → Down t assignment c b → Subsumed t assignment c b
  down-sound f l (down-free c b g s) = s
  down-sound f l (down-var c b k e h) = steps.all-chosen c b k f.known l e h
  down-sound f l (down-and c b i j e p q) =
      steps.meet c b i j f.known l e (down-sound f ((known-inward t wf).first b i j e l) p) (down-sound f ((known-inward t wf).second b i j e l) q)
  down-sound f l (down-exists c b r x e s d u g v w h p) =
      steps.linked c e b s r d x f.known g.known l v u w (down-sound ((free-inward t wf).inner e s d v g) ((known-inward t wf).inner b r x u l) p) h

  down-same : (c : ℕ) → FreeId t c → Down t assignment c c
  down-same c f = down-free c c f (subsumed-same t (assigned t assignment) c)

  -- ---- by the row on the right
  down-members :
      {c b : ℕ} (i j : ℕ) → FreeId t c → node t.concepts b ≡ and_at i j → Down t assignment c b → Down t assignment c i × Down t assignment c j
  down-members i j f e (down-free c b g s) = (
    down-free c i ((free-inward t wf).first b i j e g) (steps.first c b i j f.known g.known e s),
    down-free c j ((free-inward t wf).second b i j e g) (steps.second c b i j f.known g.known e s),
  )
  down-members i j f e (down-var c b k u h) = let z : ◌≡◌ {A = ℕ} 0 1 = cc in absurd (omega arith)
  down-members i j f e (down-and c b a d u p q) =
      let x : a ≡ i = cc in
      let y : d ≡ j = cc in
      (subst (Down t assignment c) x p, subst (Down t assignment c) y q)
  down-members i j f e (down-exists c b r x a s d u g v w h p) = let z : ◌≡◌ {A = ℕ} 0 1 = cc in absurd (omega arith)

  down-chosen :
      {c b : ℕ} (k : ℕ) → node t.concepts b ≡ var_at k → Down t assignment c b → (p : ℕ) → Memᴰ p (chosen t assignment k) → Subsumed t assignment c p
  down-chosen k e (down-free c b g s) = absurd (free-var t wf b k e g)
  down-chosen k e (down-var c b v u h) = let x : v ≡ k = cc in subst (λ (z : ℕ). (p : ℕ) → Memᴰ p (chosen t assignment z) → Subsumed t assignment c p) x h
  down-chosen k e (down-and c b i j u p q) = let z : ◌≡◌ {A = ℕ} 0 1 = cc in absurd (omega arith)
  down-chosen k e (down-exists c b r x a s d u g v w h p) = let z : ◌≡◌ {A = ℕ} 0 1 = cc in absurd (omega arith)

  abbrev DownLink : ℕ → ℕ → ℕ → Type 0
  DownLink c role inner = LinkBy t assignment (λ d. Down t assignment d inner) c role

  -- an existential without variables is its own link
  down-link : {c b : ℕ} (r x : ℕ) → node t.concepts b ≡ exists_at r x → Down t assignment c b → DownLink c r x
  down-link r x e (down-free c b g s) =
      record {
        by = b;
        narrow = r;
        to = x;
        free = g;
        link = e;
        widened = wider-refl t.roles r;
        above = s;
        inward = down-same x ((free-inward t wf).inner b r x e g);
      }
  down-link r x e (down-var c b k u h) = let z : ◌≡◌ {A = ℕ} 0 1 = cc in absurd (omega arith)
  down-link r x e (down-and c b i j u p q) = let z : ◌≡◌ {A = ℕ} 0 1 = cc in absurd (omega arith)
  down-link r x e (down-exists c b q y a s d u g v w h p) =
      let m : q ≡ r = cc in
      let n : y ≡ x = cc in
      record {
        by = a;
        narrow = s;
        to = d;
        free = g;
        link = v;
        widened = rw m at w;
        above = h;
        inward = subst (Down t assignment d) n p;
      }

  linked-down :
      (c b r s x y : ℕ) → node t.concepts b ≡ exists_at s y → wider t.roles r s ≡ true
      → ((d : ℕ) → FreeId t d → Down t assignment d x → Down t assignment d y) → DownLink c r x → Down t assignment c b
  linked-down c b r s x y e w h k =
      down-exists c b s y k.by k.narrow k.to e k.free k.link (wider-trans t.roles k.narrow r s k.widened w) k.above
      (h k.to ((free-inward t wf).inner k.by k.narrow k.to k.link k.free) k.inward)

  -- ---- whatever takes i also takes j
  abbrev Passes : ℕ → ℕ → Type 0
  Passes i j = (c : ℕ) → FreeId t c → Down t assignment c i → Down t assignment c j

  passes-steps : Steps t.concepts t.inclusions (wider t.roles) (chosen t assignment) Passes
  passes-steps =
      record {
        same = λ j l c f d. d;
        top = λ i j li lj e c f d. down-free c j (free-top t wf j lj e) (steps.top c j f.known lj e);
        named = λ i j k n li lj lk e u h c f d.
            down-free c k (free-name t wf k n lk u) (steps.named c j k n f.known lj lk e u (down-sound f lj (h c f d)));
        first = λ i j a b li lj e h c f d. (down-members a b f e (h c f d)).0;
        second = λ i j a b li lj e h c f d. (down-members a b f e (h c f d)).1;
        meet = λ i j a b li lj e h k c f d. down-and c j a b e (h c f d) (k c f d);
        included = λ i m li lm h c f d.
            down-free c _ (free-right t wf m lm) (steps.included c m f.known lm (down-sound f (wf.left-known m lm) (h c f d)));
        linked = λ i e b r s x y li le lb u v w h k c f d. linked-down c b r s x y v w h (down-link r x u (k c f d));
        chooses = λ i v k p li lv e m h c f d. down-free c p (free-chosen t wf assignment k p m) (down-chosen k e (h c f d) p m);
        all-chosen = λ i v k li lv e h c f d.
            down-var c v k e (λ p m. down-sound f (free-chosen t wf assignment k p m).known (h p m c f d));
      }

  down-complete : (c b : ℕ) → FreeId t c → b < count_of t.concepts → Subsumed t assignment c b → NotNot (Down t assignment c b)
  down-complete c b f l s never = steps-least t assignment wf Passes passes-steps c b f.known l s (λ h. never (h c f (down-same c f)))

  -- ---- what is subsumed, by the row on the right
  pub right-var :
      (c b k : ℕ) → c < count_of t.concepts → b < count_of t.concepts → node t.concepts b ≡ var_at k
      → Subsumed t assignment c b ↔ ((p : ℕ) → Memᴰ p (chosen t assignment k) → Subsumed t assignment c p)
  right-var c b k f l e = (λ s p m. steps.chooses c b k p f l e m s, steps.all-chosen c b k f l e)

  pub right-and :
      (c b i j : ℕ) → c < count_of t.concepts → b < count_of t.concepts → node t.concepts b ≡ and_at i j
      → Subsumed t assignment c b ↔ (Subsumed t assignment c i × Subsumed t assignment c j)
  right-and c b i j f l e = (λ s. (steps.first c b i j f l e s, steps.second c b i j f l e s), λ (p, q). steps.meet c b i j f l e p q)

  pub right-exists :
      (c b r x : ℕ) → FreeId t c → b < count_of t.concepts → node t.concepts b ≡ exists_at r x → Subsumed t assignment c b
      → NotNot (RightLink t assignment c r x)
  right-exists c b r x f l e s never = down-complete c b f l s (λ d. never (right (down-link r x e d)))
    where
      right : DownLink c r x → RightLink t assignment c r x
      right k =
          record {
            by = k.by;
            narrow = k.narrow;
            to = k.to;
            free = k.free;
            link = k.link;
            widened = k.widened;
            above = k.above;
            inward = down-sound ((free-inward t wf).inner k.by k.narrow k.to k.link k.free) ((known-inward t wf).inner b r x e l) k.inward;
          }

  pub right-linked :
      (c b r x : ℕ) → c < count_of t.concepts → b < count_of t.concepts → node t.concepts b ≡ exists_at r x → RightLink t assignment c r x
      → Subsumed t assignment c b
  right-linked c b r x f l e k = steps.linked c k.by b k.narrow r k.to x f k.free.known l k.link e k.widened k.inward k.above
