-- Rows put into a buffer, one behind the other.
use Prim.Native.Nat.{ℕ, zero, suc, ◌+◌, ◌*◌, ◌<◌, ◌≤◌}
use mathlib.Core.Path.{◌≡◌, refl, sym, ap, ap₂, ◌∙◌, subst}
use mathlib.Core.List.{List, [], ◌∷◌, ◌++◌, append_assoc, append-nil}
use mathlib.Core.Bool.{Bool, true, false}
use native.Mathlib.Omega.{arith}
use native.Mathlib.Numerals.{add-one}
use native.Mathlib.Nat.{zero-add}
use lib.ListN.{length, set, length-append, length-set}
use lib.Seq.{sets}
use Rattle.subsumption.specs.Tables.{count_of}
use Rattle.subsumption.specs.Atoms.{keep}
use Rattle.subsumption.specs.Inner.Atoms.{mark_at, marked_ids}
use Rattle.subsumption.proofs.Lists.{keep-yes, keep-no}
use Rattle.countermodel.specs.Rows.{joined}
use Rattle.countermodel.specs.Countermodel.{bears, is_linked, names_at, links_at, name_rows, link_rows, shown_rows}
use Rattle.countermodel.specs.Inner.Show.{NamesOf, LinksOf, Put, row_for, rows_for, names_of, links_by, links_of}

sets-join : (before : List ℕ) (at : ℕ) (xs ys : List ℕ) → sets (sets before at xs) (at + length xs) ys ≡ sets before at (xs ++ ys)
sets-join before at [] ys = let e : at + 0 ≡ at = omega arith in rw e refl
sets-join before at (x ∷ xs) ys = let e : at + suc (length xs) ≡ suc at + length xs = omega arith in rw e (sets-join (set before at x) (suc at) xs ys)

pub put-none : (before : List ℕ) (at : ℕ) → Put before at [] at before
put-none before at = record { size = refl; place = omega arith; buffer = λ h. refl }

pub put-join :
    (before : List ℕ) (at : ℕ) (xs ys : List ℕ) (mid : ℕ) (between : List ℕ) (end : ℕ) (after : List ℕ)
    → Put before at xs mid between → Put between mid ys end after → Put before at (xs ++ ys) end after
put-join before at xs ys mid between end after P Q =
    record {
      size = Q.size ∙ P.size;
      place = omega (arith, P.place, Q.place, length-append xs ys);
      buffer =
          λ h.
          Q.buffer (omega (arith, P.size))
          ∙ ap₂ (λ (z : List ℕ) (n : ℕ). sets z n ys) (P.buffer (omega (arith, P.place, Q.place))) P.place
          ∙ sets-join before at xs ys;
    }

module _ (before : List ℕ) (at a b c d : ℕ) where
  pub put-short : length before < at + 4 → Put before at (a ∷ b ∷ c ∷ d ∷ []) (at + 4) before
  put-short h = record { size = refl; place = refl; buffer = λ k. absurd (omega arith) }

  pub put_four : Put before at (a ∷ b ∷ c ∷ d ∷ []) (at + 4) (set (set (set (set before at a) (at + 1) b) (at + 2) c) (at + 3) d)
  put_four =
      let e : at + 1 ≡ suc at = omega arith in
      let f : at + 2 ≡ suc (suc at) = omega arith in
      let g : at + 3 ≡ suc (suc (suc at)) = omega arith in
      record { size = simp length-set; place = refl; buffer = λ h. rw (e, f, g) refl }

-- ---- one row a mark
module _ (kind i s : ℕ) where
  row-four : (q : ℕ) → length (row_for kind i s q) ≡ 4
  unfolding row_for
  row-four q = go kind
    where
      go : (k : ℕ) → length (row_for k i s q) ≡ 4
      go zero = refl
      go (suc k) = refl

  rows_last : (xs : List ℕ) (q : ℕ) → rows_for kind i s (xs ++ (q ∷ [])) ≡ rows_for kind i s xs ++ row_for kind i s q
  unfolding rows_for
  rows_last [] q = append-nil (row_for kind i s q)
  rows_last (x ∷ xs) q = ap (λ (z : List ℕ). row_for kind i s x ++ z) (rows_last xs q) ∙ sym (append_assoc (row_for kind i s x) (rows_for kind i s xs) (row_for kind i s q))

  -- the rows of the marks below q
  pub record MarksTo (marks : List Bool) (before : List ℕ) (at q end : ℕ) (after : List ℕ) : Type 0 where
    pub put : Put before at (rows_for kind i s (marked_ids marks q)) end after
    pub few : end ≤ at + q * 4

  module _ (marks : List Bool) (before : List ℕ) (at : ℕ) where
    pub marks-none : MarksTo marks before at 0 at before
    unfolding keep rows_for
    marks-none = record { put = put-none before at; few = omega arith }

    module _ (q mid : ℕ) (between : List ℕ) (M : MarksTo marks before at q mid between) where
      pub marks-done : (count : ℕ) → q ≡ count → Put before at (rows_for kind i s (marked_ids marks count)) mid between
      marks-done count e = subst (λ (z : ℕ). Put before at (rows_for kind i s (marked_ids marks z)) mid between) e M.put

      pub marks-yes :
          (end : ℕ) (after : List ℕ) → mark_at marks q ≡ true → Put between mid (row_for kind i s q) end after → MarksTo marks before at (q + 1) end after
      marks-yes end after e P =
          record {
            put = rw (keep-yes (mark_at marks) q e, rows_last) (put-join before at _ _ mid between end after M.put P);
            few = omega (arith, M.few, P.place, row-four q);
          }

      pub marks-no : mark_at marks q ≡ false → MarksTo marks before at (q + 1) mid between
      marks-no e = record { put = rw (keep-no (mark_at marks) q e) M.put; few = omega arith }

pub row-name : (before after : List ℕ) (kind i s q at end : ℕ) → kind ≡ 0 → Put before at (0 ∷ i ∷ q ∷ 0 ∷ []) end after → Put before at (row_for kind i s q) end after
unfolding row_for
row-name before after kind i s q at end e P = rw (e, row_for) P

pub row-link : (before after : List ℕ) (kind i s q at end : ℕ) → (kind ≡ 0 → ⊥) → Put before at (1 ∷ i ∷ s ∷ q ∷ []) end after → Put before at (row_for kind i s q) end after
unfolding row_for
row-link before after zero i s q at end e P = absurd (e refl)
row-link before after (suc kind) i s q at end e P = P

-- ---- lists of rows, one behind the other
joined-last : (rows : ℕ → List ℕ) (from n : ℕ) → joined rows from (suc n) ≡ joined rows from n ++ rows (from + n)
unfolding joined
joined-last rows from zero = let e : from + 0 ≡ from = omega arith in rw e (append-nil (rows from))
joined-last rows from (suc n) =
    let e : from + suc n ≡ suc from + n = omega arith in
    rw e (ap (λ (z : List ℕ). rows from ++ z) (joined-last rows (suc from) n) ∙ sym (append_assoc (rows from) (joined rows (suc from) n) (rows (suc from + n))))

pub record JoinedTo (rows : ℕ → List ℕ) (before : List ℕ) (at n end : ℕ) (after : List ℕ) : Type 0 where
  pub put : Put before at (joined rows 0 n) end after

module _ (rows : ℕ → List ℕ) (before : List ℕ) (at : ℕ) where
  pub joined-none : JoinedTo rows before at 0 at before
  unfolding joined
  joined-none = record { put = put-none before at }

  module _ (n mid : ℕ) (between : List ℕ) (J : JoinedTo rows before at n mid between) where
    last : joined rows 0 (n + 1) ≡ joined rows 0 n ++ rows n
    last = ap (joined rows 0) (add-one n) ∙ joined-last rows 0 n ∙ ap (λ (z : ℕ). joined rows 0 n ++ rows z) (zero-add n)

    pub joined-more : (end : ℕ) (after : List ℕ) → Put between mid (rows n) end after → JoinedTo rows before at (n + 1) end after
    joined-more end after P = record { put = rw last (put-join before at _ _ mid between end after J.put P) }

    pub joined-skip : rows n ≡ [] → JoinedTo rows before at (n + 1) mid between
    joined-skip e = record { put = rw (last, e, append-nil) J.put }

    pub joined-done : (count : ℕ) → n ≡ count → Put before at (joined rows 0 count) mid between
    joined-done count e = subst (λ (z : ℕ). Put before at (joined rows 0 z) mid between) e J.put

-- ---- marks that are an element's names or links
keep-as : (f g : ℕ → Bool) (from count : ℕ) → ((p : ℕ) → p < from + count → f p ≡ g p) → keep f from count ≡ keep g from count
unfolding keep
keep-as f g from zero h = refl
keep-as f g from (suc count) h = go (keep-as f g (suc from) count (λ p l. h p (omega arith))) (f from) refl (h from (omega arith))
  where
    go : keep f (suc from) count ≡ keep g (suc from) count → (b : Bool) → f from ≡ b → f from ≡ g from → keep f from (suc count) ≡ keep g from (suc count)
    go ih true e k = rw (e, sym k ∙ e) (ap (λ (z : List ℕ). from ∷ z) ih)
    go ih false e k = rw (e, sym k ∙ e) ih

pub keep-none : (f : ℕ → Bool) (from count : ℕ) → ((p : ℕ) → f p ≡ false) → keep f from count ≡ []
unfolding keep
keep-none f from zero h = refl
keep-none f from (suc count) h = rw (h from) (keep-none f (suc from) count h)

name-rows : (i : ℕ) (xs : List ℕ) → rows_for 0 i 0 xs ≡ name_rows i xs
unfolding rows_for row_for name_rows
name-rows i [] = refl
name-rows i (x ∷ xs) = ap (λ (z : List ℕ). 0 ∷ i ∷ x ∷ 0 ∷ z) (name-rows i xs)

link-rows : (i s : ℕ) (xs : List ℕ) → rows_for 1 i s xs ≡ link_rows i s xs
unfolding rows_for row_for link_rows
link-rows i s [] = refl
link-rows i s (x ∷ xs) = ap (λ (z : List ℕ). 1 ∷ i ∷ s ∷ x ∷ z) (link-rows i s xs)

module _ (concepts : List ℕ) (marks : ℕ → ℕ → Bool) (i : ℕ) (noted : List Bool) (before : List ℕ) (at end : ℕ) (after : List ℕ) where
  pub names-put : NamesOf concepts marks i noted → Put before at (rows_for 0 i 0 (marked_ids noted 1000)) end after → Put before at (names_of concepts marks i) end after
  unfolding names_at
  names-put N P =
      subst (λ (z : List ℕ). Put before at z end after)
      (ap (rows_for 0 i 0) (keep-as (mark_at noted) (bears concepts marks i) 0 1000 (λ n l. N.each n (omega arith))) ∙ name-rows i _) P

  pub links-put :
      (roles : List ℕ) (s : ℕ) → LinksOf concepts roles marks i s noted → Put before at (rows_for 1 i s (marked_ids noted (count_of concepts))) end after
      → Put before at (links_by concepts roles marks i s) end after
  unfolding links_at
  links-put roles s L P =
      subst (λ (z : List ℕ). Put before at z end after)
      (ap (rows_for 1 i s) (keep-as (mark_at noted) (is_linked concepts roles marks i s) 0 (count_of concepts) (λ y l. L.each y (omega arith))) ∙ link-rows i s _) P

-- ---- names, then links
pub rows-put :
    (concepts roles : List ℕ) (marks : ℕ → ℕ → Bool) (before : List ℕ) (mid : ℕ) (between : List ℕ) (end : ℕ) (after : List ℕ)
    → Put before 0 (joined (names_of concepts marks) 0 (count_of concepts)) mid between
    → Put between mid (joined (links_of concepts roles marks) 0 (count_of concepts)) end after → Put before 0 (shown_rows concepts roles marks) end after
unfolding shown_rows
rows-put concepts roles marks before mid between end after P Q = put-join before 0 _ _ mid between end after P Q
