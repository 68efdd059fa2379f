-- Entries for classes that are closed.
use Rattle.std.specs.Prelude.{Ok, Err}
use Prim.Native.Nat.{ℕ, suc, ◌+◌, ◌-◌, ◌*◌, ◌<◌, ◌≤◌}
use mathlib.Core.Path.{◌≡◌, refl, sym, ap, ◌∙◌}
use mathlib.Core.List.{List, [], ◌∷◌, ◌++◌, append_assoc, append-nil}
use native.Mathlib.Omega.{arith}
use native.Mathlib.Numerals.{add-one}
use lib.ListN.{length, get_or, take, set, length-append, length-set}
use lib.Seq.{length-take-le, drop-cons}
use borrow.Author.Tests.{lt-ltb, le-ltb}
use Rattle.subsumption.specs.declared.refusal.Refusal.TheVariants.{Limit}
use Rattle.subsumption.specs.Tables.{count_of}
use Rattle.subsumption.proofs.Lists.{take-three}
use Rattle.owl.specs.declared.frames.Reader.{Reader}
use Rattle.owl.specs.Judgement.{item, State, Step, go, stop, go_if, joins, closed, pair_rows, meet_rows}
use Rattle.owl.specs.Inner.Frames.{between, frames_of, state_of, Fits, NextOf, Closes}
use Rattle.owl.specs.Inner.Rows.{row_put, Paired}
use Rattle.owl.proofs.FrameLaws.{member-joins, nested-more, same-state, stops, goes}

-- ---- a class that is closed, with so many rows
pub rows-count : (count more : ℕ) (rows row : List ℕ) → count * 3 ≤ length rows → length row ≡ more * 3 → count_of (take (count * 3) rows ++ row) ≡ count + more
rows-count count more rows row h l =
    let e : length (take (count * 3) rows ++ row) ≡ (count + more) * 3 =
    omega (arith, length-append (take (count * 3) rows) row, length-take-le (count * 3) rows h)
    in
    omega arith

-- the reader behind it
abbrev pub behind : Reader → ℕ → Reader
behind r count = record { depth = r.depth; used = r.used + 1; count = count; pairs = r.pairs; want = 3 }

module _ (r : Reader) (more : ℕ) (row frames pending rows inclusions : List ℕ) (f : Fits r frames pending rows inclusions) (l : length row ≡ more * 3) where
  counted : count_of (take (r.count * 3) rows ++ row) ≡ r.count + more
  counted = rows-count r.count more rows row (omega (arith, f.bounds.few, f.rows_long)) l

  abbrev after : Step
  after = closed row (frames_of r.depth r.used frames pending) (state_of r frames pending rows inclusions)

  pub closes-not : 192 < r.count + more → (pending' rows' : List ℕ) → NextOf after (Err (Limit 0)) frames pending' rows' inclusions
  unfolding closed go_if
  closes-not h pending' rows' =
      let e : after ≡ stop (Limit 0) = rw (counted, le-ltb (r.count + more) 193 (omega arith)) refl in
      stops frames pending' rows' inclusions after (Limit 0) e

  pub closes-row :
      (total last : ℕ) → total ≡ r.count + more → total ≡ suc last → r.count < total → total ≤ 192 → (rows' : List ℕ) → length rows' ≡ 576
      → take (total * 3) rows' ≡ take (r.count * 3) rows ++ row → NextOf after (Ok (behind r total)) frames (set pending r.used last) rows' inclusions
  unfolding closed go_if
  closes-row total last t p m h rows' long put =
      let s : State =
      record {
        frames = joins last (frames_of r.depth r.used frames pending);
        want = item;
        rows = take (r.count * 3) rows ++ row;
        inclusions = take (r.pairs * 2) inclusions;
      }
      in
      let z : r.count + more - 1 ≡ last = omega arith in
      let e : after ≡ go s = rw (counted, lt-ltb (r.count + more) 193 (omega arith), z) refl in
      goes frames (set pending r.used last) rows' inclusions after s (behind r total) e
      (same-state (member-joins r.depth r.used last frames pending f.nested (omega (arith, f.bounds.few, f.bounds.apart, f.pending-long))) refl (sym put) refl)
      (record {
        bounds = record {
          deep = f.bounds.deep;
          bracket-room = λ k. absurd (omega arith);
          role-frame = λ k. absurd (omega arith);
          few = h;
          apart = omega (arith, f.bounds.apart);
        };
        nested = nested-more r.depth r.used (r.used + 1) frames (omega arith) f.nested;
        frames-long = f.frames-long;
        pending-long = length-set pending r.used last ∙ f.pending-long;
        rows_long = long;
        inclusions-long = f.inclusions-long;
      })

module _ (r : Reader) (kind a b : ℕ) (pending rows : List ℕ) where
  pub full-row : 192 ≤ r.count → Closes r (kind ∷ a ∷ b ∷ []) pending pending rows rows (Err (Limit 0))
  full-row h frames inclusions f = closes-not r 1 (kind ∷ a ∷ b ∷ []) frames pending rows inclusions f refl (omega arith) pending rows

  pub one-row :
      r.count < 192 → length rows ≡ 576 → (rows' : List ℕ) → rows' ≡ row_put rows r.count kind a b
      → Closes r (kind ∷ a ∷ b ∷ []) pending (set pending r.used r.count) rows rows' (Ok (behind r (r.count + 1)))
  one-row h l rows' e frames inclusions f =
      closes-row r 1 (kind ∷ a ∷ b ∷ []) frames pending rows inclusions f refl (r.count + 1) r.count refl (add-one r.count) (omega arith) (omega arith) rows'
      (ap length e ∙ simp length-set l)
      (ap (λ (z : List ℕ). take ((r.count + 1) * 3) z) e ∙ take-three (r.count * 3) ((r.count + 1) * 3) kind a b rows (omega arith) (omega arith))

-- ---- pairing from the left
pub between_cons : (start end : ℕ) (l : List ℕ) → start < end → end ≤ length l → between start end l ≡ get_or l start 0 ∷ between (start + 1) end l
between_cons start end l h e =
    let z : end - start ≡ suc (end - (start + 1)) = omega arith in
    rw (z, drop-cons l start 0 (omega arith), add-one start) refl

pub between-end : (start end : ℕ) (l : List ℕ) → end ≤ start → between start end l ≡ []
between-end start end l h = let z : end - start ≡ 0 = omega arith in rw z refl

pub pair-length : (next left : ℕ) (members : List ℕ) → length (pair_rows next left members) ≡ length members * 3
unfolding pair_rows
pair-length next left [] = refl
pair-length next left (m ∷ more) = omega (arith, pair-length (suc next) next more)

pub meet-length : (next : ℕ) (members : List ℕ) → length (meet_rows next members) ≡ (length members - 1) * 3
unfolding meet_rows
meet-length next [] = refl
meet-length next (m ∷ more) = omega (arith, pair-length next m more)

module _ (start used count : ℕ) (pending rows₀ : List ℕ) where
  pub record Pairing (rows : List ℕ) (left next m : ℕ) : Type 0 where
    pub long : length rows ≡ length rows₀
    pub low : start < m
    pub high : m ≤ used
    pub here : next + start + 1 ≡ count + m
    pub put : take (next * 3) rows ++ pair_rows next left (between m used pending) ≡ take (count * 3) rows₀ ++ meet_rows count (between start used pending)

  pub pairing-none : (start < used) × (used ≤ length pending) → Pairing rows₀ (get_or pending start 0) count (start + 1)
  unfolding meet_rows
  pairing-none (h, l) =
      record {
        long = refl;
        low = omega arith;
        high = omega arith;
        here = omega arith;
        put = sym (rw (between_cons start used pending h l) refl);
      }

  pub pairing-more :
      (rows : List ℕ) (left next m : ℕ) → Pairing rows left next m → m < used → (start < used) × (used ≤ length pending) → count + (used - start) ≤ 193
      → length rows₀ ≡ 576 → (rows' : List ℕ) → rows' ≡ row_put rows next 3 left (get_or pending m 0) → Pairing rows' next (next + 1) (m + 1)
  unfolding pair_rows
  pairing-more rows left next m s h (o, l) few size rows' e =
      record {
        long = ap length e ∙ simp length-set s.long;
        low = omega (arith, s.low);
        high = omega arith;
        here = omega (arith, s.here);
        put =
            rw (ap (λ (z : List ℕ). take ((next + 1) * 3) z) e ∙ take-three (next * 3) ((next + 1) * 3) 3 left (get_or pending m 0) rows (omega arith) (omega (arith, s.long, s.here, s.low)))
            (append_assoc (take (next * 3) rows) (3 ∷ left ∷ get_or pending m 0 ∷ []) (pair_rows (next + 1) next (between (m + 1) used pending))
            ∙ rw (add-one next) (sym (ap (λ (z : List ℕ). take (next * 3) rows ++ pair_rows next left z) (between_cons m used pending h l)) ∙ s.put));
      }

  pub pairing-room :
      (rows : List ℕ) (left next m : ℕ) → Pairing rows left next m → m < used → count + (used - start) ≤ 193 → length rows₀ ≡ 576 → next * 3 + 2 < length rows
  pairing-room rows left next m s h few size = omega (arith, s.long, s.here, s.low)

  pub pairing-done : (rows : List ℕ) (left next m : ℕ) → Pairing rows left next m → used ≤ m → Paired start used count pending rows₀ rows
  unfolding pair_rows
  pairing-done rows left next m s h =
      let z : count + (used - start) - 1 ≡ next = omega (arith, s.low, s.high, s.here) in
      record {
        long = s.long;
        put = rw z (sym (append-nil (take (next * 3) rows)) ∙ sym (ap (λ (y : List ℕ). take (next * 3) rows ++ pair_rows next left y) (between-end m used pending h)) ∙ s.put);
      }
