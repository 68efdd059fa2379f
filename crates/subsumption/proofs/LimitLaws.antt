-- Check 1.
use Rattle.std.specs.Prelude.{Err}
use Prim.Native.Nat.{ℕ, ◌%◌, ◌/◌, ◌<◌, ◌≤◌}
use mathlib.Core.Path.{◌≡◌}
use mathlib.Core.Bool.{Bool, true, false}
use mathlib.Core.List.{List}
use lib.Dec.{ltb}
use lib.ListN.{length}
use borrow.Author.Tests.{eq-eqb, ne_eqb, lt-ltb, le-ltb}
use Rattle.subsumption.specs.declared.refusal.Refusal.TheVariants.{Limit}
use Rattle.subsumption.specs.Tables.{tables, or}
use Rattle.subsumption.specs.Refusal.{or_else, refuse_if, Done}
use Rattle.subsumption.specs.Check.{unfit, limit_fault}

pub ragged : (width limit : ℕ) (numbers : List ℕ) → (length numbers % width ≡ 0 → ⊥) → true ≡ unfit width limit numbers
unfolding unfit or
ragged width limit numbers h = rw (ne_eqb (length numbers % width) 0 h)

pub even-rows : (width limit : ℕ) (numbers : List ℕ) → length numbers % width ≡ 0 → ltb limit (length numbers / width) ≡ unfit width limit numbers
unfolding unfit or
even-rows width limit numbers h = rw (eq-eqb (length numbers % width) 0 h)

module _ (cs is qs rs : List ℕ) (v : ℕ) where
  pub limit-concepts : (a : Bool) → a ≡ unfit 3 192 cs → a ≡ true → Err (Limit 0) ≡ limit_fault (tables cs is qs rs v)
  unfolding limit_fault or_else refuse_if
  limit-concepts a ea ha = rw (← ea, ha)

  pub limit-inclusions : (a b : Bool) → a ≡ unfit 3 192 cs → a ≡ false → b ≡ unfit 2 96 is → b ≡ true → Err (Limit 1) ≡ limit_fault (tables cs is qs rs v)
  unfolding limit_fault or_else refuse_if
  limit-inclusions a b ea ha eb hb = rw (← ea, ha, ← eb, hb)

  pub limit-questions :
      (a b c : Bool) → a ≡ unfit 3 192 cs → a ≡ false → b ≡ unfit 2 96 is → b ≡ false → c ≡ unfit 2 32 qs → c ≡ true
      → Err (Limit 2) ≡ limit_fault (tables cs is qs rs v)
  unfolding limit_fault or_else refuse_if
  limit-questions a b c ea ha eb hb ec hc = rw (← ea, ha, ← eb, hb, ← ec, hc)

  pub limit-variables :
      (a b c : Bool) → a ≡ unfit 3 192 cs → a ≡ false → b ≡ unfit 2 96 is → b ≡ false → c ≡ unfit 2 32 qs → c ≡ false
      → 8 < v → Err (Limit 3) ≡ limit_fault (tables cs is qs rs v)
  unfolding limit_fault or_else refuse_if
  limit-variables a b c ea ha eb hb ec hc h = rw (← ea, ha, ← eb, hb, ← ec, hc, lt-ltb 8 v h)

  module _ (a b c : Bool) (ea : a ≡ unfit 3 192 cs) (ha : a ≡ false) (eb : b ≡ unfit 2 96 is) (hb : b ≡ false) (ec : c ≡ unfit 2 32 qs) (hc : c ≡ false)
      (h : v ≤ 8) (d : Bool) (ed : d ≡ unfit 2 32 rs) where
    pub limit-roles : d ≡ true → Err (Limit 4) ≡ limit_fault (tables cs is qs rs v)
    unfolding limit_fault or_else refuse_if
    limit-roles hd = rw (← ea, ha, ← eb, hb, ← ec, hc, le-ltb 8 v h, ← ed, hd)

    pub limit-none : d ≡ false → Done ≡ limit_fault (tables cs is qs rs v)
    unfolding limit_fault or_else refuse_if
    limit-none hd = rw (← ea, ha, ← eb, hb, ← ec, hc, le-ltb 8 v h, ← ed, hd)
