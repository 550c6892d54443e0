-- What is known after i turns of the pass over the runs, of the one over the entries, and of those over unused places.
use Prim.Native.Nat.{ℕ, zero, suc, ◌+◌, ◌-◌, ◌≤◌, ◌<◌}
use native.Mathlib.Numerals.{add-one}
use native.Mathlib.Omega.{arith}
use mathlib.Core.Path.{◌≡◌, refl, sym, ap, ◌∙◌}
use mathlib.Core.Bool.{Bool, true, false, ◌&&◌, ◌||◌, false≢true}
use mathlib.Core.List.{List}
use lib.Bits.{bit_or}
use lib.Dec.{leb, eqb, leb-zero}
use lib.ListN.{get_or}
use lib.Seq.{get_or-take, get_or-drop}
use borrow.Rule.Slice.PartMut.{mid_of}
use Rattle.lists.specs.Below.{all_below, any_below, sum_below}
use Rattle.lists.proofs.Logic.{and_l, and_r, both, decided}
use Rattle.lists.proofs.All.{all_none, all_more, all_step, all_at, all_end, or_zero}
use Rattle.lists.proofs.Any.{any_none, any_step, any_end}
use Rattle.lists.proofs.Sums.{sum_none, sum_more, sum_end}
use Rattle.geometry.specs.Geometry.{most_held, page_of}
use Rattle.fields.specs.declared.Entry.{Entry}
use Rattle.fields.specs.declared.Fields.{Fields}
use Rattle.fields.specs.Fields.{run_at, entry_at, end_of}
use Rattle.fields.specs.Rules.{run_right_at, rises_at, runs_rise, count_at, pages_few, code_at, some_code, param_at, param_pages_at, one_param, runs_right, in_code, lengths_right, entry_right_at, later_at, entries_rise, entries_right}

-- a test of each two neighbours: the one at place i is of i - 1 and i
abbrev before : (ℕ → Bool) → ℕ → Bool
before p zero = true
before p (suc i) = p i

chain_step : (p : ℕ → Bool) (i : ℕ) (ok t : Bool) → ok ≡ all_below (i - 1) p → t ≡ before p i → ok && t ≡ all_below (i + 1 - 1) p
unfolding all_below
chain_step p zero ok t h e = rw (h, e)
chain_step p (suc i) ok t h e =
    let n : suc i - 1 ≡ i = omega arith in
    let m : suc i + 1 - 1 ≡ suc i = omega arith in
    rw (m, h, n, e)

chain_end : (p : ℕ → Bool) (n i : ℕ) (ok : Bool) → i ≤ n → n ≤ i → ok ≡ all_below (i - 1) p → ok ≡ all_below (n - 1) p
chain_end p n i ok a b h = all_end p (n - 1) (i - 1) ok (omega arith) (omega arith) h

before_true : (p : ℕ → Bool) (n i : ℕ) → i < n → all_below (n - 1) p ≡ true → before p i ≡ true
before_true p n zero l h = refl
before_true p n (suc i) l h = all_at p (n - 1) h i (omega arith)

-- ---- runs

-- where the run before place i ends
abbrev pub end_before : Fields → ℕ → ℕ
end_before f zero = 0
end_before f (suc i) = end_of (run_at f i)

rises : (f : Fields) (i : ℕ) → leb (end_before f i) (run_at f i).first ≡ before (rises_at f) i
rises f zero = leb-zero (run_at f zero).first
rises f (suc i) = rw add-one

pub record Runs (f : Fields) (i : ℕ) (each rise : Bool) (at held : ℕ) (code : Bool) (params pages : ℕ) : Type 0 where
  pub each_is : each ≡ all_below i (run_right_at f)
  pub rise_is : rise ≡ all_below (i - 1) (rises_at f)
  pub at_is : at ≡ end_before f i
  pub held_is : held ≡ sum_below i (count_at f)
  pub code_is : code ≡ any_below i (code_at f)
  pub params_is : params ≡ sum_below i (param_at f)
  pub pages_is : pages ≡ sum_below i (param_pages_at f)

pub runs_none : (f : Fields) → Runs f 0 true true 0 0 false 0 0
runs_none f = record {
  each_is = all_none (run_right_at f);
  rise_is = all_none (rises_at f);
  at_is = refl;
  held_is = sum_none (count_at f);
  code_is = any_none (code_at f);
  params_is = sum_none (param_at f);
  pages_is = sum_none (param_pages_at f);
}

pub runs_step : (f : Fields) (i : ℕ) (each rise : Bool) (at held : ℕ) (code : Bool) (params pages : ℕ) (t : Bool) (end : ℕ) (s : Bool) (p q : ℕ)
    → Runs f i each rise at held code params pages
    → t ≡ run_right_at f i → end ≡ end_of (run_at f i) → s ≡ code_at f i → p ≡ param_at f i → q ≡ param_pages_at f i
    → Runs f (i + 1) (each && t) (rise && leb at (run_at f i).first) end (held + count_at f i) (code || s) (params + p) (pages + q)
runs_step f i each rise at held code params pages t end s p q h e1 e2 e3 e4 e5 = record {
  each_is = all_step (run_right_at f) i each t h.each_is e1;
  rise_is = chain_step (rises_at f) i rise (leb at (run_at f i).first) h.rise_is (ap (λ (n : ℕ). leb n (run_at f i).first) h.at_is ∙ rises f i);
  at_is = rw add-one e2;
  held_is = sum_more (count_at f) i held h.held_is;
  code_is = any_step (code_at f) i code s h.code_is e3;
  params_is = ap (λ (n : ℕ). params + n) e4 ∙ sum_more (param_at f) i params h.params_is;
  pages_is = ap (λ (n : ℕ). pages + n) e5 ∙ sum_more (param_pages_at f) i pages h.pages_is;
}

pub runs_end : (f : Fields) (i : ℕ) (each rise : Bool) (at held : ℕ) (code : Bool) (params pages : ℕ) → i ≤ f.r → f.r ≤ i
    → Runs f i each rise at held code params pages
    → each && (rise && (leb held most_held && (code && (eqb params 1 && eqb pages 1)))) ≡ runs_right f
unfolding runs_right runs_rise pages_few some_code one_param
runs_end f i each rise at held code params pages a b h =
    rw (
      all_end (run_right_at f) f.r i each a b h.each_is,
      chain_end (rises_at f) f.r i rise a b h.rise_is,
      sum_end (count_at f) f.r i held a b h.held_is,
      any_end (code_at f) f.r i code a b h.code_is,
      sum_end (param_at f) f.r i params a b h.params_is,
      sum_end (param_pages_at f) f.r i pages a b h.pages_is,
    )

-- ---- entries

-- the least address that entry i may have
abbrev pub least_at : Fields → ℕ → ℕ
least_at f zero = 0
least_at f (suc i) = (entry_at f i).address + 1

later : (f : Fields) (i : ℕ) → leb (least_at f i) (entry_at f i).address ≡ before (later_at f) i
later f zero = leb-zero (entry_at f zero).address
later f (suc i) = rw (add-one, add-one)

-- the code's test of entry i
abbrev pub entry_test : Fields → ℕ → ℕ → Bool
entry_test f i least = (lengths_right (entry_at f i) && leb least (entry_at f i).address) && in_code f (page_of (entry_at f i).address)

pub record Entries (f : Fields) (i least : ℕ) : Type 0 where
  pub each : true ≡ all_below i (entry_right_at f)
  pub rise : true ≡ all_below (i - 1) (later_at f)
  pub least_is : least ≡ least_at f i

pub entries_none : (f : Fields) → Entries f 0 0
entries_none f = record { each = all_none (entry_right_at f); rise = all_none (later_at f); least_is = refl }

module _ (f : Fields) (i least : ℕ) (h : Entries f i least) where
  abbrev x : Entry
  x = entry_at f i

  -- entry i is later than the one before where its address is not under the least
  since : leb least x.address ≡ before (later_at f) i
  since = ap (λ (n : ℕ). leb n x.address) h.least_is ∙ later f i

  pub entries_step : entry_test f i least ≡ true → Entries f (i + 1) (x.address + 1)
  entries_step t =
      let a = and_l (lengths_right x && leb least x.address) _ t in
      let b = and_r (lengths_right x && leb least x.address) _ t in
      record {
        each = all_more (entry_right_at f) i h.each (both (in_code f (page_of x.address)) _ b (and_l (lengths_right x) _ a));
        rise = chain_step (later_at f) i true true h.rise (sym (and_r (lengths_right x) _ a) ∙ since);
        least_is = ap (least_at f) (sym (add-one i));
      }

  -- an entry that fails: were all right, it would not
  pub entries_wrong : i < f.e → entry_test f i least ≡ false → false ≡ entries_right f
  unfolding entries_right entries_rise
  entries_wrong l t = decided (entries_right f) (λ g. absurd (false≢true (sym t ∙ passes g))) (λ g. sym g)
    where
      passes : all_below f.e (entry_right_at f) && all_below (f.e - 1) (later_at f) ≡ true → entry_test f i least ≡ true
      passes g =
          let a = all_at (entry_right_at f) f.e (and_l (all_below f.e (entry_right_at f)) _ g) i l in
          let b = before_true (later_at f) f.e i l (and_r (all_below f.e (entry_right_at f)) _ g) in
          both (lengths_right x && leb least x.address) _
          (both (lengths_right x) _ (and_r (in_code f (page_of x.address)) _ a) (since ∙ b))
          (and_l (in_code f (page_of x.address)) _ a)

  pub entries_end : i ≤ f.e → f.e ≤ i → true ≡ entries_right f
  unfolding entries_right entries_rise
  entries_end a b = rw (← all_end (entry_right_at f) f.e i true a b h.each, ← chain_end (later_at f) f.e i true a b h.rise)

-- ---- unused places, three fields at once

-- a place of what follows the first r
pub left_at : {A : Type 0} (xs : List A) (r k j : ℕ) (d : A) → j < k → get_or (mid_of r k xs) j d ≡ get_or xs (r + j) d
left_at xs r k j d h = rw (get_or-take, get_or-drop)

three : (a b c x y z : Bool) → (a && x) && ((b && y) && (c && z)) ≡ (a && (b && c)) && (x && (y && z))
three false b c x y z = refl
three true false c false y z = refl
three true false c true y z = refl
three true true false false y z = refl
three true true false true false z = refl
three true true false true true z = refl
three true true true false y z = refl
three true true true true y z = refl

pub zeros_step : (p : ℕ → Bool) (i a b c x y z : ℕ) → eqb a 0 && (eqb b 0 && eqb c 0) ≡ all_below i p → eqb x 0 && (eqb y 0 && eqb z 0) ≡ p i
    → eqb (bit_or a x) 0 && (eqb (bit_or b y) 0 && eqb (bit_or c z) 0) ≡ all_below (i + 1) p
zeros_step p i a b c x y z h e =
    rw (or_zero a x, or_zero b y, or_zero c z, three (eqb a 0) (eqb b 0) (eqb c 0) (eqb x 0) (eqb y 0) (eqb z 0))
    (all_step p i (eqb a 0 && (eqb b 0 && eqb c 0)) (eqb x 0 && (eqb y 0 && eqb z 0)) h e)
