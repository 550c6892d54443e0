-- What each step of the reader says of the whole.
use mathlib.Core.Path.{◌≡◌, refl, sym, ap, ◌∙◌}
use mathlib.Core.Bool.{Bool, true, false, ◌&&◌, and-false, true≢false}
use mathlib.Core.List.{List, []}
use Prim.Native.Nat.{ℕ, ◌+◌, ◌*◌, ◌≤◌, ◌<◌}
use native.Mathlib.Omega.{arith}
use lib.Dec.{leb, eqb}
use lib.ListN.{length, get_or}
use borrow.Author.Tests.{eqb-true, le-leb, lt-leb}
use Rattle.lists.specs.Below.{pick, all_below}
use Rattle.lists.specs.Bytes.{part}
use Rattle.lists.specs.Numbers.{little_at}
use Rattle.lists.proofs.Logic.{and_l, and_r}
use Rattle.lists.proofs.All.{all_stop, all_of}
use Rattle.fields.specs.declared.Run.{Run}
use Rattle.fields.specs.declared.Entry.{Entry}
use Rattle.fields.specs.declared.Fields.{Fields}
use Rattle.fields.specs.Fields.{no_run, no_entry, run_at, entry_at, fields_of}
use Rattle.fields.specs.Rules.{counts_right, run_right, run_right_at, runs_right, lengths_right, entry_right_at, entries_right, keeps_rules}
use Rattle.fields.proofs.Facts.{Counts, counts}
use Rattle.std.specs.Prelude.{Some, None}
use Rattle.manifest.specs.declared.Counts as two
use Rattle.manifest.specs.Layout.{size_of, fixed, run_in, entry_in, run_in_at, entry_in_at, placed, fields_at}
use Rattle.manifest.specs.Reader.{
  equal,
  trailer_at,
  runs_in,
  entries_in,
  trailer_right,
  trailed,
  trailer_of,
  blank,
  blank_at,
  run_of,
  entry_of,
  fields_in,
  accepts,
  refused_reading,
  read_manifest,
}
use Rattle.manifest.proofs.Equal.{equal_true}
use Rattle.manifest.proofs.Places.{placed_in}

-- of two different answers the second was picked: the test has failed
second : {A : Type 0} (b : Bool) (x y : A) → (x ≡ y → true ≡ false) → pick b x y ≡ y → b ≡ false
second true x y n e = n e
second false x y n e = refl

-- what a trailer at t says
pub record Trailer (l : List ℕ) (t r e : ℕ) : Type 0 where
  pub word : part l t 5 ≡ fixed
  pub bounds : Counts (fields_of r e [] [])
  pub zero : get_or l (t + 7) 0 ≡ 0
  pub size : length l ≡ 8 * (r + e) + 16
  pub runs_back : little_at 4 l (t + 8) ≡ 8 * (r + e)
  pub entries_back : little_at 4 l (t + 12) ≡ 8 * e

pub trailer_facts : (l : List ℕ) (t r e : ℕ) → trailer_right l t r e ≡ true → Trailer l t r e
unfolding trailer_right
trailer_facts l t r e h =
    let a = and_r (equal (part l t 5) fixed) _ h in
    let b = and_r (counts_right (fields_of r e [] [])) _ a in
    let c = and_r (eqb (get_or l (t + 7) 0) 0) _ b in
    let d = and_r (eqb (length l) (size_of r e)) _ c in
    record {
      word = equal_true (part l t 5) fixed (and_l _ _ h);
      bounds = counts (fields_of r e [] []) (and_l _ _ a);
      zero = eqb-true _ _ (and_l _ _ b);
      size = eqb-true _ _ (and_l _ _ c);
      runs_back = eqb-true _ _ (and_l _ _ d);
      entries_back = eqb-true _ _ (and_r (eqb (little_at 4 l (t + 8)) (8 * (r + e))) _ d);
    }

-- r and e were taken from the trailer of l
pub record Got (l : List ℕ) (r e : ℕ) : Type 0 where
  pub is : trailed l ≡ true
  pub r_is : r ≡ runs_in l
  pub e_is : e ≡ entries_in l
  pub some_runs : 2 ≤ r
  pub few_runs : r ≤ 4
  pub some_entries : 1 ≤ e
  pub few_entries : e ≤ 8
  pub size : length l ≡ 8 * (r + e) + 16

pub got : (l : List ℕ) → trailed l ≡ true → Got l (runs_in l) (entries_in l)
got l h =
    let y = trailer_facts l (trailer_at l) (runs_in l) (entries_in l) (and_r (leb 16 (length l)) _ h) in
    record {
      is = h;
      r_is = refl;
      e_is = refl;
      some_runs = y.bounds.some_runs;
      few_runs = y.bounds.few_runs;
      some_entries = y.bounds.some_entries;
      few_entries = y.bounds.few_entries;
      size = y.size;
    }

pub trailer_got : (l : List ℕ) (n : two.Counts) → trailer_of l ≡ Some n → Got l n.r n.e
unfolding trailer_of
trailer_got l n h = go (trailed l) refl h
  where
    go : (b : Bool) → trailed l ≡ b → pick b (Some (record { r = runs_in l; e = entries_in l })) None ≡ Some n → Got l n.r n.e
    go true e k = let q : n ≡ record { r = runs_in l; e = entries_in l } = cc in rw q (got l e)
    go false e k = let z : true ≡ false = cc in absurd (true≢false z)

-- the test that the reader makes of the trailer
pub trailer_test : (l : List ℕ) (t r e : ℕ) (a b : Bool) (x y : ℕ) → a ≡ equal (part l t 5) fixed → b ≡ counts_right (fields_of r e [] []) → x ≡ little_at 4 l (t + 8) → y ≡ little_at 4 l (t + 12)
    → a && (b && (eqb (get_or l (t + 7) 0) 0 && (eqb (length l) (size_of r e) && (eqb x (8 * (r + e)) && eqb y (8 * e))))) ≡ trailer_right l t r e
unfolding trailer_right
trailer_test l t r e a b x y p q f g = rw (p, q, f, g)

-- the trailer's two answers, by a test that was made with r and e
pub trailer_is : (l : List ℕ) (r e : ℕ) (b : Bool) → 16 ≤ length l → r ≡ runs_in l → e ≡ entries_in l → b ≡ trailer_right l (trailer_at l) r e → b ≡ true
    → Some (record { r = r; e = e }) ≡ trailer_of l
unfolding trailer_of
trailer_is l r e b h p q t y =
    let z : trailer_right l (trailer_at l) (runs_in l) (entries_in l) ≡ true = rw (p, q) at (sym t ∙ y) in
    rw (le-leb 16 (length l) h, z) (λ i. Some (record { r = p i; e = q i }))

pub trailer_bad : (l : List ℕ) (r e : ℕ) (b : Bool) → r ≡ runs_in l → e ≡ entries_in l → b ≡ trailer_right l (trailer_at l) r e → b ≡ false → None ≡ trailer_of l
unfolding trailer_of
trailer_bad l r e b p q t y =
    let z : trailer_right l (trailer_at l) (runs_in l) (entries_in l) ≡ false = rw (p, q) at (sym t ∙ y) in
    rw (z, and-false)

pub trailer_short : (l : List ℕ) → length l < 16 → None ≡ trailer_of l
unfolding trailer_of
trailer_short l h = rw (lt-leb 16 (length l) h)

pub trailer_not : (l : List ℕ) → trailer_of l ≡ None → trailed l ≡ false
unfolding trailer_of
trailer_not l h = second (trailed l) _ _ (λ k. cc) h

-- an entry and a run that were read, or not
pub entry_got : (l : List ℕ) (at : ℕ) (x : Entry) → entry_of l at ≡ Some x → x ≡ entry_in l at
unfolding entry_of
entry_got l at x e = go (lengths_right (entry_in l at)) e
  where
    go : (b : Bool) → pick b (Some (entry_in l at)) None ≡ Some x → x ≡ entry_in l at
    go true h = cc
    go false h = cc

pub entry_is : (l : List ℕ) (at : ℕ) (x : Entry) → x ≡ entry_in l at → lengths_right x ≡ true → Some x ≡ entry_of l at
unfolding entry_of
entry_is l at x e h = rw (ap lengths_right (sym e) ∙ h) (ap Some e)

pub entry_bad : (l : List ℕ) (at : ℕ) (x : Entry) → x ≡ entry_in l at → lengths_right x ≡ false → None ≡ entry_of l at
unfolding entry_of
entry_bad l at x e h = rw (ap lengths_right (sym e) ∙ h)

pub entry_not : (l : List ℕ) (at : ℕ) → entry_of l at ≡ None → lengths_right (entry_in l at) ≡ false
unfolding entry_of
entry_not l at e = second (lengths_right (entry_in l at)) _ _ (λ k. cc) e

pub run_got : (l : List ℕ) (at : ℕ) (x : Run) → run_of l at ≡ Some x → (x ≡ run_in l at) × (blank l at ≡ true)
unfolding run_of
run_got l at x e = go (blank l at) (run_right (run_in l at)) e
  where
    go : (b d : Bool) → pick (b && d) (Some (run_in l at)) None ≡ Some x → (x ≡ run_in l at) × (b ≡ true)
    go true true h = (cc, refl)
    go true false h = (cc, refl)
    go false d h = (cc, cc)

pub run_is : (l : List ℕ) (at : ℕ) (x : Run) (t : Bool) → x ≡ run_in l at → t ≡ run_right x → blank l at && t ≡ true → Some x ≡ run_of l at
unfolding run_of
run_is l at x t e q h = rw (ap (λ (y : Run). blank l at && run_right y) (sym e) ∙ ap (λ (b : Bool). blank l at && b) (sym q) ∙ h) (ap Some e)

pub run_bad : (l : List ℕ) (at : ℕ) (x : Run) (t : Bool) → x ≡ run_in l at → t ≡ run_right x → blank l at && t ≡ false → None ≡ run_of l at
unfolding run_of
run_bad l at x t e q h = rw (ap (λ (y : Run). blank l at && run_right y) (sym e) ∙ ap (λ (b : Bool). blank l at && b) (sym q) ∙ h)

pub run_not : (l : List ℕ) (at : ℕ) → run_of l at ≡ None → blank l at && run_right (run_in l at) ≡ false
unfolding run_of
run_not l at e = second (blank l at && run_right (run_in l at)) _ _ (λ k. cc) e

-- a run or an entry that breaks a rule breaks the whole
pub run_breaks : (f : Fields) (k : ℕ) → k < f.r → run_right (run_at f k) ≡ false → keeps_rules f ≡ false
unfolding keeps_rules runs_right
run_breaks f k l h = simp (sym (all_stop (run_right_at f) f.r k l h), and-false)

pub entry_breaks : (f : Fields) (k : ℕ) → k < f.e → lengths_right (entry_at f k) ≡ false → keeps_rules f ≡ false
unfolding keeps_rules entries_right
entry_breaks f k l h =
    let t : entry_right_at f k ≡ false = rw (h, and-false) in
    simp (sym (all_stop (entry_right_at f) f.e k l t), and-false)

-- ---- each way out of the reader

pub out_trailer : (l : List ℕ) → trailer_of l ≡ None → refused_reading ≡ read_manifest l
unfolding read_manifest accepts
out_trailer l h = rw (trailer_not l h)

module _ (l : List ℕ) (r e : ℕ) (g : Got l r e) where
  -- the fields in l are broken
  out_rules : keeps_rules (fields_at l r e) ≡ false → refused_reading ≡ read_manifest l
  unfolding read_manifest accepts
  out_rules h =
      let a : keeps_rules (fields_in l) ≡ false = ap (λ (k : ℕ). keeps_rules (fields_at l k (entries_in l))) (sym g.r_is) ∙ ap (λ (k : ℕ). keeps_rules (fields_at l r k)) (sym g.e_is) ∙ h in
      simp (a, and-false)

  pub out_entry : (k : ℕ) → k < e → entry_of l (8 * r + 8 * k) ≡ None → refused_reading ≡ read_manifest l
  unfolding fields_at
  out_entry k b h =
      out_rules
      (entry_breaks (fields_at l r e) k b (ap lengths_right (placed_in 8 e (entry_in_at l r) no_entry no_entry k b g.few_entries) ∙ entry_not l (8 * r + 8 * k) h))

  out_blank : (k : ℕ) → k < r → blank_at l k ≡ false → refused_reading ≡ read_manifest l
  unfolding read_manifest accepts
  out_blank k b h =
      let a : all_below (runs_in l) (blank_at l) ≡ false = ap (λ (n : ℕ). all_below n (blank_at l)) (sym g.r_is) ∙ sym (all_stop (blank_at l) r k b h) in
      simp (a, and-false)

  pub out_run : (k : ℕ) → k < r → run_of l (8 * k) ≡ None → refused_reading ≡ read_manifest l
  unfolding fields_at
  out_run k b h = go (blank_at l k) refl
    where
      go : (t : Bool) → blank_at l k ≡ t → refused_reading ≡ read_manifest l
      go false q = out_blank k b q
      go true q =
          let x = run_not l (8 * k) h in
          let y : run_right (run_in_at l k) ≡ false = rw q at x in
          out_rules (run_breaks (fields_at l r e) k b (ap run_right (placed_in 4 r (run_in_at l) no_run no_run k b g.few_runs) ∙ y))

  module _ (runs : List Run) (entries : List Entry) (p : runs ≡ placed 4 0 r (run_in_at l) no_run) (q : entries ≡ placed 8 0 e (entry_in_at l r) no_entry) where
    made : fields_of r e runs entries ≡ fields_at l r e
    unfolding fields_at
    made = λ i. fields_of r e (p i) (q i)

    pub out_broken : keeps_rules (fields_of r e runs entries) ≡ false → refused_reading ≡ read_manifest l
    out_broken h = out_rules (sym (ap keeps_rules made) ∙ h)

    pub out_yes : ((k : ℕ) → 0 ≤ k → k < r → blank_at l k ≡ true) → keeps_rules (fields_of r e runs entries) ≡ true
        → record { refusal = 0; fields = fields_of r e runs entries } ≡ read_manifest l
    unfolding read_manifest accepts
    out_yes z h =
        let m : fields_of r e runs entries ≡ fields_in l = made ∙ ap (λ (k : ℕ). fields_at l k e) g.r_is ∙ ap (fields_at l (runs_in l)) g.e_is in
        let a : keeps_rules (fields_in l) ≡ true = sym (ap keeps_rules m) ∙ h in
        let b : all_below (runs_in l) (blank_at l) ≡ true = ap (λ (n : ℕ). all_below n (blank_at l)) (sym g.r_is) ∙ all_of (blank_at l) r (λ k x. z k (omega arith) x) in
        simp (g.is, b, a) (λ i. record { refusal = 0; fields = m i })
