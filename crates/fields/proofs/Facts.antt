-- What the rules say of fields that keep them, as facts.
use Prim.Native.Nat.{ℕ, ◌+◌, ◌-◌, ◌≤◌, ◌<◌}
use mathlib.Core.Path.{◌≡◌}
use mathlib.Core.Bool.{true, ◌&&◌}
use lib.Dec.{leb, eqb}
use borrow.Author.Tests.{leb-true, ltb-true, eqb-true, le-ltb}
use Rattle.lists.specs.Below.{all_below, any_below, sum_below}
use Rattle.lists.proofs.Logic.{and_l, and_r}
use Rattle.lists.proofs.All.{all_at}
use Rattle.geometry.specs.Geometry.{page_of}
use Rattle.fields.specs.declared.Run.{Run}
use Rattle.fields.specs.declared.Entry.{Entry}
use Rattle.fields.specs.declared.Fields.{Fields}
use Rattle.fields.specs.Fields.{no_run, no_entry, run_at, entry_at, end_of}
use Rattle.fields.specs.Rules.{counts_right, run_right, run_right_at, rises_at, runs_rise, count_at, pages_few, code_at, some_code, param_at, param_pages_at, one_param, runs_right, in_code, lengths_right, entry_right_at, later_at, entries_rise, entries_right, run_zero, entry_zero, run_free_at, entry_free_at, unused_zero, keeps_rules}

-- the counts in their bounds
pub record Counts (f : Fields) : Type 0 where
  pub some_runs : 2 ≤ f.r
  pub few_runs : f.r ≤ 4
  pub some_entries : 1 ≤ f.e
  pub few_entries : f.e ≤ 8

pub counts : (f : Fields) → counts_right f ≡ true → Counts f
unfolding counts_right
counts f h =
    let a = and_l (leb 2 f.r && leb f.r 4) (leb 1 f.e && leb f.e 8) h in
    let b = and_r (leb 2 f.r && leb f.r 4) (leb 1 f.e && leb f.e 8) h in
    record {
      some_runs = leb-true 2 f.r (and_l _ _ a);
      few_runs = leb-true f.r 4 (and_r (leb 2 f.r) _ a);
      some_entries = leb-true 1 f.e (and_l _ _ b);
      few_entries = leb-true f.e 8 (and_r (leb 1 f.e) _ b);
    }

-- one run
pub record RunFacts (x : Run) : Type 0 where
  pub least_kind : 1 ≤ x.kind
  pub most_kind : x.kind ≤ 4
  pub pages : 1 ≤ x.count
  pub last : end_of x ≤ 1024

pub run_facts : (x : Run) → run_right x ≡ true → RunFacts x
run_facts x h =
    let a = and_l (leb 1 x.kind && leb x.kind 4) (leb 1 x.count && leb (end_of x) 1024) h in
    let b = and_r (leb 1 x.kind && leb x.kind 4) (leb 1 x.count && leb (end_of x) 1024) h in
    record {
      least_kind = leb-true 1 x.kind (and_l _ _ a);
      most_kind = leb-true x.kind 4 (and_r (leb 1 x.kind) _ a);
      pages = leb-true 1 x.count (and_l _ _ b);
      last = leb-true (end_of x) 1024 (and_r (leb 1 x.count) _ b);
    }

-- all runs
pub record RunsFacts (f : Fields) : Type 0 where
  pub run : (k : ℕ) → k < f.r → RunFacts (run_at f k)
  pub rise : (k : ℕ) → k < f.r - 1 → end_of (run_at f k) ≤ (run_at f (k + 1)).first
  pub few : sum_below f.r (count_at f) ≤ 64
  pub code : any_below f.r (code_at f) ≡ true
  pub params : sum_below f.r (param_at f) ≡ 1
  pub param_pages : sum_below f.r (param_pages_at f) ≡ 1

pub runs_facts : (f : Fields) → runs_right f ≡ true → RunsFacts f
unfolding runs_right runs_rise pages_few some_code one_param
runs_facts f h =
    let a = and_r (all_below f.r (run_right_at f)) (runs_rise f && (pages_few f && (some_code f && one_param f))) h in
    let b = and_r (runs_rise f) (pages_few f && (some_code f && one_param f)) a in
    let d = and_r (pages_few f) (some_code f && one_param f) b in
    let e = and_r (some_code f) (one_param f) d in
    record {
      run = λ k l. run_facts (run_at f k) (all_at (run_right_at f) f.r (and_l _ _ h) k l);
      rise = λ k l. leb-true _ _ (all_at (rises_at f) (f.r - 1) (and_l _ _ a) k l);
      few = leb-true _ _ (and_l _ _ b);
      code = and_l _ _ d;
      params = eqb-true _ _ (and_l _ _ e);
      param_pages = eqb-true _ _ (and_r (eqb (sum_below f.r (param_at f)) 1) _ e);
    }

-- one entry
pub record EntryFacts (f : Fields) (x : Entry) : Type 0 where
  pub inside : in_code f (page_of x.address) ≡ true
  pub input : x.input ≤ 2048
  pub output : x.output ≤ 2048

pub lengths_facts : (x : Entry) → lengths_right x ≡ true → (x.input ≤ 2048) × (x.output ≤ 2048)
lengths_facts x h = (leb-true _ _ (and_l _ _ h), leb-true _ _ (and_r (leb x.input 2048) _ h))

-- all entries
pub record EntriesFacts (f : Fields) : Type 0 where
  pub entry : (k : ℕ) → k < f.e → EntryFacts f (entry_at f k)
  pub later : (k : ℕ) → k < f.e - 1 → (entry_at f k).address < (entry_at f (k + 1)).address

pub entries_facts : (f : Fields) → entries_right f ≡ true → EntriesFacts f
unfolding entries_right entries_rise
entries_facts f h =
    let a = and_l (all_below f.e (entry_right_at f)) (entries_rise f) h in
    let b = and_r (all_below f.e (entry_right_at f)) (entries_rise f) h in
    record {
      entry = λ k l.
          let t = all_at (entry_right_at f) f.e a k l in
          let n = lengths_facts (entry_at f k) (and_r (in_code f (page_of (entry_at f k).address)) (lengths_right (entry_at f k)) t) in
          record { inside = and_l _ _ t; input = n.0; output = n.1 };
      later = λ k l. ltb-true _ _ (all_at (later_at f) (f.e - 1) b k l);
    }

-- a run and an entry that are zero
pub run_zero_lem : (x : Run) → run_zero x ≡ true → x ≡ no_run
run_zero_lem x h =
    let a = and_r (eqb x.kind 0) (eqb x.count 0 && eqb x.first 0) h in
    let p : x.kind ≡ 0 = eqb-true _ _ (and_l _ _ h) in
    let q : x.count ≡ 0 = eqb-true _ _ (and_l _ _ a) in
    let r : x.first ≡ 0 = eqb-true _ _ (and_r (eqb x.count 0) _ a) in
    λ i. record { kind = p i; count = q i; first = r i }

pub entry_zero_lem : (x : Entry) → entry_zero x ≡ true → x ≡ no_entry
entry_zero_lem x h =
    let a = and_r (eqb x.address 0) (eqb x.input 0 && eqb x.output 0) h in
    let p : x.address ≡ 0 = eqb-true _ _ (and_l _ _ h) in
    let q : x.input ≡ 0 = eqb-true _ _ (and_l _ _ a) in
    let r : x.output ≡ 0 = eqb-true _ _ (and_r (eqb x.input 0) _ a) in
    λ i. record { address = p i; input = q i; output = r i }

-- unused places
pub record UnusedFacts (f : Fields) : Type 0 where
  pub run : (k : ℕ) → f.r ≤ k → k < 4 → run_at f k ≡ no_run
  pub entry : (k : ℕ) → f.e ≤ k → k < 8 → entry_at f k ≡ no_entry

pub unused_facts : (f : Fields) → unused_zero f ≡ true → UnusedFacts f
unfolding unused_zero
unused_facts f h =
    let a = and_l (all_below 4 (run_free_at f)) (all_below 8 (entry_free_at f)) h in
    let b = and_r (all_below 4 (run_free_at f)) (all_below 8 (entry_free_at f)) h in
    record {
      run = λ k p l. let t = all_at (run_free_at f) 4 a k l in run_zero_lem (run_at f k) (rw (le-ltb k f.r p) at t);
      entry = λ k p l. let t = all_at (entry_free_at f) 8 b k l in entry_zero_lem (entry_at f k) (rw (le-ltb k f.e p) at t);
    }

-- every rule
pub record Kept (f : Fields) : Type 0 where
  pub bounds : Counts f
  pub runs_of : RunsFacts f
  pub entries_of : EntriesFacts f
  pub unused : UnusedFacts f

pub kept : (f : Fields) → keeps_rules f ≡ true → Kept f
unfolding keeps_rules
kept f h =
    let a = and_r (counts_right f) (runs_right f && (entries_right f && unused_zero f)) h in
    let b = and_r (runs_right f) (entries_right f && unused_zero f) a in
    record {
      bounds = counts f (and_l _ _ h);
      runs_of = runs_facts f (and_l _ _ a);
      entries_of = entries_facts f (and_l _ _ b);
      unused = unused_facts f (and_r (entries_right f) _ b);
    }
