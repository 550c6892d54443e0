-- That every named page is open, asked page by page, is what the code asks run by run.
use Prim.Native.Nat.{ℕ, ◌+◌, ◌-◌, ◌≤◌, ◌<◌}
use native.Mathlib.Omega.{arith}
use mathlib.Core.Path.{◌≡◌, sym, subst}
use mathlib.Core.Bool.{true, ◌&&◌}
use lib.Dec.{ltb, eqb}
use borrow.Author.Tests.{leb-true, ltb-true, le-leb, lt-ltb}
use Rattle.lists.specs.Below.{all_below}
use Rattle.lists.proofs.Logic.{and_l, and_r, both, decided, iff}
use Rattle.lists.proofs.All.{all_at, all_of}
use Rattle.lists.proofs.Any.{Found, any_find, any_hit}
use Rattle.geometry.specs.Geometry.{most_pages}
use Rattle.fields.specs.declared.Fields.{Fields}
use Rattle.fields.specs.Fields.{run_at, end_of}
use Rattle.fields.specs.Rules.{holds}
use Rattle.fields.specs.Pages.{holds_at, has_page, under_at, pages_under}
use Rattle.fields.proofs.Facts.{Kept}
use Rattle.fields.proofs.PageLaws.{held, holds_of}
use Rattle.painting.specs.Painting.{RunsFit, owned_from, owned_run}
use Rattle.state.specs.Face.{Face, owner_at, is_open}
use Rattle.rules.specs.Tests.{open_if_named, all_open}

-- what keeps the rules fits the table
pub kept_fit : (x : Fields) → Kept x → RunsFit x
kept_fit x k = record { few = k.bounds.few_runs; fits = λ i l. (k.runs_of.run i l).last }

in_run : (x : Fields) (i p : ℕ) → i < x.r → holds (run_at x i) p ≡ true → has_page x p ≡ true
unfolding has_page
in_run x i p l h = sym (any_hit (holds_at x p) x.r i l h)

run_of : (x : Fields) (p : ℕ) → has_page x p ≡ true → Found (holds_at x p) x.r
unfolding has_page
run_of x p h = any_find (holds_at x p) x.r h

module _ (f : Face) (x : Fields) (k : Kept x) where
  open_page : all_open f x ≡ true → (i p : ℕ) → i < x.r → (run_at x i).first ≤ p → p < end_of (run_at x i) → is_open f p ≡ true
  unfolding all_open
  open_page h i p l a b =
      let t = all_at (open_if_named f x) most_pages h p (omega (arith, (k.runs_of.run i l).last)) in
      rw (in_run x i p l (holds_of (run_at x i) p a b)) at t

  under : all_open f x ≡ true → (i : ℕ) → i < x.r → under_at x f.pages i ≡ true
  under h i l =
      let r = run_at x i in
      let z = (k.runs_of.run i l).pages in
      let o = open_page h i (end_of r - 1) l (omega arith) (omega arith) in
      let b = ltb-true (end_of r - 1) f.pages (and_l (ltb (end_of r - 1) f.pages) _ o) in
      le-leb (end_of r) f.pages (omega arith)

  owned : all_open f x ≡ true → (i : ℕ) → i < x.r → owned_run f.owner x.runs 0 i ≡ true
  owned h i l =
      let r = run_at x i in
      all_of (owned_from f.owner r.first 0) r.count
      (λ j m. let o = open_page h i (r.first + j) l (omega arith) (omega arith) in
      and_r (ltb (r.first + j) f.pages) _ o)

  back : pages_under x f.pages ≡ true → all_below x.r (owned_run f.owner x.runs 0) ≡ true → (p : ℕ) → has_page x p ≡ true → is_open f p ≡ true
  unfolding pages_under
  back u o p h =
      let w = run_of x p h in
      let r = run_at x w.at in
      let g = held r p w.is in
      let a = leb-true (end_of r) f.pages (all_at (under_at x f.pages) x.r u w.at w.below) in
      let j : ℕ = p - r.first in
      let b = all_at (owned_from f.owner r.first 0) r.count (all_at (owned_run f.owner x.runs 0) x.r o w.at w.below) (p - r.first) (omega (arith, g.from, g.under)) in
      let e : r.first + (p - r.first) ≡ p = omega (arith, g.from) in
      both (ltb p f.pages) _ (lt-ltb p f.pages (omega (arith, g.under))) (subst (λ (q : ℕ). eqb (owner_at f q) 0 ≡ true) e b)

  there : all_open f x ≡ true → pages_under x f.pages && all_below x.r (owned_run f.owner x.runs 0) ≡ true
  unfolding pages_under
  there h =
      both (all_below x.r (under_at x f.pages)) _
      (all_of (under_at x f.pages) x.r (under h))
      (all_of (owned_run f.owner x.runs 0) x.r (owned h))

  here : pages_under x f.pages && all_below x.r (owned_run f.owner x.runs 0) ≡ true → all_open f x ≡ true
  unfolding all_open
  here h =
      all_of (open_if_named f x) most_pages
      (λ p m. decided (has_page x p)
      (λ t. rw t (back (and_l (pages_under x f.pages) _ h) (and_r (pages_under x f.pages) _ h) p t))
      (λ t. rw t))

  pub open_same : pages_under x f.pages && all_below x.r (owned_run f.owner x.runs 0) ≡ all_open f x
  open_same = iff _ _ here there

  -- where all are open, all runs lie in memory
  pub open_in : all_open f x ≡ true → (i : ℕ) → i < x.r → end_of (run_at x i) ≤ f.pages
  open_in h i l = leb-true (end_of (run_at x i)) f.pages (under h i l)
