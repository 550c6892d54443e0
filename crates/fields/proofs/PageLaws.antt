-- The pages of fields that keep the rules: each in one run, the param page among them, and their list.
use Prim.Native.Nat.{ℕ, zero, suc, ◌+◌, ◌-◌, ◌*◌, ◌≤◌, ◌<◌}
use native.Mathlib.Omega.{arith}
use mathlib.Core.Path.{◌≡◌, refl, sym, subst, ◌∙◌}
use mathlib.Core.Bool.{Bool, true, false, ◌&&◌, ◌||◌, or-false, false≢true}
use mathlib.Core.Logic.{◌⊎◌, ⊎_elim}
use mathlib.Core.List.{List, [], ◌∷◌, ◌++◌}
use lib.Dec.{leb, ltb, eqb}
use lib.ListN.{length, length-append}
use borrow.Author.Tests.{leb-true, ltb-true, eqb-true, le-leb, lt-ltb, eq-eqb}
use Rattle.lists.specs.Below.{any_below, first_below, sum_below, table, joined}
use Rattle.lists.specs.Bytes.{counted}
use Rattle.lists.proofs.Logic.{and_l, and_r, both, or_cases, or_left, or_right, iff, decided, lt_or_ge}
use Rattle.lists.proofs.All.{all_at}
use Rattle.lists.proofs.Any.{any_find, any_hit}
use Rattle.lists.proofs.First.{first_at, first_before}
use Rattle.lists.proofs.Sums.{sum_part, sum_two, sum_le}
use Rattle.lists.proofs.Pages.{counted_long}
use Rattle.fields.specs.declared.Run.{Run}
use Rattle.fields.specs.declared.Fields.{Fields}
use Rattle.fields.specs.Fields.{run_at, end_of}
use Rattle.fields.specs.Rules.{is_code, is_param, holds, code_holds_at, in_code, count_at, param_at, param_pages_at, keeps_rules}
use Rattle.fields.specs.Pages.{run_pages, pages_of, holds_at, has_page, is_param_at, param_of, under_at, pages_under}
use Rattle.fields.proofs.Facts.{RunsFacts, kept}

-- ---- a page in a run

pub record Held (x : Run) (p : ℕ) : Type 0 where
  pub from : x.first ≤ p
  pub under : p < end_of x

pub held : (x : Run) (p : ℕ) → holds x p ≡ true → Held x p
held x p h = record { from = leb-true _ _ (and_l _ _ h); under = ltb-true _ _ (and_r (leb x.first p) _ h) }

pub holds_of : (x : Run) (p : ℕ) → x.first ≤ p → p < end_of x → holds x p ≡ true
holds_of x p a b = both _ _ (le-leb _ _ a) (lt-ltb _ _ b)

-- a code page is a page
pub code_page : (f : Fields) (p : ℕ) → in_code f p ≡ true → has_page f p ≡ true
unfolding in_code has_page
code_page f p h =
    let w = any_find (code_holds_at f p) f.r h in
    sym (any_hit (holds_at f p) f.r w.at w.below (and_r (is_code (run_at f w.at)) _ w.is))

-- pages under a top are under it
pub page_under : (f : Fields) (top p : ℕ) → pages_under f top ≡ true → has_page f p ≡ true → p < top
unfolding pages_under has_page
page_under f top p u h =
    let w = any_find (holds_at f p) f.r h in
    let l : end_of (run_at f w.at) ≤ top = leb-true (end_of (run_at f w.at)) top (all_at (under_at f top) f.r u w.at w.below) in
    let m = held (run_at f w.at) p w.is in
    omega (arith, l, m)

-- ---- the list of the pages

-- p is in a list
abbrev pub listed : ℕ → List ℕ → Bool
listed p [] = false
listed p (x ∷ xs) = eqb p x || listed p xs

pub listed_append : (p : ℕ) (xs ys : List ℕ) → listed p (xs ++ ys) ≡ listed p xs || listed p ys
listed_append p [] ys = refl
listed_append p (x ∷ xs) ys = decided (eqb p x) (λ e. rw e) (λ e. rw e (listed_append p xs ys))

-- the pages of a run
pub listed_counted : (p a n : ℕ) → listed p (counted a n) ≡ leb a p && ltb p (a + n)
unfolding counted table
listed_counted p a n = iff _ _ (there n) (back n)
  where
    there : (n : ℕ) → listed p (counted a n) ≡ true → leb a p && ltb p (a + n) ≡ true
    there zero h = absurd (false≢true h)
    there (suc n) h =
        ⊎_elim
        (λ (g : listed p (counted a n) ≡ true). let t = there n g in
        let l = leb-true a p (and_l _ _ t) in
        let m = ltb-true p (a + n) (and_r (leb a p) _ t) in
        both _ _ (le-leb a p l) (lt-ltb p (a + suc n) (omega arith)))
        (λ (g : listed p ((a + n) ∷ []) ≡ true). let e : p ≡ a + n = eqb-true p (a + n) (sym (or-false (eqb p (a + n))) ∙ g) in
        both _ _ (le-leb a p (omega arith)) (lt-ltb p (a + suc n) (omega arith)))
        (or_cases _ _ (sym (listed_append p (counted a n) ((a + n) ∷ [])) ∙ h))

    back : (n : ℕ) → leb a p && ltb p (a + n) ≡ true → listed p (counted a n) ≡ true
    back zero h =
        let l = leb-true a p (and_l _ _ h) in
        let m = ltb-true p (a + 0) (and_r (leb a p) _ h) in
        absurd (omega arith)
    back (suc n) h =
        let l = leb-true a p (and_l _ _ h) in
        let m = ltb-true p (a + suc n) (and_r (leb a p) _ h) in
        listed_append p (counted a n) ((a + n) ∷ [])
        ∙ ⊎_elim
        (λ (k : p < a + n). or_left _ _ (back n (both _ _ (le-leb a p l) (lt-ltb p (a + n) k))))
        (λ (k : a + n ≤ p). or_right (listed p (counted a n)) _ (or_left _ _ (eq-eqb p (a + n) (omega arith))))
        (lt_or_ge p (a + n))

-- a page is one of the fields' pages just where it is in their list
pub page_listed : (f : Fields) (p : ℕ) → has_page f p ≡ listed p (pages_of f)
unfolding has_page pages_of any_below joined
page_listed f p = go f.r
  where
    go : (n : ℕ) → any_below n (holds_at f p) ≡ listed p (joined n (run_pages f))
    go zero = refl
    go (suc n) =
        rw (listed_append p (joined n (run_pages f)) (run_pages f n), listed_counted p (run_at f n).first (run_at f n).count, go n)

-- as many pages as the counts say
pub pages_long : (f : Fields) → length (pages_of f) ≡ sum_below f.r (count_at f)
unfolding pages_of joined sum_below
pages_long f = go f.r
  where
    go : (n : ℕ) → length (joined n (run_pages f)) ≡ sum_below n (count_at f)
    go zero = refl
    go (suc n) = rw (length-append, go n, counted_long)

-- "at most 64 pages in all"
pub pages_few_lem : (f : Fields) → keeps_rules f ≡ true → length (pages_of f) ≤ 64
pages_few_lem f h = rw (pages_long f) (kept f h).runs_of.few

-- every page lies under page 1,024
pub page_small : (f : Fields) → keeps_rules f ≡ true → (p : ℕ) → has_page f p ≡ true → p < 1024
unfolding has_page
page_small f h p q =
    let w = any_find (holds_at f p) f.r q in
    let m = held (run_at f w.at) p w.is in
    let l = (kept f h).runs_of.run w.at w.below in
    omega (arith, m, l)

-- ---- a page is in one run

module _ (f : Fields) (k : RunsFacts f) where
  -- a run begins after every run before it has ended
  runs_after : (j d : ℕ) → suc j + d < f.r → end_of (run_at f j) ≤ (run_at f (suc j + d)).first
  runs_after j zero l =
      let e : suc j + 0 ≡ j + 1 = omega arith in
      rw e (k.rise j (omega arith))
  runs_after j (suc d) l =
      let e : suc j + suc d ≡ suc j + d + 1 = omega arith in
      let a = runs_after j d (omega arith) in
      let b = k.rise (suc j + d) (omega arith) in
      rw e (omega arith)

  pub runs_apart : (i j : ℕ) → i < j → j < f.r → end_of (run_at f i) ≤ (run_at f j).first
  runs_apart i j l m =
      let e : suc i + (j - suc i) ≡ j = omega arith in
      subst (λ (n : ℕ). end_of (run_at f i) ≤ (run_at f n).first) e (runs_after i (j - suc i) (omega arith))

  -- no page is in two runs
  pub page_once : (p i j : ℕ) → i < f.r → j < f.r → holds (run_at f i) p ≡ true → holds (run_at f j) p ≡ true → i ≡ j
  page_once p i j l m a b =
      let x = held (run_at f i) p a in
      let y = held (run_at f j) p b in
      ⊎_elim
      (λ (n : i < j). absurd (omega (arith, runs_apart i j n m, x, y)))
      (λ (n : j ≤ i). ⊎_elim (λ (q : j < i). absurd (omega (arith, runs_apart j i q l, x, y))) (λ (q : i ≤ j). omega arith) (lt_or_ge j i))
      (lt_or_ge i j)

-- ---- the param page

-- the one param run, its place and its page
pub record Param (f : Fields) : Type 0 where
  pub at : ℕ
  pub below : at < f.r
  pub is : is_param (run_at f at) ≡ true
  pub one : (run_at f at).count ≡ 1
  pub page : param_of f ≡ (run_at f at).first
  pub only : (k : ℕ) → k < f.r → is_param (run_at f k) ≡ true → k ≡ at

pub param : (f : Fields) → RunsFacts f → Param f
unfolding param_of
param f k = record { at = at; below = below; is = is; one = one; page = refl; only = only }
  where
    at : ℕ
    at = first_below (is_param_at f) f.r

    part : (i : ℕ) → is_param (run_at f i) ≡ true → param_at f i ≡ 1
    part i e = rw e

    below : at < f.r
    below =
        ⊎_elim (λ (l : at < f.r). l)
        (λ (l : f.r ≤ at).
        let z : sum_below f.r (param_at f) ≤ f.r * 0 = sum_le (param_at f) f.r 0 (λ i m. let e : is_param (run_at f i) ≡ false = first_before (is_param_at f) f.r i (omega arith) in rw e (omega arith)) in
        absurd (omega (arith, z, k.params)))
        (lt_or_ge at f.r)

    is : is_param (run_at f at) ≡ true
    is = first_at (is_param_at f) f.r below

    one : (run_at f at).count ≡ 1
    one =
        let a : param_pages_at f at ≤ sum_below f.r (param_pages_at f) = sum_part (param_pages_at f) f.r at below in
        let b : param_pages_at f at ≡ (run_at f at).count = rw is in
        omega (arith, a, b, k.param_pages, k.run at below)

    only : (i : ℕ) → i < f.r → is_param (run_at f i) ≡ true → i ≡ at
    only i l e =
        ⊎_elim
        (λ (n : i < at). absurd (omega (arith, sum_two (param_at f) f.r i at n below, part i e, part at is, k.params)))
        (λ (n : at ≤ i). ⊎_elim (λ (q : at < i). absurd (omega (arith, sum_two (param_at f) f.r at i q l, part i e, part at is, k.params))) (λ (q : i ≤ at). omega arith) (lt_or_ge at i))
        (lt_or_ge i at)

-- the param page is one of the pages
pub param_page : (f : Fields) → keeps_rules f ≡ true → has_page f (param_of f) ≡ true
unfolding has_page
param_page f h =
    let w = param f (kept f h).runs_of in
    sym (any_hit (holds_at f (param_of f)) f.r w.at w.below (holds_of (run_at f w.at) (param_of f) (omega (arith, w.page)) (omega (arith, w.page, w.one))))

-- and no code page
pub param_no_code : (f : Fields) → keeps_rules f ≡ true → in_code f (param_of f) ≡ false
unfolding in_code
param_no_code f h = decided (any_below f.r (code_holds_at f (param_of f))) (λ e. absurd (no e)) (λ e. e)
  where
    no : any_below f.r (code_holds_at f (param_of f)) ≡ true → ⊥
    no e =
        let k = (kept f h).runs_of in
        let w = param f k in
        let v = any_find (code_holds_at f (param_of f)) f.r e in
        let x = holds_of (run_at f w.at) (param_of f) (omega (arith, w.page)) (omega (arith, w.page, w.one)) in
        let q = page_once f k (param_of f) v.at w.at v.below w.below (and_r (is_code (run_at f v.at)) _ v.is) x in
        let a : (run_at f v.at).kind ≡ 1 = eqb-true (run_at f v.at).kind 1 (and_l _ _ v.is) in
        let b : (run_at f w.at).kind ≡ 4 = eqb-true (run_at f w.at).kind 4 w.is in
        let d : (run_at f v.at).kind ≡ 4 = rw q b in
        omega (arith, a, d)
