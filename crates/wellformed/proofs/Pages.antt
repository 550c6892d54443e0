-- The owner table by painting: the monitor's pages and then every slot's runs, painted in turn, are the table that a well-formed state has.
-- "Every page of slot k has owner k + 1" already says that no page is in two slots.
use Prim.Native.Nat.{ℕ, zero, suc, ◌+◌, ◌-◌, ◌≤◌, ◌<◌}
use native.Mathlib.Omega.{arith}
use mathlib.Core.Path.{◌≡◌, refl, sym, subst, ◌∙◌}
use mathlib.Core.Bool.{Bool, true, false, ◌&&◌, false≢true}
use mathlib.Core.List.{List}
use mathlib.Core.Logic.{◌⊎◌, inl, inr, ⊎_elim}
use lib.ListN.{length, get_or, replicate, length-replicate, get_or-replicate}
use lib.Dec.{leb, ltb}
use borrow.Author.Tests.{leb-true, ltb-true, eqb-true, le-leb, lt-ltb, eq-eqb}
use Rattle.lists.specs.Below.{all_below}
use Rattle.lists.proofs.Logic.{and_l, and_r, both, iff, decided, lt_or_ge}
use Rattle.lists.proofs.All.{all_at, all_of}
use Rattle.lists.proofs.Any.{any_find, any_hit}
use Rattle.geometry.specs.Geometry.{most_pages, slot_count}
use Rattle.fields.specs.declared.Fields.{Fields}
use Rattle.fields.specs.Fields.{no_run, run_at, end_of, run_places}
use Rattle.fields.specs.Pages.{has_page, pages_under, under_at}
use Rattle.fields.specs.Pages as named
use Rattle.fields.proofs.Facts.{kept}
use Rattle.painting.specs.Painting.{painted, painted_runs, owned_from, owned_run, alike, RunsFit}
use Rattle.painting.proofs.Painted.{painted_long, painted_in, painted_out, runs_long, runs_in_lem, runs_out}
use Rattle.state.specs.declared.Card.{Card}
use Rattle.state.specs.declared.Mode.TheVariants.{Legacy}
use Rattle.state.specs.Zero.{zero_running}
use Rattle.state.specs.Face.{Face, card_at, owner_at, top_of}
use Rattle.wellformed.specs.WellFormed.{sizes_right, card_right, card_right_at, holds_at, held_once, monitors, owner_right_at, face_right}
use Rattle.wellformed.proofs.Facts.{Sizes, sizes_of, Right, right_of, of_right, card_rules, card_under, no_runs, card_holds_under}
use Rattle.wellformed.proofs.Runs.{zero_running_lem}

abbrev pub fields_at : Face → ℕ → Fields
fields_at f k = (card_at f k).fields

-- the monitor's pages, and then the pages of slots 0 to k - 1
unfoldable pub painted_to : Face → ℕ → List ℕ
painted_to f zero = painted (replicate most_pages 0) (top_of f) f.kept monitors
painted_to f (suc k) = painted_runs (painted_to f k) (fields_at f k).runs (k + 1) (fields_at f k).r

-- the table says of each page of slot k that it is slot k's
abbrev pub owned_slot : Face → ℕ → Bool
owned_slot f k = all_below (fields_at f k).r (owned_run f.owner (fields_at f k).runs (k + 1))

unfoldable pub pages_fast : Face → Bool
pages_fast f = all_below slot_count (owned_slot f) && all_below most_pages (alike (painted_to f slot_count) f.owner)

-- ---- a right card's runs lie under top, and there are at most four
card_few : (x : Card) (top : ℕ) → card_right x top ≡ true → x.fields.r ≤ run_places
card_few x top h =
    decided x.registered
    (λ e. (kept x.fields (card_rules x top h e)).bounds.few_runs)
    (λ e. omega (arith, no_runs x top h e))

runs_under : (x : Card) (top : ℕ) → card_right x top ≡ true → (i : ℕ) → i < x.fields.r → end_of (run_at x.fields i) ≤ top
unfolding pages_under
runs_under x top h i l =
    decided x.registered
    (λ e. leb-true (end_of (run_at x.fields i)) top (all_at (under_at x.fields top) x.fields.r (card_under x top h e) i l))
    (λ e. absurd (omega (arith, no_runs x top h e)))

pub runs_fit : (x : Card) (top : ℕ) → top ≤ most_pages → card_right x top ≡ true → RunsFit x.fields
runs_fit x top m h = record { few = card_few x top h; fits = λ i l. omega (arith, runs_under x top h i l) }

record Nobody (f : Face) (p n : ℕ) : Type 0 where
  none : (k : ℕ) → k < n → holds_at f p k ≡ false
  paint : get_or (painted_to f n) p 0 ≡ get_or (painted_to f 0) p 0

record Holder (f : Face) (p n : ℕ) : Type 0 where
  k : ℕ
  below : k < n
  holds : holds_at f p k ≡ true
  paint : get_or (painted_to f n) p 0 ≡ k + 1

module _ (f : Face) (z : Sizes f.pages f.kept) (cs : (k : ℕ) → k < slot_count → card_right (card_at f k) (top_of f) ≡ true) where
  blank : length (replicate {A = ℕ} most_pages 0) ≡ most_pages
  blank = length-replicate {A = ℕ} most_pages 0

  to_long : (k : ℕ) → length (painted_to f k) ≡ most_pages
  unfolding painted_to
  to_long zero = painted_long (replicate most_pages 0) (top_of f) monitors f.kept ∙ blank
  to_long (suc k) = runs_long (painted_to f k) (fields_at f k).runs (k + 1) (fields_at f k).r ∙ to_long k

  start_open : (p : ℕ) → p < top_of f → get_or (painted_to f 0) p 0 ≡ 0
  unfolding painted_to
  start_open p l = painted_out (replicate most_pages 0) (top_of f) monitors f.kept p (inl l) ∙ get_or-replicate most_pages p 0 0 (omega (arith, z.most))

  start_kept : (p : ℕ) → top_of f ≤ p → p < f.pages → get_or (painted_to f 0) p 0 ≡ monitors
  unfolding painted_to
  start_kept p l m =
      let b : top_of f + f.kept ≤ length (replicate {A = ℕ} most_pages 0) = rw blank (omega (arith, z.most, z.left)) in
      painted_in (replicate most_pages 0) (top_of f) monitors f.kept p b l (omega (arith, z.left))

  start_past : (p : ℕ) → f.pages ≤ p → p < most_pages → get_or (painted_to f 0) p 0 ≡ 0
  unfolding painted_to
  start_past p l m =
      painted_out (replicate most_pages 0) (top_of f) monitors f.kept p (inr (omega (arith, z.left))) ∙ get_or-replicate most_pages p 0 0 m

  -- after n slots a page is as at the start, or the last holder's
  held : (p n : ℕ) → n ≤ slot_count → Nobody f p n ⊎ Holder f p n
  unfolding painted_to has_page
  held p zero l = inl (record { none = λ k m. absurd (omega arith); paint = refl })
  held p (suc n) l = step (holds_at f p n) refl (held p n (omega arith))
    where
      fits : (i : ℕ) → i < (fields_at f n).r → end_of (get_or (fields_at f n).runs i no_run) ≤ length (painted_to f n)
      fits i m = rw (to_long n) (omega (arith, runs_under (card_at f n) (top_of f) (cs n (omega arith)) i m, z.most))

      kept_so : holds_at f p n ≡ false → get_or (painted_to f (suc n)) p 0 ≡ get_or (painted_to f n) p 0
      kept_so e = runs_out (painted_to f n) (fields_at f n).runs (n + 1) (fields_at f n).r p e

      step : (t : Bool) → holds_at f p n ≡ t → Nobody f p n ⊎ Holder f p n → Nobody f p (suc n) ⊎ Holder f p (suc n)
      step true e h = inr (record { k = n; below = omega arith; holds = e; paint = runs_in_lem (painted_to f n) (fields_at f n).runs (n + 1) (fields_at f n).r p fits e })
      step false e (inl h) = inl (record {
        none = λ k m. ⊎_elim (λ (a : k < n). h.none k a) (λ (a : n ≤ k). let q : k ≡ n = omega arith in rw q e) (lt_or_ge k n);
        paint = kept_so e ∙ h.paint;
      })
      step false e (inr h) = inr (record { k = h.k; below = omega (arith, h.below); holds = h.holds; paint = kept_so e ∙ h.paint })

  under : (p k : ℕ) → k < slot_count → holds_at f p k ≡ true → p < top_of f
  under p k l t = card_holds_under (card_at f k) (top_of f) p (cs k l) t

  nobody : (p : ℕ) → top_of f ≤ p → get_or (painted_to f slot_count) p 0 ≡ get_or (painted_to f 0) p 0
  nobody p l =
      ⊎_elim
      (λ (h : Nobody f p slot_count). h.paint)
      (λ (h : Holder f p slot_count). absurd (omega (arith, under p h.k h.below h.holds)))
      (held p slot_count (omega arith))

  -- the face with no call running: the tests of its pages are the same
  abbrev resting : Face
  resting = record { pages = f.pages; kept = f.kept; owner = f.owner; cards = f.cards; mode = Legacy; running = zero_running }

  abbrev slow_test : Bool
  slow_test = all_below most_pages (held_once f) && all_below most_pages (owner_right_at f)

  module _ (t : pages_fast f ≡ true) where
    own : (k : ℕ) → k < slot_count → owned_slot f k ≡ true
    unfolding pages_fast
    own = all_at (owned_slot f) slot_count (and_l (all_below slot_count (owned_slot f)) _ t)

    eq : (p : ℕ) → p < most_pages → owner_at f p ≡ get_or (painted_to f slot_count) p 0
    unfolding pages_fast
    eq p m = sym (eqb-true _ _ (all_at (alike (painted_to f slot_count) f.owner) most_pages (and_r (all_below slot_count (owned_slot f)) _ t) p m))

    owned_page : (p k : ℕ) → k < slot_count → holds_at f p k ≡ true → owner_at f p ≡ k + 1
    unfolding has_page
    owned_page p k l h =
        let w = any_find (named.holds_at (fields_at f k) p) (fields_at f k).r h in
        let r = run_at (fields_at f k) w.at in
        let a = leb-true r.first p (and_l (leb r.first p) _ w.is) in
        let b = ltb-true p (end_of r) (and_r (leb r.first p) _ w.is) in
        let e : r.first + (p - r.first) ≡ p = omega arith in
        let g = all_at (owned_run f.owner (fields_at f k).runs (k + 1)) (fields_at f k).r (own k l) w.at w.below in
        let i = all_at (owned_from f.owner r.first (k + 1)) r.count g (p - r.first) (omega arith) in
        subst (λ (q : ℕ). get_or f.owner q 0 ≡ k + 1) e (eqb-true _ _ i)

    free_page : (p : ℕ) → p < top_of f → ((k : ℕ) → k < slot_count → holds_at f p k ≡ false) → owner_at f p ≡ 0
    free_page p l n =
        ⊎_elim
        (λ (h : Nobody f p slot_count). eq p (omega (arith, z.most)) ∙ h.paint ∙ start_open p l)
        (λ (h : Holder f p slot_count). absurd (false≢true (sym (n h.k h.below) ∙ h.holds)))
        (held p slot_count (omega arith))

    fast_right : Right resting
    fast_right = record {
      sizes = z;
      cards = cs;
      held = owned_page;
      free = free_page;
      own = λ p a b. eq p (omega (arith, z.most)) ∙ nobody p a ∙ start_kept p a b;
      past = λ p a b. eq p b ∙ nobody p (omega arith) ∙ start_past p a b;
      mode = zero_running_lem;
    }

    to_slow : slow_test ≡ true
    unfolding face_right
    to_slow =
        let a = and_r (sizes_right f.pages f.kept) _ (of_right resting fast_right) in
        let b = and_r (all_below slot_count (card_right_at f)) _ a in
        both (all_below most_pages (held_once f)) (all_below most_pages (owner_right_at f))
        (and_l (all_below most_pages (held_once f)) _ b)
        (and_l (all_below most_pages (owner_right_at f)) _ (and_r (all_below most_pages (held_once f)) _ b))

  module _ (t : slow_test ≡ true) where
    slow_right : Right resting
    unfolding face_right
    slow_right =
        right_of resting
        (both (sizes_right f.pages f.kept) _ (sizes_of f.pages f.kept z)
        (both (all_below slot_count (card_right_at f)) _ (all_of (card_right_at f) slot_count cs)
        (both (all_below most_pages (held_once f)) _ (and_l (all_below most_pages (held_once f)) _ t)
        (both (all_below most_pages (owner_right_at f)) _ (and_r (all_below most_pages (held_once f)) _ t) zero_running_lem))))

    in_run : (k i j : ℕ) → i < (fields_at f k).r → j < (run_at (fields_at f k) i).count → holds_at f ((run_at (fields_at f k) i).first + j) k ≡ true
    unfolding has_page
    in_run k i j a b =
        let r = run_at (fields_at f k) i in
        sym (any_hit (named.holds_at (fields_at f k) (r.first + j)) (fields_at f k).r i a
        (both (leb r.first (r.first + j)) (ltb (r.first + j) (end_of r)) (le-leb r.first (r.first + j) (omega arith)) (lt-ltb (r.first + j) (end_of r) (omega arith))))

    own_each : (k : ℕ) → k < slot_count → owned_slot f k ≡ true
    own_each k l =
        all_of (owned_run f.owner (fields_at f k).runs (k + 1)) (fields_at f k).r
        (λ i b. all_of (owned_from f.owner (run_at (fields_at f k) i).first (k + 1)) (run_at (fields_at f k) i).count
        (λ j d. eq-eqb _ _ (slow_right.held _ k l (in_run k i j b d))))

    painted_owner : (p : ℕ) → p < most_pages → get_or (painted_to f slot_count) p 0 ≡ owner_at f p
    painted_owner p m =
        ⊎_elim
        (λ (l : p < top_of f). ⊎_elim
        (λ (g : Nobody f p slot_count). g.paint ∙ start_open p l ∙ sym (slow_right.free p l g.none))
        (λ (g : Holder f p slot_count). g.paint ∙ sym (slow_right.held p g.k g.below g.holds))
        (held p slot_count (omega arith)))
        (λ (l : top_of f ≤ p). ⊎_elim
        (λ (n : p < f.pages). nobody p l ∙ start_kept p l n ∙ sym (slow_right.own p l n))
        (λ (n : f.pages ≤ p). nobody p l ∙ start_past p n m ∙ sym (slow_right.past p n m))
        (lt_or_ge p f.pages))
        (lt_or_ge p (top_of f))

    to_fast : pages_fast f ≡ true
    unfolding pages_fast
    to_fast =
        both (all_below slot_count (owned_slot f)) _ (all_of (owned_slot f) slot_count own_each)
        (all_of (alike (painted_to f slot_count) f.owner) most_pages (λ p m. eq-eqb _ _ (painted_owner p m)))

  -- the two tests are the same
  pub pages_same : pages_fast f ≡ all_below most_pages (held_once f) && all_below most_pages (owner_right_at f)
  pages_same = iff (pages_fast f) slow_test to_slow to_fast
