-- What well-formedness says, as facts, and how facts establish it. What lies above cites these and not the definition's text.
use Prim.Native.Nat.{ℕ, ◌+◌, ◌≤◌, ◌<◌}
use native.Mathlib.Omega.{arith}
use mathlib.Core.Path.{◌≡◌, refl, sym, subst, ◌∙◌}
use mathlib.Core.Bool.{true, false, ◌&&◌, false≢true}
use mathlib.Core.Logic.{◌⊎◌, inl, inr, ⊎_elim}
use lib.Dec.{leb, ltb, eqb}
use borrow.Author.Tests.{leb-true, ltb-true, eqb-true, le-leb, lt-ltb, le-ltb, eq-eqb}
use Rattle.lists.specs.Below.{all_below, any_below, sum_below}
use Rattle.lists.proofs.Logic.{and_l, and_r, both, decided, lt_or_ge}
use Rattle.lists.proofs.All.{all_at, all_of}
use Rattle.lists.proofs.Any.{Found}
use Rattle.lists.proofs.First.{first_at, first_before}
use Rattle.geometry.specs.Geometry.{least_pages, most_pages, slot_count}
use Rattle.fields.specs.Rules.{keeps_rules}
use Rattle.fields.specs.Pages.{has_page, pages_under}
use Rattle.fields.proofs.PageLaws.{page_under}
use Rattle.state.specs.declared.Card.{Card}
use Rattle.state.specs.Face.{Face, card_at, owner_at, top_of, is_open}
use Rattle.wellformed.specs.WellFormed.{sizes_right, card_zero, card_right, card_right_at, holds_at, held_once, times_held, monitors, holder_of, owner_by, owner_right_at, mode_right, face_right}
use Rattle.wellformed.proofs.Once.{once_sole, sole_once}

-- ---- "P and M are in range"

pub record Sizes (p m : ℕ) : Type 0 where
  pub some : least_pages ≤ p
  pub most : p ≤ most_pages
  pub kept : 1 ≤ m
  pub left : m < p

pub sizes_hold : (p m : ℕ) → sizes_right p m ≡ true → Sizes p m
sizes_hold p m h =
    let a = and_l (leb least_pages p && leb p most_pages) _ h in
    let b = and_r (leb least_pages p && leb p most_pages) _ h in
    record {
      some = leb-true least_pages p (and_l (leb least_pages p) _ a);
      most = leb-true p most_pages (and_r (leb least_pages p) _ a);
      kept = leb-true 1 m (and_l (leb 1 m) _ b);
      left = ltb-true m p (and_r (leb 1 m) _ b);
    }

pub sizes_of : (p m : ℕ) → Sizes p m → sizes_right p m ≡ true
sizes_of p m h = rw (le-leb least_pages p h.some, le-leb p most_pages h.most, le-leb 1 m h.kept, lt-ltb m p h.left)

-- ---- a slot's card

pub card_rules : (x : Card) (top : ℕ) → card_right x top ≡ true → x.registered ≡ true → keeps_rules x.fields ≡ true
unfolding card_right
card_rules x top h e = and_l (keeps_rules x.fields) _ (rw e at h)

pub card_under : (x : Card) (top : ℕ) → card_right x top ≡ true → x.registered ≡ true → pages_under x.fields top ≡ true
unfolding card_right
card_under x top h e = and_r (keeps_rules x.fields) _ (rw e at h)

pub card_free : (x : Card) (top : ℕ) → card_right x top ≡ true → x.registered ≡ false → card_zero x ≡ true
unfolding card_right
card_free x top h e = rw e at h

pub card_used : (x : Card) (top : ℕ) → x.registered ≡ true → keeps_rules x.fields ≡ true → pages_under x.fields top ≡ true → card_right x top ≡ true
unfolding card_right
card_used x top e a b = rw (e, a, b)

pub card_spare : (x : Card) (top : ℕ) → x.registered ≡ false → card_zero x ≡ true → card_right x top ≡ true
unfolding card_right
card_spare x top e a = rw e a

-- a zero card has no runs, so its fields name no page
zero_runs : (x : Card) → card_zero x ≡ true → x.fields.r ≡ 0
zero_runs x h = let f = x.fields in eqb-true f.r 0 (and_l (eqb f.r 0) _ (and_l (eqb f.r 0 && eqb f.e 0) _ (and_r (eqb x.mark 0) _ h)))

pub no_runs : (x : Card) (top : ℕ) → card_right x top ≡ true → x.registered ≡ false → x.fields.r ≡ 0
no_runs x top h e = zero_runs x (card_free x top h e)

pub zero_holds : (x : Card) (p : ℕ) → card_zero x ≡ true → has_page x.fields p ≡ false
unfolding has_page any_below
zero_holds x p h = rw (zero_runs x h)

pub card_holds_under : (x : Card) (top p : ℕ) → card_right x top ≡ true → has_page x.fields p ≡ true → p < top
card_holds_under x top p h t =
    decided x.registered
    (λ e. page_under x.fields top p (card_under x top h e) t)
    (λ e. absurd (false≢true (sym (zero_holds x p (card_free x top h e)) ∙ t)))

-- only a registered slot has pages
pub card_holds_registered : (x : Card) (top p : ℕ) → card_right x top ≡ true → has_page x.fields p ≡ true → x.registered ≡ true
card_holds_registered x top p h t =
    decided x.registered
    (λ e. e)
    (λ e. absurd (false≢true (sym (zero_holds x p (card_free x top h e)) ∙ t)))

-- ---- the face

pub record Right (f : Face) : Type 0 where
  pub sizes : Sizes f.pages f.kept
  pub cards : (k : ℕ) → k < slot_count → card_right (card_at f k) (top_of f) ≡ true
  -- "slot+1 for a codeblock's page"
  pub held : (p k : ℕ) → k < slot_count → holds_at f p k ≡ true → owner_at f p ≡ k + 1
  -- "0 open"
  pub free : (p : ℕ) → p < top_of f → ((k : ℕ) → k < slot_count → holds_at f p k ≡ false) → owner_at f p ≡ 0
  -- "255 monitor's"
  pub own : (p : ℕ) → top_of f ≤ p → p < f.pages → owner_at f p ≡ monitors
  -- "places from P on are 0"
  pub past : (p : ℕ) → f.pages ≤ p → p < most_pages → owner_at f p ≡ 0
  pub mode : mode_right f f.mode ≡ true

-- what the table should say, by who holds the page
module _ (f : Face) (p : ℕ) where
  by_held : (k : ℕ) → p < top_of f → holder_of f p ≡ k → k < slot_count → owner_by f p ≡ k + 1
  by_held k l e b = rw (lt-ltb p (top_of f) l, e, lt-ltb k slot_count b)

  by_none : p < top_of f → slot_count ≤ holder_of f p → owner_by f p ≡ 0
  by_none l b = rw (lt-ltb p (top_of f) l, le-ltb (holder_of f p) slot_count b)

  by_own : top_of f ≤ p → p < f.pages → owner_by f p ≡ monitors
  by_own a b = rw (le-ltb p (top_of f) a, lt-ltb p f.pages b)

  by_past : top_of f ≤ p → f.pages ≤ p → owner_by f p ≡ 0
  by_past a b = rw (le-ltb p (top_of f) a, le-ltb p f.pages b)

  -- a page that some slot holds has a first holder
  holder_below : (k : ℕ) → k < slot_count → holds_at f p k ≡ true → holder_of f p < slot_count
  holder_below k l h =
      ⊎_elim (λ m. m)
      (λ (m : slot_count ≤ holder_of f p). absurd (false≢true (sym (first_before (holds_at f p) slot_count k (omega arith)) ∙ h)))
      (lt_or_ge (holder_of f p) slot_count)

module _ (f : Face) (h : face_right f ≡ true) where
  sizes_test : sizes_right f.pages f.kept ≡ true
  unfolding face_right
  sizes_test = and_l (sizes_right f.pages f.kept) _ h

  rest₁ : all_below slot_count (card_right_at f) && (all_below most_pages (held_once f) && (all_below most_pages (owner_right_at f) && mode_right f f.mode)) ≡ true
  unfolding face_right
  rest₁ = and_r (sizes_right f.pages f.kept) _ h

  card_test : (k : ℕ) → k < slot_count → card_right (card_at f k) (top_of f) ≡ true
  card_test = all_at (card_right_at f) slot_count (and_l (all_below slot_count (card_right_at f)) _ rest₁)

  rest₂ : all_below most_pages (held_once f) && (all_below most_pages (owner_right_at f) && mode_right f f.mode) ≡ true
  rest₂ = and_r (all_below slot_count (card_right_at f)) _ rest₁

  once_test : (p : ℕ) → p < most_pages → held_once f p ≡ true
  once_test = all_at (held_once f) most_pages (and_l (all_below most_pages (held_once f)) _ rest₂)

  rest₃ : all_below most_pages (owner_right_at f) && mode_right f f.mode ≡ true
  rest₃ = and_r (all_below most_pages (held_once f)) _ rest₂

  owner_test : (p : ℕ) → p < most_pages → owner_at f p ≡ owner_by f p
  owner_test p l = eqb-true (owner_at f p) (owner_by f p) (all_at (owner_right_at f) most_pages (and_l (all_below most_pages (owner_right_at f)) _ rest₃) p l)

  mode_test_lem : mode_right f f.mode ≡ true
  mode_test_lem = and_r (all_below most_pages (owner_right_at f)) _ rest₃

  under_test : (p k : ℕ) → k < slot_count → holds_at f p k ≡ true → p < top_of f
  under_test p k l t = card_holds_under (card_at f k) (top_of f) p (card_test k l) t

  held_test : (p k : ℕ) → k < slot_count → holds_at f p k ≡ true → owner_at f p ≡ k + 1
  held_test p k l t =
      let z = sizes_hold f.pages f.kept sizes_test in
      let u = under_test p k l t in
      let b = holder_below f p k l t in
      let o = leb-true (sum_below slot_count (times_held f p)) 1 (once_test p (omega (arith, z.most))) in
      let e : holder_of f p ≡ k = once_sole (holds_at f p) slot_count o (holder_of f p) k b l (first_at (holds_at f p) slot_count b) t in
      owner_test p (omega (arith, z.most)) ∙ by_held f p k u e l

  free_test : (p : ℕ) → p < top_of f → ((k : ℕ) → k < slot_count → holds_at f p k ≡ false) → owner_at f p ≡ 0
  free_test p l n =
      let z = sizes_hold f.pages f.kept sizes_test in
      owner_test p (omega (arith, z.most))
      ∙ ⊎_elim
      (λ (m : holder_of f p < slot_count). absurd (false≢true (sym (n (holder_of f p) m) ∙ first_at (holds_at f p) slot_count m)))
      (λ (m : slot_count ≤ holder_of f p). by_none f p l m)
      (lt_or_ge (holder_of f p) slot_count)

  -- the test gives the facts
  pub right_of : Right f
  right_of =
      let z = sizes_hold f.pages f.kept sizes_test in
      record {
        sizes = z;
        cards = card_test;
        held = held_test;
        free = free_test;
        own = λ p a b. owner_test p (omega (arith, z.most)) ∙ by_own f p a b;
        past = λ p a b. owner_test p b ∙ by_past f p (omega arith) a;
        mode = mode_test_lem;
      }

module _ (f : Face) (r : Right f) where
  -- a slot's pages lie under P−M
  pub held_under : (p k : ℕ) → k < slot_count → holds_at f p k ≡ true → p < top_of f
  held_under p k l t = card_holds_under (card_at f k) (top_of f) p (r.cards k l) t

  -- only a registered slot has pages
  pub held_registered : (p k : ℕ) → k < slot_count → holds_at f p k ≡ true → (card_at f k).registered ≡ true
  held_registered p k l t = card_holds_registered (card_at f k) (top_of f) p (r.cards k l) t

  -- "no page is in two slots"
  pub held_sole : (p j k : ℕ) → j < slot_count → k < slot_count → holds_at f p j ≡ true → holds_at f p k ≡ true → j ≡ k
  held_sole p j k a b g h = omega (arith, r.held p j a g, r.held p k b h)

  -- a page under P−M is some slot's, or no slot's
  pub holder : (p : ℕ) → Found (holds_at f p) slot_count ⊎ ((k : ℕ) → k < slot_count → holds_at f p k ≡ false)
  holder p =
      ⊎_elim
      (λ (m : holder_of f p < slot_count). inl (record { at = holder_of f p; below = m; is = first_at (holds_at f p) slot_count m }))
      (λ (m : slot_count ≤ holder_of f p). inr (λ k l. first_before (holds_at f p) slot_count k (omega arith)))
      (lt_or_ge (holder_of f p) slot_count)

  -- the table names a slot only where that slot holds the page
  pub owner_holds : (p k : ℕ) → p < most_pages → k < slot_count → owner_at f p ≡ k + 1 → holds_at f p k ≡ true
  owner_holds p k m l e =
      ⊎_elim
      (λ (a : p < top_of f). ⊎_elim
      (λ (w : Found (holds_at f p) slot_count). let q : w.at ≡ k = omega (arith, r.held p w.at w.below w.is) in
      subst (λ (j : ℕ). holds_at f p j ≡ true) q w.is)
      (λ (n : (j : ℕ) → j < slot_count → holds_at f p j ≡ false). absurd (omega (arith, r.free p a n)))
      (holder p))
      (λ (a : top_of f ≤ p). ⊎_elim
      (λ (b : p < f.pages). absurd (omega (arith, r.own p a b)))
      (λ (b : f.pages ≤ p). absurd (omega (arith, r.past p b m)))
      (lt_or_ge p f.pages))
      (lt_or_ge p (top_of f))

  -- under P−M the table says a slot or open
  pub owner_most : (p : ℕ) → p < top_of f → owner_at f p ≤ slot_count
  owner_most p a =
      ⊎_elim
      (λ (w : Found (holds_at f p) slot_count). omega (arith, r.held p w.at w.below w.is, w.below))
      (λ (n : (j : ℕ) → j < slot_count → holds_at f p j ≡ false). omega (arith, r.free p a n))
      (holder p)

  -- an open page lies under P−M, and no slot holds it
  pub open_under : (p : ℕ) → is_open f p ≡ true → p < top_of f
  open_under p h =
      let a = ltb-true p f.pages (and_l (ltb p f.pages) _ h) in
      let b = eqb-true (owner_at f p) 0 (and_r (ltb p f.pages) _ h) in
      ⊎_elim (λ m. m) (λ (m : top_of f ≤ p). absurd (omega (arith, r.own p m a))) (lt_or_ge p (top_of f))

  pub open_free : (p k : ℕ) → is_open f p ≡ true → k < slot_count → holds_at f p k ≡ false
  open_free p k h l =
      let b = eqb-true (owner_at f p) 0 (and_r (ltb p f.pages) _ h) in
      decided (holds_at f p k) (λ (t : holds_at f p k ≡ true). absurd (omega (arith, r.held p k l t))) (λ t. t)

  -- and so is every page that none holds
  pub free_open : (p : ℕ) → p < top_of f → ((k : ℕ) → k < slot_count → holds_at f p k ≡ false) → is_open f p ≡ true
  free_open p a n = both (ltb p f.pages) (eqb (owner_at f p) 0) (lt-ltb p f.pages (omega arith)) (eq-eqb (owner_at f p) 0 (r.free p a n))

  once_each : (p : ℕ) → p < most_pages → held_once f p ≡ true
  once_each p l = le-leb (sum_below slot_count (times_held f p)) 1 (sole_once (holds_at f p) slot_count (held_sole p))

  owner_each : (p : ℕ) → p < most_pages → owner_right_at f p ≡ true
  owner_each p l =
      eq-eqb (owner_at f p) (owner_by f p)
      (⊎_elim
      (λ (a : p < top_of f). ⊎_elim
      (λ (m : holder_of f p < slot_count). r.held p (holder_of f p) m (first_at (holds_at f p) slot_count m) ∙ sym (by_held f p (holder_of f p) a refl m))
      (λ (m : slot_count ≤ holder_of f p). r.free p a (λ k b. first_before (holds_at f p) slot_count k (omega arith)) ∙ sym (by_none f p a m))
      (lt_or_ge (holder_of f p) slot_count))
      (λ (a : top_of f ≤ p). ⊎_elim
      (λ (b : p < f.pages). r.own p a b ∙ sym (by_own f p a b))
      (λ (b : f.pages ≤ p). r.past p b l ∙ sym (by_past f p a b))
      (lt_or_ge p f.pages))
      (lt_or_ge p (top_of f)))

  -- the facts give the test
  pub of_right : face_right f ≡ true
  unfolding face_right
  of_right =
      both (sizes_right f.pages f.kept) _ (sizes_of f.pages f.kept r.sizes)
      (both (all_below slot_count (card_right_at f)) _ (all_of (card_right_at f) slot_count r.cards)
      (both (all_below most_pages (held_once f)) _ (all_of (held_once f) most_pages once_each)
      (both (all_below most_pages (owner_right_at f)) _ (all_of (owner_right_at f) most_pages owner_each) r.mode)))
