-- The face after a registration, a release, a call and a return is right.
use Prim.Native.Nat.{ℕ, ◌+◌, ◌-◌, ◌≤◌, ◌<◌}
use native.Mathlib.Omega.{arith}
use mathlib.Core.Path.{◌≡◌, refl, sym, subst, ◌∙◌}
use mathlib.Core.Logic.{◌≢◌}
use mathlib.Core.Bool.{true, false, false≢true}
use lib.ListN.{length}
use lib.Dec.{ltb, eqb}
use borrow.Author.Tests.{eqb-true, eqb-false, eq-eqb, le-leb}
use Rattle.lists.proofs.All.{all_of}
use Rattle.lists.proofs.Any.{any_hit}
use Rattle.lists.proofs.Logic.{and_r, decided}
use Rattle.geometry.specs.Geometry.{most_pages, slot_count, is_range, page_of}
use Rattle.fields.specs.declared.Fields.{Fields}
use Rattle.fields.specs.Fields.{zero_fields, run_at, entry_at, end_of}
use Rattle.fields.specs.Rules.{keeps_rules}
use Rattle.fields.specs.Pages.{has_page, pages_under, under_at}
use Rattle.fields.specs.Pages as pages
use Rattle.fields.proofs.Facts.{kept}
use Rattle.fields.proofs.PageLaws.{holds_of, page_small}
use Rattle.state.specs.declared.Card.{Card}
use Rattle.state.specs.declared.Mode.{Mode}
use Rattle.state.specs.declared.Mode.TheVariants.{Legacy, Secure}
use Rattle.state.specs.declared.Running.{Running}
use Rattle.state.specs.Zero.{zero_card, zero_running}
use Rattle.state.specs.Face.{Face, card_at, owner_at, top_of, is_open}
use Rattle.wellformed.specs.WellFormed.{card_right, holds_at, output_at, out_right, mode_right}
use Rattle.wellformed.proofs.Facts.{Right, card_used, card_free, zero_holds, held_under, held_sole, open_under}
use Rattle.wellformed.proofs.Runs.{secure_of, out_of_none, out_of_range_lem}
use Rattle.wellformed.proofs.Zeros.{zero_card_right, zero_card_lem}
use Rattle.rules.proofs.Facts.{by_eq, open_named}
use Rattle.rules.specs.Tests.{all_open, unlooked, kept_as, with_card, with_mode}
use Rattle.preserved.proofs.Given.{card_there, card_else, owner_there, owner_else}

-- another mode and record: all else is as it was
pub right_mode : (f : Face) → Right f → (m : Mode) (x : Running) → mode_right (with_mode f m x) m ≡ true → Right (with_mode f m x)
right_mode f r m x h = record { sizes = r.sizes; cards = r.cards; held = r.held; free = r.free; own = r.own; past = r.past; mode = h }

module _ (f : Face) (r : Right f) where
  -- a page under P−M has a place in the owner table
  small : (p : ℕ) → p < f.pages → p < most_pages
  small p l = omega (arith, r.sizes.most)

  module _ (x : Fields) (rules : keeps_rules x ≡ true) (opened : all_open f x ≡ true) where
    named_open : (p : ℕ) → has_page x p ≡ true → is_open f p ≡ true
    named_open p t = open_named f x opened p (page_small x rules p t) t

    -- open pages lie under P−M
    fields_under : pages_under x (top_of f) ≡ true
    unfolding pages_under has_page
    fields_under = all_of (under_at x (top_of f)) x.r each
      where
        each : (i : ℕ) → i < x.r → under_at x (top_of f) i ≡ true
        each i l =
            let a = (kept x rules).runs_of.run i l in
            let q = end_of (run_at x i) - 1 in
            let h : has_page x q ≡ true = sym (any_hit (pages.holds_at x q) x.r i l (holds_of (run_at x i) q (omega (arith, a.pages)) (omega (arith, a.pages)))) in
            le-leb (end_of (run_at x i)) (top_of f) (omega (arith, open_under f r q (named_open q h)))

  -- ---- registration

  module _ (k mark : ℕ) (x : Fields) (rules : keeps_rules x ≡ true) (opened : all_open f x ≡ true) (below : k < slot_count) (eight : length f.cards ≡ slot_count) (spare : (card_at f k).registered ≡ false) where
    abbrev new : Card
    new = record { registered = true; mark = mark; fields = x }

    abbrev next : Face
    next = with_card f k new x (k + 1)

    there : card_at next k ≡ new
    there = card_there f k new x (k + 1) (omega arith)

    else : (j : ℕ) → j ≢ k → card_at next j ≡ card_at f j
    else = card_else f k new x (k + 1)

    -- a page that is not open is not named
    unnamed : (p : ℕ) → (is_open f p ≡ true → ⊥) → has_page x p ≡ false
    unnamed p h = decided (has_page x p) (λ t. absurd (h (named_open x rules opened p t))) (λ t. t)

    -- and what lies from P−M up is not open
    unnamed_above : (p : ℕ) → top_of f ≤ p → has_page x p ≡ false
    unnamed_above p a = unnamed p (λ t. omega (arith, open_under f r p t))

    card_reg : (j : ℕ) → j < slot_count → card_right (card_at next j) (top_of f) ≡ true
    card_reg j l =
        by_eq j k
        (λ q. rw (q, there) (card_used new (top_of f) refl rules (fields_under x rules opened)))
        (λ q. rw (else j q) (r.cards j l))

    held_reg : (p j : ℕ) → j < slot_count → holds_at next p j ≡ true → owner_at next p ≡ j + 1
    held_reg p j l h =
        by_eq j k
        (λ q. let t : has_page x p ≡ true = rw (q, there) at h in
        owner_there f k new x (k + 1) p (page_small x rules p t) t ∙ rw q)
        (λ q. let t : holds_at f p j ≡ true = rw (else j q) at h in
        let u = held_under f r p j l t in
        let o = r.held p j l t in
        owner_else f k new x (k + 1) p (small p (omega arith)) (unnamed p (λ g. omega (arith, o, eqb-true (owner_at f p) 0 (and_r (ltb p f.pages) _ g)))) ∙ o)

    free_reg : (p : ℕ) → p < top_of f → ((j : ℕ) → j < slot_count → holds_at next p j ≡ false) → owner_at next p ≡ 0
    free_reg p l h =
        let n : has_page x p ≡ false = rw there at (h k below) in
        owner_else f k new x (k + 1) p (small p (omega arith)) n
        ∙ r.free p l (λ j b. by_eq j k
        (λ q. rw q (zero_holds (card_at f k) p (card_free (card_at f k) (top_of f) (r.cards k below) spare)))
        (λ q. rw (else j q) at (h j b)))

    pub right_registered : f.mode ≡ Legacy → Right (with_card f k (record { registered = true; mark = mark; fields = x }) x (k + 1))
    unfolding with_card
    right_registered e =
        record {
          sizes = r.sizes;
          cards = card_reg;
          held = held_reg;
          free = free_reg;
          own = λ p a b. owner_else f k new x (k + 1) p (small p b) (unnamed_above p a) ∙ r.own p a b;
          past = λ p a b. owner_else f k new x (k + 1) p b (unnamed_above p (omega arith)) ∙ r.past p a b;
          mode = subst (λ (m : Mode). mode_right next m ≡ true) (sym e) (subst (λ (m : Mode). mode_right f m ≡ true) e r.mode);
        }

  -- ---- release

  module _ (k : ℕ) (below : k < slot_count) (eight : length f.cards ≡ slot_count) where
    abbrev old : Fields
    old = (card_at f k).fields

    abbrev freed : Face
    freed = with_card f k zero_card old 0

    freed_there : card_at freed k ≡ zero_card
    freed_there = card_there f k zero_card old 0 (omega arith)

    freed_else : (j : ℕ) → j ≢ k → card_at freed j ≡ card_at f j
    freed_else = card_else f k zero_card old 0

    card_rel : (j : ℕ) → j < slot_count → card_right (card_at freed j) (top_of f) ≡ true
    card_rel j l = by_eq j k (λ q. rw (q, freed_there) (zero_card_right (top_of f))) (λ q. rw (freed_else j q) (r.cards j l))

    held_rel : (p j : ℕ) → j < slot_count → holds_at freed p j ≡ true → owner_at freed p ≡ j + 1
    held_rel p j l h =
        by_eq j k
        (λ q. let t : has_page zero_fields p ≡ true = rw (q, freed_there) at h in
        absurd (false≢true (sym (zero_holds zero_card p zero_card_lem) ∙ t)))
        (λ q. let t : holds_at f p j ≡ true = rw (freed_else j q) at h in
        let u = held_under f r p j l t in
        let n : has_page old p ≡ false = decided (has_page old p) (λ g. absurd (q (held_sole f r p j k l below t g))) (λ g. g) in
        owner_else f k zero_card old 0 p (small p (omega arith)) n ∙ r.held p j l t)

    free_rel : (p : ℕ) → p < top_of f → ((j : ℕ) → j < slot_count → holds_at freed p j ≡ false) → owner_at freed p ≡ 0
    free_rel p l h =
        decided (has_page old p)
        (λ t. owner_there f k zero_card old 0 p (small p (omega arith)) t)
        (λ t. owner_else f k zero_card old 0 p (small p (omega arith)) t
        ∙ r.free p l (λ j b. by_eq j k (λ q. rw q t) (λ q. rw (freed_else j q) at (h j b))))

    -- what lies from P−M up is no slot's
    above : (p : ℕ) → top_of f ≤ p → has_page old p ≡ false
    above p a = decided (has_page old p) (λ t. absurd (omega (arith, held_under f r p k below t))) (λ t. t)

    pub right_freed : Right (with_mode (with_card f k zero_card (card_at f k).fields 0) Legacy zero_running)
    unfolding with_card
    right_freed =
        record {
          sizes = r.sizes;
          cards = card_rel;
          held = held_rel;
          free = free_rel;
          own = λ p a b. owner_else f k zero_card old 0 p (small p b) (above p a) ∙ r.own p a b;
          past = λ p a b. owner_else f k zero_card old 0 p b (above p (omega arith)) ∙ r.past p a b;
          mode = refl;
        }

  -- ---- call and return

  pub right_left : Right (with_mode f Legacy zero_running)
  right_left = right_mode f r Legacy zero_running refl

  -- the record of a call keeps an out range that was looked at
  out_kept : (n o : ℕ) → unlooked n (is_range f.pages o n) ≡ true → unlooked n (is_open f (page_of o)) ≡ true → out_right f (kept_as n o) n ≡ true
  out_kept n o a b =
      decided (eqb n 0)
      (λ e. let q = eqb-true n 0 e in out_of_none f (kept_as n o) n q (rw e))
      (λ e. let a' : is_range f.pages o n ≡ true = rw e at a in
      let b' : is_open f (page_of o) ≡ true = rw e at b in
      let c : kept_as n o ≡ o = rw e in
      rw c (out_of_range_lem f o n (eqb-false n 0 e) a' b'))

  pub right_entered : (k i o : ℕ) → k < slot_count → (card_at f k).registered ≡ true → i < (card_at f k).fields.e
      → unlooked (entry_at (card_at f k).fields i).output (is_range f.pages o (entry_at (card_at f k).fields i).output) ≡ true
      → unlooked (entry_at (card_at f k).fields i).output (is_open f (page_of o)) ≡ true
      → Right (with_mode f (Secure k) (record { slot = k; out = kept_as (entry_at (card_at f k).fields i).output o; length = (entry_at (card_at f k).fields i).output }))
  right_entered k i o l u b a c =
      let n = (entry_at (card_at f k).fields i).output in
      let x : Running = record { slot = k; out = kept_as n o; length = n } in
      right_mode f r (Secure k) x
      (secure_of (with_mode f (Secure k) x) k
      (record {
        slot = refl;
        below = l;
        registered = u;
        output = sym (any_hit (output_at (card_at f k).fields n) (card_at f k).fields.e i b (eq-eqb n n refl));
        out = out_kept n o a c;
      }))
