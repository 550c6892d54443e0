-- What well-formedness says of the running record, in each mode.
use Prim.Native.Nat.{ℕ, ◌+◌, ◌%◌, ◌<◌}
use mathlib.Core.Path.{◌≡◌, refl, ap, ◌∙◌}
use mathlib.Core.Bool.{true, ◌&&◌}
use lib.Dec.{leb, ltb, eqb}
use borrow.Author.Tests.{ltb-true, eqb-true, lt-ltb, eq-eqb, ne_eqb}
use mathlib.Core.Logic.{◌≢◌}
use Rattle.lists.specs.Below.{any_below}
use Rattle.lists.proofs.Logic.{and_l, and_r, both}
use Rattle.geometry.specs.Geometry.{page_size, slot_count, is_range, page_of}
use Rattle.state.specs.declared.Mode.TheVariants.{Legacy, Secure}
use Rattle.state.specs.declared.Running.{Running}
use Rattle.state.specs.Zero.{zero_running}
use Rattle.state.specs.Face.{Face, card_at, is_open}
use Rattle.wellformed.specs.WellFormed.{running_zero, output_at, out_right, running_right, mode_right}

-- "in legacy mode the running record is zero"
pub running_zero_lem : (x : Running) → running_zero x ≡ true → x ≡ zero_running
running_zero_lem x h =
    let a = eqb-true x.slot 0 (and_l (eqb x.slot 0) _ h) in
    let t = and_r (eqb x.slot 0) _ h in
    let b = eqb-true x.out 0 (and_l (eqb x.out 0) _ t) in
    let d = eqb-true x.length 0 (and_r (eqb x.out 0) _ t) in
    ap (λ (z : ℕ). record { slot = z; out = x.out; length = x.length }) a
    ∙ ap (λ (z : ℕ). record { slot = 0; out = z; length = x.length }) b
    ∙ ap (λ (z : ℕ). record { slot = 0; out = 0; length = z }) d

pub zero_running_lem : running_zero zero_running ≡ true
zero_running_lem = refl

-- in secure mode in slot k, with the record x
pub record Runs (f : Face) (k : ℕ) (x : Running) : Type 0 where
  pub slot : x.slot ≡ k
  pub below : k < slot_count
  pub registered : (card_at f k).registered ≡ true
  pub output : any_below (card_at f k).fields.e (output_at (card_at f k).fields x.length) ≡ true
  pub out : out_right f x.out x.length ≡ true

pub runs_hold : (f : Face) (k : ℕ) (x : Running) → running_right f k x ≡ true → Runs f k x
runs_hold f k x h =
    let a = and_l (eqb x.slot k && (ltb k slot_count && (card_at f k).registered)) _ h in
    let b = and_r (eqb x.slot k && (ltb k slot_count && (card_at f k).registered)) _ h in
    let d = and_r (eqb x.slot k) _ a in
    let o = any_below (card_at f k).fields.e (output_at (card_at f k).fields x.length) in
    record {
      slot = eqb-true x.slot k (and_l (eqb x.slot k) _ a);
      below = ltb-true k slot_count (and_l (ltb k slot_count) _ d);
      registered = and_r (ltb k slot_count) _ d;
      output = and_l o _ b;
      out = and_r o _ b;
    }

pub runs_of : (f : Face) (k : ℕ) (x : Running) → Runs f k x → running_right f k x ≡ true
runs_of f k x h =
    both (eqb x.slot k && (ltb k slot_count && (card_at f k).registered)) _
    (both (eqb x.slot k) _ (eq-eqb x.slot k h.slot) (both (ltb k slot_count) _ (lt-ltb k slot_count h.below) h.registered))
    (both (any_below (card_at f k).fields.e (output_at (card_at f k).fields x.length)) _ h.output h.out)

-- "if 0 the out address is 0"
pub out_none : (f : Face) (a n : ℕ) → out_right f a n ≡ true → n ≡ 0 → a ≡ 0
out_none f a n h e = eqb-true a 0 (rw (eq-eqb n 0 e) at h)

-- "if over 0, its out range is a range on an open page"
pub out_range : (f : Face) (a n : ℕ) → out_right f a n ≡ true → n ≢ 0 → is_range f.pages a n ≡ true
out_range f a n h e = and_l (is_range f.pages a n) _ (rw (ne_eqb n 0 e) at h)

pub out_open : (f : Face) (a n : ℕ) → out_right f a n ≡ true → n ≢ 0 → is_open f (page_of a) ≡ true
out_open f a n h e = and_r (is_range f.pages a n) _ (rw (ne_eqb n 0 e) at h)

pub out_of_none : (f : Face) (a n : ℕ) → n ≡ 0 → a ≡ 0 → out_right f a n ≡ true
out_of_none f a n e g = rw (eq-eqb n 0 e, eq-eqb a 0 g)

pub out_of_range_lem : (f : Face) (a n : ℕ) → n ≢ 0 → is_range f.pages a n ≡ true → is_open f (page_of a) ≡ true → out_right f a n ≡ true
out_of_range_lem f a n e g h = rw (ne_eqb n 0 e, g, h)

-- a range lies in memory
pub range_inside : (p a n : ℕ) → is_range p a n ≡ true → page_of a < p
unfolding is_range
range_inside p a n h =
    ltb-true (page_of a) p
    (and_r (leb (a % page_size + n) page_size) (ltb (page_of a) p)
    (and_r (leb n page_size) (leb (a % page_size + n) page_size && ltb (page_of a) p)
    (and_r (leb 1 n) (leb n page_size && (leb (a % page_size + n) page_size && ltb (page_of a) p)) h)))

-- mode_right, mode by mode
pub legacy_hold : (f : Face) → mode_right f Legacy ≡ true → f.running ≡ zero_running
legacy_hold f h = running_zero_lem f.running h

pub secure_hold : (f : Face) (k : ℕ) → mode_right f (Secure k) ≡ true → Runs f k f.running
secure_hold f k h = runs_hold f k f.running h

pub secure_of : (f : Face) (k : ℕ) → Runs f k f.running → mode_right f (Secure k) ≡ true
secure_of f k h = runs_of f k f.running h
