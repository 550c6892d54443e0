-- What the rules' tests tell, and what the owner table keeps.
use Prim.Native.Nat.{ℕ, ◌+◌, ◌≤◌, ◌<◌}
use native.Mathlib.Omega.{arith}
use native.Mathlib.Decide.{ℕ_discrete}
use mathlib.Core.Path.{◌≡◌, refl, sym, ap, subst, ◌∙◌}
use mathlib.Core.Logic.{◌≢◌, ⊎_elim}
use mathlib.Core.Bool.{Bool, true, false, not, false≢true}
use mathlib.Core.List.{List}
use lib.ListN.{length, get_or, get_or-eq_default}
use lib.Dec.{ltb}
use borrow.Author.Tests.{ltb-true, eqb-true}
use Rattle.lists.proofs.Logic.{and_l, and_r, decided, lt_or_ge}
use Rattle.lists.proofs.All.{all_at}
use Rattle.lists.proofs.Any.{any_find}
use Rattle.lists.proofs.First.{first_at}
use Rattle.lists.proofs.Tables.{table_long, table_at}
use Rattle.geometry.specs.Geometry.{most_pages, slot_count, half_page}
use Rattle.fields.specs.declared.Fields.{Fields}
use Rattle.fields.specs.Fields.{entry_at}
use Rattle.fields.specs.Pages.{pages_of, has_page, param_of}
use Rattle.fields.proofs.Facts.{kept}
use Rattle.fields.proofs.PageLaws.{listed, page_listed, param_page}
use Rattle.state.specs.declared.Card.{Card}
use Rattle.state.specs.declared.Mode.{Mode}
use Rattle.state.specs.declared.Mode.TheVariants.{Legacy, Secure}
use Rattle.state.specs.Zero.{no_card}
use Rattle.state.specs.Face.{Face, card_at, owner_at, is_open}
use Rattle.wellformed.specs.WellFormed.{output_at, mode_right}
use Rattle.wellformed.proofs.Facts.{Right, card_rules, owner_holds}
use Rattle.wellformed.proofs.Runs.{Runs, secure_hold}
use Rattle.rules.specs.Tests.{device, may_reach, entry_of, under_mark, callable_at, slot_for, open_if_named, all_open, given_at, given}

-- ---- cases

pub by_eq : {P : Type 0} (m n : ℕ) → (m ≡ n → P) → (m ≢ n → P) → P
by_eq {P} m n t e = go (ℕ_discrete m n)
  where
    go : Dec (m ≡ n) → P
    go (yes q) = t q
    go (no q) = e q

pub not_is : (a : Bool) → not a ≡ true → a ≡ false
not_is true e = sym e
not_is false e = refl

-- ---- slots

-- a registered slot is one of those that the face has
pub card_below : (f : Face) (k : ℕ) → (card_at f k).registered ≡ true → k < length f.cards
card_below f k e =
    ⊎_elim (λ l. l)
    (λ (l : length f.cards ≤ k). let q : card_at f k ≡ no_card = get_or-eq_default f.cards no_card l in
    absurd (false≢true (sym (ap (λ (x : Card). x.registered) q) ∙ e)))
    (lt_or_ge k (length f.cards))

-- ---- the owner table

-- past its places it says 0
pub owner_past : (owner : List ℕ) (p : ℕ) → length owner ≤ most_pages → most_pages ≤ p → get_or owner p 0 ≡ 0
owner_past owner p s l = get_or-eq_default owner 0 (omega arith)

module _ (owner : List ℕ) (x : Fields) (v : ℕ) where
  pub given_long : length (given owner x v) ≤ most_pages
  unfolding given
  given_long = omega (arith, table_long (given_at owner x v) most_pages)

  given_in : (p : ℕ) → p < most_pages → get_or (given owner x v) p 0 ≡ given_at owner x v p
  unfolding given
  given_in p l = table_at (given_at owner x v) most_pages p 0 l

  -- pages of no slot k, given to no slot k, leave it the same pages
  pub given_keeps : (u : ℕ) → length owner ≤ most_pages → u ≢ 0 → v ≢ u → ((p : ℕ) → p < most_pages → has_page x p ≡ true → get_or owner p 0 ≢ u)
      → (p : ℕ) → (get_or owner p 0 ≡ u → get_or (given owner x v) p 0 ≡ u) × (get_or (given owner x v) p 0 ≡ u → get_or owner p 0 ≡ u)
  given_keeps u s z n h p =
      ⊎_elim
      (λ (l : p < most_pages). decided (has_page x p)
      (λ t. let q : get_or (given owner x v) p 0 ≡ v = given_in p l ∙ rw t in
      (λ o. absurd (h p l t o), λ o. absurd (n (sym q ∙ o))))
      (λ t. let q : get_or (given owner x v) p 0 ≡ get_or owner p 0 = given_in p l ∙ rw t in
      (λ o. q ∙ o, λ o. sym q ∙ o)))
      (λ (l : most_pages ≤ p).
      (λ o. absurd (z (sym o ∙ owner_past owner p s l)), λ o. absurd (z (sym o ∙ owner_past (given owner x v) p given_long l))))
      (lt_or_ge p most_pages)

-- ---- what the tests say of slots and of pages

-- the slot of a call, and its entry
pub record Callable (f : Face) (mark a k : ℕ) : Type 0 where
  pub below : k < slot_count
  pub registered : (card_at f k).registered ≡ true
  pub mark_is : (card_at f k).mark ≡ mark
  pub used : entry_of (card_at f k).fields a < (card_at f k).fields.e

pub callable : (f : Face) (mark a : ℕ) → ltb (slot_for f mark a) slot_count ≡ true → Callable f mark a (slot_for f mark a)
unfolding slot_for
callable f mark a h =
    let k = slot_for f mark a in
    let l : k < slot_count = ltb-true k slot_count h in
    let t = first_at (callable_at f mark a) slot_count l in
    let u = and_l (under_mark (card_at f k) mark) _ t in
    record {
      below = l;
      registered = and_l (card_at f k).registered _ u;
      mark_is = eqb-true _ _ (and_r (card_at f k).registered _ u);
      used = ltb-true _ _ (and_r (under_mark (card_at f k) mark) _ t);
    }

-- what a device may reach is open
pub device_open : (f : Face) (m : Mode) (p : ℕ) → may_reach m f device p ≡ true → is_open f p ≡ true
device_open f Legacy p t = t
device_open f (Secure k) p t = t

-- every page that open fields name is open
pub open_named : (f : Face) (x : Fields) → all_open f x ≡ true → (p : ℕ) → p < most_pages → has_page x p ≡ true → is_open f p ≡ true
unfolding all_open
open_named f x h p l t = let a = all_at (open_if_named f x) most_pages h p l in rw t at a

-- ---- what a well-formed face says of a slot

-- of the one that runs
pub running : (f : Face) → Right f → (k : ℕ) → f.mode ≡ Secure k → Runs f k f.running
running f r k q = secure_hold f k (subst (λ (m : Mode). mode_right f m ≡ true) q r.mode)

module _ (f : Face) (r : Right f) (j : ℕ) where
  -- its param page is its own
  pub param_own : j < slot_count → (card_at f j).registered ≡ true → owner_at f (param_of (card_at f j).fields) ≡ j + 1
  param_own l u =
      let x = (card_at f j).fields in
      r.held (param_of x) j l (param_page x (card_rules (card_at f j) _ (r.cards j l) u))

  -- its list of pages has every page that the table gives it
  pub own_listed : (p : ℕ) → length f.owner ≤ most_pages → j < slot_count → owner_at f p ≡ j + 1 → listed p (pages_of (card_at f j).fields) ≡ true
  own_listed p s l o =
      ⊎_elim
      (λ (m : p < most_pages). sym (page_listed (card_at f j).fields p) ∙ owner_holds f r p j m l o)
      (λ (m : most_pages ≤ p). absurd (omega (arith, owner_past f.owner p s m)))
      (lt_or_ge p most_pages)

  -- what it hands out ends with its param page
  pub out_small : Runs f j f.running → f.running.length ≤ half_page
  out_small h =
      let x = (card_at f j).fields in
      let w = any_find (output_at x f.running.length) x.e h.output in
      let q = eqb-true (entry_at x w.at).output f.running.length w.is in
      let k = kept x (card_rules (card_at f j) _ (r.cards j h.below) h.registered) in
      omega (arith, q, (k.entries_of.entry w.at w.below).output)
