-- What the code tests slot by slot is what the definition asks of the cards and of the µPCRs.
use Prim.Native.Nat.{ℕ, zero, suc, ◌-◌, ◌%◌, ◌≤◌, ◌<◌}
use native.Mathlib.Numerals.{add-one}
use native.Mathlib.Omega.{arith}
use mathlib.Core.Path.{◌≡◌, refl, sym, ap, ◌∙◌}
use mathlib.Core.Bool.{Bool, true, false, ◌&&◌, ◌||◌}
use mathlib.Core.Logic.{⊎_elim}
use lib.ListN.{get_or}
use lib.Dec.{leb, eqb, ltb}
use borrow.Author.Tests.{eqb-true, ltb-true, leb-true, le-leb, le-ltb}
use Rattle.lists.specs.Below.{all_below}
use Rattle.lists.proofs.Logic.{and_l, and_r, both, iff, decided, lt_or_ge}
use Rattle.lists.proofs.All.{all_at, all_of, all_same}
use Rattle.geometry.specs.Geometry.{slot_count, most_pages}
use Rattle.fields.specs.declared.Fields.{Fields}
use Rattle.fields.specs.Fields.{entry_places, run_at, end_of}
use Rattle.fields.specs.Rules.{keeps_rules}
use Rattle.fields.specs.Pages.{pages_under, under_at}
use Rattle.fields.proofs.Facts.{RunsFacts, kept}
use Rattle.state.specs.declared.Card.{Card}
use Rattle.state.specs.declared.Slot.{Slot}
use Rattle.state.specs.declared.State.{State}
use Rattle.state.specs.declared.Mode.{Mode}
use Rattle.state.specs.declared.Mode.TheVariants.{Legacy, Secure}
use Rattle.state.specs.Zero.{no_slot}
use Rattle.state.specs.Face.{face_of, pcrs_of, card_at, top_of}
use Rattle.state.proofs.Faces.{card_at_lem, pcrs_at}
use Rattle.wellformed.specs.WellFormed.{card_zero, card_right, card_right_at, pcrs_zero, pcrs_right_at, pcrs_right, sizes_right, held_once, owner_right_at, mode_right, face_right, state_right}
use Rattle.wellformed.specs.Tests.{slot_right, slot_right_at, mode_test}
use Rattle.wellformed.proofs.Facts.{card_rules, card_free}

module _ (s : State) where
  -- slot k's test, read off the face and the µPCRs
  at_face : (k : ℕ) → slot_right_at s k ≡ card_right_at (face_of s) k && pcrs_right_at (face_of s) (pcrs_of s) k
  at_face k = rw (card_at_lem s.slots k, pcrs_at s.slots k)

  pub cards_of : all_below slot_count (slot_right_at s) ≡ true → (k : ℕ) → k < slot_count → card_right (card_at (face_of s) k) (top_of (face_of s)) ≡ true
  cards_of h k l = and_l (card_right_at (face_of s) k) _ (sym (at_face k) ∙ all_at (slot_right_at s) slot_count h k l)

  -- of the slot itself
  pub card_of_lem : all_below slot_count (slot_right_at s) ≡ true → (k : ℕ) → k < slot_count → card_right (get_or s.slots k no_slot).card (s.pages - s.kept) ≡ true
  card_of_lem h k l = and_l (card_right (get_or s.slots k no_slot).card (s.pages - s.kept)) _ (all_at (slot_right_at s) slot_count h k l)

  pub slots_same : all_below slot_count (slot_right_at s) ≡ all_below slot_count (card_right_at (face_of s)) && pcrs_right (face_of s) (pcrs_of s)
  unfolding pcrs_right
  slots_same =
      iff (all_below slot_count (slot_right_at s)) (all_below slot_count (card_right_at (face_of s)) && all_below slot_count (pcrs_right_at (face_of s) (pcrs_of s)))
      (λ h. both (all_below slot_count (card_right_at (face_of s))) _
      (all_of (card_right_at (face_of s)) slot_count (cards_of h))
      (all_of (pcrs_right_at (face_of s) (pcrs_of s)) slot_count (λ k l. and_r (card_right_at (face_of s) k) _ (sym (at_face k) ∙ all_at (slot_right_at s) slot_count h k l))))
      (λ h. all_of (slot_right_at s) slot_count
      (λ k l. at_face k ∙ both (card_right_at (face_of s) k) (pcrs_right_at (face_of s) (pcrs_of s) k)
      (all_at (card_right_at (face_of s)) slot_count (and_l (all_below slot_count (card_right_at (face_of s))) _ h) k l)
      (all_at (pcrs_right_at (face_of s) (pcrs_of s)) slot_count (and_r (all_below slot_count (card_right_at (face_of s))) _ h) k l)))

  abbrev rest : Bool
  rest = (all_below most_pages (held_once (face_of s)) && all_below most_pages (owner_right_at (face_of s))) && mode_right (face_of s) s.mode

  shuffle : (a b c d e p : Bool) → (a && (b && (c && (d && e)))) && p ≡ a && ((b && p) && ((c && d) && e))
  shuffle false b c d e p = refl
  shuffle true false c d e p = refl
  shuffle true true false d e false = refl
  shuffle true true false d e true = refl
  shuffle true true true false e false = refl
  shuffle true true true false e true = refl
  shuffle true true true true false false = refl
  shuffle true true true true false true = refl
  shuffle true true true true true false = refl
  shuffle true true true true true true = refl

  -- the whole test, in the code's order
  pub state_parts : state_right s ≡ sizes_right s.pages s.kept && (all_below slot_count (slot_right_at s) && rest)
  unfolding state_right face_right
  state_parts =
      shuffle (sizes_right s.pages s.kept) (all_below slot_count (card_right_at (face_of s))) (all_below most_pages (held_once (face_of s))) (all_below most_pages (owner_right_at (face_of s))) (mode_right (face_of s) s.mode) (pcrs_right (face_of s) (pcrs_of s))
      ∙ ap (λ (t : Bool). sizes_right s.pages s.kept && (t && rest)) (sym slots_same)

-- where no place is in use, every place is unused
pub all_unused : (z : ℕ → Bool) (n : ℕ) → all_below n (λ k. ltb k 0 || z k) ≡ all_below n z
all_unused z n = all_same n (λ k. ltb k 0 || z k) z (λ i l. rw (le-ltb i 0 (omega arith)))

-- a slot's test by its case
pub slot_used : (x : Slot) (top : ℕ) (r : Bool) → x.card.registered ≡ true → r ≡ keeps_rules x.card.fields && pages_under x.card.fields top → r ≡ slot_right x top
unfolding card_right
slot_used x top true e h = rw (e, ← h)
slot_used x top false e h = rw (e, ← h)

pub slot_free : (x : Slot) (top : ℕ) (r : Bool) → x.card.registered ≡ false → r ≡ card_zero x.card && pcrs_zero x.pcrs → r ≡ slot_right x top
unfolding card_right
slot_free x top r e h = rw e h

-- a right card has at most eight entries
pub entries_few : (x : Card) (top : ℕ) → card_right x top ≡ true → x.fields.e ≤ entry_places
entries_few x top h =
    decided x.registered
    (λ e. (kept x.fields (card_rules x top h e)).bounds.few_entries)
    (λ e. let f = x.fields in
    let z = eqb-true f.e 0 (and_r (eqb f.r 0) _ (and_l (eqb f.r 0 && eqb f.e 0) _ (and_r (eqb x.mark 0) _ (card_free x top h e)))) in
    omega arith)

-- the mode's test, of the slot that the running record names: in secure mode it is the mode's, or the test fails
pub mode_same : (s : State) → mode_test s.mode s.running (get_or s.slots (s.running.slot % slot_count) no_slot).card s.owner s.pages ≡ mode_right (face_of s) s.mode
mode_same s = go s.mode
  where
    at : ℕ
    at = s.running.slot

    go : (m : Mode) → mode_test m s.running (get_or s.slots (at % slot_count) no_slot).card s.owner s.pages ≡ mode_right (face_of s) m
    go Legacy = refl
    go (Secure k) =
        decided (eqb at k)
        (λ e. decided (ltb k slot_count)
        (λ l. let q : at % slot_count ≡ k = omega (arith, eqb-true at k e, ltb-true k slot_count l) in
        rw (q, card_at_lem s.slots k))
        (λ l. rw (e, l)))
        (λ e. rw e)

-- runs that rise end under top where the last does
ends_rise : (f : Fields) → RunsFacts f → (j i : ℕ) → i ≤ j → j < f.r → end_of (run_at f i) ≤ end_of (run_at f j)
ends_rise f h zero i a l = let e : i ≡ 0 = omega arith in rw e (omega arith)
ends_rise f h (suc j) i a l =
    ⊎_elim
    (λ (m : i < suc j). let r : end_of (run_at f j) ≤ (run_at f (suc j)).first = rw add-one at (h.rise j (omega arith)) in omega (arith, ends_rise f h j i (omega arith) (omega arith), r))
    (λ (m : suc j ≤ i). let e : i ≡ suc j = omega arith in rw e (omega arith))
    (lt_or_ge i (suc j))

pub under_last : (f : Fields) (top : ℕ) → keeps_rules f ≡ true → leb (end_of (run_at f (f.r - 1))) top ≡ pages_under f top
unfolding pages_under
under_last f top h =
    let k = kept f h in
    let b : f.r - 1 < f.r = omega (arith, k.bounds.some_runs) in
    iff (leb (end_of (run_at f (f.r - 1))) top) (all_below f.r (under_at f top))
    (λ t. all_of (under_at f top) f.r (λ i l. le-leb (end_of (run_at f i)) top (omega (arith, leb-true (end_of (run_at f (f.r - 1))) top t, ends_rise f k.runs_of (f.r - 1) i (omega arith) b))))
    (λ t. all_at (under_at f top) f.r t (f.r - 1) b)
