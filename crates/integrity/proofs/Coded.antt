-- Code pages keep their bytes, and only calls enter.
use Prim.Native.Nat.{ℕ, ◌+◌, ◌<◌}
use native.Mathlib.Omega.{arith}
use mathlib.Core.Path.{◌≡◌, refl, sym, ap, subst, ◌∙◌}
use mathlib.Core.Bool.{true, ◌&&◌, not, false≢true}
use mathlib.Core.List.{[], ◌∷◌}
use lib.ListN.{length}
use borrow.Author.Tests.{eqb-true}
use Rattle.lists.proofs.Logic.{and_l, and_r}
use Rattle.geometry.specs.Geometry.{slot_count, page_of}
use Rattle.fields.specs.Rules.{in_code}
use Rattle.fields.specs.Pages.{has_page, param_of}
use Rattle.fields.proofs.PageLaws.{code_page, param_page, param_no_code}
use Rattle.manifest.specs.Reader.{read_manifest}
use Rattle.state.specs.declared.Card.{Card}
use Rattle.state.specs.Zero.{zero_card}
use Rattle.state.specs.Face.{Face, face_of, pcrs_of, state_of, card_at, owner_at, top_of, is_open}
use Rattle.state.proofs.Faces.{card_at_lem}
use Rattle.wellformed.specs.WellFormed.{well_formed}
use Rattle.wellformed.proofs.Facts.{Right, card_rules, held_sole, open_free}
use Rattle.events.specs.declared.Answer.{Answer}
use Rattle.rules.specs.Tests.{is_own, with_card}
use Rattle.rules.specs.Decide.{released}
use Rattle.rules.specs.Act.{World, sealed, plan_of, step}
use Rattle.rules.proofs.Facts.{card_below}
use Rattle.rules.proofs.States.{card_of_lem}
use Rattle.preserved.specs.Preserved.{Well, Ask, after_one}
use Rattle.preserved.proofs.Given.{card_there}
use Rattle.preserved.proofs.Stays.{face_right_lem, eight_cards, plan_good, step_well}
use Rattle.integrity.specs.Code.{card_in, Registered, CodeSame, CodeKept}
use Rattle.integrity.proofs.Spared.{stored_spares}
use Rattle.integrity.proofs.Shut.{Shut, decide_off}

-- ---- slot k's code, on a face

module _ (f : Face) (r : Right f) (eight : length f.cards ≡ slot_count) (k : ℕ) (below : k < slot_count) (live : (card_at f k).registered ≡ true) where
  abbrev Code : ℕ → Type 0
  Code p = in_code (card_at f k).fields p ≡ true

  abbrev Live : Face → Type 0
  Live g = (card_at g k).registered ≡ true

  code_held : (p : ℕ) → Code p → has_page (card_at f k).fields p ≡ true
  code_held p q = code_page (card_at f k).fields p q

  open_no : (p : ℕ) → is_open f p ≡ true → Code p → ⊥
  open_no p t q = false≢true (sym (open_free f r p k t below) ∙ code_held p q)

  write_no : (j p : ℕ) → j < slot_count → p < f.pages → is_own f j p && not (in_code (card_at f j).fields p) ≡ true → Code p → ⊥
  write_no j p l u t q =
      let a = eqb-true (owner_at f p) (j + 1) (and_l (is_own f j p) _ t) in
      let e : j ≡ k = omega (arith, r.held p k below (code_held p q)) in
      let n : not (in_code (card_at f k).fields p) ≡ true = rw e at (and_r (is_own f j p) _ t) in
      let z : not true ≡ true = rw q at n in
      false≢true z

  param_no : (j : ℕ) → j < slot_count → (card_at f j).registered ≡ true → Code (param_of (card_at f j).fields) → ⊥
  param_no j l u q =
      let x = (card_at f j).fields in
      let rules = card_rules (card_at f j) (top_of f) (r.cards j l) u in
      let e : j ≡ k = held_sole f r (param_of x) j k l below (param_page x rules) (code_held (param_of x) q) in
      let q' : in_code x (param_of x) ≡ true = subst (λ (i : ℕ). in_code (card_at f i).fields (param_of x) ≡ true) (sym e) q in
      false≢true (sym (param_no_code x rules) ∙ q')

  gone_no : (j : ℕ) (a : Answer) → j < slot_count → Live (released f j a).next → (p : ℕ) → has_page (card_at f j).fields p ≡ true → Code p → ⊥
  unfolding released
  gone_no j a l h p t q =
      let e : j ≡ k = held_sole f r p j k l below t (code_held p q) in
      let z : (card_at (with_card f k zero_card (card_at f k).fields 0) k).registered ≡ true = subst (λ (i : ℕ). (card_at (with_card f i zero_card (card_at f i).fields 0) k).registered ≡ true) e h in
      false≢true (sym (ap (λ (y : Card). y.registered) (card_there f k zero_card (card_at f k).fields 0 (omega arith))) ∙ z)

  pub code_shut : Shut f Code Live
  code_shut = record { open_no = open_no; write_no = write_no; param_no = param_no; gone_no = gone_no }

-- ---- on a state

step_code : (k : ℕ) (w : World) (x : Ask) → Well w.state w.memory → Registered k w.state → Registered k (after_one w x).state → CodeSame k w (after_one w x)
unfolding step
step_code k w x h u v =
    let s = w.state in
    let m = w.memory in
    let f = face_of s in
    let r = face_right_lem s m h in
    let p = plan_of s (length m) (length x.buffer) x.payload x.event in
    let pcrs = sealed p.seal x.payload m (pcrs_of s) in
    let c : card_at f k ≡ card_in s k = card_at_lem s.slots k in
    let u' : (card_at f k).registered ≡ true = ap (λ (y : Card). y.registered) c ∙ u in
    let l : k < slot_count = omega (arith, card_below f k u', eight_cards s m h) in
    let d : card_in (state_of p.next pcrs) k ≡ card_at p.next k = sym (card_at_lem (state_of p.next pcrs).slots k) ∙ card_of_lem p.next pcrs k l in
    let v' : (card_at p.next k).registered ≡ true = ap (λ (y : Card). y.registered) (sym d) ∙ v in
    record {
      card = d ∙ (plan_good s m h (length x.buffer) x.payload x.event).cards k u' v' ∙ c;
      bytes = λ i q.
          let q' : in_code (card_at f k).fields (page_of i) ≡ true = ap (λ (y : Card). in_code y.fields (page_of i)) c ∙ q in
          stored_spares (λ n. in_code (card_at f k).fields n ≡ true) p.store x.payload m
          (decide_off f r (λ n. in_code (card_at f k).fields n ≡ true) (λ g. (card_at g k).registered ≡ true) (code_shut f r (eight_cards s m h) k l u') (length x.payload) (well_formed s (length m)) (length x.buffer) (read_manifest x.payload) x.event v')
          i q';
    }

pub code_kept : CodeKept
code_kept k w [] h u t = record { card = refl; bytes = λ i q. refl }
code_kept k w (x ∷ xs) h u t =
    let a = step_code k w x h u t.0 in
    let b = code_kept k (after_one w x) xs (step_well w.state w.memory h x.event x.payload x.buffer) t.0 t.1 in
    record {
      card = b.card ∙ a.card;
      bytes = λ i q. b.bytes i (ap (λ (y : Card). in_code y.fields (page_of i)) a.card ∙ q) ∙ a.bytes i q;
    }
