-- What a release asks of the state, and that it is the rule's.
use Prim.Native.Nat.{ℕ, ◌+◌, ◌-◌, ◌≤◌, ◌<◌}
use native.Mathlib.Omega.{arith}
use mathlib.Core.Path.{◌≡◌, refl, sym, ap, subst, ◌∙◌}
use mathlib.Core.Bool.{true, false, ◌&&◌}
use mathlib.Core.List.{List}
use lib.ListN.{length, get_or}
use lib.Dec.{ltb, eqb}
use borrow.Author.Tests.{eqb-true, leb-true}
use Rattle.lists.specs.Bytes.{wipe}
use Rattle.lists.proofs.Logic.{and_l, and_r, decided, pick_true, pick_false}
use Rattle.lists.proofs.All.{all_at}
use Rattle.geometry.specs.Geometry.{page_size, slot_count, start_of, page_of}
use Rattle.fields.specs.Fields.{run_at, end_of}
use Rattle.fields.specs.Rules.{in_code}
use Rattle.fields.specs.Pages.{pages_of, pages_under, under_at}
use Rattle.state.specs.declared.Card.{Card}
use Rattle.state.specs.declared.Slot.{Slot}
use Rattle.state.specs.declared.Mode.TheVariants.{Legacy}
use Rattle.state.specs.declared.State.{State}
use Rattle.state.specs.Zero.{no_slot, zero_slot, zero_running}
use Rattle.state.specs.Face.{Face, face_of, pcrs_of, card_at, state_of, is_open}
use Rattle.state.proofs.Faces.{card_at_lem, state_set}
use Rattle.wellformed.specs.WellFormed.{state_right, well_formed}
use Rattle.wellformed.proofs.Facts.{card_under, card_free}
use Rattle.events.specs.declared.Answer.{Answer}
use Rattle.events.specs.declared.Answer.TheVariants as answer
use Rattle.events.specs.declared.Refusal.TheVariants.{OutOfRange, NotReached, NotFound}
use Rattle.painting.specs.Painting.{RunsFit}
use Rattle.rules.specs.Plan.{Plan, refuse, still, nothing, keep, same}
use Rattle.rules.specs.Tests.{given, with_card, under_mark, may_reach, execute, own_code}
use Rattle.rules.specs.Decide.{released, unregister_rule, jump_legacy, jump_secure}
use Rattle.rules.specs.Act.{sealed}
use Rattle.touch.specs.Carried.{Owned, IsSlot}
use Rattle.touch.proofs.Plans.{pass, stop}
use Rattle.wellformed.proofs.States.{well_state, well_long}
use Rattle.touch.proofs.Ready.{card_is, right, few_pages, few_runs}
use Rattle.change.specs.declared.Change.{Change}
use Rattle.change.specs.declared.Turn.TheVariants.{Kept, Frees}
use Rattle.change.specs.Turns.{vacated, turn_of, Settles}
use Rattle.change.proofs.Settled.{still_settles, to_plan}
use Rattle.release.specs.Release.{RunsIn}

-- ---- a slot's runs lie in memory

module _ (s : State) (h : state_right s ≡ true) where
  pub runs_under : (k : ℕ) → k < slot_count → (i : ℕ) → i < (card_at (face_of s) k).fields.r → end_of (run_at (card_at (face_of s) k).fields i) ≤ s.pages
  unfolding pages_under
  runs_under k l i b =
      let x = card_at (face_of s) k in
      let z = right s h in
      decided x.registered
      (λ e. let u = card_under x _ (z.cards k l) e in
      let t = leb-true (end_of (run_at x.fields i)) (s.pages - s.kept) (all_at (under_at x.fields (s.pages - s.kept)) x.fields.r u i b) in
      omega arith)
      (λ e. let u = card_free x _ (z.cards k l) e in
      let q = eqb-true x.fields.r 0 (and_l (eqb x.fields.r 0) _ (and_l (eqb x.fields.r 0 && eqb x.fields.e 0) _ (and_r (eqb x.mark 0) _ u))) in
      absurd (omega arith))

  runs_fit_at : (k : ℕ) → k < slot_count → RunsFit (card_at (face_of s) k).fields
  runs_fit_at k l = record { few = few_runs s h k l; fits = λ i b. omega (arith, runs_under k l i b, few_pages s h) }

  -- as the state has the slot
  runs_fit : (k : ℕ) → k < slot_count → RunsFit (get_or s.slots k no_slot).card.fields
  runs_fit k l = subst (λ (x : Card). RunsFit x.fields) (card_at_lem s.slots k) (runs_fit_at k l)

-- as the code has the slot
pub runs_in_lem : (s : State) (n : ℕ) → well_formed s n ≡ true → (k : ℕ) (x : Slot) → k < slot_count → IsSlot s k x → RunsIn x.card.fields n
runs_in_lem s n w k x l o =
    let h = well_state s n w in
    rw (card_is s k x o) (record { few = few_runs s h k l; fits = λ i b. omega (arith, runs_under s h k l i b, well_long s n w) })

-- ---- the rule's release

module _ (s : State) (k : ℕ) (e : length s.slots ≡ slot_count) (l : k < slot_count) (a : Answer) (payload m m' : List ℕ) where
  vacated_state : vacated s k ≡ state_of (released (face_of s) k a).next (sealed (released (face_of s) k a).seal payload m (pcrs_of s))
  unfolding released with_card state_of
  vacated_state =
      ap (λ (xs : List Slot). record { pages = s.pages; kept = s.kept; owner = given s.owner (card_at (face_of s) k).fields 0; slots = xs; mode = Legacy; running = zero_running })
      (sym (state_set s k zero_slot e l))

  pub released_settles : (x : Slot) → IsSlot s k x → state_right s ≡ true → (c : Change) → c ≡ turn_of a (Frees k)
      → m' ≡ wipe page_size m (pages_of x.card.fields)
      → Settles (released (face_of s) k a) payload s m c m'
  unfolding released
  released_settles x o h c p q =
      subst (λ (z : Change). Settles (released (face_of s) k a) payload s m z m') (sym p)
      (record {
        steps = record { answer = refl; state = vacated_state; memory = q ∙ ap (λ (y : Card). wipe page_size m (pages_of y.fields)) (card_is s k x o) };
        fits = (l, runs_fit s h k l);
      })

-- ---- what the code tests is what the rules test

pub own_code_lem : (s : State) (k p v : ℕ) (x : Slot) → Owned s p v → IsSlot s k x → eqb v (k + 1) && in_code x.card.fields p ≡ own_code (face_of s) k p
own_code_lem s k p v x e o = rw (e, card_is s k x o)

-- ---- the ends of the rules

module _ (f : Face) (mark k : ℕ) where
  pub unregister_8 : ltb k slot_count && under_mark (card_at f k) mark ≡ false → unregister_rule f mark k ≡ refuse NotFound f
  unfolding unregister_rule
  unregister_8 e = stop _ NotFound f _ e

  pub unregister_on : ltb k slot_count && under_mark (card_at f k) mark ≡ true → unregister_rule f mark k ≡ released f k answer.Done
  unfolding unregister_rule
  unregister_on e = pass _ NotFound f _ e

module _ (f : Face) (a : ℕ) where
  pub jump_4 : ltb a (start_of f.pages) ≡ false → jump_legacy f a ≡ refuse OutOfRange f
  unfolding jump_legacy
  jump_4 e = stop _ OutOfRange f _ e

  pub jump_5 : ltb a (start_of f.pages) ≡ true → may_reach Legacy f execute (page_of a) ≡ false → jump_legacy f a ≡ refuse NotReached f
  unfolding jump_legacy
  jump_5 e h = pass _ OutOfRange f _ e ∙ stop _ NotReached f _ h

  pub jump_on : ltb a (start_of f.pages) ≡ true → may_reach Legacy f execute (page_of a) ≡ true → jump_legacy f a ≡ still f nothing keep same answer.Done
  unfolding jump_legacy
  jump_on e h = pass _ OutOfRange f _ e ∙ pass _ NotReached f _ h

  pub jump_own : (k : ℕ) → own_code f k (page_of a) ≡ true → jump_secure f k a ≡ still f nothing keep same answer.Done
  unfolding jump_secure
  jump_own k e = pick_true _ _ _ e

  pub jump_away : (k : ℕ) → own_code f k (page_of a) ≡ false → jump_secure f k a ≡ released f k (answer.Terminated k)
  unfolding jump_secure
  jump_away k e = pick_false _ _ _ e

-- in legacy mode a jump leaves state and memory, whatever it answers
pub jump_still : (s : State) → length s.slots ≡ slot_count → (a : ℕ) (payload m : List ℕ) (r : Answer) → r ≡ (jump_legacy (face_of s) a).answer → (c : Change) → c ≡ turn_of r Kept
    → Settles (jump_legacy (face_of s) a) payload s m c m
jump_still s e a payload m r q c k =
    decided (ltb a (start_of s.pages))
    (λ t. decided (is_open (face_of s) (page_of a))
    (λ u. by (jump_on (face_of s) a t u))
    (λ u. by (jump_5 (face_of s) a t u)))
    (λ t. by (jump_4 (face_of s) a t))
  where
    by : {b : Answer} → jump_legacy (face_of s) a ≡ still (face_of s) nothing keep same b → Settles (jump_legacy (face_of s) a) payload s m c m
    by {b} g =
        let o : r ≡ b = q ∙ ap (λ (p : Plan). p.answer) g in
        to_plan (sym g) payload s m (still_settles s e nothing b payload m c (k ∙ ap (λ (z : Answer). turn_of z Kept) o))
