-- Secure mode is entered by a call at an entry alone, and jumps stay on own code.
use Prim.Native.Nat.{ℕ, ◌+◌, ◌<◌}
use native.Mathlib.Omega.{arith}
use mathlib.Core.Path.{◌≡◌, refl, sym, ap, subst, ◌∙◌}
use mathlib.Core.Logic.{◌⊎◌, inl, inr, ⊎_elim}
use mathlib.Core.Bool.{Bool, true, false}
use lib.ListN.{length, get_or}
use borrow.Author.Tests.{eqb-true}
use Rattle.lists.specs.Below.{pick}
use Rattle.lists.proofs.First.{first_at}
use Rattle.lists.proofs.Logic.{and_l, and_r}
use Rattle.geometry.specs.Geometry.{page_of}
use Rattle.fields.specs.declared.Fields.{Fields}
use Rattle.fields.specs.Fields.{entry_at}
use Rattle.fields.specs.Rules.{in_code}
use Rattle.manifest.specs.declared.Reading.{Reading}
use Rattle.manifest.specs.Reader.{read_manifest}
use Rattle.state.specs.declared.Card.{Card}
use Rattle.state.specs.declared.State.{State}
use Rattle.state.specs.declared.Mode.{Mode}
use Rattle.state.specs.declared.Mode.TheVariants.{Legacy, Secure}
use Rattle.state.specs.Face.{Face, face_of, state_of, card_at}
use Rattle.state.proofs.Faces.{card_at_lem}
use Rattle.wellformed.specs.WellFormed.{well_formed}
use Rattle.events.specs.declared.Event.{Event}
use Rattle.events.specs.declared.Event.TheVariants.{Call, Jump}
use Rattle.events.specs.declared.Answer.TheVariants as answer
use Rattle.events.specs.declared.Refusal.{Refusal}
use Rattle.events.specs.declared.Refusal.TheVariants.{NotWellFormed, RuleBroken, OutOfRange, NotReached, NotOpen, NoFreeSlot, NotFound, BufferShort, NoSuchPcr}
use Rattle.rules.specs.Plan.{nothing, keep, same, Plan, guard, still}
use Rattle.rules.specs.Tests.{is_own, own_code, is_entry_at, entry_of, slot_for, with_card}
use Rattle.rules.specs.Decide.{released, registered, register_rule, unregister_rule, entered, call_entry, call_rule, return_rule, jump_legacy, jump_secure, read_rule, write_rule, extend_rule, pcr_rule, rule_in, decide}
use Rattle.rules.specs.Act.{step}
use Rattle.rules.proofs.Facts.{Callable, callable}
use Rattle.rules.proofs.ByRule.{checked, ByRule, by_rule}
use Rattle.integrity.specs.Code.{card_in, Enters, EnteredByCall, JumpsStay}

-- an entry found has the address
pub entry_at_lem : (x : Fields) (a : ℕ) → entry_of x a < x.e → (entry_at x (entry_of x a)).address ≡ a
unfolding entry_of
entry_at_lem x a l = eqb-true (entry_at x (entry_of x a)).address a (first_at (is_entry_at x a) x.e l)

-- the event is a call of slot k at one of its entries
record Calls (f : Face) (k : ℕ) (e : Event) : Type 0 where
  mark : ℕ
  address : ℕ
  input : ℕ
  output : ℕ
  event : e ≡ Call mark address input output
  can : Callable f mark address k

module _ (f : Face) where
  -- a slot that runs after the plan ran before it, or the event called it
  abbrev Before : Event → Plan → Type 0
  Before e p = (k : ℕ) → p.next.mode ≡ Secure k → (f.mode ≡ Secure k) ⊎ Calls f k e

  guarded : {e : Event} (t : Bool) (n : Refusal) (p : Plan) → (t ≡ true → Before e p) → Before e (guard t n f p)
  guarded {e} t n p h = checked (Before e) t n f p (λ k q. inl q) h

  never : {A : Type 0} (k : ℕ) → Legacy ≡ Secure k → A
  never k q = let z : ◌≡◌ {A = ℕ} 0 1 = cc in absurd (omega arith)

  call_before : (mark a i o : ℕ) → Before (Call mark a i o) (call_rule f mark a i o)
  unfolding call_rule call_entry entered
  call_before mark a i o =
      guarded _ NotFound _ λ s. guarded _ OutOfRange _ λ b. guarded _ OutOfRange _ λ c. guarded _ NotReached _ λ d. guarded _ NotReached _ λ g.
      λ k q. let e : slot_for f mark a ≡ k = cc in
      inr (record { mark = mark; address = a; input = i; output = o; event = refl; can = subst (λ (j : ℕ). Callable f mark a j) e (callable f mark a s) })

  by_rules : (room size : ℕ) (x : Reading) → ByRule f room size x (λ e m p. Before e p)
  unfolding register_rule registered with_card unregister_rule released return_rule jump_legacy read_rule write_rule extend_rule pcr_rule
  by_rules room size x =
      record {
        registers = λ mark _. guarded _ RuleBroken _ λ a. guarded _ NotOpen _ λ b. guarded _ NoFreeSlot _ λ c k q. inl q;
        unregisters = λ mark j _. guarded _ NotFound _ λ t k q. never k q;
        calls = λ mark a i o _. call_before mark a i o;
        returns = λ j _ k q. never k q;
        jumps = λ a _. guarded _ OutOfRange _ λ b. guarded _ NotReached _ λ c k q. inl q;
        stays = λ a j _ k q. inl q;
        leaves = λ a j _ k q. never k q;
        reads = λ a n. guarded _ OutOfRange _ λ b. guarded _ NotReached _ λ c. guarded _ BufferShort _ λ d k q. inl q;
        writes = λ a. guarded _ OutOfRange _ λ b. guarded _ NotReached _ λ c k q. inl q;
        device_reads = λ a n. guarded _ OutOfRange _ λ b. guarded _ NotReached _ λ c. guarded _ BufferShort _ λ d k q. inl q;
        device_writes = λ a. guarded _ OutOfRange _ λ b. guarded _ NotReached _ λ c k q. inl q;
        extends = λ i source a n j _. guarded _ NoSuchPcr _ λ b. guarded _ OutOfRange _ λ c. guarded _ NotReached _ λ d k q. inl q;
        pcr_reads = λ i j _. guarded _ NoSuchPcr _ λ b. guarded _ BufferShort _ λ c k q. inl q;
      }

  decide_before : (ok : Bool) (room size : ℕ) (x : Reading) (e : Event) → Before e (decide f ok room size x e)
  decide_before ok room size x = by_rule f room size x (λ e m p. Before e p) (λ e n a k q. inl q) ok (λ t. by_rules room size x)

enters : (s : State) (k : ℕ) (e : Event) → Calls (face_of s) k e → Enters s k e
enters s k e x =
    let c : card_at (face_of s) k ≡ card_in s k = card_at_lem s.slots k in
    let y = x.can in
    record {
      mark = x.mark;
      address = x.address;
      input = x.input;
      output = x.output;
      event = x.event;
      registered = ap (λ (z : Card). z.registered) (sym c) ∙ y.registered;
      under = ap (λ (z : Card). z.mark) (sym c) ∙ y.mark_is;
      place = entry_of (card_in s k).fields x.address;
      used = subst (λ (z : Card). entry_of z.fields x.address < z.fields.e) c y.used;
      at = subst (λ (z : Card). (entry_at z.fields (entry_of z.fields x.address)).address ≡ x.address) c (entry_at_lem (card_at (face_of s) k).fields x.address y.used);
    }

pub entered_by_call : EnteredByCall
unfolding step state_of
entered_by_call s m e payload buffer k h =
    ⊎_elim
    (λ (q : s.mode ≡ Secure k). inl q)
    (λ (q : Calls (face_of s) k e). inr (enters s k e q))
    (decide_before (face_of s) (well_formed s (length m)) (length buffer) (length payload) (read_manifest payload) e k h)

-- ---- jumps

stay_done : (f : Face) (k a : ℕ) → (jump_secure f k a).answer ≡ answer.Done → own_code f k (page_of a) ≡ true
unfolding jump_secure released
stay_done f k a h = go (own_code f k (page_of a)) refl h
  where
    go : (t : Bool) → own_code f k (page_of a) ≡ t → (pick t (still f nothing keep same answer.Done) (released f k (answer.Terminated k))).answer ≡ answer.Done → own_code f k (page_of a) ≡ true
    go true e h = e
    go false e h = let z : ◌≡◌ {A = ℕ} 0 1 = cc in absurd (omega arith)

jump_done : (f : Face) (m : Mode) (ok : Bool) (room size : ℕ) (x : Reading) (k a : ℕ) → m ≡ Secure k → (guard ok NotWellFormed f (rule_in m f room size x (Jump a))).answer ≡ answer.Done → own_code f k (page_of a) ≡ true
unfolding guard rule_in
jump_done f Legacy ok room size x k a e h = let z : ◌≡◌ {A = ℕ} 0 1 = cc in absurd (omega arith)
jump_done f (Secure j) true room size x k a e h = let q : j ≡ k = cc in subst (λ (i : ℕ). own_code f i (page_of a) ≡ true) q (stay_done f j a h)
jump_done f (Secure j) false room size x k a e h = let z : ◌≡◌ {A = ℕ} 0 1 = cc in absurd (omega arith)

pub jumps_stay : JumpsStay
unfolding step decide
jumps_stay s m a payload buffer k e h =
    let f = face_of s in
    let t = jump_done f s.mode (well_formed s (length m)) (length buffer) (length payload) (read_manifest payload) k a e h in
    let c : card_at f k ≡ card_in s k = card_at_lem s.slots k in
    record {
      own = eqb-true (get_or s.owner (page_of a) 0) (k + 1) (and_l (is_own f k (page_of a)) _ t);
      code = ap (λ (z : Card). in_code z.fields (page_of a)) (sym c) ∙ and_r (is_own f k (page_of a)) _ t;
    }
