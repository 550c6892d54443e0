-- Each event's end: what its function says is what the step's rule says.
use Prim.Native.Nat.{ℕ}
use mathlib.Core.Path.{◌≡◌, refl, sym, subst, ◌∙◌}
use mathlib.Core.Bool.{true, false}
use mathlib.Core.List.{List}
use lib.ListN.{length}
use Rattle.geometry.specs.Geometry.{slot_count}
use Rattle.memory.specs.declared.Source.{Source}
use Rattle.manifest.specs.Reader.{read_manifest}
use Rattle.state.specs.declared.State.{State}
use Rattle.state.specs.Face.{face_of, pcrs_of}
use Rattle.events.specs.declared.Answer.{Answer}
use Rattle.events.specs.declared.Answer.TheVariants as answer
use Rattle.events.specs.declared.Event.{Event}
use Rattle.events.specs.declared.Event.TheVariants.{Register, Unregister, Call, Return, Jump, Read, Write, DeviceRead, DeviceWrite, Extend, PcrRead}
use Rattle.events.specs.declared.Refusal.TheVariants.{NotWellFormed, NotInThisMode}
use Rattle.wellformed.specs.WellFormed.{well_formed}
use Rattle.rules.specs.Plan.{nothing, keep, Plan}
use Rattle.rules.specs.Tests.{read, write, device}
use Rattle.rules.specs.Decide.{rule_in, by_mode, register_rule, unregister_rule, call_rule, return_rule, jump_legacy, jump_secure, read_rule, write_rule, extend_rule, pcr_rule}
use Rattle.rules.specs.Act.{Out, act, step}
use Rattle.touch.specs.Carried.{Fills, Stores}
use Rattle.change.specs.declared.Change.{Change}
use Rattle.change.specs.declared.Turn.TheVariants.{Kept}
use Rattle.change.specs.Turns.{turn_of, Settles, Acts}
use Rattle.decide.specs.Allowed.{slot_in, allowed, out_of, Comes}
use Rattle.decide.proofs.Rest.{Leaves, register_nothing, unregister_nothing, call_nothing, return_nothing, jump_nothing, extend_nothing, write_nothing, write_leaves, read_leaves, read_keeps, pcr_leaves, pcr_keeps}
use Rattle.decide.proofs.Outs.{of_steps, of_fills, of_stores, of_refuse, step_1, step_on, step_as, rule_2, as_register, as_unregister, as_call, as_return, as_jump, as_read, as_write, as_device_read, as_device_write, as_extend, as_pcr}

-- the state stays
kept_comes : {o : Out} {m b : List ℕ} (s : State) (a : Answer) (c : Change) → c ≡ turn_of a Kept → out_of (record { answer = a; state = s }) m b ≡ o → Comes s c m b o
kept_comes {o} {m} {b} s a c q h = subst (λ (z : Change). Comes s z m b o) (sym q) (record { out = h; fits = tt })

-- check 1 refuses
pub refuses_1 : (s : State) → length s.slots ≡ slot_count → (payload buffer m : List ℕ) (ev : Event) (c : Change) → c ≡ turn_of (answer.Refused NotWellFormed) Kept → well_formed s (length m) ≡ false
    → Comes s c m buffer (step s m ev payload buffer)
refuses_1 s e payload buffer m ev c q h =
    kept_comes s (answer.Refused NotWellFormed) c q
    (of_refuse s e NotWellFormed payload buffer m refl ∙ sym (step_as s m payload buffer ev (step_1 s m payload buffer ev h)))

-- check 1 passes: what the event's rule comes to is what the step comes to
pub comes_on : (s : State) (payload buffer m : List ℕ) (ev : Event) {c : Change} {m' b' : List ℕ} → well_formed s (length m) ≡ true
    → Comes s c m' b' (act (rule_in s.mode (face_of s) (length buffer) (length payload) (read_manifest payload) ev) payload buffer (pcrs_of s) m)
    → Comes s c m' b' (step s m ev payload buffer)
comes_on s payload buffer m ev w r = record { out = r.out ∙ sym (step_on s m payload buffer ev w); fits = r.fits }

-- check 2 refuses
pub refuses_2 : (s : State) → length s.slots ≡ slot_count → (payload buffer m : List ℕ) (ev : Event) (c : Change) → c ≡ turn_of (answer.Refused NotInThisMode) Kept → well_formed s (length m) ≡ true
    → allowed s.mode ev ≡ false → Comes s c m buffer (step s m ev payload buffer)
refuses_2 s e payload buffer m ev c q w h =
    comes_on s payload buffer m ev w
    (kept_comes s (answer.Refused NotInThisMode) c q
    (of_refuse s e NotInThisMode payload buffer m (rule_2 (face_of s) s.mode (length buffer) (length payload) (read_manifest payload) ev h)))

module _ (s : State) (e : length s.slots ≡ slot_count) (payload buffer m : List ℕ) (ev : Event) (h : allowed s.mode ev ≡ true) where
  abbrev Ends : Change → List ℕ → List ℕ → Type 0
  Ends c m' b' = Comes s c m' b' (act (rule_in s.mode (face_of s) (length buffer) (length payload) (read_manifest payload) ev) payload buffer (pcrs_of s) m)

  settled_end : {p : Plan} {c : Change} {m' : List ℕ} → rule_in s.mode (face_of s) (length buffer) (length payload) (read_manifest payload) ev ≡ p → p.fetch ≡ nothing → Settles p payload s m c m' → Ends c m' buffer
  settled_end w n x = record { out = of_steps payload buffer (pcrs_of s) m w n x.steps; fits = x.fits }

  fills_end : {p : Plan} {a : Answer} {b' : List ℕ} (c : Change) → c ≡ turn_of a Kept → rule_in s.mode (face_of s) (length buffer) (length payload) (read_manifest payload) ev ≡ p → Leaves p (face_of s) → p.store ≡ keep → Fills p (pcrs_of s) m buffer a b' → Ends c m b'
  fills_end c q w l k x = kept_comes s _ c q (of_fills s e payload buffer m w l k x)

  stores_end : {p : Plan} {a : Answer} {m' : List ℕ} (c : Change) → c ≡ turn_of a Kept → rule_in s.mode (face_of s) (length buffer) (length payload) (read_manifest payload) ev ≡ p → Leaves p (face_of s) → p.fetch ≡ nothing → Stores p payload m a m' → Ends c m' buffer
  stores_end c q w l k x = kept_comes s _ c q (of_stores s e payload buffer m w l k x)

  pub register_end : {c : Change} {m' : List ℕ} (mark : ℕ) → ev ≡ Register mark → Settles (register_rule (face_of s) mark (read_manifest payload)) payload s m c m' → Ends c m' buffer
  register_end mark w x = settled_end (as_register s.mode (face_of s) (length buffer) (length payload) (read_manifest payload) ev h mark w) (register_nothing (face_of s) mark (read_manifest payload)) x

  pub unregister_end : {c : Change} {m' : List ℕ} (mark k : ℕ) → ev ≡ Unregister mark k → Acts (unregister_rule (face_of s) mark k) s m c m' → Ends c m' buffer
  unregister_end mark k w x = settled_end (as_unregister s.mode (face_of s) (length buffer) (length payload) (read_manifest payload) ev h mark k w) (unregister_nothing (face_of s) mark k) (x payload)

  pub call_end : {c : Change} {m' : List ℕ} (mark a i o : ℕ) → ev ≡ Call mark a i o → Acts (call_rule (face_of s) mark a i o) s m c m' → Ends c m' buffer
  call_end mark a i o w x = settled_end (as_call s.mode (face_of s) (length buffer) (length payload) (read_manifest payload) ev h mark a i o w) (call_nothing (face_of s) mark a i o) (x payload)

  pub return_end : {c : Change} {m' : List ℕ} (k : ℕ) → k ≡ slot_in s.mode → ev ≡ Return → Acts (return_rule (face_of s) k) s m c m' → Ends c m' buffer
  return_end k q w x = settled_end (as_return s.mode (face_of s) (length buffer) (length payload) (read_manifest payload) ev h k q w) (return_nothing (face_of s) k) (x payload)

  pub jump_end : {c : Change} {m' : List ℕ} (a : ℕ) → ev ≡ Jump a → Acts (by_mode s.mode (jump_legacy (face_of s) a) (λ k. jump_secure (face_of s) k a)) s m c m' → Ends c m' buffer
  jump_end a w x = settled_end (as_jump s.mode (face_of s) (length buffer) (length payload) (read_manifest payload) ev h a w) (jump_nothing s.mode (face_of s) a) (x payload)

  pub read_end : {b : Answer} {b' : List ℕ} (c : Change) → c ≡ turn_of b Kept → (a n : ℕ) → ev ≡ Read a n → Fills (read_rule s.mode (face_of s) read (length buffer) a n) (pcrs_of s) m buffer b b' → Ends c m b'
  read_end c q a n w x = fills_end c q (as_read s.mode (face_of s) (length buffer) (length payload) (read_manifest payload) ev h a n w) (read_leaves s.mode (face_of s) read (length buffer) a n) (read_keeps s.mode (face_of s) read (length buffer) a n) x

  pub write_end : {b : Answer} {m' : List ℕ} (c : Change) → c ≡ turn_of b Kept → (a : ℕ) → ev ≡ Write a → Stores (write_rule s.mode (face_of s) write a (length payload)) payload m b m' → Ends c m' buffer
  write_end c q a w x = stores_end c q (as_write s.mode (face_of s) (length buffer) (length payload) (read_manifest payload) ev h a w) (write_leaves s.mode (face_of s) write a (length payload)) (write_nothing s.mode (face_of s) write a (length payload)) x

  pub device_read_end : {b : Answer} {b' : List ℕ} (c : Change) → c ≡ turn_of b Kept → (a n : ℕ) → ev ≡ DeviceRead a n → Fills (read_rule s.mode (face_of s) device (length buffer) a n) (pcrs_of s) m buffer b b' → Ends c m b'
  device_read_end c q a n w x = fills_end c q (as_device_read s.mode (face_of s) (length buffer) (length payload) (read_manifest payload) ev h a n w) (read_leaves s.mode (face_of s) device (length buffer) a n) (read_keeps s.mode (face_of s) device (length buffer) a n) x

  pub device_write_end : {b : Answer} {m' : List ℕ} (c : Change) → c ≡ turn_of b Kept → (a : ℕ) → ev ≡ DeviceWrite a → Stores (write_rule s.mode (face_of s) device a (length payload)) payload m b m' → Ends c m' buffer
  device_write_end c q a w x = stores_end c q (as_device_write s.mode (face_of s) (length buffer) (length payload) (read_manifest payload) ev h a w) (write_leaves s.mode (face_of s) device a (length payload)) (write_nothing s.mode (face_of s) device a (length payload)) x

  pub extend_end : {c : Change} {m' : List ℕ} (k : ℕ) → k ≡ slot_in s.mode → (i : ℕ) (source : Source) (a n : ℕ) → ev ≡ Extend i source a n → Settles (extend_rule (face_of s) k (length payload) i source a n) payload s m c m' → Ends c m' buffer
  extend_end k q i source a n w x = settled_end (as_extend s.mode (face_of s) (length buffer) (length payload) (read_manifest payload) ev h k q i source a n w) (extend_nothing (face_of s) k (length payload) i source a n) x

  pub pcr_end : {b : Answer} {b' : List ℕ} (c : Change) → c ≡ turn_of b Kept → (k : ℕ) → k ≡ slot_in s.mode → (i : ℕ) → ev ≡ PcrRead i → Fills (pcr_rule (face_of s) k (length buffer) i) (pcrs_of s) m buffer b b' → Ends c m b'
  pcr_end c r k q i w x = fills_end c r (as_pcr s.mode (face_of s) (length buffer) (length payload) (read_manifest payload) ev h k q i w) (pcr_leaves (face_of s) k (length buffer) i) (pcr_keeps (face_of s) k (length buffer) i) x
