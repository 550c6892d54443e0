-- From what an event's function says to the outcome of its plan; and check 2.
use Prim.Native.Nat.{ℕ}
use mathlib.Core.Path.{◌≡◌, refl, sym, ap, ◌∙◌}
use mathlib.Core.Bool.{true, false, not, false≢true}
use mathlib.Core.List.{List}
use lib.ListN.{length}
use Rattle.geometry.specs.Geometry.{slot_count}
use Rattle.sha_1.specs.declared.Digest.{Digest}
use Rattle.manifest.specs.declared.Reading.{Reading}
use Rattle.manifest.specs.Reader.{read_manifest}
use Rattle.state.specs.declared.Mode.{Mode}
use Rattle.state.specs.declared.Mode.TheVariants.{Legacy, Secure}
use Rattle.state.specs.declared.State.{State}
use Rattle.state.specs.Face.{Face, face_of, pcrs_of, state_of}
use Rattle.state.proofs.Faces.{state_back}
use Rattle.wellformed.specs.WellFormed.{well_formed}
use Rattle.events.specs.declared.Answer.{Answer}
use Rattle.events.specs.declared.Answer.TheVariants as answer
use Rattle.events.specs.declared.Event.{Event}
use Rattle.events.specs.declared.Event.TheVariants.{Register, Unregister, Call, Return, Jump, Read, Write, DeviceRead, DeviceWrite, Extend, PcrRead}
use Rattle.events.specs.declared.Refusal.{Refusal}
use Rattle.events.specs.declared.Refusal.TheVariants.{NotWellFormed, NotInThisMode}
use Rattle.rules.specs.Plan.{Fetch, nothing, Store, keep, Plan, refuse}
use Rattle.rules.specs.Tests.{read, write, device}
use Rattle.rules.specs.Decide.{rule_in, decide, legacy_only, secure_only, by_mode, register_rule, unregister_rule, call_rule, return_rule, jump_legacy, jump_secure, read_rule, write_rule, extend_rule, pcr_rule}
use Rattle.memory.specs.declared.Source.{Source}
use Rattle.rules.specs.Act.{fetched, stored, sealed, act, plan_of, step}
use Rattle.touch.specs.Carried.{Fills, Stores, Steps}
use Rattle.touch.specs.declared.Stepped.{Stepped}
use Rattle.touch.proofs.Plans.{pass, stop}
use Rattle.decide.specs.Allowed.{is_legacy, slot_in, allowed, out_of}
use Rattle.decide.proofs.Rest.{Leaves}

-- ---- the outcome of a plan

-- by a function that gives the state and memory; the plan leaves the buffer
pub of_steps : {p q : Plan} {r : Stepped} {m' : List ℕ} (payload buffer : List ℕ) (pcrs : List (List Digest)) (m : List ℕ) → q ≡ p → p.fetch ≡ nothing
    → Steps p payload pcrs m r m' → out_of r m' buffer ≡ act q payload buffer pcrs m
of_steps {p} {q} {r} {m'} payload buffer pcrs m e g h =
    let b : buffer ≡ fetched p.fetch pcrs m buffer = ap (λ (x : Fetch). fetched x pcrs m buffer) (sym g) in
    (λ i. record { answer = h.answer i; state = h.state i; memory = h.memory i; buffer = b i })
    ∙ ap (λ (z : Plan). act z payload buffer pcrs m) (sym e)

module _ (s : State) (e : length s.slots ≡ slot_count) where
  same_state : (p : Plan) (payload m : List ℕ) → Leaves p (face_of s) → s ≡ state_of p.next (sealed p.seal payload m (pcrs_of s))
  same_state p payload m l =
      sym (state_back s e)
      ∙ (λ i. state_of (sym l.next i) (sealed (sym l.seal i) payload m (pcrs_of s)))

  -- by one that fills the buffer; the plan leaves the rest
  pub of_fills : {p q : Plan} {r : Answer} {buffer' : List ℕ} (payload buffer m : List ℕ) → q ≡ p → Leaves p (face_of s) → p.store ≡ keep
      → Fills p (pcrs_of s) m buffer r buffer' → out_of (record { answer = r; state = s }) m buffer' ≡ act q payload buffer (pcrs_of s) m
  of_fills {p} {q} {r} {buffer'} payload buffer m w l k h =
      let x = same_state p payload m l in
      let y : m ≡ stored p.store payload m = ap (λ (z : Store). stored z payload m) (sym k) in
      (λ i. record { answer = h.0 i; state = x i; memory = y i; buffer = h.1 i })
      ∙ ap (λ (z : Plan). act z payload buffer (pcrs_of s) m) (sym w)

  -- by one that stores in memory; the plan leaves the rest
  pub of_stores : {p q : Plan} {r : Answer} {m' : List ℕ} (payload buffer m : List ℕ) → q ≡ p → Leaves p (face_of s) → p.fetch ≡ nothing
      → Stores p payload m r m' → out_of (record { answer = r; state = s }) m' buffer ≡ act q payload buffer (pcrs_of s) m
  of_stores {p} {q} {r} {m'} payload buffer m w l k h =
      let x = same_state p payload m l in
      let y : buffer ≡ fetched p.fetch (pcrs_of s) m buffer = ap (λ (z : Fetch). fetched z (pcrs_of s) m buffer) (sym k) in
      (λ i. record { answer = h.0 i; state = x i; memory = h.1 i; buffer = y i })
      ∙ ap (λ (z : Plan). act z payload buffer (pcrs_of s) m) (sym w)

  -- a refusal
  pub of_refuse : {q : Plan} (r : Refusal) (payload buffer m : List ℕ) → q ≡ refuse r (face_of s) → out_of (record { answer = answer.Refused r; state = s }) m buffer ≡ act q payload buffer (pcrs_of s) m
  of_refuse {q} r payload buffer m w =
      (λ i. record { answer = answer.Refused r; state = sym (state_back s e) i; memory = m; buffer = buffer })
      ∙ ap (λ (z : Plan). act z payload buffer (pcrs_of s) m) (sym w)

-- ---- check 1

module _ (s : State) (m payload buffer : List ℕ) (ev : Event) where
  pub step_1 : well_formed s (length m) ≡ false → plan_of s (length m) (length buffer) payload ev ≡ refuse NotWellFormed (face_of s)
  unfolding decide
  step_1 h = stop (well_formed s (length m)) NotWellFormed (face_of s) _ h

  pub step_on : well_formed s (length m) ≡ true
      → step s m ev payload buffer ≡ act (rule_in s.mode (face_of s) (length buffer) (length payload) (read_manifest payload) ev) payload buffer (pcrs_of s) m
  unfolding step decide
  step_on h = ap (λ (z : Plan). act z payload buffer (pcrs_of s) m) (pass (well_formed s (length m)) NotWellFormed (face_of s) _ h)

  pub step_as : {q : Plan} → plan_of s (length m) (length buffer) payload ev ≡ q → step s m ev payload buffer ≡ act q payload buffer (pcrs_of s) m
  unfolding step
  step_as e = ap (λ (z : Plan). act z payload buffer (pcrs_of s) m) e

-- ---- check 2

module _ (f : Face) where
  legacy_no : (m : Mode) (p : Plan) → is_legacy m ≡ false → legacy_only m f p ≡ refuse NotInThisMode f
  legacy_no Legacy p h = absurd (false≢true (sym h))
  legacy_no (Secure k) p h = refl

  secure_no : (m : Mode) (r : ℕ → Plan) → not (is_legacy m) ≡ false → secure_only m f r ≡ refuse NotInThisMode f
  secure_no Legacy r h = refl
  secure_no (Secure k) r h = absurd (false≢true (sym h))

  pub legacy_on : (m : Mode) (p : Plan) → is_legacy m ≡ true → legacy_only m f p ≡ p
  legacy_on Legacy p h = refl
  legacy_on (Secure k) p h = absurd (false≢true h)

  pub secure_on : (m : Mode) (r : ℕ → Plan) → not (is_legacy m) ≡ true → secure_only m f r ≡ r (slot_in m)
  secure_on Legacy r h = absurd (false≢true h)
  secure_on (Secure k) r h = refl

  pub rule_2 : (m : Mode) (room size : ℕ) (man : Reading) (ev : Event) → allowed m ev ≡ false → rule_in m f room size man ev ≡ refuse NotInThisMode f
  unfolding rule_in
  rule_2 m room size man (Register mark) h = legacy_no m _ h
  rule_2 m room size man (Unregister mark k) h = legacy_no m _ h
  rule_2 m room size man (Call mark a i o) h = legacy_no m _ h
  rule_2 m room size man Return h = secure_no m _ h
  rule_2 m room size man (Jump a) h = absurd (false≢true (sym h))
  rule_2 m room size man (Read a n) h = absurd (false≢true (sym h))
  rule_2 m room size man (Write a) h = absurd (false≢true (sym h))
  rule_2 m room size man (DeviceRead a n) h = absurd (false≢true (sym h))
  rule_2 m room size man (DeviceWrite a) h = absurd (false≢true (sym h))
  rule_2 m room size man (Extend i source a n) h = secure_no m _ h
  rule_2 m room size man (PcrRead i) h = secure_no m _ h

-- the mode of an event that only a codeblock may send
pub mode_is : (m : Mode) → not (is_legacy m) ≡ true → m ≡ Secure (slot_in m)
mode_is Legacy h = absurd (false≢true h)
mode_is (Secure k) h = refl

-- ---- which rule an allowed event has

module _ (m : Mode) (f : Face) (room size : ℕ) (man : Reading) (ev : Event) (h : allowed m ev ≡ true) where
  pub as_register : (mark : ℕ) → ev ≡ Register mark → rule_in m f room size man ev ≡ register_rule f mark man
  unfolding rule_in
  as_register mark e = ap (rule_in m f room size man) e ∙ legacy_on f m _ (ap (allowed m) (sym e) ∙ h)

  pub as_unregister : (mark k : ℕ) → ev ≡ Unregister mark k → rule_in m f room size man ev ≡ unregister_rule f mark k
  unfolding rule_in
  as_unregister mark k e = ap (rule_in m f room size man) e ∙ legacy_on f m _ (ap (allowed m) (sym e) ∙ h)

  pub as_call : (mark a i o : ℕ) → ev ≡ Call mark a i o → rule_in m f room size man ev ≡ call_rule f mark a i o
  unfolding rule_in
  as_call mark a i o e = ap (rule_in m f room size man) e ∙ legacy_on f m _ (ap (allowed m) (sym e) ∙ h)

  pub as_return : (k : ℕ) → k ≡ slot_in m → ev ≡ Return → rule_in m f room size man ev ≡ return_rule f k
  unfolding rule_in
  as_return k s e = ap (rule_in m f room size man) e ∙ secure_on f m (return_rule f) (ap (allowed m) (sym e) ∙ h) ∙ ap (return_rule f) (sym s)

  pub as_jump : (a : ℕ) → ev ≡ Jump a → rule_in m f room size man ev ≡ by_mode m (jump_legacy f a) (λ k. jump_secure f k a)
  unfolding rule_in
  as_jump a e = ap (rule_in m f room size man) e

  pub as_read : (a n : ℕ) → ev ≡ Read a n → rule_in m f room size man ev ≡ read_rule m f read room a n
  unfolding rule_in
  as_read a n e = ap (rule_in m f room size man) e

  pub as_write : (a : ℕ) → ev ≡ Write a → rule_in m f room size man ev ≡ write_rule m f write a size
  unfolding rule_in
  as_write a e = ap (rule_in m f room size man) e

  pub as_device_read : (a n : ℕ) → ev ≡ DeviceRead a n → rule_in m f room size man ev ≡ read_rule m f device room a n
  unfolding rule_in
  as_device_read a n e = ap (rule_in m f room size man) e

  pub as_device_write : (a : ℕ) → ev ≡ DeviceWrite a → rule_in m f room size man ev ≡ write_rule m f device a size
  unfolding rule_in
  as_device_write a e = ap (rule_in m f room size man) e

  pub as_extend : (k : ℕ) → k ≡ slot_in m → (i : ℕ) (source : Source) (a n : ℕ) → ev ≡ Extend i source a n → rule_in m f room size man ev ≡ extend_rule f k size i source a n
  unfolding rule_in
  as_extend k s i source a n e =
      ap (rule_in m f room size man) e ∙ secure_on f m (λ j. extend_rule f j size i source a n) (ap (allowed m) (sym e) ∙ h)
      ∙ ap (λ (j : ℕ). extend_rule f j size i source a n) (sym s)

  pub as_pcr : (k : ℕ) → k ≡ slot_in m → (i : ℕ) → ev ≡ PcrRead i → rule_in m f room size man ev ≡ pcr_rule f k room i
  unfolding rule_in
  as_pcr k s i e =
      ap (rule_in m f room size man) e ∙ secure_on f m (λ j. pcr_rule f j room i) (ap (allowed m) (sym e) ∙ h)
      ∙ ap (λ (j : ℕ). pcr_rule f j room i) (sym s)

-- the slot that runs is the mode's
pub mode_of_lem : (m : Mode) (k : ℕ) → k ≡ slot_in m → not (is_legacy m) ≡ true → m ≡ Secure k
mode_of_lem m k e h = mode_is m h ∙ ap Secure (sym e)
