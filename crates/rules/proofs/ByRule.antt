-- What holds of refusals and of the plan of each rule holds of every decision.
use Prim.Native.Nat.{ℕ, ◌≤◌}
use native.Mathlib.Omega.{arith}
use mathlib.Core.Path.{◌≡◌, refl}
use mathlib.Core.Bool.{Bool, true, false}
use Rattle.lists.specs.Below.{pick}
use Rattle.geometry.specs.Geometry.{page_of}
use Rattle.memory.specs.declared.Source.{Source}
use Rattle.manifest.specs.declared.Reading.{Reading}
use Rattle.state.specs.declared.Mode.{Mode}
use Rattle.state.specs.declared.Mode.TheVariants.{Legacy, Secure}
use Rattle.state.specs.Face.{Face}
use Rattle.events.specs.declared.Event.{Event}
use Rattle.events.specs.declared.Event.TheVariants.{Register, Unregister, Call, Return, Jump, Read, Write, DeviceRead, DeviceWrite, Extend, PcrRead}
use Rattle.events.specs.declared.Answer.TheVariants as answer
use Rattle.events.specs.declared.Refusal.TheVariants.{NotWellFormed, NotInThisMode}
use Rattle.events.specs.declared.Refusal.{Refusal}
use Rattle.events.specs.Refusals.{number_of}
use Rattle.rules.specs.Plan.{nothing, keep, same, Plan, refuse, guard, still}
use Rattle.rules.specs.Tests.{read, write, execute, device, may_reach}
use Rattle.rules.specs.Decide.{released, register_rule, unregister_rule, call_rule, return_rule, jump_legacy, jump_secure, read_rule, write_rule, extend_rule, pcr_rule, legacy_only, secure_only, by_mode, rule_in, decide}

-- of a check
pub checked : (Q : Plan → Type 0) (t : Bool) (n : Refusal) (f : Face) (p : Plan) → Q (refuse n f) → (t ≡ true → Q p) → Q (guard t n f p)
unfolding guard
checked Q true n f p x h = h refl
checked Q false n f p x h = x

-- of a choice
picked : (Q : Plan → Type 0) (t : Bool) (p q : Plan) → Q p → Q q → Q (pick t p q)
picked Q true p q h g = h
picked Q false p q h g = g

-- of a rule by the mode
module _ (Q : Mode → Plan → Type 0) where
  in_legacy : (m : Mode) (f : Face) (p : Plan) → Q m (refuse NotInThisMode f) → (m ≡ Legacy → Q Legacy p) → Q m (legacy_only m f p)
  in_legacy Legacy f p x h = h refl
  in_legacy (Secure k) f p x h = x

  in_secure : (m : Mode) (f : Face) (p : ℕ → Plan) → Q m (refuse NotInThisMode f) → ((k : ℕ) → m ≡ Secure k → Q (Secure k) (p k)) → Q m (secure_only m f p)
  in_secure Legacy f p x h = x
  in_secure (Secure k) f p x h = h k refl

  in_either : (m : Mode) (p : Plan) (q : ℕ → Plan) → (m ≡ Legacy → Q Legacy p) → ((k : ℕ) → m ≡ Secure k → Q (Secure k) (q k)) → Q m (by_mode m p q)
  in_either Legacy p q h g = h refl
  in_either (Secure k) p q h g = g k refl

-- of the event, the mode and the plan
module _ (f : Face) (room size : ℕ) (man : Reading) (Q : Event → Mode → Plan → Type 0) where
  -- of each rule in its mode; a codeblock's jump stays in it, or it is released
  pub record ByRule : Type 0 where
    pub registers : (mark : ℕ) → f.mode ≡ Legacy → Q (Register mark) Legacy (register_rule f mark man)
    pub unregisters : (mark k : ℕ) → f.mode ≡ Legacy → Q (Unregister mark k) Legacy (unregister_rule f mark k)
    pub calls : (mark a i o : ℕ) → f.mode ≡ Legacy → Q (Call mark a i o) Legacy (call_rule f mark a i o)
    pub returns : (k : ℕ) → f.mode ≡ Secure k → Q Return (Secure k) (return_rule f k)
    pub jumps : (a : ℕ) → f.mode ≡ Legacy → Q (Jump a) Legacy (jump_legacy f a)
    pub stays : (a k : ℕ) → f.mode ≡ Secure k → Q (Jump a) (Secure k) (still f nothing keep same answer.Done)
    pub leaves : (a k : ℕ) → f.mode ≡ Secure k → Q (Jump a) (Secure k) (released f k (answer.Terminated k))
    pub reads : (a n : ℕ) → Q (Read a n) f.mode (read_rule f.mode f read room a n)
    pub writes : (a : ℕ) → Q (Write a) f.mode (write_rule f.mode f write a size)
    pub device_reads : (a n : ℕ) → Q (DeviceRead a n) f.mode (read_rule f.mode f device room a n)
    pub device_writes : (a : ℕ) → Q (DeviceWrite a) f.mode (write_rule f.mode f device a size)
    pub extends : (i : ℕ) (source : Source) (a n k : ℕ) → f.mode ≡ Secure k → Q (Extend i source a n) (Secure k) (extend_rule f k size i source a n)
    pub pcr_reads : (i k : ℕ) → f.mode ≡ Secure k → Q (PcrRead i) (Secure k) (pcr_rule f k room i)

  module _ (refused : (e : Event) (n : Refusal) → number_of n ≤ 10 → Q e f.mode (refuse n f)) where
    two : (e : Event) → Q e f.mode (refuse NotInThisMode f)
    two e = refused e NotInThisMode (omega arith)

    rule_by : ByRule → (e : Event) → Q e f.mode (rule_in f.mode f room size man e)
    unfolding rule_in jump_secure
    rule_by h (Register mark) = in_legacy (Q _) f.mode f _ (two _) (h.registers mark)
    rule_by h (Unregister mark k) = in_legacy (Q _) f.mode f _ (two _) (h.unregisters mark k)
    rule_by h (Call mark a i o) = in_legacy (Q _) f.mode f _ (two _) (h.calls mark a i o)
    rule_by h Return = in_secure (Q _) f.mode f _ (two _) h.returns
    rule_by h (Jump a) =
        in_either (Q _) f.mode _ _ (h.jumps a)
        (λ k q. picked (Q _ (Secure k)) (may_reach (Secure k) f execute (page_of a)) _ _ (h.stays a k q) (h.leaves a k q))
    rule_by h (Read a n) = h.reads a n
    rule_by h (Write a) = h.writes a
    rule_by h (DeviceRead a n) = h.device_reads a n
    rule_by h (DeviceWrite a) = h.device_writes a
    rule_by h (Extend i source a n) = in_secure (Q _) f.mode f _ (two _) (h.extends i source a n)
    rule_by h (PcrRead i) = in_secure (Q _) f.mode f _ (two _) (h.pcr_reads i)

    pub by_rule : (ok : Bool) → (ok ≡ true → ByRule) → (e : Event) → Q e f.mode (decide f ok room size man e)
    unfolding decide
    by_rule ok h e = checked (Q e f.mode) ok NotWellFormed f _ (refused e NotWellFormed (omega arith)) (λ t. rule_by (h t) e)
