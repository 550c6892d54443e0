-- A plan of the rules is a refusal that keeps all, with a number from 1 to 10, or is accepted and fetches what the event asks.
use Prim.Native.Nat.{ℕ, ◌≤◌, ◌<◌}
use native.Mathlib.Omega.{arith}
use mathlib.Core.Path.{◌≡◌, refl}
use mathlib.Core.Bool.{Bool, true, false}
use lib.Dec.{leb}
use borrow.Author.Tests.{leb-true, ltb-true}
use Rattle.geometry.specs.Geometry.{pcr_count, is_range, digest_size}
use Rattle.manifest.specs.declared.Reading.{Reading}
use Rattle.state.specs.declared.Mode.{Mode}
use Rattle.state.specs.declared.Mode.TheVariants.{Legacy, Secure}
use Rattle.state.specs.Face.{Face}
use Rattle.events.specs.declared.Event.{Event}
use Rattle.events.specs.declared.Event.TheVariants.{Register, Unregister, Call, Return, Jump, Read, Write, DeviceRead, DeviceWrite, Extend, PcrRead}
use Rattle.events.specs.declared.Answer.{Answer}
use Rattle.events.specs.declared.Answer.TheVariants as answer
use Rattle.events.specs.declared.Refusal.{Refusal}
use Rattle.events.specs.declared.Refusal.TheVariants.{RuleBroken, OutOfRange, NotReached, NotOpen, NoFreeSlot, NotFound, BufferShort, NoSuchPcr}
use Rattle.events.specs.Refusals.{number_of}
use Rattle.events.specs.Answers.{told_by, fills}
use Rattle.rules.specs.Plan.{Fetch, nothing, bytes, pcr, Plan, refuse, guard}
use Rattle.rules.specs.Decide.{released, registered, register_rule, unregister_rule, entered, call_entry, call_rule, return_rule, jump_legacy, read_rule, write_rule, extend_rule, pcr_rule, decide}
use Rattle.rules.proofs.ByRule.{checked, ByRule, by_rule}
use Rattle.kept.specs.Buffers.{asked}

-- what an accepted event fetches
abbrev pub running_fetch : Mode → ℕ → Fetch
running_fetch Legacy i = nothing
running_fetch (Secure k) i = pcr k i

abbrev pub fetch_for : Mode → Event → Fetch
fetch_for m (Register mark) = nothing
fetch_for m (Unregister mark k) = nothing
fetch_for m (Call mark a i o) = nothing
fetch_for m Return = nothing
fetch_for m (Jump a) = nothing
fetch_for m (Read a n) = bytes a n
fetch_for m (Write a) = nothing
fetch_for m (DeviceRead a n) = bytes a n
fetch_for m (DeviceWrite a) = nothing
fetch_for m (Extend i source a n) = nothing
fetch_for m (PcrRead i) = running_fetch m i

-- and that it can be had
abbrev pub RunningHad : Mode → ℕ → Type 0
RunningHad Legacy i = ⊥
RunningHad (Secure k) i = i < pcr_count

abbrev pub Had : Face → Mode → Event → Type 0
Had f m (Register mark) = Unit {0}
Had f m (Unregister mark k) = Unit {0}
Had f m (Call mark a i o) = Unit {0}
Had f m Return = Unit {0}
Had f m (Jump a) = Unit {0}
Had f m (Read a n) = is_range f.pages a n ≡ true
Had f m (Write a) = Unit {0}
Had f m (DeviceRead a n) = is_range f.pages a n ≡ true
Had f m (DeviceWrite a) = Unit {0}
Had f m (Extend i source a n) = Unit {0}
Had f m (PcrRead i) = RunningHad m i

-- an answer that is no refusal
abbrev pub Accepts : Answer → Type 0
Accepts answer.Done = Unit {0}
Accepts (answer.Slot k) = Unit {0}
Accepts (answer.Entered k) = Unit {0}
Accepts (answer.Left n) = Unit {0}
Accepts (answer.Terminated k) = Unit {0}
Accepts (answer.Filled n) = Unit {0}
Accepts (answer.Refused r) = ⊥

-- is told as 0
pub accepts_zero : (a : Answer) → Accepts a → (told_by a).number ≡ 0
accepts_zero answer.Done h = refl
accepts_zero (answer.Slot k) h = refl
accepts_zero (answer.Entered k) h = refl
accepts_zero (answer.Left n) h = refl
accepts_zero (answer.Terminated k) h = refl
accepts_zero (answer.Filled n) h = refl
accepts_zero (answer.Refused r) h = absurd h

pub data Outcome (f : Face) (m : Mode) (room : ℕ) (e : Event) (p : Plan) : Type 0 where
  refused : (r : Refusal) → number_of r ≤ 10 → p ≡ refuse r f → Outcome f m room e p
  accepted : Accepts p.answer → fills p.answer ≡ asked e → asked e ≤ room → p.fetch ≡ fetch_for m e → Had f m e → Outcome f m room e p

module _ (f : Face) (room : ℕ) where
  guarded : {m : Mode} {e : Event} (t : Bool) (r : Refusal) (p : Plan) → leb (number_of r) 10 ≡ true → (t ≡ true → Outcome f m room e p) → Outcome f m room e (guard t r f p)
  guarded {m} {e} t r p a h = checked (Outcome f m room e) t r f p (refused r (leb-true (number_of r) 10 a) refl) h

  by_rules : (size : ℕ) (x : Reading) → ByRule f room size x (λ e m p. Outcome f m room e p)
  unfolding register_rule registered unregister_rule released call_rule call_entry entered return_rule jump_legacy read_rule write_rule extend_rule pcr_rule
  by_rules size x =
      record {
        registers = λ mark q. guarded _ RuleBroken _ refl λ a. guarded _ NotOpen _ refl λ b. guarded _ NoFreeSlot _ refl λ c. accepted tt refl (omega arith) refl tt;
        unregisters = λ mark k q. guarded _ NotFound _ refl λ a. accepted tt refl (omega arith) refl tt;
        calls = λ mark a i o q. guarded _ NotFound _ refl λ b. guarded _ OutOfRange _ refl λ c. guarded _ OutOfRange _ refl λ d. guarded _ NotReached _ refl λ g. guarded _ NotReached _ refl λ h.
            accepted tt refl (omega arith) refl tt;
        returns = λ k q. accepted tt refl (omega arith) refl tt;
        jumps = λ a q. guarded _ OutOfRange _ refl λ b. guarded _ NotReached _ refl λ c. accepted tt refl (omega arith) refl tt;
        stays = λ a k q. accepted tt refl (omega arith) refl tt;
        leaves = λ a k q. accepted tt refl (omega arith) refl tt;
        reads = λ a n. guarded _ OutOfRange _ refl λ b. guarded _ NotReached _ refl λ c. guarded _ BufferShort _ refl λ d. accepted tt refl (leb-true n room d) refl b;
        writes = λ a. guarded _ OutOfRange _ refl λ b. guarded _ NotReached _ refl λ c. accepted tt refl (omega arith) refl tt;
        device_reads = λ a n. guarded _ OutOfRange _ refl λ b. guarded _ NotReached _ refl λ c. guarded _ BufferShort _ refl λ d. accepted tt refl (leb-true n room d) refl b;
        device_writes = λ a. guarded _ OutOfRange _ refl λ b. guarded _ NotReached _ refl λ c. accepted tt refl (omega arith) refl tt;
        extends = λ i source a n k q. guarded _ NoSuchPcr _ refl λ b. guarded _ OutOfRange _ refl λ c. guarded _ NotReached _ refl λ d. accepted tt refl (omega arith) refl tt;
        pcr_reads = λ i k q. guarded _ NoSuchPcr _ refl λ b. guarded _ BufferShort _ refl λ c. accepted tt refl (leb-true digest_size room c) refl (ltb-true i pcr_count b);
      }

  pub outcome : (ok : Bool) (size : ℕ) (x : Reading) (e : Event) → Outcome f f.mode room e (decide f ok room size x e)
  outcome ok size x = by_rule f room size x (λ e m p. Outcome f m room e p) (λ e n a. refused n a refl) ok (λ t. by_rules size x)

-- only where check 1 passed
pub passed : (f : Face) (ok : Bool) (room size : ℕ) (x : Reading) (e : Event) → Accepts (decide f ok room size x e).answer → ok ≡ true
unfolding decide guard
passed f true room size x e h = refl
passed f false room size x e h = absurd h
