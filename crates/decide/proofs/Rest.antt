-- What each rule leaves alone, whatever it decides.
use Prim.Native.Nat.{ℕ}
use mathlib.Core.Path.{◌≡◌, refl, ap, ◌∙◌}
use mathlib.Core.Bool.{Bool}
use Rattle.lists.proofs.Logic.{decided}
use Rattle.geometry.specs.Geometry.{page_of}
use Rattle.memory.specs.declared.Source.{Source}
use Rattle.fields.specs.declared.Entry.{Entry}
use Rattle.manifest.specs.declared.Reading.{Reading}
use Rattle.state.specs.declared.Mode.{Mode}
use Rattle.state.specs.declared.Mode.TheVariants.{Legacy, Secure}
use Rattle.state.specs.Face.{Face}
use Rattle.events.specs.declared.Answer.{Answer}
use Rattle.events.specs.declared.Answer.TheVariants as answer
use Rattle.events.specs.declared.Refusal.{Refusal}
use Rattle.events.specs.declared.Refusal.TheVariants.{RuleBroken, OutOfRange, NotReached, NotOpen, NoFreeSlot, NotFound, BufferShort, NoSuchPcr}
use Rattle.release.proofs.Releases.{jump_own, jump_away}
use Rattle.rules.specs.Plan.{nothing, keep, same, Plan, guard}
use Rattle.rules.specs.Tests.{Access, own_code}
use Rattle.rules.proofs.ByRule.{checked}
use Rattle.rules.specs.Decide.{released, registered, register_rule, unregister_rule, entered, call_entry, call_rule, return_rule, jump_legacy, jump_secure, read_rule, write_rule, extend_rule, pcr_rule, by_mode}

-- the buffer
guard_nothing : (t : Bool) (r : Refusal) (f : Face) (p : Plan) → p.fetch ≡ nothing → (guard t r f p).fetch ≡ nothing
guard_nothing t r f p e = checked (λ x. x.fetch ≡ nothing) t r f p refl (λ _. e)

-- face and µPCRs
pub record Leaves (p : Plan) (f : Face) : Type 0 where
  pub next : p.next ≡ f
  pub seal : p.seal ≡ same

guard_leaves : (t : Bool) (r : Refusal) (f : Face) (p : Plan) → Leaves p f → Leaves (guard t r f p) f
guard_leaves t r f p e = checked (λ x. Leaves x f) t r f p (record { next = refl; seal = refl }) (λ _. e)

-- memory
guard_keep : (t : Bool) (r : Refusal) (f : Face) (p : Plan) → p.store ≡ keep → (guard t r f p).store ≡ keep
guard_keep t r f p e = checked (λ x. x.store ≡ keep) t r f p refl (λ _. e)

released_nothing : (f : Face) (k : ℕ) (a : Answer) → (released f k a).fetch ≡ nothing
unfolding released
released_nothing f k a = refl

pub register_nothing : (f : Face) (mark : ℕ) (m : Reading) → (register_rule f mark m).fetch ≡ nothing
unfolding register_rule registered
register_nothing f mark m = guard_nothing _ RuleBroken f _ (guard_nothing _ NotOpen f _ (guard_nothing _ NoFreeSlot f _ refl))

pub unregister_nothing : (f : Face) (mark k : ℕ) → (unregister_rule f mark k).fetch ≡ nothing
unfolding unregister_rule
unregister_nothing f mark k = guard_nothing _ NotFound f _ (released_nothing f k _)

entry_nothing : (f : Face) (k : ℕ) (x : Entry) (i o : ℕ) → (call_entry f k x i o).fetch ≡ nothing
unfolding call_entry entered
entry_nothing f k x i o = guard_nothing _ OutOfRange f _ (guard_nothing _ OutOfRange f _ (guard_nothing _ NotReached f _ (guard_nothing _ NotReached f _ refl)))

pub call_nothing : (f : Face) (mark a i o : ℕ) → (call_rule f mark a i o).fetch ≡ nothing
unfolding call_rule
call_nothing f mark a i o = guard_nothing _ NotFound f _ (entry_nothing f _ _ i o)

pub return_nothing : (f : Face) (k : ℕ) → (return_rule f k).fetch ≡ nothing
unfolding return_rule
return_nothing f k = refl

legacy_nothing : (f : Face) (a : ℕ) → (jump_legacy f a).fetch ≡ nothing
unfolding jump_legacy
legacy_nothing f a = guard_nothing _ OutOfRange f _ (guard_nothing _ NotReached f _ refl)

secure_nothing : (f : Face) (k a : ℕ) → (jump_secure f k a).fetch ≡ nothing
secure_nothing f k a =
    decided (own_code f k (page_of a))
    (λ e. ap (λ (p : Plan). p.fetch) (jump_own f a k e))
    (λ e. ap (λ (p : Plan). p.fetch) (jump_away f a k e) ∙ released_nothing f k (answer.Terminated k))

pub jump_nothing : (m : Mode) (f : Face) (a : ℕ) → (by_mode m (jump_legacy f a) (λ k. jump_secure f k a)).fetch ≡ nothing
jump_nothing Legacy f a = legacy_nothing f a
jump_nothing (Secure k) f a = secure_nothing f k a

pub extend_nothing : (f : Face) (k size i : ℕ) (source : Source) (a n : ℕ) → (extend_rule f k size i source a n).fetch ≡ nothing
unfolding extend_rule
extend_nothing f k size i source a n = guard_nothing _ NoSuchPcr f _ (guard_nothing _ OutOfRange f _ (guard_nothing _ NotReached f _ refl))

pub write_nothing : (m : Mode) (f : Face) (access : Access) (a n : ℕ) → (write_rule m f access a n).fetch ≡ nothing
unfolding write_rule
write_nothing m f access a n = guard_nothing _ OutOfRange f _ (guard_nothing _ NotReached f _ refl)

pub write_leaves : (m : Mode) (f : Face) (access : Access) (a n : ℕ) → Leaves (write_rule m f access a n) f
unfolding write_rule
write_leaves m f access a n = guard_leaves _ OutOfRange f _ (guard_leaves _ NotReached f _ (record { next = refl; seal = refl }))

pub read_leaves : (m : Mode) (f : Face) (access : Access) (room a n : ℕ) → Leaves (read_rule m f access room a n) f
unfolding read_rule
read_leaves m f access room a n = guard_leaves _ OutOfRange f _ (guard_leaves _ NotReached f _ (guard_leaves _ BufferShort f _ (record { next = refl; seal = refl })))

pub read_keeps : (m : Mode) (f : Face) (access : Access) (room a n : ℕ) → (read_rule m f access room a n).store ≡ keep
unfolding read_rule
read_keeps m f access room a n = guard_keep _ OutOfRange f _ (guard_keep _ NotReached f _ (guard_keep _ BufferShort f _ refl))

pub pcr_leaves : (f : Face) (k room i : ℕ) → Leaves (pcr_rule f k room i) f
unfolding pcr_rule
pcr_leaves f k room i = guard_leaves _ NoSuchPcr f _ (guard_leaves _ BufferShort f _ (record { next = refl; seal = refl }))

pub pcr_keeps : (f : Face) (k room i : ℕ) → (pcr_rule f k room i).store ≡ keep
unfolding pcr_rule
pcr_keeps f k room i = guard_keep _ NoSuchPcr f _ (guard_keep _ BufferShort f _ refl)
