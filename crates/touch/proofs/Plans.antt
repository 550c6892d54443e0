-- The ends of the rules that leave the state: which plan they come to.
use Prim.Native.Nat.{ℕ}
use mathlib.Core.Path.{◌≡◌, refl, sym, ◌∙◌}
use mathlib.Core.Bool.{Bool, true, false}
use mathlib.Core.List.{List}
use lib.ListN.{length}
use lib.Dec.{leb, ltb}
use Rattle.geometry.specs.Geometry.{slot_count, page_of, digest_size, pcr_count}
use Rattle.state.specs.declared.Mode.{Mode}
use Rattle.state.specs.declared.Mode.TheVariants.{Legacy, Secure}
use Rattle.state.specs.Face.{Face, face_of, pcrs_of, is_open}
use Rattle.state.specs.declared.State.{State}
use Rattle.state.proofs.Faces.{state_back}
use Rattle.events.specs.declared.Answer.{Answer}
use Rattle.touch.specs.Carried.{Steps}
use Rattle.events.specs.declared.Answer.TheVariants as answer
use Rattle.events.specs.declared.Refusal.{Refusal}
use Rattle.events.specs.declared.Refusal.TheVariants.{OutOfRange, NotReached, BufferShort, NoSuchPcr}
use Rattle.rules.specs.Plan.{Fetch, nothing, bytes, pcr, keep, put, same, Plan, refuse, guard, still}
use Rattle.rules.specs.Tests.{Access, device, may_reach, in_range}
use Rattle.rules.specs.Decide.{read_rule, write_rule, pcr_rule}

-- a check that passes, and one that does not
pub pass : (t : Bool) (r : Refusal) (f : Face) (p : Plan) → t ≡ true → guard t r f p ≡ p
unfolding guard
pass t r f p e = rw e

pub stop : (t : Bool) (r : Refusal) (f : Face) (p : Plan) → t ≡ false → guard t r f p ≡ refuse r f
unfolding guard
stop t r f p e = rw e

module _ (mode : Mode) (f : Face) (access : Access) (room a n : ℕ) where
  pub read_4 : in_range f a n ≡ false → read_rule mode f access room a n ≡ refuse OutOfRange f
  unfolding read_rule
  read_4 e = stop (in_range f a n) OutOfRange f _ e

  pub read_5 : in_range f a n ≡ true → may_reach mode f access (page_of a) ≡ false → read_rule mode f access room a n ≡ refuse NotReached f
  unfolding read_rule
  read_5 e h = pass (in_range f a n) OutOfRange f _ e ∙ stop (may_reach mode f access (page_of a)) NotReached f _ h

  pub read_9 : in_range f a n ≡ true → may_reach mode f access (page_of a) ≡ true → leb n room ≡ false → read_rule mode f access room a n ≡ refuse BufferShort f
  unfolding read_rule
  read_9 e h l = pass (in_range f a n) OutOfRange f _ e ∙ pass (may_reach mode f access (page_of a)) NotReached f _ h ∙ stop (leb n room) BufferShort f _ l

  pub read_on : in_range f a n ≡ true → may_reach mode f access (page_of a) ≡ true → leb n room ≡ true
      → read_rule mode f access room a n ≡ still f (bytes a n) keep same (answer.Filled n)
  unfolding read_rule
  read_on e h l = pass (in_range f a n) OutOfRange f _ e ∙ pass (may_reach mode f access (page_of a)) NotReached f _ h ∙ pass (leb n room) BufferShort f _ l

module _ (mode : Mode) (f : Face) (access : Access) (a n : ℕ) where
  pub write_4 : in_range f a n ≡ false → write_rule mode f access a n ≡ refuse OutOfRange f
  unfolding write_rule
  write_4 e = stop (in_range f a n) OutOfRange f _ e

  pub write_5 : in_range f a n ≡ true → may_reach mode f access (page_of a) ≡ false → write_rule mode f access a n ≡ refuse NotReached f
  unfolding write_rule
  write_5 e h = pass (in_range f a n) OutOfRange f _ e ∙ stop (may_reach mode f access (page_of a)) NotReached f _ h

  pub write_on : in_range f a n ≡ true → may_reach mode f access (page_of a) ≡ true
      → write_rule mode f access a n ≡ still f nothing (put a) same answer.Done
  unfolding write_rule
  write_on e h = pass (in_range f a n) OutOfRange f _ e ∙ pass (may_reach mode f access (page_of a)) NotReached f _ h

module _ (f : Face) (k room i : ℕ) where
  pub pcr_10 : ltb i pcr_count ≡ false → pcr_rule f k room i ≡ refuse NoSuchPcr f
  unfolding pcr_rule
  pcr_10 e = stop (ltb i pcr_count) NoSuchPcr f _ e

  pub pcr_9 : ltb i pcr_count ≡ true → leb digest_size room ≡ false → pcr_rule f k room i ≡ refuse BufferShort f
  unfolding pcr_rule
  pcr_9 e l = pass (ltb i pcr_count) NoSuchPcr f _ e ∙ stop (leb digest_size room) BufferShort f _ l

  pub pcr_on : ltb i pcr_count ≡ true → leb digest_size room ≡ true → pcr_rule f k room i ≡ still f (pcr k i) keep same (answer.Filled digest_size)
  unfolding pcr_rule
  pcr_on e l = pass (ltb i pcr_count) NoSuchPcr f _ e ∙ pass (leb digest_size room) BufferShort f _ l

-- a device reaches open pages in any mode
pub device_open : (f : Face) (p : ℕ) (m : Mode) → may_reach m f device p ≡ is_open f p
device_open f p Legacy = refl
device_open f p (Secure k) = refl

-- a plan that leaves state and memory is carried out by leaving them
pub still_steps : (s : State) → length s.slots ≡ slot_count → (x : Fetch) (a : Answer) (payload m : List ℕ)
    → Steps (still (face_of s) x keep same a) payload (pcrs_of s) m (record { answer = a; state = s }) m
still_steps s e x a payload m = record { answer = refl; state = sym (state_back s e); memory = refl }
