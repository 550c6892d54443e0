-- The rules of the eleven events (document 01, "Eleven events"): one definition an event, one guard a check, in the order shown.
use Rattle.std.specs.Prelude.{ℕ, ◌+◌, Bool, true, ◌&&◌, leb, ltb, eqb}
use Rattle.lists.specs.Below.{pick}
use Rattle.geometry.specs.Geometry.{page_size, slot_count, pcr_count, digest_size, half_page, page_of, start_of}
use Rattle.memory.specs.declared.Source.{Source}
use Rattle.memory.specs.declared.Source.TheVariants.{Payload, Memory}
use Rattle.fields.specs.declared.Fields.{Fields}
use Rattle.fields.specs.declared.Entry.{Entry}
use Rattle.fields.specs.Fields.{entry_at}
use Rattle.fields.specs.Pages.{pages_of, param_of}
use Rattle.manifest.specs.declared.Reading.{Reading}
use Rattle.state.specs.declared.Mode.{Mode}
use Rattle.state.specs.declared.Mode.TheVariants.{Legacy, Secure}
use Rattle.state.specs.Zero.{zero_card, zero_running}
use Rattle.state.specs.Face.{Face, card_at}
use Rattle.events.specs.declared.Event.{Event}
use Rattle.events.specs.declared.Event.TheVariants.{Register, Unregister, Call, Return, Jump, Read, Write, DeviceRead, DeviceWrite, Extend, PcrRead}
use Rattle.events.specs.declared.Answer.{Answer}
use Rattle.events.specs.declared.Answer.TheVariants as answer
use Rattle.events.specs.declared.Refusal.TheVariants.{NotWellFormed, NotInThisMode, RuleBroken, OutOfRange, NotReached, NotOpen, NoFreeSlot, NotFound, BufferShort, NoSuchPcr}
use Rattle.rules.specs.Plan.{nothing, bytes, pcr, keep, put, move, clean, same, clear, extend, measure, Plan, refuse, guard, still}
use Rattle.rules.specs.Tests.{Access, read, write, execute, device, may_reach, in_range, unlooked, kept_as, entry_of, under_mark, slot_for, free_slot, all_open, with_card, with_mode}

-- "Release: every byte of all its pages, code too, becomes 0; the pages open; the slot becomes zero, and if it was running, the running record too."
-- A running slot is left for legacy mode; in legacy mode none runs and the record is zero already.
unfoldable pub released : Face → ℕ → Answer → Plan
released f k a = record {
  answer = a;
  next = with_mode (with_card f k zero_card (card_at f k).fields 0) Legacy zero_running;
  fetch = nothing;
  store = clean (pages_of (card_at f k).fields);
  seal = clear k;
}

-- Register: 3, 6, 7. "Takes the lowest free slot. Its pages become its own." Answer: slot.
unfoldable pub registered : Face → ℕ → ℕ → Fields → Plan
registered f k mark x = record {
  answer = answer.Slot k;
  next = with_card f k (record { registered = true; mark = mark; fields = x }) x (k + 1);
  fetch = nothing;
  store = keep;
  seal = measure k (pages_of x);
}

unfoldable pub register_rule : Face → ℕ → Reading → Plan
register_rule f mark m =
    guard (eqb m.refusal 0) RuleBroken f
    (guard (all_open f m.fields) NotOpen f
    (guard (ltb (free_slot f) slot_count) NoFreeSlot f
    (registered f (free_slot f) mark m.fields)))

-- Unregister: 8 "(slot above 7, free, or mark differs)". "Releases it."
unfoldable pub unregister_rule : Face → ℕ → ℕ → Plan
unregister_rule f mark k = guard (ltb k slot_count && under_mark (card_at f k) mark) NotFound f (released f k answer.Done)

-- Call: 8; "then 4, in range before out range; then 5 unless both pages are open".
-- "The input goes to the start of the param page; other bytes stay." "the running record holds slot, out address and the entry's output length".
unfoldable pub entered : Face → ℕ → Entry → ℕ → ℕ → Plan
entered f k x i o = record {
  answer = answer.Entered k;
  next = with_mode f (Secure k) (record { slot = k; out = kept_as x.output o; length = x.output });
  fetch = nothing;
  store = move i (start_of (param_of (card_at f k).fields)) x.input;
  seal = same;
}

unfoldable pub call_entry : Face → ℕ → Entry → ℕ → ℕ → Plan
call_entry f k x i o =
    guard (unlooked x.input (in_range f i x.input)) OutOfRange f
    (guard (unlooked x.output (in_range f o x.output)) OutOfRange f
    (guard (unlooked x.input (may_reach Legacy f read (page_of i))) NotReached f
    (guard (unlooked x.output (may_reach Legacy f write (page_of o))) NotReached f
    (entered f k x i o))))

abbrev pub entry_for : Face → ℕ → ℕ → Entry
entry_for f k a = entry_at (card_at f k).fields (entry_of (card_at f k).fields a)

unfoldable pub call_rule : Face → ℕ → ℕ → ℕ → ℕ → Plan
call_rule f mark a i o =
    guard (ltb (slot_for f mark a) slot_count) NotFound f
    (call_entry f (slot_for f mark a) (entry_for f (slot_for f mark a) a) i o)

-- Return: "n bytes from offset 2,048 of the param page go to the out address. Mode legacy, running record zero. Answer: left, n."
abbrev pub out_from : Face → ℕ → ℕ
out_from f k = start_of (param_of (card_at f k).fields) + half_page

unfoldable pub return_rule : Face → ℕ → Plan
return_rule f k = record {
  answer = answer.Left f.running.length;
  next = with_mode f Legacy zero_running;
  fetch = nothing;
  store = move (out_from f k) f.running.out f.running.length;
  seal = same;
}

-- Jump. "Legacy: 4 if outside memory, 5 unless open."
unfoldable pub jump_legacy : Face → ℕ → Plan
jump_legacy f a =
    guard (ltb a (start_of f.pages)) OutOfRange f
    (guard (may_reach Legacy f execute (page_of a)) NotReached f
    (still f nothing keep same answer.Done))

-- "Secure: on a code page of its own, done; anywhere else, beyond memory too, it is released, mode legacy, answer: terminated, slot"
unfoldable pub jump_secure : Face → ℕ → ℕ → Plan
jump_secure f k a = pick (may_reach (Secure k) f execute (page_of a)) (still f nothing keep same answer.Done) (released f k (answer.Terminated k))

-- Read: 4, 5, 9. Device read is the same with the device's access.
unfoldable pub read_rule : Mode → Face → Access → ℕ → ℕ → ℕ → Plan
read_rule m f access room a n =
    guard (in_range f a n) OutOfRange f
    (guard (may_reach m f access (page_of a)) NotReached f
    (guard (leb n room) BufferShort f
    (still f (bytes a n) keep same (answer.Filled n))))

-- Write: 4, 5; the payload has n bytes
unfoldable pub write_rule : Mode → Face → Access → ℕ → ℕ → Plan
write_rule m f access a n =
    guard (in_range f a n) OutOfRange f
    (guard (may_reach m f access (page_of a)) NotReached f
    (still f nothing (put a) same answer.Done))

-- Extend: 10, 4, 5. "in the payload (all of it, at most 4,096, else 4; address and length not looked at) or in a range of its own pages";
-- "Memory length 0 hashes no bytes and the address isn't looked at."
abbrev pub source_right : Face → Source → ℕ → ℕ → ℕ → Bool
source_right f Payload size a n = leb size page_size
source_right f Memory size a n = unlooked n (in_range f a n)

abbrev pub source_reached : Face → ℕ → Source → ℕ → ℕ → Bool
source_reached f k Payload a n = true
source_reached f k Memory a n = unlooked n (may_reach (Secure k) f read (page_of a))

unfoldable pub extend_rule : Face → ℕ → ℕ → ℕ → Source → ℕ → ℕ → Plan
extend_rule f k size i source a n =
    guard (ltb i pcr_count) NoSuchPcr f
    (guard (source_right f source size a n) OutOfRange f
    (guard (source_reached f k source a n) NotReached f
    (still f nothing keep (extend k i source a n) answer.Done)))

-- µPCR read: 10, 9. "Twenty bytes."
unfoldable pub pcr_rule : Face → ℕ → ℕ → ℕ → Plan
pcr_rule f k room i =
    guard (ltb i pcr_count) NoSuchPcr f
    (guard (leb digest_size room) BufferShort f
    (still f (pcr k i) keep same (answer.Filled digest_size)))

-- ---- all of them

-- "event not allowed in this mode"
abbrev pub legacy_only : Mode → Face → Plan → Plan
legacy_only Legacy f p = p
legacy_only (Secure k) f p = refuse NotInThisMode f

abbrev pub secure_only : Mode → Face → (ℕ → Plan) → Plan
secure_only Legacy f r = refuse NotInThisMode f
secure_only (Secure k) f r = r k

abbrev pub by_mode : Mode → Plan → (ℕ → Plan) → Plan
by_mode Legacy p r = p
by_mode (Secure k) p r = r k

-- of a face in mode m, with room bytes in the buffer, size bytes of payload and the manifest read from it
unfoldable pub rule_in : Mode → Face → ℕ → ℕ → Reading → Event → Plan
rule_in m f room size man (Register mark) = legacy_only m f (register_rule f mark man)
rule_in m f room size man (Unregister mark k) = legacy_only m f (unregister_rule f mark k)
rule_in m f room size man (Call mark a i o) = legacy_only m f (call_rule f mark a i o)
rule_in m f room size man Return = secure_only m f (return_rule f)
rule_in m f room size man (Jump a) = by_mode m (jump_legacy f a) (λ k. jump_secure f k a)
rule_in m f room size man (Read a n) = read_rule m f read room a n
rule_in m f room size man (Write a) = write_rule m f write a size
rule_in m f room size man (DeviceRead a n) = read_rule m f device room a n
rule_in m f room size man (DeviceWrite a) = write_rule m f device a size
rule_in m f room size man (Extend i source a n) = secure_only m f (λ k. extend_rule f k size i source a n)
rule_in m f room size man (PcrRead i) = secure_only m f (λ k. pcr_rule f k room i)

-- "Check 1 comes first, then 2, then the order shown." Whether the state is well formed is all that a decision learns of memory and µPCRs.
unfoldable pub decide : Face → Bool → ℕ → ℕ → Reading → Event → Plan
decide f ok room size man e = guard ok NotWellFormed f (rule_in f.mode f room size man e)
