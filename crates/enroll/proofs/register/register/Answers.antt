use Rattle.enroll.proofs.Registers.{read_kept, open_runs, register_3, register_6, register_7, register_on, registered_settles}
use Rattle.enroll.proofs.Opened.{kept_fit, open_same}
use Rattle.change.proofs.Settled.{still_settles, to_plan}
use Rattle.wellformed.proofs.States.{well_long}
use Rattle.rules.specs.Decide.{register_rule, registered}
use Rattle.rules.specs.Tests.{all_open, free_slot}
use Rattle.rules.specs.Plan.{nothing}
use Rattle.events.specs.declared.Answer.TheVariants as answer
use Rattle.events.specs.declared.Refusal.TheVariants.{RuleBroken, NotOpen, NoFreeSlot}
use Rattle.state.proofs.Shaped.{state_shape}
use Rattle.state.specs.Face.{Face, face_of}
use Rattle.manifest.specs.declared.Reading.{Reading}
use Rattle.geometry.specs.Geometry.{slot_count}
use Prim.Native.Nat.{ℕ}
use borrow.Author.Tests.{eq-eqb, ne_eqb, ltb-true}
use Rattle.enroll.proofs.FreeSlot.{found_at, not_found}
use mathlib.Core.Path.{◌≡◌, sym, ap, ◌∙◌}
use mathlib.Core.Bool.{Bool, ◌&&◌}
use Rattle.lists.specs.Below.{all_below}
use Rattle.fields.specs.declared.Fields.{Fields}
use Rattle.fields.specs.Pages.{pages_under}
use Rattle.painting.specs.Painting.{owned_run}
use Rattle.fields.proofs.Facts.{Kept}
use native.Mathlib.Omega.{arith}
use Rattle.enroll.proofs.register.register.Goals as goal

-- past the second branch its pages are open
open_so : (f : Face) (x : Fields) (b : Bool) → Kept x → b ≡ pages_under x f.pages && all_below x.r (owned_run f.owner x.runs 0) → all_open f x ≡ b
open_so f x b k e = sym (open_same f x k) ∙ sym e

pub returns-then-reading-ne0 : goal.returns-then-reading-ne0
returns-then-reading-ne0 c =
    let a = c.args in
    let f = face_of a.s in
    let r = c.read-reading.result in
    to_plan (sym (register_3 f a.mark r (ne_eqb r.refusal 0 c.if-reading-ne0.true)) ∙ ap (λ (x : Reading). register_rule f a.mark x) c.read-reading.ensures)
    a.payload.now a.s a.memory.now
    (still_settles a.s (state_shape a.s _ c.well_formed.0).slots_long nothing (answer.Refused RuleBroken) a.payload.now a.memory.now _ c.kept.ensures)

pub all_open-requires : goal.all_open-requires
all_open-requires c = kept_fit _ (read_kept _ c.read-reading.result c.read-reading.ensures c.if-reading-ne0.false)

pub returns-then-not-all_open : goal.returns-then-not-all_open
returns-then-not-all_open c =
    let a = c.args in
    let f = face_of a.s in
    let r = c.read-reading.result in
    let q = c.read-reading.ensures in
    let z = c.if-reading-ne0.false in
    let o = open_so f r.fields _ (read_kept _ r q z) c.all_open.ensures ∙ c.if-not-all_open.true in
    to_plan (sym (register_6 f a.mark r (eq-eqb r.refusal 0 z) o) ∙ ap (λ (x : Reading). register_rule f a.mark x) q)
    a.payload.now a.s a.memory.now
    (still_settles a.s (state_shape a.s _ c.well_formed.0).slots_long nothing (answer.Refused NotOpen) a.payload.now a.memory.now _ c.kept-then-not-all_open.ensures)

pub returns-in_default : goal.returns-in_default
returns-in_default c =
    let a = c.args in
    let f = face_of a.s in
    let r = c.read-reading.result in
    let q = c.read-reading.ensures in
    let z = c.if-reading-ne0.false in
    let o = open_so f r.fields _ (read_kept _ r q z) c.all_open.ensures ∙ c.if-not-all_open.false in
    to_plan (sym (register_7 f a.mark r (eq-eqb r.refusal 0 z) o (not_found slot_count (free_slot f) (sym c.in_default.is ∙ c.free_slot.ensures))) ∙ ap (λ (x : Reading). register_rule f a.mark x) q)
    a.payload.now a.s a.memory.now
    (still_settles a.s (state_shape a.s _ c.well_formed.0).slots_long nothing (answer.Refused NoFreeSlot) a.payload.now a.memory.now _ c.kept-in_default.ensures)

pub measured-digest-requires : goal.measured-digest-requires
measured-digest-requires c =
    let f = face_of c.args.s in
    let r = c.read-reading.result in
    let k = read_kept _ r c.read-reading.ensures c.if-reading-ne0.false in
    open_runs f r.fields _ k (open_so f r.fields _ k c.all_open.ensures ∙ c.if-not-all_open.false) (well_long c.args.s _ c.requires)

pub returns : goal.returns
returns c =
    let a = c.args in
    let f = face_of a.s in
    let r = c.read-reading.result in
    let q = c.read-reading.ensures in
    let z = c.if-reading-ne0.false in
    let k = read_kept _ r q z in
    let o = open_so f r.fields _ k c.all_open.ensures ∙ c.if-not-all_open.false in
    let n = found_at slot_count (free_slot f) c.in-Some.k c.in-Some.ensures in
    let p = ap (λ (j : ℕ). registered f j a.mark r.fields) n.0
    ∙ sym (register_on f a.mark r (eq-eqb r.refusal 0 z) o n.1)
    ∙ ap (λ (x : Reading). register_rule f a.mark x) q in
    to_plan p a.payload.now a.s a.memory.now
    (registered_settles a.s (state_shape a.s _ c.well_formed.0).slots_long c.in-Some.k (omega (arith, n.0, ltb-true (free_slot f) slot_count n.1)) a.mark r.fields (kept_fit _ k) a.payload.now a.memory.now c.measured-digest.result _ c.measured-digest.ensures c.enrolling.ensures)
