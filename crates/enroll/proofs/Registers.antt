-- The ends of register's rule, and that the state after it is the rule's.
use Prim.Native.Nat.{ℕ, ◌+◌, ◌<◌}
use native.Mathlib.Omega.{arith}
use mathlib.Core.Path.{◌≡◌, refl, sym, ap, subst, ◌∙◌}
use mathlib.Core.Bool.{true, false}
use mathlib.Core.List.{List, ◌++◌}
use lib.ListN.{length, set}
use lib.Dec.{ltb, eqb}
use Rattle.lists.specs.Bytes.{gather}
use Rattle.geometry.specs.Geometry.{page_size, slot_count, start_of}
use Rattle.sha_1.specs.declared.Digest.{Digest}
use Rattle.sha_1.specs.Sha1.{sha1}
use Rattle.fields.specs.declared.Fields.{Fields}
use Rattle.fields.specs.Pages.{pages_of}
use Rattle.fields.proofs.Facts.{Kept, kept}
use Rattle.manifest.specs.declared.Reading.{Reading}
use Rattle.manifest.specs.Reader.{read_manifest}
use Rattle.manifest.proofs.Accepts.{read_keeps}
use Rattle.state.specs.declared.Slot.{Slot}
use Rattle.state.specs.declared.State.{State}
use Rattle.state.specs.Zero.{zero_pcr}
use Rattle.state.specs.Face.{Face, face_of, pcrs_of, state_of}
use Rattle.state.specs.Slots.{extended_pcrs}
use Rattle.state.proofs.Faces.{state_set}
use Rattle.events.specs.declared.Refusal.TheVariants.{RuleBroken, NotOpen, NoFreeSlot}
use Rattle.rules.specs.Plan.{refuse}
use Rattle.rules.specs.Tests.{given, with_card, all_open, free_slot}
use Rattle.rules.specs.Decide.{register_rule, registered}
use Rattle.rules.specs.Act.{zero_pcrs, measured}
use Rattle.touch.proofs.Plans.{pass, stop}
use Rattle.release.specs.Release.{RunsIn}
use Rattle.painting.specs.Painting.{RunsFit}
use Rattle.change.specs.declared.Change.{Change}
use Rattle.change.specs.Turns.{fresh_slot, enrolled_state, enrolls_by, Settles}
use Rattle.enroll.proofs.Opened.{open_in}

-- ---- what is read and not refused keeps the rules

pub read_kept : (l : List ℕ) (r : Reading) → r ≡ read_manifest l → r.refusal ≡ 0 → Kept r.fields
read_kept l r e h =
    subst (λ (x : Reading). Kept x.fields) (sym e)
    (kept (read_manifest l).fields (read_keeps l (ap (λ (x : Reading). x.refusal) (sym e) ∙ h)))

-- runs of open pages lie in memory
pub open_runs : (f : Face) (x : Fields) (size : ℕ) → Kept x → all_open f x ≡ true → size ≡ start_of f.pages → RunsIn x size
open_runs f x size k h e = record { few = k.bounds.few_runs; fits = λ i l. omega (arith, open_in f x k h i l, e) }

-- ---- the ends of the rule

module _ (f : Face) (mark : ℕ) (m : Reading) where
  pub register_3 : eqb m.refusal 0 ≡ false → register_rule f mark m ≡ refuse RuleBroken f
  unfolding register_rule
  register_3 e = stop (eqb m.refusal 0) RuleBroken f _ e

  pub register_6 : eqb m.refusal 0 ≡ true → all_open f m.fields ≡ false → register_rule f mark m ≡ refuse NotOpen f
  unfolding register_rule
  register_6 e g = pass (eqb m.refusal 0) RuleBroken f _ e ∙ stop (all_open f m.fields) NotOpen f _ g

  pub register_7 : eqb m.refusal 0 ≡ true → all_open f m.fields ≡ true → ltb (free_slot f) slot_count ≡ false → register_rule f mark m ≡ refuse NoFreeSlot f
  unfolding register_rule
  register_7 e g h = pass (eqb m.refusal 0) RuleBroken f _ e ∙ pass (all_open f m.fields) NotOpen f _ g ∙ stop (ltb (free_slot f) slot_count) NoFreeSlot f _ h

  pub register_on : eqb m.refusal 0 ≡ true → all_open f m.fields ≡ true → ltb (free_slot f) slot_count ≡ true → register_rule f mark m ≡ registered f (free_slot f) mark m.fields
  unfolding register_rule
  register_on e g h = pass (eqb m.refusal 0) RuleBroken f _ e ∙ pass (all_open f m.fields) NotOpen f _ g ∙ pass (ltb (free_slot f) slot_count) NoFreeSlot f _ h

-- ---- registered, as the code leaves things

measured_same : (d : Digest) (content : List ℕ) → d.bytes ≡ sha1 content → extended_pcrs zero_pcrs 0 d ≡ measured content
unfolding extended_pcrs measured
measured_same d content e = ap (λ (b : List ℕ). set zero_pcrs 0 (record { bytes = sha1 (zero_pcr.bytes ++ b) })) e

pub registered_settles : (s : State) → length s.slots ≡ slot_count → (k : ℕ) → k < slot_count → (mark : ℕ) (x : Fields) → RunsFit x → (payload m : List ℕ) (d : Digest) (c : Change)
    → d.bytes ≡ sha1 (gather page_size m (pages_of x)) → c ≡ enrolls_by k mark x d
    → Settles (registered (face_of s) k mark x) payload s m c m
unfolding registered with_card state_of
registered_settles s e k l mark x b payload m d c h g =
    subst (λ (z : Change). Settles (registered (face_of s) k mark x) payload s m z m) (sym g)
    (record { steps = record { answer = refl; state = whole; memory = refl }; fits = (l, b) })
  where
    content : List ℕ
    content = gather page_size m (pages_of x)

    slot : Slot
    slot = record { card = record { registered = true; mark = mark; fields = x }; pcrs = measured content }

    slots : set s.slots k (fresh_slot mark x d) ≡ set s.slots k slot
    slots = ap (λ (ps : List Digest). set s.slots k (record { card = record { registered = true; mark = mark; fields = x }; pcrs = ps })) (measured_same d content h)

    whole : enrolled_state s k mark x d ≡ state_of (registered (face_of s) k mark x).next (set (pcrs_of s) k (measured content))
    whole =
        ap (λ (xs : List Slot). record { pages = s.pages; kept = s.kept; owner = given s.owner x (k + 1); slots = xs; mode = s.mode; running = s.running })
        (slots ∙ sym (state_set s k slot e l))
