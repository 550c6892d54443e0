-- The tables compute. A row opens the rules alone: its state's well-formedness is a fact.
use Prim.Native.Nat.{ℕ, ◌*◌}
use mathlib.Core.Path.{◌≡◌, refl, sym, subst}
use mathlib.Core.Bool.{true, false}
use mathlib.Core.List.{List, [], ◌∷◌}
use Rattle.lists.specs.Below.{all_below, any_below, first_below, sum_below, table}
use Rattle.lists.specs.Bytes.{part}
use Rattle.lists.proofs.Logic.{both}
use Rattle.lists.specs.Numbers.{little, little_at}
use Rattle.geometry.specs.Geometry.{page_size, is_range}
use Rattle.fields.specs.Pages.{has_page}
use Rattle.fields.specs.Rules.{counts_right, runs_rise, pages_few, some_code, one_param, runs_right, in_code, entries_rise, entries_right, unused_zero, keeps_rules}
use Rattle.manifest.specs.declared.Reading.{Reading}
use Rattle.manifest.specs.Layout.{placed, fields_at}
use Rattle.manifest.specs.Reader.{equal, trailer_right, accepts, refused_reading, read_manifest}
use Rattle.state.specs.declared.State.{State}
use Rattle.state.specs.Zero.{zero_state}
use Rattle.state.specs.Face.{face_of}
use Rattle.wellformed.specs.WellFormed.{well_formed}
use Rattle.start.specs.Start.{fresh_state, start_of}
use Rattle.devicemap.specs.Map.{number_of, map_byte, map_of}
use Rattle.events.specs.declared.Event.{Event}
use Rattle.events.specs.declared.Event.TheVariants.{Read}
use Rattle.events.specs.declared.Answer.{Answer}
use Rattle.events.specs.declared.Answer.TheVariants.{Filled, Refused}
use Rattle.events.specs.declared.Refusal.TheVariants.{NotWellFormed, OutOfRange, NotReached}
use Rattle.rules.specs.Plan.{guard}
use Rattle.rules.specs.Tests.{entry_of, slot_for, free_slot, all_open}
use Rattle.rules.specs.Decide.{released, registered, register_rule, unregister_rule, entered, call_entry, call_rule, return_rule, jump_legacy, jump_secure, read_rule, write_rule, extend_rule, pcr_rule, rule_in, decide}
use Rattle.alive.specs.Rows.{answered, Holds}
use Rattle.rules.specs.Act.{zero_pcrs}
use Rattle.alive.specs.States.{fresh, fields_from, slot_from, held, full}
use Rattle.alive.specs.Examples.{Example, all_right, long, numbers_of, unread, read, examples}
use Rattle.alive.specs.Answers.{rests, runs, accepted, refused}
use Rattle.alive.proofs.Wells.{Well, well_fresh, well_idle, well_called, well_full, not_zero}

-- what is decided on a well-formed state
told : (s : State) → Well s → (room size : ℕ) (x : Reading) (e : Event) (a : Answer) → (decide (face_of s) true room size x e).answer ≡ a → answered s room size x e ≡ a
unfolding answered
told s w room size x e a h = rw (answered, w) h

-- and on one that is not
unwell : (s : State) → well_formed s (s.pages * page_size) ≡ false → (room size : ℕ) (x : Reading) (e : Event) → answered s room size x e ≡ Refused NotWellFormed
unfolding answered decide guard
unwell s w room size x e = rw (answered, w)

-- ---- E1 to E12

-- an entry in front of entries that are right
entry : (x : Example) (xs : List Example) → equal x.gives x.says ≡ true → all_right xs ≡ true → all_right (x ∷ xs) ≡ true
unfolding all_right
entry x xs e h = both (equal x.gives x.says) (all_right xs) e h

-- a read in front of entries that are right
read_then : (a n : ℕ) (r : Answer) (says : List ℕ) (xs : List Example) → (decide (face_of fresh) true page_size 0 unread (Read a n)).answer ≡ r → equal (numbers_of r) says ≡ true
    → all_right xs ≡ true → all_right (read a n says ∷ xs) ≡ true
read_then a n r says xs e q = entry (read a n says) xs (subst (λ (z : Answer). equal (numbers_of z) says ≡ true) (sym (told fresh well_fresh page_size 0 unread (Read a n) r e)) q)

none_right : all_right [] ≡ true
unfolding all_right
none_right = refl

pub examples_hold : all_right examples ≡ true
unfolding examples any_below all_below in_code little long little_at part placed table sum_below counts_right runs_rise pages_few some_code one_param runs_right entries_rise entries_right unused_zero keeps_rules fields_at trailer_right accepts refused_reading read_manifest start_of fresh_state map_of map_byte number_of decide guard rule_in read_rule is_range
examples_hold =
    entry _ _ refl
    (entry _ _ refl
    (entry _ _ refl
    (entry _ _ refl
    (entry _ _ refl
    (entry _ _ refl
    (entry _ _ refl
    (entry _ _ refl
    (entry _ _ refl
    (read_then 4095 1 (Filled 1) _ _ refl refl
    (read_then 4095 2 (Refused OutOfRange) _ _ refl refl
    (read_then 0 4096 (Filled 4096) _ _ refl refl
    (read_then 0 0 (Refused OutOfRange) _ _ refl refl
    (read_then 0 4097 (Refused OutOfRange) _ _ refl refl
    (read_then 32767 1 (Refused NotReached) _ _ refl refl
    (read_then 32768 1 (Refused OutOfRange) _ [] refl refl none_right)))))))))))))))

-- ---- the tables

infixr 5 ◌▸◌
-- a row's proof, and those of the rows behind it
◌▸◌ : {A B : Type 0} → A → B → A × B
a ▸ b = (a, b)

pub events_accepted : Holds accepted
unfolding accepted start_of fresh_state held slot_from fields_from decide guard rule_in register_rule registered unregister_rule released call_rule call_entry entered return_rule jump_legacy jump_secure read_rule write_rule extend_rule pcr_rule slot_for entry_of free_slot all_open is_range all_below any_below first_below has_page in_code long little_at part placed table sum_below counts_right runs_rise pages_few some_code one_param runs_right entries_rise entries_right unused_zero keeps_rules fields_at trailer_right accepts refused_reading read_manifest
events_accepted =
    told fresh well_fresh _ _ _ _ _ refl
    ▸ told fresh well_fresh _ _ _ _ _ refl
    ▸ told rests (well_idle zero_pcrs) _ _ _ _ _ refl
    ▸ told rests (well_idle zero_pcrs) _ _ _ _ _ refl
    ▸ told rests (well_idle zero_pcrs) _ _ _ _ _ refl
    ▸ told rests (well_idle zero_pcrs) _ _ _ _ _ refl
    ▸ told rests (well_idle zero_pcrs) _ _ _ _ _ refl
    ▸ told rests (well_idle zero_pcrs) _ _ _ _ _ refl
    ▸ told rests (well_idle zero_pcrs) _ _ _ _ _ refl
    ▸ told rests (well_idle zero_pcrs) _ _ _ _ _ refl
    ▸ told runs (well_called zero_pcrs) _ _ _ _ _ refl
    ▸ told runs (well_called zero_pcrs) _ _ _ _ _ refl
    ▸ told runs (well_called zero_pcrs) _ _ _ _ _ refl
    ▸ told runs (well_called zero_pcrs) _ _ _ _ _ refl
    ▸ told runs (well_called zero_pcrs) _ _ _ _ _ refl
    ▸ told runs (well_called zero_pcrs) _ _ _ _ _ refl
    ▸ told runs (well_called zero_pcrs) _ _ _ _ _ refl
    ▸ told runs (well_called zero_pcrs) _ _ _ _ _ refl
    ▸ told runs (well_called zero_pcrs) _ _ _ _ _ refl
    ▸ told runs (well_called zero_pcrs) _ _ _ _ _ refl
    ▸ told runs (well_called zero_pcrs) _ _ _ _ _ refl
    ▸ told runs (well_called zero_pcrs) _ _ _ _ _ refl
    ▸ tt

pub refusals_given : Holds refused
unfolding refused start_of fresh_state full table held slot_from fields_from decide guard rule_in register_rule registered unregister_rule released call_rule call_entry entered return_rule jump_legacy jump_secure read_rule write_rule extend_rule pcr_rule slot_for entry_of free_slot all_open is_range all_below any_below first_below has_page in_code
refusals_given =
    unwell zero_state not_zero _ _ _ _
    ▸ told rests (well_idle zero_pcrs) _ _ _ _ _ refl
    ▸ told runs (well_called zero_pcrs) _ _ _ _ _ refl
    ▸ told rests (well_idle zero_pcrs) _ _ _ _ _ refl
    ▸ told rests (well_idle zero_pcrs) _ _ _ _ _ refl
    ▸ told rests (well_idle zero_pcrs) _ _ _ _ _ refl
    ▸ told rests (well_idle zero_pcrs) _ _ _ _ _ refl
    ▸ told rests (well_idle zero_pcrs) _ _ _ _ _ refl
    ▸ told rests (well_idle zero_pcrs) _ _ _ _ _ refl
    ▸ told rests (well_idle zero_pcrs) _ _ _ _ _ refl
    ▸ told rests (well_idle zero_pcrs) _ _ _ _ _ refl
    ▸ told runs (well_called zero_pcrs) _ _ _ _ _ refl
    ▸ told runs (well_called zero_pcrs) _ _ _ _ _ refl
    ▸ told runs (well_called zero_pcrs) _ _ _ _ _ refl
    ▸ told runs (well_called zero_pcrs) _ _ _ _ _ refl
    ▸ told rests (well_idle zero_pcrs) _ _ _ _ _ refl
    ▸ told rests (well_idle zero_pcrs) _ _ _ _ _ refl
    ▸ told full well_full _ _ _ _ _ refl
    ▸ told rests (well_idle zero_pcrs) _ _ _ _ _ refl
    ▸ told rests (well_idle zero_pcrs) _ _ _ _ _ refl
    ▸ told rests (well_idle zero_pcrs) _ _ _ _ _ refl
    ▸ told rests (well_idle zero_pcrs) _ _ _ _ _ refl
    ▸ told rests (well_idle zero_pcrs) _ _ _ _ _ refl
    ▸ told rests (well_idle zero_pcrs) _ _ _ _ _ refl
    ▸ told runs (well_called zero_pcrs) _ _ _ _ _ refl
    ▸ told runs (well_called zero_pcrs) _ _ _ _ _ refl
    ▸ told runs (well_called zero_pcrs) _ _ _ _ _ refl
    ▸ tt
