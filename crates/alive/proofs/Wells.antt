-- The states are well formed, computed once each.
use Prim.Native.Nat.{ℕ, ◌*◌}
use native.Mathlib.Omega.{arith}
use mathlib.Core.Path.{◌≡◌, refl}
use mathlib.Core.Bool.{true, false}
use mathlib.Core.List.{List}
use lib.ListN.{length}
use Rattle.lists.specs.Below.{all_below, any_below, first_below, sum_below, table}
use Rattle.geometry.specs.Geometry.{page_size, is_range}
use Rattle.sha_1.specs.declared.Digest.{Digest}
use Rattle.fields.specs.Pages.{has_page, pages_under}
use Rattle.fields.specs.Rules.{counts_right, runs_rise, pages_few, some_code, one_param, runs_right, in_code, entries_rise, entries_right, unused_zero, keeps_rules}
use Rattle.state.specs.declared.State.{State}
use Rattle.state.specs.Zero.{zero_state}
use Rattle.wellformed.specs.WellFormed.{well_formed, state_right, face_right, card_right, pcrs_right, pcrs_zero}
use Rattle.start.specs.Start.{fresh_state, start_of}
use Rattle.start.proofs.Fresh.{accepts}
use Rattle.alive.specs.States.{fresh, fields_from, slot_from, held, idle, called, full}

abbrev pub Well : State → Type 0
Well s = well_formed s (s.pages * page_size) ≡ true

pub well_fresh : Well fresh
unfolding start_of fresh_state
well_fresh = (accepts 8 1 (omega arith, (omega arith, (omega arith, omega arith)))).1

-- whatever slot 0's µPCRs
pub well_idle : (pcrs : List Digest) → Well (idle pcrs)
unfolding held slot_from fields_from well_formed state_right face_right card_right pcrs_right pcrs_zero all_below any_below first_below sum_below has_page pages_under counts_right runs_rise pages_few some_code one_param runs_right in_code entries_rise entries_right unused_zero keeps_rules
well_idle pcrs = refl

pub well_called : (pcrs : List Digest) → Well (called pcrs)
unfolding held slot_from fields_from well_formed state_right face_right card_right pcrs_right pcrs_zero all_below any_below first_below sum_below has_page pages_under counts_right runs_rise pages_few some_code one_param runs_right in_code entries_rise entries_right unused_zero keeps_rules is_range
well_called pcrs = refl

pub well_full : Well full
unfolding full table slot_from fields_from well_formed state_right face_right card_right pcrs_right pcrs_zero all_below any_below first_below sum_below has_page pages_under counts_right runs_rise pages_few some_code one_param runs_right in_code entries_rise entries_right unused_zero keeps_rules
well_full = refl

pub not_zero : well_formed zero_state (zero_state.pages * page_size) ≡ false
unfolding well_formed state_right face_right
not_zero = refl

-- with memory of eight pages
pub idle_at : (pcrs : List Digest) (m : List ℕ) → length m ≡ 32768 → well_formed (idle pcrs) (length m) ≡ true
unfolding held
idle_at pcrs m n = rw n (well_idle pcrs)

pub called_at : (pcrs : List Digest) (m : List ℕ) → length m ≡ 32768 → well_formed (called pcrs) (length m) ≡ true
unfolding held
called_at pcrs m n = rw n (well_called pcrs)

pub fresh_at : (m : List ℕ) → length m ≡ 32768 → well_formed fresh (length m) ≡ true
unfolding start_of fresh_state
fresh_at m n = rw n well_fresh
