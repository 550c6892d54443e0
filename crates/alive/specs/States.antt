-- States to try the rules on.
use Rattle.std.specs.Prelude.{ℕ, ◌+◌, ◌*◌, true, List, [], ◌∷◌, replicate}
use Rattle.lists.specs.Below.{table}
use Rattle.geometry.specs.Geometry.{slot_count}
use Rattle.fields.specs.declared.Fields.{Fields}
use Rattle.fields.specs.Fields.{no_run, no_entry}
use Rattle.sha_1.specs.declared.Digest.{Digest}
use Rattle.state.specs.declared.Mode.{Mode}
use Rattle.state.specs.declared.Mode.TheVariants.{Legacy, Secure}
use Rattle.state.specs.declared.Running.{Running}
use Rattle.state.specs.declared.Slot.{Slot}
use Rattle.state.specs.declared.State.{State}
use Rattle.state.specs.Zero.{zero_slot, zero_running}
use Rattle.start.specs.Start.{start_of}
use Rattle.rules.specs.Act.{zero_pcrs}

-- P=8, M=1, as start gives it
abbrev pub fresh : State
fresh = (start_of 8 1).state

-- a page of code, the next page param, and one entry at the code's start: 4 bytes in, 4 out
unfoldable pub fields_from : ℕ → Fields
fields_from p = record {
  r = 2;
  e = 1;
  runs = record { kind = 1; count = 1; first = p } ∷ record { kind = 4; count = 1; first = p + 1 } ∷ no_run ∷ no_run ∷ [];
  entries = record { address = p * 4096; input = 4; output = 4 } ∷ replicate 7 no_entry;
}

unfoldable pub slot_from : ℕ → List Digest → Slot
slot_from p pcrs = record { card = record { registered = true; mark = 7; fields = fields_from p }; pcrs = pcrs }

-- P=8, M=1, with slot 0 registered under mark 7 on pages 2 and 3
unfoldable pub held : List Digest → Mode → Running → State
held pcrs m r = record {
  pages = 8;
  kept = 1;
  owner = 0 ∷ 0 ∷ 1 ∷ 1 ∷ 0 ∷ 0 ∷ 0 ∷ 255 ∷ replicate 1016 0;
  slots = slot_from 2 pcrs ∷ replicate 7 zero_slot;
  mode = m;
  running = r;
}

-- it rests, or was called and hands out 4 bytes to address 200
abbrev pub idle : List Digest → State
idle pcrs = held pcrs Legacy zero_running

abbrev pub called : List Digest → State
called pcrs = held pcrs (Secure 0) (record { slot = 0; out = 200; length = 4 })

-- P=20, M=1, all eight slots registered on pages 0 to 15
unfoldable pub full : State
full = record {
  pages = 20;
  kept = 1;
  owner = 1 ∷ 1 ∷ 2 ∷ 2 ∷ 3 ∷ 3 ∷ 4 ∷ 4 ∷ 5 ∷ 5 ∷ 6 ∷ 6 ∷ 7 ∷ 7 ∷ 8 ∷ 8 ∷ 0 ∷ 0 ∷ 0 ∷ 255 ∷ replicate 1004 0;
  slots = table (λ k. slot_from (2 * k) zero_pcrs) slot_count;
  mode = Legacy;
  running = zero_running;
}
