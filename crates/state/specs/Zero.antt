-- Zero values of the state's parts, and what a read past the end of an array gives.
use Rattle.std.specs.Prelude.{false, [], replicate}
use Rattle.geometry.specs.Geometry.{slot_count, pcr_count, digest_size, most_pages}
use Rattle.sha_1.specs.declared.Digest.{Digest}
use Rattle.fields.specs.Fields.{zero_fields, no_fields}
use Rattle.state.specs.declared.Card.{Card}
use Rattle.state.specs.declared.Slot.{Slot}
use Rattle.state.specs.declared.Running.{Running}
use Rattle.state.specs.declared.State.{State}
use Rattle.state.specs.declared.Mode.TheVariants.{Legacy}

abbrev pub zero_pcr : Digest
zero_pcr = record { bytes = replicate digest_size 0 }

abbrev pub zero_card : Card
zero_card = record { registered = false; mark = 0; fields = zero_fields }

-- "A free slot and unused places are all zero."
abbrev pub zero_slot : Slot
zero_slot = record { card = zero_card; pcrs = replicate pcr_count zero_pcr }

abbrev pub zero_running : Running
zero_running = record { slot = 0; out = 0; length = 0 }

abbrev pub zero_state : State
zero_state = record { pages = 0; kept = 0; owner = replicate most_pages 0; slots = replicate slot_count zero_slot; mode = Legacy; running = zero_running }

-- past the end: numbers 0, lists empty
abbrev pub no_pcr : Digest
no_pcr = record { bytes = [] }

abbrev pub no_card : Card
no_card = record { registered = false; mark = 0; fields = no_fields }

abbrev pub no_slot : Slot
no_slot = record { card = no_card; pcrs = [] }
