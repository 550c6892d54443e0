-- What the device map gives C: its answer as a reply, and its buffer, through the twin.
use Rattle.std.specs.Prelude.{ℕ, List, length}
use Rattle.devicemap.specs.Map.{mapped, buffer_after}
use Rattle.twin.specs.declared.Monitor.{Monitor}
use Rattle.twin.specs.Twin.{opened_of}
use Rattle.twin.specs.Asked.{counted_reply, Said, answered}

unfoldable pub host_map : Monitor → List ℕ → Said
host_map m buffer = answered (counted_reply (mapped (opened_of m) (length buffer))) (buffer_after (opened_of m) buffer)
