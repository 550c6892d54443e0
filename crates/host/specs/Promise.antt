-- Demand 1 at the interface: what is refused leaves everything as it came.
use Rattle.std.specs.Prelude.{ℕ, ◌<◌, ◌^◌, ◌≡◌, ◌≢◌, List, length}
use Rattle.geometry.specs.Geometry.{slot_count}
use Rattle.twin.specs.declared.Monitor.{Monitor}
use Rattle.twin.specs.declared.Request.{Request}
use Rattle.host.specs.Host.{hosted, host_step}

-- Whatever state of its type C hands over, well formed or not, whatever it asks and lends: where the reply's number is not 0, the state, memory and the
-- buffer are as they came.
abbrev pub RefusalsKeepAll : Type 0
RefusalsKeepAll =
    (m : Monitor) (q : Request) (payload memory buffer : List ℕ) → m.mode < 2 ^ 64 → length m.slots ≡ slot_count
    → (host_step m q payload memory buffer).reply.number ≢ 0
    → host_step m q payload memory buffer ≡ hosted (host_step m q payload memory buffer).reply m memory buffer
