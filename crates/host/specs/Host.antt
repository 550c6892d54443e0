-- What an event gives C: the rules' step, through the twin.
use Rattle.std.specs.Prelude.{ℕ, ◌<◌, ◌≡◌, List, get_or, Option, Some, None, Ok, Err}
use Rattle.geometry.specs.Geometry.{slot_count}
use Rattle.painting.specs.Painting.{RunsFit}
use Rattle.state.specs.declared.Mode.{Mode}
use Rattle.state.specs.Zero.{no_slot}
use Rattle.rules.specs.Act.{Out, step}
use Rattle.wellformed.specs.declared.Sight.{Sight}
use Rattle.decide.specs.declared.Look.{Look}
use Rattle.decide.specs.Looks.{at, looking, seen_in}
use Rattle.change.specs.declared.Change.{Change}
use Rattle.change.specs.declared.Seat.{Seat}
use Rattle.change.specs.declared.Steer.{Steer}
use Rattle.change.specs.declared.Turn.{Turn}
use Rattle.change.specs.declared.Turn.TheVariants.{Kept}
use Rattle.change.specs.Parts.{steering, placing, seating, Seats, owners_by, slots_by}
use Rattle.twin.specs.declared.Monitor.{Monitor}
use Rattle.twin.specs.declared.Request.{Request}
use Rattle.twin.specs.declared.Reply.{Reply}
use Rattle.twin.specs.Twin.{mode_of, number_of, opened_of, shut_of}
use Rattle.twin.specs.Asked.{Asked, asked_of, reply_of, unknown_reply}
use Rattle.host.specs.declared.Heard.{Heard}

-- a reply, and what stands in the state, in memory and in the buffer after it
pub record Hosted : Type 0 where
  pub reply : Reply
  pub monitor : Monitor
  pub memory : List ℕ
  pub buffer : List ℕ

abbrev pub hosted : Reply → Monitor → List ℕ → List ℕ → Hosted
hosted r m memory buffer = record { reply = r; monitor = m; memory = memory; buffer = buffer }

-- what the rules leave, as C sees it
abbrev pub shown : Out → Hosted
shown o = hosted (reply_of o.answer) (shut_of o.state) o.memory o.buffer

-- the event that was asked, done; where none was, a number of its own, and nothing is changed
abbrev pub host_asked : Asked → Monitor → List ℕ → List ℕ → List ℕ → Hosted
host_asked (Ok e) m payload memory buffer = shown (step (opened_of m) memory e payload buffer)
host_asked (Err none) m payload memory buffer = hosted unknown_reply m memory buffer

unfoldable pub host_step : Monitor → Request → List ℕ → List ℕ → List ℕ → Hosted
host_step m q payload memory buffer = host_asked (asked_of q) m payload memory buffer

-- where the event that was asked looks, and what it sees there
abbrev pub look_for : Asked → Mode → Look
look_for (Ok e) m = looking e m
look_for (Err none) m = at 0 0

abbrev pub host_looks : Request → ℕ → Look
host_looks q n = look_for (asked_of q) (mode_of n)

unfoldable pub host_looked : Monitor → Request → Option Sight
host_looked m q = seen_in (opened_of m) (host_looks q m.mode)

-- the reply to a change, and its turn
abbrev pub heard_of : Change → Heard
heard_of c = record { reply = reply_of c.answer; turn = c.turn }

-- no event: nothing is stored
abbrev pub none_heard : Heard
none_heard = record { reply = unknown_reply; turn = Kept }

-- the state with the mode and the running record stored
abbrev pub steered : Monitor → Option Steer → Monitor
steered m None = m
steered m (Some x) = record { pages = m.pages; kept = m.kept; owner = m.owner; slots = m.slots; mode = number_of x.mode; running = x.running }

-- what the turn makes of slot k
abbrev pub seat_in : Monitor → Turn → ℕ → Seat
seat_in m t k = seating (get_or m.slots k no_slot) t

-- and with that slot, and its pages' owner
abbrev pub filled : Monitor → ℕ → Seat → Monitor
filled m k x = record { pages = m.pages; kept = m.kept; owner = owners_by x m.owner; slots = slots_by x k m.slots; mode = m.mode; running = m.running }

abbrev pub seated : Monitor → Turn → Option ℕ → Monitor
seated m t None = m
seated m t (Some k) = filled m k (seat_in m t k)

abbrev pub stored : Monitor → Turn → Monitor
stored m t = seated (steered m (steering t)) t (placing t)

-- what an event comes to: the reply, and the state with these parts stored, for which there is room
pub record Comes (m : Monitor) (h : Heard) (memory buffer : List ℕ) (o : Hosted) : Type 0 where
  pub out : hosted h.reply (stored m h.turn) memory buffer ≡ o
  pub slot_there : (k : ℕ) → placing h.turn ≡ Some k → k < slot_count
  pub seats_so : Seats h.turn
  pub runs_fit : (k : ℕ) → placing h.turn ≡ Some k → RunsFit (seat_in m h.turn k).fields
