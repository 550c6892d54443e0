-- What is refused leaves the state, memory and the buffer as they came.
use Prim.Native.Nat.{ℕ, ◌<◌, ◌^◌}
use mathlib.Core.Path.{◌≡◌, refl, ap, ◌∙◌}
use mathlib.Core.Logic.{◌≢◌}
use mathlib.Core.List.{List}
use lib.ListN.{length}
use Rattle.std.specs.Prelude.{Ok, Err}
use Rattle.geometry.specs.Geometry.{slot_count}
use Rattle.rules.specs.Act.{Out, step}
use Rattle.kept.specs.Refusals.{AsGiven}
use Rattle.kept.proofs.Refused.{refusals_keep}
use Rattle.twin.specs.declared.Monitor.{Monitor}
use Rattle.twin.specs.Twin.{opened_of, shut_of}
use Rattle.twin.specs.Asked.{Asked, asked_of, reply_of}
use Rattle.twin.proofs.Laws.{given_back, number_told}
use Rattle.host.specs.Host.{hosted, shown, host_asked, host_step}
use Rattle.host.specs.Promise.{RefusalsKeepAll}

back : (m : Monitor) (memory buffer : List ℕ) (o : Out) → m.mode < 2 ^ 64 → AsGiven (opened_of m) memory buffer o → shown o ≡ hosted (reply_of o.answer) m memory buffer
back m memory buffer o b k = λ i. record { reply = reply_of o.answer; monitor = (ap shut_of k.state ∙ given_back m b) i; memory = k.memory i; buffer = k.buffer i }

kept_asked : (a : Asked) (m : Monitor) (payload memory buffer : List ℕ) → m.mode < 2 ^ 64 → length m.slots ≡ slot_count → (host_asked a m payload memory buffer).reply.number ≢ 0
    → host_asked a m payload memory buffer ≡ hosted (host_asked a m payload memory buffer).reply m memory buffer
kept_asked (Err none) m payload memory buffer b l n = refl
kept_asked (Ok e) m payload memory buffer b l n =
    back m memory buffer (step (opened_of m) memory e payload buffer) b
    (refusals_keep (opened_of m) memory e payload buffer l (λ z. n (number_told (step (opened_of m) memory e payload buffer).answer ∙ z)))

pub refused_kept : RefusalsKeepAll
unfolding host_step
refused_kept m q payload memory buffer b l n = kept_asked (asked_of q) m payload memory buffer b l n
