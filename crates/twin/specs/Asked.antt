-- The event that a request names, and the reply that an answer becomes.
use Rattle.std.specs.Prelude.{ℕ, List, eqb, Option, Some, None, Result, Ok, Err}
use Rattle.lists.specs.Below.{pick}
use Rattle.memory.specs.declared.Source.{Source}
use Rattle.memory.specs.declared.Source.TheVariants.{Payload, Memory}
use Rattle.events.specs.declared.Event.{Event}
use Rattle.events.specs.declared.Event.TheVariants.{Register, Unregister, Call, Return, Jump, Read, Write, DeviceRead, DeviceWrite, Extend, PcrRead}
use Rattle.events.specs.declared.Answer.{Answer}
use Rattle.events.specs.declared.Answer.TheVariants as answer
use Rattle.events.specs.declared.Refusal.{Refusal}
use Rattle.events.specs.Refusals.{number_of, refusal_of}
use Rattle.twin.specs.declared.Request.{Request}
use Rattle.twin.specs.declared.Reply.{Reply}
use Rattle.twin.specs.declared.NoEvent.{NoEvent}

-- an event, or that there is none
abbrev pub Asked : Type 0
Asked = Result Event NoEvent

abbrev pub no_event : {A : Type 0} → Result A NoEvent
no_event = Err (record {})

-- an extend's source: 1 payload, 2 memory
unfoldable pub source_of : ℕ → Result Source NoEvent
source_of s = pick (eqb s 1) (Ok Payload) (pick (eqb s 2) (Ok Memory) no_event)

abbrev pub extend_by : Request → Result Source NoEvent → Asked
extend_by q (Ok from) = Ok (Extend q.index from q.address q.length)
extend_by q (Err none) = Err none

-- the kinds, in document 01's order
unfoldable pub asked_as : ℕ → Request → Asked
asked_as k q =
    pick (eqb k 1) (Ok (Register q.mark))
    (pick (eqb k 2) (Ok (Unregister q.mark q.slot))
    (pick (eqb k 3) (Ok (Call q.mark q.address q.input q.output))
    (pick (eqb k 4) (Ok Return)
    (pick (eqb k 5) (Ok (Jump q.address))
    (pick (eqb k 6) (Ok (Read q.address q.length))
    (pick (eqb k 7) (Ok (Write q.address))
    (pick (eqb k 8) (Ok (DeviceRead q.address q.length))
    (pick (eqb k 9) (Ok (DeviceWrite q.address))
    (pick (eqb k 10) (extend_by q (source_of q.source))
    (pick (eqb k 11) (Ok (PcrRead q.index))
    no_event))))))))))

abbrev pub asked_of : Request → Asked
asked_of q = asked_as q.kind q

abbrev pub reply : ℕ → ℕ → ℕ → Reply
reply n k v = record { number = n; kind = k; value = v }

abbrev pub reply_of : Answer → Reply
reply_of (answer.Refused r) = reply (number_of r) 0 0
reply_of answer.Done = reply 0 1 0
reply_of (answer.Slot k) = reply 0 2 k
reply_of (answer.Entered k) = reply 0 3 k
reply_of (answer.Left n) = reply 0 4 n
reply_of (answer.Terminated k) = reply 0 5 k
reply_of (answer.Filled n) = reply 0 6 n

-- of the manifest's writer and of the device map: so many bytes, or a refusal
abbrev pub counted_reply : Result ℕ Refusal → Reply
counted_reply (Ok n) = reply 0 6 n
counted_reply (Err r) = reply (number_of r) 0 0

-- the answer that a reply stands for, if any
abbrev pub refused_as : Option Refusal → Option Answer
refused_as (Some r) = Some (answer.Refused r)
refused_as None = None

abbrev pub answer_as : ℕ → Reply → Option Answer
answer_as k r =
    pick (eqb k 1) (Some answer.Done)
    (pick (eqb k 2) (Some (answer.Slot r.value))
    (pick (eqb k 3) (Some (answer.Entered r.value))
    (pick (eqb k 4) (Some (answer.Left r.value))
    (pick (eqb k 5) (Some (answer.Terminated r.value))
    (pick (eqb k 6) (Some (answer.Filled r.value))
    (refused_as (refusal_of r.number)))))))

abbrev pub answer_of : Reply → Option Answer
answer_of r = answer_as r.kind r

-- "A kind that is none of the eleven, or a source that is neither": a number that neither document uses
abbrev pub unknown_number : ℕ
unknown_number = 255

abbrev pub unknown_reply : Reply
unknown_reply = reply unknown_number 0 0

-- a reply, and what stands in the buffer after it
pub record Said : Type 0 where
  pub reply : Reply
  pub buffer : List ℕ

abbrev pub answered : Reply → List ℕ → Said
answered r buffer = record { reply = r; buffer = buffer }
