-- The rules are alive: each of the eleven events is accepted, and each number for no is given, with slots registered.
use Rattle.std.specs.Prelude.{ℕ, List, [], ◌∷◌, Option, Some, None}
use Rattle.geometry.specs.Geometry.{page_size}
use Rattle.memory.specs.declared.Source.TheVariants.{Payload, Memory}
use Rattle.manifest.specs.declared.Reading.{Reading}
use Rattle.manifest.specs.Reader.{read_manifest}
use Rattle.state.specs.declared.State.{State}
use Rattle.state.specs.Zero.{zero_state}
use Rattle.events.specs.declared.Event.{Event}
use Rattle.events.specs.declared.Event.TheVariants.{Register, Unregister, Call, Return, Jump, Read, Write, DeviceRead, DeviceWrite, Extend, PcrRead}
use Rattle.events.specs.declared.Answer.{Answer}
use Rattle.events.specs.declared.Answer.TheVariants.{Done, Slot, Entered, Left, Terminated, Filled, Refused}
use Rattle.events.specs.declared.Refusal.{Refusal}
use Rattle.events.specs.Refusals.{refusal_of}
use Rattle.alive.specs.Rows.{answered, Row}
use Rattle.rules.specs.Act.{zero_pcrs}
use Rattle.alive.specs.States.{fresh, fields_from, idle, called, full}
use Rattle.alive.specs.Examples.{long, unread}

-- a manifest that names page p for code and the next for param
abbrev pub manifest_from : ℕ → Reading
manifest_from p = record { refusal = 0; fields = fields_from p }

-- on a state, with a buffer of a page and a payload of 4 bytes
abbrev pub on : State → Event → Answer → Row
on s e a = record { gives = answered s page_size 4 unread e; says = a }

abbrev pub registers : State → Reading → Answer → Row
registers s x a = record { gives = answered s page_size 40 x (Register 7); says = a }

abbrev pub rests : State
rests = idle zero_pcrs

abbrev pub runs : State
runs = called zero_pcrs

unfoldable pub accepted : List Row
accepted =
    registers fresh (read_manifest long) (Slot 0)
    ∷ registers fresh (manifest_from 2) (Slot 0)
    ∷ registers rests (manifest_from 4) (Slot 1)
    ∷ on rests (Unregister 7 0) Done
    ∷ on rests (Call 7 8192 100 200) (Entered 0)
    ∷ on rests (Jump 4096) Done
    ∷ on rests (Read 100 4) (Filled 4)
    ∷ on rests (Write 100) Done
    ∷ on rests (DeviceRead 100 4) (Filled 4)
    ∷ on rests (DeviceWrite 100) Done
    ∷ on runs Return (Left 4)
    ∷ on runs (Jump 8192) Done
    ∷ on runs (Jump 0) (Terminated 0)
    ∷ on runs (Jump 99999) (Terminated 0)
    ∷ on runs (Read 8192 4096) (Filled 4096)
    ∷ on runs (Write 14336) Done
    ∷ on runs (DeviceRead 100 4) (Filled 4)
    ∷ on runs (DeviceWrite 100) Done
    ∷ on runs (Extend 1 Payload 0 0) Done
    ∷ on runs (Extend 7 Memory 8192 4096) Done
    ∷ on runs (Extend 0 Memory 99999 0) Done
    ∷ on runs (PcrRead 7) (Filled 20)
    ∷ []

-- with room for n bytes
abbrev pub on_room : State → ℕ → Event → Answer → Row
on_room s n e a = record { gives = answered s n 4 unread e; says = a }

-- no, where a refusal is named
abbrev pub told_no : Option Refusal → Answer
told_no (Some r) = Refused r
told_no None = Done

-- no, by document 01's number, so that the table below says which number each refusal has
abbrev pub no : ℕ → Answer
no n = told_no (refusal_of n)

unfoldable pub refused : List Row
refused =
    on zero_state (Jump 0) (no 1)
    ∷ on rests Return (no 2)
    ∷ on runs (Call 7 8192 100 200) (no 2)
    ∷ registers rests unread (no 3)
    ∷ on rests (Call 7 8192 4095 200) (no 4)
    ∷ on rests (Jump 32768) (no 4)
    ∷ on rests (Call 7 8192 8192 200) (no 5)
    ∷ on rests (Call 7 8192 100 12288) (no 5)
    ∷ on rests (Jump 8192) (no 5)
    ∷ on rests (Read 8192 1) (no 5)
    ∷ on rests (DeviceWrite 12288) (no 5)
    ∷ on runs (Write 8192) (no 5)
    ∷ on runs (Read 100 1) (no 5)
    ∷ on runs (DeviceRead 12288 1) (no 5)
    ∷ on runs (Extend 1 Memory 100 4) (no 5)
    ∷ registers rests (manifest_from 3) (no 6)
    ∷ registers rests (manifest_from 6) (no 6)
    ∷ registers full (manifest_from 16) (no 7)
    ∷ on rests (Unregister 9 0) (no 8)
    ∷ on rests (Unregister 7 1) (no 8)
    ∷ on rests (Unregister 0 8) (no 8)
    ∷ on rests (Call 7 8196 100 200) (no 8)
    ∷ on rests (Call 9 8192 100 200) (no 8)
    ∷ on_room rests 3 (Read 100 4) (no 9)
    ∷ on_room runs 19 (PcrRead 0) (no 9)
    ∷ on runs (PcrRead 8) (no 10)
    ∷ on runs (Extend 8 Payload 0 0) (no 10)
    ∷ []
