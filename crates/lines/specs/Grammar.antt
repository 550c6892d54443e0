-- The grammar of a line: `reg MARK HEX`, `unr MARK SLOT`, `call MARK ADDR IN OUT`, `ret`, `jmp ADDR`, `get ADDR LEN`, `put ADDR HEX`, `dget`, `dput` (device),
-- `extp INDEX HEX`, `extm INDEX ADDR LEN`, `pcr INDEX`. "A line over 2,000 characters, an empty one or any other is `no 11`".
use Rattle.std.specs.Prelude.{ℕ, ◌+◌, Bool, true, false, ◌||◌, not, List, [], ◌∷◌, Option, Some, None, option_map, option_and_then, find, length, leb, eqb}
use Rattle.std.specs.Str.{bytes_eq}
use Rattle.lists.specs.Below.{pick}
use Rattle.memory.specs.declared.Source.TheVariants.{Payload, Memory}
use Rattle.events.specs.declared.Event.{Event}
use Rattle.events.specs.declared.Event.TheVariants.{Register, Unregister, Call, Return, Jump, Read, Write, DeviceRead, DeviceWrite, Extend, PcrRead}
use Rattle.numerals.specs.Decimal.{number_of}
use Rattle.numerals.specs.Hex.{is_hex, hex_bytes}
use Rattle.lines.specs.declared.Verb.{Verb}
use Rattle.lines.specs.declared.Verb.TheVariants as verb
use Rattle.lines.specs.declared.Shape.{Shape}
use Rattle.lines.specs.declared.Arguments.{Arguments}
use Rattle.lines.specs.declared.Said.{Said}
use Rattle.lines.specs.Fields.{field_count, field}

-- the most characters of a line
abbrev pub longest_line : ℕ
longest_line = 2000

-- the command words
abbrev pub name_of : Verb → List ℕ
-- reg
name_of verb.Reg = 114 ∷ 101 ∷ 103 ∷ []
-- unr
name_of verb.Unr = 117 ∷ 110 ∷ 114 ∷ []
-- call
name_of verb.Call = 99 ∷ 97 ∷ 108 ∷ 108 ∷ []
-- ret
name_of verb.Ret = 114 ∷ 101 ∷ 116 ∷ []
-- jmp
name_of verb.Jmp = 106 ∷ 109 ∷ 112 ∷ []
-- get
name_of verb.Get = 103 ∷ 101 ∷ 116 ∷ []
-- put
name_of verb.Put = 112 ∷ 117 ∷ 116 ∷ []
-- dget
name_of verb.Dget = 100 ∷ 103 ∷ 101 ∷ 116 ∷ []
-- dput
name_of verb.Dput = 100 ∷ 112 ∷ 117 ∷ 116 ∷ []
-- extp
name_of verb.Extp = 101 ∷ 120 ∷ 116 ∷ 112 ∷ []
-- extm
name_of verb.Extm = 101 ∷ 120 ∷ 116 ∷ 109 ∷ []
-- pcr
name_of verb.Pcr = 112 ∷ 99 ∷ 114 ∷ []

abbrev pub verbs : List Verb
verbs = verb.Reg ∷ verb.Unr ∷ verb.Call ∷ verb.Ret ∷ verb.Jmp ∷ verb.Get ∷ verb.Put ∷ verb.Dget ∷ verb.Dput ∷ verb.Extp ∷ verb.Extm ∷ verb.Pcr ∷ []

-- a word is a verb's name
abbrev pub names : List ℕ → Verb → Bool
names w v = bytes_eq (name_of v) w

-- the verb with this name
unfoldable pub verb_of : List ℕ → Option Verb
verb_of w = find (names w) verbs

-- how many fields a command has, its word too; how many of them are numbers; whether a HEX follows these
abbrev pub shaped : ℕ → ℕ → Bool → Shape
shaped f n h = record { fields = f; numbers = n; hex = h }

abbrev pub shape_of : Verb → Shape
shape_of verb.Reg = shaped 3 1 true
shape_of verb.Unr = shaped 3 2 false
shape_of verb.Call = shaped 5 4 false
shape_of verb.Ret = shaped 1 0 false
shape_of verb.Jmp = shaped 2 1 false
shape_of verb.Get = shaped 3 2 false
shape_of verb.Put = shaped 3 1 true
shape_of verb.Dget = shaped 3 2 false
shape_of verb.Dput = shaped 3 1 true
shape_of verb.Extp = shaped 3 1 true
shape_of verb.Extm = shaped 4 3 false
shape_of verb.Pcr = shaped 2 1 false

-- the event of a command, from its numbers in their order
abbrev pub event_of : Verb → Arguments → Event
event_of verb.Reg x = Register x.first
event_of verb.Unr x = Unregister x.first x.second
event_of verb.Call x = Call x.first x.second x.third x.fourth
event_of verb.Ret x = Return
event_of verb.Jmp x = Jump x.first
event_of verb.Get x = Read x.first x.second
event_of verb.Put x = Write x.first
event_of verb.Dget x = DeviceRead x.first x.second
event_of verb.Dput x = DeviceWrite x.first
event_of verb.Extp x = Extend x.first Payload 0 0
event_of verb.Extm x = Extend x.first Memory x.second x.third
event_of verb.Pcr x = PcrRead x.first

-- the number of field k, of a command with n numbers: 0 beyond them
unfoldable pub argument_at : List ℕ → ℕ → ℕ → Option ℕ
argument_at l n k = pick (leb k n) (number_of (field l k)) (Some 0)

-- all four, if each is a number
unfoldable pub arguments_of : List ℕ → ℕ → Option Arguments
arguments_of l n =
    option_and_then (λ a.
    option_and_then (λ b.
    option_and_then (λ c.
    option_map (λ d. record { first = a; second = b; third = c; fourth = d })
    (argument_at l n 4)) (argument_at l n 3)) (argument_at l n 2)) (argument_at l n 1)

-- what a line says: an event, and the payload bytes that go with it
pub record Saying : Type 0 where
  pub event : Event
  pub payload : List ℕ

-- the field of a verb's HEX
abbrev pub hex_field : List ℕ → Verb → List ℕ
hex_field l v = field l ((shape_of v).numbers + 1)

-- a line with this verb and these numbers: its HEX has to be one
abbrev pub said_with : List ℕ → Verb → Arguments → Option Saying
said_with l v x =
    pick (not (shape_of v).hex || is_hex (hex_field l v))
    (Some (record { event = event_of v x; payload = pick (shape_of v).hex (hex_bytes (hex_field l v)) [] }))
    None

-- a line with this verb: its fields are as many as the verb has, and those that are to be numbers are
abbrev pub said_by : List ℕ → Verb → Option Saying
said_by l v = pick (eqb (field_count l) (shape_of v).fields) (option_and_then (said_with l v) (arguments_of l (shape_of v).numbers)) None

unfoldable pub saying_of : List ℕ → Option Saying
saying_of l = pick (leb (length l) longest_line) (option_and_then (said_by l) (verb_of (field l 0))) None

-- room for any payload: two characters a byte
abbrev pub payload_room : ℕ
payload_room = 1000

-- the payload bytes of a line
abbrev pub payload_in : Option Saying → List ℕ
payload_in None = []
payload_in (Some s) = s.payload

unfoldable pub payload_of : List ℕ → List ℕ
payload_of l = payload_in (saying_of l)

-- the event of a line, and how many payload bytes there are
abbrev pub said_of : Saying → Said
said_of s = record { event = s.event; length = length s.payload }

unfoldable pub line_of : List ℕ → Option Said
line_of l = option_map said_of (saying_of l)
