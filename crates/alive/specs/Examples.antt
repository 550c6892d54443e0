-- Document 01's "Proved examples", E1 to E12, in its order and words: one table under one claim, that in every entry the definitions give what the document says.
use Rattle.std.specs.Prelude.{ℕ, Bool, true, ◌&&◌, List, [], ◌∷◌, take}
use Rattle.std.proofs.lemmas.List.Edits.{sets}
use Rattle.lists.specs.Numbers.{little}
use Rattle.geometry.specs.Geometry.{page_size}
use Rattle.fields.specs.Fields.{zero_fields}
use Rattle.manifest.specs.declared.Reading.{Reading}
use Rattle.manifest.specs.Reader.{equal, rule_broken, read_manifest}
use Rattle.state.specs.Face.{Face, face_of}
use Rattle.start.specs.Start.{start_of}
use Rattle.devicemap.specs.Map.{map_of}
use Rattle.devicemap.specs.Promise.{given}
use Rattle.events.specs.declared.Event.TheVariants.{Read}
use Rattle.events.specs.declared.Answer.{Answer}
use Rattle.events.specs.Answers.{told_by}
use Rattle.alive.specs.Rows.{answered}
use Rattle.alive.specs.States.{fresh}

-- what the definitions give, and what the document says
pub record Example : Type 0 where
  pub gives : List ℕ
  pub says : List ℕ

-- the claim: in every entry the two are the same
unfoldable pub all_right : List Example → Bool
all_right [] = true
all_right (x ∷ xs) = equal x.gives x.says && all_right xs

-- "the long manifest above": page 2 code, page 3 param, an entry at 8192 with 4 bytes in and 4 out
unfoldable pub long : List ℕ
long =
    1 ∷ 0 ∷ 1 ∷ 0 ∷ 2 ∷ 0 ∷ 0 ∷ 0
    ∷ 4 ∷ 0 ∷ 1 ∷ 0 ∷ 3 ∷ 0 ∷ 0 ∷ 0
    ∷ 0 ∷ 32 ∷ 0 ∷ 0 ∷ 4 ∷ 0 ∷ 4 ∷ 0
    ∷ 83 ∷ 83 ∷ 67 ∷ 66 ∷ 1 ∷ 2 ∷ 1 ∷ 0 ∷ 24 ∷ 0 ∷ 0 ∷ 0 ∷ 8 ∷ 0 ∷ 0 ∷ 0
    ∷ []

-- bytes that the reader gets, and the number that it gives
abbrev pub manifest : List ℕ → ℕ → Example
manifest l n = record { gives = (read_manifest l).refusal ∷ []; says = n ∷ [] }

-- the device map of a face, and the byte that it is
abbrev pub maps : Face → ℕ → Example
maps f byte = record { gives = map_of f; says = byte ∷ [] }

-- an answer's number and values
abbrev pub numbers_of : Answer → List ℕ
numbers_of a = (told_by a).number ∷ (told_by a).values

abbrev pub unread : Reading
unread = record { refusal = 3; fields = zero_fields }

-- a read of n bytes at a on a fresh machine, with a buffer of a page and no payload
abbrev pub read : ℕ → ℕ → List ℕ → Example
read a n says = record { gives = numbers_of (answered fresh page_size 0 unread (Read a n)); says = says }

abbrev pub accepts : ℕ → List ℕ
accepts n = 0 ∷ n ∷ []

abbrev pub refuses : ℕ → List ℕ
refuses r = r ∷ []

-- "P=8, M=1."
unfoldable pub examples : List Example
examples =
    -- E1: "the long manifest above is accepted"
    manifest long 0
    -- E2: "without its last byte, 3"
    ∷ manifest (take 39 long) rule_broken
    -- E3: "first distance 16, 3"
    ∷ manifest (sets long 32 (little 4 16)) rule_broken
    -- E4: "entry address 4096, 3"
    ∷ manifest (sets long 16 (little 4 4096)) rule_broken
    -- E5: "output 2048 accepted"
    ∷ manifest (sets long 22 (little 2 2048)) 0
    -- E6: "2049, 3"
    ∷ manifest (sets long 22 (little 2 2049)) rule_broken
    -- E7: "fresh device map 80 (hex)"
    ∷ maps (face_of fresh) 0x80
    -- E8: "with pages 2 and 3 owned, 8C"
    ∷ maps (given (given (face_of fresh) 2) 3) 0x8c
    -- E9: "P=2, M=1: FE"
    ∷ maps (face_of (start_of 2 1).state) 0xfe
    -- E10: "fresh, legacy read of 1 at 4095 accepted, of 2 there 4"
    ∷ read 4095 1 (accepts 1)
    ∷ read 4095 2 (refuses 4)
    -- E11: "4,096 at 0 accepted, 0 or 4,097 there 4"
    ∷ read 0 4096 (accepts 4096)
    ∷ read 0 0 (refuses 4)
    ∷ read 0 4097 (refuses 4)
    -- E12: "1 at 32767 is 5, at 32768 is 4"
    ∷ read 32767 1 (refuses 5)
    ∷ read 32768 1 (refuses 4)
    ∷ []
