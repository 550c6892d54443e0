-- "A state is well formed when": document 01's paragraph, clause by clause, in its order.
use Rattle.std.specs.Prelude.{ℕ, ◌+◌, Bool, ◌&&◌, ◌||◌, List, [], get_or, leb, ltb, eqb}
use Rattle.lists.specs.Below.{pick, all_below, any_below, first_below, sum_below}
use Rattle.geometry.specs.Geometry.{least_pages, most_pages, slot_count, pcr_count, digest_size, is_range, page_of, start_of}
use Rattle.sha_1.specs.declared.Digest.{Digest}
use Rattle.fields.specs.declared.Fields.{Fields}
use Rattle.fields.specs.Fields.{run_places, entry_places, entry_at, run_at}
use Rattle.fields.specs.Rules.{run_zero, entry_zero, keeps_rules}
use Rattle.fields.specs.Pages.{has_page, pages_under}
use Rattle.state.specs.declared.Card.{Card}
use Rattle.state.specs.declared.Mode.{Mode}
use Rattle.state.specs.declared.Mode.TheVariants.{Legacy, Secure}
use Rattle.state.specs.declared.Running.{Running}
use Rattle.state.specs.declared.State.{State}
use Rattle.state.specs.Zero.{no_pcr}
use Rattle.state.specs.Face.{Face, face_of, pcrs_of, card_at, owner_at, top_of, is_open}

-- "P and M are in range": P 2 to 1,024, M 1 to P−1
abbrev pub sizes_right : ℕ → ℕ → Bool
sizes_right p m = (leb least_pages p && leb p most_pages) && (leb 1 m && ltb m p)

-- "and memory has the right length"
abbrev pub memory_right : Face → ℕ → Bool
memory_right f length = eqb length (start_of f.pages)

-- "free slots are zero": the card, and the µPCRs
abbrev pub run_zero_at : Fields → ℕ → Bool
run_zero_at f k = run_zero (run_at f k)

abbrev pub entry_zero_at : Fields → ℕ → Bool
entry_zero_at f k = entry_zero (entry_at f k)

abbrev pub fields_zero : Fields → Bool
fields_zero f = (eqb f.r 0 && eqb f.e 0) && (all_below run_places (run_zero_at f) && all_below entry_places (entry_zero_at f))

abbrev pub card_zero : Card → Bool
card_zero x = eqb x.mark 0 && fields_zero x.fields

abbrev pub byte_zero_at : Digest → ℕ → Bool
byte_zero_at d i = eqb (get_or d.bytes i 0) 0

abbrev pub pcr_zero_at : List Digest → ℕ → Bool
pcr_zero_at pcrs j = all_below digest_size (byte_zero_at (get_or pcrs j no_pcr))

unfoldable pub pcrs_zero : List Digest → Bool
pcrs_zero pcrs = all_below pcr_count (pcr_zero_at pcrs)

-- "a registered slot's runs and entries obey the manifest rules below, all its pages lie under P−M"
unfoldable pub card_right : Card → ℕ → Bool
card_right x top = pick x.registered (keeps_rules x.fields && pages_under x.fields top) (card_zero x)

abbrev pub card_right_at : Face → ℕ → Bool
card_right_at f k = card_right (card_at f k) (top_of f)

-- the µPCRs of a free slot are zero; those of a registered one are free
abbrev pub pcrs_right_at : Face → List (List Digest) → ℕ → Bool
pcrs_right_at f pcrs k = (card_at f k).registered || pcrs_zero (get_or pcrs k [])

unfoldable pub pcrs_right : Face → List (List Digest) → Bool
pcrs_right f pcrs = all_below slot_count (pcrs_right_at f pcrs)

-- slot k has page p (a free slot has none)
abbrev pub holds_at : Face → ℕ → ℕ → Bool
holds_at f p k = has_page (card_at f k).fields p

-- "and no page is in two slots"
abbrev pub times_held : Face → ℕ → ℕ → ℕ
times_held f p k = pick (holds_at f p k) 1 0

abbrev pub held_once : Face → ℕ → Bool
held_once f p = leb (sum_below slot_count (times_held f p)) 1

-- "the owner table says exactly that": 0 open, slot+1 for a codeblock's page, 255 monitor's; places from P on are 0
abbrev pub monitors : ℕ
monitors = 255

abbrev pub holder_of : Face → ℕ → ℕ
holder_of f p = first_below (holds_at f p) slot_count

abbrev pub owner_by : Face → ℕ → ℕ
owner_by f p = pick (ltb p (top_of f)) (pick (ltb (holder_of f p) slot_count) (holder_of f p + 1) 0) (pick (ltb p f.pages) monitors 0)

abbrev pub owner_right_at : Face → ℕ → Bool
owner_right_at f p = eqb (owner_at f p) (owner_by f p)

-- "in legacy mode the running record is zero"
abbrev pub running_zero : Running → Bool
running_zero x = eqb x.slot 0 && (eqb x.out 0 && eqb x.length 0)

-- "in secure mode the record's slot is the mode's and is registered, its out length is one of that slot's entries'"
abbrev pub output_at : Fields → ℕ → ℕ → Bool
output_at x n k = eqb (entry_at x k).output n

-- "and, if over 0, its out range is a range on an open page; if 0 the out address is 0"
abbrev pub out_right : Face → ℕ → ℕ → Bool
out_right f a n = pick (eqb n 0) (eqb a 0) (is_range f.pages a n && is_open f (page_of a))

abbrev pub running_right : Face → ℕ → Running → Bool
running_right f k x =
    (eqb x.slot k && (ltb k slot_count && (card_at f k).registered))
    && (any_below (card_at f k).fields.e (output_at (card_at f k).fields x.length) && out_right f x.out x.length)

abbrev pub mode_right : Face → Mode → Bool
mode_right f Legacy = running_zero f.running
mode_right f (Secure k) = running_right f k f.running

-- every clause but the memory's length and the µPCRs
unfoldable pub face_right : Face → Bool
face_right f =
    sizes_right f.pages f.kept
    && (all_below slot_count (card_right_at f)
    && (all_below most_pages (held_once f)
    && (all_below most_pages (owner_right_at f)
    && mode_right f f.mode)))

-- every clause but the memory's length
unfoldable pub state_right : State → Bool
state_right s = face_right (face_of s) && pcrs_right (face_of s) (pcrs_of s)

unfoldable pub well_formed : State → ℕ → Bool
well_formed s length = state_right s && memory_right (face_of s) length
