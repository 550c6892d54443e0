-- What the rules ask of a face: the page rule, entries, slots, the face after a change.
use Rattle.std.specs.Prelude.{ℕ, ◌+◌, Bool, ◌&&◌, ◌||◌, not, List, get_or, set, ltb, eqb}
use Rattle.lists.specs.Below.{pick, all_below, first_below, table}
use Rattle.geometry.specs.Geometry.{most_pages, slot_count, is_range}
use Rattle.fields.specs.declared.Fields.{Fields}
use Rattle.fields.specs.Fields.{entry_at}
use Rattle.fields.specs.Rules.{in_code}
use Rattle.fields.specs.Pages.{has_page}
use Rattle.state.specs.declared.Card.{Card}
use Rattle.state.specs.declared.Mode.{Mode}
use Rattle.state.specs.declared.Mode.TheVariants.{Legacy, Secure}
use Rattle.state.specs.declared.Running.{Running}
use Rattle.state.specs.Face.{Face, card_at, owner_at, is_open}

-- ---- the page rule

pub data Access : Type 0 where
  read : Access
  write : Access
  execute : Access
  device : Access

-- the page is the slot's own
abbrev pub is_own : Face → ℕ → ℕ → Bool
is_own f j p = eqb (owner_at f p) (j + 1)

abbrev pub own_code : Face → ℕ → ℕ → Bool
own_code f j p = is_own f j p && in_code (card_at f j).fields p

-- "Legacy reaches open pages. Secure reaches its own pages, and may not write code pages." Jumps stay "on a code page of its own".
-- Devices: "any mode, open pages only".
abbrev pub may_reach : Mode → Face → Access → ℕ → Bool
may_reach Legacy f read p = is_open f p
may_reach Legacy f write p = is_open f p
may_reach Legacy f execute p = is_open f p
may_reach Legacy f device p = is_open f p
may_reach (Secure j) f read p = is_own f j p
may_reach (Secure j) f write p = is_own f j p && not (in_code (card_at f j).fields p)
may_reach (Secure j) f execute p = own_code f j p
may_reach (Secure j) f device p = is_open f p

-- a range of this memory
abbrev pub in_range : Face → ℕ → ℕ → Bool
in_range f a n = is_range f.pages a n

-- "A length of 0 .. means that address isn't looked at"
abbrev pub unlooked : ℕ → Bool → Bool
unlooked n test = eqb n 0 || test

-- "and is kept as 0"
abbrev pub kept_as : ℕ → ℕ → ℕ
kept_as n a = pick (eqb n 0) 0 a

-- ---- entries and slots

-- the place of the entry in use that has this address; none: e
abbrev pub is_entry_at : Fields → ℕ → ℕ → Bool
is_entry_at x a i = eqb (entry_at x i).address a

unfoldable pub entry_of : Fields → ℕ → ℕ
entry_of x a = first_below (is_entry_at x a) x.e

-- a registered slot under that mark, and with that entry
abbrev pub under_mark : Card → ℕ → Bool
under_mark x mark = x.registered && eqb x.mark mark

abbrev pub callable_at : Face → ℕ → ℕ → ℕ → Bool
callable_at f mark a k = under_mark (card_at f k) mark && ltb (entry_of (card_at f k).fields a) (card_at f k).fields.e

-- the lowest of them; none: 8
unfoldable pub slot_for : Face → ℕ → ℕ → ℕ
slot_for f mark a = first_below (callable_at f mark a) slot_count

-- "Takes the lowest free slot"; none: 8
abbrev pub free_at : Face → ℕ → Bool
free_at f k = not (card_at f k).registered

unfoldable pub free_slot : Face → ℕ
free_slot f = first_below (free_at f) slot_count

-- every page that the fields name is open
abbrev pub open_if_named : Face → Fields → ℕ → Bool
open_if_named f x p = not (has_page x p) || is_open f p

unfoldable pub all_open : Face → Fields → Bool
all_open f x = all_below most_pages (open_if_named f x)

-- ---- the face after a change

-- the owner table with the fields' pages given to v
abbrev pub given_at : List ℕ → Fields → ℕ → ℕ → ℕ
given_at owner x v p = pick (has_page x p) v (get_or owner p 0)

unfoldable pub given : List ℕ → Fields → ℕ → List ℕ
given owner x v = table (given_at owner x v) most_pages

-- the face with slot k's card and its pages' owner
unfoldable pub with_card : Face → ℕ → Card → Fields → ℕ → Face
with_card f k card x v = record { pages = f.pages; kept = f.kept; owner = given f.owner x v; cards = set f.cards k card; mode = f.mode; running = f.running }

-- the face in another mode, with another running record
abbrev pub with_mode : Face → Mode → Running → Face
with_mode f m r = record { pages = f.pages; kept = f.kept; owner = f.owner; cards = f.cards; mode = m; running = r }
