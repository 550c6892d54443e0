-- The rules on a manifest's fields, in document 01's order and words. Reader, writer and well-formedness use these.
use Rattle.std.specs.Prelude.{ℕ, ◌+◌, ◌-◌, Bool, ◌&&◌, ◌||◌, leb, ltb, eqb}
use Rattle.lists.specs.Below.{pick, all_below, any_below, sum_below}
use Rattle.geometry.specs.Geometry.{most_pages, most_held, half_page, page_of}
use Rattle.fields.specs.declared.Run.{Run}
use Rattle.fields.specs.declared.Entry.{Entry}
use Rattle.fields.specs.declared.Fields.{Fields}
use Rattle.fields.specs.Fields.{run_places, entry_places, run_at, entry_at, end_of}

-- "r runs (2 to 4)", "e entries (1 to 8)"
unfoldable pub counts_right : Fields → Bool
counts_right f = (leb 2 f.r && leb f.r run_places) && (leb 1 f.e && leb f.e entry_places)

-- ---- runs

-- "kind (1 code, 2 data, 3 stack, 4 param)"
abbrev pub code_kind : ℕ
code_kind = 1

abbrev pub param_kind : ℕ
param_kind = 4

abbrev pub is_code : Run → Bool
is_code x = eqb x.kind code_kind

abbrev pub is_param : Run → Bool
is_param x = eqb x.kind param_kind

-- one run by itself: its kind, "count u16 at least 1", "last page under 1,024"
abbrev pub run_right : Run → Bool
run_right x = (leb code_kind x.kind && leb x.kind param_kind) && (leb 1 x.count && leb (end_of x) most_pages)

abbrev pub run_right_at : Fields → ℕ → Bool
run_right_at f k = run_right (run_at f k)

-- "Rising, no overlap": the next run begins where this one has ended, or later
abbrev pub rises_at : Fields → ℕ → Bool
rises_at f k = leb (end_of (run_at f k)) (run_at f (k + 1)).first

unfoldable pub runs_rise : Fields → Bool
runs_rise f = all_below (f.r - 1) (rises_at f)

-- "at most 64 pages in all"
abbrev pub count_at : Fields → ℕ → ℕ
count_at f k = (run_at f k).count

unfoldable pub pages_few : Fields → Bool
pages_few f = leb (sum_below f.r (count_at f)) most_held

-- "at least one code run"
abbrev pub code_at : Fields → ℕ → Bool
code_at f k = is_code (run_at f k)

unfoldable pub some_code : Fields → Bool
some_code f = any_below f.r (code_at f)

-- "exactly one param run, of one page"
abbrev pub param_at : Fields → ℕ → ℕ
param_at f k = pick (is_param (run_at f k)) 1 0

abbrev pub param_pages_at : Fields → ℕ → ℕ
param_pages_at f k = pick (is_param (run_at f k)) (run_at f k).count 0

unfoldable pub one_param : Fields → Bool
one_param f = eqb (sum_below f.r (param_at f)) 1 && eqb (sum_below f.r (param_pages_at f)) 1

unfoldable pub runs_right : Fields → Bool
runs_right f = all_below f.r (run_right_at f) && (runs_rise f && (pages_few f && (some_code f && one_param f)))

-- ---- entries

-- "address u32 inside a code run": its page lies in one
abbrev pub holds : Run → ℕ → Bool
holds x p = leb x.first p && ltb p (end_of x)

abbrev pub code_holds_at : Fields → ℕ → ℕ → Bool
code_holds_at f p k = is_code (run_at f k) && holds (run_at f k) p

unfoldable pub in_code : Fields → ℕ → Bool
in_code f p = any_below f.r (code_holds_at f p)

-- "input length u16, output length u16, each at most 2,048"
abbrev pub lengths_right : Entry → Bool
lengths_right x = leb x.input half_page && leb x.output half_page

abbrev pub entry_right_at : Fields → ℕ → Bool
entry_right_at f k = in_code f (page_of (entry_at f k).address) && lengths_right (entry_at f k)

-- "Addresses strictly rising."
abbrev pub later_at : Fields → ℕ → Bool
later_at f k = ltb (entry_at f k).address (entry_at f (k + 1)).address

unfoldable pub entries_rise : Fields → Bool
entries_rise f = all_below (f.e - 1) (later_at f)

unfoldable pub entries_right : Fields → Bool
entries_right f = all_below f.e (entry_right_at f) && entries_rise f

-- ---- unused places

abbrev pub run_zero : Run → Bool
run_zero x = eqb x.kind 0 && (eqb x.count 0 && eqb x.first 0)

abbrev pub entry_zero : Entry → Bool
entry_zero x = eqb x.address 0 && (eqb x.input 0 && eqb x.output 0)

abbrev pub run_free_at : Fields → ℕ → Bool
run_free_at f k = ltb k f.r || run_zero (run_at f k)

abbrev pub entry_free_at : Fields → ℕ → Bool
entry_free_at f k = ltb k f.e || entry_zero (entry_at f k)

-- "unused places are all zero"
unfoldable pub unused_zero : Fields → Bool
unused_zero f = all_below run_places (run_free_at f) && all_below entry_places (entry_free_at f)

-- every rule
unfoldable pub keeps_rules : Fields → Bool
keeps_rules f = counts_right f && (runs_right f && (entries_right f && unused_zero f))
