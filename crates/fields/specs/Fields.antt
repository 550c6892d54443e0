-- A manifest's fields: zero ones, and what stands at a place of them.
use Rattle.std.specs.Prelude.{ℕ, ◌+◌, List, [], get_or, replicate}
use Rattle.fields.specs.declared.Run.{Run}
use Rattle.fields.specs.declared.Entry.{Entry}
use Rattle.fields.specs.declared.Fields.{Fields}

-- the places for runs and for entries
abbrev pub run_places : ℕ
run_places = 4

abbrev pub entry_places : ℕ
entry_places = 8

abbrev pub no_run : Run
no_run = record { kind = 0; count = 0; first = 0 }

abbrev pub no_entry : Entry
no_entry = record { address = 0; input = 0; output = 0 }

-- fields out of their parts
abbrev pub fields_of : ℕ → ℕ → List Run → List Entry → Fields
fields_of r e runs entries = record { r = r; e = e; runs = runs; entries = entries }

-- all zero
abbrev pub zero_fields : Fields
zero_fields = record { r = 0; e = 0; runs = replicate run_places no_run; entries = replicate entry_places no_entry }

-- what a read past the end of an array gives: numbers 0, lists empty
abbrev pub no_fields : Fields
no_fields = record { r = 0; e = 0; runs = []; entries = [] }

abbrev pub run_at : Fields → ℕ → Run
run_at f k = get_or f.runs k no_run

abbrev pub entry_at : Fields → ℕ → Entry
entry_at f k = get_or f.entries k no_entry

-- the first page after a run
abbrev pub end_of : Run → ℕ
end_of x = x.first + x.count
