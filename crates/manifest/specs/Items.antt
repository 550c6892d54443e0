-- A run and an entry have 8 bytes.
use Rattle.std.specs.Prelude.{◌≡◌, refl, length}
use Rattle.lists.specs.Numbers.{little}
use Rattle.fields.specs.declared.Run.{Run}
use Rattle.fields.specs.declared.Entry.{Entry}
use Rattle.manifest.specs.Layout.{item_size, run_bytes, entry_bytes}

pub run_long : (x : Run) → length (run_bytes x) ≡ item_size
unfolding run_bytes little
run_long x = refl

pub entry_long : (x : Entry) → length (entry_bytes x) ≡ item_size
unfolding entry_bytes little
entry_long x = refl
