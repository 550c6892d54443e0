-- A call's ranges are looked at when it is made, not when it returns (document 01, Call: "then 4, in range before out range; then 5 unless both pages are open").
use Rattle.std.specs.Prelude.{ℕ, ◌≡◌, ◌≢◌, true}
use Rattle.geometry.specs.Geometry.{is_range, page_of}
use Rattle.fields.specs.declared.Entry.{Entry}
use Rattle.state.specs.Face.{Face, is_open}
use Rattle.events.specs.declared.Answer.TheVariants.{Entered}
use Rattle.rules.specs.Tests.{slot_for}
use Rattle.rules.specs.Decide.{entry_for, call_rule}

-- n bytes at a, if there are any, are a range of memory on an open page
pub record OnOpen (f : Face) (a n : ℕ) : Type 0 where
  pub range : n ≢ 0 → is_range f.pages a n ≡ true
  pub page : n ≢ 0 → is_open f (page_of a) ≡ true

-- Whatever the face: a call that enters has its input and its output, of the lengths of the entry that it enters, in ranges on open pages.
pub record Checked (f : Face) (x : Entry) (i o : ℕ) : Type 0 where
  pub input : OnOpen f i x.input
  pub output : OnOpen f o x.output

abbrev pub CallsChecked : Type 0
CallsChecked = (f : Face) (mark a i o k : ℕ) → (call_rule f mark a i o).answer ≡ Entered k → Checked f (entry_for f (slot_for f mark a) a) i o
