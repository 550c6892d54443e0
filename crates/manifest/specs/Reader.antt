-- What the reader answers: the bytes from the trailer backward, "a field that fails ends it there with 3".
use Rattle.std.specs.Prelude.{ℕ, ◌+◌, ◌-◌, ◌*◌, Bool, true, false, ◌&&◌, Option, Some, None, List, [], ◌∷◌, leb, eqb, length, get_or}
use Rattle.lists.specs.Below.{pick, all_below}
use Rattle.lists.specs.Bytes.{part}
use Rattle.lists.specs.Numbers.{little_at}
use Rattle.fields.specs.declared.Run.{Run}
use Rattle.fields.specs.declared.Entry.{Entry}
use Rattle.fields.specs.declared.Fields.{Fields}
use Rattle.fields.specs.Fields.{fields_of, zero_fields}
use Rattle.fields.specs.Rules.{counts_right, run_right, lengths_right, keeps_rules}
use Rattle.events.specs.declared.Refusal.TheVariants.{RuleBroken}
use Rattle.events.specs.Refusals.{number_of}
use Rattle.manifest.specs.declared.Counts.{Counts}
use Rattle.manifest.specs.declared.Reading.{Reading}
use Rattle.manifest.specs.Layout.{item_size, trailer_size, size_of, fixed, run_in, entry_in, fields_at}

-- "3: manifest or its fields break a rule"
abbrev pub rule_broken : ℕ
rule_broken = number_of RuleBroken

-- whether two lists are the same
abbrev pub equal : List ℕ → List ℕ → Bool
equal [] [] = true
equal [] (y ∷ ys) = false
equal (x ∷ xs) [] = false
equal (x ∷ xs) (y ∷ ys) = eqb x y && equal xs ys

-- where the trailer begins, and r and e in it
abbrev pub trailer_at : List ℕ → ℕ
trailer_at l = length l - trailer_size

abbrev pub runs_in : List ℕ → ℕ
runs_in l = get_or l (trailer_at l + 5) 0

abbrev pub entries_in : List ℕ → ℕ
entries_in l = get_or l (trailer_at l + 6) 0

-- a trailer at t with r and e in it, in the order of its bytes; with it the length
unfoldable pub trailer_right : List ℕ → ℕ → ℕ → ℕ → Bool
trailer_right l t r e =
    equal (part l t 5) fixed
    && (counts_right (fields_of r e [] [])
    && (eqb (get_or l (t + 7) 0) 0
    && (eqb (length l) (size_of r e)
    && (eqb (little_at 4 l (t + 8)) (item_size * (r + e)) && eqb (little_at 4 l (t + 12)) (item_size * e)))))

abbrev pub trailed : List ℕ → Bool
trailed l = leb trailer_size (length l) && trailer_right l (trailer_at l) (runs_in l) (entries_in l)

-- the trailer's answer
unfoldable pub trailer_of : List ℕ → Option Counts
trailer_of l = pick (trailed l) (Some (record { r = runs_in l; e = entries_in l })) None

-- "a zero" after a run's kind
abbrev pub blank : List ℕ → ℕ → Bool
blank l at = eqb (get_or l (at + 1) 0) 0

abbrev pub blank_at : List ℕ → ℕ → Bool
blank_at l k = blank l (item_size * k)

-- a run's and an entry's answer, each by itself
unfoldable pub run_of : List ℕ → ℕ → Option Run
run_of l at = pick (blank l at && run_right (run_in l at)) (Some (run_in l at)) None

unfoldable pub entry_of : List ℕ → ℕ → Option Entry
entry_of l at = pick (lengths_right (entry_in l at)) (Some (entry_in l at)) None

-- the fields in bytes, by their trailer
abbrev pub fields_in : List ℕ → Fields
fields_in l = fields_at l (runs_in l) (entries_in l)

-- bytes that are a manifest
unfoldable pub accepts : List ℕ → Bool
accepts l = trailed l && (all_below (runs_in l) (blank_at l) && keeps_rules (fields_in l))

-- "the reader's fields are all zero" where it refuses
unfoldable pub refused_reading : Reading
refused_reading = record { refusal = rule_broken; fields = zero_fields }

unfoldable pub read_manifest : List ℕ → Reading
read_manifest l = pick (accepts l) (record { refusal = 0; fields = fields_in l }) refused_reading
