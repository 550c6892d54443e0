-- How fields are found.
use Prim.Native.Nat.{ℕ, zero, suc, ◌/◌, ◌≤◌}
use native.Mathlib.Omega.{arith}
use mathlib.Core.Path.{◌≡◌, ap, ◌∙◌}
use denote.Ref.{Bor}
use Rattle.std.proofs.Common.{Option, Some, None}
use mathlib.Core.Bool.{Bool}
use mathlib.Core.List.{List, [], ◌∷◌}
use lib.ListN.{length}
use Rattle.std.specs.List.{slice_split, onto_first, slice_get}
use Rattle.std.specs.Option.{unwrap_or, option_map}
use Rattle.lists.proofs.Logic.{decided}
use Rattle.numerals.specs.Place.{is_char}
use Rattle.lines.specs.Grammar.{longest_line, payload_room}
use Rattle.lines.specs.Fields.{space, fields, field}

-- part k, or none
abbrev part_at : List (List ℕ) → ℕ → List ℕ
part_at ps k = unwrap_or (slice_get ps k) []

onto_few : (x : ℕ) (ps : List (List ℕ)) (n k : ℕ) → ((j : ℕ) → length (part_at ps j) ≤ n) → length (part_at (onto_first x ps) k) ≤ suc n
onto_few x [] n zero h = omega arith
onto_few x [] n (suc k) h = omega arith
onto_few x (p ∷ ps) n zero h = omega (arith, h 0)
onto_few x (p ∷ ps) n (suc k) h = omega (arith, h (suc k))

-- a part is no longer than the whole
part_few : (p : ℕ → Bool) (l : List ℕ) (k : ℕ) → length (part_at (slice_split p l) k) ≤ length l
part_few p [] zero = omega arith
part_few p [] (suc k) = omega arith
part_few p (x ∷ l) zero = decided (p x) (λ t. rw t (omega arith)) (λ t. rw t (onto_few x (slice_split p l) (length l) 0 (part_few p l)))
part_few p (x ∷ l) (suc k) = decided (p x) (λ t. rw t (omega (arith, part_few p l k))) (λ t. rw t (onto_few x (slice_split p l) (length l) (suc k) (part_few p l)))

pub field_few : (l : List ℕ) (k : ℕ) → length (field l k) ≤ length l
unfolding field fields
field_few l k = part_few (is_char space) l k

-- so that there is room for its pairs
pub hex_room : (l t : List ℕ) (k : ℕ) {room : ℕ} → t ≡ field l k → length l ≤ longest_line → payload_room ≤ room → length t / 2 ≤ room
hex_room l t k e h r = omega (arith, ap length e, field_few l k)

-- the part that was found, or none
pub part_or : (r : Option (Bor (List ℕ))) (d : Bor (List ℕ)) (s : Option (List ℕ)) → option_map (λ x. x.now) r ≡ s → d.now ≡ [] → (unwrap_or r d).now ≡ unwrap_or s []
part_or None d s e f = f ∙ ap (λ (o : Option (List ℕ)). unwrap_or o []) e
part_or (Some x) d s e f = ap (λ (o : Option (List ℕ)). unwrap_or o []) e
