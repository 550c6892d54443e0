-- The map's bits and its length, and the buffer that is filled.
use Prim.Native.Nat.{ℕ, ◌+◌, ◌*◌, ◌/◌, ◌%◌, ◌≤◌, ◌<◌}
use native.Mathlib.Nat.{div-add-mod}
use native.Mathlib.Omega.{arith}
use mathlib.Core.Path.{◌≡◌, sym, ap, ◌∙◌}
use mathlib.Core.Bool.{Bool, true, false, ◌&&◌}
use mathlib.Core.Logic.{⊎_elim}
use borrow.Author.Tests.{le-ltb}
use lib.Dec.{ltb, eqb}
use mathlib.Core.List.{List, ◌++◌}
use lib.ListN.{length, get_or, take, drop}
use lib.Seq.{sets, sets-eq, length-take-le, get_or-take}
use Rattle.std.specs.Int.{div_ceil}
use Rattle.lists.specs.Below.{pick, table}
use Rattle.lists.proofs.Logic.{lt_or_ge}
use Rattle.lists.proofs.Tables.{table_at, table_long, table_same}
use Rattle.state.specs.declared.State.{State}
use Rattle.state.specs.Face.{face_of, is_open}
use Rattle.devicemap.specs.Map.{number_of, shut_bit, map_byte, map_length, map_of, shut_in, bit_in, byte_in}
use Rattle.devicemap.specs.Promise.{EachBit}
use Rattle.devicemap.proofs.Bits.{number_bit}

pub bit_most : (t : Bool) → pick t 0 1 ≤ 1
bit_most true = omega arith
bit_most false = omega arith

pub bits_most : (owner : List ℕ) (pages i j : ℕ) → bit_in owner pages i j ≤ 1
bits_most owner pages i j = bit_most (ltb (8 * i + j) pages && eqb (get_or owner (8 * i + j) 0) 0)

pub each_bit : EachBit
unfolding map_of map_byte
each_bit f p l =
    let i : p / 8 < map_length f.pages = omega arith in
    rw (table_at (map_byte f) (map_length f.pages) (p / 8) 0 i)
    (number_bit (λ j. shut_bit f (8 * (p / 8) + j)) (λ j. bit_most (is_open f (8 * (p / 8) + j))) 8 (p % 8) (omega arith)
    ∙ ap (shut_bit f) (div-add-mod p 8))

-- the part of the owner table that is memory, as the code is handed it, says the same as the table and P
module _ (o : List ℕ) (n : ℕ) (l : n ≤ length o) where
  shut_part : (p : ℕ) → shut_in (take n o) (length (take n o)) p ≡ shut_in o n p
  shut_part p =
      rw (length-take-le n o l)
      (⊎_elim (λ (h : p < n). rw (get_or-take n o p 0 h)) (λ (h : n ≤ p). rw (le-ltb p n h)) (lt_or_ge p n))

  byte_part : (i : ℕ) → byte_in (take n o) (length (take n o)) i ≡ byte_in o n i
  unfolding byte_in
  byte_part i = ap (λ (f : ℕ → ℕ). number_of 8 f) (λ k j. shut_part (8 * i + j) k)

-- so the map is the table's
pub map_same : (s : State) → s.pages ≤ length s.owner → table (byte_in (take s.pages s.owner) (length (take s.pages s.owner))) (map_length s.pages) ≡ map_of (face_of s)
unfolding map_of map_byte byte_in
map_same s l = table_same (byte_in (take s.pages s.owner) (length (take s.pages s.owner))) (map_byte (face_of s)) (map_length s.pages) (λ i q. byte_part s.owner s.pages l i)

-- "P/8 bytes, rounded up", as the library counts them
pub length_up : (p : ℕ) → div_ceil p 8 ≡ map_length p
length_up p = omega arith

-- the first bytes of a buffer, filled
pub filled : (m : List ℕ) (v : ℕ → ℕ) (n : ℕ) → n ≤ length m → (w : List ℕ) → w ≡ table v (length (take n m)) → w ++ drop n m ≡ sets m 0 (table v n)
filled m v n l w e =
    let q : n ≡ 0 + length (table v n) = omega (arith, table_long v n) in
    rw (e, length-take-le n m l)
    (ap (λ (k : ℕ). table v n ++ drop k m) q ∙ sym (sets-eq (table v n) m 0 (omega (arith, table_long v n))))
