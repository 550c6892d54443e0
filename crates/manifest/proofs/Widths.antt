-- Numbers of two bytes and of four, as the library's methods read and write them.
use mathlib.Core.Path.{◌≡◌, refl, sym}
use mathlib.Core.List.{List, [], ◌∷◌}
use Prim.Native.Nat.{ℕ, ◌+◌, ◌*◌, ◌/◌, ◌%◌}
use native.Mathlib.Nat.{add_assoc, div-div-eq-div-mul}
use native.Mathlib.Omega.{arith}
use lib.ListN.{get_or}
use Rattle.std.specs.Int.{w16, w32, to_le_bytes, from_le_bytes}
use Rattle.lists.specs.Numbers.{little, little_at}

pub little_at_2 : (l : List ℕ) (at : ℕ) → little_at 2 l at ≡ get_or l at 0 + 256 * get_or l (at + 1) 0
unfolding little_at
little_at_2 l at = omega arith

pub little_at_4 : (l : List ℕ) (at : ℕ)
    → little_at 4 l at ≡ get_or l at 0 + 256 * (get_or l (at + 1) 0 + 256 * (get_or l (at + 2) 0 + 256 * get_or l (at + 3) 0))
unfolding little_at
little_at_4 l at = simp add_assoc (omega arith)

pub little_2 : (x : ℕ) → little 2 x ≡ x % 256 ∷ x / 256 % 256 ∷ []
unfolding little
little_2 x = refl

pub little_4 : (x : ℕ) → little 4 x ≡ x % 256 ∷ x / 256 % 256 ∷ x / 65536 % 256 ∷ x / 16777216 % 256 ∷ []
unfolding little
little_4 x = rw (div-div-eq-div-mul x 256 256, div-div-eq-div-mul x 65536 256)

-- what is read from bytes that stand one after the other
pub read_2 : (l : List ℕ) (at a b n : ℕ) → a ≡ at → b ≡ at + 1 → n ≡ from_le_bytes w16 (get_or l a 0 ∷ get_or l b 0 ∷ []) → n ≡ little_at 2 l at
read_2 l at a b n p q h = let e = rw (p, q) at h in omega (arith, e, little_at_2 l at)

pub read_4 : (l : List ℕ) (at a b c d n : ℕ) → a ≡ at → b ≡ at + 1 → c ≡ at + 2 → d ≡ at + 3
    → n ≡ from_le_bytes w32 (get_or l a 0 ∷ get_or l b 0 ∷ get_or l c 0 ∷ get_or l d 0 ∷ []) → n ≡ little_at 4 l at
read_4 l at a b c d n p q r s h = let e = rw (p, q, r, s) at h in omega (arith, e, little_at_4 l at)

-- what is written
pub le_4 : (x : ℕ) → to_le_bytes w32 x ≡ little 4 x
le_4 x = sym (little_4 x)
