-- Hex fields read, and bytes written as pairs.
use Prim.Native.Nat.{ℕ, zero, suc, ◌+◌, ◌*◌, ◌/◌, ◌%◌, ◌≤◌, ◌<◌}
use native.Mathlib.Numerals.{add-one}
use native.Mathlib.Omega.{arith}
use mathlib.Core.Path.{◌≡◌, refl, sym, subst, ap, ◌∙◌}
use mathlib.Core.Bool.{Bool, true, false, ◌&&◌, ◌||◌, and-true, and-false}
use mathlib.Core.List.{List, [], ◌∷◌, ◌++◌}
use mathlib.Core.Logic.{⊎_elim}
use lib.ListN.{length, get_or, drop, set, drop_of_length-le}
use lib.Seq.{sets, drop-cons, get_or-take, get_or-drop}
use lib.Dec.{leb, eqb}
use lib.Pointwise.{pointwise}
use borrow.Author.Tests.{eqb-true, ne_eqb, le-leb, lt-leb}
use Rattle.std.proofs.Common.{Option}
use Rattle.std.specs.Option.{unwrap_or}
use Rattle.std.proofs.lemmas.Bool.Decides.{nat_tests}
use Rattle.std.specs.List.{list_all}
use Rattle.std.specs.Simd.{first_chunks}
use Rattle.lists.specs.Below.{table}
use Rattle.lists.proofs.Logic.{and_l, and_r, or_cases, or_left}
use Rattle.lists.proofs.Tables.{table_long, table_more}
use Rattle.lists.proofs.Parts.{sets_turn}
use Rattle.numerals.specs.Hex.{hex_value, is_hex_digit, is_dash, is_pairs, is_hex, hex_worth, pair_at, hex_digit, pairs}

-- `-`, and no other text
dash_is : (l : List ℕ) → pointwise eqb l (45 ∷ []) ≡ is_dash l
dash_is [] = refl
dash_is (x ∷ []) = and-true (eqb x 45)
dash_is (x ∷ y ∷ l) = and-false (eqb x 45) ∙ sym (ap (λ (t : Bool). t && eqb x 45) (ne_eqb (length (x ∷ y ∷ l)) 1 (λ e. omega (arith, e))))

pub hex_dash : (l : List ℕ) → true ≡ pointwise eqb l (45 ∷ []) → true ≡ is_hex l
unfolding is_hex
hex_dash l h = sym (or_left (is_dash l) (is_pairs l) (sym (h ∙ dash_is l)))

-- pairs, by their tests
pub pairs_all : (l : List ℕ) (r : Bool) → 2 ≤ length l → eqb (length l % 2) 0 ≡ true → r ≡ list_all is_hex_digit l → r ≡ is_pairs l
pairs_all l r h e a = rw (le-leb 2 (length l) h, e) a

pub pairs_odd : (l : List ℕ) → eqb (length l % 2) 0 ≡ false → false ≡ is_pairs l
pairs_odd l e = rw (e, and-false)

pub pairs_few : (l : List ℕ) → length l < 2 → false ≡ is_pairs l
pairs_few l h = rw (lt-leb 2 (length l) h)

-- a text that is not `-` is HEX if it is pairs
pub hex_pairs : (l : List ℕ) (r : Bool) → false ≡ pointwise eqb l (45 ∷ []) → r ≡ is_pairs l → r ≡ is_hex l
unfolding is_hex
hex_pairs l r h e = e ∙ sym (ap (λ (t : Bool). t || is_pairs l) (sym (h ∙ dash_is l)))

-- what all characters pass, each does
digit_in : (l : List ℕ) (k : ℕ) → list_all is_hex_digit l ≡ true → k < length l → is_hex_digit (get_or l k 0) ≡ true
digit_in [] k h b = absurd (omega arith)
digit_in (x ∷ l) zero h b = and_l (is_hex_digit x) (list_all is_hex_digit l) h
digit_in (x ∷ l) (suc k) h b = digit_in l k (and_r (is_hex_digit x) (list_all is_hex_digit l) h) (omega arith)

-- each character of pairs is a digit
pub hex_digit_at : (l : List ℕ) (k : ℕ) → is_hex l ≡ true → 2 ≤ length l → k < length l → is_hex_digit (get_or l k 0) ≡ true
unfolding is_hex
hex_digit_at l k h two b =
    ⊎_elim
    (λ (d : is_dash l ≡ true). absurd (omega (arith, eqb-true (length l) 1 (and_l (eqb (length l) 1) (eqb (get_or l 0 0) 45) d))))
    (λ (p : is_pairs l ≡ true). digit_in l k (and_r (eqb (length l % 2) 0) _ (and_r (leb 2 (length l)) _ p)) b)
    (or_cases (is_dash l) (is_pairs l) h)

-- the two characters of pair i
pub chunk_at : (n i : ℕ) (l : List ℕ) (k : ℕ) → i < n → k < 2 → get_or (get_or (first_chunks 2 n l) i []) k 0 ≡ get_or l (i * 2 + k) 0
chunk_at zero i l k b h = absurd (omega arith)
chunk_at (suc n) zero l k b h =
    let e : k ≡ 0 * 2 + k = omega arith in
    get_or-take 2 l k 0 h ∙ ap (λ (j : ℕ). get_or l j 0) e
chunk_at (suc n) (suc i) l k b h =
    let e : 2 + (i * 2 + k) ≡ suc i * 2 + k = omega arith in
    chunk_at n i (drop 2 l) k (omega arith) h ∙ (get_or-drop 2 l (i * 2 + k) 0 ∙ ap (λ (j : ℕ). get_or l j 0) e)

-- a digit is worth less than 16, and what is no digit is worth 0
worth_low : (c x : ℕ) (r : Option ℕ) → r ≡ hex_value c → x ≡ unwrap_or r 0 → x < 16
worth_low c x r e f = grind (arith, nat_tests)

-- character k of pair i, and what it is worth
module _ (l : List ℕ) (ps : List (List ℕ)) (i k : ℕ) (r : Option ℕ) (f : ps ≡ first_chunks 2 (length l / 2) l) (b : i < length l / 2) (h : k < 2) (e : r ≡ hex_value (get_or (get_or ps i []) k 0)) where
  pub pair_digit : r ≡ hex_value (get_or l (i * 2 + k) 0)
  pair_digit = e ∙ ap hex_value (ap (λ (p : List (List ℕ)). get_or (get_or p i []) k 0) f ∙ chunk_at (length l / 2) i l k b h)

  pub pair_low : (x : ℕ) → x ≡ unwrap_or r 0 → x < 16
  pair_low x = worth_low (get_or l (i * 2 + k) 0) x r pair_digit

-- the byte of two digits
pub pair_byte : (l : List ℕ) (i h k : ℕ) (r s : Option ℕ) → r ≡ hex_value (get_or l (i * 2 + 0) 0) → s ≡ hex_value (get_or l (i * 2 + 1) 0) → h ≡ unwrap_or r 0 → k ≡ unwrap_or s 0 → h * 16 + k ≡ pair_at l i
pair_byte l i h k r s a b e f =
    let z : i * 2 + 0 ≡ i * 2 = omega arith in
    let p : h ≡ hex_worth (get_or l (i * 2) 0) = e ∙ (ap (λ (o : Option ℕ). unwrap_or o 0) a ∙ ap (λ (j : ℕ). hex_worth (get_or l j 0)) z) in
    let q : k ≡ hex_worth (get_or l (i * 2 + 1) 0) = f ∙ ap (λ (o : Option ℕ). unwrap_or o 0) b in
    omega arith

-- a turn of the loop that puts the bytes of pairs
pub hex_turn : {d : List ℕ} (m l : List ℕ) (i x : ℕ) → d ≡ sets m 0 (table (pair_at l) i) → x ≡ pair_at l i → set d i x ≡ sets m 0 (table (pair_at l) (i + 1))
hex_turn {d} m l i x h e =
    let z : 0 + i ≡ i = omega arith in
    let t : set d (0 + i) (pair_at l i) ≡ sets m 0 (table (pair_at l) i ++ (pair_at l i ∷ [])) = sets_turn m 0 i (table (pair_at l) i) (pair_at l i) h (table_long (pair_at l) i) in
    rw (e, table_more (pair_at l) i) (subst (λ (k : ℕ). set d k (pair_at l i) ≡ sets m 0 (table (pair_at l) i ++ (pair_at l i ∷ []))) z t)

-- a turn of the loop that writes pairs: what is still to be written
pub pairs_turn : (out bs : List ℕ) (at i h l : ℕ) → i < length bs → h ≡ hex_digit (get_or bs i 0 / 16) → l ≡ hex_digit (get_or bs i 0 % 16)
    → sets (set (set out (at + i * 2) h) (at + i * 2 + 1) l) (at + (i + 1) * 2) (pairs (drop (i + 1) bs)) ≡ sets out (at + i * 2) (pairs (drop i bs))
unfolding pairs
pairs_turn out bs at i h l k e f =
    let z : at + (i + 1) * 2 ≡ suc (suc (at + i * 2)) = omega arith in
    rw (z, add-one (at + i * 2), add-one i, drop-cons bs i 0 k, e, f)

pub pairs_end : (out bs : List ℕ) (p i : ℕ) → length bs ≤ i → sets out p (pairs (drop i bs)) ≡ out
unfolding pairs
pairs_end out bs p i h = rw (drop_of_length-le bs h)
