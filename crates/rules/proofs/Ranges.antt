-- What a range is, as facts, and bytes that lie off pages.
use Prim.Native.Nat.{ℕ, ◌+◌, ◌%◌, ◌≤◌, ◌<◌}
use native.Mathlib.Omega.{arith}
use mathlib.Core.Path.{◌≡◌}
use mathlib.Core.Bool.{Bool, true, ◌&&◌}
use lib.Dec.{leb, ltb, eqb}
use borrow.Author.Tests.{leb-true, ltb-true, eqb-true}
use Rattle.lists.proofs.Logic.{and_l, and_r, decided}
use Rattle.geometry.specs.Geometry.{page_size, page_of, start_of, is_range}
use Rattle.rules.specs.Tests.{unlooked}

pub record Range (p a n : ℕ) : Type 0 where
  pub some : 1 ≤ n
  pub most : n ≤ page_size
  pub inside : a % page_size + n ≤ page_size
  pub below : page_of a < p

pub range : (p a n : ℕ) → is_range p a n ≡ true → Range p a n
unfolding is_range
range p a n h =
    let t = and_r (leb 1 n) (leb n page_size && (leb (a % page_size + n) page_size && ltb (page_of a) p)) h in
    let u = and_r (leb n page_size) (leb (a % page_size + n) page_size && ltb (page_of a) p) t in
    record {
      some = leb-true 1 n (and_l (leb 1 n) _ h);
      most = leb-true n page_size (and_l (leb n page_size) _ t);
      inside = leb-true (a % page_size + n) page_size (and_l (leb (a % page_size + n) page_size) _ u);
      below = ltb-true (page_of a) p (and_r (leb (a % page_size + n) page_size) _ u);
    }

-- it lies in memory
pub range_fits : (p a n : ℕ) → is_range p a n ≡ true → a + n ≤ start_of p
range_fits p a n h = let r = range p a n h in omega arith

-- a range lies in one page
pub range_page : (p a n i : ℕ) → is_range p a n ≡ true → a ≤ i → i < a + n → page_of i ≡ page_of a
range_page p a n i e h k = omega (arith, (range p a n e).inside)

-- none of the n bytes from a is on a page of Q
abbrev pub Apart : (ℕ → Type 0) → ℕ → ℕ → Type 0
Apart Q a n = (i : ℕ) → a ≤ i → i < a + n → Q (page_of i) → ⊥

module _ (Q : ℕ → Type 0) (p a n : ℕ) where
  pub range_off : is_range p a n ≡ true → (Q (page_of a) → ⊥) → Apart Q a n
  range_off t h i l u q = h (rw (range_page p a n i t l u) at q)

  -- a range that is looked at only where its length is not 0
  pub unlooked_off : (t : Bool) → unlooked n (is_range p a n) ≡ true → unlooked n t ≡ true → (page_of a < p → t ≡ true → Q (page_of a) → ⊥) → Apart Q a n
  unlooked_off t x y h =
      decided (eqb n 0)
      (λ z i l u q. absurd (omega (arith, eqb-true n 0 z)))
      (λ z. let w : is_range p a n ≡ true = rw z at x in
      range_off w (h (range p a n w).below (rw z at y)))
