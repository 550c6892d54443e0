-- Cutting into blocks of 64 bytes: what a fold over the blocks of a message does at a seam. For any hash.
use mathlib.Core.Path.{◌≡◌, refl, ap, ap₂, sym, ◌∙◌}
use Prim.Native.Nat.{ℕ, zero, suc, ◌+◌, ◌*◌, ◌/◌, ◌%◌, ◌≤◌}
use mathlib.Core.List.{List, [], ◌∷◌, ◌++◌, append_assoc}
use native.Mathlib.Nat.{add-zero, add-suc, suc-mul}
use native.Mathlib.Omega.{arith}
use lib.ListN.{length, take, drop, length-append, length-drop, length-take, take-append-drop}
use lib.Seq.{take-append-le, drop-append-le, drop-append-add, drop-drop}
use Rattle.std.specs.List.{fold}
use Rattle.std.specs.Simd.{first_chunks}
use Rattle.std.proofs.lemmas.List.Sums.{fold-append}
use Rattle.lists.specs.Bytes.{part}
use Rattle.blocks.specs.Blocks.{block, whole, after, folded, rest}

block_left : (x y : List ℕ) (i : ℕ) → i + 64 ≤ length x → block (x ++ y) i ≡ block x i
unfolding block part
block_left x y i h =
    ap (take 64) (drop-append-le i x y (omega arith)) ∙ take-append-le 64 (drop i x) y (simp length-drop (omega arith))

block_right : (x y : List ℕ) (i : ℕ) → block (x ++ y) (length x + i) ≡ block y i
unfolding block part
block_right x y i = ap (take 64) (drop-append-add x y i)

-- one chunk more is the block that starts there
chunks_more : (m : List ℕ) (n : ℕ) → first_chunks 64 (suc n) m ≡ first_chunks 64 n m ++ (block m (n * 64) ∷ [])
unfolding block part
chunks_more m zero = refl
chunks_more m (suc n) =
    let e : 64 + n * 64 ≡ suc n * 64 = omega arith in
    ap (λ (l : List (List ℕ)). take 64 m ∷ l)
    (chunks_more (drop 64 m) n ∙ ap (λ (x : List ℕ). first_chunks 64 n (drop 64 m) ++ (take 64 x ∷ [])) (drop-drop (n * 64) 64 m ∙ ap (λ (k : ℕ). drop k m) e))

-- what follows the whole blocks, and how long it is
pub rest_long : (m : List ℕ) → length (rest m) ≡ length m % 64
unfolding rest
rest_long m = length-drop (whole (length m)) m ∙ omega arith

whole_long : (m : List ℕ) → length (take (whole (length m)) m) ≡ whole (length m)
whole_long m = length-take (whole (length m)) m ∙ omega arith

module _ {S : Type 0} (f : S → List ℕ → S) where
  -- blocks that lie in the first part
  after_left : (s : S) (x y : List ℕ) (n : ℕ) → n * 64 ≤ length x → after f s (x ++ y) n ≡ after f s x n
  unfolding after
  after_left s x y zero h = refl
  after_left s x y (suc n) h =
      let e : suc n * 64 ≡ n * 64 + 64 = suc-mul n 64 in
      ap₂ f (after_left s x y n (omega arith)) (block_left x y (n * 64) (omega arith))

  -- blocks past a seam
  after_right : (s : S) (x y : List ℕ) (k n : ℕ) → length x ≡ k * 64 → after f s (x ++ y) (k + n) ≡ after f (after f s x k) y n
  unfolding after
  after_right s x y k zero h = rw add-zero (after_left s x y k (omega arith))
  after_right s x y k (suc n) h =
      let e : (k + n) * 64 ≡ length x + n * 64 = omega arith in
      rw add-suc (ap₂ f (after_right s x y k n h) (ap (block (x ++ y)) e ∙ block_right x y (n * 64)))

  -- no block
  pub folded_none : (s : S) → folded f s [] ≡ s
  unfolding folded after
  folded_none s = refl

  -- a whole number of blocks, and what follows it
  pub folded_append : (s : S) (x y : List ℕ) → length x % 64 ≡ 0 → folded f s (x ++ y) ≡ folded f (folded f s x) y
  unfolding folded
  folded_append s x y h =
      let l : length (x ++ y) ≡ length x + length y = length-append x y in
      let e : length (x ++ y) / 64 ≡ length x / 64 + length y / 64 = omega arith in
      ap (after f s (x ++ y)) e ∙ after_right s x y (length x / 64) (length y / 64) (omega arith)

  -- what follows the whole blocks is not read
  pub folded_whole : (s : S) (x : List ℕ) → folded f s x ≡ folded f s (take (whole (length x)) x)
  unfolding folded
  folded_whole s x =
      let k : ℕ = length x / 64 in
      let l : length (take (k * 64) x) ≡ k * 64 = whole_long x in
      let e : length (take (k * 64) x) / 64 ≡ k = omega arith in
      rw e (ap (λ (z : List ℕ). after f s z k) (sym (take-append-drop (k * 64) x)) ∙ after_left s (take (k * 64) x) (drop (k * 64) x) k (omega arith))

  -- a message and what is added to it: its whole blocks, then its rest with what is added
  pub folded_on : (s : S) (x y : List ℕ) → folded f s (x ++ y) ≡ folded f (folded f s x) (rest x ++ y)
  unfolding rest
  folded_on s x y =
      let k : ℕ = whole (length x) in
      let l : length (take k x) ≡ k = whole_long x in
      let w : length (take k x) % 64 ≡ 0 = omega arith in
      ap (λ (z : List ℕ). folded f s (z ++ y)) (sym (take-append-drop k x))
      ∙ ap (folded f s) (append_assoc (take k x) (drop k x) y)
      ∙ folded_append s (take k x) (drop k x ++ y) w
      ∙ ap (λ (t : S). folded f t (drop k x ++ y)) (sym (folded_whole s x))

  -- the fold over the chunks that are lent
  pub fold_chunks : (s : S) (m : List ℕ) (n : ℕ) → fold f s (first_chunks 64 n m) ≡ after f s m n
  unfolding after
  fold_chunks s m zero = refl
  fold_chunks s m (suc n) =
      ap (fold f s) (chunks_more m n) ∙ fold-append f s (first_chunks 64 n m) (block m (n * 64) ∷ [])
      ∙ ap (λ (t : S). f t (block m (n * 64))) (fold_chunks s m n)
