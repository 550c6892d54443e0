-- Laws of `table` and `joined`, and how a loop that writes place after place makes a table.
use Prim.Native.Nat.{ℕ, zero, suc, ◌+◌, ◌-◌, ◌*◌, ◌≤◌, ◌<◌}
use native.Mathlib.Nat.{add-zero, add-suc, mul-zero, mul-suc, mul_comm}
use native.Mathlib.Numerals.{add-one}
use native.Mathlib.Omega.{arith}
use native.Mathlib.Decide.{ℕ_discrete}
use mathlib.Core.Path.{◌≡◌, refl, sym, ap, subst, ◌∙◌}
use mathlib.Core.List.{List, [], ◌∷◌, ◌++◌, map, append-nil, append_assoc}
use lib.ListN.{length, get_or, set, take, drop, length-append, length-drop, length-set, length-map, drop_of_length-le, get_or-append, get_or-map}
use lib.Seq.{drop-cons, drop_at, take_at, set_at, get_or_at, get_or-set_same, get_or-set_other, ext_get_or}
use mathlib.Core.Logic.{⊎_elim}
use Rattle.lists.specs.Below.{table, joined}
use Rattle.lists.specs.Bytes.{part}
use Rattle.lists.proofs.Logic.{lt_or_ge}
use Rattle.lists.proofs.Parts.{part_none, part_join}

module _ {A : Type 0} (v : ℕ → A) where
  -- a table of n has n elements
  pub table_long : (n : ℕ) → length (table v n) ≡ n
  unfolding table
  table_long zero = refl
  table_long (suc n) = simp (length-append, table_long n) (omega arith)

  -- one more element
  pub table_more : (n : ℕ) → table v (n + 1) ≡ table v n ++ (v n ∷ [])
  unfolding table
  table_more n = rw add-one

  table_past : (k i : ℕ) (d : A) → get_or (table v (suc i + k)) i d ≡ v i
  unfolding table
  table_past zero i d = rw (add-zero, get_or_at (table v i) (v i) [] d i (table_long i))
  table_past (suc k) i d =
      rw (add-suc, get_or-append (table v (suc i + k)) (v (suc i + k) ∷ []) d i (rw (table_long (suc i + k)) (omega arith)))
      (table_past k i d)

  -- element i of a table is v i
  pub table_at : (n i : ℕ) (d : A) → i < n → get_or (table v n) i d ≡ v i
  table_at n i d l =
      let e : suc i + (n - suc i) ≡ n = omega arith in
      subst (λ (k : ℕ). get_or (table v k) i d ≡ v i) e (table_past (n - suc i) i d)

  -- a list with its first n elements written so
  unfoldable pub written : List A → ℕ → List A
  written l n = table v n ++ drop n l

  -- before the loop
  pub written_none : (l : List A) → l ≡ written l 0
  unfolding written table
  written_none l = refl

  -- a turn
  pub written_more : (l : List A) (i : ℕ) → i < length l → set (written l i) i (v i) ≡ written l (i + 1)
  unfolding written table
  written_more l i h =
      rw (add-one, drop-cons l i (v i), set_at (table v i) (get_or l i (v i)) (drop (suc i) l) (v i) i (table_long i), append_assoc)

  -- it stays as long as it was
  pub written_long : (l : List A) (i : ℕ) → i ≤ length l → length (written l i) ≡ length l
  unfolding written table
  written_long l i h = simp (length-append, table_long i, length-drop) (omega arith)

  -- after the loop
  pub written_all : (l : List A) (n : ℕ) → length l ≡ n → written l n ≡ table v n
  unfolding written table
  written_all l n e = rw (drop_of_length-le l {i = n} (omega arith), append-nil)

-- two tables of the same elements
pub table_same : {A : Type 0} (v w : ℕ → A) (n : ℕ) → ((i : ℕ) → i < n → v i ≡ w i) → table v n ≡ table w n
unfolding table
table_same v w zero h = refl
table_same v w (suc n) h = rw (table_same v w n (λ i l. h i (omega arith)), h n (omega arith))

-- a list that has a table's elements
pub table_is : {A : Type 0} (l : List A) (n : ℕ) (v : ℕ → A) (d : A) → length l ≡ n → ((i : ℕ) → i < n → get_or l i d ≡ v i) → l ≡ table v n
table_is l n v d e h = ext_get_or d l (table v n) (e ∙ sym (table_long v n)) (λ i b. h i (omega arith) ∙ sym (table_at v n i d (omega arith)))

-- a list is the table of its elements
pub table_of : {A : Type 0} (l : List A) (d : A) (n : ℕ) → length l ≡ n → l ≡ table (λ i. get_or l i d) n
table_of l d n e = table_is l n (λ i. get_or l i d) d e (λ i b. refl)

-- a table with one element changed
pub table_set : {A : Type 0} (n : ℕ) (v w : ℕ → A) (i : ℕ) (x : A) → i < n → x ≡ w i → ((k : ℕ) → k < n → (k ≡ i → ⊥) → v k ≡ w k) → set (table v n) i x ≡ table w n
table_set n v w i x b e h = table_is (set (table v n) i x) n w x (length-set (table v n) i x ∙ table_long v n) (λ k l. one k l (ℕ_discrete k i))
  where
    one : (k : ℕ) → k < n → Dec (k ≡ i) → get_or (set (table v n) i x) k x ≡ w k
    one k l (yes q) =
        ap (λ (j : ℕ). get_or (set (table v n) i x) j x) q ∙ get_or-set_same (table v n) i x x (omega (arith, table_long v n)) ∙ e ∙ ap w (sym q)
    one k l (no q) = get_or-set_other (table v n) i k x x q ∙ table_at v n k x l ∙ h k l q

-- a map over a table
pub map_table : {A B : Type 0} (g : A → B) (v : ℕ → A) (a : A) (n : ℕ) → map g (table v n) ≡ table (λ k. g (v k)) n
map_table g v a n =
    table_is (map g (table v n)) n (λ k. g (v k)) (g a) (length-map (table v n) g ∙ table_long v n) (λ i b. get_or-map g (table v n) i a ∙ ap g (table_at v n i a b))

-- lists one after the other: one more
pub joined_more : {A : Type 0} (v : ℕ → List A) (n : ℕ) → joined (n + 1) v ≡ joined n v ++ v n
unfolding joined
joined_more v n = rw add-one

-- n lists of one length
pub joined_long : {A : Type 0} (v : ℕ → List A) (n c : ℕ) → ((i : ℕ) → i < n → length (v i) ≡ c) → length (joined n v) ≡ n * c
unfolding joined
joined_long v zero c h = omega arith
joined_long v (suc n) c h =
    simp (length-append, joined_long v n c (λ i l. h i (omega arith)), h n (omega arith)) (omega arith)

-- lists of c bytes that stand one after the other from p on
pub joined_part : (c : ℕ) (l : List ℕ) (p n : ℕ) (v : ℕ → List ℕ) → ((k : ℕ) → k < n → v k ≡ part l (p + c * k) c) → joined n v ≡ part l p (c * n)
unfolding joined
joined_part c l p zero v h = rw mul-zero (sym (part_none l p))
joined_part c l p (suc n) v h =
    rw (joined_part c l p n v (λ k b. h k (omega arith)), h n (omega arith), part_join l p (c * n) c, mul-suc)

-- the k-th of them
pub joined_at : (c n : ℕ) (v : ℕ → List ℕ) (b : List ℕ) (k : ℕ) → ((j : ℕ) → length (v j) ≡ c) → k < n → part (joined n v ++ b) (c * k) c ≡ v k
unfolding joined part
joined_at c zero v b k h l = absurd (omega arith)
joined_at c (suc n) v b k h l =
    ap (λ (x : List ℕ). take c (drop (c * k) x)) (append_assoc (joined n v) (v n) b)
    ∙ ⊎_elim
    (λ (m : k < n). joined_at c n v (v n ++ b) k h m)
    (λ (m : n ≤ k). let e : k ≡ n = omega arith in
    ap (λ (j : ℕ). take c (drop (c * j) (joined n v ++ (v n ++ b)))) e
    ∙ ap (take c) (drop_at (joined n v) (v n ++ b) (c * n) (joined_long v n c (λ j _. h j) ∙ mul_comm n c))
    ∙ take_at (v n) b c (h n)
    ∙ ap v (sym e))
    (lt_or_ge k n)
