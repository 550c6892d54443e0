-- Laws of `placed`: places filled from the back.
use mathlib.Core.Path.{◌≡◌, sym, ap, subst, ◌∙◌}
use mathlib.Core.Logic.{⊎_elim}
use native.Mathlib.Nat.{eq-or-lt_of_le}
use mathlib.Core.Bool.{◌&&◌}
use mathlib.Core.List.{List}
use Prim.Native.Nat.{ℕ, ◌+◌, ◌-◌, ◌≤◌, ◌<◌}
use native.Mathlib.Decide.{dec_le}
use native.Mathlib.Omega.{arith}
use lib.Dec.{leb, ltb}
use lib.ListN.{length, get_or, set}
use borrow.Author.Tests.{le-leb, lt-leb, lt-ltb, le-ltb}
use Rattle.lists.specs.Below.{pick, table}
use Rattle.lists.proofs.Tables.{table_long, table_at, table_same, table_is, table_set}
use Rattle.manifest.specs.Layout.{placed}

module _ {A : Type 0} where
  -- as many places as were asked
  pub placed_long : (n i e : ℕ) (g : ℕ → A) (z : A) → length (placed n i e g z) ≡ n
  unfolding placed
  placed_long n i e g z = table_long _ n

  -- a place that is filled, and one that is not
  pub placed_in : (n e : ℕ) (g : ℕ → A) (z d : A) (k : ℕ) → k < e → e ≤ n → get_or (placed n 0 e g z) k d ≡ g k
  unfolding placed
  placed_in n e g z d k h l = table_at _ n k d (omega arith) ∙ rw (le-leb 0 k (omega arith), lt-ltb k e h)

  pub placed_out : (n e : ℕ) (g : ℕ → A) (z d : A) (k : ℕ) → e ≤ k → k < n → get_or (placed n 0 e g z) k d ≡ z
  unfolding placed
  placed_out n e g z d k h l = table_at _ n k d l ∙ rw (le-leb 0 k (omega arith), le-ltb k e h)

  -- a list that has those elements
  pub placed_is : (l : List A) (n e : ℕ) (g : ℕ → A) (z d : A) → length l ≡ n → ((k : ℕ) → k < e → k < n → get_or l k d ≡ g k) → ((k : ℕ) → e ≤ k → k < n → get_or l k d ≡ z)
      → l ≡ placed n 0 e g z
  unfolding placed
  placed_is l n e g z d q h o = table_is l n _ d q (λ k b. one k b (dec_le e k))
    where
      one : (k : ℕ) → k < n → Dec (e ≤ k) → get_or l k d ≡ pick (leb 0 k && ltb k e) (g k) z
      one k b (yes m) = o k m b ∙ sym (rw (le-leb 0 k (omega arith), le-ltb k e m))
      one k b (no m) = h k (omega arith) b ∙ sym (rw (le-leb 0 k (omega arith), lt-ltb k e (omega arith)))

  -- before the loop
  pub placed_none : (n e : ℕ) (g : ℕ → A) (z : A) → placed n e e g z ≡ table (λ _. z) n
  unfolding placed
  placed_none n e g z = table_same _ _ n (λ k b. none k (dec_le e k))
    where
      none : (k : ℕ) → Dec (e ≤ k) → pick (leb e k && ltb k e) (g k) z ≡ z
      none k (yes h) = rw (le-leb e k h, le-ltb k e h)
      none k (no h) = rw (lt-leb e k (omega arith))

  placed_turn : (n i e : ℕ) (g : ℕ → A) (z x : A) → i < e → e ≤ n → x ≡ g i → set (placed n (i + 1) e g z) i x ≡ placed n i e g z
  unfolding placed
  placed_turn n i e g z x h b q =
      table_set n _ _ i x (omega arith) (q ∙ sym (rw (le-leb i i (omega arith), lt-ltb i e h))) (λ k l ne. other k ne (dec_le i k))
    where
      other : (k : ℕ) → (k ≡ i → ⊥) → Dec (i ≤ k) → pick (leb (i + 1) k && ltb k e) (g k) z ≡ pick (leb i k && ltb k e) (g k) z
      other k ne (yes l) = rw (le-leb i k l, le-leb (i + 1) k (omega arith))
      other k ne (no l) = rw (lt-leb i k (omega arith), lt-leb (i + 1) k (omega arith))

  -- a turn
  pub placed_back : {l : List A} (n i e : ℕ) (g : ℕ → A) (z x : A) → l ≡ placed n i e g z → 0 < i → i ≤ e → e ≤ n → x ≡ g (i - 1) → set l (i - 1) x ≡ placed n (i - 1) e g z
  placed_back n i e g z x q a b h y =
      let s : i - 1 + 1 ≡ i = omega arith in
      ap (λ (l : List A). set l (i - 1) x) (q ∙ ap (λ (j : ℕ). placed n j e g z) (sym s)) ∙ placed_turn n (i - 1) e g z x (omega arith) h y

  -- after it
  pub placed_end : {l : List A} (n i e : ℕ) (g : ℕ → A) (z : A) → l ≡ placed n i e g z → i ≤ 0 → l ≡ placed n 0 e g z
  placed_end n i e g z q h = let s : i ≡ 0 = omega arith in q ∙ ap (λ (j : ℕ). placed n j e g z) s

-- what holds from i on, and of i - 1, holds from i - 1 on
pub down_more : (P : ℕ → Type 0) (i r : ℕ) → ((k : ℕ) → i ≤ k → k < r → P k) → P (i - 1) → (k : ℕ) → i - 1 ≤ k → k < r → P k
down_more P i r h p k a b =
    ⊎_elim (λ (e : i - 1 ≡ k). subst P e p) (λ (l : i - 1 < k). h k (omega arith) b) (eq-or-lt_of_le a)
