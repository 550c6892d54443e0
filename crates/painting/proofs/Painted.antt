-- What a painted table says at a place.
use Prim.Native.Nat.{ℕ, zero, suc, ◌+◌, ◌-◌, ◌≤◌, ◌<◌}
use native.Mathlib.Nat.{le_antisymm}
use native.Mathlib.Numerals.{add-one}
use native.Mathlib.Omega.{arith}
use mathlib.Core.Path.{◌≡◌, refl, sym, ap, subst, ◌∙◌}
use mathlib.Core.Bool.{Bool, true, false, false≢true}
use mathlib.Core.List.{List, append_assoc}
use mathlib.Core.Logic.{◌⊎◌, inl, inr, ⊎_elim}
use borrow.Rule.Slice.PartMut.{mid_of, put_mid}
use lib.ListN.{length, take, drop, get_or, replicate, length-drop, length-replicate, get_or-replicate}
use lib.Seq.{sets, sets-eq, length-sets, length-take-le, drop-drop}
use lib.Dec.{leb}
use borrow.Author.Tests.{leb-true, ltb-true, ltb-false, leb-false}
use Rattle.lists.specs.Below.{any_below}
use Rattle.lists.proofs.Logic.{and_l, and_r, or_cases, or_false_l, or_false_r, decided}
use Rattle.lists.proofs.Parts.{sets_before, sets_after, sets_inside}
use Rattle.fields.specs.declared.Run.{Run}
use Rattle.fields.specs.Fields.{no_run, end_of}
use Rattle.fields.specs.Rules.{holds}
use Rattle.painting.specs.Painting.{painted, painted_runs}

module _ (l : List ℕ) (f v : ℕ) where
  -- a part of the table, filled
  pub painted_part : (n k : ℕ) (ys : List ℕ) → f + n ≤ length l → k ≡ n → ys ≡ replicate (length (mid_of f k l)) v → put_mid f k l ys ≡ painted l f n v
  unfolding painted
  painted_part n k ys h e w =
      let m : length (take n (drop f l)) ≡ n = length-take-le n (drop f l) (omega (arith, length-drop f l)) in
      rw (w, e, m, sets-eq (replicate n v) l f (rw length-replicate h), length-replicate, drop-drop) (sym (append_assoc (take f l) (replicate n v) (drop (f + n) l)))

  pub painted_long : (n : ℕ) → length (painted l f n v) ≡ length l
  unfolding painted
  painted_long n = length-sets l f (replicate n v)

  pub painted_in : (n p : ℕ) → f + n ≤ length l → f ≤ p → p < f + n → get_or (painted l f n v) p 0 ≡ v
  unfolding painted
  painted_in n p b g h =
      let w = length-replicate n v in
      let e : f + (p - f) ≡ p = omega arith in
      subst (λ (k : ℕ). get_or (sets l f (replicate n v)) k 0 ≡ v) e
      (sets_inside (replicate n v) l f (p - f) (omega arith) (omega arith) ∙ get_or-replicate n (p - f) v 0 (omega arith))

  pub painted_out : (n p : ℕ) → (p < f) ⊎ (f + n ≤ p) → get_or (painted l f n v) p 0 ≡ get_or l p 0
  unfolding painted
  painted_out n p h =
      let w = length-replicate n v in
      ⊎_elim (λ (m : p < f). sets_before (replicate n v) l f p m) (λ (m : f + n ≤ p). sets_after (replicate n v) l f p (omega arith)) h

-- page p is one of run i's
abbrev pub held_at : List Run → ℕ → ℕ → Bool
held_at rs p i = holds (get_or rs i no_run) p

not_held : (r : Run) (p : ℕ) → holds r p ≡ false → (p < r.first) ⊎ (end_of r ≤ p)
not_held r p h =
    decided (leb r.first p)
    (λ e. inr (ltb-false p (end_of r) (rw e at h)))
    (λ e. inl (leb-false r.first p e))

module _ (l : List ℕ) (rs : List Run) (v : ℕ) where
  pub runs_none : l ≡ painted_runs l rs v 0
  unfolding painted_runs
  runs_none = refl

  pub runs_step : (i : ℕ) (t w : List ℕ) → t ≡ painted_runs l rs v i → w ≡ painted t (get_or rs i no_run).first (get_or rs i no_run).count v → w ≡ painted_runs l rs v (i + 1)
  unfolding painted_runs
  runs_step i t w h e = rw add-one (e ∙ ap (λ (k : List ℕ). painted k (get_or rs i no_run).first (get_or rs i no_run).count v) h)

  pub runs_done : (n j : ℕ) (t : List ℕ) → j ≤ n → n ≤ j → t ≡ painted_runs l rs v j → t ≡ painted_runs l rs v n
  runs_done n j t a b h = subst (λ (k : ℕ). t ≡ painted_runs l rs v k) (le_antisymm a b) h

  pub runs_long : (n : ℕ) → length (painted_runs l rs v n) ≡ length l
  unfolding painted_runs
  runs_long zero = refl
  runs_long (suc n) = painted_long (painted_runs l rs v n) (get_or rs n no_run).first v (get_or rs n no_run).count ∙ runs_long n

  -- a page of none of the runs
  pub runs_out : (n p : ℕ) → any_below n (held_at rs p) ≡ false → get_or (painted_runs l rs v n) p 0 ≡ get_or l p 0
  unfolding painted_runs any_below
  runs_out zero p h = refl
  runs_out (suc n) p h =
      painted_out (painted_runs l rs v n) (get_or rs n no_run).first v (get_or rs n no_run).count p (not_held (get_or rs n no_run) p (or_false_r (any_below n (held_at rs p)) _ h))
      ∙ runs_out n p (or_false_l (any_below n (held_at rs p)) (held_at rs p n) h)

  -- a page of one of them
  pub runs_in_lem : (n p : ℕ) → ((i : ℕ) → i < n → end_of (get_or rs i no_run) ≤ length l) → any_below n (held_at rs p) ≡ true → get_or (painted_runs l rs v n) p 0 ≡ v
  unfolding painted_runs any_below
  runs_in_lem zero p b h = absurd (false≢true h)
  runs_in_lem (suc n) p b h =
      decided (held_at rs p n)
      (λ e. painted_in (painted_runs l rs v n) (get_or rs n no_run).first v (get_or rs n no_run).count p (rw (runs_long n) (b n (omega arith)))
      (leb-true (get_or rs n no_run).first p (and_l (leb (get_or rs n no_run).first p) _ e)) (ltb-true p (end_of (get_or rs n no_run)) (and_r (leb (get_or rs n no_run).first p) _ e)))
      (λ e. painted_out (painted_runs l rs v n) (get_or rs n no_run).first v (get_or rs n no_run).count p (not_held (get_or rs n no_run) p e)
      ∙ runs_in_lem n p (λ i m. b i (omega arith))
      (⊎_elim (λ t. t) (λ (t : held_at rs p n ≡ true). absurd (false≢true (sym e ∙ t))) (or_cases (any_below n (held_at rs p)) (held_at rs p n) h)))
