-- Laws of bytes put into a list (`sets`) and taken out of it (`part`), and of zeros; the turn of a loop that stores.
use mathlib.Core.Path.{◌≡◌, refl, sym, ap, ◌∙◌}
use mathlib.Core.Logic.{◌≢◌, ◌⊎◌, ⊎_elim}
use mathlib.Core.List.{List, [], ◌∷◌, ◌++◌, append_assoc}
use Prim.Native.Nat.{ℕ, zero, suc, ◌+◌, ◌-◌, ◌≤◌, ◌<◌}
use native.Mathlib.Nat.{add-zero, add-suc, suc-add}
use native.Mathlib.Numerals.{add-one}
use native.Mathlib.Omega.{arith}
use native.Mathlib.Decide.{dec_lt, ℕ_discrete}
use lib.ListN.{length, take, drop, get_or, set, replicate, length-take, length-drop, length-set, length-replicate, get_or-replicate, replicate-append-replicate, get_or-eq_default}
use lib.Seq.{sets, length-sets, sets-eq, get_or-set_same, get_or-set_other, get_or-take, get_or-drop, ext_get_or, set_out, length-take-le, take-suc, take-add, take-length, drop_at, drop-cons, drop-drop}
use Rattle.lists.specs.Bytes.{part, zeros}

-- ---- zeros

-- how many zeros
pub zeros_long : (n : ℕ) → length (zeros n) ≡ n
unfolding zeros
zeros_long n = length-replicate n 0

-- one more
pub zeros_more : (n : ℕ) → zeros (n + 1) ≡ zeros n ++ (0 ∷ [])
unfolding zeros
zeros_more n = sym (replicate-append-replicate n 1 0)

-- zeros after zeros
pub zeros_add : (n k : ℕ) → zeros n ++ zeros k ≡ zeros (n + k)
unfolding zeros
zeros_add n k = replicate-append-replicate n k 0

-- each is zero
pub zeros_at : (n i : ℕ) → get_or (zeros n) i 0 ≡ 0
unfolding zeros
zeros_at n i = go (dec_lt i n)
  where
    go : Dec (i < n) → ◌≡◌ {A = ℕ} (get_or (replicate n 0) i 0) 0
    go (yes l) = get_or-replicate n i 0 0 l
    go (no l) = get_or-eq_default (replicate n 0) 0 (omega (arith, length-replicate {A = ℕ} n 0))

-- ---- parts

-- a part in the list is as long as was asked
pub part_long : (m : List ℕ) (at n : ℕ) → at + n ≤ length m → length (part m at n) ≡ n
unfolding part
part_long m at n h = length-take-le n (drop at m) (omega (arith, length-drop at m))

-- a part is no longer than was asked
pub part_few : (m : List ℕ) (at n : ℕ) → length (part m at n) ≤ n
unfolding part
part_few m at n = omega (arith, length-take n (drop at m))

-- no bytes
pub part_none : (m : List ℕ) (at : ℕ) → part m at 0 ≡ []
unfolding part
part_none m at = refl

-- one byte more
pub part_more : (m : List ℕ) (at n : ℕ) → at + n < length m → part m at (n + 1) ≡ part m at n ++ (get_or m (at + n) 0 ∷ [])
unfolding part
part_more m at n h = rw (add-one, take-suc (drop at m) n 0 (omega (arith, length-drop at m)), get_or-drop)

-- byte i of a part
pub part_at : (m : List ℕ) (at n i : ℕ) → i < n → get_or (part m at n) i 0 ≡ get_or m (at + i) 0
unfolding part
part_at m at n i h = rw (get_or-take, get_or-drop)

-- the whole list
pub part_all : (m : List ℕ) (n : ℕ) → length m ≡ n → part m 0 n ≡ m
unfolding part
part_all m n e = rw (← e) (take-length m)

-- a part and what follows it are one part
pub part_join : (m : List ℕ) (at n k : ℕ) → part m at n ++ part m (at + n) k ≡ part m at (n + k)
unfolding part
part_join m at n k = rw (take-add n k (drop at m), drop-drop)

-- a part's first byte and its others
pub part_cons : (m : List ℕ) (at n : ℕ) → at < length m → part m at (suc n) ≡ get_or m at 0 ∷ part m (at + 1) n
unfolding part
part_cons m at n h = rw (drop-cons m at 0 h, add-one)

-- a part of what follows a list of n bytes
pub part_after : (xs m : List ℕ) (n at k : ℕ) → length xs ≡ n → part (xs ++ m) (n + at) k ≡ part m at k
unfolding part
part_after xs m n at k e = rw (← drop-drop, drop_at xs m n e)

-- the part that was lent from a to e
pub part_lent : (m : List ℕ) (a e n : ℕ) → e ≡ a + n → take (e - a) (drop a m) ≡ part m a n
unfolding part
part_lent m a e n h = let k : e - a ≡ n = omega arith in rw k

-- parts of two lists of one length are equally long
pub part_alike : (m m' : List ℕ) (a n : ℕ) → length m ≡ length m' → length (part m a n) ≡ length (part m' a n)
unfolding part
part_alike m m' a n e = simp (length-take, length-drop) (omega arith)

-- two parts are equal where the lists agree at each place of the part
pub part_same : (m m' : List ℕ) (a n : ℕ) → length m ≡ length m' → ((i : ℕ) → a ≤ i → i < a + n → get_or m i 0 ≡ get_or m' i 0)
    → part m a n ≡ part m' a n
part_same m m' a n e h = ext_get_or 0 (part m a n) (part m' a n) (part_alike m m' a n e) each
  where
    each : (i : ℕ) → i < length (part m a n) → get_or (part m a n) i 0 ≡ get_or (part m' a n) i 0
    each i k =
        let b : i < n = omega (arith, part_few m a n) in
        rw (part_at m a n i b, part_at m' a n i b) (h (a + i) (omega arith) (omega arith))

-- ---- bytes put into a list

-- bytes put right after bytes
pub sets_append : (xs ys l : List ℕ) (a : ℕ) → sets l a (xs ++ ys) ≡ sets (sets l a xs) (a + length xs) ys
sets_append [] ys l a = rw add-zero
sets_append (x ∷ xs) ys l a =
    sets_append xs ys (set l a x) (suc a)
    ∙ ap (λ (k : ℕ). sets (sets (set l a x) (suc a) xs) k ys) (omega arith)

-- the same, where the place and the list are known by equations
pub sets_next : {d : List ℕ} (l : List ℕ) (a p : ℕ) (xs ys : List ℕ) → d ≡ sets l a xs → p ≡ a + length xs → sets d p ys ≡ sets l a (xs ++ ys)
sets_next l a p xs ys e f = rw (e, f) (sym (sets_append xs ys l a))

-- outside its range nothing changes: before it
pub sets_before : (vs l : List ℕ) (a i : ℕ) → i < a → get_or (sets l a vs) i 0 ≡ get_or l i 0
sets_before [] l a i h = refl
sets_before (v ∷ vs) l a i h = sets_before vs (set l a v) (suc a) i (omega arith) ∙ get_or-set_other l a i v 0 (omega arith)

-- and after it
pub sets_after : (vs l : List ℕ) (a i : ℕ) → a + length vs ≤ i → get_or (sets l a vs) i 0 ≡ get_or l i 0
sets_after [] l a i h = refl
sets_after (v ∷ vs) l a i h = sets_after vs (set l a v) (suc a) i (omega arith) ∙ get_or-set_other l a i v 0 (omega arith)

-- inside it the bytes stand
pub sets_inside : (vs l : List ℕ) (a i : ℕ) → a + length vs ≤ length l → i < length vs → get_or (sets l a vs) (a + i) 0 ≡ get_or vs i 0
sets_inside [] l a i h k = absurd (omega arith)
sets_inside (v ∷ vs) l a zero h k =
    rw add-zero (sets_before vs (set l a v) (suc a) a (omega arith) ∙ get_or-set_same l a v 0 (omega arith))
sets_inside (v ∷ vs) l a (suc i) h k =
    ap (λ (j : ℕ). get_or (sets (set l a v) (suc a) vs) j 0) (add-suc a i ∙ sym (suc-add a i))
    ∙ sets_inside vs (set l a v) (suc a) i (omega (arith, length-set l a v)) (omega arith)

-- the part that was put in place
pub part_sets : (m : List ℕ) (at : ℕ) (bs : List ℕ) → at + length bs ≤ length m → part (sets m at bs) at (length bs) ≡ bs
part_sets m at bs h =
    let l : length (part (sets m at bs) at (length bs)) ≡ length bs = part_long (sets m at bs) at (length bs) (omega (arith, length-sets m at bs)) in
    ext_get_or 0 (part (sets m at bs) at (length bs)) bs l
    (λ i k. let b : i < length bs = omega arith in part_at (sets m at bs) at (length bs) i b ∙ sets_inside bs m at i h b)

-- no other part changes
pub part_kept : (m : List ℕ) (at : ℕ) (bs : List ℕ) (a n : ℕ) → (a + n ≤ at) ⊎ (at + length bs ≤ a) → part (sets m at bs) a n ≡ part m a n
part_kept m at bs a n h =
    part_same (sets m at bs) m a n (length-sets m at bs)
    (λ i l u. ⊎_elim (λ p. sets_before bs m at i (omega arith)) (λ p. sets_after bs m at i (omega arith)) h)

-- what a part that was lent and came back changed leaves
pub sets_back : (m : List ℕ) (at n k : ℕ) (ys bs : List ℕ) → k ≡ n → ys ≡ bs → length bs ≡ n → at + n ≤ length m
    → take at m ++ (ys ++ drop k (drop at m)) ≡ sets m at bs
sets_back m at n k ys bs e f l h = rw (e, f, drop-drop, ← l, ← append_assoc) (sym (sets-eq bs m at (omega arith)))

-- all of a list
pub sets_all : (m bs : List ℕ) → length bs ≡ length m → sets m 0 bs ≡ bs
sets_all m bs e = let h = part_sets m 0 bs (omega arith) in
    sym (part_all (sets m 0 bs) (length bs) (length-sets m 0 bs ∙ sym e)) ∙ h

-- ---- two lists that agree at some places

-- one store keeps agreement at a place
set_keep : (l l' : List ℕ) (j v i : ℕ) → length l ≡ length l' → get_or l i 0 ≡ get_or l' i 0 → get_or (set l j v) i 0 ≡ get_or (set l' j v) i 0
set_keep l l' j v i e h = go (ℕ_discrete i j)
  where
    same : i ≡ j → Dec (j < length l) → get_or (set l j v) i 0 ≡ get_or (set l' j v) i 0
    same q (yes p) = rw q (get_or-set_same l j v 0 p ∙ sym (get_or-set_same l' j v 0 (omega arith)))
    same q (no p) =
        let a : length l ≤ j = omega arith in
        let b : length l' ≤ j = omega arith in
        rw (set_out l j v a, set_out l' j v b) h

    go : Dec (i ≡ j) → get_or (set l j v) i 0 ≡ get_or (set l' j v) i 0
    go (yes q) = same q (dec_lt j (length l))
    go (no q) = get_or-set_other l j i v 0 q ∙ h ∙ sym (get_or-set_other l' j i v 0 q)

-- the same bytes put into both keep agreement at a place, wherever they fall
pub sets_keep : (vs l l' : List ℕ) (a i : ℕ) → length l ≡ length l' → get_or l i 0 ≡ get_or l' i 0 → get_or (sets l a vs) i 0 ≡ get_or (sets l' a vs) i 0
sets_keep [] l l' a i e h = h
sets_keep (v ∷ vs) l l' a i e h =
    sets_keep vs (set l a v) (set l' a v) (suc a) i (length-set l a v ∙ e ∙ sym (length-set l' a v)) (set_keep l l' a v i e h)

-- and make two lists of one length agree where they fall
pub sets_join : (vs l l' : List ℕ) (a i : ℕ) → length l ≡ length l' → a ≤ i → i < a + length vs → get_or (sets l a vs) i 0 ≡ get_or (sets l' a vs) i 0
sets_join [] l l' a i e h k = absurd (omega arith)
sets_join (v ∷ vs) l l' a i e h k =
    go (ℕ_discrete i a) (λ (q : i ≢ a). sets_join vs (set l a v) (set l' a v) (suc a) i (length-set l a v ∙ e ∙ sym (length-set l' a v)) (omega arith) (omega arith))
  where
    one : i ≡ a → Dec (a < length l) → get_or (set l a v) i 0 ≡ get_or (set l' a v) i 0
    one q (yes p) = rw q (get_or-set_same l a v 0 p ∙ sym (get_or-set_same l' a v 0 (omega arith)))
    one q (no p) =
        get_or-eq_default (set l a v) 0 (omega (arith, length-set l a v))
        ∙ sym (get_or-eq_default (set l' a v) 0 (omega (arith, length-set l' a v)))

    go : Dec (i ≡ a) → (i ≢ a → get_or (sets (set l a v) (suc a) vs) i 0 ≡ get_or (sets (set l' a v) (suc a) vs) i 0) → get_or (sets (set l a v) (suc a) vs) i 0 ≡ get_or (sets (set l' a v) (suc a) vs) i 0
    go (yes q) r = sets_before vs (set l a v) (suc a) i (omega arith) ∙ one q (dec_lt a (length l)) ∙ sym (sets_before vs (set l' a v) (suc a) i (omega arith))
    go (no q) r = r q

-- different bytes of one length keep agreement at a place that they do not reach
pub sets_aside : (vs vs' l l' : List ℕ) (a i : ℕ) → length vs ≡ length vs' → get_or l i 0 ≡ get_or l' i 0 → (a ≤ i → i < a + length vs → ⊥)
    → get_or (sets l a vs) i 0 ≡ get_or (sets l' a vs') i 0
sets_aside vs vs' l l' a i e h n = go (dec_lt i a) (dec_lt i (a + length vs))
  where
    go : Dec (i < a) → Dec (i < a + length vs) → get_or (sets l a vs) i 0 ≡ get_or (sets l' a vs') i 0
    go (yes p) q = sets_before vs l a i p ∙ h ∙ sym (sets_before vs' l' a i p)
    go (no p) (yes q) = absurd (n (omega arith) q)
    go (no p) (no q) = sets_after vs l a i (omega arith) ∙ h ∙ sym (sets_after vs' l' a i (omega arith))

-- ---- the turn of a loop that stores

-- one store right after the bytes that are in place
pub sets_turn : {d : List ℕ} (m : List ℕ) (at i : ℕ) (bs : List ℕ) (x : ℕ) → d ≡ sets m at bs → length bs ≡ i
    → set d (at + i) x ≡ sets m at (bs ++ (x ∷ []))
sets_turn m at i bs x e l = rw (e, ← l) (sym (sets_append bs (x ∷ []) m at))
