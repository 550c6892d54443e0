-- Laws of whole pages: wiping them and gathering them.
use mathlib.Core.Path.{◌≡◌, refl, sym, ap, ◌∙◌}
use mathlib.Core.List.{List, [], ◌∷◌, ◌++◌}
use Prim.Native.Nat.{ℕ, zero, suc, ◌+◌, ◌*◌, ◌<◌}
use native.Mathlib.Nat.{zero-mul, suc-mul, add-mul}
use lib.ListN.{length, get_or}
use lib.Seq.{sets, length-sets}
use Rattle.lists.specs.Below.{table}
use Rattle.lists.specs.Bytes.{zeros, counted, wipe}
use Rattle.lists.proofs.Tables.{table_long, table_at}
use Rattle.lists.proofs.Parts.{zeros_long, zeros_add, sets_append, sets_keep}

-- wiping keeps the length
pub wipe_long : (z : ℕ) (ps m : List ℕ) → length (wipe z m ps) ≡ length m
unfolding wipe
wipe_long z [] m = refl
wipe_long z (p ∷ ps) m = wipe_long z ps (sets m (p * z) (zeros z)) ∙ length-sets m (p * z) (zeros z)

-- no pages
pub wipe_none : (z : ℕ) (m : List ℕ) → m ≡ wipe z m []
unfolding wipe
wipe_none z m = refl

-- pages after pages
pub wipe_append : (z : ℕ) (ps qs m : List ℕ) → wipe z m (ps ++ qs) ≡ wipe z (wipe z m ps) qs
unfolding wipe
wipe_append z [] qs m = refl
wipe_append z (p ∷ ps) qs m = wipe_append z ps qs (sets m (p * z) (zeros z))

-- one page more
pub wipe_more : (z : ℕ) (ps m : List ℕ) (p : ℕ) → wipe z m (ps ++ (p ∷ [])) ≡ sets (wipe z m ps) (p * z) (zeros z)
unfolding wipe
wipe_more z ps m p = wipe_append z ps (p ∷ []) m

-- how many pages a run has
pub counted_long : (a n : ℕ) → length (counted a n) ≡ n
unfolding counted
counted_long a n = table_long (λ i. a + i) n

-- one page more
pub counted_more : (a n : ℕ) → counted a (suc n) ≡ counted a n ++ ((a + n) ∷ [])
unfolding counted table
counted_more a n = refl

-- its page i
pub counted_at : (a n i : ℕ) → i < n → get_or (counted a n) i 0 ≡ a + i
unfolding counted
counted_at a n i h = table_at (λ i. a + i) n i 0 h

-- wiping a run of pages is one stretch of zeros
pub wipe_run : (z a n : ℕ) (m : List ℕ) → wipe z m (counted a n) ≡ sets m (a * z) (zeros (n * z))
unfolding counted table zeros
wipe_run z a zero m = rw zero-mul (sym (wipe_none z m))
wipe_run z a (suc n) m =
    let e : (a + n) * z ≡ a * z + length (zeros (n * z)) = rw (add-mul, zeros_long) in
    let f : n * z + z ≡ suc n * z = sym (suc-mul n z) in
    wipe_more z (counted a n) m (a + n)
    ∙ ap (λ (x : List ℕ). sets x ((a + n) * z) (zeros z)) (wipe_run z a n m)
    ∙ ap (λ (k : ℕ). sets (sets m (a * z) (zeros (n * z))) k (zeros z)) e
    ∙ sym (sets_append (zeros (n * z)) (zeros z) m (a * z))
    ∙ ap (sets m (a * z)) (zeros_add (n * z) z ∙ ap zeros f)

-- wiping the same pages keeps agreement at a place
pub wipe_keep : (z : ℕ) (ps m m' : List ℕ) (i : ℕ) → length m ≡ length m' → get_or m i 0 ≡ get_or m' i 0 → get_or (wipe z m ps) i 0 ≡ get_or (wipe z m' ps) i 0
unfolding wipe
wipe_keep z [] m m' i e h = h
wipe_keep z (p ∷ ps) m m' i e h =
    wipe_keep z ps (sets m (p * z) (zeros z)) (sets m' (p * z) (zeros z)) i
    (length-sets m (p * z) (zeros z) ∙ e ∙ sym (length-sets m' (p * z) (zeros z)))
    (sets_keep (zeros z) m m' (p * z) i e h)
