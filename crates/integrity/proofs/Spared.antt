-- Pages that a store spares.
use Prim.Native.Nat.{ℕ, ◌+◌, ◌*◌, ◌≤◌, ◌<◌}
use native.Mathlib.Omega.{arith}
use native.Mathlib.Nat.{div-add-mod'}
use mathlib.Core.Path.{◌≡◌, refl, ◌∙◌}
use mathlib.Core.Logic.{⊎_elim}
use mathlib.Core.Bool.{true}
use mathlib.Core.List.{List, [], ◌∷◌}
use lib.Dec.{eqb}
use lib.ListN.{length, get_or}
use lib.Seq.{sets}
use borrow.Author.Tests.{eq-eqb}
use Rattle.lists.specs.Bytes.{part, zeros, wipe}
use Rattle.lists.proofs.Logic.{or_left, or_right, lt_or_ge}
use Rattle.lists.proofs.Parts.{part_few, zeros_long, sets_before, sets_after}
use Rattle.geometry.specs.Geometry.{page_size, page_of}
use Rattle.fields.proofs.PageLaws.{listed}
use Rattle.rules.specs.Plan.{Store, keep, put, move, clean}
use Rattle.rules.specs.Act.{stored}
use Rattle.rules.proofs.Ranges.{Apart}

abbrev pub Spares : (ℕ → Type 0) → ℕ → Store → Type 0
Spares Q size keep = Unit {0}
Spares Q size (put a) = Apart Q a size
Spares Q size (move a b n) = Apart Q b n
Spares Q size (clean ps) = (p : ℕ) → listed p ps ≡ true → Q p → ⊥

-- bytes put elsewhere
pub sets_aside_of : (bs m : List ℕ) (a i : ℕ) → (a ≤ i → i < a + length bs → ⊥) → get_or (sets m a bs) i 0 ≡ get_or m i 0
sets_aside_of bs m a i h =
    ⊎_elim
    (λ (l : i < a). sets_before bs m a i l)
    (λ (l : a ≤ i). ⊎_elim (λ (u : i < a + length bs). absurd (h l u)) (λ (u : a + length bs ≤ i). sets_after bs m a i u) (lt_or_ge i (a + length bs)))
    (lt_or_ge i a)

wipe_aside : (ps m : List ℕ) (i : ℕ) → (listed (page_of i) ps ≡ true → ⊥) → get_or (wipe page_size m ps) i 0 ≡ get_or m i 0
unfolding wipe
wipe_aside [] m i h = refl
wipe_aside (p ∷ ps) m i h =
    wipe_aside ps (sets m (p * page_size) (zeros page_size)) i (λ t. h (or_right (eqb (page_of i) p) _ t))
    ∙ sets_aside_of (zeros page_size) m (p * page_size) i
    (λ l u. let e : page_of i ≡ p = omega (arith, zeros_long page_size, div-add-mod' i page_size) in h (or_left (eqb (page_of i) p) _ (eq-eqb (page_of i) p e)))

-- spared pages keep every byte
pub stored_spares : (Q : ℕ → Type 0) (x : Store) (payload m : List ℕ) → Spares Q (length payload) x → (i : ℕ) → Q (page_of i) → get_or (stored x payload m) i 0 ≡ get_or m i 0
stored_spares Q keep payload m h i q = refl
stored_spares Q (put a) payload m h i q = sets_aside_of payload m a i (λ l u. h i l u q)
stored_spares Q (move a b n) payload m h i q = sets_aside_of (part m a n) m b i (λ l u. h i l (omega (arith, part_few m a n)) q)
stored_spares Q (clean ps) payload m h i q = wipe_aside ps m i (λ t. h (page_of i) t q)
