-- Lists of two runs, and whole pages of two memories.
use Prim.Native.Nat.{ℕ, ◌≤◌, ◌<◌}
use native.Mathlib.Omega.{arith}
use mathlib.Core.Path.{◌≡◌, refl, sym, ◌∙◌}
use mathlib.Core.Logic.{⊎_elim}
use mathlib.Core.Bool.{true, false≢true}
use mathlib.Core.List.{List, [], ◌∷◌}
use lib.ListN.{length, get_or, set}
use lib.Seq.{sets, length-sets, get_or-set_same, get_or-set_other, set_out}
use lib.Dec.{eqb}
use borrow.Author.Tests.{eqb-true, eq-eqb}
use Rattle.lists.specs.Bytes.{part, zeros, wipe, gather}
use Rattle.lists.proofs.Logic.{or_cases, or_left, or_right, lt_or_ge}
use Rattle.lists.proofs.Parts.{zeros_long, part_same, sets_join}
use Rattle.lists.proofs.Pages.{wipe_keep}
use Rattle.geometry.specs.Geometry.{page_size, page_of, start_of}
use Rattle.fields.proofs.PageLaws.{listed}
use Rattle.rules.proofs.Facts.{by_eq}

-- one element set, seen at any place
pub set_one : {A : Type 0} (P : A → Type 0) (d : A) (c : List A) (j q : ℕ) (v : A) → P v → P (get_or c q d) → P (get_or (set c j v) q d)
set_one P d c j q v h k = by_eq q j hit (λ n. rw (get_or-set_other c j q v d n) k)
  where
    hit : q ≡ j → P (get_or (set c j v) q d)
    hit z =
        ⊎_elim
        (λ (l : j < length c). rw (z, get_or-set_same c j v d l) h)
        (λ (l : length c ≤ j). rw (set_out c j v l) k)
        (lt_or_ge j (length c))

-- the same place set in two lists
pub set_same_two : {A : Type 0} (c c' : List (List A)) (j : ℕ) (v : List A) → length c ≡ length c' → j < length c → get_or (set c j v) j [] ≡ get_or (set c' j v) j []
set_same_two c c' j v e l = get_or-set_same c j v [] l ∙ sym (get_or-set_same c' j v [] (omega arith))

pub set_two : {A : Type 0} (c c' : List (List A)) (j q : ℕ) (v v' : List A) → length c ≡ length c'
    → (q ≡ j → v ≡ v') → get_or c q [] ≡ get_or c' q [] → get_or (set c j v) q [] ≡ get_or (set c' j v') q []
set_two c c' j q v v' e h k = by_eq q j hit (λ n. get_or-set_other c j q v [] n ∙ k ∙ sym (get_or-set_other c' j q v' [] n))
  where
    hit : q ≡ j → get_or (set c j v) q [] ≡ get_or (set c' j v') q []
    hit z =
        ⊎_elim
        (λ (l : j < length c). rw (z, h z) (set_same_two c c' j v' e l))
        (λ (l : length c ≤ j). let l' : length c' ≤ j = omega arith in rw (set_out c j v l, set_out c' j v' l') k)
        (lt_or_ge j (length c))

-- wiping makes two memories agree on each wiped page
pub wipe_join : (ps m m' : List ℕ) (i : ℕ) → length m ≡ length m' → listed (page_of i) ps ≡ true → get_or (wipe page_size m ps) i 0 ≡ get_or (wipe page_size m' ps) i 0
unfolding wipe
wipe_join [] m m' i e h = absurd (false≢true h)
wipe_join (p ∷ ps) m m' i e h =
    let e' : length (sets m (start_of p) (zeros page_size)) ≡ length (sets m' (start_of p) (zeros page_size)) =
    length-sets m (start_of p) (zeros page_size) ∙ e ∙ sym (length-sets m' (start_of p) (zeros page_size)) in
    ⊎_elim
    (λ (q : eqb (page_of i) p ≡ true). wipe_keep page_size ps _ _ i e'
    (sets_join (zeros page_size) m m' (start_of p) i e (omega (arith, eqb-true (page_of i) p q)) (omega (arith, eqb-true (page_of i) p q, zeros_long page_size))))
    (λ (q : listed (page_of i) ps ≡ true). wipe_join ps _ _ i e' q)
    (or_cases (eqb (page_of i) p) (listed (page_of i) ps) h)

-- two memories that agree on pages have the same contents of them
pub gather_same : (ps m m' : List ℕ) → length m ≡ length m' → ((p : ℕ) → listed p ps ≡ true → (i : ℕ) → page_of i ≡ p → get_or m i 0 ≡ get_or m' i 0)
    → gather page_size m ps ≡ gather page_size m' ps
unfolding gather
gather_same [] m m' e h = refl
gather_same (p ∷ ps) m m' e h =
    let a : part m (start_of p) page_size ≡ part m' (start_of p) page_size =
    part_same m m' (start_of p) page_size e (λ i l u. h p (or_left (eqb p p) (listed p ps) (eq-eqb p p refl)) i (omega arith)) in
    let b : gather page_size m ps ≡ gather page_size m' ps = gather_same ps m m' e (λ q t. h q (or_right (eqb q p) (listed q ps) t)) in
    rw (a, b)
