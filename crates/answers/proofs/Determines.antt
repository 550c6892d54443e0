-- What is printed for an answer determines it.
use Prim.Native.Nat.{ℕ, min, ◌+◌, ◌*◌, ◌≤◌, ◌<◌, ◌^◌}
use native.Mathlib.Omega.{arith}
use mathlib.Core.Path.{◌≡◌, refl, sym, ap, ◌∙◌}
use mathlib.Core.List.{List, [], ◌∷◌, ◌++◌, append_cancel_left, append_cancel_right}
use lib.ListN.{length, get_or, take}
use lib.Seq.{length-take-le}
use Rattle.events.specs.declared.Answer.TheVariants.{Done, Slot, Entered, Left, Terminated, Filled, Refused}
use Rattle.events.specs.Refusals.{number_of}
use Rattle.events.proofs.Numbers.{number_own, number_small}
use Rattle.numerals.specs.Decimal.{decimal}
use Rattle.numerals.specs.Hex.{pairs}
use Rattle.answers.specs.Text.{most_shown, shown_of, ended, Fits, Determined}
use Rattle.answers.proofs.Back.{decimal_same, pairs_same, taken_bytes}

-- the first two characters tell the kind of answer
tag : List ℕ → ℕ
tag l = get_or l 0 0 * 256 + get_or l 1 0

-- a number after a word
number_same : (w : List ℕ) (x y : ℕ) → x < 2 ^ 64 → y < 2 ^ 64 → w ++ ended (decimal x) ≡ w ++ ended (decimal y) → x ≡ y
number_same w x y a b e = decimal_same x y a b (append_cancel_right (decimal x) (decimal y) (10 ∷ []) (append_cancel_left w (ended (decimal x)) (ended (decimal y)) e))

-- all of the bytes are shown
shown_all : (n : ℕ) (x : List ℕ) → n ≤ most_shown → n ≤ length x → shown_of n x ≡ take n x
shown_all n x a b =
    let e : min (min n most_shown) (length x) ≡ n = omega arith in
    ap (λ (k : ℕ). take k x) e

-- bytes after a word
bytes_same : (w : List ℕ) (n k : ℕ) (x y : List ℕ) → Fits (Filled n) x → Fits (Filled k) y → w ++ ended (pairs (shown_of n x)) ≡ w ++ ended (pairs (shown_of k y)) → (n ≡ k) × (take n x ≡ take k y)
bytes_same w n k x y f g e =
    let p : pairs (shown_of n x) ≡ pairs (shown_of k y) = append_cancel_right (pairs (shown_of n x)) (pairs (shown_of k y)) (10 ∷ []) (append_cancel_left w (ended (pairs (shown_of n x))) (ended (pairs (shown_of k y))) e) in
    let q : pairs (take n x) ≡ pairs (take k y) = ap pairs (sym (shown_all n x f.0 f.1)) ∙ (p ∙ ap pairs (shown_all k y g.0 g.1)) in
    let t : take n x ≡ take k y = pairs_same (take n x) (take k y) (taken_bytes x n f.2) (taken_bytes y k g.2) q in
    (sym (length-take-le n x f.1) ∙ (ap length t ∙ length-take-le k y g.1), t)

pub determines : Determined
unfolding tag
determines Done Done x y f g e = (refl, refl)
determines Done (Slot s₂) x y f g e = absurd (omega (arith, ap tag e))
determines Done (Entered s₂) x y f g e = absurd (omega (arith, ap tag e))
determines Done (Left n₂) x y f g e = absurd (omega (arith, ap tag e))
determines Done (Terminated s₂) x y f g e = absurd (omega (arith, ap tag e))
determines Done (Filled n₂) x y f g e = absurd (omega (arith, ap tag e))
determines Done (Refused r₂) x y f g e = absurd (omega (arith, ap tag e))
determines (Slot s₁) Done x y f g e = absurd (omega (arith, ap tag e))
determines (Slot s₁) (Slot s₂) x y f g e = (ap Slot (number_same (115 ∷ 108 ∷ 111 ∷ 116 ∷ 32 ∷ []) s₁ s₂ f g e), refl)
determines (Slot s₁) (Entered s₂) x y f g e = absurd (omega (arith, ap tag e))
determines (Slot s₁) (Left n₂) x y f g e = absurd (omega (arith, ap tag e))
determines (Slot s₁) (Terminated s₂) x y f g e = absurd (omega (arith, ap tag e))
determines (Slot s₁) (Filled n₂) x y f g e = absurd (omega (arith, ap tag e))
determines (Slot s₁) (Refused r₂) x y f g e = absurd (omega (arith, ap tag e))
determines (Entered s₁) Done x y f g e = absurd (omega (arith, ap tag e))
determines (Entered s₁) (Slot s₂) x y f g e = absurd (omega (arith, ap tag e))
determines (Entered s₁) (Entered s₂) x y f g e = (ap Entered (number_same (105 ∷ 110 ∷ 32 ∷ []) s₁ s₂ f g e), refl)
determines (Entered s₁) (Left n₂) x y f g e = absurd (omega (arith, ap tag e))
determines (Entered s₁) (Terminated s₂) x y f g e = absurd (omega (arith, ap tag e))
determines (Entered s₁) (Filled n₂) x y f g e = absurd (omega (arith, ap tag e))
determines (Entered s₁) (Refused r₂) x y f g e = absurd (omega (arith, ap tag e))
determines (Left n₁) Done x y f g e = absurd (omega (arith, ap tag e))
determines (Left n₁) (Slot s₂) x y f g e = absurd (omega (arith, ap tag e))
determines (Left n₁) (Entered s₂) x y f g e = absurd (omega (arith, ap tag e))
determines (Left n₁) (Left n₂) x y f g e = (ap Left (number_same (111 ∷ 117 ∷ 116 ∷ 32 ∷ []) n₁ n₂ f g e), refl)
determines (Left n₁) (Terminated s₂) x y f g e = absurd (omega (arith, ap tag e))
determines (Left n₁) (Filled n₂) x y f g e = absurd (omega (arith, ap tag e))
determines (Left n₁) (Refused r₂) x y f g e = absurd (omega (arith, ap tag e))
determines (Terminated s₁) Done x y f g e = absurd (omega (arith, ap tag e))
determines (Terminated s₁) (Slot s₂) x y f g e = absurd (omega (arith, ap tag e))
determines (Terminated s₁) (Entered s₂) x y f g e = absurd (omega (arith, ap tag e))
determines (Terminated s₁) (Left n₂) x y f g e = absurd (omega (arith, ap tag e))
determines (Terminated s₁) (Terminated s₂) x y f g e = (ap Terminated (number_same (100 ∷ 101 ∷ 97 ∷ 100 ∷ 32 ∷ []) s₁ s₂ f g e), refl)
determines (Terminated s₁) (Filled n₂) x y f g e = absurd (omega (arith, ap tag e))
determines (Terminated s₁) (Refused r₂) x y f g e = absurd (omega (arith, ap tag e))
determines (Filled n₁) Done x y f g e = absurd (omega (arith, ap tag e))
determines (Filled n₁) (Slot s₂) x y f g e = absurd (omega (arith, ap tag e))
determines (Filled n₁) (Entered s₂) x y f g e = absurd (omega (arith, ap tag e))
determines (Filled n₁) (Left n₂) x y f g e = absurd (omega (arith, ap tag e))
determines (Filled n₁) (Terminated s₂) x y f g e = absurd (omega (arith, ap tag e))
determines (Filled n₁) (Filled n₂) x y f g e = let p = bytes_same (104 ∷ 101 ∷ 120 ∷ 32 ∷ []) n₁ n₂ x y f g e in (ap Filled p.0, p.1)
determines (Filled n₁) (Refused r₂) x y f g e = absurd (omega (arith, ap tag e))
determines (Refused r₁) Done x y f g e = absurd (omega (arith, ap tag e))
determines (Refused r₁) (Slot s₂) x y f g e = absurd (omega (arith, ap tag e))
determines (Refused r₁) (Entered s₂) x y f g e = absurd (omega (arith, ap tag e))
determines (Refused r₁) (Left n₂) x y f g e = absurd (omega (arith, ap tag e))
determines (Refused r₁) (Terminated s₂) x y f g e = absurd (omega (arith, ap tag e))
determines (Refused r₁) (Filled n₂) x y f g e = absurd (omega (arith, ap tag e))
determines (Refused r₁) (Refused r₂) x y f g e = (ap Refused (number_own r₁ r₂ (number_same (110 ∷ 111 ∷ 32 ∷ []) (number_of r₁) (number_of r₂) (number_small r₁) (number_small r₂) e)), refl)
