-- A number's digits are those that the library writes.
use Prim.Native.Nat.{ℕ, zero, suc, ◌+◌, ◌*◌, ◌/◌, ◌%◌, ◌≤◌, ◌<◌, ◌^◌}
use native.Mathlib.Nat.{pow-suc, pow-zero}
use native.Mathlib.Numerals.{add-one}
use native.Mathlib.Omega.{arith}
use mathlib.Core.Path.{◌≡◌, refl, sym, subst, ap, ◌∙◌}
use mathlib.Core.List.{List, [], ◌∷◌, ◌++◌}
use borrow.Author.Tests.{lt-ltb, le-ltb}
use Rattle.std.specs.Fmt as fmt
use Rattle.std.proofs.lemmas.Fmt.{decimal_by_steps}
use Rattle.lists.proofs.Logic.{pick_true, pick_false}
use Rattle.numerals.specs.Decimal.{digits, decimal}

-- ds are the digits of x, wherever there is room for them
abbrev Same : ℕ → List ℕ → Type 0
Same x ds = (k : ℕ) → x < 10 ^ (k + 1) → ds ≡ digits k x

same_one : (x : ℕ) → x < 10 → Same x ((48 + x) ∷ [])
unfolding digits
same_one x h zero b = refl
same_one x h (suc k) b = sym (pick_true _ _ _ (lt-ltb x 10 h))

same_more : (x : ℕ) (ds : List ℕ) → 10 ≤ x → Same (x / 10) ds → Same x (ds ++ ((48 + x % 10) ∷ []))
unfolding digits
same_more x ds h s zero b = absurd (omega (arith, pow-suc 10 0, pow-zero 10))
same_more x ds h s (suc k) b =
    let n : suc k + 1 ≡ suc (k + 1) = add-one (suc k) ∙ ap suc (sym (add-one k)) in
    let m : x < 10 ^ (k + 1) * 10 = subst (λ (y : ℕ). x < y) (ap (λ (y : ℕ). 10 ^ y) n ∙ pow-suc 10 (k + 1)) b in
    ap (λ (l : List ℕ). l ++ ((48 + x % 10) ∷ [])) (s k (omega arith)) ∙ sym (pick_false _ _ _ (le-ltb x 10 h))

-- a 64-bit number has at most twenty digits
pub decimal_is : (x : ℕ) → x < 2 ^ 64 → fmt.decimal x ≡ decimal x
unfolding decimal
decimal_is x h = decimal_by_steps Same same_one same_more x h 19 (omega arith)
