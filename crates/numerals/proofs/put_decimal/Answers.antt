use mathlib.Core.Path.{◌≡◌, ap, ◌∙◌}
use Prim.Native.Nat.{ℕ, ◌+◌}
use mathlib.Core.List.{List}
use native.Mathlib.Omega.{arith}
use lib.ListN.{length}
use lib.Seq.{sets}
use Rattle.numerals.specs.Decimal.{decimal}
use Rattle.numerals.proofs.Writing.{decimal_is}
use Rattle.numerals.proofs.put_decimal.Goals as goal

pub returns : goal.returns
returns c =
    let d : c.as_bytes-digits.result.now ≡ decimal c.args.x = c.as_bytes-digits.ensures.value ∙ (c.format.ensures.text ∙ decimal_is c.args.x (omega arith)) in
    (c.put_bytes.ensures ∙ ap (λ (l : List ℕ). sets c.args.out.now c.args.at l) d, ap (λ (l : List ℕ). c.args.at + length l) d)
