use mathlib.Core.Path.{◌≡◌, refl, ap, ◌∙◌}
use Prim.Native.Nat.{ℕ, ◌/◌}
use native.Mathlib.Omega.{arith}
use lib.ListN.{length, length-set}
use lib.Seq.{sets}
use Rattle.lists.specs.Below.{table}
use Rattle.numerals.specs.Hex.{pair_at, hex_bytes}
use Rattle.numerals.proofs.Hexed.{pair_digit, pair_low, pair_byte, hex_turn}
use Rattle.numerals.proofs.put_hex.Goals as goal

pub loop-i-init : goal.loop-i-init
unfolding table
loop-i-init c = (refl, refl)

pub overflow_mul-out : goal.overflow_mul-out
overflow_mul-out c =
    omega (arith, pair_low c.args.text.now _ c.loop-i.i 0 _ c.as_chunks.ensures.front (omega arith) (omega arith) c.hex_value.ensures _ c.unwrap_or.ensures)

pub overflow_add-out : goal.overflow_add-out
overflow_add-out c =
    let l = c.args.text.now in
    let i = c.loop-i.i in
    let high = pair_low l _ i 0 _ c.as_chunks.ensures.front (omega arith) (omega arith) c.hex_value.ensures _ c.unwrap_or.ensures in
    let low = pair_low l _ i 1 _ c.as_chunks.ensures.front (omega arith) (omega arith) c.hex_value-in-loop-i.ensures _ c.unwrap_or-in-loop-i.ensures in
    omega arith

pub loop-i-preserved : goal.loop-i-preserved
loop-i-preserved c =
    let l = c.args.text.now in
    let i = c.loop-i.i in
    let high = pair_digit l _ i 0 _ c.as_chunks.ensures.front (omega arith) (omega arith) c.hex_value.ensures in
    let low = pair_digit l _ i 1 _ c.as_chunks.ensures.front (omega arith) (omega arith) c.hex_value-in-loop-i.ensures in
    (hex_turn c.args.out.now l i _ c.loop-i.invariant.0 (pair_byte l i _ _ _ _ high low c.unwrap_or.ensures c.unwrap_or-in-loop-i.ensures), simp length-set c.loop-i.invariant.1)

pub returns : goal.returns
unfolding hex_bytes
returns c =
    let e : c.loop-i.i ≡ length c.args.text.now / 2 = omega arith in
    c.loop-i.invariant.0 ∙ ap (λ (k : ℕ). sets c.args.out.now 0 (table (pair_at c.args.text.now) k)) e
