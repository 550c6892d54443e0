use mathlib.Core.Path.{◌≡◌}
use Prim.Native.Nat.{◌+◌, ◌*◌}
use lib.ListN.{length}
use Rattle.numerals.specs.Hex.{pairs}
use Rattle.answers.proofs.Printing.{end_turn, line_long, pairs_long}
use native.Mathlib.Omega.{arith}
use Rattle.answers.proofs.say_bytes.Goals as goal

pub returns : goal.returns
returns c =
    let s = c.args in
    let e : length s.word.now + length s.bytes.now * 2 ≡ length s.word.now + length (pairs s.bytes.now) = omega (arith, pairs_long s.bytes.now) in
    (end_turn s.text.now s.word.now (pairs s.bytes.now) _ c.put_bytes.ensures c.put_pairs.ensures e, line_long s.word.now (pairs s.bytes.now) _ e)
