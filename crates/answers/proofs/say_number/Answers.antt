use lib.ListN.{length}
use Rattle.numerals.specs.Decimal.{decimal}
use Rattle.answers.proofs.Printing.{end_turn, line_long, put_long, decimal_long}
use native.Mathlib.Omega.{arith}
use Rattle.answers.proofs.say_number.Goals as goal

pub bounds-text-e : goal.bounds-text-e
bounds-text-e c =
    let s = c.args in
    omega (arith, c.put_decimal-e.ensures.1, decimal_long s.x, put_long c.put_bytes.new.memory (length s.word.now) (decimal s.x) c.put_decimal-e.ensures.0, put_long s.text.now 0 s.word.now c.put_bytes.ensures)

pub overflow_add-result : goal.overflow_add-result
overflow_add-result c =
    let s = c.args in
    omega (arith, c.put_decimal-e.ensures.1, decimal_long s.x)

pub returns : goal.returns
returns c =
    let s = c.args in
    (end_turn s.text.now s.word.now (decimal s.x) _ c.put_bytes.ensures c.put_decimal-e.ensures.0 c.put_decimal-e.ensures.1, line_long s.word.now (decimal s.x) _ c.put_decimal-e.ensures.1)
