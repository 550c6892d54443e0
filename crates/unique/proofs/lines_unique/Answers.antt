-- `unique::lines_unique` keeps its promise: each contract is an equation with a definition, and what is known whole is known part by part.
use Prim.Native.Nat.{ℕ}
use lib.Seq.{sets}
use mathlib.Core.Path.{refl, sym, ap, ◌∙◌}
use Rattle.lists.specs.Bytes.{part}
use Rattle.unique.proofs.Same.{both, result}
use Rattle.unique.proofs.lines_unique.Goals as goal

pub returns : goal.returns
returns c = record {
  numerals_place_of_one = λ κs a z z' w w'. result;
  numerals_number_one = λ κs a z z' w w'. result;
  numerals_is_hex_one = λ κs a z z' w w'. result;
  numerals_put_hex_one = λ κs a z z' w w' p q. (refl, λ i. (tt, (both p q i, tt)));
  numerals_put_pairs_one = λ κs a z z' w w' p q. (refl, λ i. (tt, (both p q i, (tt, tt))));
  numerals_put_decimal_one = λ κs a z z' w w' p q. (both p.1 q.1, λ i. (both p.0 q.0 i, (tt, (tt, tt))));
  lines_read_line_one = λ κs a z z' w w' p q. (both p.0 q.0, λ i. (tt, (both p.1 q.1 i, tt)));
  gather_line_end_one = λ κs a z z' w w'. result;
  gather_carry_one = λ κs a z z' w w' p q. let o = both p.0.0 q.0.0 in (o, λ i. ((p.0.1 ∙ ap (λ (r : ℕ). sets a.0.now 0 (part a.0.now a.1.0 r)) o ∙ sym q.0.1) i, (tt, (tt, tt))));
  gather_received_one = λ κs a z z' w w' p q. (both p.0.0 q.0.0, λ i. (both p.0.1 q.0.1 i, (tt, (tt, tt))));
  answers_say_one = λ κs a z z' w w' p q. (both p.1 q.1, λ i. (tt, (tt, (both p.0 q.0 i, tt))));
  desk_hear_one = λ κs a z z' w w' p q. both p q;
  desk_serve_one = λ κs a z z' w w' p q. both p.0 q.0;
}
