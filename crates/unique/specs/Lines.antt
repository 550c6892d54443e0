-- One outcome for each input: the line program. Exceptions: what `hear` and `serve` leave in the payload's room, and `serve` in the output behind its text, is
-- scratch; answers, state, memory, buffer and text are one.
use Rattle.numerals.specs.contracts.place_of as numerals_place_of
use Rattle.numerals.specs.contracts.number as numerals_number
use Rattle.numerals.specs.contracts.is_hex as numerals_is_hex
use Rattle.numerals.specs.contracts.put_hex as numerals_put_hex
use Rattle.numerals.specs.contracts.put_pairs as numerals_put_pairs
use Rattle.numerals.specs.contracts.put_decimal as numerals_put_decimal
use Rattle.lines.specs.contracts.read_line as lines_read_line
use Rattle.gather.specs.contracts.line_end as gather_line_end
use Rattle.gather.specs.contracts.carry as gather_carry
use Rattle.gather.specs.contracts.received as gather_received
use Rattle.answers.specs.contracts.say as answers_say
use Rattle.desk.specs.contracts.hear as desk_hear
use Rattle.desk.specs.contracts.serve as desk_serve
use Rattle.desk.specs.Served.{standing_of}
use Rattle.std.specs.Prelude.{take}
use Rattle.decide.specs.Allowed.{out_of}
use borrow.Fn.World.{w₀}
use borrow.Fn.Read.{r_last, r_fact}
use Rattle.unique.specs.One.{OneOutcome, OneView, told}

pub record Lines : Type 0 where
  pub numerals_place_of_one : OneOutcome numerals_place_of.ended (λ κs a z e. told ((numerals_place_of.clauses w₀.𝓛 w₀.𝓜.mem w₀.𝓡.run κs a).ensures tt z e) (r_last _))
  pub numerals_number_one : OneOutcome numerals_number.ended (λ κs a z e. told ((numerals_number.clauses w₀.𝓛 w₀.𝓜.mem w₀.𝓡.run κs a).ensures tt z e) (r_last _))
  pub numerals_is_hex_one : OneOutcome numerals_is_hex.ended (λ κs a z e. told ((numerals_is_hex.clauses w₀.𝓛 w₀.𝓜.mem w₀.𝓡.run κs a).ensures tt z e) (r_last _))
  pub numerals_put_hex_one : OneOutcome numerals_put_hex.ended (λ κs a z e. told ((numerals_put_hex.clauses w₀.𝓛 w₀.𝓜.mem w₀.𝓡.run κs a).ensures tt z e) (r_last _))
  pub numerals_put_pairs_one : OneOutcome numerals_put_pairs.ended (λ κs a z e. told ((numerals_put_pairs.clauses w₀.𝓛 w₀.𝓜.mem w₀.𝓡.run κs a).ensures tt z e) (r_last _))
  pub numerals_put_decimal_one : OneOutcome numerals_put_decimal.ended (λ κs a z e. told ((numerals_put_decimal.clauses w₀.𝓛 w₀.𝓜.mem w₀.𝓡.run κs a).ensures tt z e) (r_last _))
  pub lines_read_line_one : OneOutcome lines_read_line.ended (λ κs a z e. told ((lines_read_line.clauses w₀.𝓛 w₀.𝓜.mem w₀.𝓡.run κs a).ensures tt z e) (r_last _))
  pub gather_line_end_one : OneOutcome gather_line_end.ended (λ κs a z e. told ((gather_line_end.clauses w₀.𝓛 w₀.𝓜.mem w₀.𝓡.run κs a).ensures tt z e) (r_last _))
  pub gather_carry_one : OneOutcome gather_carry.ended (λ κs a z e. told ((gather_carry.clauses w₀.𝓛 w₀.𝓜.mem w₀.𝓡.run κs a).ensures tt z e) (r_fact _ _ (r_last _)))
  pub gather_received_one : OneOutcome gather_received.ended (λ κs a z e. told ((gather_received.clauses w₀.𝓛 w₀.𝓜.mem w₀.𝓡.run κs a).ensures tt z e) (r_fact _ _ (r_last _)))
  pub answers_say_one : OneOutcome answers_say.ended (λ κs a z e. told ((answers_say.clauses w₀.𝓛 w₀.𝓜.mem w₀.𝓡.run κs a).ensures tt z e) (r_last _))
  pub desk_hear_one : OneView desk_hear.ended (λ κs a z e. told ((desk_hear.clauses w₀.𝓛 w₀.𝓜.mem w₀.𝓡.run κs a).ensures tt z e) (r_last _)) (λ κs a z w. out_of z w.1.1.1.0 w.1.1.1.1.0)
  pub desk_serve_one : OneView desk_serve.ended (λ κs a z e. told ((desk_serve.clauses w₀.𝓛 w₀.𝓜.mem w₀.𝓡.run κs a).ensures tt z e) (r_fact _ _ (r_last _))) (λ κs a z w. standing_of z w.1.1.1.0 w.1.1.1.1.0 (take z.used w.1.1.1.1.1.0))
