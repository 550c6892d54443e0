-- Demand 2: "Start gives document 01's fresh state. From a well-formed state, each event's answer, next state and memory are those of the rules in document
-- 01, taken from the TrustVisor report and, for SHA-1, from FIPS 180-4. An accepted manifest, read and written again, gives the same bytes; fields written
-- and read again are the same fields."
--
-- In plain words: the program does exactly what the rules on paper say, for every event and not only for those that somebody tried: the same answer, the
-- same books, the same bytes in memory. After each event the books are still in order, so the promise holds for the next event too, for as long as the
-- machine runs. And a codeblock's description says the same thing whether you look at its bytes or at its fields: there is no second way to write it.
use Rattle.std.specs.Prelude.{◌≡◌}
use Rattle.sha_1.specs.Sha1.{sha1}
use Rattle.sha_1.specs.contracts.hash as hash
use Rattle.round.specs.Round.{ReadThenWritten, WrittenThenRead}
use Rattle.start.specs.Start.{start_of}
use Rattle.start.specs.Promise.{Accepts}
use Rattle.start.specs.contracts.start as start
use Rattle.rules.specs.Act.{World, Out, step}
use Rattle.preserved.specs.Preserved.{Ask, Well, StaysWellFormed}
use borrow.Fn.World.{w₀}
use borrow.Fn.Read.{r_last}
use Rattle.promises.specs.Code.{told, Called, Says}

pub record AsTheRulesSay : Type 0 where
  -- "Start gives document 01's fresh state": the code gives what the definition gives, and that is well formed with any memory of its size
  pub started : Says start.ended (λ κs a z e. told ((start.clauses w₀.𝓛 w₀.𝓜.mem w₀.𝓡.run κs a).ensures tt z e) (r_last _)) (λ κs a z. z ≡ start_of a.0 a.1.0)
  pub fresh : Accepts
  -- "each event's answer, next state and memory are those of the rules": and the answer buffer, from every state
  pub stepped : (w : World) (x : Ask) (o : Out) → Called w x o → o ≡ step w.state w.memory x.event x.payload x.buffer
  -- "From a well-formed state": it stays so, event after event
  pub well : (w : World) (x : Ask) (o : Out) → Called w x o → Well w.state w.memory → Well o.state o.memory
  pub stays : StaysWellFormed
  -- "for SHA-1, from FIPS 180-4"
  pub hashed : Says hash.ended (λ κs a z e. told ((hash.clauses w₀.𝓛 w₀.𝓜.mem w₀.𝓡.run κs a).ensures tt z e) (r_last _)) (λ κs a z. z.bytes ≡ sha1 a.0.now)
  -- "An accepted manifest, read and written again, gives the same bytes; fields written and read again are the same fields"
  pub read_then_written : ReadThenWritten
  pub written_then_read : WrittenThenRead
