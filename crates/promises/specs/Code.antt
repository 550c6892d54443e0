-- The code's end of the chain: what a call of `monitor::step` does by its own contract, as the toolchain has it.
--
-- The chain, once: a sentence of the demands is a statement about the rules' `step` (rules/specs/Act); the contract of `monitor::step` says that the
-- code leaves what `step` gives (monitor/src/lib.rt); the check proves that contract of the compiled function. So the sentence holds of the code:
-- `Called` is the contract, and each promise is stated of it.
use Rattle.std.specs.Prelude.{◌≡◌}
use contract.Lifetimes.{Lfts}
use denote.Triple.Entry.{Args, Res}
use denote.Triple.Clauses.{Ended, Lasts, AtExit, at_exit}
use base.Logic.{emp}
use borrow.Fn.World.{Pr, w₀}
use borrow.Fn.Read.{ReadAt, r_last, no_know}
use borrow.Fn.Claims.{AllOf}
use Rattle.rules.specs.Act.{World, Out}
use Rattle.preserved.specs.Preserved.{Ask}
use Rattle.decide.specs.Allowed.{out_of}
use Rattle.monitor.specs.contracts.step as code

-- what whoever has an assertion learns of it, by a reading of the toolchain's
abbrev pub told : (P : Pr w₀) → ReadAt w₀ (λ w. emp w.𝓤) no_know P → Type 0
told P reading = AllOf reading.tells

-- the code was called with this state, memory, event, payload and buffer, did what its contract says, and left o
pub record Called (w : World) (x : Ask) (o : Out) : Type 0 where
  pub lifetimes : Lfts code.signature.lifetimes
  pub arguments : Args code.signature lifetimes
  pub result : Res code.signature lifetimes
  pub lasts : Lasts code.ended lifetimes arguments
  pub event : arguments.0 ≡ x.event
  pub payload : arguments.1.0.now ≡ x.payload
  pub state : arguments.1.1.0 ≡ w.state
  pub memory : arguments.1.1.1.0.now ≡ w.memory
  pub buffer : arguments.1.1.1.1.0.now ≡ x.buffer
  pub does : told ((code.clauses w₀.𝓛 w₀.𝓜.mem w₀.𝓡.run lifetimes arguments).ensures tt result (at_exit code.ended lifetimes arguments lasts)) (r_last _)
  pub leaves : out_of result lasts.1.1.1.0 lasts.1.1.1.1.0 ≡ o

module _ (T : Ended) where
  -- a function that asks nothing of its caller; `asked` is its `requires`, as the toolchain has it
  abbrev pub AsksNothing : ((κs : Lfts T.signature.lifetimes) → Args T.signature κs → Type 0) → Type 0
  AsksNothing asked = (κs : Lfts T.signature.lifetimes) (a : Args T.signature κs) → asked κs a

  -- what a contract says of a call, of its arguments a and its result z; `learnt` is its `ensures`, as the toolchain has it
  abbrev pub Says :
      ((κs : Lfts T.signature.lifetimes) → Args T.signature κs → Res T.signature κs → AtExit T κs → Type 0)
      → ((κs : Lfts T.signature.lifetimes) → Args T.signature κs → Res T.signature κs → Type 0) → Type 0
  Says learnt claim =
      (κs : Lfts T.signature.lifetimes) (a : Args T.signature κs) (z : Res T.signature κs) (w : Lasts T κs a)
      → learnt κs a z (at_exit T κs a w) → claim κs a z
