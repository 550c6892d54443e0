-- "For each public function, every input has one possible result, state, memory and buffer under its contract, refusals too."
-- The contract is the function's own, as the toolchain has it: `F.ended` is its signature and `F.clauses` its clauses, and `told` is what a caller learns of a call of F by its
-- `ensures`.
use Rattle.std.specs.Prelude.{◌≡◌}
use contract.Lifetimes.{Lfts}
use denote.Triple.Entry.{Args, Res}
use denote.Triple.Clauses.{Ended, Lasts, AtExit, at_exit}
use base.Logic.{emp}
use borrow.Fn.World.{Pr, w₀}
use borrow.Fn.Read.{ReadAt, no_know}
use borrow.Fn.Claims.{AllOf}

module _ (T : Ended) where
  -- what a contract says of a call: of the arguments a, the result z and the parameters as they are left
  abbrev pub Says : Type 1
  Says = (κs : Lfts T.signature.lifetimes) → Args T.signature κs → Res T.signature κs → AtExit T κs → Type 0

  -- Two calls with the same arguments that both do what the contract says: the results z and z' are equal, and so are w and w', the last values of
  -- all that was lent to be changed.
  abbrev pub OneOutcome : Says → Type 0
  OneOutcome says =
      (κs : Lfts T.signature.lifetimes) (a : Args T.signature κs) (z z' : Res T.signature κs) (w w' : Lasts T κs a)
      → says κs a z (at_exit T κs a w) → says κs a z' (at_exit T κs a w') → (z ≡ z') × (w ≡ w')

  -- a part of an outcome
  abbrev pub View : Type 0 → Type 0
  View A = (κs : Lfts T.signature.lifetimes) (a : Args T.signature κs) → Res T.signature κs → Lasts T κs a → A

  -- the same of that part alone
  abbrev pub OneView : Says → {A : Type 0} → View A → Type 0
  OneView says see =
      (κs : Lfts T.signature.lifetimes) (a : Args T.signature κs) (z z' : Res T.signature κs) (w w' : Lasts T κs a)
      → says κs a z (at_exit T κs a w) → says κs a z' (at_exit T κs a w') → see κs a z w ≡ see κs a z' w'

-- what whoever has an assertion learns of it, by a reading of the toolchain's
abbrev pub told : (P : Pr w₀) → ReadAt w₀ (λ w. emp w.𝓤) no_know P → Type 0
told P reading = AllOf reading.tells
