-- A call that enters has passed each check.
use Prim.Native.Nat.{ℕ}
use native.Mathlib.Omega.{arith}
use mathlib.Core.Path.{◌≡◌, refl}
use mathlib.Core.Logic.{◌≢◌, ⊎_elim}
use mathlib.Core.Bool.{Bool, true, false}
use lib.Dec.{eqb}
use borrow.Author.Tests.{eqb-true}
use Rattle.lists.proofs.Logic.{or_cases}
use Rattle.state.specs.Face.{Face}
use Rattle.events.specs.declared.Answer.TheVariants as answer
use Rattle.events.specs.declared.Refusal.{Refusal}
use Rattle.rules.specs.Plan.{Plan, guard}
use Rattle.rules.specs.Tests.{unlooked}
use Rattle.rules.specs.Decide.{call_entry, call_rule}
use Rattle.rules.specs.Calls.{CallsChecked}

passed : (t : Bool) (n : Refusal) (f : Face) (p : Plan) (k : ℕ) → (guard t n f p).answer ≡ answer.Entered k → (t ≡ true) × (p.answer ≡ answer.Entered k)
unfolding guard
passed true n f p k h = (refl, h)
passed false n f p k h = let z : ◌≡◌ {A = ℕ} 0 1 = cc in absurd (omega arith)

-- a length that is not 0 is looked at
looked : (n : ℕ) (t : Bool) → unlooked n t ≡ true → n ≢ 0 → t ≡ true
looked n t h q = ⊎_elim (λ (e : eqb n 0 ≡ true). absurd (q (eqb-true n 0 e))) (λ (e : t ≡ true). e) (or_cases (eqb n 0) t h)

pub calls_checked : CallsChecked
unfolding call_rule call_entry
calls_checked f mark a i o k h =
    let s = passed _ _ f _ k h in
    let b = passed _ _ f _ k s.1 in
    let c = passed _ _ f _ k b.1 in
    let d = passed _ _ f _ k c.1 in
    let g = passed _ _ f _ k d.1 in
    record {
      input = record { range = looked _ _ b.0; page = looked _ _ d.0 };
      output = record { range = looked _ _ c.0; page = looked _ _ g.0 };
    }
