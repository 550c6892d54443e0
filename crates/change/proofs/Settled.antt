-- A plan carried out by a change: the ends that all events share.
use Prim.Native.Nat.{ℕ}
use mathlib.Core.Path.{◌≡◌, sym, subst}
use mathlib.Core.List.{List}
use lib.ListN.{length}
use Rattle.geometry.specs.Geometry.{slot_count}
use Rattle.state.specs.declared.Mode.{Mode}
use Rattle.state.specs.declared.State.{State}
use Rattle.state.specs.Face.{face_of}
use Rattle.events.specs.declared.Answer.{Answer}
use Rattle.rules.specs.Plan.{Fetch, keep, same, Plan, still}
use Rattle.touch.proofs.Plans.{still_steps}
use Rattle.change.specs.declared.Change.{Change}
use Rattle.change.specs.declared.Turn.TheVariants.{Kept}
use Rattle.change.specs.Turns.{turn_of, Settles}

-- a plan that leaves state and memory is carried out by leaving them
pub still_settles : (s : State) → length s.slots ≡ slot_count → (x : Fetch) (a : Answer) (payload m : List ℕ) (c : Change) → c ≡ turn_of a Kept
    → Settles (still (face_of s) x keep same a) payload s m c m
still_settles s e x a payload m c q =
    subst (λ (z : Change). Settles (still (face_of s) x keep same a) payload s m z m) (sym q)
    (record { steps = still_steps s e x a payload m; fits = tt })

-- the same plan, told otherwise
pub to_plan : {p q : Plan} → p ≡ q → (payload : List ℕ) (s : State) (m : List ℕ) {c : Change} {m' : List ℕ}
    → Settles p payload s m c m' → Settles q payload s m c m'
to_plan e payload s m {c} {m'} h = subst (λ (z : Plan). Settles z payload s m c m') e h

-- the mode that the state has is the one that was matched
pub in_mode_lem : (P : Mode → Plan) (payload : List ℕ) (s : State) (m : List ℕ) {c : Change} {m' : List ℕ} {x y : Mode}
    → x ≡ y → Settles (P y) payload s m c m' → Settles (P x) payload s m c m'
in_mode_lem P payload s m {c} {m'} e h = subst (λ (z : Mode). Settles (P z) payload s m c m') (sym e) h
