-- What two outcomes have in common that are both equal to a third.
use mathlib.Core.Path.{◌≡◌, refl, sym, ◌∙◌}
use mathlib.Core.List.{List}
use Prim.Native.Nat.{ℕ}
use Rattle.sha_1.specs.declared.Digest.{Digest}
use Rattle.rules.specs.Plan.{Plan}
use Rattle.touch.specs.declared.Stepped.{Stepped}
use Rattle.touch.specs.Carried.{Steps}
use Rattle.state.specs.declared.State.{State}
use Rattle.change.specs.declared.Change.{Change}
use Rattle.change.specs.Turns.{settled, Settles}

pub both : {A : Type 0} {x y z : A} → x ≡ z → y ≡ z → x ≡ y
both p q = p ∙ sym q

-- nothing is lent to be changed, and the contract names the result
pub result : {A W : Type 0} {z z' v : A} {w : W} → z ≡ v → z' ≡ v → (z ≡ z') × (w ≡ w)
result p q = (both p q, refl)

-- or a digest's bytes
pub digest : {W : Type 0} {z z' : Digest} {v : List ℕ} {w : W} → z.bytes ≡ v → z'.bytes ≡ v → (z ≡ z') × (w ≡ w)
digest p q = ((λ i. record { bytes = both p q i }), refl)

-- an event's answer and state, and the memory it leaves
pub stepped : {p : Plan} {payload : List ℕ} {pcrs : List (List Digest)} {m : List ℕ} {r r' : Stepped} {n n' : List ℕ} → Steps p payload pcrs m r n → Steps p payload pcrs m r' n' → (r ≡ r') × (n ≡ n')
stepped x y = ((λ i. record { answer = both x.answer y.answer i; state = both x.state y.state i }), both x.memory y.memory)

-- an event's answer, the state after its change, and the memory it leaves
pub settled_both : {p : Plan} {payload : List ℕ} {s : State} {m : List ℕ} {c c' : Change} {n n' : List ℕ} → Settles p payload s m c n → Settles p payload s m c' n' → ◌≡◌ {A = Stepped × List ℕ} (settled s c, n) (settled s c', n')
settled_both x y = let o = stepped x.steps y.steps in λ i. (o.0 i, o.1 i)
