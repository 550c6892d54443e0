-- The chain from a call of the code to the rules.
use Prim.Native.Nat.{ℕ}
use mathlib.Core.Path.{◌≡◌, refl, sym, ◌∙◌}
use mathlib.Core.List.{List, []}
use denote.Bor.{Bor}
use denote.MutBor.{MutBor}
use Rattle.rules.specs.Act.{World, Out, step}
use Rattle.preserved.specs.Preserved.{Ask}
use Rattle.promises.specs.Code.{Called}

pub chain : {w : World} {x : Ask} {o : Out} → Called w x o → o ≡ step w.state w.memory x.event x.payload x.buffer
chain c = sym c.leaves ∙ c.does ∙ (λ i. step (c.state i) (c.memory i) (c.event i) (c.payload i) (c.buffer i))

-- some reference to these bytes: a contract speaks of the bytes alone
abbrev lent : List ℕ → Bor (List ℕ)
lent bytes = record { ref_ptr = (0, 0); now = bytes }

abbrev lent_mut : List ℕ → MutBor (List ℕ)
lent_mut bytes = record { ref_ptr = (0, 0); ghost_name = 0; now = bytes }

-- and back: what the rules give is what the contract allows
pub called : (w : World) (x : Ask) → Called w x (step w.state w.memory x.event x.payload x.buffer)
called w x =
    let o : Out = step w.state w.memory x.event x.payload x.buffer in
    record {
      lifetimes = ([], ([], ([], tt)));
      arguments = (x.event, (lent x.payload, (w.state, (lent_mut w.memory, (lent_mut x.buffer, tt)))));
      result = record { answer = o.answer; state = o.state };
      lasts = (tt, (tt, (tt, (o.memory, (o.buffer, tt)))));
      event = refl;
      payload = refl;
      state = refl;
      memory = refl;
      buffer = refl;
      does = refl;
      leaves = refl;
    }
