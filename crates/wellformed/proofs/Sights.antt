-- What is seen of a state that is well formed, and of one that is not.
use Prim.Native.Nat.{ℕ}
use native.Mathlib.Omega.{arith}
use mathlib.Core.Path.{◌≡◌}
use mathlib.Core.Bool.{true, false}
use Rattle.std.specs.Prelude.{Some, None}
use Rattle.std.specs.Option.{is_some}
use Rattle.lists.proofs.Logic.{decided}
use Rattle.state.specs.declared.State.{State}
use Rattle.wellformed.specs.declared.Sight.{Sight}
use Rattle.wellformed.specs.WellFormed.{state_right}
use Rattle.wellformed.specs.Seen.{all_seen, seen_of}

module _ (s : State) (n p q : ℕ) where
  pub seen_none : state_right s ≡ false → None ≡ seen_of s n p q
  unfolding seen_of
  seen_none e = rw e

  pub seen_all : state_right s ≡ true → Some (all_seen s n p q) ≡ seen_of s n p q
  unfolding seen_of
  seen_all e = rw e

  -- and the other way round
  pub seen_wrong : None ≡ seen_of s n p q → state_right s ≡ false
  unfolding seen_of
  seen_wrong h =
      decided (state_right s)
      (λ e. let t : None ≡ Some (all_seen s n p q) = rw e at h in let z : ◌≡◌ {A = ℕ} 0 1 = cc in absurd (omega arith))
      (λ e. e)

  pub seen_so : (x : Sight) → Some x ≡ seen_of s n p q → (state_right s ≡ true) × (x ≡ all_seen s n p q)
  unfolding seen_of
  seen_so x h =
      decided (state_right s)
      (λ e. let t : Some x ≡ Some (all_seen s n p q) = rw e at h in (e, cc))
      (λ e. let t : Some x ≡ None = rw e at h in let z : ◌≡◌ {A = ℕ} 0 1 = cc in absurd (omega arith))

  -- something is seen where the state is well formed
  pub seen_right : is_some (seen_of s n p q) ≡ state_right s
  unfolding seen_of
  seen_right = decided (state_right s) (λ e. rw e) (λ e. rw e)
