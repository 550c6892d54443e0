-- What start promises: it accepts P and M in range, and then the state is well formed with any memory of 4,096·P bytes; it refuses all others.
use Rattle.std.specs.Prelude.{ℕ, ◌*◌, ◌≤◌, ◌<◌, ◌≡◌, true, Some, None}
use Rattle.geometry.specs.Geometry.{page_size, least_pages, most_pages}
use Rattle.state.specs.Zero.{zero_state}
use Rattle.wellformed.specs.WellFormed.{well_formed}
use Rattle.events.specs.declared.Refusal.TheVariants as refusal
use Rattle.start.specs.Start.{start_of}

-- "P pages, 2 to 1,024", "the top M pages, 1 to P−1"
abbrev pub InRange : ℕ → ℕ → Type 0
InRange p m = (least_pages ≤ p) × ((p ≤ most_pages) × ((1 ≤ m) × (m < p)))

abbrev pub Accepts : Type 0
Accepts = (p m : ℕ) → InRange p m → ((start_of p m).refusal ≡ None) × (well_formed (start_of p m).state (p * page_size) ≡ true)

abbrev pub Refuses : Type 0
Refuses = (p m : ℕ) → (InRange p m → ⊥) → start_of p m ≡ record { refusal = Some refusal.OutOfRange; state = zero_state }
