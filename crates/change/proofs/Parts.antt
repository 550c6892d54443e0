-- The parts that a turn stores make the state after it.
use Rattle.std.specs.Prelude.{Some}
use Prim.Native.Nat.{ℕ, ◌<◌}
use native.Mathlib.Nat.{not-suc-le-zero}
use native.Mathlib.Omega.{arith}
use mathlib.Core.Path.{◌≡◌, refl, sym, ap, subst, ◌∙◌}
use mathlib.Core.List.{List, map}
use lib.ListN.{length, get_or, set}
use Rattle.geometry.specs.Geometry.{slot_count, most_pages}
use Rattle.fields.specs.Fields.{zero_fields}
use Rattle.painting.specs.Painting.{RunsFit, painted_runs}
use Rattle.rules.specs.Tests.{given}
use Rattle.state.specs.declared.Card.{Card}
use Rattle.state.specs.declared.State.{State}
use Rattle.state.specs.declared.Mode.TheVariants.{Legacy}
use Rattle.state.specs.declared.Slot.{Slot}
use Rattle.state.specs.Zero.{no_card, no_slot, zero_slot, zero_running}
use Rattle.state.specs.Face.{card_of}
use Rattle.state.proofs.Faces.{card_at_lem}
use Rattle.change.specs.declared.Turn.{Turn}
use Rattle.change.specs.declared.Turn.TheVariants.{Kept, Enters, Leaves, Frees, Extends, Enrolls}
use Rattle.change.specs.Turns.{changed_by, fresh_slot, with_pcr, Fits}
use Rattle.change.specs.Parts.{steering, placing, seating, Seats, seat_stored, mode_stored}
use Rattle.change.proofs.Given.{given_painted}

-- no run, no other owner
pub none_painted : (o : List ℕ) → painted_runs o zero_fields.runs 0 zero_fields.r ≡ o
unfolding painted_runs
none_painted o = refl

-- the owners that a turn leaves
module _ (o : List ℕ) (long : length o ≡ most_pages) where
  pub open_painted : (l : List Slot) (k : ℕ) → RunsFit (get_or l k no_slot).card.fields
      → painted_runs o (get_or l k no_slot).card.fields.runs 0 (get_or l k no_slot).card.fields.r ≡ given o (get_or (map card_of l) k no_card).fields 0
  open_painted l k f = given_painted o (get_or l k no_slot).card.fields 0 long f.fits ∙ ap (λ (y : Card). given o y.fields 0) (sym (card_at_lem l k))

pub by_parts : (s : State) (t : Turn) → length s.owner ≡ most_pages → Fits s t → mode_stored (seat_stored s t) (steering t) ≡ changed_by s t
by_parts s Kept l f = refl
by_parts s (Enters y) l f = refl
by_parts s (Leaves y) l f = refl
by_parts s (Frees k) l f = ap (λ (o : List ℕ). record { pages = s.pages; kept = s.kept; owner = o; slots = set s.slots k zero_slot; mode = Legacy; running = zero_running }) (open_painted s.owner l s.slots k f.1)
by_parts s (Extends k i d) l f = ap (λ (o : List ℕ). record { pages = s.pages; kept = s.kept; owner = o; slots = (with_pcr s k i d).slots; mode = s.mode; running = s.running }) (none_painted s.owner)
by_parts s (Enrolls k mark x d) l f = ap (λ (o : List ℕ). record { pages = s.pages; kept = s.kept; owner = o; slots = set s.slots k (fresh_slot mark x d); mode = s.mode; running = s.running }) (given_painted s.owner x _ l f.1.fits)

pub no_runs : RunsFit zero_fields
no_runs = record { few = omega arith; fits = λ i l. absurd (not-suc-le-zero l) }

-- the slot is there, what is asked of it holds, and the runs' pages are there
module _ (s : State) where
  pub place_fits : (t : Turn) → Fits s t → (k : ℕ) → placing t ≡ Some k → k < slot_count
  place_fits Kept f k e = cc
  place_fits (Enters y) f k e = cc
  place_fits (Leaves y) f k e = cc
  place_fits (Frees j) f k e = let q : j ≡ k = cc in omega (arith, f.0)
  place_fits (Extends j i d) f k e = let q : j ≡ k = cc in omega (arith, f.0)
  place_fits (Enrolls j mark x d) f k e = let q : j ≡ k = cc in omega (arith, f.0)

  pub seats : (t : Turn) → Fits s t → Seats t
  seats Kept f = tt
  seats (Enters y) f = tt
  seats (Leaves y) f = tt
  seats (Frees k) f = tt
  seats (Extends k i d) f = f.1
  seats (Enrolls k mark x d) f = f.0

  pub seat_fits : (t : Turn) → Fits s t → (k : ℕ) → placing t ≡ Some k → RunsFit (seating (get_or s.slots k no_slot) t).fields
  seat_fits Kept f k e = no_runs
  seat_fits (Enters y) f k e = no_runs
  seat_fits (Leaves y) f k e = no_runs
  seat_fits (Frees j) f k e = let q : j ≡ k = cc in subst (λ (n : ℕ). RunsFit (get_or s.slots n no_slot).card.fields) q f.1
  seat_fits (Extends j i d) f k e = no_runs
  seat_fits (Enrolls j mark x d) f k e = f.1
