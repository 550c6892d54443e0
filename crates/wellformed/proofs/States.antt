-- What well-formedness says of a whole state: its face, its µPCRs and the memory's length.
use Prim.Native.Nat.{ℕ, ◌<◌}
use mathlib.Core.Path.{◌≡◌}
use mathlib.Core.Bool.{true, false}
use mathlib.Core.List.{List, []}
use lib.ListN.{get_or}
use borrow.Author.Tests.{eqb-true, eq-eqb}
use Rattle.lists.proofs.Logic.{and_l, and_r, both, or_left, or_right, decided}
use Rattle.lists.proofs.All.{all_at, all_of}
use Rattle.geometry.specs.Geometry.{slot_count, start_of}
use Rattle.sha_1.specs.declared.Digest.{Digest}
use Rattle.state.specs.declared.State.{State}
use Rattle.state.specs.Face.{Face, face_of, pcrs_of, card_at}
use Rattle.wellformed.specs.WellFormed.{memory_right, pcrs_zero, pcrs_right_at, pcrs_right, face_right, state_right, well_formed}

-- "free slots are zero": the µPCRs too
pub pcrs_free : (f : Face) (pcrs : List (List Digest)) → pcrs_right f pcrs ≡ true → (k : ℕ) → k < slot_count → (card_at f k).registered ≡ false → pcrs_zero (get_or pcrs k []) ≡ true
unfolding pcrs_right
pcrs_free f pcrs h k l e = let t = all_at (pcrs_right_at f pcrs) slot_count h k l in rw e at t

pub of_pcrs : (f : Face) (pcrs : List (List Digest)) → ((k : ℕ) → k < slot_count → (card_at f k).registered ≡ false → pcrs_zero (get_or pcrs k []) ≡ true) → pcrs_right f pcrs ≡ true
unfolding pcrs_right
of_pcrs f pcrs h =
    all_of (pcrs_right_at f pcrs) slot_count
    (λ k l. decided (card_at f k).registered
    (λ e. or_left (card_at f k).registered _ e)
    (λ e. or_right (card_at f k).registered (pcrs_zero (get_or pcrs k [])) (h k l e)))

pub state_face : (s : State) → state_right s ≡ true → face_right (face_of s) ≡ true
unfolding state_right
state_face s h = and_l (face_right (face_of s)) _ h

pub state_pcrs : (s : State) → state_right s ≡ true → pcrs_right (face_of s) (pcrs_of s) ≡ true
unfolding state_right
state_pcrs s h = and_r (face_right (face_of s)) _ h

pub of_state : (s : State) → face_right (face_of s) ≡ true → pcrs_right (face_of s) (pcrs_of s) ≡ true → state_right s ≡ true
unfolding state_right
of_state s a b = both (face_right (face_of s)) (pcrs_right (face_of s) (pcrs_of s)) a b

pub well_state : (s : State) (n : ℕ) → well_formed s n ≡ true → state_right s ≡ true
unfolding well_formed
well_state s n h = and_l (state_right s) _ h

-- "memory has the right length"
pub well_long : (s : State) (n : ℕ) → well_formed s n ≡ true → n ≡ start_of s.pages
unfolding well_formed
well_long s n h = eqb-true n (start_of s.pages) (and_r (state_right s) _ h)

pub of_well : (s : State) (n : ℕ) → state_right s ≡ true → n ≡ start_of s.pages → well_formed s n ≡ true
unfolding well_formed
of_well s n a b = both (state_right s) (memory_right (face_of s) n) a (eq-eqb n (start_of s.pages) b)
