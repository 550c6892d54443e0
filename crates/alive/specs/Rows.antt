-- A table of answers: what the rules give beside what is claimed.
use Rattle.std.specs.Prelude.{ℕ, ◌*◌, ◌≡◌, List, [], ◌∷◌}
use Rattle.geometry.specs.Geometry.{page_size}
use Rattle.manifest.specs.declared.Reading.{Reading}
use Rattle.state.specs.declared.State.{State}
use Rattle.state.specs.Face.{face_of}
use Rattle.wellformed.specs.WellFormed.{well_formed}
use Rattle.events.specs.declared.Event.{Event}
use Rattle.events.specs.declared.Answer.{Answer}
use Rattle.rules.specs.Decide.{decide}

-- what the rules answer on a state with its memory: room bytes in the buffer, size bytes of payload and what was read from it
unfoldable pub answered : State → ℕ → ℕ → Reading → Event → Answer
answered s room size x e = (decide (face_of s) (well_formed s (s.pages * page_size)) room size x e).answer

pub record Row : Type 0 where
  pub gives : Answer
  pub says : Answer

-- every row is as claimed
abbrev pub Holds : List Row → Type 0
Holds [] = Unit {0}
Holds (x ∷ xs) = (x.gives ≡ x.says) × Holds xs
