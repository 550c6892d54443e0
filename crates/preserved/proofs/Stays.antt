-- Every step keeps well-formedness, and so does every list of events.
use Prim.Native.Nat.{ℕ}
use mathlib.Core.Path.{◌≡◌, refl, sym, ap, subst, ◌∙◌}
use mathlib.Core.Bool.{true}
use mathlib.Core.List.{List, [], ◌∷◌}
use lib.ListN.{length, length-map}
use lib.Seq.{length-sets}
use Rattle.lists.specs.Bytes.{part}
use Rattle.lists.proofs.Pages.{wipe_long}
use Rattle.lists.proofs.Tables.{table_long}
use Rattle.geometry.specs.Geometry.{page_size, slot_count, start_of}
use Rattle.sha_1.specs.declared.Digest.{Digest}
use Rattle.manifest.specs.Reader.{read_manifest}
use Rattle.manifest.proofs.Accepts.{read_keeps}
use Rattle.state.specs.declared.State.{State}
use Rattle.state.specs.Face.{Face, card_of, pcrs_in, face_of, pcrs_of, slot_of, state_of}
use Rattle.state.proofs.Faces.{face_back, pcrs_back}
use Rattle.wellformed.specs.WellFormed.{pcrs_right, face_right, well_formed}
use Rattle.wellformed.proofs.Facts.{Right, right_of, of_right}
use Rattle.wellformed.proofs.States.{state_face, state_pcrs, of_state, well_state, well_long, of_well}
use Rattle.events.specs.declared.Event.{Event}
use Rattle.rules.specs.Plan.{Store, keep, put, move, clean, Plan}
use Rattle.rules.specs.Act.{sealed, stored, act, plan_of, step}
use Rattle.preserved.specs.Preserved.{Well, after_one, StaysWellFormed}
use Rattle.preserved.proofs.Plans.{Good, seal_right, seal_long, decide_good}

-- memory keeps its length
pub stored_long : (x : Store) (payload m : List ℕ) → length (stored x payload m) ≡ length m
stored_long keep payload m = refl
stored_long (put a) payload m = length-sets m a payload
stored_long (move a b n) payload m = length-sets m b (part m a n)
stored_long (clean pages) payload m = wipe_long page_size pages m

module _ (s : State) (m : List ℕ) (w : Well s m) where
  pub face_right_lem : Right (face_of s)
  face_right_lem = right_of (face_of s) (state_face s (well_state s (length m) w.right))

  pub eight_cards : length (face_of s).cards ≡ slot_count
  eight_cards = length-map s.slots card_of ∙ w.eight

  eight_pcrs : length (pcrs_of s) ≡ slot_count
  eight_pcrs = length-map s.slots pcrs_in ∙ w.eight

  acts_well : (p : Plan) (payload buffer : List ℕ) → Good (face_of s) p → Well (act p payload buffer (pcrs_of s) m).state (act p payload buffer (pcrs_of s) m).memory
  unfolding state_of
  acts_well p payload buffer g =
      let pcrs = sealed p.seal payload m (pcrs_of s) in
      let t = state_of p.next pcrs in
      let e : face_of t ≡ p.next = face_back p.next pcrs (g.long ∙ eight_cards) in
      let q : pcrs_of t ≡ pcrs = pcrs_back p.next pcrs (seal_long p.seal payload m (pcrs_of s) ∙ eight_pcrs) in
      let a : face_right (face_of t) ≡ true = subst (λ (f : Face). face_right f ≡ true) (sym e) (of_right p.next g.right) in
      let b : pcrs_right p.next pcrs ≡ true = seal_right (face_of s) p.next (pcrs_of s) eight_pcrs (state_pcrs s (well_state s (length m) w.right)) p.seal payload m g.seals in
      let c : pcrs_right (face_of t) (pcrs_of t) ≡ true = subst (λ (f : Face). pcrs_right f (pcrs_of t) ≡ true) (sym e) (subst (λ (x : List (List Digest)). pcrs_right p.next x ≡ true) (sym q) b) in
      let n : length (stored p.store payload m) ≡ start_of t.pages = stored_long p.store payload m ∙ well_long s (length m) w.right ∙ ap start_of (sym g.pages) in
      record { eight = table_long (slot_of p.next.cards pcrs) slot_count; right = of_well t (length (stored p.store payload m)) (of_state t a c) n }

  -- what is planned
  pub plan_good : (room : ℕ) (payload : List ℕ) (e : Event) → Good (face_of s) (plan_of s (length m) room payload e)
  plan_good room payload e =
      decide_good (face_of s) face_right_lem eight_cards (well_formed s (length m)) room (length payload) (read_manifest payload) (read_keeps payload) e

  pub step_well : (e : Event) (payload buffer : List ℕ) → Well (step s m e payload buffer).state (step s m e payload buffer).memory
  unfolding step
  step_well e payload buffer =
      acts_well (plan_of s (length m) (length buffer) payload e) payload buffer (plan_good (length buffer) payload e)

  -- P and M stay
  pub step_pages : (e : Event) (payload buffer : List ℕ) → (step s m e payload buffer).state.pages ≡ s.pages
  unfolding step state_of
  step_pages e payload buffer = (plan_good (length buffer) payload e).pages

  pub step_kept : (e : Event) (payload buffer : List ℕ) → (step s m e payload buffer).state.kept ≡ s.kept
  unfolding step state_of
  step_kept e payload buffer = (plan_good (length buffer) payload e).kept

pub stays : StaysWellFormed
stays w [] h = h
stays w (x ∷ xs) h = stays (after_one w x) xs (step_well w.state w.memory h x.event x.payload x.buffer)
