-- An accepted answer fills the first n bytes of the buffer.
use Prim.Native.Nat.{ℕ, ◌+◌, ◌≤◌, ◌<◌}
use native.Mathlib.Omega.{arith}
use mathlib.Core.Path.{◌≡◌, refl, ap, ◌∙◌}
use mathlib.Core.Bool.{true}
use mathlib.Core.List.{List, [], ◌++◌}
use lib.ListN.{length, get_or, drop}
use lib.Seq.{sets, sets-eq}
use Rattle.lists.specs.Bytes.{part}
use Rattle.lists.proofs.Parts.{part_long}
use Rattle.geometry.specs.Geometry.{slot_count, pcr_count, digest_size, is_range}
use Rattle.sha_1.specs.declared.Digest.{Digest}
use Rattle.manifest.specs.Reader.{read_manifest}
use Rattle.state.specs.declared.Mode.{Mode}
use Rattle.state.specs.declared.Mode.TheVariants.{Legacy, Secure}
use Rattle.state.specs.declared.State.{State}
use Rattle.state.specs.Zero.{no_pcr, no_slot}
use Rattle.state.specs.Face.{face_of, pcrs_of}
use Rattle.state.proofs.Shape.{StateShape, DigestShape, each_in, slot_in_lem}
use Rattle.state.proofs.Faces.{pcrs_at}
use Rattle.wellformed.specs.WellFormed.{well_formed, mode_right}
use Rattle.wellformed.proofs.Facts.{right_of}
use Rattle.wellformed.proofs.Runs.{secure_hold}
use Rattle.wellformed.proofs.States.{well_state, well_long, state_face}
use Rattle.events.specs.declared.Event.{Event}
use Rattle.events.specs.declared.Event.TheVariants.{Register, Unregister, Call, Return, Jump, Read, Write, DeviceRead, DeviceWrite, Extend, PcrRead}
use Rattle.rules.specs.Plan.{Plan}
use Rattle.rules.specs.Act.{fetched, act, plan_of, step}
use Rattle.rules.proofs.Ranges.{range_fits}
use Rattle.kept.specs.Buffers.{asked, wanted, Fills, AnswersFill}
use Rattle.kept.proofs.Outcome.{fetch_for, Had, Outcome, refused, accepted, Accepts, passed}
use Rattle.kept.proofs.Refused.{planned, zero_accepts}

-- what is fetched is what is wanted
fetch_wanted : (mode : Mode) (e : Event) (pcrs : List (List Digest)) (m buffer : List ℕ) → fetched (fetch_for mode e) pcrs m buffer ≡ sets buffer 0 (wanted mode pcrs m e)
fetch_wanted mode (Register mark) pcrs m buffer = refl
fetch_wanted mode (Unregister mark k) pcrs m buffer = refl
fetch_wanted mode (Call mark a i o) pcrs m buffer = refl
fetch_wanted mode Return pcrs m buffer = refl
fetch_wanted mode (Jump a) pcrs m buffer = refl
fetch_wanted mode (Read a n) pcrs m buffer = refl
fetch_wanted mode (Write a) pcrs m buffer = refl
fetch_wanted mode (DeviceRead a n) pcrs m buffer = refl
fetch_wanted mode (DeviceWrite a) pcrs m buffer = refl
fetch_wanted mode (Extend i source a n) pcrs m buffer = refl
fetch_wanted Legacy (PcrRead i) pcrs m buffer = refl
fetch_wanted (Secure k) (PcrRead i) pcrs m buffer = refl

-- a µPCR has twenty bytes
pub pcr_long : (s : State) → StateShape s → (k i : ℕ) → k < slot_count → i < pcr_count → length (get_or (get_or (pcrs_of s) k []) i no_pcr).bytes ≡ digest_size
pcr_long s h k i l b =
    rw (pcrs_at s.slots k)
    (let x = slot_in_lem s h k l in (each_in DigestShape no_pcr (get_or s.slots k no_slot).pcrs x.pcrs i (rw x.pcrs_long b)).long)

-- bytes put at the start of a buffer
fill : (bs buffer : List ℕ) (n : ℕ) → length bs ≡ n → n ≤ length buffer → sets buffer 0 bs ≡ bs ++ drop n buffer
fill bs buffer n q l =
    let e : 0 + length bs ≡ n = omega arith in
    sets-eq bs buffer 0 (omega arith) ∙ ap (λ (k : ℕ). bs ++ drop k buffer) e

module _ (s : State) (shape : StateShape s) (m : List ℕ) (w : well_formed s (length m) ≡ true) where
  range_long : (a n : ℕ) → is_range s.pages a n ≡ true → length (part m a n) ≡ n
  range_long a n h = part_long m a n (omega (arith, range_fits s.pages a n h, well_long s (length m) w))

  -- there are as many bytes as are asked for
  wanted_long : (mode : Mode) → mode_right (face_of s) mode ≡ true → (e : Event) → Had (face_of s) mode e → length (wanted mode (pcrs_of s) m e) ≡ asked e
  wanted_long mode r (Register mark) h = refl
  wanted_long mode r (Unregister mark k) h = refl
  wanted_long mode r (Call mark a i o) h = refl
  wanted_long mode r Return h = refl
  wanted_long mode r (Jump a) h = refl
  wanted_long mode r (Read a n) h = range_long a n h
  wanted_long mode r (Write a) h = refl
  wanted_long mode r (DeviceRead a n) h = range_long a n h
  wanted_long mode r (DeviceWrite a) h = refl
  wanted_long mode r (Extend i source a n) h = refl
  wanted_long Legacy r (PcrRead i) h = absurd h
  wanted_long (Secure k) r (PcrRead i) h = pcr_long s shape k i (secure_hold (face_of s) k r).below h

  filled : (e : Event) (buffer payload : List ℕ) (p : Plan) → Accepts p.answer → Outcome (face_of s) s.mode (length buffer) e p → Fills s m e buffer (act p payload buffer (pcrs_of s) m)
  filled e buffer payload p t (refused r a q) = absurd (rw q at t)
  filled e buffer payload p t (accepted _ n l q h) =
      let long = wanted_long s.mode (right_of (face_of s) (state_face s (well_state s (length m) w))).mode e h in
      record {
        count = n;
        fits = l;
        long = long;
        buffer = rw q (fetch_wanted s.mode e (pcrs_of s) m buffer ∙ fill (wanted s.mode (pcrs_of s) m e) buffer (asked e) long l);
      }

pub answers_fill : AnswersFill
unfolding step
answers_fill s m e payload buffer shape h =
    let p = plan_of s (length m) (length buffer) payload e in
    let o = planned s (length m) payload (length buffer) e in
    let t = zero_accepts p o h in
    filled s shape m (passed (face_of s) (well_formed s (length m)) (length buffer) (length payload) (read_manifest payload) e t) e buffer payload p t o
