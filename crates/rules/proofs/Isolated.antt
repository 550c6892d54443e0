-- Isolation, proved: both runs take the same decision, a decision's plan is safe, and a safe plan keeps the two worlds alike.
use Prim.Native.Nat.{ℕ}
use mathlib.Core.Path.{◌≡◌, refl, sym, ap, subst, ◌∙◌}
use mathlib.Core.Bool.{Bool, true, false, false≢true}
use mathlib.Core.List.{List, [], ◌∷◌}
use lib.ListN.{length}
use Rattle.lists.proofs.All.{all_same}
use Rattle.geometry.specs.Geometry.{slot_count}
use Rattle.manifest.specs.declared.Reading.{Reading}
use Rattle.manifest.specs.Reader.{read_manifest}
use Rattle.state.specs.declared.Card.{Card}
use Rattle.state.specs.declared.Mode.{Mode}
use Rattle.state.specs.Face.{Face, pcrs_of, card_at}
use Rattle.wellformed.specs.WellFormed.{pcrs_right_at, pcrs_right, state_right, well_formed}
use Rattle.wellformed.proofs.Facts.{right_of}
use Rattle.wellformed.proofs.States.{state_face, well_state}
use Rattle.events.specs.declared.Event.{Event}
use Rattle.events.specs.declared.Event.TheVariants.{Register, Unregister, Call, Return, Jump, Read, Write, DeviceRead, DeviceWrite, Extend, PcrRead}
use Rattle.events.specs.declared.Refusal.TheVariants.{NotWellFormed}
use Rattle.rules.specs.Plan.{Plan, guard}
use Rattle.rules.specs.Decide.{rule_in, decide}
use Rattle.rules.specs.Act.{World, Out, act, plan_of, sealed, step}
use Rattle.rules.specs.Isolation.{Isolation, Shaped, Related, Alike, Feed, Fed, AllFed, AllAlike, Answers, Keeps, Payloads, equal, hidden, takes_bytes, own_in, face, first, second, world, stays}
use Rattle.rules.proofs.Facts.{by_eq}
use Rattle.rules.proofs.States.{owner_of, card_of_lem, state_shaped}
use Rattle.rules.proofs.Safe.{Safe}
use Rattle.rules.proofs.Rules.{decide_safe}
use Rattle.rules.proofs.Effects.{act_alike, act_keeps, act_answers}

-- ---- both runs take the same decision

-- the µPCRs of a registered slot are not looked at
pcrs_same : (k : ℕ) (w w' : World) → Related k w w' → pcrs_right (face w) (pcrs_of w.state) ≡ pcrs_right (face w) (pcrs_of w'.state)
unfolding pcrs_right
pcrs_same k w w' R =
    all_same slot_count (pcrs_right_at (face w) (pcrs_of w.state)) (pcrs_right_at (face w) (pcrs_of w'.state))
    (λ j l. by_eq j k (λ z. rw (z, R.registered)) (λ z. rw (R.others j z)))

pub well_same : (k : ℕ) (w w' : World) → Related k w w' → well_formed w.state (length w.memory) ≡ well_formed w'.state (length w'.memory)
unfolding well_formed state_right
well_same k w w' R = cc (pcrs_same k w w' R, R.faces, R.long)

-- only register looks at the manifest
rule_same : (m : Mode) (f : Face) (room n : ℕ) (a b : Reading) (e : Event) → takes_bytes e ≡ true → rule_in m f room n a e ≡ rule_in m f room n b e
unfolding rule_in
rule_same m f room n a b (Register mark) t = absurd (false≢true t)
rule_same m f room n a b (Unregister mark k) t = refl
rule_same m f room n a b (Call mark x i o) t = refl
rule_same m f room n a b Return t = refl
rule_same m f room n a b (Jump x) t = refl
rule_same m f room n a b (Read x c) t = refl
rule_same m f room n a b (Write x) t = refl
rule_same m f room n a b (DeviceRead x c) t = refl
rule_same m f room n a b (DeviceWrite x) t = refl
rule_same m f room n a b (Extend i source x c) t = refl
rule_same m f room n a b (PcrRead i) t = refl

decide_same : (f : Face) (ok : Bool) (room n : ℕ) (a b : Reading) (e : Event) → takes_bytes e ≡ true → decide f ok room n a e ≡ decide f ok room n b e
unfolding decide
decide_same f ok room n a b e t = ap (guard ok NotWellFormed f) (rule_same f.mode f room n a b e t)

abbrev plan_in : World → ℕ → List ℕ → Event → Plan
plan_in w room payload e = plan_of w.state (length w.memory) room payload e

plan_same : (k : ℕ) (w w' : World) (o : Bool) (e : Event) (bs bs' : List ℕ) (room : ℕ) → Related k w w' → Payloads o e bs bs' → plan_in w room bs e ≡ plan_in w' room bs' e
plan_same k w w' o e bs bs' room R (equal q) = rw (← R.faces, well_same k w w' R, q)
plan_same k w w' o e bs bs' room R (hidden y t l) =
    rw (← R.faces, well_same k w w' R, l) (decide_same (face w) (well_formed w'.state (length w'.memory)) room (length bs') (read_manifest bs) (read_manifest bs') e t)

-- ---- one step

-- what holds after a step that is taken with slot k registered
pub record Stepped (k : ℕ) (own : Bool) (w : World) (o o' : Out) : Type 0 where
  pub answers : Answers own o o'
  pub keeps : stays k (world o) ≡ true → Keeps k (face w) (face (world o))
  pub alike : Alike k (stays k (world o)) (world o) (world o')
  pub shaped : Shaped o.state
  pub shaped' : Shaped o'.state

module _ (k : ℕ) (w w' : World) (R : Related k w w') (s : Shaped w.state) (s' : Shaped w'.state) where
  one_step : (x : Feed) → Fed k true w w' x → Stepped k (own_in k w.state.mode x.event) w (first w x) (second w' x)
  unfolding step
  one_step x h = rw (← q) both
    where
      own : Bool
      own = own_in k w.state.mode x.event

      p : Plan
      p = plan_in w (length x.buffer) x.payload x.event

      q : p ≡ plan_in w' (length x.buffer) x.payload' x.event
      q = plan_same k w w' own x.event x.payload x.payload' (length x.buffer) R h.payloads

      safe : Safe k (face w) own (length x.payload) p
      safe =
          decide_safe k (face w) s.owners R.registered (well_formed w.state (length w.memory))
          (λ t. right_of (face w) (state_face w.state (well_state w.state _ t)))
          (length x.buffer) (length x.payload) (read_manifest x.payload) x.event

      one : Out
      one = act p x.payload x.buffer (pcrs_of w.state) w.memory

      two : Out
      two = act p x.payload' x.buffer (pcrs_of w'.state) w'.memory

      there : stays k (world one) ≡ (card_at p.next k).registered
      there = ap (λ (c : Card). c.registered) (card_of_lem p.next (sealed p.seal x.payload w.memory (pcrs_of w.state)) k R.slot)

      both : Stepped k own w one two
      both = record {
        answers = act_answers k w w' R x.event own p x.payload x.payload' x.buffer safe s s';
        keeps = λ t. rw (owner_of p.next (sealed p.seal x.payload w.memory (pcrs_of w.state)))
            (act_keeps k w w' R x.event own p x.payload x.payload' x.buffer safe (sym there ∙ t));
        alike = rw there (act_alike k w w' R x.event own p x.payload x.payload' x.buffer safe h.payloads h.returns);
        shaped = state_shaped p.next p.seal x.payload w.memory (pcrs_of w.state) safe.short s.digests;
        shaped' = state_shaped p.next p.seal x.payload' w'.memory (pcrs_of w'.state) safe.short s'.digests;
      }

-- a step after its release
same_step : (w w' : World) (x : Feed) → w ≡ w' → Payloads false x.event x.payload x.payload' → first w x ≡ second w' x
same_step w w' x q (equal p) = λ i. step (q i).state (q i).memory x.event (p i) x.buffer
same_step w w' x q (hidden o t l) = absurd (false≢true o)

-- ---- all steps

from_release : (k : ℕ) (w w' : World) (xs : List Feed) → w ≡ w' → AllFed k false w w' xs → AllAlike k false w w' xs
from_release k w w' [] q h = q
from_release k w w' (x ∷ xs) q h =
    let e : first w x ≡ second w' x = same_step w w' x q h.0.payloads in (
      q,
      subst (λ (o : Out). Answers false (first w x) o) e (record { answers = refl; lengths = refl; beyond = λ i t. refl; whole = λ t. refl }),
      λ t. absurd (false≢true t),
      from_release k (world (first w x)) (world (second w' x)) xs (ap world e) h.1,
    )

all_alike : (k : ℕ) (live : Bool) (w w' : World) (xs : List Feed) → Alike k live w w' → Shaped w.state → Shaped w'.state → AllFed k live w w' xs → AllAlike k live w w' xs
all_alike k true w w' [] r s s' h = r
all_alike k false w w' [] r s s' h = r
all_alike k true w w' (x ∷ xs) r s s' h =
    let t = one_step k w w' r s s' x h.0 in
    (r, t.answers, t.keeps, all_alike k (stays k (world (first w x))) (world (first w x)) (world (second w' x)) xs t.alike t.shaped t.shaped' h.1)
all_alike k false w w' (x ∷ xs) r s s' h = from_release k w w' (x ∷ xs) r h

pub isolated : Isolation
isolated k w w' xs s s' R h = all_alike k true w w' xs R s s' h
