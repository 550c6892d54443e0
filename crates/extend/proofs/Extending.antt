-- The ends of extend's rule, and that the state after it is the rule's.
use Prim.Native.Nat.{ℕ, ◌<◌}
use mathlib.Core.Path.{◌≡◌, refl, sym, ap, subst, ◌∙◌}
use mathlib.Core.Bool.{true, false}
use mathlib.Core.List.{List, [], map, ◌++◌}
use lib.ListN.{length, get_or, set}
use lib.Seq.{set-get_or}
use lib.Dec.{ltb}
use Rattle.lists.specs.Below.{table}
use Rattle.geometry.specs.Geometry.{slot_count, pcr_count, start_of}
use Rattle.memory.specs.declared.Source.{Source}
use Rattle.memory.specs.declared.Source.TheVariants.{Payload, Memory}
use Rattle.memory.specs.Source.{chosen_of, InRange}
use Rattle.sha_1.specs.declared.Digest.{Digest}
use Rattle.sha_1.specs.Sha1.{sha1}
use Rattle.state.specs.declared.Slot.{Slot}
use Rattle.state.specs.declared.State.{State}
use Rattle.state.specs.declared.Card.{Card}
use Rattle.state.specs.Zero.{no_slot, no_card, no_pcr}
use Rattle.state.specs.Face.{Face, card_of, pcrs_in, face_of, pcrs_of, slot_of, state_of}
use Rattle.state.specs.Slots.{extended_pcrs, extended_slot}
use Rattle.state.proofs.Faces.{card_at_lem, pcrs_at, state_set}
use Rattle.events.specs.declared.Answer.TheVariants as answer
use Rattle.events.specs.declared.Refusal.TheVariants.{OutOfRange, NotReached, NoSuchPcr}
use Rattle.rules.specs.Plan.{nothing, keep, extend, refuse, still}
use Rattle.rules.specs.Tests.{kept_as}
use Rattle.rules.specs.Decide.{source_right, source_reached, extend_rule}
use Rattle.rules.specs.Act.{extended}
use Rattle.touch.proofs.Plans.{pass, stop}
use Rattle.switch.proofs.Kept.{kept_fits, kept_part}
use Rattle.change.specs.declared.Change.{Change}
use Rattle.change.specs.Turns.{with_pcr, extends_by, Settles}

module _ (f : Face) (k size i : ℕ) (source : Source) (a n : ℕ) where
  pub extend_10 : ltb i pcr_count ≡ false → extend_rule f k size i source a n ≡ refuse NoSuchPcr f
  unfolding extend_rule
  extend_10 e = stop (ltb i pcr_count) NoSuchPcr f _ e

  pub extend_4 : ltb i pcr_count ≡ true → source_right f source size a n ≡ false → extend_rule f k size i source a n ≡ refuse OutOfRange f
  unfolding extend_rule
  extend_4 e g = pass (ltb i pcr_count) NoSuchPcr f _ e ∙ stop (source_right f source size a n) OutOfRange f _ g

  pub extend_5 : ltb i pcr_count ≡ true → source_right f source size a n ≡ true → source_reached f k source a n ≡ false → extend_rule f k size i source a n ≡ refuse NotReached f
  unfolding extend_rule
  extend_5 e g h = pass (ltb i pcr_count) NoSuchPcr f _ e ∙ pass (source_right f source size a n) OutOfRange f _ g ∙ stop (source_reached f k source a n) NotReached f _ h

  pub extend_on : ltb i pcr_count ≡ true → source_right f source size a n ≡ true → source_reached f k source a n ≡ true
      → extend_rule f k size i source a n ≡ still f nothing keep (extend k i source a n) answer.Done
  unfolding extend_rule
  extend_on e g h = pass (ltb i pcr_count) NoSuchPcr f _ e ∙ pass (source_right f source size a n) OutOfRange f _ g ∙ pass (source_reached f k source a n) NotReached f _ h

-- a source that is right lies in memory, as the code takes it
pub source_in : (f : Face) (m : List ℕ) (source : Source) (size a n : ℕ) → length m ≡ start_of f.pages → source_right f source size a n ≡ true → InRange m source (kept_as n a) n
source_in f m Payload size a n e h = tt
source_in f m Memory size a n e h = kept_fits f.pages a n (length m) e h

-- and what it names is the rule's
pub source_same : (payload m : List ℕ) (source : Source) (a n : ℕ) → chosen_of payload m source (kept_as n a) n ≡ chosen_of payload m source a n
source_same payload m Payload a n = refl
source_same payload m Memory a n = kept_part m a n

-- one µPCR extended by the digest of a content
pcrs_same : (pcrs : List Digest) (i : ℕ) (d : Digest) (content : List ℕ) → d.bytes ≡ sha1 content → extended_pcrs pcrs i d ≡ extended pcrs i content
unfolding extended_pcrs extended
pcrs_same pcrs i d content e = ap (λ (b : List ℕ). set pcrs i (record { bytes = sha1 ((get_or pcrs i no_pcr).bytes ++ b) })) e

-- the state with slot k's µPCRs set
pub pcrs_set : (s : State) → length s.slots ≡ slot_count → (k : ℕ) → k < slot_count → (ps : List Digest)
    → table (slot_of (map card_of s.slots) (set (map pcrs_in s.slots) k ps)) slot_count ≡ set s.slots k (record { card = (get_or s.slots k no_slot).card; pcrs = ps })
pcrs_set s e k l ps =
    let cards = map card_of s.slots in
    let q : set cards k (get_or s.slots k no_slot).card ≡ cards = ap (set cards k) (sym (card_at_lem s.slots k)) ∙ set-get_or cards k no_card in
    ap (λ (cs : List Card). table (slot_of cs (set (map pcrs_in s.slots) k ps)) slot_count) (sym q)
    ∙ state_set s k (record { card = (get_or s.slots k no_slot).card; pcrs = ps }) e l

pub extended_settles : (s : State) → length s.slots ≡ slot_count → (k : ℕ) → k < slot_count → (i : ℕ) → i < pcr_count → (source : Source) (a n : ℕ) (payload m : List ℕ) (d : Digest) (c : Change)
    → d.bytes ≡ sha1 (chosen_of payload m source a n) → c ≡ extends_by k i d
    → Settles (still (face_of s) nothing keep (extend k i source a n) answer.Done) payload s m c m
unfolding state_of extended_slot
extended_settles s e k l i b source a n payload m d c h g =
    subst (λ (z : Change). Settles (still (face_of s) nothing keep (extend k i source a n) answer.Done) payload s m z m) (sym g)
    (record { steps = record { answer = refl; state = whole; memory = refl }; fits = (l, b) })
  where
    content : List ℕ
    content = chosen_of payload m source a n

    x : Slot
    x = get_or s.slots k no_slot

    ps : extended_pcrs x.pcrs i d ≡ extended (get_or (pcrs_of s) k []) i content
    ps = pcrs_same x.pcrs i d content h ∙ ap (λ (p : List Digest). extended p i content) (sym (pcrs_at s.slots k))

    whole : with_pcr s k i d ≡ state_of (face_of s) (set (pcrs_of s) k (extended (get_or (pcrs_of s) k []) i content))
    whole =
        ap (λ (xs : List Slot). record { pages = s.pages; kept = s.kept; owner = s.owner; slots = xs; mode = s.mode; running = s.running })
        (ap (λ (p : List Digest). set s.slots k (record { card = x.card; pcrs = p })) ps ∙ sym (pcrs_set s e k l (extended (get_or (pcrs_of s) k []) i content)))
