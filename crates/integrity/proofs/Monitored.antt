-- No event reads or writes the monitor's pages.
use Prim.Native.Nat.{ℕ, ◌+◌, ◌-◌, ◌≤◌, ◌<◌}
use native.Mathlib.Omega.{arith}
use native.Mathlib.Nat.{div-add-mod'}
use mathlib.Core.Path.{◌≡◌, refl, sym, ap, subst, ◌∙◌}
use mathlib.Core.Logic.{⊎_elim}
use mathlib.Core.Bool.{true}
use mathlib.Core.List.{List, [], ◌∷◌}
use lib.ListN.{length, get_or, set}
use lib.Seq.{sets}
use borrow.Author.Tests.{eqb-true}
use Rattle.lists.specs.Bytes.{part, gather}
use Rattle.lists.proofs.Logic.{and_l, lt_or_ge}
use Rattle.lists.proofs.Parts.{part_same, sets_keep}
use Rattle.lists.proofs.Pages.{wipe_keep}
use Rattle.geometry.specs.Geometry.{page_size, slot_count, page_of, start_of}
use Rattle.memory.specs.declared.Source.{Source}
use Rattle.memory.specs.declared.Source.TheVariants.{Payload, Memory}
use Rattle.memory.specs.Source.{chosen_of}
use Rattle.sha_1.specs.declared.Digest.{Digest}
use Rattle.fields.specs.Pages.{param_of}
use Rattle.fields.proofs.PageLaws.{listed, param_page}
use Rattle.manifest.specs.Reader.{read_manifest}
use Rattle.state.specs.declared.State.{State}
use Rattle.state.specs.Face.{Face, face_of, pcrs_of, state_of, card_at, top_of, is_open, owner_at}
use Rattle.wellformed.specs.WellFormed.{well_formed}
use Rattle.wellformed.proofs.Facts.{Right, card_rules, held_under, owner_holds, open_under}
use Rattle.events.specs.declared.Event.{Event}
use Rattle.rules.specs.Plan.{Fetch, nothing, bytes, pcr, Store, keep, put, move, clean, Seal, same, clear, extend, measure, Plan}
use Rattle.rules.specs.Tests.{is_own}
use Rattle.rules.specs.Act.{fetched, stored, extended, measured, sealed, act, plan_of, step}
use Rattle.rules.proofs.Lists.{gather_same}
use Rattle.preserved.specs.Preserved.{Well, Ask, after_one, after}
use Rattle.manifest.proofs.Accepts.{read_keeps}
use Rattle.preserved.proofs.Stays.{stored_long, face_right_lem, step_well, step_pages, step_kept}
use Rattle.integrity.specs.Monitor.{monitor_from, MonitorKept, AlikeBelow, Shown, shown_by, shown, Unseen, MonitorUnseen}
use Rattle.rules.proofs.Ranges.{Apart}
use Rattle.integrity.proofs.Spared.{stored_spares}
use Rattle.integrity.proofs.Shut.{Shut, decide_off}
use Rattle.integrity.proofs.Blind.{FetchOff, StoreOff, SourceOff, SealOff, Blind, Hidden, decide_blind}

-- a page of the monitor's
abbrev Top : Face → ℕ → Type 0
Top f p = top_of f ≤ p

abbrev Any : Face → Type 0
Any g = Unit {0}

module _ (f : Face) (r : Right f) where
  own_no : (j p : ℕ) → j < slot_count → p < f.pages → is_own f j p ≡ true → Top f p → ⊥
  own_no j p l u t q =
      let o = owner_holds f r p j (omega (arith, r.sizes.most)) l (eqb-true (owner_at f p) (j + 1) t) in
      omega (arith, held_under f r p j l o)

  open_no : (p : ℕ) → is_open f p ≡ true → Top f p → ⊥
  open_no p t q = omega (arith, open_under f r p t)

  param_no : (j : ℕ) → j < slot_count → (card_at f j).registered ≡ true → Top f (param_of (card_at f j).fields) → ⊥
  param_no j l u q =
      let x = (card_at f j).fields in
      let h = param_page x (card_rules (card_at f j) (top_of f) (r.cards j l) u) in
      omega (arith, held_under f r (param_of x) j l h)

  top_shut : Shut f (Top f) Any
  top_shut =
      record {
        open_no = open_no;
        write_no = λ j p l u t. own_no j p l u (and_l (is_own f j p) _ t);
        param_no = param_no;
        gone_no = λ j a l h p t q. absurd (omega (arith, held_under f r p j l t));
      }

  top_hidden : Hidden f (Top f)
  top_hidden = record { open_no = open_no; own_no = own_no; param_no = param_no }

-- ---- nothing is written there

above : (t i : ℕ) → start_of t ≤ i → t ≤ page_of i
above t i h = omega (arith, div-add-mod' i page_size)

step_spares : (s : State) (m : List ℕ) → Well s m → (e : Event) (payload buffer : List ℕ) (i : ℕ) → monitor_from s ≤ i
    → get_or (step s m e payload buffer).memory i 0 ≡ get_or m i 0
unfolding step
step_spares s m w e payload buffer i h =
    let f = face_of s in
    let r = face_right_lem s m w in
    stored_spares (Top f) (plan_of s (length m) (length buffer) payload e).store payload m
    (decide_off f r (Top f) Any (top_shut f r) (length payload) (well_formed s (length m)) (length buffer) (read_manifest payload) e tt)
    i (above (s.pages - s.kept) i h)

from_same : (s : State) (m : List ℕ) → Well s m → (x : Ask) → monitor_from (step s m x.event x.payload x.buffer).state ≡ monitor_from s
from_same s m w x = rw (step_pages s m w x.event x.payload x.buffer, step_kept s m w x.event x.payload x.buffer)

pub monitor_kept : MonitorKept
monitor_kept w [] h i l = refl
monitor_kept w (x ∷ xs) h i l =
    let s = w.state in
    let m = w.memory in
    monitor_kept (after_one w x) xs (step_well s m h x.event x.payload x.buffer) i (rw (from_same s m h x) l)
    ∙ step_spares s m h x.event x.payload x.buffer i l

-- ---- nothing is read there

module _ (f : Face) (m m' : List ℕ) (alike : AlikeBelow (start_of (top_of f)) m m') where
  same_part : (a n : ℕ) → Apart (Top f) a n → part m a n ≡ part m' a n
  same_part a n h =
      part_same m m' a n alike.long
      (λ i l u. ⊎_elim (λ (k : i < start_of (top_of f)). alike.same i k) (λ (k : start_of (top_of f) ≤ i). absurd (h i l u (above (top_of f) i k))) (lt_or_ge i (start_of (top_of f))))

  same_gather : (ps : List ℕ) → ((p : ℕ) → listed p ps ≡ true → Top f p → ⊥) → gather page_size m ps ≡ gather page_size m' ps
  same_gather ps h =
      gather_same ps m m' alike.long
      (λ p t i e. ⊎_elim (λ (k : i < start_of (top_of f)). alike.same i k) (λ (k : start_of (top_of f) ≤ i). absurd (h p t (rw e at (above (top_of f) i k)))) (lt_or_ge i (start_of (top_of f))))

  same_fetched : (x : Fetch) (pcrs : List (List Digest)) (buffer : List ℕ) → FetchOff (Top f) x → fetched x pcrs m buffer ≡ fetched x pcrs m' buffer
  same_fetched nothing pcrs buffer h = refl
  same_fetched (bytes a n) pcrs buffer h = ap (sets buffer 0) (same_part a n h)
  same_fetched (pcr k i) pcrs buffer h = refl

  same_chosen : (source : Source) (payload : List ℕ) (a n : ℕ) → SourceOff (Top f) source a n → chosen_of payload m source a n ≡ chosen_of payload m' source a n
  same_chosen Payload payload a n h = refl
  same_chosen Memory payload a n h = same_part a n h

  same_sealed : (x : Seal) (payload : List ℕ) (pcrs : List (List Digest)) → SealOff (Top f) x → sealed x payload m pcrs ≡ sealed x payload m' pcrs
  same_sealed same payload pcrs h = refl
  same_sealed (clear k) payload pcrs h = refl
  same_sealed (extend k i source a n) payload pcrs h = ap (λ (c : List ℕ). set pcrs k (extended (get_or pcrs k []) i c)) (same_chosen source payload a n h)
  same_sealed (measure k ps) payload pcrs h = ap (λ (c : List ℕ). set pcrs k (measured c)) (same_gather ps h)

  stored_at : (x : Store) (payload : List ℕ) → StoreOff (Top f) x → (i : ℕ) → i < start_of (top_of f) → get_or (stored x payload m) i 0 ≡ get_or (stored x payload m') i 0
  stored_at keep payload h i l = alike.same i l
  stored_at (put a) payload h i l = sets_keep payload m m' a i alike.long (alike.same i l)
  stored_at (move a b n) payload h i l = rw (same_part a n h) (sets_keep (part m' a n) m m' b i alike.long (alike.same i l))
  stored_at (clean ps) payload h i l = wipe_keep page_size ps m m' i alike.long (alike.same i l)

  same_stored : (x : Store) (payload : List ℕ) → StoreOff (Top f) x → AlikeBelow (start_of (top_of f)) (stored x payload m) (stored x payload m')
  same_stored x payload h = record { long = stored_long x payload m ∙ alike.long ∙ sym (stored_long x payload m'); same = stored_at x payload h }

  -- a plan that reads nothing there does the same
  same_shown : (p : Plan) (payload buffer : List ℕ) (pcrs : List (List Digest)) → Blind (Top f) p → shown_by (act p payload buffer pcrs m) ≡ shown_by (act p payload buffer pcrs m')
  same_shown p payload buffer pcrs h =
      ap (λ (x : List (List Digest)). record { answer = p.answer; state = state_of p.next x; buffer = fetched p.fetch pcrs m buffer }) (same_sealed p.seal payload pcrs h.seals)
      ∙ ap (λ (x : List ℕ). record { answer = p.answer; state = state_of p.next (sealed p.seal payload m' pcrs); buffer = x }) (same_fetched p.fetch pcrs buffer h.fetches)

-- one event on both memories
record Same (s : State) (m m' : List ℕ) (e : Event) (payload buffer : List ℕ) : Type 0 where
  shows : shown_by (step s m e payload buffer) ≡ shown_by (step s m' e payload buffer)
  memories : AlikeBelow (monitor_from s) (step s m e payload buffer).memory (step s m' e payload buffer).memory

step_same : (s : State) (m m' : List ℕ) → Well s m → AlikeBelow (monitor_from s) m m' → (e : Event) (payload buffer : List ℕ) → Same s m m' e payload buffer
unfolding step
step_same s m m' w a e payload buffer =
    let f = face_of s in
    let r = face_right_lem s m w in
    let p = plan_of s (length m) (length buffer) payload e in
    let b = decide_blind f r (Top f) (top_hidden f r) (well_formed s (length m)) (length buffer) (length payload) (read_manifest payload) (read_keeps payload) e in
    let q : plan_of s (length m) (length buffer) payload e ≡ plan_of s (length m') (length buffer) payload e = ap (λ (n : ℕ). plan_of s n (length buffer) payload e) a.long in
    record {
      shows = same_shown f m m' a p payload buffer (pcrs_of s) b ∙ ap (λ (x : Plan). shown_by (act x payload buffer (pcrs_of s) m')) q;
      memories = subst (λ (x : Plan). AlikeBelow (monitor_from s) (stored p.store payload m) (stored x.store payload m')) q (same_stored f m m' a p.store payload b.stores);
    }

-- from equal states on
unseen_on : (s s' : State) → s ≡ s' → (t : ℕ) (m m' : List ℕ) (xs : List Ask) → monitor_from s ≡ t → Unseen s m m' xs
    → (shown (record { state = s; memory = m }) xs ≡ shown (record { state = s'; memory = m' }) xs)
    × AlikeBelow t (after (record { state = s; memory = m }) xs).memory (after (record { state = s'; memory = m' }) xs).memory
unseen_on s s' e t m m' xs q h = (
  subst (λ (x : State). shown (record { state = s; memory = m }) xs ≡ shown (record { state = x; memory = m' }) xs) e h.shows,
  subst (λ (x : State). AlikeBelow t (after (record { state = s; memory = m }) xs).memory (after (record { state = x; memory = m' }) xs).memory) e
      (subst (λ (n : ℕ). AlikeBelow n (after (record { state = s; memory = m }) xs).memory (after (record { state = s; memory = m' }) xs).memory) q h.memories),
)

pub monitor_unseen : MonitorUnseen
monitor_unseen s m m' [] w a = record { shows = refl; memories = a }
monitor_unseen s m m' (x ∷ xs) w a =
    let o = step s m x.event x.payload x.buffer in
    let o' = step s m' x.event x.payload x.buffer in
    let b = step_same s m m' w a x.event x.payload x.buffer in
    let t = from_same s m w x in
    let c : AlikeBelow (monitor_from o.state) o.memory o'.memory = rw t b.memories in
    let d = monitor_unseen o.state o.memory o'.memory xs (step_well s m w x.event x.payload x.buffer) c in
    let g = unseen_on o.state o'.state (ap (λ (y : Shown). y.state) b.shows) (monitor_from s) o.memory o'.memory xs t d in
    record {
      shows = ap (λ (y : Shown). y ∷ shown (record { state = o.state; memory = o.memory }) xs) b.shows ∙ ap (λ (ys : List Shown). shown_by o' ∷ ys) g.0;
      memories = g.1;
    }
