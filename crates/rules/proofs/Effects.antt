-- A safe plan, carried out in two related worlds, gives related worlds, or the same ones if it releases slot k.
use Prim.Native.Nat.{ℕ, ◌+◌, ◌≤◌, ◌<◌}
use native.Mathlib.Omega.{arith}
use mathlib.Core.Path.{◌≡◌, refl, sym, ap, ◌∙◌}
use mathlib.Core.Logic.{◌≢◌, ⊎_elim}
use mathlib.Core.Bool.{Bool, true, false, false≢true}
use mathlib.Core.List.{List, []}
use lib.ListN.{length, get_or, set, length-map}
use lib.Seq.{length-sets, ext_get_or}
use Rattle.lists.specs.Bytes.{part, wipe}
use Rattle.lists.proofs.Logic.{decided, lt_or_ge}
use Rattle.lists.proofs.Parts.{part_few, part_same, sets_after, sets_keep, sets_aside}
use Rattle.lists.proofs.Pages.{wipe_long, wipe_keep}
use Rattle.geometry.specs.Geometry.{page_size, slot_count, page_of}
use Rattle.memory.specs.declared.Source.{Source}
use Rattle.memory.specs.declared.Source.TheVariants.{Payload, Memory}
use Rattle.memory.specs.Source.{chosen_of}
use Rattle.fields.proofs.PageLaws.{listed}
use Rattle.sha_1.specs.declared.Digest.{Digest}
use Rattle.state.specs.declared.Card.{Card}
use Rattle.state.specs.Zero.{no_pcr}
use Rattle.state.specs.Face.{Face, pcrs_of, card_at, owner_at, card_of, pcrs_in}
use Rattle.events.specs.declared.Event.{Event}
use Rattle.events.specs.declared.Answer.{Answer}
use Rattle.events.specs.declared.Answer.TheVariants as answer
use Rattle.rules.specs.Plan.{Fetch, nothing, bytes, pcr, Store, keep, put, move, clean, Seal, same, clear, extend, measure, Plan}
use Rattle.rules.specs.Act.{World, Out, fetched, stored, sealed, measured, zero_pcrs, act}
use Rattle.rules.specs.Isolation.{Shaped, Related, Alike, Keeps, Payloads, equal, hidden, handed_out, Answers, face, world}
use Rattle.rules.proofs.Facts.{by_eq, card_below}
use Rattle.rules.proofs.Lists.{set_two, set_same_two, wipe_join, gather_same}
use Rattle.rules.proofs.States.{owner_of, card_of_lem, pcrs_of_lem, pcrs_past, faces_same, state_same}
use Rattle.rules.proofs.Safe.{Outside, size, SafeFetch, SafeStore, SafeSource, SafeSeal, After, keeps, frees, Safe}

module _ (k : ℕ) (w w' : World) (R : Related k w w') where
  abbrev m : List ℕ
  m = w.memory

  abbrev m' : List ℕ
  m' = w'.memory

  abbrev c : List (List Digest)
  c = pcrs_of w.state

  abbrev c' : List (List Digest)
  c' = pcrs_of w'.state

  -- as many slots in both
  count : length c ≡ length c'
  count =
      length-map w.state.slots pcrs_in ∙ sym (length-map w.state.slots card_of)
      ∙ ap (λ (f : Face). length f.cards) R.faces
      ∙ length-map w'.state.slots card_of ∙ sym (length-map w'.state.slots pcrs_in)

  inside : k < length c
  inside = omega (arith, card_below (face w) k R.registered, length-map w.state.slots card_of, length-map w.state.slots pcrs_in)

  out_same : (a n : ℕ) → Outside k (face w) a n → part m a n ≡ part m' a n
  out_same a n h = part_same m m' a n R.long (λ i l u. R.outside i (h i l u))

  -- ---- what is handed out

  fetch_whole : (x : Fetch) (buffer : List ℕ) → SafeFetch k (face w) false x → fetched x c m buffer ≡ fetched x c' m' buffer
  fetch_whole nothing buffer h = refl
  fetch_whole (bytes a n) buffer h = rw (out_same a n (h refl))
  fetch_whole (pcr j i) buffer h = rw (R.others j (h refl))

  fetch_long : (x : Fetch) (buffer : List ℕ) → length (fetched x c m buffer) ≡ length (fetched x c' m' buffer)
  fetch_long nothing buffer = refl
  fetch_long (bytes a n) buffer = simp length-sets
  fetch_long (pcr j i) buffer = simp length-sets

  -- an answer's bytes do not go beyond its count
  fetch_within : (x : Fetch) (s : World) → Shaped s.state → (buffer : List ℕ) (i : ℕ) → size x ≤ i → get_or (fetched x (pcrs_of s.state) s.memory buffer) i 0 ≡ get_or buffer i 0
  fetch_within nothing s h buffer i l = refl
  fetch_within (bytes a n) s h buffer i l = sets_after (part s.memory a n) buffer 0 i (omega (arith, part_few s.memory a n))
  fetch_within (pcr j q) s h buffer i l = sets_after (get_or (get_or (pcrs_of s.state) j []) q no_pcr).bytes buffer 0 i (omega (arith, h.digests j q))

  -- ---- memory

  store_long : (s : Store) (bs bs' : List ℕ) → length (stored s bs m) ≡ length (stored s bs' m')
  store_long keep bs bs' = R.long
  store_long (put a) bs bs' = simp length-sets R.long
  store_long (move a b n) bs bs' = simp length-sets R.long
  store_long (clean ps) bs bs' = simp wipe_long R.long

  store_keep : (e : Event) (o : Bool) (x : Answer) (s : Store) (bs bs' : List ℕ) → SafeStore k (face w) o (length bs) x s → Payloads o e bs bs'
      → (o ≡ true → (n : ℕ) → x ≡ answer.Left n → handed_out k w n ≡ handed_out k w' n)
      → (i : ℕ) → owner_at (face w) (page_of i) ≢ k + 1 → get_or (stored s bs m) i 0 ≡ get_or (stored s bs' m') i 0
  store_keep e o x keep bs bs' h p r i n = R.outside i n
  store_keep e o x (put a) bs bs' h (equal q) r i n = rw q (sets_keep bs' m m' a i R.long (R.outside i n))
  store_keep e o x (put a) bs bs' h (hidden t y l) r i n = sets_aside bs bs' m m' a i l (R.outside i n) (λ u v. n (h t i u v))
  store_keep e o x (move a b z) bs bs' h p r i n = rw bytes_same (sets_keep (part m' a z) m m' b i R.long (R.outside i n))
    where
      bytes_same : part m a z ≡ part m' a z
      bytes_same =
          decided o
          (λ t. let u = h.1 t in cc (u.1, r t z u.0, R.faces))
          (λ t. out_same a z (h.0 t))
  store_keep e o x (clean ps) bs bs' h p r i n = wipe_keep page_size ps m m' i R.long (R.outside i n)

  store_freed : (ps : List ℕ) → ((q : ℕ) → owner_at (face w) q ≡ k + 1 → listed q ps ≡ true) → wipe page_size m ps ≡ wipe page_size m' ps
  store_freed ps h = ext_get_or 0 (wipe page_size m ps) (wipe page_size m' ps) (simp wipe_long R.long)
      (λ i l. by_eq (owner_at (face w) (page_of i)) (k + 1)
      (λ z. wipe_join ps m m' i R.long (h (page_of i) z))
      (λ z. wipe_keep page_size ps m m' i R.long (R.outside i z)))

  -- ---- µPCRs

  source_same : (e : Event) (o : Bool) (j : ℕ) (s : Source) (a n : ℕ) (bs bs' : List ℕ) → SafeSource k (face w) o j s a n → Payloads o e bs bs' → j ≢ k → chosen_of bs m s a n ≡ chosen_of bs' m' s a n
  source_same e o j Payload a n bs bs' h (equal q) d = q
  source_same e o j Payload a n bs bs' h (hidden t y l) d = absurd (d (h t))
  source_same e o j Memory a n bs bs' h p d = out_same a n (h d)

  seal_others : (e : Event) (o : Bool) (s : Seal) (bs bs' : List ℕ) → SafeSeal k (face w) o s → Payloads o e bs bs' → (q : ℕ) → q ≢ k → get_or (sealed s bs m c) q [] ≡ get_or (sealed s bs' m' c') q []
  seal_others e o same bs bs' h p q d = R.others q d
  seal_others e o (clear j) bs bs' h p q d = set_two c c' j q zero_pcrs zero_pcrs count (λ z. refl) (R.others q d)
  seal_others e o (extend j i s a n) bs bs' h p q d =
      set_two c c' j q _ _ count
      (λ z. let d' : j ≢ k = λ y. d (z ∙ y) in
      rw (R.others j d', source_same e o j s a n bs bs' h p d'))
      (R.others q d)
  seal_others e o (measure j ps) bs bs' h p q d =
      set_two c c' j q _ _ count
      (λ z. ap measured (gather_same ps m m' R.long (λ x t i y. R.outside i (λ b. h x t (rw y at b)))))
      (R.others q d)

  seal_freed : (q : ℕ) → get_or (set c k zero_pcrs) q [] ≡ get_or (set c' k zero_pcrs) q []
  seal_freed q = by_eq q k (λ z. rw z (set_same_two c c' k zero_pcrs count inside)) (λ z. set_two c c' k q zero_pcrs zero_pcrs count (λ y. refl) (R.others q z))

  -- ---- the plan carried out

  module _ (e : Event) (o : Bool) (p : Plan) (bs bs' buffer : List ℕ) (S : Safe k (face w) o (length bs) p) where
    abbrev one : Out
    one = act p bs buffer c m

    abbrev two : Out
    two = act p bs' buffer c' m'

    pub act_answers : Shaped w.state → Shaped w'.state → Answers o one two
    act_answers s s' = record {
      answers = refl;
      lengths = fetch_long p.fetch buffer;
      beyond = λ i h. let l : size p.fetch ≤ i = omega (arith, S.counts) in
          fetch_within p.fetch w s buffer i l ∙ sym (fetch_within p.fetch w' s' buffer i l);
      whole = λ q. fetch_whole p.fetch buffer (rw q at S.fetches);
    }

    pub act_keeps : (card_at p.next k).registered ≡ true → Keeps k (face w) p.next
    act_keeps u = go S.after
      where
        go : After k (face w) p → Keeps k (face w) p.next
        go (keeps v t) = t
        go (frees v ps s t z) = absurd (false≢true (sym v ∙ u))

    others_after : Payloads o e bs bs' → (j : ℕ) → j ≢ k → get_or (pcrs_of one.state) j [] ≡ get_or (pcrs_of two.state) j []
    others_after h j d =
        ⊎_elim
        (λ (l : j < slot_count). pcrs_of_lem p.next (sealed p.seal bs m c) j l ∙ seal_others e o p.seal bs bs' S.seals h j d ∙ sym (pcrs_of_lem p.next (sealed p.seal bs' m' c') j l))
        (λ (l : slot_count ≤ j). pcrs_past p.next (sealed p.seal bs m c) j l ∙ sym (pcrs_past p.next (sealed p.seal bs' m' c') j l))
        (lt_or_ge j slot_count)

    pub act_alike : Payloads o e bs bs' → (o ≡ true → (n : ℕ) → p.answer ≡ answer.Left n → handed_out k w n ≡ handed_out k w' n) → Alike k (card_at p.next k).registered (world one) (world two)
    act_alike h r = go S.after
      where
        go : After k (face w) p → Alike k (card_at p.next k).registered (world one) (world two)
        go (keeps u t) = rw u (record {
          slot = R.slot;
          registered = ap (λ (x : Card). x.registered) (card_of_lem p.next (sealed p.seal bs m c) k R.slot) ∙ u;
          faces = faces_same p.next (sealed p.seal bs m c) (sealed p.seal bs' m' c');
          others = others_after h;
          long = store_long p.store bs bs';
          outside = λ i d. store_keep e o p.answer p.store bs bs' S.stores h r i (λ q. d (ap (λ (x : List ℕ). get_or x (page_of i) 0) (owner_of p.next (sealed p.seal bs m c)) ∙ (t (page_of i)).0 q));
        })
        go (frees u ps s t z) = rw u (λ i. record { state = states i; memory = memories i })
          where
            states : one.state ≡ two.state
            states = state_same p.next (sealed p.seal bs m c) (sealed p.seal bs' m' c') (λ j l. rw z (seal_freed j))

            memories : one.memory ≡ two.memory
            memories = rw s (store_freed ps t)
