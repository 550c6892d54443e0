-- Every plan that the rules make is safe for a registered slot k.
use Prim.Native.Nat.{ℕ, ◌+◌, ◌≤◌, ◌<◌}
use native.Mathlib.Omega.{arith}
use mathlib.Core.Path.{◌≡◌, refl, sym, ap, subst, ◌∙◌}
use mathlib.Core.Logic.{◌≢◌, ⊎_elim}
use mathlib.Core.Bool.{Bool, true, false, false≢true}
use mathlib.Core.List.{List}
use lib.ListN.{length, get_or}
use lib.Seq.{get_or-set_same, get_or-set_other}
use lib.Dec.{ltb}
use borrow.Author.Tests.{ltb-true, eqb-true, eqb-false}
use Rattle.lists.proofs.Logic.{and_l, and_r, lt_or_ge}
use Rattle.lists.proofs.First.{first_at}
use Rattle.geometry.specs.Geometry.{most_pages, slot_count, page_of}
use Rattle.memory.specs.declared.Source.{Source}
use Rattle.memory.specs.declared.Source.TheVariants.{Payload, Memory}
use Rattle.fields.specs.declared.Fields.{Fields}
use Rattle.fields.specs.Pages.{param_of}
use Rattle.fields.proofs.PageLaws.{page_listed}
use Rattle.manifest.specs.declared.Reading.{Reading}
use Rattle.state.specs.declared.Card.{Card}
use Rattle.state.specs.declared.Mode.{Mode}
use Rattle.state.specs.declared.Mode.TheVariants.{Legacy, Secure}
use Rattle.state.specs.Zero.{zero_card, no_card}
use Rattle.state.specs.Face.{Face, card_at, owner_at, is_open}
use Rattle.wellformed.proofs.Facts.{Right}
use Rattle.wellformed.proofs.Runs.{Runs}
use Rattle.events.specs.declared.Event.{Event}
use Rattle.events.specs.declared.Answer.{Answer}
use Rattle.events.specs.declared.Answer.TheVariants as answer
use Rattle.events.specs.Answers.{fills}
use Rattle.events.specs.declared.Refusal.{Refusal}
use Rattle.rules.specs.Plan.{Fetch, nothing, Store, keep, Seal, same, clear, Plan, refuse, guard, still}
use Rattle.rules.specs.Tests.{Access, read, write, device, is_own, may_reach, in_range, free_at, free_slot, all_open, with_card}
use Rattle.rules.specs.Decide.{released, registered, register_rule, unregister_rule, entered, call_entry, call_rule, out_from, return_rule, jump_legacy, read_rule, write_rule, source_right, source_reached, extend_rule, pcr_rule, decide}
use Rattle.rules.specs.Isolation.{runs, own_in}
use Rattle.rules.proofs.Ranges.{range_page, range_off, unlooked_off}
use Rattle.rules.proofs.Facts.{by_eq, not_is, card_below, device_open, open_named, running, owner_past, given_long, given_keeps, param_own, own_listed, out_small}
use Rattle.rules.proofs.ByRule.{checked, ByRule, by_rule}
use Rattle.rules.proofs.Safe.{Inside, size, SafeFetch, SafeStore, SafeSource, SafeSeal, After, keeps, frees, Safe}

module _ (k : ℕ) (f : Face) (short : length f.owner ≤ most_pages) (live : (card_at f k).registered ≡ true) where
  -- a plan that leaves cards and owners as they are
  stay : {p : Plan} → p.next.cards ≡ f.cards → p.next.owner ≡ f.owner → After k f p
  stay {p} c q =
      keeps (subst (λ (x : List Card). (get_or x k no_card).registered ≡ true) (sym c) live)
      (λ r. subst (λ (x : List ℕ). (owner_at f r ≡ k + 1 → get_or x r 0 ≡ k + 1) × (get_or x r 0 ≡ k + 1 → owner_at f r ≡ k + 1)) (sym q) (λ h. h, λ h. h))

  refuse_safe : (o : Bool) (n : ℕ) (r : Refusal) → Safe k f o n (refuse r f)
  refuse_safe o n r = record { fetches = tt; counts = omega arith; stores = tt; seals = tt; short = short; after = stay refl refl }

  guard_safe : {o : Bool} {n : ℕ} (b : Bool) (r : Refusal) (p : Plan) → (b ≡ true → Safe k f o n p) → Safe k f o n (guard b r f p)
  guard_safe {o} {n} b r p h = checked (Safe k f o n) b r f p (refuse_safe o n r) h

  -- a plan that leaves the face as it is
  still_safe : (o : Bool) (n : ℕ) (x : Fetch) (y : Store) (z : Seal) (a : Answer) → SafeFetch k f o x → size x ≤ fills a → SafeStore k f o n a y → SafeSeal k f o z → Safe k f o n (still f x y z a)
  still_safe o n x y z a h c s t = record { fetches = h; counts = c; stores = s; seals = t; short = short; after = stay refl refl }

  -- a range whose page is k's
  range_in : (a n : ℕ) → in_range f a n ≡ true → owner_at f (page_of a) ≡ k + 1 → Inside k f a n
  range_in a n e h i l u = ap (owner_at f) (range_page f.pages a n i e l u) ∙ h

  open_out : (p : ℕ) → is_open f p ≡ true → owner_at f p ≢ k + 1
  open_out p e q = omega (arith, eqb-true (owner_at f p) 0 (and_r (ltb p f.pages) _ e))

  -- what who is not k may read is not k's
  read_out : (m : Mode) (p : ℕ) → may_reach m f read p ≡ true → runs k m ≡ false → owner_at f p ≢ k + 1
  read_out Legacy p e o q = open_out p e q
  read_out (Secure j) p e o q = eqb-false j k o (omega (arith, eqb-true (owner_at f p) (j + 1) e))

  -- what k may write is its own
  write_in : (m : Mode) (p : ℕ) → may_reach m f write p ≡ true → runs k m ≡ true → owner_at f p ≡ k + 1
  write_in Legacy p e o = absurd (false≢true o)
  write_in (Secure j) p e o = omega (arith, eqb-true (owner_at f p) (j + 1) (and_l (is_own f j p) _ e), eqb-true j k o)

  read_safe : (m : Mode) (access : Access) (o : Bool) (n room a c : ℕ) → (o ≡ false → may_reach m f access (page_of a) ≡ true → owner_at f (page_of a) ≢ k + 1)
      → Safe k f o n (read_rule m f access room a c)
  unfolding read_rule
  read_safe m access o n room a c h =
      guard_safe _ _ _ λ r. guard_safe _ _ _ λ t. guard_safe _ _ _ λ b.
      still_safe o n _ _ _ _ (λ z. range_off (λ p. owner_at f p ≡ k + 1) f.pages a c r (h z t)) (omega arith) tt tt

  write_safe : (m : Mode) (access : Access) (o : Bool) (n a : ℕ) → (o ≡ true → may_reach m f access (page_of a) ≡ true → owner_at f (page_of a) ≡ k + 1)
      → Safe k f o n (write_rule m f access a n)
  unfolding write_rule
  write_safe m access o n a h =
      guard_safe _ _ _ λ r. guard_safe _ _ _ λ t.
      still_safe o n _ _ _ _ tt (omega arith) (λ z. range_in a n r (h z t)) tt

  call_safe : (n mark at i b : ℕ) → Safe k f false n (call_rule f mark at i b)
  unfolding call_rule call_entry entered
  call_safe n mark at i b =
      guard_safe _ _ _ λ s. guard_safe _ _ _ λ r. guard_safe _ _ _ λ r'. guard_safe _ _ _ λ p. guard_safe _ _ _ λ p'.
      record {
        fetches = tt;
        counts = omega arith;
        stores = (λ z. unlooked_off (λ x. owner_at f x ≡ k + 1) f.pages i _ _ r p (λ _. open_out (page_of i)), λ z. absurd (false≢true z));
        seals = tt;
        short = short;
        after = stay refl refl;
      }

  return_safe : Right f → (n j : ℕ) → Runs f j f.running → Safe k f (runs k (Secure j)) n (return_rule f j)
  unfolding return_rule
  return_safe g n j u =
      record {
        fetches = tt;
        counts = omega arith;
        stores = (
          λ o i l h q.
              let p : page_of i ≡ param_of (card_at f j).fields = omega (arith, out_small f g j u) in
              eqb-false j k o (omega (arith, sym (ap (owner_at f) p) ∙ q, param_own f g j u.below u.registered)),
          λ o. (refl, ap (out_from f) (eqb-true j k o)),
        );
        seals = tt;
        short = short;
        after = stay refl refl;
      }

  released_safe : Right f → (o : Bool) (n j : ℕ) (a : Answer) → j < slot_count → Safe k f o n (released f j a)
  unfolding released with_card
  released_safe g o n j a b =
      record { fetches = tt; counts = omega arith; stores = tt; seals = tt; short = given_long f.owner (card_at f j).fields 0; after = by_eq j k gone kept }
    where
      gone : j ≡ k → After k f (released f j a)
      gone q =
          frees (rw (q, get_or-set_same f.cards k zero_card no_card (card_below f k live)))
          _ refl (λ p h. own_listed f g j p short b (rw q h)) (ap clear q)

      kept : j ≢ k → After k f (released f j a)
      kept q =
          keeps (rw (get_or-set_other f.cards j k zero_card no_card (λ z. q (sym z))) live)
          (given_keeps f.owner (card_at f j).fields 0 (k + 1) short (omega arith) (omega arith) (λ p l h z. q (omega (arith, g.held p j b h))))

  source_safe : (j n : ℕ) (source : Source) (a c : ℕ) → source_right f source n a c ≡ true → source_reached f j source a c ≡ true → SafeSource k f (runs k (Secure j)) j source a c
  source_safe j n Payload a c r t = λ o. eqb-true j k o
  source_safe j n Memory a c r t = λ q. unlooked_off (λ p. owner_at f p ≡ k + 1) f.pages a c (is_own f j (page_of a)) r t (λ _ y z. q (omega (arith, eqb-true (owner_at f (page_of a)) (j + 1) y)))

  registered_safe : (o : Bool) (n j mark : ℕ) (x : Fields) → all_open f x ≡ true → (card_at f j).registered ≡ false → Safe k f o n (registered f j mark x)
  unfolding registered with_card
  registered_safe o n j mark x e u =
      record {
        fetches = tt;
        counts = omega arith;
        stores = tt;
        seals = λ p h. ⊎_elim
            (λ (l : p < most_pages). open_out p (open_named f x e p l (page_listed x p ∙ h)))
            (λ (l : most_pages ≤ p) z. absurd (omega (arith, owner_past f.owner p short l)))
            (lt_or_ge p most_pages);
        short = given_long f.owner x (j + 1);
        after = keeps (rw (get_or-set_other f.cards j k _ no_card apart) live)
            (given_keeps f.owner x (j + 1) (k + 1) short (omega arith) (λ z. apart (omega arith)) (λ p l h. open_out p (open_named f x e p l h)));
      }
    where
      apart : k ≢ j
      apart q = false≢true (sym u ∙ subst (λ (z : ℕ). (card_at f z).registered ≡ true) q live)

  -- ---- all the rules

  by_rules : Right f → (room n : ℕ) (man : Reading) → ByRule f room n man (λ e m p. Safe k f (own_in k m e) n p)
  unfolding register_rule free_slot unregister_rule jump_legacy extend_rule pcr_rule
  by_rules g room n man =
      record {
        registers = λ mark q. guard_safe _ _ _ λ t. guard_safe _ _ _ λ p. guard_safe _ _ _ λ s.
            registered_safe _ n (free_slot f) mark man.fields p (not_is _ (first_at (free_at f) slot_count (ltb-true _ slot_count s)));
        unregisters = λ mark j q. guard_safe _ _ _ λ t. released_safe g _ n j answer.Done (ltb-true j slot_count (and_l (ltb j slot_count) _ t));
        calls = λ mark a i b q. call_safe n mark a i b;
        returns = λ j q. return_safe g n j (running f g j q);
        jumps = λ a q. guard_safe _ _ _ λ t. guard_safe _ _ _ λ r. still_safe _ n _ _ _ _ tt (omega arith) tt tt;
        stays = λ a j q. still_safe _ n nothing keep same answer.Done tt (omega arith) tt tt;
        leaves = λ a j q. released_safe g _ n j (answer.Terminated j) (running f g j q).below;
        reads = λ a c. read_safe _ read _ n room a c (λ o t. read_out f.mode (page_of a) t o);
        writes = λ a. write_safe _ write _ n a (λ o t. write_in f.mode (page_of a) t o);
        device_reads = λ a c. read_safe _ device _ n room a c (λ o t. open_out (page_of a) (device_open f f.mode (page_of a) t));
        device_writes = λ a. write_safe _ device _ n a (λ o t. absurd (false≢true o));
        extends = λ i source a c j q. guard_safe _ _ _ λ t. guard_safe _ _ _ λ r. guard_safe _ _ _ λ s.
            still_safe _ n _ _ _ _ tt (omega arith) tt (source_safe j n source a c r s);
        pcr_reads = λ i j q. guard_safe _ _ _ λ t. guard_safe _ _ _ λ s. still_safe _ n _ _ _ _ (λ o. eqb-false j k o) (omega arith) tt tt;
      }

  pub decide_safe : (ok : Bool) → (ok ≡ true → Right f) → (room n : ℕ) (man : Reading) (e : Event) → Safe k f (own_in k f.mode e) n (decide f ok room n man e)
  decide_safe ok g room n man = by_rule f room n man (λ e m p. Safe k f (own_in k m e) n p) (λ e r a. refuse_safe _ n r) ok (λ t. by_rules (g t) room n man)
