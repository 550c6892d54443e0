-- The plan of every rule keeps what well-formedness asks: of the face, and of free slots' µPCRs.
use Prim.Native.Nat.{ℕ, ◌+◌, ◌<◌}
use native.Mathlib.Omega.{arith}
use mathlib.Core.Path.{◌≡◌, refl, sym, ap, ◌∙◌}
use mathlib.Core.Logic.{◌≢◌}
use mathlib.Core.Bool.{Bool, true, false, false≢true}
use mathlib.Core.List.{List, []}
use lib.ListN.{length, set, length-set}
use lib.Seq.{get_or-set_same, get_or-set_other}
use lib.Dec.{ltb}
use borrow.Author.Tests.{ltb-true, eqb-true}
use Rattle.lists.proofs.First.{first_at}
use Rattle.lists.proofs.Logic.{and_l}
use Rattle.geometry.specs.Geometry.{slot_count}
use Rattle.sha_1.specs.declared.Digest.{Digest}
use Rattle.fields.specs.Rules.{keeps_rules}
use Rattle.manifest.specs.declared.Reading.{Reading}
use Rattle.state.specs.declared.Card.{Card}
use Rattle.state.specs.declared.Mode.TheVariants.{Legacy}
use Rattle.state.specs.Zero.{zero_card}
use Rattle.state.specs.Face.{Face, card_at}
use Rattle.wellformed.specs.WellFormed.{pcrs_zero, pcrs_right}
use Rattle.wellformed.proofs.Facts.{Right}
use Rattle.wellformed.proofs.States.{pcrs_free, of_pcrs}
use Rattle.wellformed.proofs.Zeros.{zero_pcrs_lem}
use Rattle.events.specs.declared.Event.{Event}
use Rattle.events.specs.declared.Answer.{Answer}
use Rattle.events.specs.declared.Answer.TheVariants as answer
use Rattle.events.specs.declared.Refusal.{Refusal}
use Rattle.events.specs.declared.Refusal.TheVariants.{RuleBroken, OutOfRange, NotReached, NotOpen, NoFreeSlot, NotFound, BufferShort, NoSuchPcr}
use Rattle.rules.specs.Plan.{Fetch, Store, Seal, same, clear, extend, measure, Plan, refuse, guard, still}
use Rattle.rules.specs.Tests.{entry_of, slot_for, free_at, free_slot, with_card}
use Rattle.rules.specs.Decide.{released, registered, register_rule, unregister_rule, entered, call_entry, call_rule, return_rule, jump_legacy, read_rule, write_rule, extend_rule, pcr_rule, decide}
use Rattle.rules.specs.Act.{zero_pcrs, sealed}
use Rattle.rules.proofs.Facts.{by_eq, not_is, callable, running}
use Rattle.rules.proofs.ByRule.{checked, ByRule, by_rule}
use Rattle.preserved.proofs.Given.{card_there, card_else}
use Rattle.preserved.proofs.Nexts.{right_registered, right_freed, right_left, right_entered}

-- slot k is registered in both faces, or in neither
abbrev Alike : Face → Face → ℕ → Type 0
Alike f g k = (card_at g k).registered ≡ (card_at f k).registered

-- what is done to the µPCRs fits the slots before (f) and after (g)
abbrev pub Fits : Face → Face → Seal → Type 0
Fits f g same = (j : ℕ) → Alike f g j
Fits f g (clear k) = (j : ℕ) → j ≢ k → Alike f g j
Fits f g (extend k i source a n) = ((card_at g k).registered ≡ true) × ((j : ℕ) → j ≢ k → Alike f g j)
Fits f g (measure k pages) = ((card_at g k).registered ≡ true) × ((j : ℕ) → j ≢ k → Alike f g j)

pub record Good (f : Face) (p : Plan) : Type 0 where
  pub right : Right p.next
  pub pages : p.next.pages ≡ f.pages
  pub kept : p.next.kept ≡ f.kept
  pub long : length p.next.cards ≡ length f.cards
  pub seals : Fits f p.next p.seal
  -- a slot that stays registered keeps its card
  pub cards : (j : ℕ) → (card_at f j).registered ≡ true → (card_at p.next j).registered ≡ true → card_at p.next j ≡ card_at f j

-- ---- the µPCRs of free slots stay zero

module _ (f g : Face) (pcrs : List (List Digest)) (eight : length pcrs ≡ slot_count) (h : pcrs_right f pcrs ≡ true) where
  -- one slot's are set, and it is registered or they are zero
  set_right : (k : ℕ) (x : List Digest) → ((card_at g k).registered ≡ false → pcrs_zero x ≡ true) → ((j : ℕ) → j ≢ k → Alike f g j) → pcrs_right g (set pcrs k x) ≡ true
  set_right k x z e =
      of_pcrs g (set pcrs k x)
      (λ j l u. by_eq j k
      (λ q. rw (q, get_or-set_same pcrs k x [] (omega arith)) (z (rw q at u)))
      (λ q. rw (get_or-set_other pcrs k j x [] q) (pcrs_free f pcrs h j l (sym (e j q) ∙ u))))

  pub seal_right : (s : Seal) (payload m : List ℕ) → Fits f g s → pcrs_right g (sealed s payload m pcrs) ≡ true
  seal_right same payload m e = of_pcrs g pcrs (λ j l u. pcrs_free f pcrs h j l (sym (e j) ∙ u))
  seal_right (clear k) payload m e = set_right k zero_pcrs (λ _. zero_pcrs_lem) e
  seal_right (extend k i source a n) payload m e = set_right k _ (λ u. absurd (false≢true (sym u ∙ e.0))) e.1
  seal_right (measure k pages) payload m e = set_right k _ (λ u. absurd (false≢true (sym u ∙ e.0))) e.1

-- as many slots' µPCRs as before
pub seal_long : (s : Seal) (payload m : List ℕ) (pcrs : List (List Digest)) → length (sealed s payload m pcrs) ≡ length pcrs
seal_long same payload m pcrs = refl
seal_long (clear k) payload m pcrs = length-set pcrs k zero_pcrs
seal_long (extend k i source a n) payload m pcrs = length-set pcrs k _
seal_long (measure k pages) payload m pcrs = length-set pcrs k _

-- ---- the rules

module _ (f : Face) (r : Right f) (eight : length f.cards ≡ slot_count) where
  refuse_good : (n : Refusal) → Good f (refuse n f)
  refuse_good n = record { right = r; pages = refl; kept = refl; long = refl; seals = λ k. refl; cards = λ j u v. refl }

  guard_good : (t : Bool) (n : Refusal) (p : Plan) → (t ≡ true → Good f p) → Good f (guard t n f p)
  guard_good t n p h = checked (Good f) t n f p (refuse_good n) h

  still_good : (x : Fetch) (y : Store) (z : Seal) (a : Answer) → Fits f f z → Good f (still f x y z a)
  still_good x y z a h = record { right = r; pages = refl; kept = refl; long = refl; seals = h; cards = λ j u v. refl }

  register_good : (mark : ℕ) (x : Reading) → (x.refusal ≡ 0 → keeps_rules x.fields ≡ true) → f.mode ≡ Legacy → Good f (register_rule f mark x)
  unfolding register_rule registered free_slot with_card
  register_good mark x rules e =
      guard_good _ RuleBroken _ λ a. guard_good _ NotOpen _ λ b. guard_good _ NoFreeSlot _ λ c.
      let k = free_slot f in
      let l : k < slot_count = ltb-true k slot_count c in
      let new : Card = record { registered = true; mark = mark; fields = x.fields } in
      let spare : (card_at f k).registered ≡ false = not_is (card_at f k).registered (first_at (free_at f) slot_count l) in
      record {
        right = right_registered f r k mark x.fields (rules (eqb-true x.refusal 0 a)) b l eight spare e;
        pages = refl;
        kept = refl;
        long = length-set f.cards k new;
        seals = (ap (λ (y : Card). y.registered) (card_there f k new x.fields (k + 1) (omega arith)), λ j q. ap (λ (y : Card). y.registered) (card_else f k new x.fields (k + 1) j q));
        cards = λ j u v. card_else f k new x.fields (k + 1) j (λ q. false≢true (sym spare ∙ rw q at u));
      }

  released_good : (k : ℕ) (a : Answer) → k < slot_count → Good f (released f k a)
  unfolding released with_card
  released_good k a l =
      record {
        right = right_freed f r k l eight;
        pages = refl;
        kept = refl;
        long = length-set f.cards k zero_card;
        seals = λ j q. ap (λ (y : Card). y.registered) (card_else f k zero_card (card_at f k).fields 0 j q);
        cards = λ j u v. card_else f k zero_card (card_at f k).fields 0 j (λ q. false≢true (sym (ap (λ (y : Card). y.registered) (card_there f k zero_card (card_at f k).fields 0 (omega arith))) ∙ rw q at v));
      }

  call_good : (mark a i o : ℕ) → Good f (call_rule f mark a i o)
  unfolding call_rule call_entry entered
  call_good mark a i o =
      guard_good _ NotFound _ λ s. guard_good _ OutOfRange _ λ b. guard_good _ OutOfRange _ λ c. guard_good _ NotReached _ λ d. guard_good _ NotReached _ λ g.
      let k = slot_for f mark a in
      let y = callable f mark a s in
      record { right = right_entered f r k (entry_of (card_at f k).fields a) o y.below y.registered y.used c g; pages = refl; kept = refl; long = refl; seals = λ j. refl; cards = λ j u v. refl }

  by_rules : (room size : ℕ) (x : Reading) → (x.refusal ≡ 0 → keeps_rules x.fields ≡ true) → ByRule f room size x (λ e m p. Good f p)
  unfolding unregister_rule return_rule jump_legacy read_rule write_rule extend_rule pcr_rule
  by_rules room size x rules =
      record {
        registers = λ mark q. register_good mark x rules q;
        unregisters = λ mark k q. guard_good _ NotFound _ λ t. released_good k answer.Done (ltb-true k slot_count (and_l (ltb k slot_count) _ t));
        calls = λ mark a i o q. call_good mark a i o;
        returns = λ k q. record { right = right_left f r; pages = refl; kept = refl; long = refl; seals = λ j. refl; cards = λ j u v. refl };
        jumps = λ a q. guard_good _ OutOfRange _ λ b. guard_good _ NotReached _ λ c. still_good _ _ same _ (λ j. refl);
        stays = λ a k q. still_good _ _ same _ (λ j. refl);
        leaves = λ a k q. released_good k (answer.Terminated k) (running f r k q).below;
        reads = λ a n. guard_good _ OutOfRange _ λ b. guard_good _ NotReached _ λ c. guard_good _ BufferShort _ λ d. still_good _ _ same _ (λ j. refl);
        writes = λ a. guard_good _ OutOfRange _ λ b. guard_good _ NotReached _ λ c. still_good _ _ same _ (λ j. refl);
        device_reads = λ a n. guard_good _ OutOfRange _ λ b. guard_good _ NotReached _ λ c. guard_good _ BufferShort _ λ d. still_good _ _ same _ (λ j. refl);
        device_writes = λ a. guard_good _ OutOfRange _ λ b. guard_good _ NotReached _ λ c. still_good _ _ same _ (λ j. refl);
        extends = λ i source a n k q. guard_good _ NoSuchPcr _ λ b. guard_good _ OutOfRange _ λ c. guard_good _ NotReached _ λ d.
            still_good _ _ (extend k i source a n) _ ((running f r k q).registered, λ j q. refl);
        pcr_reads = λ i k q. guard_good _ NoSuchPcr _ λ b. guard_good _ BufferShort _ λ c. still_good _ _ same _ (λ j. refl);
      }

  pub decide_good : (ok : Bool) (room size : ℕ) (x : Reading) → (x.refusal ≡ 0 → keeps_rules x.fields ≡ true) → (e : Event) → Good f (decide f ok room size x e)
  decide_good ok room size x rules = by_rule f room size x (λ e m p. Good f p) (λ e n a. refuse_good n) ok (λ t. by_rules room size x rules)
