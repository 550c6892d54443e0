-- No plan writes a page that is neither open, nor the running slot's to write, nor a param page, nor a released slot's.
use Prim.Native.Nat.{ℕ, ◌+◌, ◌≤◌, ◌<◌}
use native.Mathlib.Omega.{arith}
use native.Mathlib.Nat.{div-add-mod'}
use mathlib.Core.Path.{◌≡◌, refl, ◌∙◌}
use mathlib.Core.Bool.{Bool, true}
use lib.Dec.{ltb, eqb}
use borrow.Author.Tests.{ltb-true, eqb-true, eqb-false}
use Rattle.lists.proofs.Logic.{and_l, decided}
use Rattle.geometry.specs.Geometry.{page_size, slot_count, page_of, start_of}
use Rattle.fields.specs.Fields.{entry_at}
use Rattle.fields.specs.Pages.{has_page, param_of}
use Rattle.fields.proofs.Facts.{EntryFacts, kept}
use Rattle.fields.proofs.PageLaws.{page_listed}
use Rattle.manifest.specs.declared.Reading.{Reading}
use Rattle.state.specs.declared.Mode.{Mode}
use Rattle.state.specs.declared.Mode.TheVariants.{Legacy, Secure}
use Rattle.state.specs.Face.{Face, card_at, top_of, is_open}
use Rattle.wellformed.proofs.Facts.{Right, card_rules}
use Rattle.wellformed.proofs.Runs.{Runs, out_range, out_open}
use Rattle.events.specs.declared.Event.{Event}
use Rattle.events.specs.declared.Answer.{Answer}
use Rattle.events.specs.declared.Answer.TheVariants as answer
use Rattle.events.specs.declared.Refusal.{Refusal}
use Rattle.events.specs.declared.Refusal.TheVariants.{RuleBroken, OutOfRange, NotReached, NotOpen, NoFreeSlot, NotFound, BufferShort, NoSuchPcr}
use Rattle.rules.specs.Plan.{Plan, guard}
use Rattle.rules.specs.Tests.{Access, write, device, may_reach, entry_of, slot_for}
use Rattle.rules.specs.Decide.{released, registered, register_rule, unregister_rule, entered, call_entry, call_rule, entry_for, return_rule, jump_legacy, read_rule, write_rule, extend_rule, pcr_rule, decide}
use Rattle.rules.proofs.Ranges.{range, range_off}
use Rattle.rules.proofs.Facts.{callable, device_open, running}
use Rattle.rules.proofs.ByRule.{checked, ByRule, by_rule}
use Rattle.integrity.proofs.Spared.{Spares}

-- the lengths of an entry in use
pub entry_short : (f : Face) → Right f → (k i : ℕ) → k < slot_count → (card_at f k).registered ≡ true → i < (card_at f k).fields.e → EntryFacts (card_at f k).fields (entry_at (card_at f k).fields i)
entry_short f r k i l u b = (kept (card_at f k).fields (card_rules (card_at f k) (top_of f) (r.cards k l) u)).entries_of.entry i b

-- bytes in the first or the second half of a page are on it
pub in_page : (p o n i : ℕ) → o + n ≤ page_size → start_of p + o ≤ i → i < start_of p + o + n → page_of i ≡ p
in_page p o n i h l u = omega (arith, div-add-mod' i page_size)

-- ---- pages shut to writing; H is asked of the face after the event

pub record Shut (f : Face) (Q : ℕ → Type 0) (H : Face → Type 0) : Type 0 where
  pub open_no : (p : ℕ) → is_open f p ≡ true → Q p → ⊥
  pub write_no : (j p : ℕ) → j < slot_count → p < f.pages → may_reach (Secure j) f write p ≡ true → Q p → ⊥
  pub param_no : (j : ℕ) → j < slot_count → (card_at f j).registered ≡ true → Q (param_of (card_at f j).fields) → ⊥
  pub gone_no : (j : ℕ) (a : Answer) → j < slot_count → H (released f j a).next → (p : ℕ) → has_page (card_at f j).fields p ≡ true → Q p → ⊥

module _ (f : Face) (r : Right f) (Q : ℕ → Type 0) (H : Face → Type 0) (shut : Shut f Q H) (size : ℕ) where
  abbrev Spared : Plan → Type 0
  Spared p = H p.next → Spares Q size p.store

  guarded : (t : Bool) (n : Refusal) (p : Plan) → (t ≡ true → Spared p) → Spared (guard t n f p)
  guarded t n p h = checked Spared t n f p (λ _. tt) h

  released_off : (k : ℕ) (a : Answer) → k < slot_count → Spared (released f k a)
  unfolding released
  released_off k a l h = λ p t q. shut.gone_no k a l h p (page_listed (card_at f k).fields p ∙ t) q

  call_off : (mark a i o : ℕ) → Spared (call_rule f mark a i o)
  unfolding call_rule call_entry entered
  call_off mark a i o =
      guarded _ NotFound _ λ s. guarded _ OutOfRange _ λ b. guarded _ OutOfRange _ λ c. guarded _ NotReached _ λ d. guarded _ NotReached _ λ g. λ _ j l u q.
      let k = slot_for f mark a in
      let x = callable f mark a s in
      let n = (entry_short f r k (entry_of (card_at f k).fields a) x.below x.registered x.used).input in
      let e : page_of j ≡ param_of (card_at f k).fields = in_page (param_of (card_at f k).fields) 0 (entry_for f k a).input j (omega arith) (omega arith) (omega arith) in
      shut.param_no k x.below x.registered (rw e at q)

  return_off : (k : ℕ) → Runs f k f.running → Spared (return_rule f k)
  unfolding return_rule
  return_off k x = λ _. decided (eqb f.running.length 0)
      (λ e i l u q. absurd (omega (arith, eqb-true f.running.length 0 e)))
      (λ e. let n = eqb-false f.running.length 0 e in
      range_off Q f.pages f.running.out f.running.length (out_range f f.running.out f.running.length x.out n)
      (shut.open_no (page_of f.running.out) (out_open f f.running.out f.running.length x.out n)))

  write_off : (m : Mode) (access : Access) (a : ℕ) → (page_of a < f.pages → may_reach m f access (page_of a) ≡ true → Q (page_of a) → ⊥) → Spared (write_rule m f access a size)
  unfolding write_rule
  write_off m access a h = guarded _ OutOfRange _ λ b. guarded _ NotReached _ λ c. λ _. range_off Q f.pages a size b (h (range f.pages a size b).below c)

  -- who may write a page by itself
  self_no : (m : Mode) → f.mode ≡ m → (p : ℕ) → p < f.pages → may_reach m f write p ≡ true → Q p → ⊥
  self_no Legacy e p l t = shut.open_no p t
  self_no (Secure k) e p l t = shut.write_no k p (running f r k e).below l t

  by_rules : (room : ℕ) (x : Reading) → ByRule f room size x (λ e m p. Spared p)
  unfolding register_rule registered unregister_rule jump_legacy read_rule extend_rule pcr_rule
  by_rules room x =
      record {
        registers = λ mark q. guarded _ RuleBroken _ λ a. guarded _ NotOpen _ λ b. guarded _ NoFreeSlot _ λ c _. tt;
        unregisters = λ mark k q. guarded _ NotFound _ λ t. released_off k answer.Done (ltb-true k slot_count (and_l (ltb k slot_count) _ t));
        calls = λ mark a i o q. call_off mark a i o;
        returns = λ k q. return_off k (running f r k q);
        jumps = λ a q. guarded _ OutOfRange _ λ b. guarded _ NotReached _ λ c _. tt;
        stays = λ a k q _. tt;
        leaves = λ a k q. released_off k (answer.Terminated k) (running f r k q).below;
        reads = λ a n. guarded _ OutOfRange _ λ b. guarded _ NotReached _ λ c. guarded _ BufferShort _ λ d _. tt;
        writes = λ a. write_off _ write a (self_no f.mode refl (page_of a));
        device_reads = λ a n. guarded _ OutOfRange _ λ b. guarded _ NotReached _ λ c. guarded _ BufferShort _ λ d _. tt;
        device_writes = λ a. write_off _ device a (λ l t. shut.open_no (page_of a) (device_open f f.mode (page_of a) t));
        extends = λ i source a n k q. guarded _ NoSuchPcr _ λ b. guarded _ OutOfRange _ λ c. guarded _ NotReached _ λ d _. tt;
        pcr_reads = λ i k q. guarded _ NoSuchPcr _ λ b. guarded _ BufferShort _ λ c _. tt;
      }

  pub decide_off : (ok : Bool) (room : ℕ) (x : Reading) (e : Event) → H (decide f ok room size x e).next → Spares Q size (decide f ok room size x e).store
  decide_off ok room x = by_rule f room size x (λ e m p. Spared p) (λ e n a _. tt) ok (λ t. by_rules room x)
