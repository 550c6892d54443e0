-- No plan reads a page that is neither open, nor the running slot's, nor a param page.
use Prim.Native.Nat.{ℕ, ◌<◌}
use native.Mathlib.Omega.{arith}
use mathlib.Core.Path.{◌≡◌, refl, ◌∙◌}
use mathlib.Core.Bool.{Bool, true}
use borrow.Author.Tests.{eqb-true}
use Rattle.geometry.specs.Geometry.{slot_count, half_page, page_of}
use Rattle.memory.specs.declared.Source.{Source}
use Rattle.memory.specs.declared.Source.TheVariants.{Payload, Memory}
use Rattle.fields.specs.Rules.{keeps_rules}
use Rattle.fields.specs.Pages.{has_page, param_of}
use Rattle.fields.proofs.PageLaws.{listed, page_listed, page_small}
use Rattle.manifest.specs.declared.Reading.{Reading}
use Rattle.state.specs.declared.Mode.{Mode}
use Rattle.state.specs.declared.Mode.TheVariants.{Legacy, Secure}
use Rattle.state.specs.Face.{Face, card_at, is_open}
use Rattle.wellformed.proofs.Facts.{Right}
use Rattle.wellformed.proofs.Runs.{Runs}
use Rattle.events.specs.declared.Event.{Event}
use Rattle.events.specs.declared.Answer.{Answer}
use Rattle.events.specs.declared.Answer.TheVariants as answer
use Rattle.events.specs.declared.Refusal.{Refusal}
use Rattle.events.specs.declared.Refusal.TheVariants.{RuleBroken, OutOfRange, NotReached, NotOpen, NoFreeSlot, NotFound, BufferShort, NoSuchPcr}
use Rattle.rules.specs.Plan.{Fetch, nothing, bytes, pcr, Store, keep, put, move, clean, Seal, same, clear, extend, measure, Plan, guard}
use Rattle.rules.specs.Tests.{Access, read, device, is_own, may_reach, slot_for}
use Rattle.rules.specs.Decide.{released, registered, register_rule, unregister_rule, entered, call_entry, call_rule, entry_for, return_rule, jump_legacy, read_rule, write_rule, source_right, source_reached, extend_rule, pcr_rule, decide}
use Rattle.rules.proofs.Ranges.{range, Apart, range_off, unlooked_off}
use Rattle.rules.proofs.Facts.{device_open, open_named, running, out_small}
use Rattle.rules.proofs.ByRule.{checked, ByRule, by_rule}
use Rattle.integrity.proofs.Shut.{in_page}

-- what is read of memory lies off Q
abbrev pub FetchOff : (ℕ → Type 0) → Fetch → Type 0
FetchOff Q nothing = Unit {0}
FetchOff Q (bytes a n) = Apart Q a n
FetchOff Q (pcr k i) = Unit {0}

abbrev pub StoreOff : (ℕ → Type 0) → Store → Type 0
StoreOff Q keep = Unit {0}
StoreOff Q (put a) = Unit {0}
StoreOff Q (move a b n) = Apart Q a n
StoreOff Q (clean ps) = Unit {0}

abbrev pub SourceOff : (ℕ → Type 0) → Source → ℕ → ℕ → Type 0
SourceOff Q Payload a n = Unit {0}
SourceOff Q Memory a n = Apart Q a n

abbrev pub SealOff : (ℕ → Type 0) → Seal → Type 0
SealOff Q same = Unit {0}
SealOff Q (clear k) = Unit {0}
SealOff Q (extend k i source a n) = SourceOff Q source a n
SealOff Q (measure k ps) = (p : ℕ) → listed p ps ≡ true → Q p → ⊥

pub record Blind (Q : ℕ → Type 0) (p : Plan) : Type 0 where
  pub fetches : FetchOff Q p.fetch
  pub stores : StoreOff Q p.store
  pub seals : SealOff Q p.seal

pub record Hidden (f : Face) (Q : ℕ → Type 0) : Type 0 where
  pub open_no : (p : ℕ) → is_open f p ≡ true → Q p → ⊥
  pub own_no : (j p : ℕ) → j < slot_count → p < f.pages → is_own f j p ≡ true → Q p → ⊥
  pub param_no : (j : ℕ) → j < slot_count → (card_at f j).registered ≡ true → Q (param_of (card_at f j).fields) → ⊥

module _ (f : Face) (r : Right f) (Q : ℕ → Type 0) (hidden : Hidden f Q) where
  keeping : {p : Plan} → p.fetch ≡ nothing → p.store ≡ keep → p.seal ≡ same → Blind Q p
  keeping x y z = record { fetches = rw x tt; stores = rw y tt; seals = rw z tt }

  guarded : (t : Bool) (n : Refusal) (p : Plan) → (t ≡ true → Blind Q p) → Blind Q (guard t n f p)
  guarded t n p h = checked (Blind Q) t n f p (keeping refl refl refl) h

  register_blind : (mark : ℕ) (x : Reading) → (x.refusal ≡ 0 → keeps_rules x.fields ≡ true) → Blind Q (register_rule f mark x)
  unfolding register_rule registered
  register_blind mark x rules =
      guarded _ RuleBroken _ λ a. guarded _ NotOpen _ λ b. guarded _ NoFreeSlot _ λ c.
      record {
        fetches = tt;
        stores = tt;
        seals = λ p t. let h : has_page x.fields p ≡ true = page_listed x.fields p ∙ t in
            hidden.open_no p (open_named f x.fields b p (page_small x.fields (rules (eqb-true x.refusal 0 a)) p h) h);
      }

  released_blind : (k : ℕ) (a : Answer) → Blind Q (released f k a)
  unfolding released
  released_blind k a = record { fetches = tt; stores = tt; seals = tt }

  call_blind : (mark a i o : ℕ) → Blind Q (call_rule f mark a i o)
  unfolding call_rule call_entry entered
  call_blind mark a i o =
      guarded _ NotFound _ λ s. guarded _ OutOfRange _ λ b. guarded _ OutOfRange _ λ c. guarded _ NotReached _ λ d. guarded _ NotReached _ λ g.
      record {
        fetches = tt;
        stores = unlooked_off Q f.pages i (entry_for f (slot_for f mark a) a).input (is_open f (page_of i)) b d (λ _ t. hidden.open_no (page_of i) t);
        seals = tt;
      }

  return_blind : (k : ℕ) → Runs f k f.running → Blind Q (return_rule f k)
  unfolding return_rule
  return_blind k x =
      record {
        fetches = tt;
        stores = λ i l u q.
            let e : page_of i ≡ param_of (card_at f k).fields = in_page (param_of (card_at f k).fields) half_page f.running.length i (omega (arith, out_small f r k x)) l u in
            hidden.param_no k x.below x.registered (rw e at q);
        seals = tt;
      }

  read_blind : (m : Mode) (access : Access) (room a n : ℕ) → (page_of a < f.pages → may_reach m f access (page_of a) ≡ true → Q (page_of a) → ⊥) → Blind Q (read_rule m f access room a n)
  unfolding read_rule
  read_blind m access room a n h =
      guarded _ OutOfRange _ λ b. guarded _ NotReached _ λ c. guarded _ BufferShort _ λ d.
      record { fetches = range_off Q f.pages a n b (h (range f.pages a n b).below c); stores = tt; seals = tt }

  source_off : (k size : ℕ) (source : Source) (a n : ℕ) → k < slot_count → source_right f source size a n ≡ true → source_reached f k source a n ≡ true → SourceOff Q source a n
  source_off k size Payload a n l x y = tt
  source_off k size Memory a n l x y = unlooked_off Q f.pages a n (is_own f k (page_of a)) x y (λ u t. hidden.own_no k (page_of a) l u t)

  self_no : (m : Mode) → f.mode ≡ m → (p : ℕ) → p < f.pages → may_reach m f read p ≡ true → Q p → ⊥
  self_no Legacy e p l t = hidden.open_no p t
  self_no (Secure k) e p l t = hidden.own_no k p (running f r k e).below l t

  by_rules : (room size : ℕ) (x : Reading) → (x.refusal ≡ 0 → keeps_rules x.fields ≡ true) → ByRule f room size x (λ e m p. Blind Q p)
  unfolding unregister_rule jump_legacy write_rule extend_rule pcr_rule
  by_rules room size x rules =
      record {
        registers = λ mark q. register_blind mark x rules;
        unregisters = λ mark k q. guarded _ NotFound _ λ t. released_blind k answer.Done;
        calls = λ mark a i o q. call_blind mark a i o;
        returns = λ k q. return_blind k (running f r k q);
        jumps = λ a q. guarded _ OutOfRange _ λ b. guarded _ NotReached _ λ c. keeping refl refl refl;
        stays = λ a k q. keeping refl refl refl;
        leaves = λ a k q. released_blind k (answer.Terminated k);
        reads = λ a n. read_blind _ read room a n (self_no f.mode refl (page_of a));
        writes = λ a. guarded _ OutOfRange _ λ b. guarded _ NotReached _ λ c. record { fetches = tt; stores = tt; seals = tt };
        device_reads = λ a n. read_blind _ device room a n (λ l t. hidden.open_no (page_of a) (device_open f f.mode (page_of a) t));
        device_writes = λ a. guarded _ OutOfRange _ λ b. guarded _ NotReached _ λ c. record { fetches = tt; stores = tt; seals = tt };
        extends = λ i source a n k q. guarded _ NoSuchPcr _ λ b. guarded _ OutOfRange _ λ c. guarded _ NotReached _ λ d.
            record { fetches = tt; stores = tt; seals = source_off k size source a n (running f r k q).below c d };
        pcr_reads = λ i k q. guarded _ NoSuchPcr _ λ b. guarded _ BufferShort _ λ c. record { fetches = tt; stores = tt; seals = tt };
      }

  pub decide_blind : (ok : Bool) (room size : ℕ) (x : Reading) → (x.refusal ≡ 0 → keeps_rules x.fields ≡ true) → (e : Event) → Blind Q (decide f ok room size x e)
  decide_blind ok room size x rules = by_rule f room size x (λ e m p. Blind Q p) (λ e n a. keeping refl refl refl) ok (λ t. by_rules room size x rules)
