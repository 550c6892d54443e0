-- What call and return ask of the state, and the ends of their rules.
use Prim.Native.Nat.{ℕ, ◌+◌, ◌≤◌, ◌<◌}
use native.Mathlib.Omega.{arith}
use mathlib.Core.Path.{◌≡◌, refl, sym, ap, subst, ◌∙◌}
use mathlib.Core.Bool.{Bool, true, false, ◌&&◌}
use mathlib.Core.List.{List}
use native.Mathlib.Decide.{ℕ_discrete}
use lib.ListN.{length, get_or}
use lib.Seq.{sets}
use lib.Dec.{ltb, eqb}
use borrow.Author.Tests.{eqb-true, ltb-true}
use Rattle.lists.specs.Below.{any_below}
use Rattle.lists.specs.Places.{if_below}
use Rattle.lists.proofs.Places.{position_first}
use Rattle.lists.specs.Bytes.{part}
use Rattle.lists.proofs.Logic.{and_l, and_r, decided}
use Rattle.lists.proofs.Any.{any_find, any_hit}
use Rattle.lists.proofs.First.{first_at}
use Rattle.geometry.specs.Geometry.{slot_count, half_page, page_of, start_of, most_pages}
use Rattle.fields.specs.declared.Entry.{Entry}
use Rattle.fields.specs.Rules.{keeps_rules}
use Rattle.fields.specs.Fields.{entry_places, entry_at}
use Rattle.fields.specs.Pages.{is_param_at, param_of}
use Rattle.fields.proofs.Facts.{kept}
use Rattle.fields.proofs.PageLaws.{param, param_page}
use Rattle.std.specs.Prelude.{Some, None, position}
use Rattle.state.specs.Slots.{entry_found}
use Rattle.state.specs.declared.Card.{Card}
use Rattle.state.specs.declared.Slot.{Slot}
use Rattle.state.specs.declared.Mode.{Mode}
use Rattle.state.specs.declared.Mode.TheVariants.{Legacy, Secure}
use Rattle.state.specs.declared.Running.{Running}
use Rattle.state.specs.declared.State.{State}
use Rattle.state.specs.Zero.{no_slot, zero_running}
use Rattle.state.specs.Face.{Face, face_of, pcrs_of, card_at, is_open, state_of}
use Rattle.state.proofs.Faces.{card_at_lem, slots_back}
use Rattle.wellformed.specs.WellFormed.{state_right, well_formed, output_at, out_right}
use Rattle.wellformed.proofs.Facts.{card_rules, card_free, held_under}
use Rattle.wellformed.proofs.Runs.{out_none, out_range}
use Rattle.events.specs.declared.Answer.TheVariants as answer
use Rattle.events.specs.declared.Refusal.TheVariants.{OutOfRange, NotReached, NotFound}
use Rattle.rules.specs.Plan.{refuse}
use Rattle.rules.specs.Tests.{in_range, unlooked, kept_as, under_mark, entry_of, callable_at, slot_for, with_mode}
use Rattle.rules.specs.Decide.{call_rule, call_entry, entry_for, entered, return_rule, out_from}
use Rattle.touch.specs.Carried.{Owned, IsSlot}
use Rattle.touch.proofs.Plans.{pass, stop}
use Rattle.rules.proofs.Ranges.{range_fits}
use Rattle.wellformed.proofs.States.{well_state, well_long}
use Rattle.touch.proofs.Ready.{right, few_pages, kept_in, runs_in_lem}
use Rattle.change.specs.declared.Change.{Change}
use Rattle.change.specs.declared.Turn.TheVariants.{Enters, Leaves}
use Rattle.change.specs.Turns.{in_mode, turn_of, Settles}
use Rattle.call.specs.declared.places.Sought.{Sought}
use Rattle.call.specs.Sought.{callable_in, sought_in}
use Rattle.call.proofs.Entries.{entry_at_lem, some_below}

module _ (s : State) (h : state_right s ≡ true) where
  -- entries in use have places
  few_entries_at : (k : ℕ) → k < slot_count → (card_at (face_of s) k).fields.e ≤ entry_places
  few_entries_at k l =
      let x = card_at (face_of s) k in
      decided x.registered
      (λ e. (kept_in s h k l e).bounds.few_entries)
      (λ e. let z = card_free x _ ((right s h).cards k l) e in
      let q = eqb-true x.fields.e 0 (and_r (eqb x.fields.r 0) _ (and_l (eqb x.fields.r 0 && eqb x.fields.e 0) _ (and_r (eqb x.mark 0) _ z))) in
      omega arith)

  pub few_entries : (k : ℕ) → k < slot_count → (get_or s.slots k no_slot).card.fields.e ≤ entry_places
  few_entries k l = subst (λ (x : Card). x.fields.e ≤ entry_places) (card_at_lem s.slots k) (few_entries_at k l)

  -- a registered slot has a param page, in memory
  module _ (k : ℕ) (l : k < slot_count) (g : (card_at (face_of s) k).registered ≡ true) where
    rules_in : keeps_rules (card_at (face_of s) k).fields ≡ true
    rules_in = card_rules (card_at (face_of s) k) _ ((right s h).cards k l) g

    has_param : any_below (card_at (face_of s) k).fields.r (is_param_at (card_at (face_of s) k).fields) ≡ true
    has_param =
        let x = (card_at (face_of s) k).fields in
        let w = param x (kept x rules_in).runs_of in
        sym (any_hit (is_param_at x) x.r w.at w.below w.is)

    pub param_in : param_of (card_at (face_of s) k).fields < s.pages
    param_in =
        let x = (card_at (face_of s) k).fields in
        omega (arith, held_under (face_of s) (right s h) (param_of x) k l (param_page x rules_in))

    -- as the code has the slot
    module _ (y : Slot) (e : IsSlot s k y) where
      card_same : card_at (face_of s) k ≡ y.card
      card_same = card_at_lem s.slots k ∙ ap (λ (z : Slot). z.card) (sym e)

      pub param_same : param_of y.card.fields ≡ param_of (card_at (face_of s) k).fields
      param_same = sym (ap (λ (x : Card). param_of x.fields) card_same)

      pub param_ready : (y.card.fields.r ≤ 4) × ((any_below y.card.fields.r (is_param_at y.card.fields) ≡ true)
          × (param_of y.card.fields < most_pages))
      param_ready =
          let q = subst (λ (x : Card). (x.fields.r ≤ 4) × (any_below x.fields.r (is_param_at x.fields) ≡ true)) card_same
          ((kept_in s h k l g).bounds.few_runs, has_param) in
          (q.0, (q.1, omega (arith, param_same, param_in, few_pages s h)))

  -- the running call's output is an entry's
  pub output_small : (k : ℕ) → s.mode ≡ Secure k → s.running.length ≤ half_page
  output_small k e =
      let z = runs_in_lem s h k e in
      let x = (card_at (face_of s) k).fields in
      let w = any_find (output_at x s.running.length) x.e z.output in
      let q = eqb-true (entry_at x w.at).output s.running.length w.is in
      omega (arith, ((kept_in s h k z.below z.registered).entries_of.entry w.at w.below).output)

-- its out range lies in memory
pub out_fits : (s : State) (n k : ℕ) → well_formed s n ≡ true → s.mode ≡ Secure k → s.running.out + s.running.length ≤ n
out_fits s n k w e =
    let h = well_state s n w in
    let z = runs_in_lem s h k e in
    go (ℕ_discrete s.running.length 0) z.out
  where
    go : Dec (s.running.length ≡ 0) → out_right (face_of s) s.running.out s.running.length ≡ true → s.running.out + s.running.length ≤ n
    go (yes q) t = omega (arith, out_none (face_of s) s.running.out s.running.length t q)
    go (no q) t = omega (arith, range_fits s.pages s.running.out s.running.length (out_range (face_of s) s.running.out s.running.length t q), well_long s n w)

-- ---- the state in another mode is the rule's

pub mode_state : (s : State) → length s.slots ≡ slot_count → (m : Mode) (x : Running) → in_mode s m x ≡ state_of (with_mode (face_of s) m x) (pcrs_of s)
unfolding state_of
mode_state s e m x =
    ap (λ (xs : List Slot). record { pages = s.pages; kept = s.kept; owner = s.owner; slots = xs; mode = m; running = x }) (sym (slots_back s.slots e))

-- ---- what the code has of the state

-- a page that is looked at, by its owner
pub open_by : (s : State) (a n v : ℕ) → Owned s (page_of a) v → unlooked n (is_open (face_of s) (page_of a)) ≡ unlooked n (ltb (page_of a) s.pages && eqb v 0)
open_by s a n v e = ap (λ (w : ℕ). unlooked n (ltb (page_of a) s.pages && eqb w 0)) (sym e)

-- the place of the first slot that the code would call
module _ (s : State) (h : state_right s ≡ true) (e : length s.slots ≡ slot_count) (mark a : ℕ) where
  callable_same : (k : ℕ) → k < length s.slots → callable_at (face_of s) mark a k ≡ callable_in (get_or s.slots k no_slot).card mark a
  callable_same k l =
      let y = (get_or s.slots k no_slot).card in
      ap (λ (x : Card). under_mark x mark && ltb (entry_of x.fields a) x.fields.e) (card_at_lem s.slots k)
      ∙ ap (λ (b : Bool). under_mark y mark && b) (sym (some_below y a (few_entries s h k (omega (arith, e)))))

  pub place_found : position (λ (x : Slot). callable_in x.card mark a) s.slots ≡ if_below slot_count (slot_for (face_of s) mark a)
  unfolding slot_for
  place_found = position_first (λ (x : Slot). callable_in x.card mark a) no_slot (callable_at (face_of s) mark a) s.slots callable_same slot_count e

-- a slot that was sought and found, and one that was not
module _ (s : State) (j : ℕ) where
  pub sought_at : (k : ℕ) → Some k ≡ if_below slot_count j → Some (record { k = k; slot = get_or s.slots k no_slot }) ≡ sought_in s j
  sought_at k e =
      decided (ltb j slot_count)
      (λ t. let q = rw t at e in let g : k ≡ j = cc in rw (t, g))
      (λ t. let q = rw t at e in cc)

  pub sought_none : None ≡ if_below slot_count j → None ≡ sought_in s j
  sought_none e =
      decided (ltb j slot_count)
      (λ t. let q = rw t at e in cc)
      (λ t. rw t)

  module _ (x : Sought) (e : Some x ≡ sought_in s j) where
    sought_both : (j < slot_count) × (x ≡ record { k = j; slot = get_or s.slots j no_slot })
    sought_both =
        decided (ltb j slot_count)
        (λ t. let q = rw t at e in (ltb-true j slot_count t, cc))
        (λ t. let q = rw t at e in cc)

    pub sought_k : x.k ≡ j
    sought_k = ap (λ (y : Sought). y.k) sought_both.1

    pub sought_below : x.k < slot_count
    sought_below = omega (arith, sought_both.0, sought_k)

    pub sought_slot : IsSlot s x.k x.slot
    sought_slot = ap (λ (y : Sought). y.slot) sought_both.1 ∙ ap (λ (i : ℕ). get_or s.slots i no_slot) (sym sought_k)

  pub sought_past : None ≡ sought_in s j → ltb j slot_count ≡ false
  sought_past e =
      decided (ltb j slot_count)
      (λ t. let q = rw t at e in cc)
      (λ t. t)

-- the entry that a slot at hand has is the state's
pub entry_by : (s : State) (k : ℕ) (x : Slot) (a : ℕ) → IsSlot s k x → entry_found (get_or s.slots k no_slot).card a ≡ entry_found x.card a
entry_by s k x a e = ap (λ (y : Slot). entry_found y.card a) (sym e)

-- ---- the ends of call

module _ (f : Face) (mark a i o : ℕ) where
  pub call_8 : ltb (slot_for f mark a) slot_count ≡ false → call_rule f mark a i o ≡ refuse NotFound f
  unfolding call_rule
  call_8 e = stop _ NotFound f _ e

  pub call_on : ltb (slot_for f mark a) slot_count ≡ true → call_rule f mark a i o ≡ call_entry f (slot_for f mark a) (entry_for f (slot_for f mark a) a) i o
  unfolding call_rule
  call_on e = pass _ NotFound f _ e

  -- the slot that is found is registered, with the entry
  pub slot_callable : slot_for f mark a < slot_count → callable_at f mark a (slot_for f mark a) ≡ true
  unfolding slot_for
  slot_callable l = first_at (callable_at f mark a) slot_count l

module _ (f : Face) (k : ℕ) (x : Entry) (i o : ℕ) where
  abbrev pub in_right : Bool
  in_right = unlooked x.input (in_range f i x.input)

  abbrev pub out_right_lem : Bool
  out_right_lem = unlooked x.output (in_range f o x.output)

  abbrev pub in_open : Bool
  in_open = unlooked x.input (is_open f (page_of i))

  abbrev pub out_open : Bool
  out_open = unlooked x.output (is_open f (page_of o))

  pub in_4 : in_right ≡ false → call_entry f k x i o ≡ refuse OutOfRange f
  unfolding call_entry
  in_4 e = stop in_right OutOfRange f _ e

  pub out_4 : in_right ≡ true → out_right_lem ≡ false → call_entry f k x i o ≡ refuse OutOfRange f
  unfolding call_entry
  out_4 e g = pass in_right OutOfRange f _ e ∙ stop out_right_lem OutOfRange f _ g

  pub in_5 : in_right ≡ true → out_right_lem ≡ true → in_open ≡ false → call_entry f k x i o ≡ refuse NotReached f
  unfolding call_entry
  in_5 e g p = pass in_right OutOfRange f _ e ∙ pass out_right_lem OutOfRange f _ g ∙ stop in_open NotReached f _ p

  pub out_5 : in_right ≡ true → out_right_lem ≡ true → in_open ≡ true → out_open ≡ false → call_entry f k x i o ≡ refuse NotReached f
  unfolding call_entry
  out_5 e g p q = pass in_right OutOfRange f _ e ∙ pass out_right_lem OutOfRange f _ g ∙ pass in_open NotReached f _ p ∙ stop out_open NotReached f _ q

  pub enter_on : in_right ≡ true → out_right_lem ≡ true → in_open ≡ true → out_open ≡ true → call_entry f k x i o ≡ entered f k x i o
  unfolding call_entry
  enter_on e g p q = pass in_right OutOfRange f _ e ∙ pass out_right_lem OutOfRange f _ g ∙ pass in_open NotReached f _ p ∙ pass out_open NotReached f _ q

-- entered, as the code leaves things
pub entered_settles : (s : State) → length s.slots ≡ slot_count → (k : ℕ) (x : Entry) (i o : ℕ) (payload m m' : List ℕ) (y : Running) (c : Change)
    → y ≡ record { slot = k; out = kept_as x.output o; length = x.output }
    → c ≡ turn_of (answer.Entered k) (Enters y)
    → m' ≡ sets m (start_of (param_of (card_at (face_of s) k).fields)) (part m i x.input)
    → Settles (entered (face_of s) k x i o) payload s m c m'
unfolding entered
entered_settles s e k x i o payload m m' y c p q r =
    subst (λ (z : Change). Settles (entered (face_of s) k x i o) payload s m z m') (sym (q ∙ ap (λ (z : Running). turn_of (answer.Entered k) (Enters z)) p))
    (record { steps = record { answer = refl; state = mode_state s e (Secure k) _; memory = r }; fits = tt })

pub returned_settles : (s : State) → length s.slots ≡ slot_count → (k : ℕ) (payload m m' : List ℕ) (c : Change)
    → c ≡ turn_of (answer.Left s.running.length) (Leaves zero_running)
    → m' ≡ sets m s.running.out (part m (out_from (face_of s) k) s.running.length)
    → Settles (return_rule (face_of s) k) payload s m c m'
unfolding return_rule
returned_settles s e k payload m m' c p q =
    subst (λ (z : Change). Settles (return_rule (face_of s) k) payload s m z m') (sym p)
    (record { steps = record { answer = refl; state = mode_state s e Legacy zero_running; memory = q }; fits = tt })

-- ---- what a call finds

pub record Named (s : State) (a k : ℕ) (y : Entry) : Type 0 where
  pub registered : (card_at (face_of s) k).registered ≡ true
  pub input : y.input ≤ half_page
  pub is : y ≡ entry_for (face_of s) k a

module _ (s : State) (h : state_right s ≡ true) (mark a k : ℕ) (e : k ≡ slot_for (face_of s) mark a) (l : k < slot_count) where
  callable : callable_at (face_of s) mark a k ≡ true
  callable = subst (λ (j : ℕ). callable_at (face_of s) mark a j ≡ true) (sym e) (slot_callable (face_of s) mark a 0 0 (omega arith))

  entry_below : entry_of (card_at (face_of s) k).fields a < (card_at (face_of s) k).fields.e
  entry_below = ltb-true _ _ (and_r (under_mark (card_at (face_of s) k) mark) _ callable)

  found_at : entry_found (get_or s.slots k no_slot).card a ≡ Some (entry_for (face_of s) k a)
  found_at =
      subst (λ (x : Card). entry_found x a ≡ Some (entry_for (face_of s) k a)) (card_at_lem s.slots k)
      (entry_at_lem (card_at (face_of s) k) a (few_entries_at s h k l) entry_below)

  pub found_entry : (y : Entry) → entry_found (get_or s.slots k no_slot).card a ≡ Some y → Named s a k y
  found_entry y g =
      let x = card_at (face_of s) k in
      let r = and_l x.registered _ (and_l (under_mark x mark) _ callable) in
      let q : y ≡ entry_for (face_of s) k a = let t = sym g ∙ found_at in cc in
      record {
        registered = r;
        input = subst (λ (z : Entry). z.input ≤ half_page) (sym q) ((kept_in s h k l r).entries_of.entry (entry_of x.fields a) entry_below).input;
        is = q;
      }

  pub found_some : entry_found (get_or s.slots k no_slot).card a ≡ None → ⊥
  found_some g = let t = sym g ∙ found_at in let z : ◌≡◌ {A = ℕ} 0 1 = cc in omega arith
