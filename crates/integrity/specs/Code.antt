-- Code integrity, after the related SecVisor design: a codeblock runs the code that was measured, from its entries on.
use Rattle.std.specs.Prelude.{ℕ, ◌+◌, ◌<◌, ◌≡◌, ◌⊎◌, true, List, [], ◌∷◌, get_or}
use Rattle.geometry.specs.Geometry.{page_of}
use Rattle.fields.specs.Fields.{entry_at}
use Rattle.fields.specs.Rules.{in_code}
use Rattle.state.specs.declared.Card.{Card}
use Rattle.state.specs.declared.State.{State}
use Rattle.state.specs.declared.Mode.TheVariants.{Secure}
use Rattle.state.specs.Zero.{no_slot}
use Rattle.events.specs.declared.Event.{Event}
use Rattle.events.specs.declared.Event.TheVariants.{Call, Jump}
use Rattle.events.specs.declared.Answer.TheVariants.{Done}
use Rattle.rules.specs.Act.{World, step}
use Rattle.preserved.specs.Preserved.{Well, Ask, after_one, after}

-- slot k's card
abbrev pub card_in : State → ℕ → Card
card_in s k = (get_or s.slots k no_slot).card

abbrev pub Registered : ℕ → State → Type 0
Registered k s = (card_in s k).registered ≡ true

-- slot k is registered after each of the events, so none of them releases it
abbrev pub Lasts : ℕ → World → List Ask → Type 0
Lasts k w [] = Unit {0}
Lasts k w (x ∷ xs) = Registered k (after_one w x).state × Lasts k (after_one w x) xs

-- its card is the same one, so its code pages and entries too, and so is every byte on them
pub record CodeSame (k : ℕ) (w w' : World) : Type 0 where
  pub card : card_in w'.state k ≡ card_in w.state k
  pub bytes : (i : ℕ) → in_code (card_in w.state k).fields (page_of i) ≡ true → get_or w'.memory i 0 ≡ get_or w.memory i 0

-- Whatever the events, from a well-formed state with its memory, by whomever they are made: as long as a registered slot is not released, no byte of its
-- code pages changes.
abbrev pub CodeKept : Type 0
CodeKept = (k : ℕ) (w : World) (xs : List Ask) → Well w.state w.memory → Registered k w.state → Lasts k w xs → CodeSame k w (after w xs)

-- the event is a call at the address of an entry in use of registered slot k, under its mark
pub record Enters (s : State) (k : ℕ) (e : Event) : Type 0 where
  pub mark : ℕ
  pub address : ℕ
  pub input : ℕ
  pub output : ℕ
  pub event : e ≡ Call mark address input output
  pub registered : Registered k s
  pub under : (card_in s k).mark ≡ mark
  pub place : ℕ
  pub used : place < (card_in s k).fields.e
  pub at : (entry_at (card_in s k).fields place).address ≡ address

-- Whatever the state, the memory and the event: if slot k runs after it, slot k ran before it, or the event entered it by a call at one of its entries.
abbrev pub EnteredByCall : Type 0
EnteredByCall =
    (s : State) (m : List ℕ) (e : Event) (payload buffer : List ℕ) (k : ℕ) → (step s m e payload buffer).state.mode ≡ Secure k
    → (s.mode ≡ Secure k) ⊎ Enters s k e

-- the page is the slot's own, and a code page
pub record OwnCode (s : State) (k p : ℕ) : Type 0 where
  pub own : get_or s.owner p 0 ≡ k + 1
  pub code : in_code (card_in s k).fields p ≡ true

-- Whatever the state and the memory: a jump that is done while slot k runs lands on a code page of slot k's own.
abbrev pub JumpsStay : Type 0
JumpsStay =
    (s : State) (m : List ℕ) (a : ℕ) (payload buffer : List ℕ) (k : ℕ) → s.mode ≡ Secure k → (step s m (Jump a) payload buffer).answer ≡ Done → OwnCode s k (page_of a)
