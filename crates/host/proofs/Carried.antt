-- An event that was asked, carried out by code that meets the rules' step.
use Prim.Native.Nat.{ℕ, ◌+◌, ◌<◌, ◌^◌}
use mathlib.Core.Path.{◌≡◌, refl, sym, ap, subst, ◌∙◌}
use mathlib.Core.List.{List}
use lib.ListN.{length, get_or, set}
use Rattle.std.specs.Prelude.{Ok, Err}
use Rattle.geometry.specs.Geometry.{most_pages}
use Rattle.state.specs.declared.State.{State}
use Rattle.state.specs.declared.Slot.{Slot}
use Rattle.state.specs.declared.Running.{Running}
use Rattle.state.specs.Zero.{no_slot, zero_slot, zero_running}
use Rattle.state.specs.Slots.{extended_slot}
use Rattle.events.specs.declared.Event.{Event}
use Rattle.rules.specs.Act.{step}
use Rattle.change.specs.declared.Turn.{Turn}
use Rattle.change.specs.declared.Turn.TheVariants as turn
use Rattle.change.specs.declared.Change.{Change}
use Rattle.change.specs.Turns.{changed_by, fresh_slot, Fits}
use Rattle.change.proofs.Given.{given_painted}
use Rattle.change.proofs.Parts.{none_painted, open_painted, place_fits, seats, seat_fits, no_runs}
use Rattle.decide.specs.Allowed as Allowed
use Rattle.decide.specs.Looks.{looked, seen_in}
use Rattle.twin.specs.declared.Monitor.{Monitor}
use Rattle.twin.specs.declared.Request.{Request}
use Rattle.twin.specs.declared.NoEvent.{NoEvent}
use Rattle.twin.specs.Twin.{mode_of, number_of, opened_of, shut_of}
use Rattle.twin.specs.Asked.{Asked, asked_of}
use Rattle.twin.proofs.Laws.{given_back}
use Rattle.host.specs.declared.Heard.{Heard}
use Rattle.host.specs.Host.{Comes, heard_of, none_heard, stored, hosted, shown, host_asked, host_step, look_for, host_looked}

by_asked : (m : Monitor) (q : Request) (payload memory buffer : List ℕ) (a : Asked) → a ≡ asked_of q → host_asked a m payload memory buffer ≡ host_step m q payload memory buffer
unfolding host_step
by_asked m q payload memory buffer a e = ap (λ (x : Asked). host_asked x m payload memory buffer) e

-- what the event sees, of the state that the twin stands for
module _ (m : Monitor) (q : Request) (e : Event) (s : State) (ea : Ok e ≡ asked_of q) (es : s ≡ opened_of m) where
  pub looked_so : looked e s ≡ host_looked m q
  unfolding host_looked looked
  looked_so = ap (looked e) es ∙ ap (λ (a : Asked). seen_in (opened_of m) (look_for a (mode_of m.mode))) ea

-- the parts that are stored make the twin of the state after the change
module _ (m : Monitor) (b : m.mode < 2 ^ 64) (long : length m.owner ≡ most_pages) where
  same_mode : m.mode ≡ number_of (mode_of m.mode)
  same_mode = ap (λ (z : Monitor). z.mode) (sym (given_back m b))

  abbrev made : List ℕ → List Slot → ℕ → Running → Monitor
  made o l n x = record { pages = m.pages; kept = m.kept; owner = o; slots = l; mode = n; running = x }

  stored_so : (t : Turn) → Fits (opened_of m) t → stored m t ≡ shut_of (changed_by (opened_of m) t)
  stored_so turn.Kept f = sym (given_back m b)
  stored_so (turn.Enters y) f = refl
  stored_so (turn.Leaves y) f = refl
  stored_so (turn.Frees k) f = ap (λ (o : List ℕ). made o (set m.slots k zero_slot) 0 zero_running) (open_painted m.owner long m.slots k f.1)
  stored_so (turn.Extends k i d) f = λ j. made (none_painted m.owner j) (set m.slots k (extended_slot (get_or m.slots k no_slot) i d)) (same_mode j) m.running
  stored_so (turn.Enrolls k mark x d) f = λ j. made (given_painted m.owner x (k + 1) long f.1.fits j) (set m.slots k (fresh_slot mark x d)) (same_mode j) m.running

-- the rules' step of the state that the twin stands for, shown as C sees it
pub carried : (m : Monitor) (q : Request) (payload memory buffer memory' buffer' : List ℕ) (e : Event) (s : State) (c : Change) (r : Heard)
    → m.mode < 2 ^ 64 → length m.owner ≡ most_pages → Ok e ≡ asked_of q → s ≡ opened_of m → Allowed.Comes s c memory' buffer' (step s memory e payload buffer) → r ≡ heard_of c
    → Comes m r memory' buffer' (host_step m q payload memory buffer)
carried m q payload memory buffer memory' buffer' e s c r b long ea es comes er =
    let k = subst (λ (x : State). Allowed.Comes x c memory' buffer' (step x memory e payload buffer)) es comes in
    subst (λ (x : Heard). Comes m x memory' buffer' (host_step m q payload memory buffer)) (sym er)
    (record {
      out = ap (λ (z : Monitor). hosted (heard_of c).reply z memory' buffer') (stored_so m b long c.turn k.fits) ∙ (ap shown k.out ∙ by_asked m q payload memory buffer (Ok e) ea);
      slot_there = place_fits (opened_of m) c.turn k.fits;
      seats_so = seats (opened_of m) c.turn k.fits;
      runs_fit = seat_fits (opened_of m) c.turn k.fits;
    })

-- no event
pub not_carried : (m : Monitor) (q : Request) (payload memory buffer : List ℕ) (none : NoEvent) (r : Heard) → Err none ≡ asked_of q → r ≡ none_heard → Comes m r memory buffer (host_step m q payload memory buffer)
not_carried m q payload memory buffer none r ea er =
    subst (λ (x : Heard). Comes m x memory buffer (host_step m q payload memory buffer)) (sym er)
    (record { out = by_asked m q payload memory buffer (Err none) ea; slot_there = λ k e. cc; seats_so = tt; runs_fit = λ k e. no_runs })
