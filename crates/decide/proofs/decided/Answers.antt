use Rattle.decide.proofs.Ends.{comes_on, refuses_1, refuses_2}
use Rattle.decide.proofs.Sights.{not_right, not_long, well, nothing, something, sees}
use Rattle.touch.proofs.Ready.{few_pages}
use Rattle.state.proofs.Shaped.{state_shape}
use mathlib.Core.Path.{sym, ◌∙◌}
use Rattle.decide.proofs.decided.Goals as goal

pub returns-in_default : goal.returns-in_default
returns-in_default c =
    let a = c.args in
    let s = a.s in
    refuses_1 s (state_shape s _ c.well_formed.1.1.1.0).slots_long a.payload.now a.buffer.now a.memory.now a.event _ c.kept.ensures
    (not_right s _ (nothing s a.event (sym c.in_default.is ∙ c.requires)))

pub start_of-requires : goal.start_of-requires
start_of-requires c = let a = c.args in few_pages a.s (something a.s a.event _ (sym c.in-Some.is ∙ c.requires))

pub returns-then-memory-start_of : goal.returns-then-memory-start_of
returns-then-memory-start_of c =
    let a = c.args in
    let s = a.s in
    let r = something s a.event _ (sym c.in-Some.is ∙ c.requires) in
    refuses_1 s (state_shape s _ c.well_formed.1.1.1.0).slots_long a.payload.now a.buffer.now a.memory.now a.event _ c.kept-then-memory-start_of.ensures
    (not_long s _ r (λ e. c.if-memory-start_of.true (e ∙ sym c.start_of.ensures)))

pub returns-then-not-allowed : goal.returns-then-not-allowed
returns-then-not-allowed c =
    let a = c.args in
    let s = a.s in
    let r = something s a.event _ (sym c.in-Some.is ∙ c.requires) in
    refuses_2 s (state_shape s _ c.well_formed.1.1.1.0).slots_long a.payload.now a.buffer.now a.memory.now a.event _ c.kept-then-not-allowed.ensures
    (well s _ r (c.if-memory-start_of.false ∙ c.start_of.ensures))
    (sym c.allowed.ensures ∙ c.if-not-allowed.true)

pub dispatch-requires : goal.dispatch-requires
dispatch-requires c =
    let a = c.args in
    let s = a.s in
    let h = sym c.in-Some.is ∙ c.requires in
    (well s _ (something s a.event _ h) (c.if-memory-start_of.false ∙ c.start_of.ensures), (sym c.allowed.ensures ∙ c.if-not-allowed.false, sees s a.event _ h))

pub returns : goal.returns
returns c =
    let a = c.args in
    comes_on a.s a.payload.now a.buffer.now a.memory.now a.event
    (well a.s _ (something a.s a.event _ (sym c.in-Some.is ∙ c.requires)) (c.if-memory-start_of.false ∙ c.start_of.ensures))
    c.dispatch.ensures
