use Rattle.touch.proofs.Ready.{mode_below, card_is, few_runs_in}
use Rattle.touch.specs.Carried.{Asks}
use Rattle.touch.specs.declared.pages.Access.{Access}
use mathlib.Core.Bool.{◌&&◌, not}
use mathlib.Core.Path.{subst}
use Rattle.touch.proofs.pages.may_reach.Goals as goal

pub is_own-requires : goal.is_own-requires
is_own-requires c =
    let a = c.args in
    let w = subst (λ (x : Access). Asks a.s a.slot a.v x a.page) c.in-Read-Secure.is-0 c.requires in
    mode_below a.s w.0 _ c.in-Read-Secure.is-1

pub is_own-requires-in-Write-Secure : goal.is_own-requires-in-Write-Secure
is_own-requires-in-Write-Secure c =
    let a = c.args in
    let w = subst (λ (x : Access). Asks a.s a.slot a.v x a.page) c.in-Write-Secure.is-0 c.requires in
    mode_below a.s w.0 _ c.in-Write-Secure.is-1

pub in_code_of-requires : goal.in_code_of-requires
in_code_of-requires c =
    let a = c.args in
    let w = subst (λ (x : Access). Asks a.s a.slot a.v x a.page) c.in-Write-Secure.is-0 c.requires in
    let e = c.in-Write-Secure.is-1 in
    few_runs_in a.s w.0 _ a.slot (mode_below a.s w.0 _ e) (w.1.1 _ e)

pub returns-in-Write-Secure : goal.returns-in-Write-Secure
returns-in-Write-Secure c =
    let a = c.args in
    let w = subst (λ (x : Access). Asks a.s a.slot a.v x a.page) c.in-Write-Secure.is-0 c.requires in
    let e = c.in-Write-Secure.is-1 in
    rw (c.in-Write-Secure.is-0, e, ← w.1.0, ← card_is a.s _ a.slot (w.1.1 _ e)) (λ i. c.is_own-in-Write-Secure.ensures i && not (c.in_code_of.ensures i))
