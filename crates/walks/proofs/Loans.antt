-- What lies in memory is lent for one call, and comes back: as a `&mut`, at the value that the callee leaves, or as a `&`, as it was. For a walk by hand.
--     lent_mut, back_mut    a cell gives a `&mut` for a lifetime of its own, with the loan and the lifetime's token; these and the last value give the cell back
--     lent_shr, back_shr    the same for a `&`, of a type whose value can be lent out of the memory itself (`denote.Copied` has that of a type that is Copy)
-- Assumes `Logic`.
use Prim.Native.Nat.{ℕ}
use mathlib.Core.List.{[], ◌∷◌, List}
use seplogic.Ra.Ura.{Ura}
use base.Fraction.{full_share}
use mir.Syntax.{Lifetime}
use mir.Val.{Val, vptr}
use base.Logic.{ent}
use base.Fml.{GName, flft, flent, fres}
use types.Logic.{Logic, sem}
use types.Kit.{Item, Goal, Soaks, Sq, mean, ‵, ◌⊛◌, some, later, ◌$◌, !, move, drop, use1, use2, use3, split, pick, await}
use types.Tokens.{lft_new, lft_end, lent_back}
use types.SemTy.{Body}
use denote.RattleType.{RattleType}
use denote.Laws.{Is, Tells, Makes, shows}
use denote.Memory.{mem, cell_at, part_at, shared_of}
use denote.Ref.{Bor, MutBor, MutRef, ShrRef}
use denote.Lend.{lends_ref, ref_back, lends_free}
use denote.Lends.{Lent}
use denote.Steps.{owned, peeks}
use Rattle.walks.proofs.Cells.{lies, found}

-- the reference to a value at a place
abbrev pub ref : {D : Type 0} → ℕ → ℕ → D → GName → MutBor D
ref b o z γ = record { ref_ptr = (b, o); ghost_name = γ; now = z }

-- and a `&` to it, which has no name
abbrev pub shr : {D : Type 0} → ℕ → ℕ → D → Bor D
shr b o z = record { ref_ptr = (b, o); now = z }

-- a type, whose values have the words `of` and own nothing but facts, at a place
module _ {M : Type 1} {𝓤 : Ura M} (𝓛 : Logic 𝓤) (R : RattleType) (of : R.Denot → List Val) (tells : Tells R (Is R) of) (makes : Makes 𝓛 R (Is R)) (b o : ℕ) where
  open 𝓛 use {H}

  module _ {Γ : List (Item 𝓤)} {G : Goal 𝓤 H} (soaks : Soaks G) where
    -- what the loan of a value in memory gives for a lifetime of its own, its cell gives
    lent : (z : R.Denot) (ref-of loan-of : ℕ → GName → Item 𝓤) → ((ν : ℕ) → ent 𝓤 (sem 𝓛 ((mem R).own_at z b o)) (mean 𝓛 (later (some (λ (γ : GName). ref-of ν γ ⊛ loan-of ν γ))))) → Is R z (of z)
        → ((ν : ℕ) (γ : GName) → Sq 𝓛 (ref-of ν γ ∷ loan-of ν γ ∷ ‵ (flft (ν ∷ []) full_share) ∷ Γ) G) → Sq 𝓛 (‵ (cell_at full_share R.mir (of z) b o) ∷ Γ) G
    lent z ref-of loan-of lends is k =
        owned ! R (Is R) makes z (of z) is $ move ! (1 ∷ 0 ∷ []) $ use2 𝓛 (‵ ((mem R).own_at z b o)) (lies 𝓛 R of tells z b o) $ lft_new ! soaks (λ ν. move ! (1 ∷ []) $
        use1 𝓛 (later (some (λ (γ : GName). ref-of ν γ ⊛ loan-of ν γ))) (lends ν) $ await ! soaks $ pick ! (λ γ. split ! $ k ν γ))

    pub lent_mut : (ℓ : Lifetime) (z : R.Denot) → Is R z (of z)
        → ((ν : ℕ) (γ : GName) → Sq 𝓛 (‵ ((MutRef ℓ (ν ∷ []) R).own_val (ref b o z γ) (vptr b o ∷ [])) ∷ ‵ (flent (ν ∷ []) (Body (mem R) b o γ)) ∷ ‵ (flft (ν ∷ []) full_share) ∷ Γ) G) → Sq 𝓛 (‵ (cell_at full_share R.mir (of z) b o) ∷ Γ) G
    lent_mut ℓ z is k = lent z (λ ν γ. ‵ ((MutRef ℓ (ν ∷ []) R).own_val (ref b o z γ) (vptr b o ∷ []))) (λ ν γ. ‵ (flent (ν ∷ []) (Body (mem R) b o γ))) (λ ν. lends_ref 𝓛 R ℓ (ν ∷ []) z b o) is k

    pub lent_shr : (ℓ : Lifetime) (z : R.Denot) → Lent 𝓛 (part_at R full_share z b o) (shared_of R z b o) → Is R z (of z)
        → ((ν : ℕ) → Sq 𝓛 (‵ ((ShrRef ℓ (ν ∷ []) R).own_val (shr b o z) (vptr b o ∷ [])) ∷ ‵ (flent (ν ∷ []) (part_at R full_share z b o)) ∷ ‵ (flft (ν ∷ []) full_share) ∷ Γ) G) → Sq 𝓛 (‵ (cell_at full_share R.mir (of z) b o) ∷ Γ) G
    lent_shr ℓ z free is k =
        owned ! R (Is R) makes z (of z) is $ move ! (1 ∷ 0 ∷ []) $ use2 𝓛 (‵ ((mem R).own_at z b o)) (lies 𝓛 R of tells z b o) $ lft_new ! soaks (λ ν. move ! (1 ∷ []) $
        use1 𝓛 (later (‵ ((ShrRef ℓ (ν ∷ []) R).own_val (shr b o z) (vptr b o ∷ [])) ⊛ ‵ (flent (ν ∷ []) (part_at R full_share z b o)))) (lends_free 𝓛 R ℓ (ν ∷ []) full_share z b o free) $ await ! soaks $ split ! $ k ν)

    -- a value in memory is its cell
    cell_back : (z : R.Denot) → (Is R z (of z) → Sq 𝓛 (‵ (cell_at full_share R.mir (of z) b o) ∷ Γ) G) → Sq 𝓛 (‵ ((mem R).own_at z b o) ∷ Γ) G
    cell_back z k = use1 𝓛 (‵ (cell_at full_share R.mir (of z) b o) ⊛ ‵ (R.own_val z (of z))) (found 𝓛 R of tells z b o) $ split ! $ move ! (1 ∷ []) $ peeks ! R (Is R) (shows 𝓛 R) z (of z) (λ is. drop ! $ k is)

    pub back_mut : (z : R.Denot) (ν : ℕ) (γ : GName) → (Is R z (of z) → Sq 𝓛 (‵ (cell_at full_share R.mir (of z) b o) ∷ Γ) G) → Sq 𝓛 (‵ (flft (ν ∷ []) full_share) ∷ ‵ (flent (ν ∷ []) (Body (mem R) b o γ)) ∷ ‵ (fres γ (R.coded.code z)) ∷ Γ) G
    back_mut z ν γ k = lft_end ! soaks $ use3 𝓛 (later (‵ ((mem R).own_at z b o))) (ref_back 𝓛 R (ν ∷ []) γ z b o) $ await ! soaks $ cell_back z k

    pub back_shr : (z : R.Denot) (ν : ℕ) → Sq 𝓛 (‵ (cell_at full_share R.mir (of z) b o) ∷ Γ) G → Sq 𝓛 (‵ (flft (ν ∷ []) full_share) ∷ ‵ (flent (ν ∷ []) (part_at R full_share z b o)) ∷ Γ) G
    back_shr z ν k = lft_end ! soaks $ lent_back ! soaks $ cell_back z (λ _. k)
