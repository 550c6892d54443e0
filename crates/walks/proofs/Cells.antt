-- For a walk by hand: cells within cells, of a struct behind a reference and of an element of an array (`types.Part` has a field of a struct).
--     raw_whole    a cell at the raw form of a type, as it lies behind a reference, has the cell at the type within it
--     elt          an array's cell has element k's within it, k sizes on
--     lies, found  a value in memory: put together of its cell and what it owns, and taken apart
-- Assumes `Logic`.
use mathlib.Core.Bool.{Bool, true, false, not}
use mathlib.Core.Path.{◌≡◌, refl, ap, subst, ◌∙◌}
use Prim.Native.Nat.{ℕ, zero, suc, ◌+◌, ◌*◌, ◌<◌}
use native.Mathlib.Nat.{not-suc-le-zero, le_of_suc-le-suc}
use mathlib.Core.List.{[], ◌∷◌, List}
use lib.ListN.{length, get_or, set, length-set}
use lib.Seq.{set-get_or}
use lib.Dec.{T}
use seplogic.Ra.Ura.{Ura}
use base.Fraction.{full_share}
use mir.Syntax.{Ty, Local, local, ty_array, ty_bool}
use mir.Raw.{raw as raw_ty}
use mir.Val.{Val, vstruct, of_list}
use base.Logic.{SProp, ent, sep, wand, all, all_e, apply∗, id⊢}
use base.Fml.{Share, fat, froom, fdies, fsep}
use prog.Memory.{size}
use prog.Model.{elems}
use types.Logic.{Logic, sem}
use types.Kit.{Item, ‵, raw, ◌⊛◌, mean, ◌$◌, ◌∵◌, !, qed, move, use1, use2, split, assume, frame, each, fpick, fpack, fsplit, fjoin, done}
use types.Part.{Part}
use denote.Index.{place, place_is}
use denote.RattleType.{RattleType}
use denote.Laws.{Is, Tells, shows}
use denote.Memory.{mem, cell_at, part_of}
use denote.Struct.Steps.{spelt}

-- the types of a function's locals, by number
abbrev pub type_of : List Local → ℕ → Ty
type_of [] k = ty_bool
type_of (local τ z ∷ ls) zero = τ
type_of (local τ z ∷ ls) (suc k) = type_of ls k

-- and the blocks that they lie in
abbrev pub block_of : List ℕ → ℕ → ℕ
block_of [] k = 0
block_of (l ∷ ls) zero = l
block_of (l ∷ ls) (suc k) = block_of ls k

-- local i in its block: room for a value, a value, and the duty to free it
module _ {M : Type 1} {𝓤 : Ura M} (loc : ℕ → ℕ) (τ : Ty) (i : ℕ) where
  abbrev pub room : Item 𝓤
  room = ‵ (froom τ (loc i) 0)

  abbrev pub full : Val → Item 𝓤
  full v = ‵ (fat full_share τ (loc i) 0 v)

  abbrev pub dies : Item 𝓤
  dies = ‵ (fdies τ (loc i))

-- what a branch tells
pub holds : (y : Bool) → T y → y ≡ true
holds true _ = refl
holds false z = absurd z

pub fails : (y : Bool) → T (not y) → y ≡ false
fails true z = absurd z
fails false _ = refl

module _ {M : Type 1} {𝓤 : Ura M} {𝓛 : Logic 𝓤} {K : Type 0} where
  open 𝓛 use {H}

  pub raw_whole : K → (σ : Ty) {b o : ℕ} {v : Val} → Part K 𝓛 (‵ (fat full_share (raw_ty σ) b o v)) full_share σ b o v (λ u. ‵ (fat full_share (raw_ty σ) b o u))
  raw_whole t σ {b} {o} {v} = record {
    out = qed 𝓛 (‵ (fat full_share (raw_ty σ) b o v) ∷ []) ∵ use1 𝓛 (‵ (fat full_share σ b o v)) (𝓛.laws.raw_at full_share σ b o v) $ frame ! $
        each ! (λ (u : Val). wand 𝓤 (H.at full_share σ b o u) (H.at full_share (raw_ty σ) b o u)) (λ u. assume ! (‵ (fat full_share σ b o u)) $ use1 𝓛 (‵ (fat full_share (raw_ty σ) b o u)) (𝓛.laws.at_raw full_share σ b o u) $ done !);
    same = refl;
  }

module _ {M : Type 1} {𝓤 : Ura M} (𝓛 : Logic 𝓤) where
  -- the way from any value in element k's cell back to the elements' cells
  open 𝓛 use {H}

  abbrev Back : Share → Ty → ℕ → ℕ → List Val → ℕ → Val → SProp 𝓤
  Back q τ b o us k u = wand 𝓤 (H.at q τ b (place (size τ) o k) u) (elems 𝓤 H q τ b o (set us k u))

  elems_out : (q : Share) (τ : Ty) (us : List Val) (k : ℕ) (d : Val) (b o : ℕ) → k < length us → ent 𝓤 (elems 𝓤 H q τ b o us) (sep 𝓤 (H.at q τ b (place (size τ) o k) (get_or us k d)) (all 𝓤 (Back q τ b o us k)))
  elems_out q τ [] k d b o l = absurd (not-suc-le-zero l)
  elems_out q τ (v ∷ us) zero d b o l =
      qed 𝓛 (raw (elems 𝓤 H q τ b o (v ∷ us)) ∷ []) ∵ use1 𝓛 (‵ (fat q τ b o v) ⊛ raw (elems 𝓤 H q τ b (o + size τ) us)) (id⊢ 𝓤 _) $ split ! $ frame ! $
      each ! (Back q τ b o (v ∷ us) zero) (λ u. assume ! (‵ (fat q τ b o u)) $ done !)
  elems_out q τ (v ∷ us) (suc k) d b o l =
      qed 𝓛 (raw (elems 𝓤 H q τ b o (v ∷ us)) ∷ []) ∵ use1 𝓛 (‵ (fat q τ b o v) ⊛ raw (elems 𝓤 H q τ b (o + size τ) us)) (id⊢ 𝓤 _) $ split ! $ move ! (1 ∷ []) $
      use1 𝓛 (‵ (fat q τ b (place (size τ) (o + size τ) k) (get_or us k d)) ⊛ raw (all 𝓤 (Back q τ b (o + size τ) us k))) (elems_out q τ us k d b (o + size τ) (le_of_suc-le-suc l)) $ split ! $ frame ! $
      each ! (Back q τ b o (v ∷ us) (suc k)) (λ u. assume ! (‵ (fat q τ b (place (size τ) (o + size τ) k) u)) $
      -- [the element's cell with u; the way back; the first cell]
      move ! (1 ∷ []) $ use1 𝓛 (raw (Back q τ b (o + size τ) us k u)) (all_e 𝓤 (Back q τ b (o + size τ) us k) u) $ move ! (1 ∷ 0 ∷ []) $
      use2 𝓛 (raw (elems 𝓤 H q τ b (o + size τ) (set us k u))) (apply∗ 𝓤 (H.at q τ b (place (size τ) (o + size τ) k) u) (elems 𝓤 H q τ b (o + size τ) (set us k u))) $ move ! (1 ∷ 0 ∷ []) $ done !)

  module _ {K : Type 0} (t : K) {i : Item 𝓤} {q : Share} {τ : Ty} {n b o : ℕ} {back : Val → Item 𝓤} (us : List Val) (k : ℕ) (d : Val) (long : length us ≡ n) (l : k < length us) (p : Part K 𝓛 i q (ty_array τ n) b o (vstruct (of_list us)) back) where
    abbrev with : Val → Val
    with u = vstruct (of_list (set us k u))

    abbrev Entry : Val → SProp 𝓤
    Entry w = wand 𝓤 (H.at q (ty_array τ n) b o w) (mean 𝓛 (back w))

    together : (u : Val) → ent 𝓤 (elems 𝓤 H q τ b o (set us k u)) (H.at q (ty_array τ n) b o (with u))
    together u = subst (λ (z : ℕ). ent 𝓤 (elems 𝓤 H q τ b o (set us k u)) (H.at q (ty_array τ z) b o (with u))) (length-set us k u ∙ long) (𝓛.laws.elems_at q τ b o (set us k u))

    at_place : Part K 𝓛 i q τ b (place (size τ) o k) (get_or us k d) (λ u. back (with u))
    at_place = record {
      out = qed 𝓛 (i ∷ []) ∵ use1 𝓛 (‵ (fat q (ty_array τ n) b o (vstruct (of_list us))) ⊛ raw (all 𝓤 Entry)) p.out $ split ! $ use1 𝓛 (raw (elems 𝓤 H q τ b o us)) (𝓛.laws.at_elems q τ n b o us) $
          use1 𝓛 (‵ (fat q τ b (place (size τ) o k) (get_or us k d)) ⊛ raw (all 𝓤 (Back q τ b o us k))) (elems_out q τ us k d b o l) $ split ! $ frame ! $
          each ! (λ (u : Val). wand 𝓤 (H.at q τ b (place (size τ) o k) u) (mean 𝓛 (back (with u)))) (λ u. assume {P = mean 𝓛 (back (with u))} ! (‵ (fat q τ b (place (size τ) o k) u)) $
          -- [the element's cell with u; the way back to the elements; the way back to the entry]
          move ! (1 ∷ []) $ use1 𝓛 (raw (Back q τ b o us k u)) (all_e 𝓤 (Back q τ b o us k) u) $ move ! (1 ∷ 0 ∷ []) $
          use2 𝓛 (raw (elems 𝓤 H q τ b o (set us k u))) (apply∗ 𝓤 (H.at q τ b (place (size τ) o k) u) (elems 𝓤 H q τ b o (set us k u))) $ use1 𝓛 (‵ (fat q (ty_array τ n) b o (with u))) (together u) $
          move ! (1 ∷ []) $ use1 𝓛 (raw (Entry (with u))) (all_e 𝓤 Entry (with u)) $ move ! (1 ∷ 0 ∷ []) $ use2 𝓛 (back (with u)) (apply∗ 𝓤 (H.at q (ty_array τ n) b o (with u)) (mean 𝓛 (back (with u)))) $ done !);
      same = ap (λ (l : List Val). back (vstruct (of_list l))) (set-get_or us k d) ∙ p.same;
    }

    pub elt : Part K 𝓛 i q τ b (k * size τ + o) (get_or us k d) (λ u. back (with u))
    elt = subst (λ (z : ℕ). Part K 𝓛 i q τ b z (get_or us k d) (λ u. back (with u))) (place_is (size τ) o k) at_place

module _ {M : Type 1} {𝓤 : Ura M} (𝓛 : Logic 𝓤) (R : RattleType) (of : R.Denot → List Val) (tells : Tells R (Is R) of) (z : R.Denot) (b o : ℕ) where
  pub lies : ent 𝓤 (sep 𝓤 (sem 𝓛 (cell_at full_share R.mir (of z) b o)) (sem 𝓛 (R.own_val z (of z)))) (sem 𝓛 ((mem R).own_at z b o))
  unfolding part_of
  lies = qed 𝓛 (‵ (cell_at full_share R.mir (of z) b o) ∷ ‵ (R.own_val z (of z)) ∷ []) ∵ fjoin ! $ fpack ! (List Val) (λ us. fsep (cell_at full_share R.mir us b o) (R.own_val z us)) (of z) $ done !

  pub found : ent 𝓤 (sem 𝓛 ((mem R).own_at z b o)) (sep 𝓤 (sem 𝓛 (cell_at full_share R.mir (of z) b o)) (sem 𝓛 (R.own_val z (of z))))
  unfolding part_of
  found = qed 𝓛 (‵ ((mem R).own_at z b o) ∷ []) ∵ fpick ! (λ vs. fsplit ! $ spelt ! R (Is R) (shows 𝓛 R) of tells full_share z vs b o $ frame ! $ done !)
