-- The zero tests and the zero values: what passes is the value, given its shape, and the value passes.
use Prim.Native.Nat.{ℕ, ◌<◌}
use mathlib.Core.Path.{◌≡◌, refl, sym, ap, ◌∙◌}
use mathlib.Core.Bool.{Bool, true, false, ◌&&◌}
use mathlib.Core.List.{List}
use lib.ListN.{length, get_or, replicate, length-replicate, get_or-replicate}
use lib.Seq.{ext_get_or}
use lib.Dec.{eqb}
use borrow.Author.Tests.{eqb-true}
use Rattle.lists.specs.Below.{all_below}
use Rattle.lists.proofs.Logic.{and_l, and_r}
use Rattle.lists.proofs.All.{all_at}
use Rattle.geometry.specs.Geometry.{pcr_count, digest_size}
use Rattle.sha_1.specs.declared.Digest.{Digest}
use Rattle.fields.specs.declared.Run.{Run}
use Rattle.fields.specs.declared.Entry.{Entry}
use Rattle.fields.specs.declared.Fields.{Fields}
use Rattle.fields.specs.Fields.{run_places, entry_places, no_run, no_entry, zero_fields, run_at, entry_at}
use Rattle.fields.proofs.Facts.{run_zero_lem, entry_zero_lem}
use Rattle.state.specs.declared.Card.{Card}
use Rattle.state.specs.Zero.{zero_pcr, zero_card, no_pcr}
use Rattle.state.proofs.Shape.{Each, each_in, DigestShape, FieldsShape, CardShape}
use Rattle.wellformed.specs.WellFormed.{run_zero_at, entry_zero_at, fields_zero, card_zero, byte_zero_at, pcr_zero_at, pcrs_zero, card_right}

-- a list that has one value at each place
same_each : {A : Type 0} (d x : A) (xs : List A) (n : ℕ) → length xs ≡ n → ((i : ℕ) → i < n → get_or xs i d ≡ x) → xs ≡ replicate n x
same_each d x xs n e h =
    ext_get_or d xs (replicate n x) (e ∙ sym (length-replicate n x))
    (λ i l. let b : i < n = rw e at l in h i b ∙ sym (get_or-replicate n i x d b))

fields_zero_lem : (f : Fields) → FieldsShape f → fields_zero f ≡ true → f ≡ zero_fields
fields_zero_lem f g h =
    let t = and_l (eqb f.r 0 && eqb f.e 0) _ h in
    let u = and_r (eqb f.r 0 && eqb f.e 0) _ h in
    let a = eqb-true f.r 0 (and_l (eqb f.r 0) _ t) in
    let b = eqb-true f.e 0 (and_r (eqb f.r 0) _ t) in
    let p = same_each no_run no_run f.runs run_places g.runs_long (λ i l. run_zero_lem (run_at f i) (all_at (run_zero_at f) run_places (and_l (all_below run_places (run_zero_at f)) _ u) i l)) in
    let q = same_each no_entry no_entry f.entries entry_places g.entries_long (λ i l. entry_zero_lem (entry_at f i) (all_at (entry_zero_at f) entry_places (and_r (all_below run_places (run_zero_at f)) _ u) i l)) in
    ap (λ (z : ℕ). record { r = z; e = f.e; runs = f.runs; entries = f.entries }) a
    ∙ ap (λ (z : ℕ). record { r = 0; e = z; runs = f.runs; entries = f.entries }) b
    ∙ ap (λ (z : List Run). record { r = 0; e = 0; runs = z; entries = f.entries }) p
    ∙ ap (λ (z : List Entry). record { r = 0; e = 0; runs = replicate run_places no_run; entries = z }) q

-- a free slot's card is the zero card
pub card_zero_lem : (x : Card) → CardShape x → x.registered ≡ false → card_zero x ≡ true → x ≡ zero_card
card_zero_lem x g e h =
    let a = eqb-true x.mark 0 (and_l (eqb x.mark 0) _ h) in
    let b = fields_zero_lem x.fields g.fields (and_r (eqb x.mark 0) _ h) in
    ap (λ (z : Bool). record { registered = z; mark = x.mark; fields = x.fields }) e
    ∙ ap (λ (z : ℕ). record { registered = false; mark = z; fields = x.fields }) a
    ∙ ap (λ (z : Fields). record { registered = false; mark = 0; fields = z }) b

-- and so are its µPCRs
pub pcrs_zero_lem : (xs : List Digest) → length xs ≡ pcr_count → Each DigestShape xs → pcrs_zero xs ≡ true → xs ≡ replicate pcr_count zero_pcr
unfolding pcrs_zero
pcrs_zero_lem xs e g h = same_each no_pcr zero_pcr xs pcr_count e one
  where
    one : (i : ℕ) → i < pcr_count → get_or xs i no_pcr ≡ zero_pcr
    one i l =
        let x = get_or xs i no_pcr in
        let s = each_in DigestShape no_pcr xs g i (rw e l) in
        let t = all_at (pcr_zero_at xs) pcr_count h i l in
        ap (λ (z : List ℕ). record { bytes = z }) (same_each 0 0 x.bytes digest_size s.long (λ j m. eqb-true (get_or x.bytes j 0) 0 (all_at (byte_zero_at x) digest_size t j m)))

-- the zero values pass
pub zero_card_lem : card_zero zero_card ≡ true
unfolding all_below
zero_card_lem = refl

pub zero_card_right : (top : ℕ) → card_right zero_card top ≡ true
unfolding card_right
zero_card_right top = zero_card_lem

pub zero_pcrs_lem : pcrs_zero (replicate pcr_count zero_pcr) ≡ true
unfolding pcrs_zero all_below
zero_pcrs_lem = refl
