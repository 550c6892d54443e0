-- µPCRs hold what document 01 says.
use Prim.Native.Nat.{ℕ}
use native.Mathlib.Omega.{arith}
use mathlib.Core.Path.{refl, ap, ◌∙◌}
use mathlib.Core.List.{List}
use lib.ListN.{length-set, get_or-replicate}
use lib.Seq.{get_or-set_same, get_or-set_other}
use Rattle.lists.specs.Bytes.{zeros}
use Rattle.geometry.specs.Geometry.{pcr_count}
use Rattle.sha_1.specs.declared.Digest.{Digest}
use Rattle.state.specs.Zero.{zero_pcr, no_pcr}
use Rattle.rules.specs.Act.{zero_pcrs, measured, extended}
use Rattle.rules.specs.Measures.{Measures, Extends, PcrsRight}

measures : (content : List ℕ) → Measures content
unfolding measured zeros
measures content = record {
  eight = refl;
  first = refl;
  others = λ i a b.
      ap (λ (d : Digest). d.bytes)
      (get_or-set_other zero_pcrs 0 i _ no_pcr (omega arith) ∙ get_or-replicate pcr_count i zero_pcr no_pcr b);
}

extends : (pcrs : List Digest) (i : ℕ) (content : List ℕ) → Extends pcrs i content
unfolding extended
extends pcrs i content = record {
  same_count = length-set pcrs i _;
  there = λ l. ap (λ (d : Digest). d.bytes) (get_or-set_same pcrs i _ no_pcr l);
  others = λ j n. get_or-set_other pcrs i j _ no_pcr n;
}

pub pcrs_right_lem : PcrsRight
pcrs_right_lem = (measures, extends)
