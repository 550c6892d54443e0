use Rattle.std.proofs.Common.{◌∙◌, ap}
use Rattle.twin.specs.Asked.{answered}
use Rattle.manifest_c.specs.Write.{wrote_out, host_write}
use Rattle.manifest_c.proofs.monitor_manifest_write.Goals as goal

-- the writer's answer and buffer, as C sees them
pub returns : goal.returns
unfolding host_write
returns c = (λ i. answered (c.from.ensures i) c.write.new.buffer) ∙ ap wrote_out c.write.ensures
