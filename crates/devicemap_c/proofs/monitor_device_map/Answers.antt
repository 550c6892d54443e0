use Rattle.devicemap_c.specs.Map.{host_map}
use Rattle.devicemap_c.proofs.monitor_device_map.Goals as goal

pub returns : goal.returns
unfolding host_map
returns c = cc
