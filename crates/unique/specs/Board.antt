-- One outcome for each input: the functions for C.
use Rattle.twin.specs.contracts.mode_of as twin_mode_of
use Rattle.twin.specs.contracts.number_of as twin_number_of
use Rattle.twin.specs.contracts.StateFromMonitor.from as twin_state_from_monitor
use Rattle.twin.specs.contracts.MonitorFromState.from as twin_monitor_from_state
use Rattle.twin.specs.contracts.EventTryFromRequest.try_from as twin_event_from_request
use Rattle.twin.specs.contracts.ReplyFromAnswer.from as twin_reply_from_answer
use Rattle.twin.specs.contracts.ReplyFromResultUsizeRefusal.from as twin_reply_from_counted
use Rattle.twin.specs.contracts.ReplyFromNoEvent.from as twin_reply_from_none
use Rattle.start_c.specs.contracts.monitor_start as start_c_monitor_start
use Rattle.host.specs.contracts.monitor_event as host_monitor_event
use Rattle.manifest_c.specs.contracts.monitor_manifest_read as manifest_c_monitor_manifest_read
use Rattle.manifest_c.specs.contracts.monitor_manifest_write as manifest_c_monitor_manifest_write
use Rattle.devicemap_c.specs.contracts.monitor_device_map as devicemap_c_monitor_device_map
use Rattle.sha1_c.specs.contracts.sha1_hash as sha1_c_sha1_hash
use Rattle.wellformed_c.specs.contracts.guddaroox_well_formed as wellformed_c_guddaroox_well_formed
use borrow.Fn.World.{w₀}
use borrow.Fn.Read.{r_last}
use Rattle.unique.specs.One.{Says, OneOutcome, told}

-- What the contract says, under a name that a wrong answer can be given for.
abbrev pub start_c_monitor_start_says : Says start_c_monitor_start.ended
start_c_monitor_start_says κs a z e = told ((start_c_monitor_start.clauses w₀.𝓛 w₀.𝓜.mem w₀.𝓡.run κs a).ensures tt z e) (r_last _)

abbrev pub host_monitor_event_says : Says host_monitor_event.ended
host_monitor_event_says κs a z e = told ((host_monitor_event.clauses w₀.𝓛 w₀.𝓜.mem w₀.𝓡.run κs a).ensures tt z e) (r_last _)

pub record Board : Type 0 where
  pub twin_mode_of_one : OneOutcome twin_mode_of.ended (λ κs a z e. told ((twin_mode_of.clauses w₀.𝓛 w₀.𝓜.mem w₀.𝓡.run κs a).ensures tt z e) (r_last _))
  pub twin_number_of_one : OneOutcome twin_number_of.ended (λ κs a z e. told ((twin_number_of.clauses w₀.𝓛 w₀.𝓜.mem w₀.𝓡.run κs a).ensures tt z e) (r_last _))
  pub twin_state_from_monitor_one : OneOutcome twin_state_from_monitor.ended (λ κs a z e. told ((twin_state_from_monitor.clauses w₀.𝓛 w₀.𝓜.mem w₀.𝓡.run κs a).ensures tt z e) (r_last _))
  pub twin_monitor_from_state_one : OneOutcome twin_monitor_from_state.ended (λ κs a z e. told ((twin_monitor_from_state.clauses w₀.𝓛 w₀.𝓜.mem w₀.𝓡.run κs a).ensures tt z e) (r_last _))
  pub twin_event_from_request_one : OneOutcome twin_event_from_request.ended (λ κs a z e. told ((twin_event_from_request.clauses w₀.𝓛 w₀.𝓜.mem w₀.𝓡.run κs a).ensures tt z e) (r_last _))
  pub twin_reply_from_answer_one : OneOutcome twin_reply_from_answer.ended (λ κs a z e. told ((twin_reply_from_answer.clauses w₀.𝓛 w₀.𝓜.mem w₀.𝓡.run κs a).ensures tt z e) (r_last _))
  pub twin_reply_from_counted_one : OneOutcome twin_reply_from_counted.ended (λ κs a z e. told ((twin_reply_from_counted.clauses w₀.𝓛 w₀.𝓜.mem w₀.𝓡.run κs a).ensures tt z e) (r_last _))
  pub twin_reply_from_none_one : OneOutcome twin_reply_from_none.ended (λ κs a z e. told ((twin_reply_from_none.clauses w₀.𝓛 w₀.𝓜.mem w₀.𝓡.run κs a).ensures tt z e) (r_last _))
  pub start_c_monitor_start_one : OneOutcome start_c_monitor_start.ended start_c_monitor_start_says
  pub host_monitor_event_one : OneOutcome host_monitor_event.ended host_monitor_event_says
  pub manifest_c_monitor_manifest_read_one : OneOutcome manifest_c_monitor_manifest_read.ended (λ κs a z e. told ((manifest_c_monitor_manifest_read.clauses w₀.𝓛 w₀.𝓜.mem w₀.𝓡.run κs a).ensures tt z e) (r_last _))
  pub manifest_c_monitor_manifest_write_one : OneOutcome manifest_c_monitor_manifest_write.ended (λ κs a z e. told ((manifest_c_monitor_manifest_write.clauses w₀.𝓛 w₀.𝓜.mem w₀.𝓡.run κs a).ensures tt z e) (r_last _))
  pub devicemap_c_monitor_device_map_one : OneOutcome devicemap_c_monitor_device_map.ended (λ κs a z e. told ((devicemap_c_monitor_device_map.clauses w₀.𝓛 w₀.𝓜.mem w₀.𝓡.run κs a).ensures tt z e) (r_last _))
  pub sha1_c_sha1_hash_one : OneOutcome sha1_c_sha1_hash.ended (λ κs a z e. told ((sha1_c_sha1_hash.clauses w₀.𝓛 w₀.𝓜.mem w₀.𝓡.run κs a).ensures tt z e) (r_last _))
  pub wellformed_c_guddaroox_well_formed_one : OneOutcome wellformed_c_guddaroox_well_formed.ended (λ κs a z e. told ((wellformed_c_guddaroox_well_formed.clauses w₀.𝓛 w₀.𝓜.mem w₀.𝓡.run κs a).ensures tt z e) (r_last _))
