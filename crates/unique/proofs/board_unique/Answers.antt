-- `unique::board_unique` keeps its promise: each contract is an equation with a definition, and what is known whole is known part by part.
use Rattle.unique.proofs.Same.{both, result, digest}
use Rattle.unique.proofs.board_unique.Goals as goal

pub returns : goal.returns
returns c = record {
  twin_mode_of_one = λ κs a z z' w w'. result;
  twin_number_of_one = λ κs a z z' w w'. result;
  twin_state_from_monitor_one = λ κs a z z' w w'. result;
  twin_monitor_from_state_one = λ κs a z z' w w'. result;
  twin_event_from_request_one = λ κs a z z' w w'. result;
  twin_reply_from_answer_one = λ κs a z z' w w'. result;
  twin_reply_from_counted_one = λ κs a z z' w w'. result;
  twin_reply_from_none_one = λ κs a z z' w w'. result;
  start_c_monitor_start_one = λ κs a z z' w w' p q. (both p.0 q.0, λ i. (both p.1 q.1 i, (tt, (tt, tt))));
  host_monitor_event_one = λ κs a z z' w w' p q. let o = both p q in ((λ i. (o i).reply), λ i. ((o i).monitor, (tt, (tt, ((o i).memory, ((o i).buffer, tt))))));
  manifest_c_monitor_manifest_read_one = λ κs a z z' w w'. result;
  manifest_c_monitor_manifest_write_one = λ κs a z z' w w' p q. let o = both p q in ((λ i. (o i).reply), λ i. (tt, ((o i).buffer, tt)));
  devicemap_c_monitor_device_map_one = λ κs a z z' w w' p q. let o = both p q in ((λ i. (o i).reply), λ i. (tt, ((o i).buffer, tt)));
  sha1_c_sha1_hash_one = λ κs a z z' w w'. digest;
  wellformed_c_guddaroox_well_formed_one = λ κs a z z' w w'. result;
}
