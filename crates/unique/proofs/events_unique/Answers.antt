-- `unique::events_unique` keeps its promise: each contract is an equation with a definition, and what is known whole is known part by part.
use mathlib.Core.Path.{refl}
use mathlib.Core.List.{[]}
use Rattle.unique.proofs.Same.{both, result, digest, stepped, settled_both}
use Rattle.unique.proofs.events_unique.Goals as goal

pub returns : goal.returns
returns c = record {
  events_number_one = λ κs a z z' w w'. result;
  switch_monitor_enter_one = λ κs a z z' w w' p q. (refl, λ i. (both p q i, (tt, (tt, (tt, tt)))));
  switch_monitor_leave_one = λ κs a z z' w w' p q. (both p.0 q.0, λ i. (both p.1 q.1 i, tt));
  switch_kept_as_one = λ κs a z z' w w'. result;
  touch_is_open_one = λ κs a z z' w w'. result;
  touch_is_own_one = λ κs a z z' w w'. result;
  touch_in_code_of_one = λ κs a z z' w w'. result;
  touch_may_reach_one = λ κs a z z' w w'. result;
  touch_pcr_read_one = λ κs a z z' w w' p q. (both (p []).0 (q []).0, λ i. (tt, (tt, (tt, (both (p []).1 (q []).1 i, (tt, tt))))));
  touch_read_one = λ κs a z z' w w' p q. (both p.0 q.0, λ i. (tt, (tt, (tt, (tt, (tt, (both p.1 q.1 i, (tt, (tt, tt)))))))));
  touch_write_one = λ κs a z z' w w' p q. (both p.0 q.0, λ i. (tt, (tt, (tt, (tt, (both p.1 q.1 i, (tt, (tt, tt))))))));
  change_turned_one = λ κs a z z' w w'. result;
  change_kept_one = λ κs a z z' w w'. result;
  change_extending_one = λ κs a z z' w w'. result;
  change_enrolling_one = λ κs a z z' w w'. result;
  change_steering_one = λ κs a z z' w w'. result;
  change_placing_one = λ κs a z z' w w'. result;
  change_seating_one = λ κs a z z' w w'. result;
  change_changed_one = λ κs a z z' w w'. result;
  release_jump_one = λ κs a z z' w w' p q. settled_both (p []) (q []);
  release_release_one = λ κs a z z' w w' p q. (both p.0 q.0, λ i. (both p.1 q.1 i, (tt, (tt, (tt, tt)))));
  release_unregister_one = λ κs a z z' w w' p q. settled_both (p []) (q []);
  call_call_one = λ κs a z z' w w' p q. settled_both (p []) (q []);
  call_slot_for_one = λ κs a z z' w w'. result;
  call_param_of_one = λ κs a z z' w w'. result;
  call_param_start_one = λ κs a z z' w w'. result;
  call_return_one = λ κs a z z' w w' p q. settled_both (p []) (q []);
  enroll_all_open_one = λ κs a z z' w w'. result;
  enroll_free_slot_one = λ κs a z z' w w'. result;
  enroll_measured_one = λ κs a z z' w w'. digest;
  enroll_register_one = λ κs a z z' w w' p q. (stepped p.steps q.steps).0;
  extend_extend_one = λ κs a z z' w w' p q. (stepped p.steps q.steps).0;
  decide_looking_one = λ κs a z z' w w'. result;
  decide_looked_one = λ κs a z z' w w'. result;
  decide_decided_one = λ κs a z z' w w' p q. both p.out q.out;
  monitor_step_one = λ κs a z z' w w' p q. let o = both p q in ((λ i. record { answer = (o i).answer; state = (o i).state }), λ i. (tt, (tt, (tt, ((o i).memory, ((o i).buffer, tt))))));
}
