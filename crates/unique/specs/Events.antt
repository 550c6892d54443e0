-- One outcome for each input: the eleven events and the running record. Exception: an event's own function and `decided` say by a change what becomes of
-- the state; answer, state after the change, memory and buffer are one, and not the change that comes to them.
use Rattle.events.specs.contracts.U8FromRefusal.from as events_number
use Rattle.switch.specs.contracts.monitor_enter as switch_monitor_enter
use Rattle.switch.specs.contracts.monitor_leave as switch_monitor_leave
use Rattle.switch.specs.contracts.kept_as as switch_kept_as
use Rattle.touch.specs.contracts.pages.is_open as touch_is_open
use Rattle.touch.specs.contracts.pages.is_own as touch_is_own
use Rattle.touch.specs.contracts.pages.in_code_of as touch_in_code_of
use Rattle.touch.specs.contracts.pages.may_reach as touch_may_reach
use Rattle.touch.specs.contracts.pcr_read.pcr_read as touch_pcr_read
use Rattle.touch.specs.contracts.read.read as touch_read
use Rattle.touch.specs.contracts.write.write as touch_write
use Rattle.change.specs.contracts.turned as change_turned
use Rattle.change.specs.contracts.kept as change_kept
use Rattle.change.specs.contracts.extending as change_extending
use Rattle.change.specs.contracts.enrolling as change_enrolling
use Rattle.change.specs.contracts.steering as change_steering
use Rattle.change.specs.contracts.placing as change_placing
use Rattle.change.specs.contracts.seating as change_seating
use Rattle.change.specs.contracts.changed as change_changed
use Rattle.release.specs.contracts.jump.jump as release_jump
use Rattle.release.specs.contracts.release.release as release_release
use Rattle.release.specs.contracts.unregister.unregister as release_unregister
use Rattle.call.specs.contracts.call.call as call_call
use Rattle.call.specs.contracts.places.slot_for as call_slot_for
use Rattle.call.specs.contracts.places.param_of as call_param_of
use Rattle.call.specs.contracts.places.param_start as call_param_start
use Rattle.call.specs.contracts.return_.return_ as call_return
use Rattle.enroll.specs.contracts.free.all_open as enroll_all_open
use Rattle.enroll.specs.contracts.free.free_slot as enroll_free_slot
use Rattle.enroll.specs.contracts.measure.measured as enroll_measured
use Rattle.enroll.specs.contracts.register.register as enroll_register
use Rattle.extend.specs.contracts.extend.extend as extend_extend
use Rattle.decide.specs.contracts.looking as decide_looking
use Rattle.decide.specs.contracts.looked as decide_looked
use Rattle.decide.specs.contracts.decided as decide_decided
use Rattle.monitor.specs.contracts.step as monitor_step
use borrow.Fn.World.{w₀}
use borrow.Fn.Read.{r_last}
use Rattle.std.specs.Prelude.{ℕ, List}
use Rattle.touch.specs.declared.Stepped.{Stepped}
use Rattle.change.specs.Turns.{settled}
use Rattle.decide.specs.Allowed.{out_of}
use Rattle.unique.specs.One.{Says, OneOutcome, told, OneView}

-- What the contract says, under a name that a wrong answer can be given for.
abbrev pub switch_monitor_enter_says : Says switch_monitor_enter.ended
switch_monitor_enter_says κs a z e = told ((switch_monitor_enter.clauses w₀.𝓛 w₀.𝓜.mem w₀.𝓡.run κs a).ensures tt z e) (r_last _)

abbrev pub switch_monitor_leave_says : Says switch_monitor_leave.ended
switch_monitor_leave_says κs a z e = told ((switch_monitor_leave.clauses w₀.𝓛 w₀.𝓜.mem w₀.𝓡.run κs a).ensures tt z e) (r_last _)

pub record Events : Type 0 where
  pub events_number_one : OneOutcome events_number.ended (λ κs a z e. told ((events_number.clauses w₀.𝓛 w₀.𝓜.mem w₀.𝓡.run κs a).ensures tt z e) (r_last _))
  pub switch_monitor_enter_one : OneOutcome switch_monitor_enter.ended switch_monitor_enter_says
  pub switch_monitor_leave_one : OneOutcome switch_monitor_leave.ended switch_monitor_leave_says
  pub switch_kept_as_one : OneOutcome switch_kept_as.ended (λ κs a z e. told ((switch_kept_as.clauses w₀.𝓛 w₀.𝓜.mem w₀.𝓡.run κs a).ensures tt z e) (r_last _))
  pub touch_is_open_one : OneOutcome touch_is_open.ended (λ κs a z e. told ((touch_is_open.clauses w₀.𝓛 w₀.𝓜.mem w₀.𝓡.run κs a).ensures tt z e) (r_last _))
  pub touch_is_own_one : OneOutcome touch_is_own.ended (λ κs a z e. told ((touch_is_own.clauses w₀.𝓛 w₀.𝓜.mem w₀.𝓡.run κs a).ensures tt z e) (r_last _))
  pub touch_in_code_of_one : OneOutcome touch_in_code_of.ended (λ κs a z e. told ((touch_in_code_of.clauses w₀.𝓛 w₀.𝓜.mem w₀.𝓡.run κs a).ensures tt z e) (r_last _))
  pub touch_may_reach_one : OneOutcome touch_may_reach.ended (λ κs a z e. told ((touch_may_reach.clauses w₀.𝓛 w₀.𝓜.mem w₀.𝓡.run κs a).ensures tt z e) (r_last _))
  pub touch_pcr_read_one : OneOutcome touch_pcr_read.ended (λ κs a z e. told ((touch_pcr_read.clauses w₀.𝓛 w₀.𝓜.mem w₀.𝓡.run κs a).ensures tt z e) (r_last _))
  pub touch_read_one : OneOutcome touch_read.ended (λ κs a z e. told ((touch_read.clauses w₀.𝓛 w₀.𝓜.mem w₀.𝓡.run κs a).ensures tt z e) (r_last _))
  pub touch_write_one : OneOutcome touch_write.ended (λ κs a z e. told ((touch_write.clauses w₀.𝓛 w₀.𝓜.mem w₀.𝓡.run κs a).ensures tt z e) (r_last _))
  pub change_turned_one : OneOutcome change_turned.ended (λ κs a z e. told ((change_turned.clauses w₀.𝓛 w₀.𝓜.mem w₀.𝓡.run κs a).ensures tt z e) (r_last _))
  pub change_kept_one : OneOutcome change_kept.ended (λ κs a z e. told ((change_kept.clauses w₀.𝓛 w₀.𝓜.mem w₀.𝓡.run κs a).ensures tt z e) (r_last _))
  pub change_extending_one : OneOutcome change_extending.ended (λ κs a z e. told ((change_extending.clauses w₀.𝓛 w₀.𝓜.mem w₀.𝓡.run κs a).ensures tt z e) (r_last _))
  pub change_enrolling_one : OneOutcome change_enrolling.ended (λ κs a z e. told ((change_enrolling.clauses w₀.𝓛 w₀.𝓜.mem w₀.𝓡.run κs a).ensures tt z e) (r_last _))
  pub change_steering_one : OneOutcome change_steering.ended (λ κs a z e. told ((change_steering.clauses w₀.𝓛 w₀.𝓜.mem w₀.𝓡.run κs a).ensures tt z e) (r_last _))
  pub change_placing_one : OneOutcome change_placing.ended (λ κs a z e. told ((change_placing.clauses w₀.𝓛 w₀.𝓜.mem w₀.𝓡.run κs a).ensures tt z e) (r_last _))
  pub change_seating_one : OneOutcome change_seating.ended (λ κs a z e. told ((change_seating.clauses w₀.𝓛 w₀.𝓜.mem w₀.𝓡.run κs a).ensures tt z e) (r_last _))
  pub change_changed_one : OneOutcome change_changed.ended (λ κs a z e. told ((change_changed.clauses w₀.𝓛 w₀.𝓜.mem w₀.𝓡.run κs a).ensures tt z e) (r_last _))
  pub release_jump_one : OneView release_jump.ended (λ κs a z e. told ((release_jump.clauses w₀.𝓛 w₀.𝓜.mem w₀.𝓡.run κs a).ensures tt z e) (r_last _)) {A = Stepped × List ℕ} (λ κs a z w. (settled a.0 z, w.1.1.1.0))
  pub release_release_one : OneOutcome release_release.ended (λ κs a z e. told ((release_release.clauses w₀.𝓛 w₀.𝓜.mem w₀.𝓡.run κs a).ensures tt z e) (r_last _))
  pub release_unregister_one : OneView release_unregister.ended (λ κs a z e. told ((release_unregister.clauses w₀.𝓛 w₀.𝓜.mem w₀.𝓡.run κs a).ensures tt z e) (r_last _)) {A = Stepped × List ℕ} (λ κs a z w. (settled a.0 z, w.1.1.0))
  pub call_call_one : OneView call_call.ended (λ κs a z e. told ((call_call.clauses w₀.𝓛 w₀.𝓜.mem w₀.𝓡.run κs a).ensures tt z e) (r_last _)) {A = Stepped × List ℕ} (λ κs a z w. (settled a.0 z, w.1.1.1.0))
  pub call_slot_for_one : OneOutcome call_slot_for.ended (λ κs a z e. told ((call_slot_for.clauses w₀.𝓛 w₀.𝓜.mem w₀.𝓡.run κs a).ensures tt z e) (r_last _))
  pub call_param_of_one : OneOutcome call_param_of.ended (λ κs a z e. told ((call_param_of.clauses w₀.𝓛 w₀.𝓜.mem w₀.𝓡.run κs a).ensures tt z e) (r_last _))
  pub call_param_start_one : OneOutcome call_param_start.ended (λ κs a z e. told ((call_param_start.clauses w₀.𝓛 w₀.𝓜.mem w₀.𝓡.run κs a).ensures tt z e) (r_last _))
  pub call_return_one : OneView call_return.ended (λ κs a z e. told ((call_return.clauses w₀.𝓛 w₀.𝓜.mem w₀.𝓡.run κs a).ensures tt z e) (r_last _)) {A = Stepped × List ℕ} (λ κs a z w. (settled a.0 z, w.1.1.0))
  pub enroll_all_open_one : OneOutcome enroll_all_open.ended (λ κs a z e. told ((enroll_all_open.clauses w₀.𝓛 w₀.𝓜.mem w₀.𝓡.run κs a).ensures tt z e) (r_last _))
  pub enroll_free_slot_one : OneOutcome enroll_free_slot.ended (λ κs a z e. told ((enroll_free_slot.clauses w₀.𝓛 w₀.𝓜.mem w₀.𝓡.run κs a).ensures tt z e) (r_last _))
  pub enroll_measured_one : OneOutcome enroll_measured.ended (λ κs a z e. told ((enroll_measured.clauses w₀.𝓛 w₀.𝓜.mem w₀.𝓡.run κs a).ensures tt z e) (r_last _))
  pub enroll_register_one : OneView enroll_register.ended (λ κs a z e. told ((enroll_register.clauses w₀.𝓛 w₀.𝓜.mem w₀.𝓡.run κs a).ensures tt z e) (r_last _)) (λ κs a z w. settled a.0 z)
  pub extend_extend_one : OneView extend_extend.ended (λ κs a z e. told ((extend_extend.clauses w₀.𝓛 w₀.𝓜.mem w₀.𝓡.run κs a).ensures tt z e) (r_last _)) (λ κs a z w. settled a.0 z)
  pub decide_looking_one : OneOutcome decide_looking.ended (λ κs a z e. told ((decide_looking.clauses w₀.𝓛 w₀.𝓜.mem w₀.𝓡.run κs a).ensures tt z e) (r_last _))
  pub decide_looked_one : OneOutcome decide_looked.ended (λ κs a z e. told ((decide_looked.clauses w₀.𝓛 w₀.𝓜.mem w₀.𝓡.run κs a).ensures tt z e) (r_last _))
  pub decide_decided_one : OneView decide_decided.ended (λ κs a z e. told ((decide_decided.clauses w₀.𝓛 w₀.𝓜.mem w₀.𝓡.run κs a).ensures tt z e) (r_last _)) (λ κs a z w. out_of (settled a.1.1.1.0 z) w.1.1.1.1.0 w.1.1.1.1.1.0)
  pub monitor_step_one : OneOutcome monitor_step.ended (λ κs a z e. told ((monitor_step.clauses w₀.𝓛 w₀.𝓜.mem w₀.𝓡.run κs a).ensures tt z e) (r_last _))
