-- `unique::parts_unique` keeps its promise: each contract is an equation with a definition, and what is known whole is known part by part.
use mathlib.Core.Path.{refl}
use Rattle.unique.proofs.Same.{both, result, digest}
use Rattle.unique.proofs.parts_unique.Goals as goal

pub returns : goal.returns
returns c = record {
  geometry_numbers_one = λ κs a z z' w w'. result;
  geometry_page_of_one = λ κs a z z' w w'. result;
  geometry_start_of_one = λ κs a z z' w w'. result;
  geometry_bytes_of_one = λ κs a z z' w w'. result;
  geometry_is_range_one = λ κs a z z' w w'. result;
  memory_zero_run_one = λ κs a z z' w w' p q. (refl, λ i. (both p q i, (tt, (tt, tt))));
  memory_zero_page_one = λ κs a z z' w w' p q. (refl, λ i. (both p q i, (tt, tt)));
  memory_move_bytes_one = λ κs a z z' w w' p q. (refl, λ i. (both p q i, (tt, (tt, (tt, tt)))));
  memory_put_bytes_one = λ κs a z z' w w' p q. (refl, λ i. (both p q i, (tt, (tt, tt))));
  memory_give_bytes_one = λ κs a z z' w w' p q. (refl, λ i. (tt, (tt, (tt, (both p q i, tt)))));
  memory_chosen_one = λ κs a z z' w w' p q. both p q;
  blocks_word_one = λ κs a z z' w w'. result;
  blocks_as_slice_one = λ κs a z z' w w' p q. both p q;
  blocks_ending_one = λ κs a z z' w w'. result;
  rounds_compress_one = λ κs a z z' w w'. result;
  sha1_start_one = λ κs a z z' w w'. result;
  sha1_taken_one = λ κs a z z' w w'. result;
  sha1_finished_one = λ κs a z z' w w'. digest;
  sha1_hash_one = λ κs a z z' w w'. digest;
  sha1_hash_pair_one = λ κs a z z' w w'. digest;
  fields_is_code_one = λ κs a z z' w w'. result;
  fields_is_param_one = λ κs a z z' w w'. result;
  fields_places_one = λ κs a z z' w w'. result;
  keeps_counts_right_one = λ κs a z z' w w'. result;
  keeps_run_end_one = λ κs a z z' w w' p q. result p.0 q.0;
  keeps_run_right_one = λ κs a z z' w w'. result;
  keeps_in_code_one = λ κs a z z' w w'. result;
  keeps_lengths_right_one = λ κs a z z' w w'. result;
  keeps_unused_zero_one = λ κs a z z' w w'. result;
  keeps_keeps_rules_one = λ κs a z z' w w'. result;
  manifest_read_one = λ κs a z z' w w'. result;
  manifest_write_one = λ κs a z z' w w' p q. let o = both p q in ((λ i. (o i).answer), λ i. (tt, ((o i).buffer, tt)));
  painting_paint_one = λ κs a z z' w w' p q. (refl, λ i. (both p q i, (tt, (tt, (tt, tt)))));
  painting_same_one = λ κs a z z' w w'. result;
  painting_runs_owned_one = λ κs a z z' w w'. result;
  painting_paint_runs_one = λ κs a z z' w w' p q. (refl, λ i. (both p q i, (tt, (tt, tt))));
  state_zero_one = λ κs a z z' w w'. result;
  state_cleared_one = λ κs a z z' w w'. result;
  state_extended_one = λ κs a z z' w w'. result;
  state_entry_found_one = λ κs a z z' w w'. result;
  state_first_at_one = λ κs a z z' w w'. result;
  wellformed_sizes_right_one = λ κs a z z' w w'. result;
  wellformed_seen_in_one = λ κs a z z' w w'. result;
  wellformed_seen_one = λ κs a z z' w w'. result;
  wellformed_state_right_one = λ κs a z z' w w'. result;
  wellformed_well_formed_one = λ κs a z z' w w'. result;
  start_start_one = λ κs a z z' w w'. result;
  devicemap_device_map_one = λ κs a z z' w w' p q. (both p.0 q.0, λ i. (tt, (both p.1 q.1 i, tt)));
}
