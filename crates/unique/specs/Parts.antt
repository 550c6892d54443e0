-- One outcome for each input: the machine, the hash, the manifest and the state. Two exceptions, with what is one of them:
-- `chosen` and `as_slice` hand back a part of what they were lent: its bytes, and not the reference's own name in the proof.
use Rattle.geometry.specs.contracts.Geometry.numbers as geometry_numbers
use Rattle.geometry.specs.contracts.Geometry.page_of as geometry_page_of
use Rattle.geometry.specs.contracts.Geometry.start_of as geometry_start_of
use Rattle.geometry.specs.contracts.Geometry.bytes_of as geometry_bytes_of
use Rattle.geometry.specs.contracts.Geometry.is_range as geometry_is_range
use Rattle.memory.specs.contracts.zero_run as memory_zero_run
use Rattle.memory.specs.contracts.zero_page as memory_zero_page
use Rattle.memory.specs.contracts.move_bytes as memory_move_bytes
use Rattle.memory.specs.contracts.put_bytes as memory_put_bytes
use Rattle.memory.specs.contracts.give_bytes as memory_give_bytes
use Rattle.memory.specs.contracts.chosen as memory_chosen
use Rattle.blocks.specs.contracts.word as blocks_word
use Rattle.blocks.specs.contracts.Tail.as_slice as blocks_as_slice
use Rattle.blocks.specs.contracts.ending as blocks_ending
use Rattle.rounds.specs.contracts.compress as rounds_compress
use Rattle.sha_1.specs.contracts.start as sha1_start
use Rattle.sha_1.specs.contracts.taken as sha1_taken
use Rattle.sha_1.specs.contracts.finished as sha1_finished
use Rattle.sha_1.specs.contracts.hash as sha1_hash
use Rattle.sha_1.specs.contracts.hash_pair as sha1_hash_pair
use Rattle.fields.specs.contracts.Run.is_code as fields_is_code
use Rattle.fields.specs.contracts.Run.is_param as fields_is_param
use Rattle.fields.specs.contracts.Fields.places as fields_places
use Rattle.keeps.specs.contracts.counts_right as keeps_counts_right
use Rattle.keeps.specs.contracts.run_end as keeps_run_end
use Rattle.keeps.specs.contracts.run_right as keeps_run_right
use Rattle.keeps.specs.contracts.in_code as keeps_in_code
use Rattle.keeps.specs.contracts.lengths_right as keeps_lengths_right
use Rattle.keeps.specs.contracts.unused_zero as keeps_unused_zero
use Rattle.keeps.specs.contracts.keeps_rules as keeps_keeps_rules
use Rattle.manifest.specs.contracts.read as manifest_read
use Rattle.manifest.specs.contracts.write as manifest_write
use Rattle.painting.specs.contracts.paint as painting_paint
use Rattle.painting.specs.contracts.same as painting_same
use Rattle.painting.specs.contracts.runs_owned as painting_runs_owned
use Rattle.painting.specs.contracts.paint_runs as painting_paint_runs
use Rattle.state.specs.contracts.Slot.zero as state_zero
use Rattle.state.specs.contracts.Slot.cleared as state_cleared
use Rattle.state.specs.contracts.Slot.extended as state_extended
use Rattle.state.specs.contracts.Slot.entry_found as state_entry_found
use Rattle.state.specs.contracts.first_at as state_first_at
use Rattle.wellformed.specs.contracts.sizes_right as wellformed_sizes_right
use Rattle.wellformed.specs.contracts.seen_in as wellformed_seen_in
use Rattle.wellformed.specs.contracts.seen as wellformed_seen
use Rattle.wellformed.specs.contracts.state_right as wellformed_state_right
use Rattle.wellformed.specs.contracts.well_formed as wellformed_well_formed
use Rattle.start.specs.contracts.start as start_start
use Rattle.devicemap.specs.contracts.device_map as devicemap_device_map
use borrow.Fn.World.{w₀}
use borrow.Fn.Read.{r_last}
use Rattle.unique.specs.One.{OneOutcome, OneView, told}

pub record Parts : Type 0 where
  pub geometry_numbers_one : OneOutcome geometry_numbers.ended (λ κs a z e. told ((geometry_numbers.clauses w₀.𝓛 w₀.𝓜.mem w₀.𝓡.run κs a).ensures tt z e) (r_last _))
  pub geometry_page_of_one : OneOutcome geometry_page_of.ended (λ κs a z e. told ((geometry_page_of.clauses w₀.𝓛 w₀.𝓜.mem w₀.𝓡.run κs a).ensures tt z e) (r_last _))
  pub geometry_start_of_one : OneOutcome geometry_start_of.ended (λ κs a z e. told ((geometry_start_of.clauses w₀.𝓛 w₀.𝓜.mem w₀.𝓡.run κs a).ensures tt z e) (r_last _))
  pub geometry_bytes_of_one : OneOutcome geometry_bytes_of.ended (λ κs a z e. told ((geometry_bytes_of.clauses w₀.𝓛 w₀.𝓜.mem w₀.𝓡.run κs a).ensures tt z e) (r_last _))
  pub geometry_is_range_one : OneOutcome geometry_is_range.ended (λ κs a z e. told ((geometry_is_range.clauses w₀.𝓛 w₀.𝓜.mem w₀.𝓡.run κs a).ensures tt z e) (r_last _))
  pub memory_zero_run_one : OneOutcome memory_zero_run.ended (λ κs a z e. told ((memory_zero_run.clauses w₀.𝓛 w₀.𝓜.mem w₀.𝓡.run κs a).ensures tt z e) (r_last _))
  pub memory_zero_page_one : OneOutcome memory_zero_page.ended (λ κs a z e. told ((memory_zero_page.clauses w₀.𝓛 w₀.𝓜.mem w₀.𝓡.run κs a).ensures tt z e) (r_last _))
  pub memory_move_bytes_one : OneOutcome memory_move_bytes.ended (λ κs a z e. told ((memory_move_bytes.clauses w₀.𝓛 w₀.𝓜.mem w₀.𝓡.run κs a).ensures tt z e) (r_last _))
  pub memory_put_bytes_one : OneOutcome memory_put_bytes.ended (λ κs a z e. told ((memory_put_bytes.clauses w₀.𝓛 w₀.𝓜.mem w₀.𝓡.run κs a).ensures tt z e) (r_last _))
  pub memory_give_bytes_one : OneOutcome memory_give_bytes.ended (λ κs a z e. told ((memory_give_bytes.clauses w₀.𝓛 w₀.𝓜.mem w₀.𝓡.run κs a).ensures tt z e) (r_last _))
  pub memory_chosen_one : OneView memory_chosen.ended (λ κs a z e. told ((memory_chosen.clauses w₀.𝓛 w₀.𝓜.mem w₀.𝓡.run κs a).ensures tt z e) (r_last _)) (λ κs a z w. z.now)
  pub blocks_word_one : OneOutcome blocks_word.ended (λ κs a z e. told ((blocks_word.clauses w₀.𝓛 w₀.𝓜.mem w₀.𝓡.run κs a).ensures tt z e) (r_last _))
  pub blocks_as_slice_one : OneView blocks_as_slice.ended (λ κs a z e. told ((blocks_as_slice.clauses w₀.𝓛 w₀.𝓜.mem w₀.𝓡.run κs a).ensures tt z e) (r_last _)) (λ κs a z w. z.now)
  pub blocks_ending_one : OneOutcome blocks_ending.ended (λ κs a z e. told ((blocks_ending.clauses w₀.𝓛 w₀.𝓜.mem w₀.𝓡.run κs a).ensures tt z e) (r_last _))
  pub rounds_compress_one : OneOutcome rounds_compress.ended (λ κs a z e. told ((rounds_compress.clauses w₀.𝓛 w₀.𝓜.mem w₀.𝓡.run κs a).ensures tt z e) (r_last _))
  pub sha1_start_one : OneOutcome sha1_start.ended (λ κs a z e. told ((sha1_start.clauses w₀.𝓛 w₀.𝓜.mem w₀.𝓡.run κs a).ensures tt z e) (r_last _))
  pub sha1_taken_one : OneOutcome sha1_taken.ended (λ κs a z e. told ((sha1_taken.clauses w₀.𝓛 w₀.𝓜.mem w₀.𝓡.run κs a).ensures tt z e) (r_last _))
  pub sha1_finished_one : OneOutcome sha1_finished.ended (λ κs a z e. told ((sha1_finished.clauses w₀.𝓛 w₀.𝓜.mem w₀.𝓡.run κs a).ensures tt z e) (r_last _))
  pub sha1_hash_one : OneOutcome sha1_hash.ended (λ κs a z e. told ((sha1_hash.clauses w₀.𝓛 w₀.𝓜.mem w₀.𝓡.run κs a).ensures tt z e) (r_last _))
  pub sha1_hash_pair_one : OneOutcome sha1_hash_pair.ended (λ κs a z e. told ((sha1_hash_pair.clauses w₀.𝓛 w₀.𝓜.mem w₀.𝓡.run κs a).ensures tt z e) (r_last _))
  pub fields_is_code_one : OneOutcome fields_is_code.ended (λ κs a z e. told ((fields_is_code.clauses w₀.𝓛 w₀.𝓜.mem w₀.𝓡.run κs a).ensures tt z e) (r_last _))
  pub fields_is_param_one : OneOutcome fields_is_param.ended (λ κs a z e. told ((fields_is_param.clauses w₀.𝓛 w₀.𝓜.mem w₀.𝓡.run κs a).ensures tt z e) (r_last _))
  pub fields_places_one : OneOutcome fields_places.ended (λ κs a z e. told ((fields_places.clauses w₀.𝓛 w₀.𝓜.mem w₀.𝓡.run κs a).ensures tt z e) (r_last _))
  pub keeps_counts_right_one : OneOutcome keeps_counts_right.ended (λ κs a z e. told ((keeps_counts_right.clauses w₀.𝓛 w₀.𝓜.mem w₀.𝓡.run κs a).ensures tt z e) (r_last _))
  pub keeps_run_end_one : OneOutcome keeps_run_end.ended (λ κs a z e. told ((keeps_run_end.clauses w₀.𝓛 w₀.𝓜.mem w₀.𝓡.run κs a).ensures tt z e) (r_last _))
  pub keeps_run_right_one : OneOutcome keeps_run_right.ended (λ κs a z e. told ((keeps_run_right.clauses w₀.𝓛 w₀.𝓜.mem w₀.𝓡.run κs a).ensures tt z e) (r_last _))
  pub keeps_in_code_one : OneOutcome keeps_in_code.ended (λ κs a z e. told ((keeps_in_code.clauses w₀.𝓛 w₀.𝓜.mem w₀.𝓡.run κs a).ensures tt z e) (r_last _))
  pub keeps_lengths_right_one : OneOutcome keeps_lengths_right.ended (λ κs a z e. told ((keeps_lengths_right.clauses w₀.𝓛 w₀.𝓜.mem w₀.𝓡.run κs a).ensures tt z e) (r_last _))
  pub keeps_unused_zero_one : OneOutcome keeps_unused_zero.ended (λ κs a z e. told ((keeps_unused_zero.clauses w₀.𝓛 w₀.𝓜.mem w₀.𝓡.run κs a).ensures tt z e) (r_last _))
  pub keeps_keeps_rules_one : OneOutcome keeps_keeps_rules.ended (λ κs a z e. told ((keeps_keeps_rules.clauses w₀.𝓛 w₀.𝓜.mem w₀.𝓡.run κs a).ensures tt z e) (r_last _))
  pub manifest_read_one : OneOutcome manifest_read.ended (λ κs a z e. told ((manifest_read.clauses w₀.𝓛 w₀.𝓜.mem w₀.𝓡.run κs a).ensures tt z e) (r_last _))
  pub manifest_write_one : OneOutcome manifest_write.ended (λ κs a z e. told ((manifest_write.clauses w₀.𝓛 w₀.𝓜.mem w₀.𝓡.run κs a).ensures tt z e) (r_last _))
  pub painting_paint_one : OneOutcome painting_paint.ended (λ κs a z e. told ((painting_paint.clauses w₀.𝓛 w₀.𝓜.mem w₀.𝓡.run κs a).ensures tt z e) (r_last _))
  pub painting_same_one : OneOutcome painting_same.ended (λ κs a z e. told ((painting_same.clauses w₀.𝓛 w₀.𝓜.mem w₀.𝓡.run κs a).ensures tt z e) (r_last _))
  pub painting_runs_owned_one : OneOutcome painting_runs_owned.ended (λ κs a z e. told ((painting_runs_owned.clauses w₀.𝓛 w₀.𝓜.mem w₀.𝓡.run κs a).ensures tt z e) (r_last _))
  pub painting_paint_runs_one : OneOutcome painting_paint_runs.ended (λ κs a z e. told ((painting_paint_runs.clauses w₀.𝓛 w₀.𝓜.mem w₀.𝓡.run κs a).ensures tt z e) (r_last _))
  pub state_zero_one : OneOutcome state_zero.ended (λ κs a z e. told ((state_zero.clauses w₀.𝓛 w₀.𝓜.mem w₀.𝓡.run κs a).ensures tt z e) (r_last _))
  pub state_cleared_one : OneOutcome state_cleared.ended (λ κs a z e. told ((state_cleared.clauses w₀.𝓛 w₀.𝓜.mem w₀.𝓡.run κs a).ensures tt z e) (r_last _))
  pub state_extended_one : OneOutcome state_extended.ended (λ κs a z e. told ((state_extended.clauses w₀.𝓛 w₀.𝓜.mem w₀.𝓡.run κs a).ensures tt z e) (r_last _))
  pub state_entry_found_one : OneOutcome state_entry_found.ended (λ κs a z e. told ((state_entry_found.clauses w₀.𝓛 w₀.𝓜.mem w₀.𝓡.run κs a).ensures tt z e) (r_last _))
  pub state_first_at_one : OneOutcome state_first_at.ended (λ κs a z e. told ((state_first_at.clauses w₀.𝓛 w₀.𝓜.mem w₀.𝓡.run κs a).ensures tt z e) (r_last _))
  pub wellformed_sizes_right_one : OneOutcome wellformed_sizes_right.ended (λ κs a z e. told ((wellformed_sizes_right.clauses w₀.𝓛 w₀.𝓜.mem w₀.𝓡.run κs a).ensures tt z e) (r_last _))
  pub wellformed_seen_in_one : OneOutcome wellformed_seen_in.ended (λ κs a z e. told ((wellformed_seen_in.clauses w₀.𝓛 w₀.𝓜.mem w₀.𝓡.run κs a).ensures tt z e) (r_last _))
  pub wellformed_seen_one : OneOutcome wellformed_seen.ended (λ κs a z e. told ((wellformed_seen.clauses w₀.𝓛 w₀.𝓜.mem w₀.𝓡.run κs a).ensures tt z e) (r_last _))
  pub wellformed_state_right_one : OneOutcome wellformed_state_right.ended (λ κs a z e. told ((wellformed_state_right.clauses w₀.𝓛 w₀.𝓜.mem w₀.𝓡.run κs a).ensures tt z e) (r_last _))
  pub wellformed_well_formed_one : OneOutcome wellformed_well_formed.ended (λ κs a z e. told ((wellformed_well_formed.clauses w₀.𝓛 w₀.𝓜.mem w₀.𝓡.run κs a).ensures tt z e) (r_last _))
  pub start_start_one : OneOutcome start_start.ended (λ κs a z e. told ((start_start.clauses w₀.𝓛 w₀.𝓜.mem w₀.𝓡.run κs a).ensures tt z e) (r_last _))
  pub devicemap_device_map_one : OneOutcome devicemap_device_map.ended (λ κs a z e. told ((devicemap_device_map.clauses w₀.𝓛 w₀.𝓜.mem w₀.𝓡.run κs a).ensures tt z e) (r_last _))
