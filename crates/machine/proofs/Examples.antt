-- The worked examples, by computing.
use Rattle.std.proofs.Common.{refl}
use Rattle.pagers.specs.Pattern.{counting, pattern_page, pattern}
use Rattle.machine.specs.State.{content_of, untouched, along, start, numbers, table, lives, all_entries, row, named_cells, living_cells, member, distinct, living_marks, living_records, lowest_free, new_record}
use Rattle.machine.specs.Step.{refuse, judged, misnumbered, missing, bad_range, bad_bytes, overfull, uncovered, bad_memory, with_task, with_record, with_cell, accepted, created, fresh_entry, with_entry, map_on, mapped, unmapped, set_over, given, copied_on, handed, handed_all, forked, no_entry, entry_at, cell_of, bytes_of, object_of, place_of, refuse_damage, read_from, overlaid, written, after_write, write_to, ended, counted, step, after, replies}
use Rattle.machine.specs.Examples.{accepted_calls, single_pages, crowded, memory, broken, at_last_page, from_pattern, two_frames, page_released, share_then_copy, fourteen_entries, fifteen_entries, sixteen_entries, damaged_page, examples, ExamplesHold}

pub examples_hold : ExamplesHold
unfolding content_of untouched along start numbers table lives all_entries row named_cells living_cells member distinct living_marks living_records lowest_free new_record refuse judged misnumbered missing bad_range bad_bytes overfull uncovered bad_memory with_task with_record with_cell accepted created fresh_entry with_entry map_on mapped unmapped set_over given copied_on handed handed_all forked no_entry entry_at cell_of bytes_of object_of place_of refuse_damage read_from overlaid written after_write write_to ended counted step after replies accepted_calls single_pages crowded memory broken at_last_page from_pattern two_frames page_released share_then_copy fourteen_entries fifteen_entries sixteen_entries damaged_page examples counting pattern_page pattern
examples_hold = (refl, (refl, (refl, (refl, (refl, (refl, (refl, (refl, (refl, tt)))))))))
