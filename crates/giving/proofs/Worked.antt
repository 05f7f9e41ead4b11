-- The choices and givings of `specs/Worked.antt`, computed from the definitions. Assumes nothing.
use mathlib.Core.Path.{refl}
use Rattle.block.specs.Numbers.{bytes_of, number_from, value_bytes, value_of}
use Rattle.block.specs.Check.{word, sum_to, weighted_to, first_check, second_check, check_bytes, check_matches}
use Rattle.block.specs.Message.{owner_of, within, kind_fits, entries_fit, record_fits, records_fit, ticket_absent, tickets_differ, valid}
use Rattle.block.specs.Bytes.{entry_bytes, entries_bytes, record_bytes, records_bytes, header_for, header_bytes, body_bytes, block_of}
use Rattle.block.specs.Form.{entry_of, entries_of, record_of, records_of, message_of, all_zero, entries_padded, record_padded, records_padded, padded, well_formed}
use Rattle.block.specs.Answers.{first_of, header_of, record_at, entry_at}
use Rattle.memory.specs.Memory.{bump}
use Rattle.memory.specs.Rows.{open_count, row_from, row_of, free_row, index_from, has, holder_from, count_below}
use Rattle.memory.specs.Turns.{place_start}
use Rattle.memory.specs.Window.{empty_window}
use Rattle.engine.specs.Make.{made_memory}
use Rattle.engine.specs.Classes.{has_class, class_from, class_to_come, must_wait}
use Rattle.engine.specs.Client.{begin_refusal, begin_at, begin_row, write_refusal, insert_write, write_row, rewrite_at, stale_at}
use Rattle.engine.specs.Moves.{same_bytes, deliver_refusal, deliver_now, deliver_step, entries_for, applied, stamped, shares, after_aborts, insert_rising, hit_tickets, without, work_refusal, pass_next, commit_writeset, work_step, pass_out, pass_block}
use Rattle.engine.specs.Calls.{step, after}
use Rattle.giving.specs.Choice.{best_of}
use Rattle.giving.specs.Giving.{holds, lacks, gathered, doing, work_out, take_slot, give_slots, give_refusal, give_step}
use Rattle.giving.specs.Worked.{RightChoices, RightGivings}

pub right_choices : RightChoices
unfolding best_of
right_choices = record { highest = refl; upward = refl; round = refl; own-zero = refl; own-down = refl; nobody = refl }

pub right_givings : RightGivings
unfolding bytes_of number_from value_bytes value_of word sum_to weighted_to first_check second_check check_bytes check_matches owner_of within kind_fits entries_fit record_fits records_fit ticket_absent tickets_differ valid entry_bytes entries_bytes record_bytes records_bytes header_for header_bytes body_bytes block_of entry_of entries_of record_of records_of message_of all_zero entries_padded record_padded records_padded padded well_formed first_of header_of record_at entry_at bump open_count row_from row_of free_row index_from has holder_from count_below place_start empty_window made_memory has_class class_from class_to_come must_wait begin_refusal begin_at begin_row write_refusal insert_write write_row rewrite_at stale_at same_bytes deliver_refusal deliver_now deliver_step entries_for applied stamped shares after_aborts insert_rising hit_tickets without work_refusal pass_next commit_writeset work_step pass_out pass_block step after best_of holds lacks gathered doing work_out take_slot give_slots give_refusal give_step
right_givings = record { gives = refl; lacks-last = refl; lacks-first = refl }
