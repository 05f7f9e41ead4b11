-- A station's answers, computed from the definitions. Assumes nothing.
use mathlib.Core.Path.{refl}
use Rattle.block.specs.Numbers.{bytes_of, number_from, value_bytes, value_of}
use Rattle.block.specs.Check.{word, sum_to, weighted_to, first_check, second_check, check_bytes, check_matches}
use Rattle.block.specs.Message.{owner_of, within, kind_fits, entries_fit, record_fits, records_fit, ticket_absent, tickets_differ, valid}
use Rattle.block.specs.Bytes.{entry_bytes, entries_bytes, record_bytes, records_bytes, header_for, header_bytes, body_bytes, block_of}
use Rattle.block.specs.Form.{entry_of, entries_of, record_of, records_of, message_of, all_zero, entries_padded, record_padded, records_padded, padded, well_formed}
use Rattle.block.specs.Answers.{first_of, header_of, record_at, entry_at}
use Rattle.block.specs.Writing.{entries_from}
use Rattle.memory.specs.Memory.{bump}
use Rattle.memory.specs.Rows.{open_count, row_from, row_of, free_row, index_from, has, holder_from, count_below}
use Rattle.memory.specs.Turns.{place_start}
use Rattle.memory.specs.Window.{empty_window}
use Rattle.engine.specs.Make.{made_memory, places_fit, parts_fit}
use Rattle.engine.specs.Classes.{has_class, class_from, class_to_come, must_wait, are_classes, load_refusal, load_step}
use Rattle.engine.specs.Client.{begin_refusal, begin_at, begin_row, read_refusal, value_for, read_row, write_refusal, rewrite_at, insert_write, stale_at, write_row, ask_refusal, read_only_at, queue_at, ask_row, withdraw_refusal, withdraw_at, withdraw_row, report_of, report_step}
use Rattle.engine.specs.Moves.{waiting, writeset_of, message_for, send_refusal, send_now, send_step, same_bytes, deliver_refusal, deliver_now, deliver_step, entries_for, applied, stamped, shares, after_aborts, insert_rising, hit_tickets, without, work_refusal, pass_next, commit_writeset, pass_out, pass_block, work_step}
use Rattle.engine.specs.Calls.{step, after}
use Rattle.engine.specs.Worked.{answers}
use Rattle.engine.specs.Station.{station_refusal, station_step}
use Rattle.engine_runs.specs.Stations.{WorkedStation}

pub worked_station : WorkedStation
unfolding bytes_of number_from value_bytes value_of word sum_to weighted_to first_check second_check check_bytes check_matches owner_of within kind_fits entries_fit record_fits records_fit ticket_absent tickets_differ valid entry_bytes entries_bytes record_bytes records_bytes header_for header_bytes body_bytes block_of entry_of entries_of record_of records_of message_of all_zero entries_padded record_padded records_padded padded well_formed first_of header_of record_at entry_at entries_from bump open_count row_from row_of free_row index_from has holder_from count_below place_start made_memory places_fit parts_fit station_refusal station_step begin_refusal begin_at begin_row read_refusal value_for read_row write_refusal rewrite_at insert_write stale_at write_row ask_refusal read_only_at queue_at ask_row withdraw_refusal withdraw_at withdraw_row waiting writeset_of message_for send_refusal send_now send_step same_bytes deliver_refusal deliver_now deliver_step entries_for applied stamped shares after_aborts insert_rising hit_tickets without work_refusal pass_next commit_writeset pass_out pass_block work_step has_class class_from class_to_come must_wait are_classes load_refusal load_step step answers report_of report_step after empty_window
worked_station = record { size-1 = refl; size-7 = refl; size-2 = refl; size-6 = refl; first = refl; applying = refl; later = refl }
