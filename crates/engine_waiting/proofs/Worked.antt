-- The wait computed from the definitions. Assumes nothing.
use mathlib.Core.Path.{◌≡◌, refl}
use mathlib.Core.Bool.{true, false}
use native.Mathlib.Omega.{arith}
use Rattle.block.specs.Numbers.{bytes_of, number_from, value_bytes, value_of}
use Rattle.block.specs.Check.{word, sum_to, weighted_to, first_check, second_check, check_bytes, check_matches}
use Rattle.block.specs.Message.{owner_of, within, kind_fits, entries_fit, record_fits, records_fit, ticket_absent, tickets_differ, valid}
use Rattle.block.specs.Bytes.{entry_bytes, entries_bytes, record_bytes, records_bytes, header_for, header_bytes, body_bytes, block_of}
use Rattle.block.specs.Form.{entry_of, entries_of, record_of, records_of, message_of, all_zero, entries_padded, record_padded, records_padded, padded, well_formed}
use Rattle.block.specs.Answers.{first_of, header_of, record_at, entry_at}
use Rattle.block.specs.Writing.{entries_from}
use Rattle.memory.specs.Memory.{bump}
use Rattle.memory.specs.Rows.{open_count, row_from, row_of, free_row, index_from, has, holder_from, count_below}
use Rattle.memory.specs.Turns.{place_start}
use Rattle.memory.specs.Window.{empty_window}
use Rattle.engine.specs.Answers.Answer.{queued}
use Rattle.engine.specs.Make.{made_memory, places_fit, parts_fit, make_refusal, make_step}
use Rattle.engine.specs.Classes.{has_class, class_from, class_to_come, must_wait, are_classes, load_refusal, load_step}
use Rattle.engine.specs.Client.{begin_refusal, begin_at, begin_row, read_refusal, value_for, read_row, write_refusal, rewrite_at, insert_write, stale_at, write_row, ask_refusal, read_only_at, queue_at, ask_row, withdraw_refusal, withdraw_at, withdraw_row}
use Rattle.engine.specs.Moves.{waiting, writeset_of, message_for, send_refusal, send_now, send_step, same_bytes, deliver_refusal, deliver_now, deliver_step, entries_for, applied, stamped, shares, after_aborts, insert_rising, hit_tickets, without, work_refusal, pass_next, commit_writeset, work_step, pass_out, pass_block}
use Rattle.engine.specs.Notices.{placed_from, notice_refusal, notice_step}
use Rattle.engine.specs.Calls.{step, after}
use Rattle.engine.specs.Calls.Call.{ask}
use Rattle.engine.specs.History.{after_all}
use Rattle.engine_waiting.specs.Waiting.{open_after, passed_out}
use Rattle.engine.proofs.Tests.{clash}
use Rattle.engine_waiting.specs.Worked.{to_ask, just_asked, to_two, WorkedWait, to_ask_at_one, asked_at_one, over_out, WorkedOutWait}

computed : (to_ask.turn.slot ≡ 0) × ((step to_ask (ask 1)).answer ≡ queued) × ((after_all just_asked to_two).turn.slot ≡ 2) × (open_after 1 just_asked to_two ≡ true) × (passed_out 1 just_asked to_two ≡ false)
unfolding bytes_of number_from value_bytes value_of word sum_to weighted_to first_check second_check check_bytes check_matches owner_of within kind_fits entries_fit record_fits records_fit ticket_absent tickets_differ valid entry_bytes entries_bytes record_bytes records_bytes header_for header_bytes body_bytes block_of entry_of entries_of record_of records_of message_of all_zero entries_padded record_padded records_padded padded well_formed first_of header_of record_at entry_at entries_from bump open_count row_from row_of free_row index_from has holder_from count_below place_start made_memory places_fit parts_fit make_refusal make_step begin_refusal begin_at begin_row read_refusal value_for read_row write_refusal rewrite_at insert_write stale_at write_row ask_refusal read_only_at queue_at ask_row withdraw_refusal withdraw_at withdraw_row waiting writeset_of message_for send_refusal send_now send_step same_bytes deliver_refusal deliver_now deliver_step entries_for applied stamped shares after_aborts insert_rising hit_tickets without work_refusal pass_next commit_writeset work_step has_class class_from class_to_come must_wait are_classes load_refusal load_step step after after_all open_after passed_out pass_out pass_block placed_from notice_refusal notice_step empty_window
computed = (refl, refl, refl, refl, refl)

pub worked_wait : WorkedWait
worked_wait = let c = computed in record {
  asked-turn = c.0;
  asked = c.1;
  turn = c.2;
  still_open = c.3;
  passed_none = c.4;
  exact = λ f. clash c.3 (f to_two c.4 (let e = c.2 in omega arith));
}

computed-out : (to_ask_at_one.turn.slot ≡ 0) × ((step to_ask_at_one (ask 1)).answer ≡ queued) × ((after_all asked_at_one over_out).turn.slot ≡ 3) × (passed_out 1 asked_at_one over_out ≡ true)
    × (open_after 1 asked_at_one over_out ≡ true)
unfolding bytes_of number_from value_bytes value_of word sum_to weighted_to first_check second_check check_bytes check_matches owner_of within kind_fits entries_fit record_fits records_fit ticket_absent tickets_differ valid entry_bytes entries_bytes record_bytes records_bytes header_for header_bytes body_bytes block_of entry_of entries_of record_of records_of message_of all_zero entries_padded record_padded records_padded padded well_formed first_of header_of record_at entry_at entries_from bump open_count row_from row_of free_row index_from has holder_from count_below place_start made_memory places_fit parts_fit make_refusal make_step begin_refusal begin_at begin_row read_refusal value_for read_row write_refusal rewrite_at insert_write stale_at write_row ask_refusal read_only_at queue_at ask_row withdraw_refusal withdraw_at withdraw_row waiting writeset_of message_for send_refusal send_now send_step same_bytes deliver_refusal deliver_now deliver_step entries_for applied stamped shares after_aborts insert_rising hit_tickets without work_refusal pass_next commit_writeset work_step has_class class_from class_to_come must_wait are_classes load_refusal load_step step after after_all open_after passed_out pass_out pass_block placed_from notice_refusal notice_step empty_window
computed-out = (refl, refl, refl, refl, refl)

pub worked_out_wait : WorkedOutWait
worked_out_wait = let c = computed-out in record {
  asked-turn = c.0;
  asked = c.1;
  turn = c.2;
  passed = c.3;
  still_open = c.4;
  needed = λ f. clash c.4 (f over_out (let e = c.2 in omega arith));
}
