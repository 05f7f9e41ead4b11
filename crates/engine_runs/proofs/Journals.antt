-- The small journals, computed from the definitions. Assumes nothing.
use mathlib.Core.Path.{refl}
use Rattle.block.specs.Numbers.{bytes_of, number_from, value_bytes, value_of}
use Rattle.block.specs.Check.{word, sum_to, weighted_to, first_check, second_check, check_bytes, check_matches}
use Rattle.block.specs.Message.{owner_of, within, kind_fits, entries_fit, record_fits, records_fit, ticket_absent, tickets_differ, valid}
use Rattle.block.specs.Bytes.{entry_bytes, entries_bytes, record_bytes, records_bytes, header_for, header_bytes, body_bytes, block_of}
use Rattle.block.specs.Form.{entry_of, entries_of, record_of, records_of, message_of, all_zero, entries_padded, record_padded, records_padded, padded, well_formed}
use Rattle.block.specs.Answers.{first_of, block_refusal, header_of, record_at, entry_at}
use Rattle.memory.specs.Memory.{bump}
use Rattle.memory.specs.Notices.{with_notices, puts_out}
use Rattle.memory.specs.Rows.{open_count}
use Rattle.memory.specs.Window.{empty_window, keeping_all}
use Rattle.engine.specs.Make.{made_memory, places_fit, parts_fit}
use Rattle.engine.specs.Client.{report_of}
use Rattle.engine.specs.Moves.{entries_for, applied, stamped}
use Rattle.engine.specs.Restart.{is_good, blocks_from, writesets_from, commit_all, commit_blocks, highest_ticket, highest_own, own_writesets, last_own, restarted_memory, restart_refusal, restart_step}
use Rattle.engine_runs.specs.Journals.{WorkedRestarts}

pub worked_restarts : WorkedRestarts
unfolding bytes_of number_from value_bytes value_of word sum_to weighted_to first_check second_check check_bytes check_matches owner_of within kind_fits entries_fit record_fits records_fit ticket_absent tickets_differ valid entry_bytes entries_bytes record_bytes records_bytes header_for header_bytes body_bytes block_of entry_of entries_of record_of records_of message_of all_zero entries_padded record_padded records_padded padded well_formed first_of block_refusal header_of record_at entry_at bump open_count made_memory places_fit parts_fit report_of entries_for applied stamped is_good blocks_from writesets_from commit_all commit_blocks highest_ticket highest_own own_writesets last_own restarted_memory restart_refusal restart_step with_notices puts_out empty_window keeping_all
worked_restarts = record {
  empty = refl;
  long = refl;
  report = refl;
  others = refl;
  torn = refl;
  gap = refl;
  group = refl;
  none-own = refl;
  size-7 = refl;
  own-2 = refl;
  short = refl;
}
