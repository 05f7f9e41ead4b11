-- The run of `specs/Worked.antt`, computed from the definitions. Assumes nothing.
use Prim.Native.Nat.{◌≤◌}
use mathlib.Core.Path.{◌≡◌, refl, sym, ap, ◌∙◌, subst}
use mathlib.Core.Bool.{Bool, true, false}
use mathlib.Core.List.Memᴰ
use mathlib.Core.List.{List, [], ◌∷◌, ◌++◌}
use native.Mathlib.Omega.{arith}
use lib.Dec.{eqb, leb}
use lib.IntN.{ℤ, pos, negsuc}
use lib.ListN.{get_or}
use borrow.Author.Tests.{leb-true, le-leb, lt-leb}
use Rattle.block.specs.Numbers.{bytes_of, number_from, value_bytes, value_of}
use Rattle.block.specs.Check.{word, sum_to, weighted_to, first_check, second_check, check_bytes, check_matches}
use Rattle.block.specs.Message.{owner_of, within, kind_fits, entries_fit, record_fits, records_fit, ticket_absent, tickets_differ, valid, signed32}
use Rattle.block.specs.Bytes.{entry_bytes, entries_bytes, record_bytes, records_bytes, header_for, header_bytes, body_bytes, block_of}
use Rattle.block.specs.Form.{entry_of, entries_of, record_of, records_of, message_of, all_zero, entries_padded, record_padded, records_padded, padded, well_formed}
use Rattle.block.specs.Answers.{first_of, block_refusal, header_of, record_at, entry_at}
use Rattle.block.specs.Writing.{entries_from}
use Rattle.memory.specs.Memory.{bump}
use Rattle.memory.specs.Rows.{open_count, row_from, row_of, free_row, index_from, has, holder_from, count_below}
use Rattle.memory.specs.Turns.{place_start}
use Rattle.memory.specs.Notices.{Notice, with_notices, puts_out}
use Rattle.memory.specs.Window.{empty_window, keeping_all}
use Rattle.engine.specs.Make.{made_memory, places_fit, parts_fit}
use Rattle.engine.specs.Classes.{has_class, class_from, class_to_come, must_wait}
use Rattle.engine.specs.Client.{begin_refusal, begin_at, begin_row, write_refusal, rewrite_at, insert_write, stale_at, write_row, ask_refusal, read_only_at, queue_at, ask_row, report_of, report_step}
use Rattle.engine.specs.Moves.{waiting, writeset_of, message_for, send_refusal, send_now, send_step, same_bytes, deliver_refusal, deliver_now, deliver_step, entries_for, applied, stamped, shares, after_aborts, insert_rising, hit_tickets, without, work_refusal, pass_next, commit_writeset, pass_out, pass_block, work_step}
use Rattle.engine.specs.Notices.{placed_from, notice_refusal, notice_step}
use Rattle.engine.specs.Calls.{step}
use Rattle.engine.specs.Calls.Call.{report}
use Rattle.engine.specs.Restart.{is_good, blocks_from, writesets_from, commit_all, commit_blocks, highest_ticket, highest_own, own_writesets, last_own, restarted_memory, restart_refusal, restart_step}
use Rattle.engine.specs.Worked.{zeros, out_from}
use Rattle.engine.proofs.Tests.{clash}
use Rattle.protocol.specs.Lists.{keep, any_of, Mem}
use Rattle.protocol.specs.Writesets.{put}
use Rattle.protocol.specs.Observer.{add_pending, txn_ids, observed_after, handouts_after}
use Rattle.protocol.proofs.ListLaws.{and_no}
use Rattle.agreement.specs.Group.{message_in, first_notice, heard, out_end, run, Beginning}
use Rattle.agreement.specs.Worked.{start, no_block, RightGroup}

abbrev is_four : ℤ → Bool
is_four (pos n) = eqb n 4
is_four (negsuc n) = false

abbrev is_some : List Notice → Bool
is_some [] = false
is_some (a ∷ l) = true

not_none : {a : Notice} {l : List Notice} → a ∷ l ≡ [] → ⊥
not_none e = clash {b = true} refl (ap is_some e)

-- two beginnings of one list: who has taken nothing lacks the first notice of the other
ahead : {l : List Notice} → Beginning (out_from 1 0 ∷ []) l 0 → Beginning [] l 1 → ⊥
ahead {l} a b = let h = b.ahead (out_from 1 0) (subst (Mem (out_from 1 0)) (sym a.whole ∙ b.whole) (Memᴰ.head refl)) in let w : ⊥ = omega arith in w

-- a slot that is out stays out by notices of later slots
still_out : (l : List Notice) → ((a : Notice) → Mem a l → 1 ≤ a.slot) → puts_out true l 0 0 ≡ true
unfolding puts_out
still_out [] f = refl
still_out (a ∷ l) f =
    let h : leb a.slot 0 ≡ false = lt-leb a.slot 0 (f a (Memᴰ.head refl)) in
    rw (h, and_no (eqb a.about 0)) (still_out l (λ x q. f x (Memᴰ.tail q)))

out_whole : {l : List Notice} → Beginning (out_from 0 0 ∷ []) l 1 → puts_out false l 0 0 ≡ true
unfolding puts_out
out_whole {l} b = subst (λ (x : List Notice). puts_out false x 0 0 ≡ true) (sym b.whole) (still_out b.lacking b.ahead)

pub right_group : RightGroup
unfolding bytes_of number_from value_bytes value_of word sum_to weighted_to first_check second_check check_bytes check_matches owner_of within kind_fits entries_fit record_fits records_fit ticket_absent tickets_differ valid signed32 entry_bytes entries_bytes record_bytes records_bytes header_for header_bytes body_bytes block_of entry_of entries_of record_of records_of message_of all_zero entries_padded record_padded records_padded padded well_formed first_of block_refusal header_of record_at entry_at entries_from bump open_count row_from row_of free_row index_from has holder_from count_below place_start made_memory places_fit parts_fit has_class class_from class_to_come must_wait begin_refusal begin_at begin_row write_refusal rewrite_at insert_write stale_at write_row ask_refusal read_only_at queue_at ask_row report_of report_step waiting writeset_of message_for send_refusal send_now send_step same_bytes deliver_refusal deliver_now deliver_step entries_for applied stamped shares after_aborts insert_rising hit_tickets without work_refusal pass_next commit_writeset pass_out pass_block work_step placed_from notice_refusal notice_step step is_good blocks_from writesets_from commit_all commit_blocks highest_ticket highest_own own_writesets last_own with_notices puts_out restarted_memory restart_refusal restart_step keep any_of put add_pending txn_ids observed_after handouts_after message_in first_notice heard out_end run empty_window keeping_all
right_group = record {
  run-kept = refl;
  restart-kept = refl;
  floor = refl;
  at-floor = record { ended = report; value = refl; count = 512; part = refl; enough = leb-true _ _ refl };
  below_floor = λ h. clash (le-leb _ _ h.enough) refl;
  station = refl;
  station-values = refl;
  forged = λ p. Memᴰ.not-nil (p.calls.delivered [] 1 _ ([], refl) refl);
  other-number = λ p. absurd (omega (arith, (p.calls.lent [] 1 3 0 start [] [] no_block 0 no_block ([], refl) refl).1));
  other-values = λ p. clash (ap (λ (l : List ℤ). is_four (get_or l 9 (pos 0))) (p.calls.lent [] 1 3 1 zeros [] [] no_block 0 no_block ([], refl) refl).2) refl;
  too_large = λ f. clash (f _ (Memᴰ.head refl)).1 refl;
  no-floor = refl;
  notice-floor = refl;
  out-floor = refl;
  restart-floor = refl;
  floor-kept = refl;
  taken = refl;
  other-notices = λ p. not_none (p.calls.lent [] 1 3 1 start [] (out_from 1 1 ∷ []) no_block 0 no_block ([], refl) refl).4;
  station-ahead = λ p. ahead (p.one.taken _ (Memᴰ.tail (Memᴰ.tail (Memᴰ.tail (Memᴰ.head refl)))) 1) (p.one.taken _ (Memᴰ.tail (Memᴰ.head refl)) 1);
  out-handed = λ p. clash (out_whole (p.one.taken _ (Memᴰ.tail (Memᴰ.head refl)) 0)) (p.one.handed _ (Memᴰ.head refl));
}
