-- The runs with notices, computed from the definitions, each walked once. Assumes nothing.
use Prim.Native.Nat.{ℕ, ◌≤◌}
use mathlib.Core.Path.{◌≡◌, refl, sym, ap, ◌∙◌, subst}
use mathlib.Core.Bool.{Bool, true}
use mathlib.Core.List.Memᴰ
use mathlib.Core.List.{List, [], ◌∷◌}
use native.Mathlib.Omega.{arith}
use lib.IntN.{pos}
use lib.ListN.{set, replicate, drop}
use Rattle.block.specs.Numbers.{bytes_of, number_from, value_bytes, value_of}
use Rattle.block.specs.Check.{word, sum_to, weighted_to, first_check, second_check, check_bytes, check_matches}
use Rattle.block.specs.Message.{owner_of, within, kind_fits, entries_fit, record_fits, records_fit, ticket_absent, tickets_differ, valid, signed32}
use Rattle.block.specs.Bytes.{entry_bytes, entries_bytes, record_bytes, records_bytes, header_for, header_bytes, body_bytes, block_of}
use Rattle.block.specs.Form.{entry_of, entries_of, record_of, records_of, message_of, all_zero, entries_padded, record_padded, records_padded, padded, well_formed}
use Rattle.block.specs.Answers.{first_of, block_refusal, header_of, record_at, entry_at}
use Rattle.block.specs.Writing.{entries_from}
use Rattle.memory.specs.Memory.{bump}
use Rattle.memory.specs.Rows.{open_count, row_from, row_of, free_row, index_from, has, holder_from, count_below}
use Rattle.memory.specs.Turns.{place_start}
use Rattle.memory.specs.Notices.{Notice, with_notices, puts_out}
use Rattle.memory.specs.Window.{empty_window, keeping_all}
use Rattle.engine.specs.Make.{made_memory, places_fit, parts_fit}
use Rattle.engine.specs.Classes.{has_class, class_from, class_to_come, must_wait}
use Rattle.engine.specs.Client.{begin_refusal, begin_at, begin_row, write_refusal, rewrite_at, insert_write, stale_at, write_row, ask_refusal, read_only_at, queue_at, ask_row, report_of, report_step}
use Rattle.engine.specs.Moves.{waiting, writeset_of, message_for, send_refusal, send_now, send_step, same_bytes, deliver_refusal, deliver_now, deliver_step, entries_for, applied, stamped, shares, after_aborts, insert_rising, hit_tickets, without, work_refusal, pass_next, commit_writeset, pass_out, pass_block, work_step}
use Rattle.engine.specs.Notices.{placed_from, notice_refusal, notice_step}
use Rattle.engine.specs.Calls.{step}
use Rattle.engine.specs.Calls.Call.{report}
use Rattle.engine.specs.Restart.{is_good, blocks_from, writesets_from, commit_all, commit_blocks, highest_ticket, highest_own, own_writesets, last_own, restarted_memory, restart_refusal, restart_step}
use Rattle.engine.specs.Worked.{zeros, out_from, back_at}
use Rattle.protocol.specs.Lists.{Mem, keep, any_of}
use Rattle.agreement.specs.Group.{message_in, first_notice, heard, out_end, Members, fresh, Calls, about, Beginning, Premise}
use Rattle.agreement.specs.Statement.{Agreement}
use Rattle.agreement.proofs.Theorem.{agreement}
use Rattle.agreement_runs.specs.Worked.{holding}
use Rattle.agreement_runs.specs.Notices.{closed_studio, unheard, after, Stands, stands, standing, closed_values, NoticeRuns}
use Rattle.agreement_runs.proofs.Premises.{Cut, cut, Walked, walk, walked, end_is, walk-numbers, calls-premise, calls_met, same_values, same_notices}
use Rattle.agreement_runs.proofs.OneLists.{begins, up_to, fit, noticed-premise}
use Rattle.agreement_runs.proofs.Worked.{as_much, apart, setting}

-- of a run: whether each call meets the premise and the notices at the end do, the numbers, and where the members stand
record Told : Type 0 where
  fine : Bool
  one : Bool
  answers : List ℕ
  first : Stands
  second : Stands
  third : Stands

abbrev told : List Notice → Walked → Told
told all w = let g = w.end in record { fine = w.fine; one = fit 2 all 3 g; answers = w.numbers; first = stands g 0; second = stands g 1; third = stands g 2 }

-- ---- the closed studio

-- the cut leaves all of the journal, which is its floor: an out slot was passed
abbrev ends : List Cut
ends = cut report 1024 ∷ []

-- the notices, those about each replica in order
abbrev all : List Notice
all = out_from 1 1 ∷ back_at 1 3 ∷ out_from 0 8 ∷ []

closed-computed : told all (walked 2 zeros closed_studio ends) ≡ record {
  fine = true;
  one = true;
  answers = replicate 38 0;
  first = standing 4 (out_from 1 1 ∷ out_from 0 8 ∷ back_at 1 3 ∷ []) (holding closed_values 2);
  second = standing 4 (out_from 1 1 ∷ back_at 1 3 ∷ []) (holding closed_values 2);
  third = standing 4 (out_from 1 1 ∷ back_at 1 3 ∷ []) (holding closed_values 2);
}
unfolding bytes_of number_from value_bytes value_of word sum_to weighted_to first_check second_check check_bytes check_matches owner_of within kind_fits entries_fit record_fits records_fit ticket_absent tickets_differ valid signed32 entry_bytes entries_bytes record_bytes records_bytes header_for header_bytes body_bytes block_of entry_of entries_of record_of records_of message_of all_zero entries_padded record_padded records_padded padded well_formed first_of header_of record_at entry_at entries_from bump row_from row_of free_row index_from has holder_from count_below place_start made_memory begin_refusal begin_at begin_row write_refusal rewrite_at insert_write stale_at write_row has_class class_from class_to_come must_wait ask_refusal read_only_at queue_at ask_row report_of waiting writeset_of message_for send_refusal send_now send_step same_bytes deliver_refusal deliver_now deliver_step entries_for applied stamped shares after_aborts insert_rising hit_tickets without work_refusal pass_next commit_writeset pass_out pass_block work_step placed_from notice_refusal notice_step step any_of walk is_good blocks_from writesets_from commit_all commit_blocks highest_ticket highest_own own_writesets last_own with_notices puts_out restarted_memory restart_refusal restart_step places_fit parts_fit open_count message_in block_refusal heard report_step same_values same_notices out_end first_notice keep begins up_to empty_window keeping_all
closed-computed = refl

closed-calls : Calls 2 closed_studio
unfolding any_of signed32
closed-calls = calls_met 2 closed_studio refl

closed_end : (walked 2 zeros closed_studio ends).end ≡ after closed_studio
closed_end = end_is 2 zeros closed_studio ends

closed-premise : Premise 2 zeros closed_studio
unfolding any_of
closed-premise =
    noticed-premise 2 zeros closed_studio (calls-premise 2 zeros closed_studio ends (ap (λ (x : Told). x.fine) closed-computed)) all 3
    (subst (λ (g : Members). fit 2 all 3 g ≡ true) closed_end (ap (λ (x : Told). x.one) closed-computed))
    refl

closed-agreement : Agreement 2 zeros closed_studio
closed-agreement = agreement 2 zeros (setting 2 (omega arith) (omega arith)) closed_studio closed-calls closed-premise

-- ---- the notice not taken

record Apart : Type 0 where
  fine : Bool
  first : Stands
  second : Stands

abbrev parted : Walked → Apart
parted w = let g = w.end in record { fine = w.fine; first = stands g 0; second = stands g 1 }

unheard-computed : parted (walked 2 zeros unheard []) ≡ record {
  fine = true;
  first = standing 3 (out_from 1 0 ∷ []) (holding (set zeros 5 (pos 84)) 1);
  second = standing 2 (out_from 1 0 ∷ back_at 1 1 ∷ []) (holding (set zeros 5 (pos 86)) 1);
}
unfolding bytes_of number_from value_bytes value_of word sum_to weighted_to first_check second_check check_bytes check_matches owner_of within kind_fits entries_fit record_fits records_fit ticket_absent tickets_differ valid signed32 entry_bytes entries_bytes record_bytes records_bytes header_for header_bytes body_bytes block_of entry_of entries_of record_of records_of message_of all_zero entries_padded record_padded records_padded padded well_formed first_of header_of record_at entry_at entries_from bump row_from row_of free_row index_from has holder_from count_below place_start made_memory begin_refusal begin_at begin_row write_refusal rewrite_at insert_write stale_at write_row has_class class_from class_to_come must_wait ask_refusal read_only_at queue_at ask_row report_of waiting writeset_of message_for send_refusal send_now send_step same_bytes deliver_refusal deliver_now deliver_step entries_for applied stamped shares after_aborts insert_rising hit_tickets without work_refusal pass_next commit_writeset pass_out pass_block work_step placed_from notice_refusal notice_step step any_of walk empty_window
unheard-computed = refl

unheard-calls : Calls 2 unheard
unfolding any_of signed32
unheard-calls = calls_met 2 unheard refl

unheard_end : (walked 2 zeros unheard []).end ≡ after unheard
unheard_end = end_is 2 zeros unheard []

first-stands : stands (after unheard) 0 ≡ standing 3 (out_from 1 0 ∷ []) (holding (set zeros 5 (pos 84)) 1)
first-stands = ap (λ (g : Members). stands g 0) (sym unheard_end) ∙ ap (λ (x : Apart). x.first) unheard-computed

second-stands : stands (after unheard) 1 ≡ standing 2 (out_from 1 0 ∷ back_at 1 1 ∷ []) (holding (set zeros 5 (pos 86)) 1)
second-stands = ap (λ (g : Members). stands g 1) (sym unheard_end) ∙ ap (λ (x : Apart). x.second) unheard-computed

-- of two beginnings of one list the shorter lacks the next notice of the other
lacks : (a b : Notice) (l : List Notice) (t u : ℕ) → Beginning (a ∷ []) l t → Beginning (a ∷ (b ∷ [])) l u → t ≤ b.slot
lacks a b l t u x y = x.ahead b (subst (Mem b) (ap (drop 1) (sym y.whole ∙ x.whole)) (Memᴰ.head refl))

abbrev AsStands : List Notice → Stands → Type 0
AsStands l s = Beginning (about 1 s.taken) l s.turn

unheard_not : Premise 2 zeros unheard → ⊥
unfolding keep
unheard_not p =
    let l = p.lists 1 in
    let x = subst (AsStands l) first-stands (p.one.taken _ (Memᴰ.head refl) 1) in
    let y = subst (AsStands l) second-stands (p.one.taken _ (Memᴰ.tail (Memᴰ.head refl)) 1) in
    let w = lacks (out_from 1 0) (back_at 1 1) l 3 2 x y in
    omega (arith, w)

pub notice_runs : NoticeRuns
notice_runs = record {
  closed-runs = let c = closed-computed in record {
    calls = closed-calls;
    premise = closed-premise;
    answers = sym (walk-numbers 2 zeros closed_studio (fresh 2 zeros) ends) ∙ ap (λ (x : Told). x.answers) c;
    replica-0 = at 0 ∙ ap (λ (x : Told). x.first) c;
    replica-1 = at 1 ∙ ap (λ (x : Told). x.second) c;
    station-2 = at 2 ∙ ap (λ (x : Told). x.third) c;
    agreement = closed-agreement;
    agree = as_much 2 zeros closed_studio closed-agreement 0 2
        (ap (λ (x : Stands). x.held.commits) (at 0 ∙ ap (λ (x : Told). x.first) c) ∙ sym (ap (λ (x : Stands). x.held.commits) (at 2 ∙ ap (λ (x : Told). x.third) c)));
  };
  unheard-runs = record {
    calls = unheard-calls;
    each = calls-premise 2 zeros unheard [] (ap (λ (x : Apart). x.fine) unheard-computed);
    premise = unheard_not;
    replica-0 = first-stands;
    replica-1 = second-stands;
    agreement = λ A. apart 2 unheard A (ap (λ (x : Stands). x.held) first-stands) (ap (λ (x : Stands). x.held) second-stands);
  };
}
  where
    at : (k : ℕ) → stands (after closed_studio) k ≡ stands (walked 2 zeros closed_studio ends).end k
    at k = ap (λ (g : Members). stands g k) (sym closed_end)
