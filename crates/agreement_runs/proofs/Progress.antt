-- The runs of Req 06, computed from the definitions, each walked once. Assumes nothing.
use Prim.Native.Nat.{ℕ}
use mathlib.Core.Path.{◌≡◌, refl, sym, ap, ◌∙◌, subst}
use mathlib.Core.Bool.{Bool, true, false}
use mathlib.Core.Logic.{◌⊎◌, inl, inr}
use mathlib.Core.List.Memᴰ
use mathlib.Core.List.{List, [], ◌∷◌, ◌++◌}
use native.Mathlib.Omega.{arith}
use lib.Dec.{eqb}
use borrow.Author.Tests.{eq-eqb}
use Rattle.block.specs.Numbers.{bytes_of, number_from, value_bytes, value_of}
use Rattle.block.specs.Check.{word, sum_to, weighted_to, first_check, second_check, check_bytes, check_matches}
use Rattle.block.specs.Message.{owner_of, within, kind_fits, entries_fit, record_fits, records_fit, ticket_absent, tickets_differ, valid, signed32}
use Rattle.block.specs.Bytes.{entry_bytes, entries_bytes, record_bytes, records_bytes, header_for, header_bytes, body_bytes, block_of}
use Rattle.block.specs.Form.{entry_of, entries_of, record_of, records_of, message_of, all_zero, entries_padded, record_padded, records_padded, padded, well_formed}
use Rattle.block.specs.Answers.{first_of, block_refusal, header_of, record_at, entry_at}
use Rattle.block.specs.Writing.{entries_from}
use Rattle.memory.specs.Memory.{bump}
use Rattle.memory.specs.Rows.{open_count, row_from, row_of, free_row, index_from, has, holder_from, count_below}
use Rattle.memory.specs.Turns.{place_start}
use Rattle.memory.specs.Notices.{with_notices, puts_out}
use Rattle.memory.specs.Window.{empty_window, keeping_all}
use Rattle.engine.specs.Make.{made_memory, places_fit, parts_fit}
use Rattle.engine.specs.Client.{report_of, report_step}
use Rattle.engine.specs.Moves.{waiting, writeset_of, message_for, send_refusal, send_now, send_step, same_bytes, deliver_refusal, deliver_now, deliver_step, entries_for, applied, stamped, shares, after_aborts, insert_rising, hit_tickets, without, work_refusal, pass_next, commit_writeset, pass_out, pass_block, work_step}
use Rattle.engine.specs.Calls.{step}
use Rattle.engine.specs.Calls.Call.{report, work}
use Rattle.engine.specs.Restart.{is_good, blocks_from, writesets_from, commit_all, commit_blocks, highest_ticket, highest_own, own_writesets, last_own, restarted_memory, restart_refusal, restart_step}
use Rattle.engine.specs.Worked.{zeros}
use Rattle.engine.specs.History.{AnyCall}
use Rattle.engine.proofs.Tests.{same_by, clash}
use Rattle.protocol.specs.Lists.{Mem, any_of}
use Rattle.protocol.proofs.ListLaws.{any_false}
use Rattle.agreement.specs.Group.{message_in, heard, Members, CallAt, fresh, run, Comes, Calls, about, Premise}
use Rattle.agreement_progress.specs.Progress.{giving, deliver_number, Given, SameNotices, AllGiven, everyone}
use Rattle.agreement_runs.specs.Worked.{at, sending}
use Rattle.agreement_runs.specs.Progress.{slot_zero, given, ungiven, early, emptied, tried_on, tried, after, WorkedProgress}
use Rattle.agreement_runs.proofs.Premises.{Cut, cut, Walked, walk, walked, end_is, calls_met, same_values, same_notices}
use Rattle.agreement_runs.proofs.OneLists.{quiet, taken-kept}

-- ---- a list without a call at a replica

abbrev is_at : ℕ → CallAt → Bool
is_at k c = eqb c.at k

none_at : (later more : List CallAt) (k : ℕ) (d : AnyCall) → any_of (is_at k) later ≡ false → Comes later more (record { at = k; does = d }) → ⊥
none_at later more k d e q =
    clash (eq-eqb k k refl)
    (any_false (is_at k) later e (record { at = k; does = d }) (subst (Mem (record { at = k; does = d })) (sym q.1) (Memᴰ.append_right more (Memᴰ.head refl))))

pub only : (b : List ℕ) → Mem b (slot_zero ∷ []) → b ≡ slot_zero
only b m = go (Memᴰ.cases_cons m)
  where
    go : (b ≡ slot_zero) ⊎ Mem b [] → b ≡ slot_zero
    go (inl e) = e
    go (inr q) = absurd (Memᴰ.not-nil q)

-- ---- the run in which all is given

-- what each deliver finds, and is answered
record Finds : Type 0 where
  blocks : List (List ℕ)
  number : ℕ

abbrev finds : ℕ → Members → Finds
finds k g = record { blocks = g.blocks; number = deliver_number (g.memories k) slot_zero }

abbrev found : Finds
found = record { blocks = slot_zero ∷ []; number = 0 }

first_finds : finds 0 (after (sending 0 ∷ [])) ≡ found
unfolding bytes_of number_from value_bytes value_of word sum_to weighted_to first_check second_check check_bytes check_matches owner_of within kind_fits entries_fit record_fits records_fit ticket_absent tickets_differ valid signed32 entry_bytes entries_bytes record_bytes records_bytes header_for header_bytes body_bytes block_of entry_of entries_of record_of records_of message_of all_zero entries_padded record_padded records_padded padded well_formed first_of header_of record_at entry_at entries_from bump row_from row_of free_row index_from has holder_from count_below place_start made_memory waiting writeset_of message_for send_refusal send_now send_step same_bytes deliver_refusal deliver_now deliver_step entries_for applied stamped shares after_aborts insert_rising hit_tickets without work_refusal pass_next commit_writeset pass_out pass_block work_step step any_of run empty_window
first_finds = refl

second-finds : finds 1 (after (sending 0 ∷ giving 0 slot_zero ∷ [])) ≡ found
unfolding bytes_of number_from value_bytes value_of word sum_to weighted_to first_check second_check check_bytes check_matches owner_of within kind_fits entries_fit record_fits records_fit ticket_absent tickets_differ valid signed32 entry_bytes entries_bytes record_bytes records_bytes header_for header_bytes body_bytes block_of entry_of entries_of record_of records_of message_of all_zero entries_padded record_padded records_padded padded well_formed first_of header_of record_at entry_at entries_from bump row_from row_of free_row index_from has holder_from count_below place_start made_memory waiting writeset_of message_for send_refusal send_now send_step same_bytes deliver_refusal deliver_now deliver_step entries_for applied stamped shares after_aborts insert_rising hit_tickets without work_refusal pass_next commit_writeset pass_out pass_block work_step step any_of run empty_window
second-finds = refl

to : (k : ℕ) (before later : List CallAt) → given ≡ before ++ (giving k slot_zero ∷ later) → finds k (after before) ≡ found → any_of (is_at k) later ≡ false → Given 2 zeros given k slot_zero
to k before later c f e = record {
  before = before;
  later = later;
  comes = c;
  handed = subst (Mem slot_zero) (sym (ap (λ (x : Finds). x.blocks) f)) (Memᴰ.head refl);
  near = λ q. let z = ap (λ (x : Finds). x.number) f in omega (arith, q, z);
  live = λ q. let z = ap (λ (x : Finds). x.number) f in omega (arith, q, z);
  since = λ more d c g q. absurd (none_at later more k d e q);
}

to-first : Given 2 zeros given 0 slot_zero
unfolding any_of
to-first = to 0 (sending 0 ∷ []) (giving 1 slot_zero ∷ at 2 work ∷ []) refl first_finds refl

to-second : Given 2 zeros given 1 slot_zero
unfolding any_of
to-second = to 1 (sending 0 ∷ giving 0 slot_zero ∷ []) (at 2 work ∷ []) refl second-finds refl

-- ---- the runs without notices

record Ended : Type 0 where
  fine : Bool
  ends : List ℕ

abbrev ended : Walked → Ended
ended w = record { fine = w.fine; ends = tried w.end }

abbrev ending : List ℕ → Ended
ending l = record { fine = true; ends = l }

stuck_computed : ended (walked 2 zeros ungiven []) ≡ ending (12 ∷ 21 ∷ 11 ∷ 21 ∷ [])
unfolding bytes_of number_from value_bytes value_of word sum_to weighted_to first_check second_check check_bytes check_matches owner_of within kind_fits entries_fit record_fits records_fit ticket_absent tickets_differ valid signed32 entry_bytes entries_bytes record_bytes records_bytes header_for header_bytes body_bytes block_of entry_of entries_of record_of records_of message_of all_zero entries_padded record_padded records_padded padded well_formed first_of header_of record_at entry_at entries_from bump row_from row_of free_row index_from has holder_from count_below place_start made_memory waiting writeset_of message_for send_refusal send_now send_step same_bytes deliver_refusal deliver_now deliver_step entries_for applied stamped shares after_aborts insert_rising hit_tickets without work_refusal pass_next commit_writeset pass_out pass_block work_step step any_of walk tried_on empty_window
stuck_computed = refl

stuck_premise : Premise 2 zeros ungiven
unfolding any_of
stuck_premise = quiet 2 zeros ungiven [] (ap (λ (x : Ended). x.fine) stuck_computed) refl

early-computed : ended (walked 2 zeros early []) ≡ ending (12 ∷ 21 ∷ 11 ∷ 21 ∷ [])
unfolding bytes_of number_from value_bytes value_of word sum_to weighted_to first_check second_check check_bytes check_matches owner_of within kind_fits entries_fit record_fits records_fit ticket_absent tickets_differ valid signed32 entry_bytes entries_bytes record_bytes records_bytes header_for header_bytes body_bytes block_of entry_of entries_of record_of records_of message_of all_zero entries_padded record_padded records_padded padded well_formed first_of header_of record_at entry_at entries_from bump row_from row_of free_row index_from has holder_from count_below place_start made_memory waiting writeset_of message_for send_refusal send_now send_step same_bytes deliver_refusal deliver_now deliver_step entries_for applied stamped shares after_aborts insert_rising hit_tickets without work_refusal pass_next commit_writeset pass_out pass_block work_step step any_of walk tried_on empty_window
early-computed = refl

early-premise : Premise 2 zeros early
unfolding any_of
early-premise = quiet 2 zeros early [] (ap (λ (x : Ended). x.fine) early-computed) refl

emptied-computed : ended (walked 2 zeros emptied (cut report 0 ∷ [])) ≡ ending (11 ∷ 21 ∷ 11 ∷ 21 ∷ [])
unfolding bytes_of number_from value_bytes value_of word sum_to weighted_to first_check second_check check_bytes check_matches owner_of within kind_fits entries_fit record_fits records_fit ticket_absent tickets_differ valid signed32 entry_bytes entries_bytes record_bytes records_bytes header_for header_bytes body_bytes block_of entry_of entries_of record_of records_of message_of all_zero entries_padded record_padded records_padded padded well_formed first_of header_of record_at entry_at entries_from bump row_from row_of free_row index_from has holder_from count_below place_start made_memory waiting writeset_of message_for send_refusal send_now send_step same_bytes deliver_refusal deliver_now deliver_step entries_for applied stamped shares after_aborts insert_rising hit_tickets without work_refusal pass_next commit_writeset pass_out pass_block work_step step any_of walk tried_on is_good blocks_from writesets_from commit_all commit_blocks highest_ticket highest_own own_writesets last_own with_notices puts_out restarted_memory restart_refusal restart_step places_fit parts_fit open_count message_in block_refusal heard report_of report_step same_values same_notices empty_window keeping_all
emptied-computed = refl

emptied-premise : Premise 2 zeros emptied
unfolding any_of
emptied-premise = quiet 2 zeros emptied (cut report 0 ∷ []) (ap (λ (x : Ended). x.fine) emptied-computed) refl

-- and that in which all is given, with what was handed out and where replica 0 stands
record Goes : Type 0 where
  fine : Bool
  ends : List ℕ
  blocks : List (List ℕ)
  turn : ℕ

abbrev going : Walked → Goes
going w = let g = w.end in record { fine = w.fine; ends = tried g; blocks = g.blocks; turn = (g.memories 0).turn.slot }

goes_computed : going (walked 2 zeros given []) ≡ record { fine = true; ends = 12 ∷ 0 ∷ 11 ∷ 0 ∷ []; blocks = slot_zero ∷ []; turn = 0 }
unfolding bytes_of number_from value_bytes value_of word sum_to weighted_to first_check second_check check_bytes check_matches owner_of within kind_fits entries_fit record_fits records_fit ticket_absent tickets_differ valid signed32 entry_bytes entries_bytes record_bytes records_bytes header_for header_bytes body_bytes block_of entry_of entries_of record_of records_of message_of all_zero entries_padded record_padded records_padded padded well_formed first_of header_of record_at entry_at entries_from bump row_from row_of free_row index_from has holder_from count_below place_start made_memory waiting writeset_of message_for send_refusal send_now send_step same_bytes deliver_refusal deliver_now deliver_step entries_for applied stamped shares after_aborts insert_rising hit_tickets without work_refusal pass_next commit_writeset pass_out pass_block work_step step any_of walk tried_on empty_window
goes_computed = refl

goes_premise : Premise 2 zeros given
unfolding any_of
goes_premise = quiet 2 zeros given [] (ap (λ (x : Goes). x.fine) goes_computed) refl

given_end : (walked 2 zeros given []).end ≡ after given
given_end = end_is 2 zeros given []

all-given : AllGiven 2 zeros given everyone
all-given k h b m ahead =
    let i = h.0 in
    subst (Given 2 zeros given k) (sym (only b (subst (Mem b) (ap (λ (g : Members). g.blocks) (sym given_end) ∙ ap (λ (x : Goes). x.blocks) goes_computed) m)))
    (same_by k 0 (λ e. subst (λ (i : ℕ). Given 2 zeros given i slot_zero) (sym e) to-first)
    (λ d. let e : k ≡ 1 = omega (arith, i, d) in subst (λ (i : ℕ). Given 2 zeros given i slot_zero) (sym e) to-second))

none_told : SameNotices 2 zeros given everyone
unfolding any_of
none_told j k a b d h = ap (about d) (taken-kept given (fresh 2 zeros) refl j ∙ sym (taken-kept given (fresh 2 zeros) refl k))

given-calls : Calls 2 given
unfolding any_of signed32
given-calls = calls_met 2 given refl

ungiven-calls : Calls 2 ungiven
unfolding any_of signed32
ungiven-calls = calls_met 2 ungiven refl

early-calls : Calls 2 early
unfolding any_of signed32
early-calls = calls_met 2 early refl

emptied-calls : Calls 2 emptied
unfolding any_of signed32
emptied-calls = calls_met 2 emptied refl

pub at_end : (cs : List CallAt) (hs : List Cut) → tried (after cs) ≡ tried (walked 2 zeros cs hs).end
at_end cs hs = ap tried (sym (end_is 2 zeros cs hs))

pub worked_progress : WorkedProgress
worked_progress = record {
  same = none_told;
  all = all-given;
  left = (0, (omega arith, refl), (let t : ((after given).memories 0).turn.slot ≡ 0 = ap (λ (g : Members). (g.memories 0).turn.slot) (sym given_end) ∙ ap (λ (x : Goes). x.turn) goes_computed in omega (arith, t)));
  goes = record { calls = given-calls; premise = goes_premise; ends = at_end given [] ∙ ap (λ (x : Goes). x.ends) goes_computed };
  not-given = record { calls = ungiven-calls; premise = stuck_premise; ends = at_end ungiven [] ∙ ap (λ (x : Ended). x.ends) stuck_computed };
  given-early = record { calls = early-calls; premise = early-premise; ends = at_end early [] ∙ ap (λ (x : Ended). x.ends) early-computed };
  given-before = record { calls = emptied-calls; premise = emptied-premise; ends = at_end emptied (cut report 0 ∷ []) ∙ ap (λ (x : Ended). x.ends) emptied-computed };
}
