-- The runs, computed from the definitions, each walked once. Assumes nothing.
use Prim.Native.Nat.{ℕ, ◌≤◌}
use mathlib.Core.Path.{◌≡◌, refl, sym, ap, ◌∙◌, subst}
use mathlib.Core.Bool.{Bool, true}
use mathlib.Core.List.{List, [], ◌∷◌, ◌++◌}
use native.Mathlib.Omega.{arith}
use lib.IntN.{ℤ, pos, negsuc}
use lib.ListN.{get_or, set, take, replicate, length-replicate}
use Rattle.block.specs.Numbers.{bytes_of, number_from, value_bytes, value_of}
use Rattle.block.specs.Check.{word, sum_to, weighted_to, first_check, second_check, check_bytes, check_matches}
use Rattle.block.specs.Message.{owner_of, within, kind_fits, entries_fit, record_fits, records_fit, ticket_absent, tickets_differ, valid, signed32}
use Rattle.block.specs.Bytes.{entry_bytes, entries_bytes, record_bytes, records_bytes, header_for, header_bytes, body_bytes, block_of}
use Rattle.block.specs.Form.{entry_of, entries_of, record_of, records_of, message_of, all_zero, entries_padded, record_padded, records_padded, padded, well_formed}
use Rattle.block.specs.Answers.{first_of, block_refusal, header_of, record_at, entry_at}
use Rattle.block.specs.Writing.{entries_from}
use Rattle.memory.specs.Memory.{bump}
use Rattle.memory.specs.Rows.{open_count, row_from, row_of, free_row, index_from, has, holder_from, count_below}
use Rattle.memory.specs.Turns.{place_start}
use Rattle.memory.specs.Notices.{with_notices, puts_out}
use Rattle.memory.specs.Window.{empty_window, keeping_all}
use Rattle.engine.specs.Answers.{Answer}
use Rattle.engine.specs.Answers.Answer.{refused, wrote, got}
use Rattle.engine.specs.Make.{Setting, made_memory, places_fit, parts_fit}
use Rattle.engine.specs.Classes.{has_class, class_from, class_to_come, must_wait, are_classes, load_refusal, load_step}
use Rattle.engine.specs.Client.{begin_refusal, begin_at, begin_row, read_refusal, value_for, read_row, write_refusal, rewrite_at, insert_write, stale_at, write_row, ask_refusal, read_only_at, queue_at, ask_row, report_of, report_step}
use Rattle.engine.specs.Moves.{waiting, writeset_of, message_for, send_refusal, send_now, send_step, same_bytes, deliver_refusal, deliver_now, deliver_step, entries_for, applied, stamped, shares, after_aborts, insert_rising, hit_tickets, without, work_refusal, pass_next, commit_writeset, pass_out, pass_block, work_step}
use Rattle.engine.specs.Calls.{step}
use Rattle.engine.specs.Calls.Call.{write, report, send}
use Rattle.engine.specs.Restart.{is_good, blocks_from, writesets_from, commit_all, commit_blocks, highest_ticket, highest_own, own_writesets, last_own, restarted_memory, restart_refusal, restart_step}
use Rattle.engine.specs.Worked.{zeros}
use Rattle.protocol.specs.Lists.{Mem, any_of}
use Rattle.protocol.specs.Observer.{sequence, apply_all}
use Rattle.protocol.proofs.ListLaws.{less_by}
use Rattle.agreement.specs.Group.{message_in, heard, Members, CallAt, fresh, run, Calls, Premise}
use Rattle.agreement.specs.Statement.{Agrees, Agreement}
use Rattle.agreement.proofs.Theorem.{agreement}
use Rattle.agreement_runs.specs.Worked.{story, forgery, outages, fourth, watched, watching, numbers, watched_values, Seen, seen, after, HeldBy, held_in, held, holding, story_values, outage_values, WorkedRuns, half_applied, writing, classes, classes_values}
use Rattle.agreement_runs.proofs.Premises.{among, Cut, cut, Walked, walk, walked, end_is, walk-numbers, walk-on, walk-parts, calls_met, same_values, same_notices}
use Rattle.agreement_runs.proofs.OneLists.{quiet}

-- ---- what a run's end says

-- two members that committed as much hold the same values
pub as_much : (n : ℕ) (start : List ℤ) (cs : List CallAt) → Agreement n start cs → (j k : ℕ) → let g = run (fresh n start) cs in
    (report_of (g.memories j)).commits ≡ (report_of (g.memories k)).commits → (g.memories j).store.values ≡ (g.memories k).store.values
as_much n start cs A j k c =
    (each j).values ∙ ap (λ (x : ℕ). apply_all start (take x (sequence (run (fresh n start) cs).handouts))) c ∙ sym (each k).values
  where
    each : (i : ℕ) → let g = run (fresh n start) cs in Agrees start (sequence g.handouts) g.handouts (g.observed i) (g.memories i).store (report_of (g.memories i))
    each i = less_by i n (A.replicas i) (A.stations i)

absolute : ℤ → ℕ
absolute (pos n) = n
absolute (negsuc n) = n

-- so not 84 here and 86 there
pub apart : (n : ℕ) (cs : List CallAt) → Agreement n zeros cs → let g = run (fresh n zeros) cs in
    held_in g 0 ≡ holding (set zeros 5 (pos 84)) 1 → held_in g 1 ≡ holding (set zeros 5 (pos 86)) 1 → ⊥
unfolding absolute
apart n cs A a b =
    let e : set zeros 5 (pos 84) ≡ set zeros 5 (pos 86) =
    sym (ap (λ (h : HeldBy). h.values) a) ∙ as_much n zeros cs A 0 1 (ap (λ (h : HeldBy). h.commits) a ∙ sym (ap (λ (h : HeldBy). h.commits) b)) ∙ ap (λ (h : HeldBy). h.values) b in
    let z : ◌≡◌ {A = ℕ} 84 86 = ap (λ (l : List ℤ). absolute (get_or l 5 (pos 0))) e in
    omega arith

pub setting : (n : ℕ) → 2 ≤ n → n ≤ 6 → Setting n zeros
setting n least most = record { least = least; most = most; long = length-replicate 128 (pos 0) }

-- whether each call meets the premise, and what the three replicas hold
record Three : Type 0 where
  fine : Bool
  replica-0 : HeldBy
  replica-1 : HeldBy
  replica-2 : HeldBy

abbrev three : Walked → Three
three w = let g = w.end in record { fine = w.fine; replica-0 = held_in g 0; replica-1 = held_in g 1; replica-2 = held_in g 2 }

abbrev alike : HeldBy → Three
alike h = record { fine = true; replica-0 = h; replica-1 = h; replica-2 = h }

of_end : (cs : List CallAt) (hs : List Cut) (k : ℕ) → held cs k ≡ held_in (walked 3 zeros cs hs).end k
of_end cs hs k = ap (λ (g : Members). held_in g k) (sym (end_is 3 zeros cs hs))

-- ---- the runs

story-computed : three (walked 3 zeros story []) ≡ alike (holding story_values 4)
unfolding bytes_of number_from value_bytes value_of word sum_to weighted_to first_check second_check check_bytes check_matches owner_of within kind_fits entries_fit record_fits records_fit ticket_absent tickets_differ valid signed32 entry_bytes entries_bytes record_bytes records_bytes header_for header_bytes body_bytes block_of entry_of entries_of record_of records_of message_of all_zero entries_padded record_padded records_padded padded well_formed first_of header_of record_at entry_at entries_from bump row_from row_of free_row index_from has holder_from count_below place_start made_memory begin_refusal begin_at begin_row write_refusal rewrite_at insert_write stale_at write_row has_class class_from class_to_come must_wait ask_refusal read_only_at queue_at ask_row report_of waiting writeset_of message_for send_refusal send_now send_step same_bytes deliver_refusal deliver_now deliver_step entries_for applied stamped shares after_aborts insert_rising hit_tickets without work_refusal pass_next commit_writeset pass_out pass_block work_step step any_of walk empty_window
story-computed = refl

record Two : Type 0 where
  replica-0 : HeldBy
  replica-1 : HeldBy

abbrev two : Members → Two
two g = record { replica-0 = held_in g 0; replica-1 = held_in g 1 }

forgery-computed : two (after forgery) ≡ record { replica-0 = holding (set zeros 5 (pos 84)) 1; replica-1 = holding (set zeros 5 (pos 86)) 1 }
unfolding bytes_of number_from value_bytes value_of word sum_to weighted_to first_check second_check check_bytes check_matches owner_of within kind_fits entries_fit record_fits records_fit ticket_absent tickets_differ valid signed32 entry_bytes entries_bytes record_bytes records_bytes header_for header_bytes body_bytes block_of entry_of entries_of record_of records_of message_of all_zero entries_padded record_padded records_padded padded well_formed first_of header_of record_at entry_at entries_from bump row_from row_of free_row index_from has holder_from count_below place_start made_memory begin_refusal begin_at begin_row write_refusal rewrite_at insert_write stale_at write_row has_class class_from class_to_come must_wait ask_refusal read_only_at queue_at ask_row report_of waiting writeset_of message_for send_refusal send_now send_step same_bytes deliver_refusal deliver_now deliver_step entries_for applied stamped shares after_aborts insert_rising hit_tickets without work_refusal pass_next commit_writeset pass_out pass_block work_step step any_of walk run empty_window
forgery-computed = refl

-- the first two cuts end a send; the third leaves the floor, 512 of 1024 bytes
abbrev ends : List Cut
ends = cut (send (replicate 512 0)) 512 ∷ cut (send (replicate 512 0)) 612 ∷ cut report 512 ∷ []

outages-computed : three (walked 3 zeros outages ends) ≡ alike (holding outage_values 2)
unfolding bytes_of number_from value_bytes value_of word sum_to weighted_to first_check second_check check_bytes check_matches owner_of within kind_fits entries_fit record_fits records_fit ticket_absent tickets_differ valid signed32 entry_bytes entries_bytes record_bytes records_bytes header_for header_bytes body_bytes block_of entry_of entries_of record_of records_of message_of all_zero entries_padded record_padded records_padded padded well_formed first_of header_of record_at entry_at entries_from bump row_from row_of free_row index_from has holder_from count_below place_start made_memory begin_refusal begin_at begin_row write_refusal rewrite_at insert_write stale_at write_row has_class class_from class_to_come must_wait ask_refusal read_only_at queue_at ask_row report_of waiting writeset_of message_for send_refusal send_now send_step same_bytes deliver_refusal deliver_now deliver_step entries_for applied stamped shares after_aborts insert_rising hit_tickets without work_refusal pass_next commit_writeset pass_out pass_block work_step step any_of walk is_good blocks_from writesets_from commit_all commit_blocks highest_ticket highest_own own_writesets last_own with_notices puts_out restarted_memory restart_refusal restart_step places_fit parts_fit open_count message_in block_refusal heard report_step same_values same_notices empty_window keeping_all
outages-computed = refl

-- by its two parts
record Classes : Type 0 where
  fine : Bool
  free : Answer
  waits : Answer
  ends : Three

abbrev in_classes : Walked → Classes
in_classes w = let g = w.end in record {
  fine = w.fine;
  free = (step (g.memories 1) (write 1 5 (pos 84))).answer;
  waits = (step (g.memories 2) (write 1 5 (pos 86))).answer;
  ends = three (walk 3 zeros g writing []);
}

classes-computed : in_classes (walked 3 zeros half_applied []) ≡ record { fine = true; free = wrote; waits = refused 7; ends = alike (holding classes_values 3) }
unfolding bytes_of number_from value_bytes value_of word sum_to weighted_to first_check second_check check_bytes check_matches owner_of within kind_fits entries_fit record_fits records_fit ticket_absent tickets_differ valid signed32 entry_bytes entries_bytes record_bytes records_bytes header_for header_bytes body_bytes block_of entry_of entries_of record_of records_of message_of all_zero entries_padded record_padded records_padded padded well_formed first_of header_of record_at entry_at entries_from bump row_from row_of free_row index_from has holder_from count_below place_start made_memory begin_refusal begin_at begin_row write_refusal rewrite_at insert_write stale_at write_row has_class class_from class_to_come must_wait ask_refusal read_only_at queue_at ask_row report_of waiting writeset_of message_for send_refusal send_now send_step same_bytes deliver_refusal deliver_now deliver_step entries_for applied stamped shares after_aborts insert_rising hit_tickets without work_refusal pass_next commit_writeset pass_out pass_block work_step step any_of walk are_classes load_refusal load_step empty_window
classes-computed = refl

record Stations : Type 0 where
  fine : Bool
  handed : Bool
  later : Bool
  answers : List ℕ
  ends : Seen

abbrev of_stations : Walked → Stations
of_stations w = let x = walk 3 zeros w.end watching [] in record { fine = w.fine; handed = any_of (same_bytes fourth) w.end.blocks; later = x.fine; answers = x.numbers; ends = seen x.end }

stations-computed : of_stations (walked 3 zeros watched []) ≡ record {
  fine = true;
  handed = true;
  later = true;
  answers = 0 ∷ 0 ∷ 18 ∷ 0 ∷ 0 ∷ 0 ∷ 0 ∷ 25 ∷ 25 ∷ 25 ∷ 0 ∷ 0 ∷ 0 ∷ [];
  ends = record {
    replica-0 = holding watched_values 2;
    station-3 = holding watched_values 2;
    station-4 = holding (set zeros 10 (pos 80)) 1;
    applied-before = got (pos 80);
    applied-after = got (pos 0);
    report = record { turn = 2; commits = 2; tickets = 2; open_count = 1; committed = 0; read_only = 1; aborted = 0; withdrawn = 0 };
  };
}
unfolding bytes_of number_from value_bytes value_of word sum_to weighted_to first_check second_check check_bytes check_matches owner_of within kind_fits entries_fit record_fits records_fit ticket_absent tickets_differ valid signed32 entry_bytes entries_bytes record_bytes records_bytes header_for header_bytes body_bytes block_of entry_of entries_of record_of records_of message_of all_zero entries_padded record_padded records_padded padded well_formed first_of header_of record_at entry_at entries_from bump row_from row_of free_row index_from has holder_from count_below place_start made_memory begin_refusal begin_at begin_row write_refusal rewrite_at insert_write stale_at write_row has_class class_from class_to_come must_wait ask_refusal read_only_at queue_at ask_row report_of waiting writeset_of message_for send_refusal send_now send_step same_bytes deliver_refusal deliver_now deliver_step entries_for applied stamped shares after_aborts insert_rising hit_tickets without work_refusal pass_next commit_writeset pass_out pass_block work_step step any_of walk open_count read_refusal value_for read_row empty_window
stations-computed = refl

story-calls : Calls 3 story
unfolding any_of signed32
story-calls = calls_met 3 story refl

story-premise : Premise 3 zeros story
unfolding any_of
story-premise = quiet 3 zeros story [] (ap (λ (x : Three). x.fine) story-computed) refl

forgery-calls : Calls 3 forgery
unfolding any_of signed32
forgery-calls = calls_met 3 forgery refl

outage-calls : Calls 3 outages
unfolding any_of signed32
outage-calls = calls_met 3 outages refl

outage-premise : Premise 3 zeros outages
unfolding any_of
outage-premise = quiet 3 zeros outages ends (ap (λ (x : Three). x.fine) outages-computed) refl

classes-calls : Calls 3 classes
unfolding any_of signed32
classes-calls = calls_met 3 classes refl

classes-premise : Premise 3 zeros classes
unfolding any_of
classes-premise =
    quiet 3 zeros classes []
    (walk-parts 3 zeros half_applied writing (fresh 3 zeros) (ap (λ (x : Classes). x.fine) classes-computed) (ap (λ (x : Classes). x.ends.fine) classes-computed)) refl

stations-calls : Calls 3 (watched ++ watching)
unfolding any_of signed32
stations-calls = calls_met 3 (watched ++ watching) refl

stations-premise : Premise 3 zeros (watched ++ watching)
unfolding any_of
stations-premise =
    quiet 3 zeros (watched ++ watching) []
    (walk-parts 3 zeros watched watching (fresh 3 zeros) (ap (λ (x : Stations). x.fine) stations-computed) (ap (λ (x : Stations). x.later) stations-computed)) refl

-- the end of a run by its parts, of the walk
by_parts : (a b : List CallAt) → run (fresh 3 zeros) (a ++ b) ≡ (walk 3 zeros (walked 3 zeros a []).end b []).end
by_parts a b = sym (end_is 3 zeros (a ++ b) []) ∙ walk-on 3 zeros a b (fresh 3 zeros)

pub worked_runs : WorkedRuns
worked_runs = record {
  story-runs = let c = story-computed in record {
    calls = story-calls;
    premise = story-premise;
    replica-0 = of_end story [] 0 ∙ ap (λ (x : Three). x.replica-0) c;
    replica-1 = of_end story [] 1 ∙ ap (λ (x : Three). x.replica-1) c;
    replica-2 = of_end story [] 2 ∙ ap (λ (x : Three). x.replica-2) c;
  };
  forgery-runs =
      let a = ap (λ (x : Two). x.replica-0) forgery-computed in
      let b = ap (λ (x : Two). x.replica-1) forgery-computed in record {
        calls = forgery-calls;
        premise = λ p. apart 3 forgery (agreement 3 zeros (setting 3 (omega arith) (omega arith)) forgery forgery-calls p) a b;
        replica-0 = a;
        replica-1 = b;
      };
  outage-runs = let c = outages-computed in record {
    calls = outage-calls;
    premise = outage-premise;
    replica-0 = of_end outages ends 0 ∙ ap (λ (x : Three). x.replica-0) c;
    replica-1 = of_end outages ends 1 ∙ ap (λ (x : Three). x.replica-1) c;
    replica-2 = of_end outages ends 2 ∙ ap (λ (x : Three). x.replica-2) c;
  };
  classes-runs = let c = classes-computed in record {
    calls = classes-calls;
    premise = classes-premise;
    free = ap (λ (g : Members). (step (g.memories 1) (write 1 5 (pos 84))).answer) (sym (end_is 3 zeros half_applied [])) ∙ ap (λ (x : Classes). x.free) c;
    waits = ap (λ (g : Members). (step (g.memories 2) (write 1 5 (pos 86))).answer) (sym (end_is 3 zeros half_applied [])) ∙ ap (λ (x : Classes). x.waits) c;
    replica-0 = ap (λ (g : Members). held_in g 0) (by_parts half_applied writing) ∙ ap (λ (x : Classes). x.ends.replica-0) c;
    replica-1 = ap (λ (g : Members). held_in g 1) (by_parts half_applied writing) ∙ ap (λ (x : Classes). x.ends.replica-1) c;
    replica-2 = ap (λ (g : Members). held_in g 2) (by_parts half_applied writing) ∙ ap (λ (x : Classes). x.ends.replica-2) c;
  };
  station-runs = let c = stations-computed in record {
    calls = stations-calls;
    premise = stations-premise;
    handed = subst (λ (g : Members). Mem fourth g.blocks) (end_is 3 zeros watched []) (among fourth _ (ap (λ (x : Stations). x.handed) c));
    answers = ap (λ (g : Members). numbers g watching) (sym (end_is 3 zeros watched [])) ∙ sym (walk-numbers 3 zeros watching _ []) ∙ ap (λ (x : Stations). x.answers) c;
    ends = ap seen (by_parts watched watching) ∙ ap (λ (x : Stations). x.ends) c;
  };
}
