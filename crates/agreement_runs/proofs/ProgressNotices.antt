-- The runs of Req 06 with notices, computed from the definitions, each walked once. Assumes nothing.
use Prim.Native.Nat.{ℕ, ◌<◌, ◌≤◌}
use mathlib.Core.Path.{◌≡◌, refl, sym, ap, ◌∙◌, subst}
use mathlib.Core.Bool.{Bool, true, false}
use mathlib.Core.List.{List, [], ◌∷◌}
use native.Mathlib.Omega.{arith}
use lib.Dec.{eqb}
use borrow.Author.Tests.{eqb-true, eqb-false}
use Rattle.block.specs.Numbers.{bytes_of, number_from, value_bytes, value_of}
use Rattle.block.specs.Check.{word, sum_to, weighted_to, first_check, second_check, check_bytes, check_matches}
use Rattle.block.specs.Message.{owner_of, within, kind_fits, entries_fit, record_fits, records_fit, ticket_absent, tickets_differ, valid, signed32}
use Rattle.block.specs.Bytes.{entry_bytes, entries_bytes, record_bytes, records_bytes, header_for, header_bytes, body_bytes, block_of}
use Rattle.block.specs.Form.{entry_of, entries_of, record_of, records_of, message_of, all_zero, entries_padded, record_padded, records_padded, padded, well_formed}
use Rattle.block.specs.Answers.{first_of, header_of, record_at, entry_at}
use Rattle.block.specs.Writing.{entries_from}
use Rattle.memory.specs.Memory.{bump}
use Rattle.memory.specs.Rows.{row_from, row_of, free_row, index_from, has, holder_from, count_below}
use Rattle.memory.specs.Turns.{place_start}
use Rattle.memory.specs.Notices.{Notice, puts_out}
use Rattle.memory.specs.Window.{empty_window}
use Rattle.engine.specs.Make.{made_memory}
use Rattle.engine.specs.Moves.{waiting, writeset_of, message_for, send_refusal, send_now, send_step, same_bytes, deliver_refusal, deliver_now, deliver_step, entries_for, applied, stamped, shares, after_aborts, insert_rising, hit_tickets, without, work_refusal, pass_next, commit_writeset, pass_out, pass_block, work_step}
use Rattle.engine.specs.Notices.{placed_from, notice_refusal, notice_step}
use Rattle.engine.specs.Calls.{step}
use Rattle.engine.specs.Worked.{zeros, out_from, back_at}
use Rattle.engine.proofs.Tests.{same_by}
use Rattle.protocol.specs.Lists.{Mem, any_of, keep}
use Rattle.agreement.specs.Group.{Members, CallAt, fresh, run, Calls, about, Premise}
use Rattle.agreement_progress.specs.Progress.{Given, OutFor, DownOut, SameNotices, AllGiven, everyone}
use Rattle.agreement_runs.specs.Worked.{numbers}
use Rattle.agreement_runs.specs.Progress.{slot_zero, down, first_alone, unlike, out_given, far_given, tried_on, tried, after, NoticedProgress}
use Rattle.agreement_runs.proofs.Premises.{Walked, walk, walked, end_is, walk-numbers, calls-premise, calls_met}
use Rattle.agreement_runs.proofs.OneLists.{begins, up_to, fit, outside, noticed-premise}
use Rattle.agreement_runs.proofs.Progress.{only, at_end}

-- whether the premise is met, the numbers, and what the replicas end with: what was handed out, where they stand, and the notices that replica 0 took
record Ended : Type 0 where
  fine : Bool
  one : Bool
  answers : List ℕ
  ends : List ℕ

abbrev ended : List Notice → Walked → Ended
ended all w = record { fine = w.fine; one = fit 2 all 2 w.end; answers = w.numbers; ends = tried w.end }

abbrev ending : List ℕ → List ℕ → Ended
ending a l = record { fine = true; one = true; answers = a; ends = l }

premise : (cs : List CallAt) (all : List Notice) (a l : List ℕ) → ended all (walked 2 zeros cs []) ≡ ending a l → any_of (outside 2 2) cs ≡ false → Premise 2 zeros cs
premise cs all a l e o =
    noticed-premise 2 zeros cs (calls-premise 2 zeros cs [] (ap (λ (x : Ended). x.fine) e)) all 2
    (subst (λ (g : Members). fit 2 all 2 g ≡ true) (end_is 2 zeros cs []) (ap (λ (x : Ended). x.one) e)) o

-- ---- a block is answered 29, or 18

out-computed : ended (out_from 1 0 ∷ back_at 1 1 ∷ []) (walked 2 zeros out_given []) ≡ ending (0 ∷ 0 ∷ 0 ∷ 0 ∷ 0 ∷ 0 ∷ 0 ∷ 0 ∷ 0 ∷ 0 ∷ 0 ∷ 29 ∷ 0 ∷ []) (11 ∷ 21 ∷ 11 ∷ 21 ∷ [])
unfolding bytes_of number_from value_bytes value_of word sum_to weighted_to first_check second_check check_bytes check_matches owner_of within kind_fits entries_fit record_fits records_fit ticket_absent tickets_differ valid signed32 entry_bytes entries_bytes record_bytes records_bytes header_for header_bytes body_bytes block_of entry_of entries_of record_of records_of message_of all_zero entries_padded record_padded records_padded padded well_formed first_of header_of record_at entry_at entries_from bump row_from row_of free_row index_from has holder_from count_below place_start made_memory waiting writeset_of message_for send_refusal send_now send_step same_bytes deliver_refusal deliver_now deliver_step entries_for applied stamped shares after_aborts insert_rising hit_tickets without work_refusal pass_next commit_writeset pass_out pass_block work_step placed_from notice_refusal notice_step puts_out keep step any_of walk begins up_to tried_on empty_window
out-computed = refl

out-calls : Calls 2 out_given
unfolding any_of signed32
out-calls = calls_met 2 out_given refl

out-premise : Premise 2 zeros out_given
unfolding any_of
out-premise = premise out_given (out_from 1 0 ∷ back_at 1 1 ∷ []) _ _ out-computed refl

far_computed : ended (out_from 1 1 ∷ back_at 1 3 ∷ []) (walked 2 zeros far_given []) ≡ ending (0 ∷ 0 ∷ 0 ∷ 0 ∷ 0 ∷ 0 ∷ 0 ∷ 0 ∷ 0 ∷ 0 ∷ 0 ∷ 18 ∷ 0 ∷ 0 ∷ 0 ∷ []) (11 ∷ 21 ∷ 11 ∷ 21 ∷ [])
unfolding bytes_of number_from value_bytes value_of word sum_to weighted_to first_check second_check check_bytes check_matches owner_of within kind_fits entries_fit record_fits records_fit ticket_absent tickets_differ valid signed32 entry_bytes entries_bytes record_bytes records_bytes header_for header_bytes body_bytes block_of entry_of entries_of record_of records_of message_of all_zero entries_padded record_padded records_padded padded well_formed first_of header_of record_at entry_at entries_from bump row_from row_of free_row index_from has holder_from count_below place_start made_memory waiting writeset_of message_for send_refusal send_now send_step same_bytes deliver_refusal deliver_now deliver_step entries_for applied stamped shares after_aborts insert_rising hit_tickets without work_refusal pass_next commit_writeset pass_out pass_block work_step placed_from notice_refusal notice_step puts_out keep step any_of walk begins up_to tried_on empty_window
far_computed = refl

far_calls : Calls 2 far_given
unfolding any_of signed32
far_calls = calls_met 2 far_given refl

far_premise : Premise 2 zeros far_given
unfolding any_of
far_premise = premise far_given (out_from 1 1 ∷ back_at 1 3 ∷ []) _ _ far_computed refl

-- ---- slot 0's block is worked by all that count

-- and what was handed out, where the two stand, and what replica 0 took
record Left : Type 0 where
  run : Ended
  blocks : List (List ℕ)
  first : ℕ
  second : ℕ
  taken : List Notice

abbrev left : Walked → Left
left w = let g = w.end in
    record { run = ended (out_from 1 1 ∷ []) w; blocks = g.blocks; first = (g.memories 0).turn.slot; second = (g.memories 1).turn.slot; taken = g.taken 0 }

down-computed : left (walked 2 zeros down []) ≡ record {
  run = ending (0 ∷ 0 ∷ 0 ∷ 0 ∷ []) (11 ∷ 0 ∷ 11 ∷ 21 ∷ []);
  blocks = slot_zero ∷ [];
  first = 1;
  second = 0;
  taken = out_from 1 1 ∷ [];
}
unfolding bytes_of number_from value_bytes value_of word sum_to weighted_to first_check second_check check_bytes check_matches owner_of within kind_fits entries_fit record_fits records_fit ticket_absent tickets_differ valid signed32 entry_bytes entries_bytes record_bytes records_bytes header_for header_bytes body_bytes block_of entry_of entries_of record_of records_of message_of all_zero entries_padded record_padded records_padded padded well_formed first_of header_of record_at entry_at entries_from bump row_from row_of free_row index_from has holder_from count_below place_start made_memory waiting writeset_of message_for send_refusal send_now send_step same_bytes deliver_refusal deliver_now deliver_step entries_for applied stamped shares after_aborts insert_rising hit_tickets without work_refusal pass_next commit_writeset pass_out pass_block work_step placed_from notice_refusal notice_step puts_out keep step any_of walk begins up_to tried_on empty_window
down-computed = refl

unlike-computed : left (walked 2 zeros unlike []) ≡ record {
  run = ending (0 ∷ 0 ∷ 0 ∷ 0 ∷ 0 ∷ 0 ∷ 0 ∷ []) (11 ∷ 21 ∷ 11 ∷ 21 ∷ []);
  blocks = slot_zero ∷ [];
  first = 1;
  second = 2;
  taken = [];
}
unfolding bytes_of number_from value_bytes value_of word sum_to weighted_to first_check second_check check_bytes check_matches owner_of within kind_fits entries_fit record_fits records_fit ticket_absent tickets_differ valid signed32 entry_bytes entries_bytes record_bytes records_bytes header_for header_bytes body_bytes block_of entry_of entries_of record_of records_of message_of all_zero entries_padded record_padded records_padded padded well_formed first_of header_of record_at entry_at entries_from bump row_from row_of free_row index_from has holder_from count_below place_start made_memory waiting writeset_of message_for send_refusal send_now send_step same_bytes deliver_refusal deliver_now deliver_step entries_for applied stamped shares after_aborts insert_rising hit_tickets without work_refusal pass_next commit_writeset pass_out pass_block work_step placed_from notice_refusal notice_step puts_out keep step any_of walk begins up_to tried_on empty_window
unlike-computed = refl

down-calls : Calls 2 down
unfolding any_of signed32
down-calls = calls_met 2 down refl

down-premise : Premise 2 zeros down
unfolding any_of
down-premise = premise down (out_from 1 1 ∷ []) _ _ (ap (λ (x : Left). x.run) down-computed) refl

unlike-calls : Calls 2 unlike
unfolding any_of signed32
unlike-calls = calls_met 2 unlike refl

unlike-premise : Premise 2 zeros unlike
unfolding any_of
unlike-premise = premise unlike (out_from 1 1 ∷ []) _ _ (ap (λ (x : Left). x.run) unlike-computed) refl

-- a replica that stands above slot 0 needs no block
passed : (cs : List CallAt) (k : ℕ) → (after cs).blocks ≡ slot_zero ∷ [] → 0 < ((after cs).memories k).turn.slot → (b : List ℕ) → Mem b (after cs).blocks → ((after cs).memories k).turn.slot ≤ (header_of b).slot
    → Given 2 zeros cs k b
unfolding bytes_of number_from word sum_to weighted_to first_check second_check check_bytes header_for header_bytes records_bytes body_bytes block_of header_of
passed cs k e above b m ahead =
    let s : (header_of b).slot ≡ 0 = ap (λ (x : List ℕ). (header_of x).slot) (only b (subst (Mem b) e m)) in
    absurd (let w : ⊥ = omega (arith, above, ahead, s) in w)

of : {A : Type 0} (f : Members → A) (cs : List CallAt) → f (after cs) ≡ f (walked 2 zeros cs []).end
of f cs = ap f (sym (end_is 2 zeros cs []))

down-first : ((after down).memories 0).turn.slot ≡ 1
down-first = of (λ g. (g.memories 0).turn.slot) down ∙ ap (λ (x : Left). x.first) down-computed

first-only : (k : ℕ) → first_alone k ≡ true → k ≡ 0
first-only k e = eqb-true k 0 e

down-all : AllGiven 2 zeros down first_alone
down-all k h b m ahead =
    let z = down-first in
    let a : 0 < ((after down).memories 0).turn.slot = omega (arith, z) in
    let e = first-only k h.1 in
    passed down k (of (λ g. g.blocks) down ∙ ap (λ (x : Left). x.blocks) down-computed) (subst (λ (i : ℕ). 0 < ((after down).memories i).turn.slot) (sym e) a) b m ahead

down-same : SameNotices 2 zeros down first_alone
down-same j k a b d h = ap (λ (i : ℕ). about d ((after down).taken i)) (first-only j a.1 ∙ sym (first-only k b.1))

-- replica 1 has no slot before its Out
out_for : OutFor 2 zeros down 0 1
unfolding keep owner_of
out_for = record {
  earlier = [];
  v = 1;
  last = ap (about 1) (of (λ g. g.taken 0) down ∙ ap (λ (x : Left). x.taken) down-computed);
  passed = λ s o h. let z : s ≡ 0 = omega (arith, h) in let w : owner_of 2 0 ≡ 1 = ap (owner_of 2) (sym z) ∙ o in absurd (omega (arith, w));
}

down_out : DownOut 2 zeros down first_alone
down_out d h e k c =
    let n = eqb-false d 0 e in
    let i : d ≡ 1 = omega (arith, h, n) in
    subst (λ (x : ℕ). OutFor 2 zeros down x d) (sym (first-only k c.1)) (subst (OutFor 2 zeros down 0) (sym i) out_for)

unlike-all : AllGiven 2 zeros unlike everyone
unlike-all k h b m ahead =
    let u = of (λ g. (g.memories 0).turn.slot) unlike ∙ ap (λ (x : Left). x.first) unlike-computed in
    let v = of (λ g. (g.memories 1).turn.slot) unlike ∙ ap (λ (x : Left). x.second) unlike-computed in
    let a : 0 < ((after unlike).memories 0).turn.slot = omega (arith, u) in
    let c : 0 < ((after unlike).memories 1).turn.slot = omega (arith, v) in
    let i = h.0 in
    passed unlike k (of (λ g. g.blocks) unlike ∙ ap (λ (x : Left). x.blocks) unlike-computed)
    (same_by k 0 (λ e. subst (λ (x : ℕ). 0 < ((after unlike).memories x).turn.slot) (sym e) a)
    (λ d. let e : k ≡ 1 = omega (arith, i, d) in subst (λ (x : ℕ). 0 < ((after unlike).memories x).turn.slot) (sym e) c))
    b m ahead

pub noticed-progress : NoticedProgress
noticed-progress = record {
  down_out = down_out;
  down-same = down-same;
  down-all = down-all;
  down-left = (0, (omega arith, refl), (let z = down-first in omega (arith, z)));
  down-goes = record { calls = down-calls; premise = down-premise; ends = at_end down [] ∙ ap (λ (x : Left). x.run.ends) down-computed };
  unlike-all = unlike-all;
  unlike-ends = record { calls = unlike-calls; premise = unlike-premise; ends = at_end unlike [] ∙ ap (λ (x : Left). x.run.ends) unlike-computed };
  out-answers = sym (walk-numbers 2 zeros out_given (fresh 2 zeros) []) ∙ ap (λ (x : Ended). x.answers) out-computed;
  given_out = record { calls = out-calls; premise = out-premise; ends = at_end out_given [] ∙ ap (λ (x : Ended). x.ends) out-computed };
  far-answers = sym (walk-numbers 2 zeros far_given (fresh 2 zeros) []) ∙ ap (λ (x : Ended). x.answers) far_computed;
  given-far = record { calls = far_calls; premise = far_premise; ends = at_end far_given [] ∙ ap (λ (x : Ended). x.ends) far_computed };
}
