-- The runs of `specs/WorkedNotices.antt`, computed from the definitions. Assumes nothing.
use Prim.Native.Nat.{◌≤◌, ℕ, zero, suc}
use mathlib.Core.Path.{◌≡◌, ap, refl, subst}
use mathlib.Core.List.Memᴰ
use mathlib.Core.List.{[]}
use native.Mathlib.Omega.{arith}
use lib.ListN.{length}
use borrow.Author.Tests.{ne_eqb}
use Rattle.protocol.specs.Lists.{Mem, keep, any_of, first, sort_in, sort}
use Rattle.protocol.specs.Writesets.{has, put, value_or, shares, apply_one, stamp_one}
use Rattle.protocol.specs.Notices.{notices_about, out_by, outages_of}
use Rattle.protocol.specs.Client.{is_empty, ask_step, withdraw_step, begin_step, read_step, write_found, write_step}
use Rattle.protocol.specs.Moves.{cursor_after, send_step, deliver_step, blocks_after, commit_step, work_step, placed_from, notice_step}
use Rattle.protocol.specs.Journal.{in_slot_order, commit_all, commit_blocks, highest_ticket, highest_of, last_of, out_end, next_of, journal_after, appended}
use Rattle.protocol.specs.Observer.{add_pending, txn_ids, observed_after, handouts_after}
use Rattle.protocol.specs.System.{Beginning, messages_after, notices_after, step, run}
use Rattle.protocol.specs.Worked.{events, after}
use Rattle.protocol.specs.WorkedNotices.{out_from, handing, of_zero, NoticeRuns}

-- nobody is above the Out that all lack
handed_alone : (j k : ℕ) → Beginning (notices_about k ((after handing).notices j)) (of_zero k) ((after handing).replicas j).cursor.turn
unfolding keep send_step notices_after step run
handed_alone zero k = record { lacking = of_zero k; whole = refl; ahead = λ n q. let z : 0 ≤ n.slot = omega arith in z }
handed_alone (suc j) k =
    rw (ne_eqb (suc j) 0 (λ e. let z : ⊥ = omega arith in z)) (record { lacking = of_zero k; whole = refl; ahead = λ n q. let z : 0 ≤ n.slot = omega arith in z })

pub notice_runs : NoticeRuns
unfolding keep any_of first sort_in sort has put value_or shares apply_one stamp_one out_by outages_of is_empty ask_step withdraw_step begin_step read_step write_found write_step cursor_after send_step deliver_step blocks_after commit_step work_step placed_from notice_step in_slot_order commit_all commit_blocks highest_ticket highest_of last_of out_end journal_after appended add_pending txn_ids observed_after handouts_after messages_after notices_after step run events
notice_runs = record {
  notices = refl;
  passes = refl;
  journaled = refl;
  handed = refl;
  returns = refl;
  taken = refl;
  outages = refl;
  closes = refl;
  firm = refl;
  shut = refl;
  own_journaled = refl;
  reopens = refl;
  whole_journal = refl;
  by_list = refl;
  restarts = refl;
  gives_none = refl;
  cut_off = refl;
  cut_firm = refl;
  still_taken = refl;
  lacking = λ B. absurd (let h = B.ahead (out_from 1 3) (subst (Mem (out_from 1 3)) B.whole (Memᴰ.head refl)) in let z : ⊥ = omega arith in z);
  unlisted = λ O. absurd (let h = ap length (O.taken 0 tt 2).whole in let z : ⊥ = omega arith in z);
  dropped = λ O. absurd (let h = O.handed (next_of 0 0) (Memᴰ.head refl) in let z : ◌≡◌ {A = ℕ} 0 1 = cc in let w : ⊥ = omega arith in w);
  handed_alone = handed_alone;
  other_lent = λ L. absurd (let h = ap length (L [] [] refl).1 in let z : ⊥ = omega arith in z);
}
