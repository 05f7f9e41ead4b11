-- A replica restarted has the shape, from any journal. Assumes nothing.
use Prim.Native.Nat.{ℕ, ◌*◌, ◌/◌, ◌≤◌, ◌<◌}
use mathlib.Core.Path.{◌≡◌, refl, ap}
use mathlib.Core.Bool.{false}
use mathlib.Core.List.{List, []}
use native.Mathlib.Omega.{arith}
use lib.IntN.{ℤ, pos}
use lib.ListN.{length, replicate, length-replicate, get_or-replicate}
use borrow.Author.Tests.{eq-eqb}
use Rattle.memory.specs.declared.Txn.{Txn}
use Rattle.memory.specs.Memory.{group_of}
use Rattle.memory.specs.Notices.{Notice, with_notices}
use Rattle.memory.specs.Rows.{closed, open_count, row_at}
use Rattle.memory.specs.Turns.{place_start}
use Rattle.engine.specs.Make.{SettingOf}
use Rattle.engine.specs.Moves.{waiting}
use Rattle.engine.specs.Restart.{blocks_in, start_replay, repeated, restarted_memory}
use Rattle.engine.specs.Shape.{Shape}
use Rattle.engine.proofs.Tests.{clash}
use Rattle.engine.proofs.Shaping.{row-of_fits, fits_closed, shape_grouped, single_of}
use Rattle.engine.proofs.NoticeLaws.{notices_kept}
use Rattle.engine.proofs.ShapeMade.{get_or-zeros}
use Rattle.engine.proofs.RestartLaws.{AllGood, reads_good, reads_few, count-few, own-few, highest_few, blocks_counted, blocks_long, length-refilled}

-- lent no notices
shape_unnoticed : (n own : ℕ) (values : List ℤ) → SettingOf n own values
    → (bs : List (List ℕ)) → AllGood n bs → length bs ≤ 100_000_000 → Shape (repeated own bs) (restarted_memory n own values [] bs)
unfolding restarted_memory with_notices open_count waiting
shape_unnoticed n own values setting bs good few =
    let c = count-few n bs good in
    let o = own-few own bs in
    let h = highest_few n own bs good in
    let w = blocks_counted bs (start_replay values) (omega arith) in
    let l = blocks_long bs (start_replay values) (record { values = setting.group.long; stamps = length-replicate {A = ℕ} 128 0; classes = length-replicate {A = ℕ} 128 0 }) in
    record {
      lengths = record {
        table = refl;
        queue = refl;
        items = length-replicate {A = ℕ} 48 0;
        writes = length-replicate 48 (pos 0);
        snapshots = length-replicate 768 (pos 0);
        values = l.values;
        stamps = l.stamps;
        classes = l.classes;
        places = length-replicate {A = ℕ} (512 * n) 0;
        outbox = length-replicate {A = ℕ} 512 0;
        window = length-refilled n bs good;
        from = refl;
        until = refl;
      };
      ranges = record { least = setting.group.least; most = setting.group.most; own = λ e. setting.below; slot = few; tickets = h; commits = omega arith; repeats = omega arith; endings = omega arith };
      rows = λ r u. row-of_fits (restarted_memory n own values [] bs) r (rw (is-closed r u) (fits_closed _ _ _));
      distinct = λ i j u v d some. absurd (some (ap (λ (t : Txn). t.ticket) (is-closed i u)));
      queue = record {
        zeros = refl;
        asked = λ k u. absurd (let z : ⊥ = omega arith in z);
        queued = λ r u e. absurd (let q : (row_at (replicate 6 closed) r).stage ≡ 0 = ap (λ (t : Txn). t.stage) (is-closed r u) in let z : ⊥ = omega arith in z);
        once = λ j k u v. absurd (let z : ⊥ = omega arith in z);
      };
      places = record {
        waits = λ s u v e. clash (eq-eqb _ 0 (get_or-zeros (512 * n) (place_start n s))) e;
        clear = λ s u v e. eq-eqb _ 0 (get_or-zeros (512 * n) (place_start n s));
        done = λ u. absurd (let z : ⊥ = omega arith in z);
        applying = λ e. clash {b = false} e refl;
      };
      single = single_of (replicate 6 closed) (replicate 48 0) (length-replicate {A = ℕ} 48 0)
          (λ r u. let q = none r u in omega arith)
          (λ i j u v d a b x. absurd (let q = none i u in let z : ⊥ = omega arith in z));
    }
  where
    is-closed : (r : ℕ) → r < 6 → row_at (replicate 6 closed) r ≡ closed
    is-closed r u = get_or-replicate 6 r closed closed u

    none : (r : ℕ) → r < 6 → (row_at (replicate 6 closed) r).writes ≡ 0
    none r u = ap (λ (t : Txn). t.writes) (is-closed r u)

-- lent any: the places are empty
pub shape_of_blocks : (n own : ℕ) (values : List ℤ) → SettingOf n own values
    → (notices : List Notice) (bs : List (List ℕ)) → AllGood n bs → length bs ≤ 100_000_000 → Shape (repeated own bs) (restarted_memory n own values notices bs)
shape_of_blocks n own values setting notices bs good few =
    let s = shape_unnoticed n own values setting bs good few in
    unfold restarted_memory with_notices in
    shape_grouped (restarted_memory n own values [] bs) s (with_notices (group_of n own) notices) (notices_kept (group_of n own) notices)
    (λ s u v e. eq-eqb _ 0 (get_or-zeros (512 * n) _))

pub shape_restarted : (n own : ℕ) (values : List ℤ) → SettingOf n own values → (journal : List ℕ) (notices : List Notice)
    → Shape (repeated own (blocks_in n journal)) (restarted_memory n own values notices (blocks_in n journal))
shape_restarted n own values setting journal notices =
    shape_of_blocks n own values setting notices (blocks_in n journal) (reads_good n 0 _ journal)
    (let a = reads_few n 0 (length journal / 512) journal (omega arith) in omega arith)
