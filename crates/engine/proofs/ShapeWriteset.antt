-- A writeset committed: the memory after it, and all of its shape but that of the transactions. Assumes nothing.
use Prim.Native.Nat.{ℕ, ◌+◌, ◌*◌, ◌≤◌, ◌<◌, min}
use mathlib.Core.Path.{◌≡◌, refl, ◌∙◌}
use mathlib.Core.Bool.{Bool, true, false, cond}
use mathlib.Core.List.{List, [], ◌∷◌}
use native.Mathlib.Omega.{arith}
use lib.IntN.{ℤ}
use lib.ListN.{length, get_or, set, length-set}
use borrow.Author.Tests.{leb-false}
use Rattle.block.specs.declared.Entry.{Entry}
use Rattle.block.specs.Message.{Record}
use Rattle.memory.specs.declared.Txn.{Txn}
use Rattle.memory.specs.Memory.{Memory, window_bytes, bump, with_done, with_commit}
use Rattle.memory.specs.Rows.{closed, open_count, row_of, row_at, items_of, has}
use Rattle.memory.specs.Turns.{mark_applying, advance}
use Rattle.engine.specs.Moves.{block_at_turn, applied, stamped, after_aborts, hit_tickets, queue_without, sent_among, ends_own, turn_blocks, is_last, commit_writeset}
use Rattle.engine.specs.Shape.{Lengths, RowShape, QueueShape, PlaceShape, Shape}
use Rattle.engine.proofs.Tests.{bool_by}
use Rattle.engine.proofs.Shaping.{bumps}
use Rattle.engine.proofs.ShapeTurn.{Working, places-turned, places-done, length-emptied, length-kept}

-- `mine` where the replica sent it itself, `ends` where its own transaction ends with it, `last` where it is the block's last
abbrev pub committed : Memory → Bool → Bool → Bool → Record → Memory
committed m mine ends last w =
    let gone = cond mine [] (hit_tickets w.entries m.txns.items 0 m.txns.table) in
    record {
      group = m.group;
      turn = cond last (advance m.turn) (cond mine m.turn (mark_applying m.turn));
      counts = with_done
          (with_commit m.counts (bump m.counts.commits) (cond ends (bump m.counts.committed) m.counts.committed)
          (min (m.counts.aborted + length gone) 4_294_967_295))
          (cond last 0 (m.counts.done + 1));
      txns = record {
        table = cond mine
            (cond ends (set m.txns.table (row_of w.ticket m.txns.table) closed) m.txns.table)
            (after_aborts w.entries m.txns.items 0 m.txns.table);
        queue = cond mine m.txns.queue (queue_without gone m.txns.queue);
        items = m.txns.items;
        writes = m.txns.writes;
        snapshots = m.txns.snapshots;
      };
      store = record { values = applied w.entries m.store.values; stamps = stamped (bump m.counts.commits) w.entries m.store.stamps; classes = m.store.classes };
      blocks = cond last (turn_blocks m) m.blocks;
    }

-- an own writeset ends its transaction where that is open as sent, another's never: whichever test comes first
pub ends-own : (table : List Txn) (t : ℕ) → ends_own true table t ≡ sent_among table t
ends-own table t = bool_by (sent_among table t) (λ s. rw s) (λ s. rw s)

pub ends-other : (table : List Txn) (t : ℕ) → ends_own false table t ≡ false
ends-other table t = go false refl
  where
    go : (mine : Bool) → mine ≡ false → ends_own mine table t ≡ false
    go mine h = bool_by (sent_among table t) (λ s. simp (h, s)) (λ s. simp (h, s))

-- the transactions' part of the shape
pub record TxnShape (over : ℕ) (k : Memory) : Type 0 where
  pub table : length k.txns.table ≡ 6
  pub waiting : length k.txns.queue ≡ 6
  pub endings : k.counts.tickets + over
      ≡ open_count k.txns.table + k.counts.committed + k.counts.read_only + k.counts.aborted + k.counts.withdrawn
  pub rows : (r : ℕ) → r < 6 → RowShape k r
  pub distinct : (i j : ℕ) → i < 6 → j < 6 → (i ≡ j → ⊥) → ((row_at k.txns.table i).ticket ≡ 0 → ⊥)
      → (row_at k.txns.table i).ticket ≡ (row_at k.txns.table j).ticket → ⊥
  pub queue : QueueShape k
  pub single : (i j : ℕ) → i < 6 → j < 6 → (i ≡ j → ⊥) → (x : ℕ) → has x (items_of i (row_at k.txns.table i) k.txns.items) ≡ true
      → has x (items_of j (row_at k.txns.table j) k.txns.items) ≡ true → ⊥

pub length-applied : (es : List Entry) (l : List ℤ) → length (applied es l) ≡ length l
unfolding applied
length-applied [] l = refl
length-applied (e ∷ es) l = length-applied es (set l e.item e.value) ∙ length-set l e.item e.value

pub length-stamped : (n : ℕ) (es : List Entry) (l : List ℕ) → length (stamped n es l) ≡ length l
unfolding stamped
length-stamped n [] l = refl
length-stamped n (e ∷ es) l = length-stamped n es (set l e.item n) ∙ length-set l e.item n

module _ {over : ℕ} (m : Memory) (S : Shape over m) (k : Working m) (more : m.counts.done < get_or (block_at_turn m) 3 0) where
  lengths-of : (mine ends last : Bool) (w : Record) → TxnShape over (committed m mine ends last w)
      → length (committed m mine ends last w).blocks.places ≡ 512 * m.group.replicas
      → length (committed m mine ends last w).blocks.outbox ≡ 512 → length (committed m mine ends last w).blocks.window ≡ window_bytes → Lengths (committed m mine ends last w)
  lengths-of mine ends last w t p o v = record {
    table = t.table;
    queue = t.waiting;
    items = S.lengths.items;
    writes = S.lengths.writes;
    snapshots = S.lengths.snapshots;
    values = length-applied w.entries m.store.values ∙ S.lengths.values;
    stamps = length-stamped (bump m.counts.commits) w.entries m.store.stamps ∙ S.lengths.stamps;
    classes = S.lengths.classes;
    places = p;
    outbox = o;
    window = v;
    from = S.lengths.from;
    until = S.lengths.until;
  }

  shape_of : (mine ends last : Bool) (w : Record) → TxnShape over (committed m mine ends last w) → Lengths (committed m mine ends last w)
      → (committed m mine ends last w).turn.slot ≤ 100_000_000
      → bump m.counts.commits ≤ 6 * (committed m mine ends last w).turn.slot + (committed m mine ends last w).counts.done
      → PlaceShape (committed m mine ends last w) → Shape over (committed m mine ends last w)
  shape_of mine ends last w t l s c p = record {
    lengths = l;
    ranges = record {
      least = S.ranges.least;
      most = S.ranges.most;
      own = S.ranges.own;
      slot = s;
      tickets = S.ranges.tickets;
      commits = c;
      repeats = S.ranges.repeats;
      endings = t.endings;
    };
    rows = t.rows;
    distinct = t.distinct;
    queue = t.queue;
    places = p;
    single = t.single;
  }

  slot-stays : (mine ends : Bool) (w : Record) → (committed m mine ends false w).turn.slot ≡ m.turn.slot
  slot-stays true ends w = refl
  slot-stays false ends w = refl

  by_last : (mine ends last : Bool) (w : Record) → is_last m ≡ last → TxnShape over (committed m mine ends last w) → Shape over (committed m mine ends last w)
  by_last mine ends true w e t =
      let u = (bumps m S).slot in
      let a = S.ranges.commits in
      let b = k.commits in
      let c = k.few in
      let d = k.slot in
      shape_of mine ends true w t (lengths-of mine ends true w t (length-emptied m S k) S.lengths.outbox (length-kept m S k)) (omega arith) (omega arith)
      (places-turned m S k (committed m mine ends true w) refl u refl refl refl)
  by_last mine ends false w e t =
      let u = slot-stays mine ends w in
      let a = S.ranges.commits in
      let b = k.commits in
      let c = S.ranges.slot in
      let l = leb-false (get_or (block_at_turn m) 3 0) (m.counts.done + 1) e in
      shape_of mine ends false w t (lengths-of mine ends false w t S.lengths.places S.lengths.outbox S.lengths.window) (omega arith) (omega arith)
      (places-done m S k (committed m mine ends false w) refl u refl refl l)

  pub shape-writeset : (mine : Bool) (w : Record) → TxnShape over (committed m mine (ends_own mine m.txns.table w.ticket) (is_last m) w) → Shape over (commit_writeset m mine w).memory
  unfolding commit_writeset
  shape-writeset mine w t = by_last mine (ends_own mine m.txns.table w.ticket) (is_last m) w refl t
