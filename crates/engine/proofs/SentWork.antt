-- A work keeps what is sent. Assumes nothing.
use Prim.Native.Nat.{ℕ, suc, ◌+◌, ◌≤◌, ◌<◌}
use mathlib.Core.Path.{◌≡◌, refl, sym, ap, ◌∙◌}
use mathlib.Core.Bool.{Bool, true, false}
use mathlib.Core.Logic.{inl, inr}
use mathlib.Core.List.{List}
use native.Mathlib.Omega.{arith}
use lib.Dec.{eqb}
use lib.ListN.{get_or, set}
use lib.Seq.{get_or-set_same}
use borrow.Author.Tests.{eqb-true, eqb-false, leb-true}
use Rattle.block.specs.Message.{Record, owner_of}
use Rattle.block.specs.Answers.{block_refusal, header_of, record_at}
use Rattle.block.proofs.BoolLaws.{not_so}
use Rattle.memory.specs.declared.Txn.{Txn}
use Rattle.memory.specs.Memory.{Memory}
use Rattle.memory.specs.Rows.{closed, row_of, row_at}
use Rattle.memory.specs.Turns.{is_empty, emptied}
use Rattle.engine.specs.Moves.{out_at_turn, sent_already, block_at_turn, writeset_at, after_aborts, is_sent, ends_own, is_last, pass_next, commit_writeset, pass_out}
use Rattle.engine.specs.Shape.{Shape}
use Rattle.engine.specs.Sent.{SentShape, sent_count, sent_ticket}
use Rattle.engine.proofs.Tests.{same_by, clash}
use Rattle.engine.proofs.RowLaws.{FoundRow, row-found, others}
use Rattle.engine.proofs.PlaceLaws.{place-again, next-round, empty_same}
use Rattle.engine.proofs.BlockFacts.{TakenBlock, taken_block}
use Rattle.engine.proofs.Shaping.{bumps}
use Rattle.engine.proofs.ShapeTurn.{Working, beside, again}
use Rattle.engine.proofs.ShapeWriteset.{committed, ends-own, ends-other}
use Rattle.engine.proofs.SentLaws.{SentRow, sent-found, stays-sent}
use Rattle.engine.proofs.WorkFrame.{SameOrClosed, aborts_closed}

-- ---- the block at the turn

module _ {over : ℕ} (m : Memory) (S : Shape over m) (Q : SentShape m) (waits : is_empty m.group.replicas m.turn.slot m.blocks.places ≡ false) where
  taken : (block_refusal (block_at_turn m) ≡ 0) × ((header_of (block_at_turn m)).slot ≡ m.turn.slot) × ((header_of (block_at_turn m)).replicas ≡ m.group.replicas)
  taken = S.places.waits m.turn.slot (omega arith) (omega (arith, S.ranges.least)) waits

  pub facts : TakenBlock (block_at_turn m)
  facts = taken_block (block_at_turn m) taken.0

  -- its sender is the owner of the turn's slot
  pub sender_owns : get_or (block_at_turn m) 1 0 ≡ owner_of m.group.replicas m.turn.slot
  sender_owns = facts.sender ∙ rw (taken.1, taken.2)

  -- this replica's is the one sent
  pub is-outbox : owner_of m.group.replicas m.turn.slot ≡ m.group.own → (sent_already m ≡ true) × (block_at_turn m ≡ m.blocks.outbox)
  is-outbox o = Q.own m.turn.slot (omega arith) (omega (arith, S.ranges.least)) waits o

  -- and its writeset to commit next is open as sent: a work ends its transaction
  module _ (kind : get_or (block_at_turn m) 0 0 ≡ 1 → ⊥) where
    pub own-sent : get_or (block_at_turn m) 1 0 ≡ m.group.own → is_sent m (writeset_at (block_at_turn m) m.counts.done).ticket ≡ true
    own-sent mine =
        let o = is-outbox (sym sender_owns ∙ mine) in
        let more : m.counts.done < get_or (block_at_turn m) 3 0 =
        same_by m.counts.done 0 (λ z. omega (arith, facts.some kind)) (λ z. (S.places.done (omega (arith, z))).1) in
        rw o.1 (Q.live o.0 m.counts.done (omega arith) (rw o.1 at more))

    pub own-ends : let mine = eqb (get_or (block_at_turn m) 1 0) m.group.own in ends_own mine m.txns.table (writeset_at (block_at_turn m) m.counts.done).ticket ≡ mine
    own-ends = go (eqb (get_or (block_at_turn m) 1 0) m.group.own) refl
      where
        go : (mine : Bool) → eqb (get_or (block_at_turn m) 1 0) m.group.own ≡ mine → ends_own mine m.txns.table (writeset_at (block_at_turn m) m.counts.done).ticket ≡ mine
        go true e = ends-own m.txns.table (writeset_at (block_at_turn m) m.counts.done).ticket ∙ own-sent (eqb-true (get_or (block_at_turn m) 1 0) m.group.own e)
        go false e = ends-other m.txns.table (writeset_at (block_at_turn m) m.counts.done).ticket

-- ---- after it

-- another own slot is a round further
round : (n own a b : ℕ) → a < b → owner_of n a ≡ own → owner_of n b ≡ own → a + n ≤ b
unfolding owner_of
round n own a b h p q = next-round n a b (p ∙ sym q) h

-- the turn went up: the block sent is done with, and no row is sent
turned : {over : ℕ} (m k : Memory) → Shape over m → Working m → SentShape m → k.group.replicas ≡ m.group.replicas → k.group.own ≡ m.group.own
    → k.turn.slot ≡ suc m.turn.slot → sent_already k ≡ false → k.blocks.places ≡ emptied m.group.replicas m.turn.slot m.blocks.places
    → ((r : ℕ) → r < 6 → (row_at k.txns.table r).stage ≡ 2 → ⊥) → SentShape k
turned m k S w Q a b c d e none = record {
  turn = λ t. clash t d;
  awaited = λ t. clash t d;
  own = rw (a, b, c, e) (λ s l u v o. absurd (no_other s l u v o));
  once = λ t. clash t d;
  live = λ t. clash t d;
  only = λ r h s. absurd (none r h s);
}
  where
    no_other : (s : ℕ) → suc m.turn.slot ≤ s → s < suc m.turn.slot + m.group.replicas
        → is_empty m.group.replicas s (emptied m.group.replicas m.turn.slot m.blocks.places) ≡ false
        → owner_of m.group.replicas s ≡ m.group.own → ⊥
    no_other s l u v o =
        same_by s (m.turn.slot + m.group.replicas)
        (λ z. clash (again m S w) (rw z at v))
        (λ z. let f = beside m S w s l (omega (arith, z)) in
        let y = Q.own s (omega arith) (omega (arith, z)) (sym (empty_same m.group.replicas s _ m.blocks.places f) ∙ v) o in
        let x = round m.group.replicas m.group.own m.turn.slot s l (Q.turn y.0) o in
        omega (arith, z))

-- the mark is off, and stays off
off : (m k : Memory) → SentShape m → sent_already m ≡ false → k.group.replicas ≡ m.group.replicas → k.group.own ≡ m.group.own
    → k.turn.slot ≡ m.turn.slot → sent_already k ≡ false → k.blocks.places ≡ m.blocks.places
    → ((r : ℕ) → r < 6 → (row_at k.txns.table r).stage ≡ 2 → ⊥) → SentShape k
off m k Q z a b c d e none = record {
  turn = λ t. clash t d;
  awaited = λ t. clash t d;
  own = rw (a, b, c, e) (λ s l u v o. clash (Q.own s l u v o).0 z);
  once = λ t. clash t d;
  live = λ t. clash t d;
  only = λ r h s. absurd (none r h s);
}

-- where the mark is off no row is sent
none_sent : (m : Memory) → SentShape m → sent_already m ≡ false → (r : ℕ) → r < 6 → (row_at m.txns.table r).stage ≡ 2 → ⊥
none_sent m Q z r h s = clash (Q.only r h s).0 z

-- rows that are closed or as they were
none_after : (m k : Memory) → SentShape m → sent_already m ≡ false → ((i : ℕ) → SameOrClosed m.txns.table k.txns.table i)
    → (r : ℕ) → r < 6 → (row_at k.txns.table r).stage ≡ 2 → ⊥
none_after m k Q z rows r h s = go (rows r)
  where
    go : SameOrClosed m.txns.table k.txns.table r → ⊥
    go (inl e) = none_sent m Q z r h (rw e at s)
    go (inr e) = let q : ◌≡◌ {A = ℕ} 0 2 = rw e at s in omega arith

-- ---- an out slot: nothing was sent for it

pub sent-out : {over : ℕ} (m : Memory) → Shape over m → SentShape m → out_at_turn m ≡ true → SentShape (pass_out m).memory
unfolding pass_out
sent-out m S Q u = record {
  turn = λ t. clash {b = false} t refl;
  awaited = λ t. clash {b = false} t refl;
  own = rw (bumps m S).slot (λ s l h e q. same_by s (m.turn.slot + m.group.replicas)
      (λ z. clash again-empty (rw z at e))
      (λ d. clash u (Q.awaited (Q.own s (omega arith) (omega (arith, d)) e q).0)));
  once = λ t. clash {b = false} t refl;
  live = λ t. clash {b = false} t refl;
  only = λ r h s. clash u (Q.awaited (Q.only r h s).0);
}
  where
    again-empty : is_empty m.group.replicas (m.turn.slot + m.group.replicas) m.blocks.places ≡ true
    again-empty =
        ap (λ (k : ℕ). eqb (get_or m.blocks.places k 0) 0) (place-again m.group.replicas m.turn.slot)
        ∙ S.places.clear m.turn.slot (omega arith) (omega (arith, S.ranges.least)) u

-- ---- a *next*

pub sent-next : {over : ℕ} (m : Memory) → Shape over m → Working m → SentShape m → get_or (block_at_turn m) 0 0 ≡ 1 → SentShape (pass_next m).memory
unfolding pass_next
sent-next m S w Q kind = turned m (pass_next m).memory S w Q refl refl (bumps m S).slot refl refl none
  where
    none : (r : ℕ) → r < 6 → (row_at m.txns.table r).stage ≡ 2 → ⊥
    none r h s =
        let f = Q.only r h s in
        let q = (is-outbox m S Q w.waits (Q.turn f.0)).1 in
        let c : sent_count m ≡ 0 = rw q at ((facts m S Q w.waits).next kind) in
        let l = f.3 in
        omega arith

-- ---- one writeset

module _ {over : ℕ} (m : Memory) (S : Shape over m) (w : Working m) (Q : SentShape m) (kind : get_or (block_at_turn m) 0 0 ≡ 1 → ⊥) where
  abbrev this : Record
  this = writeset_at (block_at_turn m) m.counts.done

  abbrev row : ℕ
  row = row_of this.ticket m.txns.table

  -- the replica's own: its row alone is closed
  module _ (mine : get_or (block_at_turn m) 1 0 ≡ m.group.own) where
    at_turn_lem : (sent_already m ≡ true) × (block_at_turn m ≡ m.blocks.outbox)
    at_turn_lem = is-outbox m S Q w.waits (sym (sender_owns m S Q w.waits) ∙ mine)

    ticket_is : this.ticket ≡ sent_ticket m m.counts.done
    ticket_is = ap (λ (b : List ℕ). (record_at b m.counts.done).ticket) at_turn_lem.1

    its-row : SentRow m this.ticket
    its-row = sent-found m this.ticket (own-sent m S Q w.waits kind mine)

    its-ticket : FoundRow this.ticket m.txns.table
    its-ticket = row-found this.ticket m.txns.table S.lengths.table its-row.below

    other_row : (r : ℕ) → (row_at (set m.txns.table row closed) r).stage ≡ 2 → r ≡ row → ⊥
    other_row r s e =
        let q : row_at (set m.txns.table row closed) row ≡ closed =
        get_or-set_same m.txns.table row closed closed (let l = its-row.below in omega (arith, S.lengths.table)) in
        let z : ◌≡◌ {A = ℕ} 0 2 = rw q at (rw e at s) in
        omega arith

    -- a row still sent is a later record's
    later : (r : ℕ) → r < 6 → (row_at (set m.txns.table row closed) r).stage ≡ 2
        → (j : ℕ) × (m.counts.done + 1 ≤ j) × (j < sent_count m) × (sent_ticket m j ≡ (row_at (set m.txns.table row closed) r).ticket)
    later r h s =
        let d = other_row r s in
        let same = others m.txns.table row closed r d in
        let f = Q.only r h (rw same at s) in
        let j = f.1 in
        let above = f.2 in
        let t : sent_ticket m j ≡ (row_at m.txns.table r).ticket = f.4 in
        let new : j ≡ m.counts.done → ⊥ = (λ e.
        let q : (row_at m.txns.table r).ticket ≡ this.ticket = sym t ∙ ap (sent_ticket m) e ∙ sym ticket_is in
        S.distinct r row h its-row.below d (λ z. its-ticket.some (sym q ∙ z)) (q ∙ sym its-ticket.is)) in
        (j, omega (arith, new), f.3, t ∙ ap (λ (x : Txn). x.ticket) (sym same))

    mine-last : is_last m ≡ true → SentShape (committed m true true true this)
    mine-last l =
        let c = leb-true (get_or (block_at_turn m) 3 0) (m.counts.done + 1) l in
        turned m (committed m true true true this) S w Q refl refl (bumps m S).slot refl refl
        (λ r h s. let f = later r h s in let a = f.1 in let b = f.2 in omega (arith, ap (λ (b : List ℕ). get_or b 3 0) at_turn_lem.1))

    mine-more : Shape over (committed m true true false this) → SentShape (committed m true true false this)
    mine-more T = record {
      turn = Q.turn;
      awaited = Q.awaited;
      own = Q.own;
      once = Q.once;
      live = λ t j h u.
          let s = Q.live t j (omega arith) u in
          let f = row-found (sent_ticket m j) m.txns.table S.lengths.table (sent-found m (sent_ticket m j) s).below in
          stays-sent m (committed m true true false this) S T (sent_ticket m j) s
          (others m.txns.table row closed (row_of (sent_ticket m j) m.txns.table)
          (λ e. Q.once t m.counts.done j (omega arith) u
          (sym ticket_is ∙ sym its-ticket.is ∙ ap (λ (i : ℕ). (row_at m.txns.table i).ticket) (sym e) ∙ f.is)));
      only = λ r h s. let f = later r h s in (at_turn_lem.0, f.0, f.1, f.2, f.3);
    }

  -- another's: no row is sent
  module _ (mine : get_or (block_at_turn m) 1 0 ≡ m.group.own → ⊥) where
    unsent : sent_already m ≡ false
    unsent = not_so (sent_already m) (λ t. mine (sender_owns m S Q w.waits ∙ Q.turn t))

    none : (r : ℕ) → r < 6 → (row_at (after_aborts this.entries m.txns.items 0 m.txns.table) r).stage ≡ 2 → ⊥
    none = none_after m (committed m false false true this) Q unsent (aborts_closed this.entries m.txns.items m.txns.table)

    other_last : SentShape (committed m false false true this)
    other_last = turned m (committed m false false true this) S w Q refl refl (bumps m S).slot refl refl none

    other-more : SentShape (committed m false false false this)
    other-more = off m (committed m false false false this) Q unsent refl refl refl unsent refl none

  by_both : (mine last : Bool) → eqb (get_or (block_at_turn m) 1 0) m.group.own ≡ mine → is_last m ≡ last → Shape over (committed m mine mine last this)
      → SentShape (committed m mine mine last this)
  by_both true true e l T = mine-last (eqb-true (get_or (block_at_turn m) 1 0) m.group.own e) l
  by_both true false e l T = mine-more (eqb-true (get_or (block_at_turn m) 1 0) m.group.own e) T
  by_both false true e l T = other_last (eqb-false (get_or (block_at_turn m) 1 0) m.group.own e)
  by_both false false e l T = other-more (eqb-false (get_or (block_at_turn m) 1 0) m.group.own e)

  pub sent-committed : Shape over (commit_writeset m (eqb (get_or (block_at_turn m) 1 0) m.group.own) this).memory
      → SentShape (commit_writeset m (eqb (get_or (block_at_turn m) 1 0) m.group.own) this).memory
  unfolding commit_writeset
  sent-committed = rw (own-ends m S Q w.waits kind) (by_both (eqb (get_or (block_at_turn m) 1 0) m.group.own) (is_last m) refl refl)
