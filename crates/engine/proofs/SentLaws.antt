-- What is open as sent, and the tickets of the block that a send writes. Assumes nothing.
use Prim.Native.Nat.{ℕ, zero, suc, ◌+◌, ◌*◌, ◌-◌, ◌≤◌, ◌<◌}
use mathlib.Core.Path.{◌≡◌, refl, sym, ap, ◌∙◌}
use mathlib.Core.Bool.{true, false}
use mathlib.Core.List.{List, [], ◌∷◌, ◌++◌, map, append_assoc}
use native.Mathlib.Nat.{not-suc-le-zero, le_of_suc-le-suc}
use native.Mathlib.Omega.{arith}
use lib.Dec.{eqb, ltb}
use lib.ListN.{length, get_or, take, drop, replicate, length-append, length-replicate, length-map}
use lib.Seq.{slice, take_at, drop_at}
use borrow.Author.Tests.{eqb-true, eq-eqb, ltb-true, lt-ltb}
use Rattle.block.specs.Numbers.{bytes_of}
use Rattle.block.specs.Check.{check_bytes}
use Rattle.block.specs.Bytes.{record_bytes, records_bytes, header_for, header_bytes, body_bytes, block_of}
use Rattle.block.specs.Answers.{record_at}
use Rattle.block.proofs.BoolLaws.{both, joined}
use Rattle.block.proofs.ListLaws.{part_in, drop-step}
use Rattle.block.proofs.NumberLaws.{number_from-bytes_of}
use Rattle.block.proofs.BlockLaws.{length-record_bytes}
use Rattle.memory.specs.declared.Txn.{Txn}
use Rattle.memory.specs.Memory.{Transactions, Memory}
use Rattle.memory.specs.Rows.{row_from, row_of, row_at}
use Rattle.engine.specs.Moves.{waiting, writeset_of, message_for, send_row, same_bytes, is_sent}
use Rattle.engine.specs.Shape.{Shape}
use Rattle.engine.proofs.Tests.{clash}
use Rattle.engine.proofs.RowLaws.{row-found, row_is}
use Rattle.engine.proofs.QueueLaws.{length-waiting, waiting-at}
use Rattle.engine.proofs.ShapeSend.{writeset-few, length_writesets, length_outbox}

-- ---- bytes

pub same_bytes_lem : (a b : List ℕ) → same_bytes a b ≡ true → a ≡ b
unfolding same_bytes
same_bytes_lem [] [] e = refl
same_bytes_lem [] (y ∷ ys) e = clash {b = false} e refl
same_bytes_lem (x ∷ xs) [] e = clash {b = false} e refl
same_bytes_lem (x ∷ xs) (y ∷ ys) e =
    let h = both (eqb x y) (same_bytes xs ys) e in
    rw (eqb-true x y h.left, same_bytes_lem xs ys h.right)

-- ---- open as sent

pub record SentRow (m : Memory) (t : ℕ) : Type 0 where
  pub below : row_of t m.txns.table < 6
  pub stage : (row_at m.txns.table (row_of t m.txns.table)).stage ≡ 2

pub sent-found : (m : Memory) (t : ℕ) → is_sent m t ≡ true → SentRow m t
sent-found m t e =
    let r = row_of t m.txns.table in
    let b = both (ltb r 6) (eqb (row_at m.txns.table r).stage 2) e in
    record { below = ltb-true r 6 b.left; stage = eqb-true (row_at m.txns.table r).stage 2 b.right }

pub is_sent_lem : (m : Memory) (t : ℕ) → SentRow m t → is_sent m t ≡ true
is_sent_lem m t s =
    joined (lt-ltb (row_of t m.txns.table) 6 s.below) (eq-eqb (row_at m.txns.table (row_of t m.txns.table)).stage 2 s.stage)

-- a row that has the ticket and is sent
pub row-sent : {over : ℕ} (n : Memory) → Shape over n → (t r : ℕ) → r < 6 → (t ≡ 0 → ⊥) → (row_at n.txns.table r).ticket ≡ t
    → (row_at n.txns.table r).stage ≡ 2 → is_sent n t ≡ true
row-sent n T t r h some e s =
    let q = row_is t n.txns.table T.lengths.table some r h e (λ j l d p. T.distinct r j h l d (λ z. some (sym e ∙ z)) (e ∙ sym p)) in
    is_sent_lem n t (record { below = rw q h; stage = rw q s })

-- where its row stays, it stays open as sent
pub stays-sent : {over : ℕ} (m n : Memory) → Shape over m → Shape over n → (t : ℕ) → is_sent m t ≡ true
    → row_at n.txns.table (row_of t m.txns.table) ≡ row_at m.txns.table (row_of t m.txns.table) → is_sent n t ≡ true
stays-sent m n S T t e same =
    let s = sent-found m t e in
    let f = row-found t m.txns.table S.lengths.table s.below in
    row-sent n T t (row_of t m.txns.table) s.below f.some (ap (λ (x : Txn). x.ticket) same ∙ f.is) (ap (λ (x : Txn). x.stage) same ∙ s.stage)

-- ---- the block of a send

ticket_bytes : (x : Transactions) (ts : List ℕ) (rest : List ℕ) (j : ℕ) → j < length ts
    → take 4 (drop (72 * j) (records_bytes (map (writeset_of x) ts) ++ rest)) ≡ bytes_of 4 (get_or ts j 0)
unfolding records_bytes record_bytes bytes_of writeset_of
ticket_bytes x [] rest j h = absurd (not-suc-le-zero h)
ticket_bytes x (t ∷ ts) rest zero h = refl
ticket_bytes x (t ∷ ts) rest (suc j) h =
    let l = record_bytes (writeset_of x t) in
    let k = records_bytes (map (writeset_of x) ts) in
    ap (take 4)
    (sym (drop-step 72 j ((l ++ k) ++ rest))
    ∙ ap (drop (72 * j)) (ap (drop 72) (append_assoc l k rest) ∙ drop_at l (k ++ rest) 72 (length-record_bytes (writeset_of x t) (writeset-few x t))))
    ∙ ticket_bytes x ts rest j (le_of_suc-le-suc h)

module _ (m : Memory) (six : length m.txns.queue ≡ 6) where
  abbrev line : List ℕ
  line = waiting m.txns.queue

  abbrev rest : List ℕ
  rest = replicate (488 - 72 * length (map (writeset_of m.txns) line)) 0

  middle : slice 16 504 (block_of (message_for m)) ≡ records_bytes (map (writeset_of m.txns) line) ++ rest
  unfolding block_of body_bytes header_bytes bytes_of message_for
  middle =
      take_at (records_bytes (map (writeset_of m.txns) line) ++ rest) (check_bytes (body_bytes (message_for m))) 488
      (simp (length-append, length_writesets m.txns line, length-map, length-replicate) (omega (arith, length-waiting m.txns.queue)))

  pub count-sent : get_or (block_of (message_for m)) 3 0 ≡ length (waiting m.txns.queue)
  unfolding block_of body_bytes header_bytes header_for message_for
  count-sent = length-map line (writeset_of m.txns)

  pub ticket-sent : (j : ℕ) → j < length (waiting m.txns.queue) → get_or m.txns.queue j 0 ≤ 100_000_000
      → (record_at (block_of (message_for m)) j).ticket ≡ get_or m.txns.queue j 0
  unfolding record_at
  ticket-sent j h few =
      rw (
        eq-eqb (length (block_of (message_for m))) 512 (length_outbox m six),
        lt-ltb j 6 (omega (arith, length-waiting m.txns.queue)),
        ← part_in (block_of (message_for m)) 16 504 (72 * j) 4 (16 + 72 * j) (20 + 72 * j) refl (omega arith) (omega (arith, length-waiting m.txns.queue)),
        middle,
        ticket_bytes m.txns line rest j h,
        waiting-at m.txns.queue j h,
      )
      (number_from-bytes_of 4 (get_or m.txns.queue j 0) (omega arith))

-- ---- the rows of a send

row-sends : (t i : ℕ) (l : List Txn) → row_from t i (map send_row l) ≡ row_from t i l
unfolding row_from
row-sends t i [] = refl
row-sends t i (x ∷ xs) = rw (row-sends t (suc i) xs)

pub row-of-sends : (t : ℕ) (l : List Txn) → row_of t (map send_row l) ≡ row_of t l
unfolding row_of
row-of-sends t l = rw (row-sends t 0 l)
