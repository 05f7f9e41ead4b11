-- One turn of the loop that marks the rows hit, from the last to the first. Assumes nothing.
use Prim.Native.Nat.{ℕ, zero, suc, ◌+◌, ◌-◌, ◌≤◌, ◌<◌}
use mathlib.Core.Path.{◌≡◌, refl, sym, ap, ◌∙◌}
use mathlib.Core.Bool.{Bool, true, false}
use mathlib.Core.List.{List, ◌∷◌, ◌++◌}
use native.Mathlib.Omega.{arith}
use lib.ListN.{length, set, take, drop, replicate, length-set}
use lib.Seq.{drop-length, drop-cons, drop-drop}
use Rattle.block.specs.declared.Entry.{Entry}
use Rattle.block.proofs.WriteLaws.{drop-zeros}
use Rattle.memory.specs.declared.Txn.{Txn}
use Rattle.memory.specs.Rows.{closed, row_at}
use Rattle.engine.specs.Moves.{is_hit, insert_rising, hit_tickets}
use Rattle.call_commit.specs.Marks.{hit_marks}

-- ---- the rows from row r on, marked where they are hit

-- the last of equal elements, moved to the rest, and written there
last-moved : {A : Type 0} (k : ℕ) (x : A) (l : List A) → replicate (suc k) x ++ l ≡ replicate k x ++ (x ∷ l)
last-moved zero x l = refl
last-moved (suc k) x l = ap (λ (t : List _). x ∷ t) (last-moved k x l)

last_set : {A : Type 0} (k : ℕ) (x y : A) (l : List A) → set (replicate (suc k) x ++ l) k y ≡ replicate k x ++ (y ∷ l)
last_set zero x y l = refl
last_set (suc k) x y l = ap (λ (t : List _). x ∷ t) (last_set k x y l)

-- the marks and the first tickets while the rows from r on are done
pub record Aborting (es : List Entry) (items : List ℕ) (table : List Txn) (marks : List Bool) (tickets : List ℕ) (count r : ℕ) : Type 0 where
  pub room : r + count ≤ 6
  pub six : length marks ≡ 6
  pub marks-are : marks ≡ replicate r false ++ hit_marks es items r (drop r table)
  pub tickets-are : take count tickets ≡ hit_tickets es items r (drop r table)
  pub zeros : drop count tickets ≡ replicate (6 - count) 0

module _ (es : List Entry) (items : List ℕ) (table : List Txn) (all : length table ≡ 6) where
  pub abort-none : (marks : List Bool) (tickets : List ℕ) → marks ≡ replicate 6 false → tickets ≡ replicate 6 0 → Aborting es items table marks tickets 0 6
  unfolding hit_marks hit_tickets
  abort-none marks tickets e z = record {
    room = omega arith;
    six = ap length e;
    marks-are = rw (e, ← all, drop-length table);
    tickets-are = rw (← all, drop-length table);
    zeros = z;
  }

  module _ (marks : List Bool) (tickets : List ℕ) (count k r : ℕ) (e : r ≡ suc k) (s : Aborting es items table marks tickets count r) where
    within : k < length table
    within = omega (arith, s.room)

    rest-cons : drop k table ≡ row_at table k ∷ drop r table
    rest-cons = rw e (drop-cons table k closed within)

    pub abort-hit : (hit : Bool) → hit ≡ is_hit es items k (row_at table k) → hit ≡ true → (more : List ℕ) → take (count + 1) more ≡ insert_rising (row_at table k).ticket (take count tickets)
        → drop (count + 1) more ≡ drop (count + 1) tickets
        → Aborting es items table (set marks k true) more (count + 1) k
    unfolding hit_marks hit_tickets
    abort-hit hit p h more q d = record {
      room = omega (arith, s.room);
      six = length-set marks k true ∙ s.six;
      marks-are = rw (s.marks-are, e, last_set k false true (hit_marks es items (suc k) (drop (suc k) table))) (rw (rest-cons, ← p, h, e));
      tickets-are = q ∙ rw (rest-cons, ← p, h, s.tickets-are, e);
      zeros =
          let m : 6 - count - 1 ≡ 6 - (count + 1) = omega arith in
          d ∙ sym (drop-drop 1 count tickets) ∙ ap (drop 1) s.zeros ∙ drop-zeros 1 (6 - count) ∙ ap (λ (n : ℕ). replicate {A = ℕ} n 0) m;
    }

    pub abort-miss : (hit : Bool) → hit ≡ is_hit es items k (row_at table k) → hit ≡ false → Aborting es items table marks tickets count k
    unfolding hit_marks hit_tickets
    abort-miss hit p h = record {
      room = omega (arith, s.room);
      six = s.six;
      marks-are = s.marks-are ∙ rw (e, last-moved k false (hit_marks es items (suc k) (drop (suc k) table)), rest-cons, ← p, h, e);
      tickets-are = s.tickets-are ∙ rw (rest-cons, ← p, h, e);
      zeros = s.zeros;
    }
