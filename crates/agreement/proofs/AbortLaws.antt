-- Another's writeset: the open transactions that it hits, their tickets, and the queue left, in memory and in the model. Assumes nothing.
-- modules are checked in the order of their names, this one first: so what is computed comes before the proofs, and a wrong definition is refused there
use Rattle.agreement.proofs.Worked.{right_group}
use Prim.Native.Nat.{ℕ, suc, ◌+◌, ◌*◌, ◌≤◌, ◌<◌}
use mathlib.Core.Path.{◌≡◌, refl, sym, ap, ◌∙◌}
use mathlib.Core.Bool.{Bool, true, false, cond, not, ◌&&◌, ◌||◌}
use mathlib.Core.List.{List, [], ◌∷◌, map}
use native.Mathlib.Omega.{arith}
use lib.Dec.{eqb, ltb}
use lib.IntN.{ℤ}
use lib.ListN.{length}
use lib.Seq.{slice, length-slice}
use borrow.Author.Tests.{eq-eqb, ne_eqb, lt-ltb, le-ltb}
use Rattle.block.specs.declared.Entry.{Entry}
use Rattle.block.specs.Writing.{entries_from}
use Rattle.memory.specs.declared.Txn.{Txn}
use Rattle.memory.specs.Memory.{Transactions}
use Rattle.memory.specs.Rows.{closed, is_open, row_at, write_count, items_of, has}
use Rattle.engine.specs.Moves.{shares, is_hit, after_aborts, insert_rising, hit_tickets, without}
use Rattle.engine.proofs.Tests.{same_by, clash}
use Rattle.engine.proofs.HitLaws.{hit-open}
use Rattle.protocol.specs.Lists.{keep, any_of, sort_in, sort}
use Rattle.protocol.specs.Writesets.{Write}
use Rattle.protocol.specs.Replica.{Transaction}
use Rattle.protocol.specs.Moves.{conflicts, aborted_by}
use Rattle.agreement.specs.Group.{write_of}
use Rattle.agreement.proofs.View.{txn_of, rows_from}
use Rattle.agreement.proofs.RowView.{ticket-of}

-- ---- the queue left

has_any : (t : ℕ) (gone : List ℕ) → any_of (λ x. eqb x t) gone ≡ has t gone
unfolding has any_of
has_any t [] = refl
has_any t (x ∷ xs) = rw (has_any t xs)

pub queue_kept : (gone l : List ℕ) → keep (λ t. not (any_of (λ x. eqb x t) gone)) l ≡ without gone l
unfolding keep without
queue_kept gone [] = refl
queue_kept gone (t ∷ ts) = rw (has_any t gone) (go (has t gone) (queue_kept gone ts))
  where
    go : (b : Bool) → keep (λ y. not (any_of (λ x. eqb x y) gone)) ts ≡ without gone ts
        → cond (not b) (t ∷ keep (λ y. not (any_of (λ x. eqb x y) gone)) ts) (keep (λ y. not (any_of (λ x. eqb x y) gone)) ts) ≡ cond b (without gone ts) (t ∷ without gone ts)
    go true e = e
    go false e = ap (λ (l : List ℕ). t ∷ l) e

-- ---- an item in both

eqb_swap : (a b : ℕ) → eqb a b ≡ eqb b a
eqb_swap a b = same_by a b (λ e. rw (eq-eqb a b e, eq-eqb b a (sym e))) (λ d. rw (ne_eqb a b d, ne_eqb b a (λ e. d (sym e))))

none_shared : (es : List Entry) → shares [] es ≡ false
unfolding shares has
none_shared [] = refl
none_shared (e ∷ es) = none_shared es

-- the items with one more in front
more_shared : (i : ℕ) (is : List ℕ) (es : List Entry)
    → shares (i ∷ is) es ≡ cond (Rattle.protocol.specs.Writesets.has i (map write_of es)) true (shares is es)
unfolding shares has Rattle.protocol.specs.Writesets.has
more_shared i is [] = refl
more_shared i is (e ∷ es) =
    rw (eqb_swap i e.item, more_shared i is es)
    (go (eqb e.item i) (has e.item is) (Rattle.protocol.specs.Writesets.has i (map write_of es)) (shares is es))
  where
    go : (a h p s : Bool) → cond a true h || cond p true s ≡ cond (cond a true p) true (h || s)
    go true h p s = refl
    go false true true s = refl
    go false true false s = refl
    go false false p s = refl

-- both say that an item is in both
share_same : (is : List ℕ) (vs : List ℤ) (es : List Entry) → length is ≡ length vs
    → Rattle.protocol.specs.Writesets.shares (map write_of (entries_from is vs)) (map write_of es) ≡ shares is es
unfolding entries_from Rattle.protocol.specs.Writesets.shares
share_same [] vs es e = sym (none_shared es)
share_same (i ∷ is) [] es e = absurd (omega arith)
share_same (i ∷ is) (v ∷ vs) es e = rw (more_shared i is es, share_same is vs es (omega arith))

-- ---- the rows hit

stage-same : (s : ℕ) → s ≤ 2 → not (eqb s 2) ≡ ltb s 2
stage-same s h = same_by s 2 (λ e. rw (eq-eqb s 2 e, le-ltb s 2 (omega arith))) (λ d. rw (ne_eqb s 2 d, lt-ltb s 2 (omega (arith, d))))

rising-same : (x : ℕ) (l : List ℕ) → sort_in x l ≡ insert_rising x l
unfolding sort_in insert_rising
rising-same x [] = refl
rising-same x (y ∷ ys) = rw (rising-same x ys)

-- the rows as transactions do not look at the table nor at the queue
pub rows_beside : (x : Transactions) (table : List Txn) (queue : List ℕ) (i : ℕ) (ts : List Txn)
    → rows_from (record { table = table; queue = queue; items = x.items; writes = x.writes; snapshots = x.snapshots }) i ts ≡ rows_from x i ts
unfolding rows_from txn_of
rows_beside x table queue i [] = refl
rows_beside x table queue i (t ∷ ts) = rw (rows_beside x table queue (suc i) ts)

-- the rows from i on are rows, with a stage
pub record Staged (i : ℕ) (ts : List Txn) : Type 0 where
  pub few : i + length ts ≤ 6
  pub stage : (k : ℕ) → k < length ts → (row_at ts k).stage ≤ 2

staged_rest : (i : ℕ) (t : Txn) (ts : List Txn) → Staged i (t ∷ ts) → Staged (suc i) ts
staged_rest i t ts s = record { few = omega (arith, s.few); stage = λ k h. s.stage (suc k) (omega arith) }

module _ (x : Transactions) (es : List Entry) (items : length x.items ≡ 48) (writes : length x.writes ≡ 48) where
  abbrev w : List (Write ℤ)
  w = map write_of es

  -- an open row is hit just where its transaction conflicts
  hit_same : (i : ℕ) (t : Txn) (ts : List Txn) → Staged i (t ∷ ts) → is_open t ≡ true → conflicts w (txn_of x i t) ≡ is_hit es x.items i t
  unfolding txn_of
  hit_same i t ts s o =
      let n = write_count t in
      let a : 8 * i + n ≤ 48 = omega (arith, s.few) in
      rw (o, stage-same t.stage (s.stage 0 (omega arith)))
      (ap (λ (b : Bool). ltb t.stage 2 && b)
      (share_same (items_of i t x.items) (slice (8 * i) (8 * i + n) x.writes) es
      (length-slice (8 * i) (8 * i + n) x.items (omega arith) ∙ sym (length-slice (8 * i) (8 * i + n) x.writes (omega arith)))))

  pub rows-spared : (i : ℕ) (ts : List Txn) → Staged i ts → rows_from x i (after_aborts es x.items i ts) ≡ keep (λ u. not (conflicts w u)) (rows_from x i ts)
  unfolding rows_from after_aborts keep
  rows-spared i [] s = refl
  rows-spared i (t ∷ ts) s = go (is_hit es x.items i t) refl (is_open t) refl (rows-spared (suc i) ts (staged_rest i t ts s))
    where
      go : (b : Bool) → is_hit es x.items i t ≡ b → (o : Bool) → is_open t ≡ o → rows_from x (suc i) (after_aborts es x.items (suc i) ts) ≡ keep (λ u. not (conflicts w u)) (rows_from x (suc i) ts)
          → rows_from x i (cond b closed t ∷ after_aborts es x.items (suc i) ts)
          ≡ keep (λ u. not (conflicts w u)) (cond o (txn_of x i t ∷ rows_from x (suc i) ts) (rows_from x (suc i) ts))
      go true h true o e = rw (hit_same i t ts s o, h) e
      go true h false o e = clash (hit-open es x.items i t h) o
      go false h true o e = rw (o, hit_same i t ts s o, h) (ap (λ (l : List (Transaction ℤ)). txn_of x i t ∷ l) e)
      go false h false o e = rw o e

  pub tickets-hit : (i : ℕ) (ts : List Txn) → Staged i ts → aborted_by w (rows_from x i ts) ≡ hit_tickets es x.items i ts
  unfolding rows_from hit_tickets keep sort
  tickets-hit i [] s = refl
  tickets-hit i (t ∷ ts) s = go (is_hit es x.items i t) refl (is_open t) refl (tickets-hit (suc i) ts (staged_rest i t ts s))
    where
      go : (b : Bool) → is_hit es x.items i t ≡ b → (o : Bool) → is_open t ≡ o → aborted_by w (rows_from x (suc i) ts) ≡ hit_tickets es x.items (suc i) ts
          → aborted_by w (cond o (txn_of x i t ∷ rows_from x (suc i) ts) (rows_from x (suc i) ts))
          ≡ cond b (insert_rising t.ticket (hit_tickets es x.items (suc i) ts)) (hit_tickets es x.items (suc i) ts)
      go true h true o e = rw (hit_same i t ts s o, h, ticket-of x i t, e) (rising-same t.ticket (hit_tickets es x.items (suc i) ts))
      go true h false o e = clash (hit-open es x.items i t h) o
      go false h true o e = rw (hit_same i t ts s o, h) e
      go false h false o e = e
