-- The tickets that a work names as aborted rise strictly. Assumes nothing.
use Prim.Native.Nat.{ℕ, zero, suc, ◌+◌, ◌≤◌, ◌<◌}
use mathlib.Core.Path.{◌≡◌, refl, sym, ◌∙◌}
use mathlib.Core.Bool.{Bool, true, false}
use mathlib.Core.List.{List, [], ◌∷◌}
use native.Mathlib.Nat.{le_of_suc-le-suc, not-suc-le-zero}
use native.Mathlib.Omega.{arith}
use lib.Dec.{eqb, ltb}
use lib.ListN.{length, get_or}
use borrow.Author.Tests.{eqb-true, eqb-false, ltb-true, ltb-false, not-true}
use Rattle.block.specs.declared.Entry.{Entry}
use Rattle.block.proofs.BoolLaws.{not_so}
use Rattle.memory.specs.declared.Txn.{Txn}
use Rattle.memory.specs.Memory.{Memory}
use Rattle.memory.specs.Rows.{row_at, has}
use Rattle.engine.specs.Answers.{Answer, Outcome}
use Rattle.engine.specs.Answers.Answer.{refused, made, began, got, wrote, queued, read_only, withdrew, reported, sent, kept, worked, loaded, noticed, restarted}
use Rattle.engine.specs.Moves.{block_at_turn, is_hit, insert_rising, hit_tickets, pass_next, commit_writeset, pass_out}
use Rattle.engine.specs.Shape.{Shape}
use Rattle.engine.specs.Calls.{step}
use Rattle.engine.specs.Calls.Call.{work}
use Rattle.engine.proofs.Tests.{cond_by, clash}
use Rattle.engine.proofs.HasLaws.{has-at, has_not}
use Rattle.engine.proofs.HitLaws.{has-rising, hit-open, has-hit}
use Rattle.engine.proofs.Steps.{work-by}

-- ---- rising lists

-- each is below all behind it
unfoldable pub Rises : List ℕ → Type 0
Rises [] = Unit
Rises (x ∷ xs) = ((z : ℕ) → has z xs ≡ true → x < z) × Rises xs

pub rises_at : (l : List ℕ) → Rises l → (j k : ℕ) → j < k → k < length l → get_or l j 0 < get_or l k 0
unfolding Rises
rises_at [] r j k h u = absurd (not-suc-le-zero u)
rises_at (x ∷ xs) r j zero h u = absurd (not-suc-le-zero h)
rises_at (x ∷ xs) r zero (suc k) h u = r.0 (get_or xs k 0) (has-at _ xs k (le_of_suc-le-suc u) refl)
rises_at (x ∷ xs) r (suc j) (suc k) h u = rises_at xs r.1 j k (le_of_suc-le-suc h) (le_of_suc-le-suc u)

pub rises_insert : (x : ℕ) (l : List ℕ) → has x l ≡ false → Rises l → Rises (insert_rising x l)
unfolding Rises insert_rising has
rises_insert x [] n r = ((λ z h. clash {b = false} h refl), tt)
rises_insert x (y ∷ ys) n r =
    let d = has_not x y ys n in
    cond_by Rises (ltb x y) (λ e. (front (ltb-true x y e), r)) (λ e. (behind (ltb-false x y e) d.0, rises_insert x ys d.1 r.1))
  where
    front : x < y → (z : ℕ) → has z (y ∷ ys) ≡ true → x < z
    front e z h =
        cond_by (λ (b : Bool). b ≡ true → x < z) (eqb y z) (λ q g. omega (arith, eqb-true y z q)) (λ q g. omega (arith, r.0 z g)) h

    behind : y ≤ x → (x ≡ y → ⊥) → (z : ℕ) → has z (insert_rising x ys) ≡ true → y < z
    behind e d z h =
        cond_by (λ (b : Bool). b ≡ true → y < z) (eqb x z) (λ q g. omega (arith, eqb-true x z q, d)) (λ q g. r.0 z g) (sym (has-rising z x ys) ∙ h)

-- ---- the rows hit have different tickets

abbrev Distinct : List Txn → Type 0
Distinct l = (i j : ℕ) → i < length l → j < length l → (i ≡ j → ⊥) → ((row_at l i).ticket ≡ 0 → ⊥) → (row_at l i).ticket ≡ (row_at l j).ticket → ⊥

module _ (es : List Entry) (items : List ℕ) where
  pub hit-rises : (r : ℕ) (ts : List Txn) → Distinct ts → Rises (hit_tickets es items r ts)
  unfolding hit_tickets Rises
  hit-rises r [] d = tt
  hit-rises r (t ∷ ts) d = go (hit-rises (suc r) ts (λ i j h u n. d (suc i) (suc j) (omega arith) (omega arith) (λ e. n (omega arith))))
    where
      new : has t.ticket (hit_tickets es items (suc r) ts) ≡ true → ⊥
      new h =
          let f = has-hit es items t.ticket (suc r) ts h in
          let l = f.1 in
          d (suc f.0) 0 (omega arith) (omega arith) (λ e. omega arith) (eqb-false (row_at ts f.0).ticket 0 (not-true _ (hit-open es items (suc r + f.0) (row_at ts f.0) f.2))) f.3

      go : Rises (hit_tickets es items (suc r) ts) → Rises (hit_tickets es items r (t ∷ ts))
      go rest = cond_by Rises (is_hit es items r t) (λ e. rises_insert t.ticket (hit_tickets es items (suc r) ts) (not_so _ new) rest) (λ e. rest)

-- ---- the call

abbrev aborted_by : Answer → List ℕ
aborted_by (refused n) = []
aborted_by made = []
aborted_by (began t) = []
aborted_by (got v) = []
aborted_by wrote = []
aborted_by queued = []
aborted_by read_only = []
aborted_by withdrew = []
aborted_by (reported r) = []
aborted_by (sent b) = []
aborted_by kept = []
aborted_by (worked s) = s.aborted
aborted_by loaded = []
aborted_by noticed = []
aborted_by (restarted c b) = []

pub aborted_rise : {over : ℕ} (m : Memory) → Shape over m → Rises (aborted_by (step m work).answer)
unfolding pass_next commit_writeset pass_out Rises
aborted_rise m S =
    work-by (λ (o : Outcome). Rises (aborted_by o.answer)) m (λ e u. tt) (λ e k. tt)
    (λ e k. cond_by Rises (eqb (get_or (block_at_turn m) 1 0) m.group.own) (λ q. tt)
    (λ q. hit-rises _ m.txns.items 0 m.txns.table (λ i j h u. S.distinct i j (omega (arith, S.lengths.table)) (omega (arith, S.lengths.table)))))
    (λ e. tt)
