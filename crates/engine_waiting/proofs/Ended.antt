-- A transaction that has ended stays ended. Assumes nothing.
use Prim.Native.Nat.{ℕ, ◌+◌, ◌-◌, ◌≤◌, ◌<◌}
use mathlib.Core.Path.{◌≡◌, refl, sym, ◌∙◌}
use mathlib.Core.Bool.{true, false, not}
use mathlib.Core.List.{List, [], ◌∷◌, ◌++◌}
use native.Mathlib.Omega.{arith}
use lib.Dec.{leb}
use borrow.Author.Tests.{eqb-true, leb-true, not-true, not-false}
use Rattle.block.specs.Answers.{first_of}
use Rattle.block.proofs.BoolLaws.{both, joined, not_so}
use Rattle.memory.specs.Memory.{Memory}
use Rattle.memory.specs.Rows.{open_count, row_at}
use Rattle.engine.specs.Answers.{Outcome}
use Rattle.engine.specs.Answers.Answer.{refused}
use Rattle.engine.specs.Make.{made_memory}
use Rattle.engine.specs.Client.{row_no, withdraw_refusal, withdraw_row}
use Rattle.engine.specs.Calls.{Call, step}
use Rattle.engine.specs.Calls.Call.{withdraw}
use Rattle.engine.specs.Restart.{restart_refusal, restarted_memory}
use Rattle.engine.specs.History.{AnyCall, any_step, after_all}
use Rattle.engine.specs.History.AnyCall.{call, restart}
use Rattle.engine_waiting.specs.Waiting.{is_open_as, ends_all, open_after, Ended}
use Rattle.engine.proofs.Tests.{bool_by, same_by, clash}
use Rattle.engine.proofs.RowLaws.{row-found, row_is}
use Rattle.engine.proofs.Steps.{restart-by}
use Rattle.engine.proofs.Reached.{Reached, made_reached, any_reached, all-reached}
use Rattle.engine_waiting.proofs.Traced.{traced}
use Rattle.engine_waiting.proofs.Waiting.{kept_by, along, open_last, row_below}

-- ---- what has ended stays so

-- no row has the ticket, and it was given
record Gone (ticket : ℕ) (m : Memory) : Type 0 where
  old : ticket ≤ m.counts.tickets
  rows : (r : ℕ) → r < 6 → (row_at m.txns.table r).ticket ≡ ticket → ⊥

module _ (ticket : ℕ) (some : ticket ≡ 0 → ⊥) where
  abbrev Given : Memory → Type 0
  Given m = ticket ≤ m.counts.tickets

  given-each : (m : Memory) → Reached m → Given m → (c : Call) → Given (step m c).memory
  given-each m R old c = omega (arith, (traced m R.shape ticket some old c).tickets)

  gone-each : (m : Memory) → Reached m → Gone ticket m → (c : Call) → Gone ticket (step m c).memory
  gone-each m R G c =
      let t = traced m R.shape ticket some G.old c in
      record { old = omega (arith, G.old, t.tickets); rows = λ r h q. G.rows r h ((t.rows r h q).had ∙ q) }

  gone-shut : (m : Memory) → Reached m → Gone ticket m → is_open_as ticket m ≡ true → ⊥
  gone-shut m R G e = let h = row_below ticket m e in G.rows (row_no m ticket) h (row-found ticket m.txns.table R.shape.lengths.table h).is

  shut-gone : (m : Memory) → Reached m → Given m → is_open_as ticket m ≡ false → Gone ticket m
  shut-gone m R old e = record {
    old = old;
    rows = λ r h q.
        let S = R.shape in
        let i = row_is ticket m.txns.table S.lengths.table some r h q (λ j l d p. S.distinct r j h l d (λ z. some (sym q ∙ z)) (q ∙ sym p)) in
        let u = leb-true 6 (row_no m ticket) (not-false (leb 6 (row_no m ticket)) e) in
        omega arith;
  }

  before : (m : Memory) → Reached m → Given m → (ds es : List AnyCall) → open_after ticket m (ds ++ es) ≡ true → open_after ticket m ds ≡ true
  unfolding open_after
  before m R old [] es e =
      bool_by (is_open_as ticket m) (λ f. f) (λ f. absurd (
      let G = along (Gone ticket) ticket gone-each m R (shut-gone m R old f) es e in
      gone-shut (after_all m es) (all-reached m R es) G (open_last ticket m es e)))
  before m R old (c ∷ ds) es e =
      let b = both (not (ends_all m c)) (open_after ticket (any_step m c).memory (ds ++ es)) e in
      joined b.left
      (before (any_step m c).memory (any_reached m R c) (kept_by Given ticket given-each m R old c (not-true (ends_all m c) b.left)) ds es b.right)

-- ticket 0 is nobody's
zero_shut : (m : Memory) → Reached m → is_open_as 0 m ≡ true → ⊥
zero_shut m R e = (row-found 0 m.txns.table R.shape.lengths.table (row_below 0 m e)).some refl

stays : (m : Memory) → Reached m → (ticket : ℕ) → ticket ≤ m.counts.tickets → (ds es : List AnyCall) → open_after ticket m ds ≡ false → open_after ticket m (ds ++ es) ≡ false
stays m R ticket old ds es e =
    not_so (open_after ticket m (ds ++ es)) (λ h. same_by ticket 0
    (λ z. zero_shut (after_all m (ds ++ es)) (all-reached m R (ds ++ es)) (rw z at (open_last ticket m (ds ++ es) h)))
    (λ z. clash (before ticket z m R old ds es h) e))

none_open : (m : Memory) (c : AnyCall) → ends_all m c ≡ true → open_count (any_step m c).memory.txns.table ≡ 0
unfolding restarted_memory open_count
none_open m (call c) e = clash {b = false} e refl
none_open m (restart n own values journal notices block) e =
    restart-by (λ (o : Outcome). open_count o.memory.txns.table ≡ 0) m n own values journal notices block (λ z. refl)
    (λ z. absurd (z (eqb-true (restart_refusal m n own values block) 0 e)))

no_such : (m : Memory) (ticket : ℕ) → is_open_as ticket m ≡ false → (step m (withdraw ticket)).answer ≡ refused 3
unfolding step withdraw_row withdraw_refusal first_of
no_such m ticket e = rw (not-false (leb 6 (row_no m ticket)) e)

pub ended-stays : Ended
ended-stays = record {
  answer = no_such;
  restarted = none_open;
  stays = λ n own values g cs ticket. stays (after_all (made_memory n own values) cs) (all-reached (made_memory n own values) (made_reached n own values g) cs) ticket;
}
