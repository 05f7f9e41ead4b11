-- A station is a member of the group that sends nothing. Its number, which only the group's numbering gives it, is the sender of nothing that its calls meet: under any other such number
-- they do the same. Assumes nothing.
use Prim.Native.Nat.{ℕ, suc, zero, ◌+◌}
use mathlib.Core.Path.{◌≡◌, refl}
use mathlib.Core.Bool.{Bool, false, true, ◌&&◌, ◌||◌, cond}
use mathlib.Core.Option.{Option, none, some}
use mathlib.Core.List.{[]}
use lib.Dec.{leb, ltb}
use lib.ListN.{get_or, length}
use borrow.Author.Tests.{ne_eqb}
use Rattle.protocol.specs.Lists.{opt}
use Rattle.protocol.specs.Writesets.{Message, Writeset, no_writeset}
use Rattle.protocol.specs.Notices.{Notice}
use Rattle.protocol.specs.Replica.{Setup, Replica, replica, refused, accepted, passed, committed, noticed, Outcome, outcome}
use Rattle.protocol.specs.Moves.{is_next, occupied, out_here, keeping, deliver_step, store_after, cursor_after, after_aborts, aborted_by, blocks_after, advance, clear_turn, commit_step, at_turn, pass_out, work_step, placed_from, bars_back, taking, notice_step}
use Rattle.protocol.specs.System.{Call, begin, read, write, ask, withdraw, report, send, deliver, work, load, restart, notice, step}
use Rattle.protocol.specs.Machine.{Alike}

module _ {X : Type 0} where
  -- under another number
  abbrev pub numbered : ℕ → Replica X → Replica X
  numbered k r = replica k r.cursor r.store r.transactions r.blocks

  pub alike-numbered : (S : Setup X) (k : ℕ) (r s : Replica X) → Alike S r s → Alike S (numbered k r) (numbered k s)
  alike-numbered S k r s L = record {
    own = refl;
    cursor = L.cursor;
    commits = L.commits;
    values = L.values;
    stamps = L.stamps;
    tickets = L.tickets;
    queue = L.queue;
    there = L.there;
    back = L.back;
    places = L.places;
    outages = L.outages;
  }

  abbrev outcome_under : ℕ → Outcome X → Outcome X
  outcome_under k o = outcome (numbered k o.replica) o.event

module _ {X : Type 0} (S : Setup X) where
  -- number k is not the sender of what the call meets, and a notice is not about it; a send and a restart are no calls of a station
  abbrev pub Foreign : ℕ → Replica X → Call X → Type 0
  Foreign k r begin = Unit
  Foreign k r (read t i) = Unit
  Foreign k r (write t i v) = Unit
  Foreign k r (ask t) = Unit
  Foreign k r (withdraw t) = Unit
  Foreign k r report = Unit
  Foreign k r send = ⊥
  Foreign k r (deliver m) = m.sender ≡ k → ⊥
  Foreign k r work = (m : Message X) → at_turn S r ≡ some m → m.sender ≡ k → ⊥
  Foreign k r load = Unit
  Foreign k r (restart lent notices) = ⊥
  Foreign k r (notice a) = a.about ≡ k → ⊥

  -- ---- deliver

  abbrev delivered : Replica X → Message X → Bool → Bool → Bool → Bool → Outcome X
  delivered r m past gone near taken =
      cond past (outcome r (refused 17)) (cond gone (outcome r (refused 29)) (cond near (cond taken (outcome r (refused 20)) (outcome (keeping S r m) (accepted m))) (outcome r (refused 18))))

  others-message : (r : Replica X) (m : Message X) → (m.sender ≡ r.own → ⊥)
      → deliver_step S r m
      ≡ delivered r m (ltb m.slot r.cursor.turn) (out_here S r m.slot) (ltb m.slot (r.cursor.turn + S.size)) (occupied (r.blocks.places (S.place m.slot)))
  unfolding deliver_step
  others-message r m d = rw (ne_eqb m.sender r.own d) refl

  delivered-under : (k : ℕ) (r : Replica X) (m : Message X) (past gone near taken : Bool) → delivered (numbered k r) m past gone near taken ≡ outcome_under k (delivered r m past gone near taken)
  delivered-under k r m true gone near taken = refl
  delivered-under k r m false true near taken = refl
  delivered-under k r m false false true true = refl
  delivered-under k r m false false true false = refl
  delivered-under k r m false false false taken = refl

  deliver-under : (k : ℕ) (r : Replica X) (m : Message X) → (m.sender ≡ r.own → ⊥) → (m.sender ≡ k → ⊥) → deliver_step S (numbered k r) m ≡ outcome_under k (deliver_step S r m)
  deliver-under k r m d e = rw (others-message (numbered k r) m e, others-message r m d)
      (delivered-under k r m (ltb m.slot r.cursor.turn) (out_here S r m.slot) (ltb m.slot (r.cursor.turn + S.size)) (occupied (r.blocks.places (S.place m.slot))))

  -- ---- work

  abbrev others : Replica X → Message X → Writeset X → Outcome X
  others r m c =
      outcome (replica r.own (cursor_after (length m.writesets) r.cursor) (store_after c.writes r.store) (after_aborts c.writes r.transactions)
      (blocks_after S (length m.writesets) r.cursor r.blocks)) (committed m.sender c.ticket (aborted_by c.writes r.transactions.txns))

  others-commit : (r : Replica X) (m : Message X) (c : Writeset X) → (m.sender ≡ r.own → ⊥) → commit_step S r m c ≡ others r m c
  unfolding commit_step
  others-commit r m c d = rw (ne_eqb m.sender r.own d) refl

  abbrev nexts : Replica X → Message X → Outcome X
  nexts r m = outcome (replica r.own (advance r.cursor) r.store r.transactions (clear_turn S r.cursor r.blocks)) (passed m.sender [])

  abbrev works : Replica X → Option (Message X) → Outcome X
  works r o = opt o (outcome r (refused 21)) λ m. cond (is_next m) (nexts r m) (commit_step S r m (get_or m.writesets r.cursor.done no_writeset))

  works-under : (k : ℕ) (r : Replica X) (o : Option (Message X)) → ((m : Message X) → o ≡ some m → m.sender ≡ r.own → ⊥) → ((m : Message X) → o ≡ some m → m.sender ≡ k → ⊥)
      → works (numbered k r) o ≡ outcome_under k (works r o)
  works-under k r none d e = refl
  works-under k r (some m) d e =
      let c = get_or m.writesets r.cursor.done no_writeset in
      rw (others-commit (numbered k r) m c (e m refl), others-commit r m c (d m refl)) (by (is_next m))
    where
      by : (b : Bool) → cond b (nexts (numbered k r) m) (others (numbered k r) m (get_or m.writesets r.cursor.done no_writeset))
          ≡ outcome_under k (cond b (nexts r m) (others r m (get_or m.writesets r.cursor.done no_writeset)))
      by true = refl
      by false = refl

  work-under : (k : ℕ) (r : Replica X) → ((m : Message X) → at_turn S r ≡ some m → m.sender ≡ r.own → ⊥) → ((m : Message X) → at_turn S r ≡ some m → m.sender ≡ k → ⊥)
      → work_step S (numbered k r) ≡ outcome_under k (work_step S r)
  unfolding work_step
  work-under k r d e = by (out_here S r r.cursor.turn)
    where
      by : (b : Bool) → cond b (pass_out S (numbered k r)) (works (numbered k r) (at_turn S r)) ≡ outcome_under k (cond b (pass_out S r) (works r (at_turn S r)))
      by true = refl
      by false = works-under k r (at_turn S r) d e

  -- ---- notices

  placed-under : (k : ℕ) (r : Replica X) (j v n : ℕ) → placed_from S (numbered k r) j v n ≡ placed_from S r j v n
  unfolding placed_from
  placed-under k r j v zero = refl
  placed-under k r j v (suc n) = rw (placed-under k r j v n) refl

  -- what 28 asks, with the test of the own block decided
  abbrev barred : Replica X → Notice → Bool → Bool
  barred r a own =
      ltb a.slot r.cursor.turn
      || cond a.out (ltb r.cursor.turn (r.blocks.outages a.about).until || (placed_from S r a.about a.slot S.size || (own && (r.cursor.sent && leb a.slot r.cursor.turn)))) (bars_back S r a)

  abbrev taken : Replica X → Notice → Bool → Bool → Outcome X
  taken r a late bars = cond late (outcome r (refused 2)) (cond bars (outcome r (refused 28)) (outcome (taking S r a) (noticed a)))

  others-notice : (r : Replica X) (a : Notice) → (a.about ≡ r.own → ⊥) → notice_step S r a ≡ taken r a (leb S.slot_limit a.slot) (barred r a false)
  unfolding notice_step
  others-notice r a d = rw (ne_eqb a.about r.own d) refl

  barred-under : (k : ℕ) (r : Replica X) (a : Notice) → barred (numbered k r) a false ≡ barred r a false
  barred-under k r a = rw (placed-under k r a.about a.slot S.size) refl

  taken-under : (k : ℕ) (r : Replica X) (a : Notice) (late bars : Bool) → taken (numbered k r) a late bars ≡ outcome_under k (taken r a late bars)
  taken-under k r a true bars = refl
  taken-under k r a false true = refl
  taken-under k r a false false = refl

  notice-under : (k : ℕ) (r : Replica X) (a : Notice) → (a.about ≡ r.own → ⊥) → (a.about ≡ k → ⊥) → notice_step S (numbered k r) a ≡ outcome_under k (notice_step S r a)
  notice-under k r a d e = rw (others-notice (numbered k r) a e, others-notice r a d, barred-under k r a) (taken-under k r a (leb S.slot_limit a.slot) (barred r a false))

  -- ---- the whole

  pub step-under : (k : ℕ) (r : Replica X) (c : Call X) → Foreign r.own r c → Foreign k r c → step S (numbered k r) c ≡ outcome (numbered k (step S r c).replica) (step S r c).event
  unfolding step
  step-under k r begin d e = refl
  step-under k r (read t i) d e = refl
  step-under k r (write t i v) d e = refl
  step-under k r (ask t) d e = refl
  step-under k r (withdraw t) d e = refl
  step-under k r report d e = refl
  step-under k r send d e = absurd d
  step-under k r (deliver m) d e = deliver-under k r m d e
  step-under k r work d e = work-under k r d e
  step-under k r load d e = refl
  step-under k r (restart lent notices) d e = absurd d
  step-under k r (notice a) d e = notice-under k r a d e
