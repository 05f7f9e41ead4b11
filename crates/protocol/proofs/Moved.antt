-- How a call other than a restart moves the turn and the journal. Assumes nothing.
use Prim.Native.Nat.{◌+◌, ◌<◌, ◌≤◌, suc, ℕ}
use mathlib.Core.Path.{◌∙◌, ◌≡◌, refl}
use mathlib.Core.Bool.{◌&&◌, false, not, true}
use mathlib.Core.Option.{Option, none, some}
use mathlib.Core.List.{List, []}
use native.Mathlib.Omega.{arith}
use lib.ListN.{get_or, length}
use lib.Dec.{eqb, leb, ltb}
use borrow.Author.Tests.{eq-eqb, eqb-false, eqb-true, le-ltb, leb-false, ltb-false, ne_eqb}
use Rattle.protocol.specs.Writesets.{has, Message, no_writeset}
use Rattle.protocol.specs.Notices.{Notice}
use Rattle.protocol.specs.Replica.{Setup, Cursor, Replica, Event, refused, wrote, requested, reported, handed_out, passed, committed, loaded, noticed, Outcome}
use Rattle.protocol.specs.Client.{ClientOutcome, find_txn, held_by_other, is_stale, is_empty, ask_step, withdraw_step, begin_step, read_step, write_found, write_step}
use Rattle.protocol.specs.Moves.{cursor_after, outgoing, is_next, occupied, is_sent, out_here, send_step, sent_for_turn, deliver_step, commit_step, at_turn, work_step, bars_notice, notice_step}
use Rattle.protocol.specs.Journal.{Journal, journal, append, journal_after, leaving, appended}
use Rattle.protocol.specs.Observer.{Observed, Handout}
use Rattle.protocol.specs.System.{messages_after, notices_after, Call, begin, read, write, ask, withdraw, report, send, deliver, work, load, restart, notice, step}
use Rattle.protocol.proofs.ListLaws.{cond_by, opt-by, bool_by, or_false}
use Rattle.protocol.proofs.Log.{log_after}

module _ {X : Type 0} (S : Setup X) where
  -- nothing is handed out and no notice is taken
  pub record Quiet (e : Event X) : Type 0 where
    pub log : (D : List (Handout X)) (k n : ℕ) (p : Observed X) → n ≤ length D → log_after S D k n p e ≡ D
    pub journal : (J : Journal X) (more : Option (Message X)) → journal_after J more false e ≡ journal (append J.kept more) J.safe
    pub messages : (B : List (Message X)) → messages_after B e ≡ B
    pub taken : (l : List Notice) → notices_after l e ≡ l

  -- turn and event after a call on r
  pub data Moved (r : Replica X) (turn : ℕ) (e : Event X) : Type 0 where
    stays : turn ≡ r.cursor.turn → appended S r turn e ≡ none → Quiet e → Moved r turn e
    takes : (n : Notice) → turn ≡ r.cursor.turn → r.cursor.turn ≤ n.slot → e ≡ noticed n → Moved r turn e
    skips : out_here S r r.cursor.turn ≡ true → turn ≡ suc r.cursor.turn → e ≡ passed (S.owner r.cursor.turn) [] → Moved r turn e
    sends : turn ≡ r.cursor.turn → S.owner r.cursor.turn ≡ r.own → out_here S r r.cursor.turn ≡ false → r.cursor.sent ≡ false → e ≡ handed_out (outgoing r) → r.cursor.turn < S.slot_limit → Moved r turn e
    leaves_own : out_here S r r.cursor.turn ≡ false → (x : Message X) → at_turn S r ≡ some x → x.sender ≡ r.own → turn ≡ suc r.cursor.turn → appended S r turn e ≡ none → Quiet e → Moved r turn e
    leaves_other : out_here S r r.cursor.turn ≡ false → (x : Message X) → at_turn S r ≡ some x → (x.sender ≡ r.own → ⊥) → turn ≡ suc r.cursor.turn → appended S r turn e ≡ some x → Quiet e
        → Moved r turn e

  module _ (r : Replica X) where
    abbrev M : Outcome X → Type 0
    M o = Moved r o.replica.cursor.turn o.event

    -- a call that changes neither turn nor blocks
    abbrev pub Calm : Event X → Type 0
    Calm e = (appended S r r.cursor.turn e ≡ none) × Quiet e

    abbrev P : ClientOutcome X → Type 0
    P o = Calm o.event

    pub turned : (c : ℕ) → Calm (refused c)
    unfolding appended log_after journal_after messages_after notices_after
    turned c = (refl, record { log = λ D k n p h. refl; journal = λ J m. refl; messages = λ B. refl; taken = λ l. refl })

    pub report-calm : (t c : ℕ) → Calm (reported t c)
    unfolding appended log_after journal_after messages_after notices_after
    report-calm t c = (refl, record { log = λ D k n p h. refl; journal = λ J m. refl; messages = λ B. refl; taken = λ l. refl })

    pub load-calm : Calm loaded
    unfolding appended log_after journal_after messages_after notices_after
    load-calm = (refl, record { log = λ D k n p h. refl; journal = λ J m. refl; messages = λ B. refl; taken = λ l. refl })

    pub refusing : (c : ℕ) → Moved r r.cursor.turn (refused c)
    refusing c = stays refl (turned c).0 (turned c).1

    pub begin-calm : Calm (begin_step S r.store r.transactions).event
    unfolding begin_step appended log_after journal_after messages_after notices_after
    begin-calm = cond_by P (leb 6 (length r.transactions.txns)) (λ e. turned 5) (λ e.
        cond_by P (leb S.ticket_limit r.transactions.tickets) (λ f. turned 6) (λ f. (refl, record { log = λ D k n p h. refl; journal = λ J m. refl; messages = λ B. refl; taken = λ l. refl })))

    pub read-calm : (t i : ℕ) → Calm (read_step S r.transactions t i).event
    unfolding read_step appended log_after journal_after messages_after notices_after
    read-calm t i = cond_by P (leb S.items i) (λ e. turned 2) (λ e.
        opt-by P (find_txn t r.transactions.txns) (λ f. turned 3) (λ u f.
        cond_by P (eqb u.stage 0) (λ g. (refl, record { log = λ D k n p h. refl; journal = λ J m. refl; messages = λ B. refl; taken = λ l. refl })) (λ g. turned 4)))

    pub write-calm : (t i : ℕ) (x : X) → Calm (write_step S r.store r.transactions t i x).event
    unfolding write_step write_found appended log_after journal_after messages_after notices_after
    write-calm t i x = cond_by P (leb S.items i) (λ e. turned 2) (λ e.
        opt-by P (find_txn t r.transactions.txns) (λ f. turned 3) (λ u f.
        cond_by P (eqb u.stage 0) (λ g.
        cond_by P (has i u.writes) (λ h. wrote_it) (λ h.
        cond_by P (is_stale r.store u i) (λ b. turned 9) (λ b.
        cond_by P (held_by_other t i r.transactions.txns) (λ c. turned 8) (λ c.
        cond_by P (leb 8 (length u.writes)) (λ d. turned 10) (λ d. wrote_it)))))
        (λ g. turned 4)))
      where
        wrote_it : Calm (wrote t i x)
        wrote_it = (refl, record { log = λ D k n p h. refl; journal = λ J m. refl; messages = λ B. refl; taken = λ l. refl })

    pub ask-calm : (t : ℕ) → Calm (ask_step r.transactions t).event
    unfolding ask_step appended log_after journal_after messages_after notices_after
    ask-calm t = opt-by P (find_txn t r.transactions.txns) (λ f. turned 3) (λ u f.
        cond_by P (eqb u.stage 0) (λ g. cond_by P (is_empty u.writes) (λ h. asked) (λ h. asked)) (λ g. turned 4))
      where
        asked : Calm (requested t)
        asked = (refl, record { log = λ D k n p h. refl; journal = λ J m. refl; messages = λ B. refl; taken = λ l. refl })

    pub withdraw-calm : (t : ℕ) → Calm (withdraw_step r.transactions t).event
    unfolding withdraw_step appended log_after journal_after messages_after notices_after
    withdraw-calm t = opt-by P (find_txn t r.transactions.txns) (λ f. turned 3) (λ u f.
        cond_by P (eqb u.stage 0) (λ g. (refl, record { log = λ D k n p h. refl; journal = λ J m. refl; messages = λ B. refl; taken = λ l. refl })) (λ g. turned 4))

    send-moved : M (send_step S r)
    unfolding send_step
    send-moved = cond_by M (leb S.slot_limit r.cursor.turn) (λ e. refusing 13) (λ e.
        cond_by M (eqb (S.owner r.cursor.turn) r.own) (λ f.
        cond_by M (out_here S r r.cursor.turn) (λ i. refusing 29) (λ i.
        cond_by M r.cursor.sent (λ g. refusing 12) (λ g. sends refl (eqb-true (S.owner r.cursor.turn) r.own f) i g refl (leb-false S.slot_limit r.cursor.turn e))))
        (λ f. refusing 11))

    deliver-moved : (m : Message X) → M (deliver_step S r m)
    unfolding deliver_step appended log_after journal_after messages_after notices_after
    deliver-moved m = cond_by M (ltb m.slot r.cursor.turn) (λ e. refusing 17) (λ e.
        cond_by M (out_here S r m.slot) (λ e. refusing 29) (λ e.
        cond_by M (ltb m.slot (r.cursor.turn + S.size)) (λ f.
        cond_by M (eqb m.sender r.own && not (sent_for_turn S r m)) (λ g. refusing 19) (λ g.
        cond_by M (occupied (r.blocks.places (S.place m.slot))) (λ h. refusing 20) (λ h. stays refl refl (record { log = λ D k n p h. refl; journal = λ J m. refl; messages = λ B. refl; taken = λ l. refl }))))
        (λ f. refusing 18)))

    notice-moved : (n : Notice) → M (notice_step S r n)
    unfolding notice_step
    notice-moved n = cond_by M (leb S.slot_limit n.slot) (λ e. refusing 2) (λ e.
        cond_by M (bars_notice S r n) (λ f. refusing 28) (λ f. takes n refl (ltb-false n.slot r.cursor.turn (or_false (ltb n.slot r.cursor.turn) _ f).0) refl))

    -- the turn after one more writeset
    turn-after : (total : ℕ) (Q : ℕ → Type 0) → Q r.cursor.turn → Q (suc r.cursor.turn) → Q (cursor_after total r.cursor).turn
    unfolding cursor_after
    turn-after total Q f g = cond_by (λ (c : Cursor). Q c.turn) (eqb (suc r.cursor.done) total) (λ e. g) (λ e. f)

    work-moved : M (work_step S r)
    unfolding work_step commit_step appended log_after journal_after messages_after notices_after
    work-moved = cond_by M (out_here S r r.cursor.turn) (λ u. skips u refl refl) (λ u. opt-by M (at_turn S r) (λ e. refusing 21) (λ x e.
        cond_by M (is_next x) (λ z. left u x e (passed x.sender []) (rw u refl) (record { log = λ D k n p h. rw (le-ltb (length D) n h); journal = λ J m. refl; messages = λ B. refl; taken = λ l. refl })) (λ z.
        cond_by M (eqb x.sender r.own && is_sent (find_txn (get_or x.writesets r.cursor.done no_writeset).ticket r.transactions.txns))
        (λ f. commits u x e [])
        (λ f. commits u x e _))))
      where
        here : (s : ℕ) → leaving S r r.cursor.turn s ≡ none
        here s = cond_by (λ (o : Option (Message X)). o ≡ none) (eqb s r.own) (λ g. refl) (λ g. rw (eq-eqb r.cursor.turn r.cursor.turn refl))

        left : out_here S r r.cursor.turn ≡ false → (x : Message X) → at_turn S r ≡ some x → (v : Event X) → appended S r (suc r.cursor.turn) v ≡ leaving S r (suc r.cursor.turn) x.sender → Quiet v → Moved r (suc r.cursor.turn) v
        left u x e v a q = bool_by (eqb x.sender r.own)
            (λ g. leaves_own u x e (eqb-true x.sender r.own g) refl (a ∙ rw g) q)
            (λ g. leaves_other u x e (eqb-false x.sender r.own g) refl (a ∙ rw (g, ne_eqb (suc r.cursor.turn) r.cursor.turn (λ d. omega arith), e)) q)

        commits : out_here S r r.cursor.turn ≡ false → (x : Message X) → at_turn S r ≡ some x → (l : List ℕ)
            → Moved r (cursor_after (length x.writesets) r.cursor).turn (committed x.sender (get_or x.writesets r.cursor.done no_writeset).ticket l)
        commits u x e l = turn-after (length x.writesets) (λ n. Moved r n (committed x.sender (get_or x.writesets r.cursor.done no_writeset).ticket l))
            (stays refl (here x.sender) (record { log = λ D k n p h. refl; journal = λ J m. refl; messages = λ B. refl; taken = λ l. refl }))
            (left u x e (committed x.sender (get_or x.writesets r.cursor.done no_writeset).ticket l) refl (record { log = λ D k n p h. refl; journal = λ J m. refl; messages = λ B. refl; taken = λ l. refl }))

  -- ---- every call moves so, or is a restart
  pub call_by : (r : Replica X) (P : Call X → Type 0) → ((c : Call X) → Moved r (step S r c).replica.cursor.turn (step S r c).event → P c) → ((lent : List (Message X)) (notices : List Notice) → P (restart lent notices)) → (c : Call X) → P c
  unfolding step
  call_by r P f g begin = let c = begin-calm r in f begin (stays refl c.0 c.1)
  call_by r P f g (read t i) = let c = read-calm r t i in f (read t i) (stays refl c.0 c.1)
  call_by r P f g (write t i x) = let c = write-calm r t i x in f (write t i x) (stays refl c.0 c.1)
  call_by r P f g (ask t) = let c = ask-calm r t in f (ask t) (stays refl c.0 c.1)
  call_by r P f g (withdraw t) = let c = withdraw-calm r t in f (withdraw t) (stays refl c.0 c.1)
  call_by r P f g report = let c = report-calm r _ _ in f report (stays refl c.0 c.1)
  call_by r P f g send = f send (send-moved r)
  call_by r P f g (deliver m) = f (deliver m) (deliver-moved r m)
  call_by r P f g work = f work (work-moved r)
  call_by r P f g load = let c = load-calm r in f load (stays refl c.0 c.1)
  call_by r P f g (restart lent notices) = g lent notices
  call_by r P f g (notice n) = f (notice n) (notice-moved r n)
