-- What members do one after the other, of the model or of a machine with a view as it: what holds of each by itself is kept, and a slot once passed and firm stays passed. Assumes nothing.
use Prim.Native.Nat.{◌<◌, ◌≤◌, suc, ℕ}
use mathlib.Core.Path.{◌∙◌, ◌≡◌, ap, refl, subst, sym}
use mathlib.Core.Bool.{Bool, ◌&&◌, false, true, cond}
use mathlib.Core.Logic.{◌⊎◌, inl, inr}
use mathlib.Core.Option.{Option, none, some}
use mathlib.Core.List.Memᴰ
use mathlib.Core.List.{List, [], ◌++◌, ◌∷◌, append_assoc, append-nil}
use native.Mathlib.Omega.{arith}
use lib.ListN.{length-append}
use lib.Dec.{eqb, ltb}
use borrow.Author.Tests.{eq-eqb, eqb-true, ne_eqb}
use Rattle.protocol.specs.Lists.{opt, Mem}
use Rattle.protocol.specs.Writesets.{Message}
use Rattle.protocol.specs.Notices.{Notice, Outage, is_out}
use Rattle.protocol.specs.Replica.{Setup, Replica, Event, refused, began, got, wrote, requested, withdrew, reported, handed_out, accepted, passed, committed, restarted, loaded, noticed, was_made, Outcome, outcome}
use Rattle.protocol.specs.Client.{ask_step, withdraw_step, begin_step, read_step, write_step}
use Rattle.protocol.specs.Moves.{outgoing, out_here}
use Rattle.protocol.specs.Journal.{Journal, Cut, last_of, next_of, journal_after, leaves_out, appended}
use Rattle.protocol.specs.System.{messages_after, notices_after, Call, begin, read, write, ask, withdraw, report, send, deliver, work, load, restart, notice, System, HandedOut, step, appends, journal_next, Lent, after, PlacesApart, PlacesWithin}
use Rattle.protocol.specs.Machine.{Alike}
use Rattle.protocol.proofs.ListLaws.{snoc-all, and_no}
use Rattle.protocol.proofs.RestartLaws.{last-of}
use Rattle.protocol.proofs.Moved.{Moved, stays, takes, skips, sends, leaves_own, leaves_other, turned, begin-calm, read-calm, write-calm, ask-calm, withdraw-calm, report-calm, load-calm, call_by}
use Rattle.protocol.proofs.Lone.{Formed, out_in, LoneAt, lone-more}
use Rattle.protocol.proofs.LoneSteps.{P, lone-quiet, client-lone, send-lone, deliver-lone, work-lone, notice-lone}
use Rattle.protocol.proofs.LoneRestart.{lent-ordered, lent-read, restart-lone}

module _ {X : Type 0} where
  -- messages handed out and notices taken only grow
  pub messages-grow : (B : List (Message X)) (e : Event X) (m : Message X) → Mem m B → Mem m (messages_after B e)
  unfolding messages_after
  messages-grow B (refused c) m h = h
  messages-grow B (began t) m h = h
  messages-grow B (got t i v) m h = h
  messages-grow B (wrote t i v) m h = h
  messages-grow B (requested t) m h = h
  messages-grow B (withdrew t) m h = h
  messages-grow B (reported t c) m h = h
  messages-grow B (handed_out x) m h = Memᴰ.append_left (x ∷ []) h
  messages-grow B (accepted x) m h = h
  messages-grow B (passed s a) m h = h
  messages-grow B (committed s t a) m h = h
  messages-grow B (restarted l n none) m h = h
  messages-grow B (restarted l n (some x)) m h = Memᴰ.append_left (x ∷ []) h
  messages-grow B loaded m h = h
  messages-grow B (noticed n) m h = h
  messages-grow B was_made m h = h

module _ {X : Type 0} (S : Setup X) where
  pub alike_same : (r : Replica X) → Alike S r r
  alike_same r = record {
    own = refl;
    cursor = refl;
    commits = refl;
    values = refl;
    stamps = λ i. refl;
    tickets = refl;
    queue = refl;
    there = λ u h. h;
    back = λ u h. h;
    places = λ p. refl;
    outages = λ t. refl;
  }

  pub lone-alike : (B : List (Message X)) (l : List Notice) (J : Journal X) (r s : Replica X) → Alike S r s → LoneAt S B l J r → LoneAt S B l J s
  lone-alike B l J r s E L = rw (E.own, E.cursor) (record {
    ordered = L.ordered;
    pace = L.pace;
    safe = L.safe;
    mine = λ e. let w = L.mine e in record { mine = w.mine; live = same r.cursor.turn ∙ w.live; message = w.message; handed = w.handed; formed = w.formed; slot = w.slot };
    waits = λ p x e. let w = L.waits p x (sym (E.places p) ∙ e) in
        record { here = w.here; low = w.low; high = w.high; handed = w.handed; formed = w.formed; live = same x.slot ∙ w.live; back = w.back };
    told = record {
      since = L.told.since;
      past = L.told.past;
      firm = L.told.firm;
      says = λ t h b. ap (λ (o : Outage). is_out o t) (E.outages t) ∙ L.told.says t h b;
      kept = λ t. E.outages t ∙ L.told.kept t;
    };
  })
    where
      same : (t : ℕ) → out_in S s.blocks.outages t ≡ out_in S r.blocks.outages t
      same t = ap (λ (o : Outage). ltb t S.slot_limit && is_out o t) (E.outages t)

  -- what a member does, with the outcome as its view: a refusal, or the step of a call whose premise holds; J its journal, l its notices
  pub data Does (J : Journal X) (l : List Notice) (r : Replica X) (o : Outcome X) : Type 0 where
    refuses : (c : ℕ) → o.event ≡ refused c → Alike S r o.replica → Does J l r o
    follows : (c : Call X) → o.event ≡ (step S r c).event → Alike S (step S r c).replica o.replica → Lent S J l r c → Does J l r o

  pub record AllLone (w : System X) : Type 0 where
    pub formed : (m : Message X) → Mem m w.messages → Formed S m
    pub each : (k : ℕ) → LoneAt S w.messages (w.notices k) (w.journals k) (w.replicas k)

  module _ (A : PlacesApart S) (N : PlacesWithin S) (B : List (Message X)) (formed : (m : Message X) → Mem m B → Formed S m) (l : List Notice) (J : Journal X) (r : Replica X)
      (L : LoneAt S B l J r) where
    step-lone : (c : Call X) → HandedOut B (step S r c).event → Lent S J l r c → P S A N B formed l J r L (step S r c)
    unfolding step
    step-lone begin h g = client-lone S A N B formed l J r L (begin_step S r.store r.transactions) (begin-calm S r)
    step-lone (read t i) h g = client-lone S A N B formed l J r L (read_step S r.transactions t i) (read-calm S r t i)
    step-lone (write t i v) h g = client-lone S A N B formed l J r L (write_step S r.store r.transactions t i v) (write-calm S r t i v)
    step-lone (ask t) h g = client-lone S A N B formed l J r L (ask_step r.transactions t) (ask-calm S r t)
    step-lone (withdraw t) h g = client-lone S A N B formed l J r L (withdraw_step r.transactions t) (withdraw-calm S r t)
    step-lone report h g = lone-quiet S A N B formed l J r L (outcome r (reported r.cursor.turn r.store.commits)) refl refl refl refl refl (report-calm S r _ _)
    step-lone send h g = send-lone S A N B formed l J r L
    step-lone (deliver m) h g = deliver-lone S A N B formed l J r L m h
    step-lone work h g = work-lone S A N B formed l J r L
    step-lone load h g = lone-quiet S A N B formed l J r L (outcome r loaded) refl refl refl refl refl (load-calm S r)
    step-lone (restart lent notices) h g = restart-lone S A N B formed l J r L lent notices (g lent notices refl)
    step-lone (notice n) h g = notice-lone S A N B formed l J r L n

    -- what is handed out is of its slot's owner
    step-formed : (c : Call X) → Lent S J l r c → (m : Message X) → Mem m (messages_after B (step S r c).event) → Formed S m
    step-formed = call_by S r (λ c. Lent S J l r c → (m : Message X) → Mem m (messages_after B (step S r c).event) → Formed S m)
        (λ c m g. moved (step S r c).replica.cursor.turn (step S r c).event m) (λ lent notices g. restarts lent notices (g lent notices refl))
      where
        moved : (turn : ℕ) (e : Event X) → Moved S r turn e → (m : Message X) → Mem m (messages_after B e) → Formed S m
        moved turn e (stays i a q) = rw (q.messages B) formed
        moved turn e (takes n i b v) = rw v (unfold messages_after in formed)
        moved turn e (skips u i v) = rw v (unfold messages_after in formed)
        moved turn e (sends i o u s v b) = rw v (unfold messages_after in snoc-all (Formed S) B (outgoing r) formed (record { sender = sym o; slot = b }))
        moved turn e (leaves_own u x h w i a q) = rw (q.messages B) formed
        moved turn e (leaves_other u x h w i a q) = rw (q.messages B) formed

        restarts : (lent : List (Message X)) (notices : List Notice) → ((c : Call X) × Cut J (appends S r (step S r c)) lent) × (notices ≡ l)
            → (m : Message X) → Mem m (messages_after B (step S r (restart lent notices)).event) → Formed S m
        restarts lent notices H = unfold step messages_after in rw (lent-read S A N B formed l J r L lent notices H) (go (last_of r.own notices lent) refl)
          where
            go : (o : Option (Message X)) → last_of r.own notices lent ≡ o → (m : Message X) → Mem m (opt o B (λ x. B ++ (x ∷ []))) → Formed S m
            go none e = formed
            go (some x) e = snoc-all (Formed S) B x formed ((lent-ordered S A N B formed l J r L lent notices H).formed x (last-of r.own notices lent x e).0)

    -- a slot below the turn, and firm, stays so
    step-below : (c : Call X) → Lent S J l r c → (s : ℕ) → s < r.cursor.turn → s < J.safe → (s < (step S r c).replica.cursor.turn) × (s < (journal_next S J r (step S r c)).safe)
    step-below = call_by S r (λ c. Lent S J l r c → (s : ℕ) → s < r.cursor.turn → s < J.safe → (s < (step S r c).replica.cursor.turn) × (s < (journal_next S J r (step S r c)).safe))
        (λ c m g s lo hi. moved (step S r c).replica.cursor.turn (step S r c).event m s lo hi) (λ lent notices g s lo hi. restarts lent notices (g lent notices refl) s lo hi)
      where
        still : (turn : ℕ) → turn ≡ r.cursor.turn → leaves_out S r turn ≡ false
        still turn i = rw (eq-eqb turn r.cursor.turn i) (and_no (out_here S r r.cursor.turn))

        moved : (turn : ℕ) (e : Event X) → Moved S r turn e → (s : ℕ) → s < r.cursor.turn → s < J.safe → (s < turn) × (s < (journal_after J (appended S r turn e) (leaves_out S r turn) e).safe)
        moved turn e (stays i a q) s lo hi = (omega arith, rw (still turn i, q.journal J (appended S r turn e)) hi)
        moved turn e (takes n i b v) s lo hi = (omega arith, rw v (unfold journal_after in (let a = L.safe in omega arith)))
        moved turn e (skips u i v) s lo hi = (
          omega arith,
          rw (v, i, u, ne_eqb (suc r.cursor.turn) r.cursor.turn (λ d. omega arith)) (unfold journal_after appended in
              rw (u, ne_eqb (suc r.cursor.turn) r.cursor.turn (λ d. omega arith)) (let a = L.safe in let b = length-append J.kept (next_of r.cursor.turn (S.owner r.cursor.turn) ∷ []) in omega arith)),
        )
        moved turn e (sends i o u f v b) s lo hi = (omega arith, rw v (unfold journal_after in omega arith))
        moved turn e (leaves_own u x h w i a q) s lo hi = (omega arith, rw (u, q.journal J (appended S r turn e)) hi)
        moved turn e (leaves_other u x h w i a q) s lo hi = (omega arith, rw (u, q.journal J (appended S r turn e)) hi)

        restarts : (lent : List (Message X)) (notices : List Notice) → ((c : Call X) × Cut J (appends S r (step S r c)) lent) × (notices ≡ l)
            → (s : ℕ) → s < r.cursor.turn → s < J.safe → (s < (step S r (restart lent notices)).replica.cursor.turn) × (s < (journal_next S J r (step S r (restart lent notices))).safe)
        restarts lent notices H s lo hi = unfold step journal_after in rw (lent-read S A N B formed l J r L lent notices H) ((let a = H.0.1.enough in omega arith), omega arith)

    -- a notice taken is of no slot below the turn
    step-notices : (c : Call X) → (more : List Notice) × ((notices_after l (step S r c).event ≡ l ++ more) × ((n : Notice) → Mem n more → r.cursor.turn ≤ n.slot))
    step-notices = call_by S r (λ c. (more : List Notice) × ((notices_after l (step S r c).event ≡ l ++ more) × ((n : Notice) → Mem n more → r.cursor.turn ≤ n.slot)))
        (λ c m. moved (step S r c).replica.cursor.turn (step S r c).event m) (λ lent notices. unfold step notices_after in none_more)
      where
        none_more : (more : List Notice) × ((l ≡ l ++ more) × ((n : Notice) → Mem n more → r.cursor.turn ≤ n.slot))
        none_more = ([], (sym (append-nil l), λ n h. absurd (Memᴰ.not-nil h)))

        moved : (turn : ℕ) (e : Event X) → Moved S r turn e → (more : List Notice) × ((notices_after l e ≡ l ++ more) × ((n : Notice) → Mem n more → r.cursor.turn ≤ n.slot))
        moved turn e (stays i a q) = rw (q.taken l) none_more
        moved turn e (takes n i b v) = rw v (unfold notices_after in (n ∷ [], (refl, snoc-all (λ x. r.cursor.turn ≤ x.slot) [] n (λ x h. absurd (Memᴰ.not-nil h)) b)))
        moved turn e (skips u i v) = rw v (unfold notices_after in none_more)
        moved turn e (sends i o u s v b) = rw v (unfold notices_after in none_more)
        moved turn e (leaves_own u x h w i a q) = rw (q.taken l) none_more
        moved turn e (leaves_other u x h w i a q) = rw (q.taken l) none_more

  -- ---- the group

  -- what member k does in w
  pub record Deed : Type 0 where
    pub at : ℕ
    pub outcome : Outcome X

  abbrev pub Done : System X → Deed → Type 0
  Done w d = HandedOut w.messages d.outcome.event × Does (w.journals d.at) (w.notices d.at) (w.replicas d.at) d.outcome

  abbrev pub next : System X → Deed → System X
  next w d = after S w d.at d.outcome

  unfoldable pub reach : System X → List Deed → System X
  reach w [] = w
  reach w (d ∷ ds) = reach (next w d) ds

  unfoldable pub AllDone : System X → List Deed → Type 0
  AllDone w [] = Unit
  AllDone w (d ∷ ds) = Done w d × AllDone (next w d) ds

  module _ (A : PlacesApart S) (N : PlacesWithin S) where
    -- what one member's deed leaves of it
    mine-lone : (w : System X) → AllLone w → (d : Deed) → Done w d
        → LoneAt S (messages_after w.messages d.outcome.event) (notices_after (w.notices d.at) d.outcome.event) (journal_next S (w.journals d.at) (w.replicas d.at) d.outcome) d.outcome.replica
    mine-lone w W d D = go D.1 D.0
      where
        B : List (Message X)
        B = w.messages

        l : List Notice
        l = w.notices d.at

        J : Journal X
        J = w.journals d.at

        r : Replica X
        r = w.replicas d.at

        L : LoneAt S w.messages (w.notices d.at) (w.journals d.at) (w.replicas d.at)
        L = W.each d.at

        go : Does (w.journals d.at) (w.notices d.at) (w.replicas d.at) d.outcome → HandedOut w.messages d.outcome.event
            → LoneAt S (messages_after w.messages d.outcome.event) (notices_after (w.notices d.at) d.outcome.event) (journal_next S (w.journals d.at) (w.replicas d.at) d.outcome) d.outcome.replica
        go (refuses c e E) h = lone-alike (messages_after B d.outcome.event) (notices_after l d.outcome.event) (journal_next S J r d.outcome) r d.outcome.replica E
            (rw (E.cursor, e) (lone-quiet S A N B W.formed l J r L (outcome r (refused c)) refl refl refl refl refl (turned S r c)))
        go (follows c e E g) h = lone-alike (messages_after B d.outcome.event) (notices_after l d.outcome.event) (journal_next S J r d.outcome) (step S r c).replica d.outcome.replica E
            (rw (E.cursor, e) (step-lone A N B W.formed l J r L c (rw e at h) g))

    pub next-lone : (w : System X) → AllLone w → (d : Deed) → Done w d → AllLone (next w d)
    next-lone w W d D = record { formed = λ m h. formed D.1 m h; each = λ k. go k (eqb k d.at) refl }
      where
        k' : ℕ
        k' = d.at

        e' : Event X
        e' = d.outcome.event

        formed : Does (w.journals d.at) (w.notices d.at) (w.replicas d.at) d.outcome → (m : Message X) → Mem m (messages_after w.messages d.outcome.event) → Formed S m
        formed (refuses c e E) = rw e (unfold messages_after in W.formed)
        formed (follows c e E g) = rw e (step-formed A N w.messages W.formed (w.notices d.at) (w.journals d.at) (w.replicas d.at) (W.each d.at) c g)

        go : (k : ℕ) (b : Bool) → eqb k d.at ≡ b → LoneAt S (messages_after w.messages d.outcome.event) (cond b (notices_after (w.notices d.at) d.outcome.event) (w.notices k))
            (cond b (journal_next S (w.journals d.at) (w.replicas d.at) d.outcome) (w.journals k)) (cond b d.outcome.replica (w.replicas k))
        go k true e = mine-lone w W d D
        go k false e = lone-more S w.messages (messages_after w.messages d.outcome.event) (messages-grow w.messages d.outcome.event) (w.notices k) (w.journals k) (w.replicas k) (W.each k)

    -- ---- a slot passed for good

    -- slot s is below member j's turn, and no cut brings the turn back
    abbrev pub Below : System X → ℕ → ℕ → Type 0
    Below w j s = (s < (w.replicas j).cursor.turn) × (s < (w.journals j).safe)

    next-below : (w : System X) → AllLone w → (d : Deed) → Done w d → (j s : ℕ) → Below w j s
        → Below (next w d) j s × ((more : List Notice) × (((next w d).notices j ≡ w.notices j ++ more) × ((n : Notice) → Mem n more → s < n.slot)))
    next-below w W d D j s H = go (eqb j d.at) refl
      where
        none_more : (more : List Notice) × ((w.notices j ≡ w.notices j ++ more) × ((n : Notice) → Mem n more → s < n.slot))
        none_more = ([], (sym (append-nil (w.notices j)), λ n h. absurd (Memᴰ.not-nil h)))

        mine : Does (w.journals d.at) (w.notices d.at) (w.replicas d.at) d.outcome → s < (w.replicas d.at).cursor.turn → s < (w.journals d.at).safe
            → ((s < d.outcome.replica.cursor.turn) × (s < (journal_next S (w.journals d.at) (w.replicas d.at) d.outcome).safe))
            × ((more : List Notice) × ((notices_after (w.notices d.at) d.outcome.event ≡ w.notices d.at ++ more) × ((n : Notice) → Mem n more → s < n.slot)))
        mine (refuses c e E) lo hi = rw (E.cursor, e) (unfold notices_after journal_after in ((lo, hi), ([], (sym (append-nil (w.notices d.at)), λ n h. absurd (Memᴰ.not-nil h)))))
        mine (follows c e E g) lo hi = rw (E.cursor, e) (
          step-below A N w.messages W.formed (w.notices d.at) (w.journals d.at) (w.replicas d.at) (W.each d.at) c g s lo hi,
          (let a = step-notices A N w.messages W.formed (w.notices d.at) (w.journals d.at) (w.replicas d.at) (W.each d.at) c in
              (a.0, (a.1.0, λ n h. let b = a.1.1 n h in let q : s < n.slot = omega arith in q))),
        )

        go : (b : Bool) → eqb j d.at ≡ b
            → ((s < (cond b d.outcome.replica (w.replicas j)).cursor.turn) × (s < (cond b (journal_next S (w.journals d.at) (w.replicas d.at) d.outcome) (w.journals j)).safe))
            × ((more : List Notice) × ((cond b (notices_after (w.notices d.at) d.outcome.event) (w.notices j) ≡ w.notices j ++ more) × ((n : Notice) → Mem n more → s < n.slot)))
        go true e = let q = eqb-true j d.at e in subst (λ (i : ℕ). ((s < d.outcome.replica.cursor.turn) × (s < (journal_next S (w.journals d.at) (w.replicas d.at) d.outcome).safe))
            × ((more : List Notice) × ((notices_after (w.notices d.at) d.outcome.event ≡ w.notices i ++ more) × ((n : Notice) → Mem n more → s < n.slot)))) (sym q)
            (mine D.1 (subst (λ (i : ℕ). s < (w.replicas i).cursor.turn) q H.0) (subst (λ (i : ℕ). s < (w.journals i).safe) q H.1))
        go false e = (H, none_more)

    -- to the end: later notices are of later slots
    pub reach-below : (ds : List Deed) (w : System X) → AllLone w → AllDone w ds → (j s : ℕ) → Below w j s
        → (s < ((reach w ds).replicas j).cursor.turn) × ((more : List Notice) × (((reach w ds).notices j ≡ w.notices j ++ more) × ((n : Notice) → Mem n more → s < n.slot)))
    unfolding reach AllDone
    reach-below [] w W D j s H = (H.0, ([], (sym (append-nil (w.notices j)), λ n h. absurd (Memᴰ.not-nil h))))
    reach-below (d ∷ ds) w W D j s H =
        let a = next-below w W d D.0 j s H in
        let b = reach-below ds (next w d) (next-lone w W d D.0) D.1 j s a.0 in (
          b.0,
          (
            a.1.0 ++ b.1.0,
            (
              b.1.1.0 ∙ ap (λ (l : List Notice). l ++ b.1.0) a.1.1.0 ∙ append_assoc (w.notices j) a.1.0 b.1.0,
              λ n h. either n (Memᴰ.append_cases a.1.0 h) (a.1.1.1 n) (b.1.1.1 n),
            ),
          ),
        )
      where
        either : {P Q : Type 0} (n : Notice) → P ⊎ Q → (P → s < n.slot) → (Q → s < n.slot) → s < n.slot
        either n (inl h) f g = f h
        either n (inr h) f g = g h

    pub reach-messages : (ds : List Deed) (w : System X) (m : Message X) → Mem m w.messages → Mem m (reach w ds).messages
    unfolding reach
    reach-messages [] w m h = h
    reach-messages (d ∷ ds) w m h = reach-messages ds (next w d) m (messages-grow w.messages d.outcome.event m h)
