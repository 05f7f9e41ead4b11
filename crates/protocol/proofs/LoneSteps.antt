-- Every call keeps what holds of one replica by itself. Assumes nothing.
use Prim.Native.Nat.{◌+◌, ◌<◌, ◌≤◌, suc, zero, ℕ}
use mathlib.Core.Path.{◌∙◌, ◌≡◌, ap, refl, subst, sym}
use mathlib.Core.Bool.{Bool, ◌&&◌, ◌||◌, false, not, true, cond}
use mathlib.Core.Option.{Option, none, some}
use mathlib.Core.List.Memᴰ
use mathlib.Core.List.{List, [], ◌++◌, ◌∷◌}
use native.Mathlib.Nat.{not-suc-le-zero}
use native.Mathlib.Omega.{arith}
use lib.ListN.{get_or, length, length-append}
use lib.Dec.{eqb, leb, ltb}
use borrow.Author.Tests.{eq-eqb, eqb-false, eqb-true, leb-false, le-ltb, lt-leb, lt-ltb, ltb-false, ltb-true, ne_eqb, not-false}
use Rattle.protocol.specs.Lists.{opt, Mem}
use Rattle.protocol.specs.Writesets.{Message, no_writeset}
use Rattle.protocol.specs.Notices.{Notice, Outage, is_out, outage_after, outages_after, outages_of, no_outages}
use Rattle.protocol.specs.Replica.{Setup, Cursor, Blocks, Replica, refused, noticed, Outcome, outcome}
use Rattle.protocol.specs.Client.{ClientOutcome, find_txn, from_client}
use Rattle.protocol.specs.Moves.{cursor_after, outgoing, is_next, occupied, is_sent, out_here, send_step, sent_for_turn, deliver_step, clear_turn, blocks_after, commit_step, at_turn, pass_out, work_step, placed_from, bars_out, bars_back, bars_notice, taking, notice_step}
use Rattle.protocol.specs.Journal.{Journal, journal, append, next_of, journal_after, leaves_out, leaving, appended}
use Rattle.protocol.specs.System.{messages_after, notices_after, HandedOut, journal_next, PlacesApart, PlacesWithin}
use Rattle.protocol.proofs.ListLaws.{cond_by, opt-by, bool_by, less_by, same_by, clash, no_some, update-by, and_no, and_true, and_false, or_false}
use Rattle.protocol.proofs.NoticeLaws.{outages_snoc, puts_about, puts_other, out-after, back-after}
use Rattle.protocol.proofs.Moved.{Calm, turned}
use Rattle.protocol.proofs.Lone.{Formed, out_in, Waits, Ordered, Lone, LoneAt, ordered-snoc}

module _ {X : Type 0} (S : Setup X) (A : PlacesApart S) (N : PlacesWithin S) (B : List (Message X)) (formed : (m : Message X) → Mem m B → Formed S m)
    (l : List Notice) (J : Journal X) (r : Replica X) (L : LoneAt S B l J r) where
  abbrev t : ℕ
  t = r.cursor.turn

  abbrev pub P : Outcome X → Type 0
  P o = LoneAt S (messages_after B o.event) (notices_after l o.event) (journal_next S J r o) o.replica

  stays-in : (n : ℕ) → n ≡ r.cursor.turn → leaves_out S r n ≡ false
  stays-in n i = rw (eq-eqb n r.cursor.turn i) (and_no (out_here S r r.cursor.turn))

  -- a call that leaves turn, mark, places and outages alone
  pub lone-quiet : (o : Outcome X) → o.replica.own ≡ r.own → o.replica.cursor.turn ≡ r.cursor.turn → o.replica.cursor.sent ≡ r.cursor.sent → o.replica.blocks.places ≡ r.blocks.places
      → o.replica.blocks.outages ≡ r.blocks.outages → Calm S r o.event → P o
  lone-quiet o a b c d e q = rw (a, b, c, d, e, q.0, stays-in r.cursor.turn refl, q.1.messages B, q.1.taken l, q.1.journal J none) L

  refuse : (c : ℕ) → P (outcome r (refused c))
  refuse c = lone-quiet (outcome r (refused c)) refl refl refl refl refl (turned S r c)

  pub client-lone : (o : ClientOutcome X) → Calm S r o.event → P (from_client r o)
  client-lone o q = lone-quiet (from_client r o) refl refl refl refl refl q

  -- the turn's slot, where nothing is sent for it
  not-sent : (out_here S r r.cursor.turn ≡ true) → r.cursor.sent ≡ false
  not-sent h = bool_by r.cursor.sent (λ e. absurd (clash h (L.mine e).live)) (λ e. e)

  -- ---- send
  pub send-lone : P (send_step S r)
  unfolding send_step messages_after notices_after journal_after appended
  send-lone = cond_by P (leb S.slot_limit r.cursor.turn) (λ e. refuse 13) (λ e.
      cond_by P (eqb (S.owner r.cursor.turn) r.own) (λ f.
      cond_by P (out_here S r r.cursor.turn) (λ i. refuse 29) (λ i.
      cond_by P r.cursor.sent (λ g. refuse 12) (λ g.
      let o = eqb-true (S.owner r.cursor.turn) r.own f in
      let w : Formed S (outgoing r) = record { sender = sym o; slot = leb-false S.slot_limit r.cursor.turn e } in
      let p : length J.kept ≡ r.cursor.turn = L.pace ∙ ap (λ (b : Bool). cond b (suc r.cursor.turn) r.cursor.turn) g in
      let n = length-append J.kept (outgoing r ∷ []) in record {
        ordered = ordered-snoc S J.kept (outgoing r) L.ordered (sym p) w;
        pace = (let q : length (J.kept ++ (outgoing r ∷ [])) ≡ suc r.cursor.turn = omega arith in q);
        safe = omega arith;
        mine = λ u. record { mine = o; live = i; message = outgoing r; handed = Memᴰ.append_right B (Memᴰ.head refl); formed = w; slot = refl };
        waits = λ q x h. let v = L.waits q x h in record { here = v.here; low = v.low; high = v.high; handed = Memᴰ.append_left (outgoing r ∷ []) v.handed; formed = v.formed; live = v.live; back = λ m. absurd (clash (v.back m).0 g) };
        told = record { since = L.told.since; past = L.told.past; firm = (let a = L.told.past in omega arith); says = L.told.says; kept = L.told.kept };
      })))
      (λ f. refuse 11))

  -- ---- deliver
  pub deliver-lone : (m : Message X) → HandedOut B (deliver_step S r m).event → P (deliver_step S r m)
  unfolding deliver_step messages_after notices_after journal_after appended
  deliver-lone m = cond_by Q (ltb m.slot r.cursor.turn) (λ e h. refuse 17) (λ e.
      cond_by Q (out_here S r m.slot) (λ u h. refuse 29) (λ u.
      cond_by Q (ltb m.slot (r.cursor.turn + S.size)) (λ f.
      cond_by Q (eqb m.sender r.own && not (sent_for_turn S r m)) (λ g h. refuse 19) (λ g.
      cond_by Q (occupied (r.blocks.places (S.place m.slot))) (λ i h. refuse 20) (λ i h. record {
        ordered = L.ordered;
        pace = L.pace;
        safe = L.safe;
        mine = L.mine;
        waits = update-by (λ p o. (y : Message X) → o ≡ some y → Waits S B r.own r.cursor.turn r.cursor.sent r.blocks.outages p y) r.blocks.places (S.place m.slot) (some m)
            (λ y q. subst (λ z. Waits S B r.own r.cursor.turn r.cursor.sent r.blocks.outages (S.place m.slot) z) (unsome q) (record {
              here = refl;
              low = ltb-false m.slot r.cursor.turn e;
              high = ltb-true m.slot (r.cursor.turn + S.size) f;
              handed = h;
              formed = formed m h;
              live = u;
              back = λ o. sent_here o g;
            })) (λ p q y z. L.waits p y z);
        told = L.told;
      })))
      (λ f h. refuse 18)))
    where
      Q : Outcome X → Type 0
      Q o = HandedOut B o.event → P o

      unsome : {y z : Message X} → some y ≡ some z → y ≡ z
      unsome e = cc

      and_yes : (a b : Bool) → (a && not b) ≡ false → a ≡ true → b ≡ true
      and_yes true true e h = refl
      and_yes true false e h = clash {b = true} refl e
      and_yes false b e h = clash {b = false} h refl

      sent_here : m.sender ≡ r.own → (eqb m.sender r.own && not (sent_for_turn S r m)) ≡ false → (r.cursor.sent ≡ true) × (m.slot ≡ r.cursor.turn)
      sent_here o g =
          let a = and_yes (eqb m.sender r.own) (sent_for_turn S r m) g (eq-eqb m.sender r.own o) in
          let b = and_true r.cursor.sent (eqb m.slot r.cursor.turn && opt r.blocks.outbox false (λ l. S.same_message l m)) a in
          (b.0, eqb-true m.slot r.cursor.turn (and_true (eqb m.slot r.cursor.turn) (opt r.blocks.outbox false (λ l. S.same_message l m)) b.1).0)

  -- ---- work
  -- what waits for a later slot than the turn's
  waits-on : (p : ℕ) (y : Message X) → r.blocks.places p ≡ some y → (y.slot ≡ r.cursor.turn → ⊥) → Waits S B r.own (suc r.cursor.turn) false r.blocks.outages p y
  waits-on p y e d = let w = L.waits p y e in record {
    here = w.here;
    low = (let h = w.low in omega (arith, d));
    high = (let h = w.high in let g : suc r.cursor.turn + S.size ≡ suc (r.cursor.turn + S.size) = omega arith in omega arith);
    handed = w.handed;
    formed = w.formed;
    live = w.live;
    back = λ o. absurd (d (w.back o).1);
  }

  -- with the turn's place emptied
  waits-cleared : (p : ℕ) (y : Message X) → (clear_turn S r.cursor r.blocks).places p ≡ some y → Waits S B r.own (suc r.cursor.turn) false r.blocks.outages p y
  waits-cleared = update-by (λ p o. (y : Message X) → o ≡ some y → Waits S B r.own (suc r.cursor.turn) false r.blocks.outages p y) r.blocks.places (S.place r.cursor.turn) none
      (λ y f. no_some refl f) (λ p q y f. waits-on p y f (λ g. q (sym (L.waits p y f).here ∙ ap S.place g)))

  -- the turn leaves its slot: the journal K with a message for it, in slot order, of which n are safe
  left : (K : List (Message X)) (n : ℕ) (places : ℕ → Option (Message X)) → ((p : ℕ) (y : Message X) → places p ≡ some y → Waits S B r.own (suc r.cursor.turn) false r.blocks.outages p y)
      → Ordered S K → length K ≡ suc r.cursor.turn → J.safe ≤ n → n ≤ length K → Lone S B l (journal K n) r.own (suc r.cursor.turn) false places r.blocks.outages
  left K n places w o e lo hi = record {
    ordered = o;
    pace = e;
    safe = hi;
    mine = λ h. clash {b = false} h refl;
    waits = w;
    told = record { since = L.told.since; past = (let a = L.told.past in omega arith); firm = (let a = L.told.firm in omega arith); says = L.told.says; kept = L.told.kept };
  }

  -- an out slot
  pub skip-lone : out_here S r r.cursor.turn ≡ true → P (pass_out S r)
  unfolding messages_after notices_after journal_after appended
  skip-lone u = let p : length J.kept ≡ r.cursor.turn = L.pace ∙ ap (λ (b : Bool). cond b (suc r.cursor.turn) r.cursor.turn) (not-sent u) in
      let n = length-append J.kept (next_of r.cursor.turn (S.owner r.cursor.turn) ∷ []) in
      rw (u, ne_eqb (suc r.cursor.turn) r.cursor.turn (λ d. omega arith))
      (left (J.kept ++ (next_of r.cursor.turn (S.owner r.cursor.turn) ∷ [])) (length (J.kept ++ (next_of r.cursor.turn (S.owner r.cursor.turn) ∷ []))) r.blocks.places
      (λ q y e. waits-on q y e (λ g. clash u (ap (out_here S r) (sym g) ∙ (L.waits q y e).live)))
      (ordered-snoc S J.kept (next_of r.cursor.turn (S.owner r.cursor.turn)) L.ordered (sym p)
      (record { sender = refl; slot = ltb-true r.cursor.turn S.slot_limit (and_true (ltb r.cursor.turn S.slot_limit) _ u).0 }))
      (let q : length (J.kept ++ (next_of r.cursor.turn (S.owner r.cursor.turn) ∷ [])) ≡ suc r.cursor.turn = omega arith in q) (let a = L.safe in omega arith) (omega arith))

  module _ (x : Message X) (e : at_turn S r ≡ some x) where
    here-waits : Waits S B r.own r.cursor.turn r.cursor.sent r.blocks.outages (S.place r.cursor.turn) x
    here-waits = L.waits (S.place r.cursor.turn) x e

    pub at_turn_lem : x.slot ≡ r.cursor.turn
    at_turn_lem = A r.cursor.turn x.slot here-waits.low here-waits.high here-waits.here

    -- its own or another's slot, whose message is in the journal or comes to it
    leaves : Lone S B l (journal (append J.kept (leaving S r (suc r.cursor.turn) x.sender)) J.safe) r.own (suc r.cursor.turn) false (clear_turn S r.cursor r.blocks).places r.blocks.outages
    leaves = bool_by (eqb x.sender r.own)
        (λ g. rw g (left J.kept J.safe (clear_turn S r.cursor r.blocks).places waits-cleared L.ordered
        (L.pace ∙ ap (λ (b : Bool). cond b (suc r.cursor.turn) r.cursor.turn) (here-waits.back (eqb-true x.sender r.own g)).0) (omega arith) L.safe))
        (λ g. let f : r.cursor.sent ≡ false = bool_by r.cursor.sent
        (λ s. absurd (eqb-false x.sender r.own g (here-waits.formed.sender ∙ ap S.owner at_turn_lem ∙ (L.mine s).mine))) (λ s. s) in
        let p : length J.kept ≡ r.cursor.turn = L.pace ∙ ap (λ (b : Bool). cond b (suc r.cursor.turn) r.cursor.turn) f in
        let n = length-append J.kept (x ∷ []) in
        rw (g, ne_eqb (suc r.cursor.turn) r.cursor.turn (λ d. omega arith), e)
        (left (J.kept ++ (x ∷ [])) J.safe (clear_turn S r.cursor r.blocks).places waits-cleared (ordered-snoc S J.kept x L.ordered (at_turn_lem ∙ sym p) here-waits.formed)
        (let q : length (J.kept ++ (x ∷ [])) ≡ suc r.cursor.turn = omega arith in q) (omega arith) (let a = L.safe in omega arith)))

  pub work-lone : P (work_step S r)
  unfolding work_step commit_step cursor_after blocks_after messages_after notices_after journal_after appended
  work-lone = cond_by P (out_here S r r.cursor.turn) (λ u. skip-lone u) (λ u. opt-by P (at_turn S r) (λ e. refuse 21) (λ x e.
      cond_by P (is_next x) (λ z. rw u (leaves x e)) (λ z.
      cond_by P (eqb x.sender r.own && is_sent (find_txn (get_or x.writesets r.cursor.done no_writeset).ticket r.transactions.txns))
      (λ f. one x e)
      (λ f. one x e))))
    where
      stay : (s : ℕ) → leaving S r r.cursor.turn s ≡ none
      stay s = cond_by (λ (o : Option (Message X)). o ≡ none) (eqb s r.own) (λ g. refl) (λ g. rw (eq-eqb r.cursor.turn r.cursor.turn refl))

      then : Bool → Cursor
      then b = cond b (record { turn = suc r.cursor.turn; sent = false; done = 0 }) (record { turn = r.cursor.turn; sent = r.cursor.sent; done = suc r.cursor.done })

      blocks : Bool → Blocks X
      blocks b = cond b (clear_turn S r.cursor r.blocks) r.blocks

      go : (x : Message X) → at_turn S r ≡ some x → (b : Bool)
          → Lone S B l (journal (append J.kept (leaving S r (then b).turn x.sender)) J.safe) r.own (then b).turn (then b).sent (blocks b).places (blocks b).outages
      go x e true = leaves x e
      go x e false = rw (stay x.sender) L

      one : (x : Message X) → at_turn S r ≡ some x → let b = eqb (suc r.cursor.done) (length x.writesets) in
          Lone S B l (journal (append J.kept (leaving S r (then b).turn x.sender)) J.safe) r.own (then b).turn (then b).sent (blocks b).places (blocks b).outages
      one x e = go x e (eqb (suc r.cursor.done) (length x.writesets))

  -- ---- a notice
  -- no place has a message of the replica for the slot or a later one
  placed-none : (k v n : ℕ) → placed_from S r k v n ≡ false → (p : ℕ) → p < n → (x : Message X) → r.blocks.places p ≡ some x → (eqb x.sender k && leb v x.slot) ≡ false
  unfolding placed_from
  placed-none k v zero e p h x g = absurd (not-suc-le-zero h)
  placed-none k v (suc n) e p h x g =
      let o = or_false (opt (r.blocks.places n) false (λ m. eqb m.sender k && leb v m.slot)) (placed_from S r k v n) e in
      same_by p n (λ q. sym (ap (λ (o : Option (Message X)). opt o false (λ m. eqb m.sender k && leb v m.slot)) (ap r.blocks.places (sym q) ∙ g)) ∙ o.0)
      (λ d. placed-none k v n o.1 p (omega (arith, d)) x g)

  module _ (n : Notice) (small : n.slot < S.slot_limit) (free : bars_notice S r n ≡ false) where
    bars : (ltb n.slot r.cursor.turn ≡ false) × (cond n.out (bars_out S r n) (bars_back S r n) ≡ false)
    bars = or_false (ltb n.slot r.cursor.turn) (cond n.out (bars_out S r n) (bars_back S r n)) free

    ahead : r.cursor.turn ≤ n.slot
    ahead = ltb-false n.slot r.cursor.turn bars.0

    module _ (e : n.out ≡ true) where
      bars-out : bars_out S r n ≡ false
      bars-out = ap (λ (b : Bool). cond b (bars_out S r n) (bars_back S r n)) (sym e) ∙ bars.1

      bars-rest : (placed_from S r n.about n.slot S.size || (eqb n.about r.own && (r.cursor.sent && leb n.slot r.cursor.turn))) ≡ false
      bars-rest = (or_false (ltb r.cursor.turn (r.blocks.outages n.about).until) _ bars-out).1

      over : (r.blocks.outages n.about).until ≤ r.cursor.turn
      over = ltb-false r.cursor.turn (r.blocks.outages n.about).until (or_false (ltb r.cursor.turn (r.blocks.outages n.about).until) _ bars-out).0

      none_placed : placed_from S r n.about n.slot S.size ≡ false
      none_placed = (or_false (placed_from S r n.about n.slot S.size) _ bars-rest).0

      none_sent : r.cursor.sent ≡ true → n.about ≡ r.own → r.cursor.turn < n.slot
      none_sent s o = leb-false n.slot r.cursor.turn (and_false r.cursor.sent (leb n.slot r.cursor.turn)
          (and_false (eqb n.about r.own) (r.cursor.sent && leb n.slot r.cursor.turn) (or_false (placed_from S r n.about n.slot S.size) _ bars-rest).1 (eq-eqb n.about r.own o)) s)

    not_yet : n.out ≡ false → (r.blocks.outages n.about).until ≡ S.slot_limit
    not_yet e = eqb-true (r.blocks.outages n.about).until S.slot_limit
        (not-false (eqb (r.blocks.outages n.about).until S.slot_limit) (or_false (not (eqb (r.blocks.outages n.about).until S.slot_limit)) _ (ap (λ (b : Bool). cond b (bars_out S r n) (bars_back S r n)) (sym e) ∙ bars.1)).0)

    -- the outage of the replica that it is about, and of any other
    about-it : (s : ℕ) → n.about ≡ S.owner s → outages_after S.slot_limit r.blocks.outages n (S.owner s) ≡ outage_after S.slot_limit (r.blocks.outages n.about) n
    about-it s e = rw (eq-eqb (S.owner s) n.about (sym e)) refl

    about-other : (s : ℕ) → (n.about ≡ S.owner s → ⊥) → outages_after S.slot_limit r.blocks.outages n (S.owner s) ≡ r.blocks.outages (S.owner s)
    about-other s d = rw (ne_eqb (S.owner s) n.about (λ q. d (sym q))) refl

    -- what is out after it
    out-now : (s : ℕ) → s < S.slot_limit → n.about ≡ S.owner s → (n.out ≡ true → r.cursor.turn ≤ s)
        → is_out (outages_after S.slot_limit r.blocks.outages n (S.owner s)) s ≡ cond (leb n.slot s) n.out (is_out (r.blocks.outages n.about) s)
    out-now s h e lo = ap (λ (o : Outage). is_out o s) (about-it s e) ∙ bool_by n.out
        (λ b. out-after S.slot_limit (r.blocks.outages n.about) n s b (let a = over b in let c = lo b in omega arith) h)
        (λ b. back-after S.slot_limit (r.blocks.outages n.about) n s b (not_yet b) h)

    -- what was not out is not out after it, unless it is an Out from there on
    live_now : (s : ℕ) → out_in S r.blocks.outages s ≡ false → (n.out ≡ true → n.about ≡ S.owner s → s < n.slot) → out_in S (outages_after S.slot_limit r.blocks.outages n) s ≡ false
    live_now s was lo = less_by s S.slot_limit
        (λ h. let w : is_out (r.blocks.outages (S.owner s)) s ≡ false = (ap (λ (b : Bool). b && is_out (r.blocks.outages (S.owner s)) s) (sym (lt-ltb s S.slot_limit h)) ∙ was) in
        rw (lt-ltb s S.slot_limit h) (same_by n.about (S.owner s)
        (λ e. ap (λ (o : Outage). is_out o s) (about-it s e) ∙ bool_by n.out
        (λ b. rw (b, lt-leb n.slot s (lo b e)) refl)
        (λ b. back-after S.slot_limit (r.blocks.outages n.about) n s b (not_yet b) h ∙ both (leb n.slot s) n.out (is_out (r.blocks.outages n.about) s) b (ap (λ (k : ℕ). is_out (r.blocks.outages k) s) e ∙ w)))
        (λ d. ap (λ (o : Outage). is_out o s) (about-other s d) ∙ w)))
        (λ h. rw (le-ltb s S.slot_limit h) refl)
      where
        both : (a b c : Bool) → b ≡ false → c ≡ false → cond a b c ≡ false
        both true b c e h = e
        both false b c e h = h

    taken-lone : P (outcome (taking S r n) (noticed n))
    unfolding messages_after notices_after journal_after appended
    taken-lone = record {
      ordered = L.ordered;
      pace = L.pace;
      safe = omega arith;
      mine = λ s. let w = L.mine s in record {
        mine = w.mine;
        live = live_now r.cursor.turn w.live (λ e o. none_sent e s (o ∙ w.mine));
        message = w.message;
        handed = w.handed;
        formed = w.formed;
        slot = w.slot;
      };
      waits = λ p x q. let w = L.waits p x q in record {
        here = w.here;
        low = w.low;
        high = w.high;
        handed = w.handed;
        formed = w.formed;
        live = live_now x.slot w.live (λ e o. leb-false n.slot x.slot (and_false (eqb x.sender n.about) (leb n.slot x.slot)
            (placed-none n.about n.slot S.size (none_placed e) p (subst (λ (i : ℕ). i < S.size) w.here (N x.slot)) x q) (eq-eqb x.sender n.about (w.formed.sender ∙ sym o))));
        back = w.back;
      };
      told = record {
        since = r.cursor.turn;
        past = omega arith;
        firm = reach;
        says = λ s lo h. same_by n.about (S.owner s)
            (λ e. out-now s h e (λ b. lo) ∙ ap (cond (leb n.slot s) n.out) (ap (λ (k : ℕ). is_out (r.blocks.outages k) s) e ∙ L.told.says s (let a = L.told.past in omega arith) h) ∙ sym (puts_about l n (S.owner s) s e))
            (λ d. ap (λ (o : Outage). is_out o s) (about-other s d) ∙ L.told.says s (let a = L.told.past in omega arith) h ∙ sym (puts_other l n (S.owner s) s d));
        kept = λ s. same_by n.about (S.owner s)
            (λ e. about-it s e ∙ ap (λ (o : Outage). outage_after S.slot_limit o n) (ap r.blocks.outages e ∙ L.told.kept s ∙ ap (outages_of S.slot_limit no_outages l) (sym e)) ∙ sym (kept-it s e))
            (λ d. about-other s d ∙ L.told.kept s ∙ sym (kept-other s d));
      };
    }
      where
        reach : r.cursor.turn ≤ length J.kept
        reach = bool_by r.cursor.sent (λ b. let p = L.pace ∙ ap (λ (c : Bool). cond c (suc r.cursor.turn) r.cursor.turn) b in omega arith)
            (λ b. let p = L.pace ∙ ap (λ (c : Bool). cond c (suc r.cursor.turn) r.cursor.turn) b in omega arith)

        kept-it : (s : ℕ) → n.about ≡ S.owner s → outages_of S.slot_limit no_outages (l ++ (n ∷ [])) (S.owner s) ≡ outage_after S.slot_limit (outages_of S.slot_limit no_outages l n.about) n
        kept-it s e = ap (λ (h : ℕ → Outage). h (S.owner s)) (outages_snoc S.slot_limit no_outages l n) ∙ rw (eq-eqb (S.owner s) n.about (sym e)) refl

        kept-other : (s : ℕ) → (n.about ≡ S.owner s → ⊥) → outages_of S.slot_limit no_outages (l ++ (n ∷ [])) (S.owner s) ≡ outages_of S.slot_limit no_outages l (S.owner s)
        kept-other s d = ap (λ (h : ℕ → Outage). h (S.owner s)) (outages_snoc S.slot_limit no_outages l n) ∙ rw (ne_eqb (S.owner s) n.about (λ q. d (sym q))) refl

  pub notice-lone : (n : Notice) → P (notice_step S r n)
  unfolding notice_step
  notice-lone n = cond_by P (leb S.slot_limit n.slot) (λ e. refuse 2) (λ e.
      cond_by P (bars_notice S r n) (λ f. refuse 28) (λ f. taken-lone n (leb-false S.slot_limit n.slot e) f))
