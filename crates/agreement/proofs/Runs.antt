-- A run of the group as one of the machine: the same memory, observer and handouts, and the messages of the blocks. Assumes nothing.
use Prim.Native.Nat.{ℕ, ◌*◌, ◌<◌, ◌≤◌}
use mathlib.Core.Path.{◌≡◌, refl, sym, ap, ◌∙◌, subst}
use mathlib.Core.Bool.{Bool, Bool-set, true, false, cond}
use mathlib.Core.Option.{Option, none, some}
use mathlib.Core.List.Memᴰ
use mathlib.Core.List.{List, [], ◌∷◌, ◌++◌, append_assoc, map}
use native.Mathlib.Omega.{arith}
use lib.Dec.{eqb}
use lib.IntN.{ℤ}
use lib.ListN.{get_or}
use borrow.Author.Tests.{eqb-true}
use Rattle.block.specs.Message.{signed32}
use Rattle.block.specs.Answers.{record_at}
use Rattle.memory.specs.Memory.{Memory}
use Rattle.memory.specs.Notices.{Notice}
use Rattle.engine.specs.Make.{Setting}
use Rattle.engine.specs.Answers.{Answer, WorkDone, Outcome}
use Rattle.engine.specs.Answers.Answer.{refused, made, began, got, wrote, queued, read_only, withdrew, reported, sent, kept, worked, loaded, noticed, restarted}
use Rattle.engine.specs.Client.{begin_at, read_only_at, queue_at, rewrite_at, insert_write, stale_at, withdraw_at, report_step}
use Rattle.engine.specs.Moves.{send_now, deliver_now, block_at_turn, pass_next, commit_writeset, pass_out}
use Rattle.engine.specs.Calls.{Call, step}
use Rattle.engine.specs.Calls.Call.{begin, read, write, ask, withdraw, report, send, deliver, work, load, notice}
use Rattle.engine.specs.Restart.{restart_step}
use Rattle.engine.specs.History.{AnyCall, any_step}
use Rattle.engine.specs.History.AnyCall.{call, restart}
use Rattle.engine.proofs.Tests.{cond_by, clash}
use Rattle.engine.proofs.Passed.{restart_passed}
use Rattle.engine.proofs.Steps.{begin-by, read_by, write-by, ask-by, withdraw-by, send_by, deliver-by, work-by, load-by, notice-by, restart-by}
use Rattle.protocol.specs.Lists.{opt, update, Mem}
use Rattle.protocol.specs.Writesets.{Message}
use Rattle.protocol.specs.Notices as protocol
use Rattle.protocol.specs.Replica.{Event}
use Rattle.protocol.specs.Journal.{Journal, journal, Cut}
use Rattle.protocol.specs.Observer.{Placed}
use Rattle.protocol.specs.System as system
use Rattle.protocol.specs.System.{messages_after, notices_after, HandedOut}
use Rattle.protocol.specs.Machine.{Machine, CommandClaim, MachineSystem, CommandAt, after_command, run_commands, CommandLent, CommandClaims}
use Rattle.protocol.proofs.ListLaws.{update-by, mem-map}
use Rattle.protocol.proofs.SequenceLaws.{map-append}
use Rattle.agreement.specs.Group as group
use Rattle.agreement.specs.Group.{message_in, notice_in, first_notice, arguments_of, given_in, heard, Disk, disk_after, is_taken, taken_after, Members, CallAt, fresh, did, blocks_after, next, run, Comes, Calls, Lent, PremiseFrom}
use Rattle.agreement.proofs.View.{setup, view_at, Sound, meant, Owed}
use Rattle.agreement.proofs.RestartStep.{lent_messages, meant_by, sound_any}
use Rattle.agreement.proofs.MemberStep.{Ours, view-own}
use Rattle.agreement.proofs.JournalView.{OnDisk, no_block, disk-call, disk-restart, lent_cut}
use Rattle.agreement.proofs.Replicas.{Standing, as-replica, as-station, SoundAt, stays, made-sound, replicas}

-- ---- the messages of the blocks handed out

work_message : (B : List (Message ℤ)) (c : AnyCall) (s : WorkDone) → messages_after B (heard c (worked s)) ≡ B
unfolding heard messages_after
work_message B c s = cond_by (λ (e : Event ℤ). messages_after B e ≡ B) (eqb s.ticket 0) (λ q. refl) (λ q. refl)

given_message : (B : List (List ℕ)) (b : List ℕ) → opt (given_in b) (map message_in B) (λ w. map message_in B ++ (w ∷ [])) ≡ map message_in (opt (cond (eqb (get_or b 0 0) 0) none (some b)) B (λ c. B ++ (c ∷ [])))
given_message B b = go (eqb (get_or b 0 0) 0)
  where
    go : (z : Bool) → opt (cond z none (some (message_in b))) (map message_in B) (λ (w : Message ℤ). map message_in B ++ (w ∷ [])) ≡ map message_in (opt (cond z none (some b)) B (λ (c : List ℕ). B ++ (c ∷ [])))
    go true = refl
    go false = sym (map-append message_in B (b ∷ []))

messages_after_lem : (B : List (List ℕ)) (c : AnyCall) (a : Answer) → messages_after (map message_in B) (heard c a) ≡ map message_in (blocks_after B a)
unfolding heard messages_after
messages_after_lem B c (refused k) = refl
messages_after_lem B c made = refl
messages_after_lem B c (began t) = refl
messages_after_lem B c (got v) = refl
messages_after_lem B c wrote = refl
messages_after_lem B c queued = refl
messages_after_lem B c read_only = refl
messages_after_lem B c withdrew = refl
messages_after_lem B c (reported r) = refl
messages_after_lem B c (sent b) = sym (map-append message_in B (b ∷ []))
messages_after_lem B c kept = refl
messages_after_lem B c (worked s) = work_message (map message_in B) c s
messages_after_lem B c loaded = refl
messages_after_lem B c noticed = refl
messages_after_lem B c (restarted k b) = given_message B b

-- ---- the notices taken

work_notices : (l : List protocol.Notice) (c : AnyCall) (s : WorkDone) → notices_after l (heard c (worked s)) ≡ l
unfolding heard notices_after
work_notices l c s = cond_by (λ (e : Event ℤ). notices_after l e ≡ l) (eqb s.ticket 0) (λ q. refl) (λ q. refl)

-- a notice is a notice's answer alone
abbrev Noticing : AnyCall → Answer → Type 0
Noticing c a = is_taken a ≡ true → (b : Notice) × ((arguments_of c).notices ≡ b ∷ [])

notices_after_lem : (l : List Notice) (c : AnyCall) (a : Answer) → Noticing c a → notices_after (map notice_in l) (heard c a) ≡ map notice_in (taken_after l c a)
unfolding heard notices_after first_notice
notices_after_lem l c (refused k) f = refl
notices_after_lem l c made f = refl
notices_after_lem l c (began t) f = refl
notices_after_lem l c (got v) f = refl
notices_after_lem l c wrote f = refl
notices_after_lem l c queued f = refl
notices_after_lem l c read_only f = refl
notices_after_lem l c withdrew f = refl
notices_after_lem l c (reported r) f = refl
notices_after_lem l c (sent b) f = refl
notices_after_lem l c kept f = refl
notices_after_lem l c (worked s) f = work_notices (map notice_in l) c s
notices_after_lem l c loaded f = refl
notices_after_lem l c noticed f = let b = f refl in rw b.1 (sym (map-append notice_in l (b.0 ∷ [])))
notices_after_lem l c (restarted k b) f = refl

not_taken : {A : Type 0} → ◌≡◌ {A = Bool} false true → A
not_taken e = clash {b = true} refl (sym e)

pub noticing : (m : Memory) (c : AnyCall) → Noticing c (any_step m c).answer
unfolding begin_at stale_at rewrite_at insert_write read_only_at queue_at withdraw_at send_now deliver_now pass_next commit_writeset pass_out
noticing m (call begin) = begin-by (λ (o : Outcome). Noticing (call begin) o.answer) m (λ e. not_taken) (λ e. not_taken)
noticing m (call (read t i)) = read_by (λ (o : Outcome). Noticing (call (read t i)) o.answer) m t i (λ e. not_taken) (λ e. not_taken)
noticing m (call (write t i v)) = write-by (λ (o : Outcome). Noticing (call (write t i v)) o.answer) m t i v (λ e. not_taken) (λ e o. not_taken) (λ e o. not_taken) (λ k e q. not_taken)
noticing m (call (ask t)) = ask-by (λ (o : Outcome). Noticing (call (ask t)) o.answer) m t (λ e. not_taken) (λ e o. not_taken) (λ e. not_taken)
noticing m (call (withdraw t)) = withdraw-by (λ (o : Outcome). Noticing (call (withdraw t)) o.answer) m t (λ e. not_taken) (λ e. not_taken)
noticing m (call report) = unfold step report_step in not_taken
noticing m (call (send b)) = send_by (λ (o : Outcome). Noticing (call (send b)) o.answer) m b (λ e. not_taken) (λ k e q. not_taken)
noticing m (call (deliver b)) = deliver-by (λ (o : Outcome). Noticing (call (deliver b)) o.answer) m b (λ e. not_taken) (λ e. not_taken)
noticing m (call work) = work-by (λ (o : Outcome). Noticing (call work) o.answer) m (λ e k. not_taken) (λ e k. not_taken) (λ e k. not_taken) (λ e. not_taken)
noticing m (call (load l)) = load-by (λ (o : Outcome). Noticing (call (load l)) o.answer) m l (λ e. not_taken) (λ e. not_taken)
noticing m (call (notice a)) = λ e. (a, refl)
noticing m (restart size own values j l b) =
    restart-by (λ (o : Outcome). Noticing (restart size own values j l b) o.answer) m size own values j l b (λ e. not_taken) (λ e. not_taken)

-- ---- the premise

-- no answer but a deliver's is a block kept
module _ (B : List (Message ℤ)) where
  abbrev Handed : Call → Outcome → Type 0
  Handed c o = HandedOut B (heard (call c) o.answer)

  work-handed : (t : ℕ) (x y : Event ℤ) → HandedOut B x → HandedOut B y → HandedOut B (cond (eqb t 0) x y)
  work-handed t x y f g = cond_by (HandedOut B) (eqb t 0) (λ q. f) (λ q. g)

  pub handed : (m : Memory) (c : Call) → ((b : List ℕ) → c ≡ deliver b → (step m (deliver b)).answer ≡ kept → Mem (message_in b) B) → Handed c (step m c)
  unfolding heard begin_at stale_at rewrite_at insert_write read_only_at queue_at withdraw_at send_now deliver_now pass_next commit_writeset pass_out
  handed m begin f = begin-by (Handed begin) m (λ e. tt) (λ e. tt)
  handed m (read t i) f = read_by (Handed (read t i)) m t i (λ e. tt) (λ e. tt)
  handed m (write t i v) f = write-by (Handed (write t i v)) m t i v (λ e. tt) (λ e o. tt) (λ e o. tt) (λ k e q. tt)
  handed m (ask t) f = ask-by (Handed (ask t)) m t (λ e. tt) (λ e o. tt) (λ e. tt)
  handed m (withdraw t) f = withdraw-by (Handed (withdraw t)) m t (λ e. tt) (λ e. tt)
  handed m report f = unfold step report_step in tt
  handed m (send b) f = send_by (Handed (send b)) m b (λ e. tt) (λ k e q. tt)
  handed m (deliver b) f =
      deliver-by (λ (o : Outcome). (o.answer ≡ kept → Mem (message_in b) B) → Handed (deliver b) o) m b (λ e g. g refl) (λ e g. tt) (f b refl)
  handed m work f = work-by (Handed work) m (λ e k. tt) (λ e k. tt) (λ e k. work-handed (record_at (block_at_turn m) m.counts.done).ticket _ _ tt tt) (λ e. tt)
  handed m (load l) f = load-by (Handed (load l)) m l (λ e. tt) (λ e. tt)
  handed m (notice a) f = notice-by (Handed (notice a)) m a (λ e. tt) (λ e. tt)

  pub restart-handed : (m : Memory) (size own : ℕ) (values : List ℤ) (j : List ℕ) (a : List Notice) (l : List ℕ)
      → HandedOut B (heard (restart size own values j a l) (restart_step m size own values j a l).answer)
  unfolding heard
  restart-handed m size own values j a l = restart-by (λ (o : Outcome). HandedOut B (heard (restart size own values j a l) o.answer)) m size own values j a l (λ e. tt) (λ e. tt)

-- ---- a run

-- with one more call at its end
pub run_on : (before : List CallAt) (g : Members) (c : CallAt) → run g (before ++ (c ∷ [])) ≡ next (run g before) c
unfolding run
run_on [] g c = refl
run_on (b ∷ bs) g c = run_on bs (next g b) c

-- a first part of a list
module _ (n : ℕ) (start : List ℤ) (cs before rest : List CallAt) (q : cs ≡ before ++ rest) where
  pub calls-part : Calls n cs → Calls n before
  calls-part f d m = f d (subst (Mem d) (sym q) (Memᴰ.append_left rest m))

  pub premise-part : (g : Members) → PremiseFrom n start g cs → PremiseFrom n start g before
  premise-part g A = record {
    delivered = λ b k bytes h. A.delivered b k bytes (on b _ h);
    lent = λ b k size own values j a l x y h. A.lent b k size own values j a l x y (on b _ h);
  }
    where
      on : (b : List CallAt) (d : CallAt) → Comes before b d → Comes cs b d
      on b d h = (h.0 ++ rest, q ∙ ap (λ (l : List CallAt). l ++ rest) h.1 ∙ append_assoc b (d ∷ h.0) rest)

-- behind the first call
pub premise-rest : (n : ℕ) (start : List ℤ) (g : Members) (c : CallAt) (cs : List CallAt) → PremiseFrom n start g (c ∷ cs) → PremiseFrom n start (next g c) cs
unfolding run
premise-rest n start g c cs A = record {
  delivered = λ before k b h. A.delivered (c ∷ before) k b (h.0, ap (λ (l : List CallAt). c ∷ l) h.1);
  lent = λ before k size own values j a l x b h. A.lent (c ∷ before) k size own values j a l x b (h.0, ap (λ (y : List CallAt). c ∷ y) h.1);
}

-- what the premise says of a restart
abbrev pub LentOurs : ℕ → List ℤ → ℕ → Memory → Disk → List Notice → AnyCall → Type 0
LentOurs n start k m d t c = (size own : ℕ) (values : List ℤ) (j : List ℕ) (a : List Notice) (l : List ℕ) (x : ℕ) (b : List ℕ) → c ≡ restart size own values j a l
    → (restart_step m size own values j a l).answer ≡ restarted x b → (size ≡ n) × (own ≡ k) × (values ≡ start) × Lent m d j × (a ≡ t)

-- and of the first call
pub premise-first : (n : ℕ) (start : List ℤ) (g : Members) (c : CallAt) (cs : List CallAt) → PremiseFrom n start g (c ∷ cs) → LentOurs n start c.at (g.memories c.at) (g.disks c.at) (g.taken c.at) c.does
unfolding run
premise-first n start g c cs A size own values j a l x b e = A.lent [] c.at size own values j a l x b (cs, ap (λ (d : AnyCall). record { at = c.at; does = d } ∷ cs) e)

pub lent_ours : (n : ℕ) (start : List ℤ) (k : ℕ) (m : Memory) (d : Disk) (t : List Notice) (c : AnyCall) → LentOurs n start k m d t c → Ours n start k m c
lent_ours n start k m d t (call c) f = tt
lent_ours n start k m d t (restart size own values j a l) f = λ x b q. let L = f size own values j a l x b refl q in (L.0, L.1, L.2)

-- ---- the memories, with no premise

pub sound_run : (n : ℕ) (cs : List CallAt) → Calls n cs → (g : Members) → ((k : ℕ) → Sound n (g.memories k)) → (k : ℕ) → Sound n ((run g cs).memories k)
unfolding run
sound_run n [] f g S = S
sound_run n (c ∷ cs) f g S =
    sound_run n cs (λ d h. f d (Memᴰ.tail h)) (next g c)
    (update-by (λ (k : ℕ). Sound n) g.memories c.at (did g c).memory (sound_any n (g.memories c.at) (S c.at) c.does (f c (Memᴰ.head refl)).1) (λ j d. S j))

-- ---- the machine

module _ (n : ℕ) (start : List ℤ) (setting : Setting n start)
    (owes : (m : Memory) → Sound n m → (c : Call) → Owed n start m c (step m c)) where
  abbrev pub machine : Machine (setup n start)
  machine = replicas n start setting owes

  abbrev pub Good : ℕ → Memory → Type 0
  Good = SoundAt n start setting owes

  abbrev pub machine_of : (ℕ → Journal ℤ) → Members → MachineSystem (setup n start) machine
  machine_of J g = record {
    memories = g.memories;
    journals = J;
    notices = λ k. map notice_in (g.taken k);
    observed = g.observed;
    handouts = g.handouts;
    messages = map message_in g.blocks;
  }

  abbrev pub command : (c : CallAt) → signed32 (arguments_of c.does).value ≡ true → CommandAt (setup n start) machine
  command c v = record { at = c.at; here = tt; command = record { call = c.does; value = v } }

  unfoldable pub commands : (cs : List CallAt) → Calls n cs → List (CommandAt (setup n start) machine)
  commands [] f = []
  commands (c ∷ cs) f = command c (f c (Memᴰ.head refl)).1 ∷ commands cs (λ d h. f d (Memᴰ.tail h))

  -- of a first part, whatever says that its values fit
  pub commands-part : (before rest : List CallAt) (f : Calls n (before ++ rest)) (h : Calls n before)
      → (more : List (CommandAt (setup n start) machine)) × (commands (before ++ rest) f ≡ commands before h ++ more)
  unfolding commands
  commands-part [] rest f h = (commands rest f, refl)
  commands-part (c ∷ before) rest f h =
      let p = commands-part before rest (λ d q. f d (Memᴰ.tail q)) (λ d q. h d (Memᴰ.tail q)) in
      (p.0, λ i. command c (Bool-set _ _ (f c (Memᴰ.head refl)).1 (h c (Memᴰ.head refl)).1 i) ∷ p.1 i)

  -- the model's journal after a call
  abbrev pub journal_next : Journal ℤ → ℕ → Memory → AnyCall → Journal ℤ
  journal_next J k m c = let o = any_step m c in system.journal_next (setup n start) J (view_at k m) (Rattle.protocol.specs.Replica.outcome (view_at k o.memory) (heard c o.answer))

  abbrev pub journals_next : (ℕ → Journal ℤ) → Members → CallAt → ℕ → Journal ℤ
  journals_next J g c = update J c.at (journal_next (J c.at) c.at (g.memories c.at) c.does)

  unfoldable pub journals_run : (ℕ → Journal ℤ) → Members → List CallAt → ℕ → Journal ℤ
  journals_run J g [] = J
  journals_run J g (c ∷ cs) = journals_run (journals_next J g c) (next g c) cs

  pub one : (J : ℕ → Journal ℤ) (g : Members) (c : CallAt) (h : signed32 (arguments_of c.does).value ≡ true)
      → after_command (setup n start) machine (machine_of J g) (command c h) ≡ machine_of (journals_next J g c) (next g c)
  one J g c h = λ i. record {
    memories = (next g c).memories;
    journals = journals_next J g c;
    notices = λ j. taken j (eqb j c.at) i;
    observed = (next g c).observed;
    handouts = (next g c).handouts;
    messages = messages_after_lem g.blocks c.does (did g c).answer i;
  }
    where
      taken : (j : ℕ) (b : Bool) → cond b (notices_after (map notice_in (g.taken c.at)) (heard c.does (did g c).answer)) (map notice_in (g.taken j))
          ≡ map notice_in (cond b (taken_after (g.taken c.at) c.does (did g c).answer) (g.taken j))
      taken j true = notices_after_lem (g.taken c.at) c.does (did g c).answer (noticing (g.memories c.at) c.does)
      taken j false = refl

  pub runs : (cs : List CallAt) (f : Calls n cs) (J : ℕ → Journal ℤ) (g : Members) → run_commands (setup n start) machine (machine_of J g) (commands cs f) ≡ machine_of (journals_run J g cs) (run g cs)
  unfolding run_commands commands run journals_run
  runs [] f J g = refl
  runs (c ∷ cs) f J g =
      ap (λ (s : MachineSystem (setup n start) machine). run_commands (setup n start) machine s (commands cs (λ d h. f d (Memᴰ.tail h)))) (one J g c (f c (Memᴰ.head refl)).1)
      ∙ runs cs (λ d h. f d (Memᴰ.tail h)) (journals_next J g c) (next g c)

  -- ---- the memories and the disks, before each call

  pub record Kept (J : ℕ → Journal ℤ) (g : Members) : Type 0 where
    pub sound : (k : ℕ) → Good k (g.memories k)
    -- a replica's; a station has none
    pub disks : (k : ℕ) → k < n → OnDisk n (g.disks k).journal (J k).kept

  pub fresh_kept : Kept (λ k. journal [] 0) (fresh n start)
  fresh_kept = record { sound = made-sound n start setting owes; disks = λ k h. no_block n }

  -- replica k's number is its own
  pub own_is : (k : ℕ) (m : Memory) → Good k m → k < n → m.group.own ≡ k
  own_is k m s below = go s.stands
    where
      go : Standing n start setting owes k m → m.group.own ≡ k
      go (as-replica h q) = q
      go (as-station h q) = absurd (let w : ⊥ = omega arith in w)

  pub disk-next : (l : List ℕ) (J : Journal ℤ) → OnDisk n l J.kept → (k : ℕ) (m : Memory) → Good k m → k < n → (c : AnyCall) → Ours n start k m c
      → OnDisk n (group.journal_after l c (any_step m c).answer) (journal_next J k m c).kept
  disk-next l J H k m s h (call c) f = rw (view-own k m (own_is k m s h)) (disk-call n l J H start m s.sound c _)
  disk-next l J H k m s h (restart size own values j a b) f = rw (view-own k m (own_is k m s h)) (disk-restart n l J H start m size own values j a b _ (λ x y q. (f x y q).0))

  pub kept_next : (J : ℕ → Journal ℤ) (g : Members) → Kept J g → (c : CallAt) → signed32 (arguments_of c.does).value ≡ true → Ours n start c.at (g.memories c.at) c.does
      → Kept (journals_next J g c) (next g c)
  kept_next J g K c v f = record {
    sound = update-by Good g.memories c.at (did g c).memory
        (stays n start setting owes c.at (g.memories c.at) c.does v (K.sound c.at) f) (λ j d. K.sound j);
    disks = λ k h. by k h (eqb k c.at) refl;
  }
    where
      by : (k : ℕ) → k < n → (b : Bool) → eqb k c.at ≡ b → OnDisk n (cond b (disk_after (g.disks c.at) (g.memories c.at) c.does (did g c).answer) (g.disks k)).journal
          (cond b (journal_next (J c.at) c.at (g.memories c.at) c.does) (J k)).kept
      by k h true e =
          let i : c.at < n = rw (eqb-true k c.at e) at h in
          disk-next (g.disks c.at).journal (J c.at) (K.disks c.at i) c.at (g.memories c.at) (K.sound c.at) i c.does f
      by k h false e = K.disks k h

  pub kept_run : (cs : List CallAt) → Calls n cs → (J : ℕ → Journal ℤ) (g : Members) → PremiseFrom n start g cs → Kept J g → Kept (journals_run J g cs) (run g cs)
  unfolding run journals_run
  kept_run [] f J g A K = K
  kept_run (c ∷ cs) f J g A K =
      kept_run cs (λ d h. f d (Memᴰ.tail h)) (journals_next J g c) (next g c) (premise-rest n start g c cs A)
      (kept_next J g K c (f c (Memᴰ.head refl)).1 (lent_ours n start c.at (g.memories c.at) (g.disks c.at) (g.taken c.at) c.does (premise-first n start g c cs A)))

  -- ---- the premise

  pub handed-at : (B : List (List ℕ)) (m : Memory) (c : AnyCall) → ((b : List ℕ) → c ≡ call (deliver b) → (step m (deliver b)).answer ≡ kept → Mem b B)
      → HandedOut (map message_in B) (heard c (any_step m c).answer)
  handed-at B m (call c) f = handed (map message_in B) m c (λ b e q. mem-map message_in B b (f b (ap call e) q))
  handed-at B m (restart size own values j a l) f = restart-handed (map message_in B) m size own values j a l

  -- a call of document 01 is no restart
  not-meant : (c : Call) (l : List (Message ℤ)) (a : List protocol.Notice) → meant c ≡ Rattle.protocol.specs.System.Call.restart l a → ⊥
  not-meant begin l a e = let z : ◌≡◌ {A = ℕ} 0 1 = cc in omega arith
  not-meant (read t i) l a e = let z : ◌≡◌ {A = ℕ} 0 1 = cc in omega arith
  not-meant (write t i v) l a e = let z : ◌≡◌ {A = ℕ} 0 1 = cc in omega arith
  not-meant (ask t) l a e = let z : ◌≡◌ {A = ℕ} 0 1 = cc in omega arith
  not-meant (withdraw t) l a e = let z : ◌≡◌ {A = ℕ} 0 1 = cc in omega arith
  not-meant report l a e = let z : ◌≡◌ {A = ℕ} 0 1 = cc in omega arith
  not-meant (send b) l a e = let z : ◌≡◌ {A = ℕ} 0 1 = cc in omega arith
  not-meant (deliver b) l a e = let z : ◌≡◌ {A = ℕ} 0 1 = cc in omega arith
  not-meant work l a e = let z : ◌≡◌ {A = ℕ} 0 1 = cc in omega arith
  not-meant (load c) l a e = let z : ◌≡◌ {A = ℕ} 0 1 = cc in omega arith
  not-meant (notice c) l a e = let z : ◌≡◌ {A = ℕ} 0 1 = cc in omega arith

  -- the number of an accepted restart is below its N
  among : (m : Memory) (size own : ℕ) (values : List ℤ) (j : List ℕ) (a : List Notice) (l : List ℕ) (x : ℕ) (b : List ℕ) → (restart_step m size own values j a l).answer ≡ restarted x b → own < size
  among m size own values j a l x b = restart-by (λ (o : Outcome). o.answer ≡ restarted x b → own < size) m size own values j a l
      (λ e q. (restart_passed m size own values l e).below) (λ e q. absurd (let z : ◌≡◌ {A = ℕ} 0 1 = cc in let w : ⊥ = omega arith in w))

  -- what is heard of a restart says that it was accepted
  accepted : (m : Memory) (size own : ℕ) (values : List ℤ) (j : List ℕ) (a : List Notice) (l : List ℕ) (held : List (Message ℤ)) (told : List protocol.Notice) (given : Option (Message ℤ))
      → heard (restart size own values j a l) (restart_step m size own values j a l).answer ≡ Event.restarted held told given
      → (x : ℕ) × (b : List ℕ) × ((restart_step m size own values j a l).answer ≡ restarted x b)
  unfolding heard
  accepted m size own values j a l held told given =
      restart-by (λ (o : Outcome). heard (restart size own values j a l) o.answer ≡ Event.restarted held told given → (x : ℕ) × (b : List ℕ) × (o.answer ≡ restarted x b)) m size own values j a l
      (λ e h. (_, _, refl)) (λ e h. let z : ◌≡◌ {A = ℕ} 0 1 = cc in absurd (let w : ⊥ = omega arith in w))

  pub lent_at : (J : Journal ℤ) (d : Disk) (t : List Notice) (k : ℕ) → (k < n → OnDisk n d.journal J.kept) → (k < n → 512 * J.safe ≤ d.floor) → (m : Memory) → Good k m
      → (c : AnyCall) (v : signed32 (arguments_of c).value ≡ true) → LentOurs n start k m d t c → CommandLent (setup n start) machine J (map notice_in t) k m (record { call = c; value = v })
  lent_at J d t k H low m s (call c) v f lent held notices told given q e =
      absurd (not-meant c lent notices (let i : meant c ≡ Rattle.protocol.specs.System.Call.restart lent notices = cc in i))
  lent_at J d t k H low m s (restart size own values j a l) v f lent held notices told given q e =
      let w = accepted m size own values j a l held told given e in
      let L = f size own values j a l w.0 w.1 refl w.2 in
      let i : lent_messages size j ≡ lent = cc in
      let z : map notice_in a ≡ notices = cc in
      let h : k < n = omega (arith, among m size own values j a l w.0 w.1 w.2, L.0, L.1) in
      let C = lent_cut n d.journal J (H h) start m s.sound d.floor (low h) j L.3 in (
        (record { call = call L.3.ended; value = L.3.value }, tt, rw (view-own k m (own_is k m s h)) (subst (Cut J _) (ap (λ (z : ℕ). lent_messages z j) (sym L.0) ∙ i) C)),
        sym z ∙ ap (map notice_in) L.4,
      )

  -- ---- what is claimed of a call

  -- with the group g before it
  abbrev pub Said : List (Placed ℤ) → Members → CallAt → Type 0
  Said F g c = CommandClaim (setup n start) F g.handouts (g.observed c.at) c.at (some (meant_by c.does)) (heard c.does (did g c).answer)

  unfoldable AllSaid : List (Placed ℤ) → Members → List CallAt → Type 0
  AllSaid F g [] = Unit
  AllSaid F g (c ∷ cs) = Said F g c × AllSaid F (next g c) cs

  all_said : (F : List (Placed ℤ)) (cs : List CallAt) (f : Calls n cs) (J : ℕ → Journal ℤ) (g : Members) → CommandClaims (setup n start) machine F (machine_of J g) (commands cs f) → AllSaid F g cs
  unfolding AllSaid CommandClaims commands
  all_said F [] f J g h = tt
  all_said F (c ∷ cs) f J g h = (
    h.0,
    all_said F cs (λ d q. f d (Memᴰ.tail q)) (journals_next J g c) (next g c)
        (subst (λ (s : MachineSystem (setup n start) machine). CommandClaims (setup n start) machine F s (commands cs (λ d q. f d (Memᴰ.tail q))))
        (one J g c (f c (Memᴰ.head refl)).1) h.1),
  )

  said_of : (F : List (Placed ℤ)) (before : List CallAt) (c : CallAt) (after : List CallAt) (g : Members) → AllSaid F g (before ++ (c ∷ after)) → Said F (run g before) c
  unfolding AllSaid run
  said_of F [] c after g h = h.0
  said_of F (b ∷ before) c after g h = said_of F before c after (next g b) h.1

  pub said : (F : List (Placed ℤ)) (cs : List CallAt) (f : Calls n cs) (J : ℕ → Journal ℤ) (g : Members) → CommandClaims (setup n start) machine F (machine_of J g) (commands cs f)
      → (before : List CallAt) (c : CallAt) → Comes cs before c → Said F (run g before) c
  said F cs f J g h before c e = said_of F before c e.0 g (subst (λ (l : List CallAt). AllSaid F g l) e.1 (all_said F cs f J g h))
