-- What the wrong replicas of document 01 get wrong, and what a journal and the observer keep, as small runs of a group of three: every edit computes them anew. Values are numbers.
use Rattle.std.specs.Prelude.{ℕ, ◌%◌, ◌≡◌, List, [], ◌∷◌, ◌++◌, map, eqb}
use Rattle.std.proofs.Math.Option.{some}
use Rattle.protocol.specs.Writesets.{new_write, Writeset, Message}
use Rattle.protocol.specs.Replica.{Setup, Event}
use Rattle.protocol.specs.Replica.Event.{refused, began, got, wrote, requested, reported, handed_out, accepted, passed, committed, restarted, loaded}
use Rattle.protocol.specs.Journal.{journal}
use Rattle.protocol.specs.Observer.{TxnId, Placed}
use Rattle.protocol.specs.System.{Call, begin, read, write, ask, report, send, deliver, work, load, restart, System, CallAt, step, call, run, fresh}

-- three replicas, four items, all 0
abbrev pub three : Setup ℕ
three = record {
  size = 3;
  slot_limit = 9;
  ticket_limit = 9;
  items = 4;
  owner = λ s. s % 3;
  place = λ s. s % 3;
  same_message = λ a b. eqb a.slot b.slot;
  start_values = 0 ∷ 0 ∷ 0 ∷ 0 ∷ [];
  blank = 0;
}

abbrev pub start : System ℕ
start = fresh three

-- calls at one replica
abbrev pub at : ℕ → List (Call ℕ) → List (CallAt ℕ)
at k cs = map (λ c. record { at = k; does = c }) cs

-- what the calls of a list give, one after the other
unfoldable pub events : System ℕ → List (CallAt ℕ) → List (Event ℕ)
events w [] = []
events w (c ∷ cs) = (step three (w.replicas c.at) c.does).event ∷ events (call three w c.at c.does) cs

-- a writeset with one write
abbrev pub writeset : ℕ → ℕ → ℕ → Writeset ℕ
writeset t i v = record { ticket = t; writes = new_write i v ∷ [] }

-- the first two slots: ticket 2 sets item 1, then ticket 1 item 0; a *next*
abbrev pub two_then_one : Message ℕ
two_then_one = record { slot = 0; sender = 0; writesets = writeset 2 1 8 ∷ writeset 1 0 7 ∷ [] }

abbrev pub nothing : Message ℕ
nothing = record { slot = 1; sender = 1; writesets = [] }

-- replica 0 sends two transactions and goes on; its block is applied one by one, and another write of item 0 is refused, at first by the lock, then as stale
abbrev pub sending : List (CallAt ℕ)
sending = at 0 (begin ∷ begin ∷ begin ∷ write 1 0 7 ∷ write 2 1 8 ∷ ask 2 ∷ ask 1 ∷ load ∷ send ∷ write 3 0 9 ∷ deliver two_then_one ∷ begin ∷ read 4 1
    ∷ work ∷ report ∷ work ∷ report ∷ read 4 1 ∷ write 3 0 9 ∷ write 4 2 5 ∷ ask 4 ∷ [])

-- replica 1 has asked to set item 0 too, and is sent that block; then it sends
abbrev pub taking : List (CallAt ℕ)
taking = at 1 (begin ∷ write 1 0 9 ∷ ask 1 ∷ begin ∷ deliver two_then_one ∷ work ∷ work ∷ read 2 0 ∷ send ∷ [])

-- power is cut at replica 0, with ticket 4 asked
abbrev pub restarting : List (CallAt ℕ)
restarting = at 0 (restart (two_then_one ∷ []) [] ∷ report ∷ begin ∷ read 3 0 ∷ [])

abbrev pub after : List (CallAt ℕ) → System ℕ
after cs = run three start cs

abbrev pub txn : ℕ → ℕ → TxnId
txn k t = record { sender = k; ticket = t }

abbrev pub placed : ℕ → ℕ → ℕ → ℕ → Placed ℕ
placed k t i v = record { sender = k; ticket = t; start = 0; writes = new_write i v ∷ [] }

pub record RightRuns : Type 0 where
  pub sends : events start sending
      ≡ began 1 ∷ began 2 ∷ began 3 ∷ wrote 1 0 7 ∷ wrote 2 1 8 ∷ requested 2 ∷ requested 1 ∷ loaded ∷ handed_out two_then_one
      ∷ refused 8 ∷ accepted two_then_one ∷ began 4 ∷ got 4 1 0
      ∷ committed 0 2 [] ∷ reported 0 1 ∷ committed 0 1 [] ∷ reported 1 2 ∷ got 4 1 0 ∷ refused 9 ∷ wrote 4 2 5 ∷ requested 4 ∷ []
  -- the asked transaction is aborted by the second writeset, and the other reads what it found at its begin
  pub takes : events (after sending) taking
      ≡ began 1 ∷ wrote 1 0 9 ∷ requested 1 ∷ began 2 ∷ accepted two_then_one ∷ committed 0 2 [] ∷ committed 0 1 (1 ∷ []) ∷ got 2 0 0 ∷ handed_out nothing ∷ []
  -- the own block is given back, and the tickets go on behind its highest
  pub restarts : events (after (sending ++ taking)) restarting ≡ restarted (two_then_one ∷ []) [] (some two_then_one) ∷ reported 1 2 ∷ began 3 ∷ got 3 0 7 ∷ []
  -- the stamps are those of the writesets
  pub stamps : map ((after (sending ++ restarting)).replicas 0).store.stamps (0 ∷ 1 ∷ 2 ∷ []) ≡ 2 ∷ 1 ∷ 0 ∷ []
  -- the journal of replica 1: another's block, then its own
  pub journals : (after (sending ++ taking)).journals 1 ≡ journal (two_then_one ∷ nothing ∷ []) 2
  -- what the observer hears: the two writesets handed out, and those committed, also after the restart, which empties the line
  pub handed : (after (sending ++ taking)).handouts
      ≡ record { slot = 0; sender = 0; writesets = placed 0 2 1 8 ∷ placed 0 1 0 7 ∷ [] } ∷ record { slot = 1; sender = 1; writesets = [] } ∷ []
  pub line : ((after sending).observed 0).pending ≡ 4 ∷ []
  pub emptied : ((after (sending ++ restarting)).observed 0).pending ≡ []
  pub heard : ((after (sending ++ restarting)).observed 0).commits ≡ txn 0 2 ∷ txn 0 1 ∷ []
  -- at replica 2 the *next* comes early, and waits for its turn
  pub waits : events (after (sending ++ taking)) (at 2 (deliver nothing ∷ work ∷ deliver two_then_one ∷ work ∷ work ∷ work ∷ report ∷ []))
      ≡ accepted nothing ∷ refused 21 ∷ accepted two_then_one ∷ committed 0 2 [] ∷ committed 0 1 [] ∷ passed 1 [] ∷ reported 2 2 ∷ []
