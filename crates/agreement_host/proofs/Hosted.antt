-- A host's calls are the engine's: the table keeps its six rows. Assumes nothing.
use Prim.Native.Nat.{ℕ, ◌%◌}
use mathlib.Core.Path.{◌≡◌, refl, sym, ap, ◌∙◌}
use mathlib.Core.Bool.{Bool, true, false, cond}
use mathlib.Core.List.Memᴰ
use mathlib.Core.List.{List, [], ◌∷◌, ◌++◌, map}
use native.Mathlib.Omega.{arith}
use lib.Dec.{eqb}
use lib.IntN.{ℤ}
use lib.ListN.{length}
use Rattle.memory.specs.Memory.{Memory, is_station}
use Rattle.memory.specs.Notices.{Notice}
use Rattle.engine.specs.Answers.{Outcome, outcome, unless_station}
use Rattle.engine.specs.Answers.Answer.{refused}
use Rattle.engine.specs.Shape.{Shape}
use Rattle.engine.specs.Make.{Setting, made_memory, make_step}
use Rattle.engine.specs.Moves.{send_step, work_step}
use Rattle.engine.specs.Client.{begin_step, read_step, write_step, ask_step, withdraw_step, report_step}
use Rattle.engine.specs.Calls.{Call, step, after}
use Rattle.engine.specs.Calls.Call.{begin, read, write, ask, withdraw, report, send, deliver, work, load, notice}
use Rattle.engine.specs.Restart.{restart_step}
use Rattle.engine.specs.Station.{station_memory, station_step}
use Rattle.engine.specs.History.{AnyCall, any_step, after_all}
use Rattle.engine.specs.History.AnyCall.{call, restart}
use Rattle.engine.proofs.Tests.{cond_by}
use Rattle.engine.proofs.ShapeMade.{shape_station}
use Rattle.engine.proofs.Shapes.{shapes}
use Rattle.engine.proofs.Reached.{Reached, made_reached, any_reached}
use Rattle.engine.proofs.Stations.{stations}
use Rattle.call_reply.specs.Called.{called}
use Rattle.call_reply.specs.Notices.{notice_of, notices_in, restart_lent}
use Rattle.call_reply.proofs.CalledLaws.{called-six}
use Rattle.call_reply.proofs.NoticeLaws.{lent-threes, lent_other}
use Rattle.protocol.proofs.ListLaws.{snoc-all}
use Rattle.agreement.specs.Group.{Members, CallAt, next_by, fresh, next, run, Calls}
use Rattle.agreement.proofs.Runs.{run_on}
use Rattle.agreement.proofs.Handed.{six_rows}
use Rattle.agreement_host.specs.Hosted.{host_step, numbers_of, host_any, host_after, host_run, Hosted}

-- at a station, whatever the table
station_writes : (m : Memory) → is_station m ≡ true → (ticket item : ℕ) (value : ℤ) → host_step m (write ticket item value) ≡ outcome (refused 25) m
station_writes m h t i v = rw h refl

station-sends : (m : Memory) → is_station m ≡ true → (block : List ℕ) → host_step m (send block) ≡ outcome (refused 25) m
station-sends m h b = rw h refl

-- ---- notices

-- of its name
noticed : (m : Memory) (k : ℕ) (out : Bool) (s : ℕ) → host_step m (notice (record { about = k; out = out; slot = s })) ≡ step m (notice (record { about = k; out = out; slot = s }))
unfolding step
noticed m k true s = refl
noticed m k false s = refl

-- in numbers and back
notices_numbers : (l : List Notice) → notices_in (numbers_of l) ≡ l
unfolding notices_in numbers_of
notices_numbers [] = refl
notices_numbers (a ∷ l) = λ i. by a.about a.out a.slot i ∷ notices_numbers l i
  where
    by : (k : ℕ) (out : Bool) (s : ℕ) → notice_of k (cond out 1 0) s ≡ record { about = k; out = out; slot = s }
    by k true s = refl
    by k false s = refl

threes : (l : List Notice) → length (numbers_of l) % 3 ≡ 0
unfolding numbers_of
threes [] = refl
threes (a ∷ l) = let h = threes l in omega (arith, h)

module _ (m : Memory) (n own : ℕ) (values : List ℤ) (journal block : List ℕ) where
  lent : (l : List Notice) → restart_lent m n own values journal (numbers_of l) block ≡ restart_step m n own values journal l block
  lent l = lent-threes m n own values journal (numbers_of l) block (threes l) ∙ ap (λ (a : List Notice). restart_step m n own values journal a block) (notices_numbers l)

  -- the table's length is tested first; the memory is left by either refusal
  restarts : (numbers : List ℕ) → length numbers % 3 ≡ 0
      → called (λ x. restart_lent x n own values journal numbers block) m ≡ host_any m (restart n own values journal (notices_in numbers) block)
  unfolding called
  restarts numbers h = rw (lent-threes m n own values journal numbers block h, lent (notices_in numbers))

  restarts-not : (numbers : List ℕ) → (length numbers % 3 ≡ 0 → ⊥) → called (λ x. restart_lent x n own values journal numbers block) m ≡ outcome (refused 1) m
  unfolding called
  restarts-not numbers h =
      rw (lent_other m n own values journal numbers block h)
      (cond_by (λ (o : Outcome). o ≡ outcome (refused 1) m) (eqb (length m.txns.table) 6) (λ e. refl) (λ e. refl))

-- ---- with six rows

host_six : (m : Memory) → length m.txns.table ≡ 6 → (c : Call) → host_step m c ≡ step m c
unfolding step
host_six m six begin = called-six begin_step m six
host_six m six (read t i) = called-six (λ x. read_step x t i) m six
host_six m six (write t i v) = ap (unless_station m) (called-six (λ x. write_step x t i v) m six)
host_six m six (ask t) = called-six (λ x. ask_step x t) m six
host_six m six (withdraw t) = called-six (λ x. withdraw_step x t) m six
host_six m six report = called-six report_step m six
host_six m six (send b) = ap (unless_station m) (called-six (λ x. send_step x b) m six)
host_six m six (deliver b) = refl
host_six m six work = called-six work_step m six
host_six m six (load l) = refl
host_six m six (notice a) = noticed m a.about a.out a.slot

any_six : (m : Memory) → length m.txns.table ≡ 6 → (c : AnyCall) → host_any m c ≡ any_step m c
any_six m six (call c) = host_six m six c
any_six m six (restart n own values journal notices block) =
    called-six (λ x. restart_lent x n own values journal (numbers_of notices) block) m six ∙ lent m n own values journal block notices

list_of : (cs : List AnyCall) (m : Memory) → Reached m → host_after m cs ≡ after_all m cs
unfolding host_after after_all
list_of [] m R = refl
list_of (c ∷ cs) m R =
    ap (λ (o : Outcome). host_after o.memory cs) (any_six m R.shape.lengths.table c)
    ∙ list_of cs (any_step m c).memory (any_reached m R c)

station_list : {over : ℕ} (cs : List Call) (m : Memory) → Shape over m → host_after m (map call cs) ≡ after m cs
unfolding host_after after
station_list [] m s = refl
station_list (c ∷ cs) m s =
    ap (λ (o : Outcome). host_after o.memory (map call cs)) (host_six m s.lengths.table c)
    ∙ station_list cs (step m c).memory (shapes.each m s c)

module _ (n : ℕ) (start : List ℤ) (setting : Setting n start) where
  -- behind a first part of the list
  group-of : (cs before : List CallAt) → Calls n before → Calls n cs → host_run (run (fresh n start) before) cs ≡ run (run (fresh n start) before) cs
  unfolding host_run run
  group-of [] before b f = refl
  group-of (c ∷ cs) before b f =
      let g = run (fresh n start) before in
      let on : run (fresh n start) (before ++ (c ∷ [])) ≡ next g c = run_on before (fresh n start) c in
      let here = f c (Memᴰ.head refl) in
      ap (λ (o : Outcome). host_run (next_by o g c) cs) (any_six (g.memories c.at) (six_rows.tables n start setting before b c.at) c.does)
      ∙ ap (λ (x : Members). host_run x cs) (sym on)
      ∙ group-of cs (before ++ (c ∷ [])) (snoc-all _ before c b here) (λ d q. f d (Memᴰ.tail q))
      ∙ ap (λ (x : Members). run x cs) on

  group : (cs : List CallAt) → Calls n cs → host_run (fresh n start) cs ≡ run (fresh n start) cs
  unfolding run
  group cs f = group-of cs [] (λ c q. absurd (Memᴰ.not-nil q)) f

pub hosted : Hosted
hosted = record {
  makes = λ m n own values six. called-six (λ x. make_step x n own values) m six;
  station-makes = λ m n values six. called-six (λ x. station_step x n values) m six;
  station_writes = station_writes;
  station-sends = station-sends;
  restarts = λ m n own values journal numbers block. restarts m n own values journal block numbers;
  restarts-not = λ m n own values journal numbers block. restarts-not m n own values journal block numbers;
  steps = λ n own values setting cs c. any_six _ (shapes.all n own values setting cs).lengths.table c;
  lists = λ n own values setting cs. list_of cs (made_memory n own values) (made_reached n own values setting);
  station-steps = λ n values setting cs c. host_six _ (stations.shape n values setting cs).lengths.table c;
  station-lists = λ n values setting cs. station_list cs (station_memory n values) (shape_station n values setting);
  groups = group;
}
