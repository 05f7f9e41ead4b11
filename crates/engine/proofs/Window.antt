-- What each call does to the window. Assumes nothing.
use Prim.Native.Nat.{ℕ}
use mathlib.Core.Path.{◌≡◌, refl, ap}
use mathlib.Core.Bool.{Bool, true, false, cond}
use mathlib.Core.List.{List, []}
use lib.Dec.{eqb}
use lib.ListN.{length, get_or}
use Rattle.block.specs.Bytes.{block_of}
use Rattle.memory.specs.Memory.{Blocks, Memory}
use Rattle.memory.specs.Window.{kept_block}
use Rattle.engine.specs.Answers.{WorkDone, Answer, Outcome}
use Rattle.engine.specs.Answers.Answer.{refused, made, began, got, wrote, queued, read_only, withdrew, reported, sent, kept, worked, loaded, noticed, restarted}
use Rattle.engine.specs.Moves.{block_at_turn, work_refusal, window_with, is_last, pass_next, commit_writeset, next_at_turn, pass_out}
use Rattle.engine.specs.Calls.{Call, step}
use Rattle.engine.specs.Calls.Call.{begin, read, write, ask, withdraw, report, send, deliver, work, load, notice}
use Rattle.engine.specs.Window.{journaled_block, WindowClaims}
use Rattle.engine.proofs.Tests.{bool_by}
use Rattle.engine.proofs.Steps.{work-by}
use Rattle.engine.proofs.Passed.{work_lent, work_long}
use Rattle.engine.proofs.RingLaws.{kept_same}
use Rattle.engine.proofs.ShapeSend.{length-next}
use Rattle.engine.proofs.Frames.{frames}

-- ---- work

-- of an answer that is no work's
abbrev nothing : WorkDone
nothing = record { sender = 0; ticket = 0; moved = false; aborted = []; append = [] }

-- what a work did
abbrev done_in : Answer → WorkDone
done_in (worked s) = s
done_in (refused n) = nothing
done_in made = nothing
done_in (began t) = nothing
done_in (got v) = nothing
done_in wrote = nothing
done_in queued = nothing
done_in read_only = nothing
done_in withdrew = nothing
done_in (reported r) = nothing
done_in (sent b) = nothing
done_in kept = nothing
done_in loaded = nothing
done_in noticed = nothing
done_in (restarted c b) = nothing

abbrev Moves : Memory → Outcome → Type 0
Moves m o = o.memory.blocks.window ≡ cond (done_in o.answer).moved (window_with m (journaled_block m)) m.blocks.window

moves : (m : Memory) → Moves m (step m work)
unfolding pass_next commit_writeset pass_out
moves m = work-by (Moves m) m (λ e u. rw u refl) (λ a k. rw a.live refl) (λ a k. bool_by (is_last m) (λ l. rw (l, a.live) refl) (λ l. rw l refl)) (λ z. refl)

kept_at : (m : Memory) → work_refusal m ≡ 0 → (b : List ℕ) → length b ≡ 512 → kept_block (window_with m b) m.turn.slot ≡ b
kept_at m e b h = kept_same m.blocks.window (work_lent m e).window m.turn.slot b h

abbrev Appends : Memory → List ℕ → List ℕ → Type 0
Appends m window bytes = (bytes ≡ [] → ⊥) → kept_block window m.turn.slot ≡ bytes

-- nothing for an own block
others-kept : (m : Memory) (own : Bool) (b w : List ℕ) → kept_block w m.turn.slot ≡ b → Appends m w (cond own [] b)
others-kept m true b w e n = absurd (n refl)
others-kept m false b w e n = e

appends : (m : Memory) → Appends m (step m work).memory.blocks.window (done_in (step m work).answer).append
unfolding pass_next commit_writeset pass_out
appends m =
    work-by (λ (o : Outcome). Appends m o.memory.blocks.window (done_in o.answer).append) m
    (λ e u n. kept_at m e (block_of (next_at_turn m)) (length-next m))
    (λ a k. others-kept m (eqb (get_or (block_at_turn m) 1 0) m.group.own) (block_at_turn m) _ (kept_at m a.passed (block_at_turn m) (work_long m a)))
    (λ a k. bool_by (is_last m)
    (λ l. rw l (others-kept m (eqb (get_or (block_at_turn m) 1 0) m.group.own) (block_at_turn m) _ (kept_at m a.passed (block_at_turn m) (work_long m a))))
    (λ l. rw l (λ n. absurd (n refl))))
    (λ z n. absurd (n refl))

-- ---- the other calls

abbrev window_of : Memory → List ℕ
window_of m = m.blocks.window

stays : (m : Memory) (c : Call) → (c ≡ work → ⊥) → window_of (step m c).memory ≡ window_of m
stays m begin d = ap (λ (b : Blocks). b.window) (frames.begins m).kept.blocks
stays m (read t i) d = ap window_of (frames.reads m t i)
stays m (write t i v) d = ap (λ (b : Blocks). b.window) (frames.writes m t i v).kept.blocks
stays m (ask t) d = ap (λ (b : Blocks). b.window) (frames.asks m t).kept.blocks
stays m (withdraw t) d = ap (λ (b : Blocks). b.window) (frames.withdraws m t).kept.blocks
stays m report d = ap window_of (frames.reports m)
stays m (send b) d = (frames.sends m b).window
stays m (deliver b) d = (frames.delivers m b).window
stays m work d = absurd (d refl)
stays m (load l) d = ap window_of (frames.loads m l)
stays m (notice a) d = ap window_of (frames.notices m a).rest

pub window_claims : WindowClaims
window_claims = record {
  works = λ m s e. rw e at (moves m);
  others = stays;
  appends = λ m s e. rw e at (appends m);
}
