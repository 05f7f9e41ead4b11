-- Blocks read back, and six rows: what holds with no premise. Assumes nothing.
use Prim.Native.Nat.{ℕ}
use mathlib.Core.Path.{◌≡◌, refl, sym, subst}
use mathlib.Core.Bool.{cond, false, not, ◌&&◌}
use mathlib.Core.Logic.{◌⊎◌, inl, inr}
use mathlib.Core.List.Memᴰ
use mathlib.Core.List.{List, [], ◌∷◌}
use native.Mathlib.Omega.{arith}
use lib.IntN.{ℤ}
use lib.ListN.{replicate}
use Rattle.block.specs.Bytes.{block_of}
use Rattle.block.specs.Form.{message_of}
use Rattle.block.specs.Answers.{block_refusal, header_of}
use Rattle.block.specs.Theorems.{AreBytes}
use Rattle.block.proofs.Theorems.{theorems}
use Rattle.memory.specs.Memory.{Memory}
use Rattle.memory.specs.Notices.{Notice, puts_out}
use Rattle.engine.specs.Make.{Setting}
use Rattle.engine.specs.Answers.{Outcome}
use Rattle.engine.specs.Answers.Answer.{sent, kept, restarted}
use Rattle.engine.specs.Moves.{message_for, send_now}
use Rattle.engine.specs.Calls.{step}
use Rattle.engine.specs.Calls.Call.{send, deliver}
use Rattle.engine.specs.Restart.{is_from, blocks_in, last_own, restart_step}
use Rattle.engine.proofs.Tests.{cond_by}
use Rattle.engine.proofs.Steps.{send_by, deliver-by, restart-by}
use Rattle.engine.proofs.Passed.{deliver_passed}
use Rattle.engine.proofs.RestartLaws.{AllGood, good_taken, reads_good}
use Rattle.agreement.specs.Group.{CallAt, fresh, run, Calls}
use Rattle.agreement.specs.Handed.{ReadsBack}
use Rattle.agreement.specs.SixRows.{SixRows}
use Rattle.agreement.proofs.View.{Sound}
use Rattle.agreement.proofs.Sendable.{sendable}
use Rattle.agreement.proofs.Replicas.{made-sound}
use Rattle.agreement.proofs.Runs.{sound_run}
use Rattle.agreement.proofs.Theorem.{owes}

-- the memory of each replica and station after any list of calls
sound_after : (n : ℕ) (start : List ℤ) → Setting n start → (cs : List CallAt) → Calls n cs → (k : ℕ) → Sound n ((run (fresh n start) cs).memories k)
sound_after n start setting cs f = sound_run n cs f (fresh n start) (λ k. (made-sound n start setting (owes n start) k).sound)

pub six_rows : SixRows
six_rows = record { tables = λ n start setting cs f k. (sound_after n start setting cs f k).shape.lengths.table }

-- ---- send

sent_back : (n : ℕ) (m : Memory) → Sound n m → (lent block : List ℕ) → (step m (send lent)).answer ≡ sent block → (block_refusal block ≡ 0) × (message_of block ≡ message_for m)
unfolding send_now
sent_back n m s lent block =
    send_by (λ (o : Outcome). o.answer ≡ sent block → (block_refusal block ≡ 0) × (message_of block ≡ message_for m)) m lent
    (λ e q. let r = theorems.round_trip (message_for m) (sendable n m s lent e) in
    let i : block_of (message_for m) ≡ block = cc in
    subst (λ (b : List ℕ). (block_refusal b ≡ 0) × (message_of b ≡ message_for m)) i (r.taken, r.message))
    (λ k d e q. let z : ◌≡◌ {A = ℕ} 0 1 = cc in absurd (let w : ⊥ = omega arith in w))

-- ---- deliver

kept-only : (m : Memory) (bytes : List ℕ) → AreBytes bytes → (step m (deliver bytes)).answer ≡ kept → bytes ≡ block_of (message_of bytes)
kept-only m bytes a =
    deliver-by (λ (o : Outcome). o.answer ≡ kept → bytes ≡ block_of (message_of bytes)) m bytes
    (λ e q. sym (theorems.reading bytes (record { bytes = a; taken = (deliver_passed m bytes e).taken })).block)
    (λ e q. let z : ◌≡◌ {A = ℕ} 0 1 = cc in absurd (let w : ⊥ = omega arith in w))

-- ---- restart

abbrev Given : List ℕ → Type 0
Given b = (b ≡ replicate 512 0) ⊎ (block_refusal b ≡ 0)

last-given : (n own : ℕ) (l : List Notice) (d : List ℕ) (bs : List (List ℕ)) → AllGood n bs → Given d → Given (last_own own l d bs)
unfolding last_own
last-given n own l d [] g h = h
last-given n own l d (b ∷ bs) g h =
    last-given n own l (cond (is_from own b && not (puts_out false l own (header_of b).slot)) b d) bs (λ c q. g c (Memᴰ.tail q))
    (cond_by Given (is_from own b && not (puts_out false l own (header_of b).slot)) (λ e. inr (good_taken n b (g b (Memᴰ.head refl)))) (λ e. h))

restart_given : (m : Memory) (n own : ℕ) (values : List ℤ) (journal : List ℕ) (notices : List Notice) (lent : List ℕ) (count : ℕ) (block : List ℕ)
    → (restart_step m n own values journal notices lent).answer ≡ restarted count block → Given block
restart_given m n own values journal notices lent count block =
    restart-by (λ (o : Outcome). o.answer ≡ restarted count block → Given block) m n own values journal notices lent
    (λ e q. let i : last_own own notices (replicate 512 0) (blocks_in n journal) ≡ block = cc in
    subst Given i (last-given n own notices (replicate 512 0) (blocks_in n journal) (reads_good n 0 _ journal) (inl refl)))
    (λ e q. let z : ◌≡◌ {A = ℕ} 0 1 = cc in absurd (let w : ⊥ = omega arith in w))

pub reads_back : ReadsBack
reads_back = record {
  sends = λ n start setting cs f k h. sent_back n _ (sound_after n start setting cs f k);
  restarts = restart_given;
  keeps = kept-only;
}
