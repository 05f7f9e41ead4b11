-- Replies from outcomes. Assumes nothing.
use Prim.Native.Nat.{ℕ, ◌-◌, ◌≤◌}
use mathlib.Core.Path.{◌≡◌, sym, ap}
use mathlib.Core.List.{List}
use native.Mathlib.Omega.{arith}
use lib.ListN.{length, take, drop, replicate, take-append-drop}
use lib.Seq.{length-take-le}
use Rattle.engine.specs.Answers.{Outcome}
use Rattle.engine.specs.Answers.Outcome.{memory}
use Rattle.call_reply.specs.Replies.{six_of, number, Gives, block_left, GivesWith, GivesBlock}

-- an outcome that is the step's gives what the step gives
pub gives : {R : Type 0} (of : Outcome → R) {p o : Outcome} → p ≡ o → Gives of o (of p) p.memory
gives of e = (ap of e, ap memory e)

pub gives_with : {R : Type 0} (of : Outcome → R) {p o : Outcome} (lent : List ℕ) → p ≡ o → GivesWith of o lent (of p) p.memory (block_left p.answer lent)
gives_with of lent e = (gives of e, ap (λ (x : Outcome). block_left x.answer lent) e)

pub gives_block : {p o : Outcome} (lent : List ℕ) → p ≡ o → GivesBlock o lent (number p) p.memory (block_left p.answer lent)
gives_block lent e = gives_with number lent e

-- n tickets with zeros behind
pub six-of : (n : ℕ) (tickets : List ℕ) → n ≤ 6 → length tickets ≡ 6 → drop n tickets ≡ replicate (6 - n) 0 → tickets ≡ six_of (take n tickets)
six-of n tickets few six zeros =
    let l : length (take n tickets) ≡ n = length-take-le n tickets (omega arith) in
    rw (l, ← zeros) (sym (take-append-drop n tickets))
