-- What holds of every memory that calls and restarts at a replica lead to. Assumes nothing.
use Prim.Native.Nat.{ℕ, ◌≤◌, ◌<◌}
use mathlib.Core.Path.{◌≡◌, ◌∙◌, ap}
use mathlib.Core.Bool.{false}
use mathlib.Core.List.{List, [], ◌∷◌}
use native.Mathlib.Omega.{arith}
use lib.Dec.{eqb}
use lib.IntN.{ℤ}
use borrow.Author.Tests.{ne_eqb}
use Rattle.memory.specs.Memory.{Memory, no_number, is_station}
use Rattle.memory.specs.Notices.{Notice}
use Rattle.engine.specs.Answers.{Outcome}
use Rattle.engine.specs.Make.{SettingOf, made_memory}
use Rattle.engine.specs.Restart.{blocks_in, restarted_memory}
use Rattle.engine.specs.Shape.{Shape}
use Rattle.engine.specs.Sent.{SentShape}
use Rattle.engine.specs.History.{AnyCall, any_step, after_all}
use Rattle.engine.specs.History.AnyCall.{call, restart}
use Rattle.engine.proofs.Steps.{restart-by}
use Rattle.engine.proofs.Passed.{restart_passed}
use Rattle.engine.proofs.Frames.{own_same}
use Rattle.engine.proofs.Shapes.{shapes}
use Rattle.engine.proofs.Sent.{sent-shapes}
use Rattle.engine.proofs.Reports.{made_own, restarted_own}

-- its shape, what is sent, and that it has a number
pub record Reached (m : Memory) : Type 0 where
  pub over : ℕ
  pub shape : Shape over m
  pub sent : SentShape m
  pub replica : is_station m ≡ false

-- a number below N, which is at most 6, is one
pub numbered : (m : Memory) (n own : ℕ) → m.group.own ≡ own → own < n → n ≤ 6 → is_station m ≡ false
numbered m n own e o h = ne_eqb m.group.own 255 (λ z. omega arith)

pub made_reached : (n own : ℕ) (values : List ℤ) → SettingOf n own values → Reached (made_memory n own values)
made_reached n own values g = record { over = 0; shape = shapes.made n own values g; sent = sent-shapes.made n own values; replica = numbered (made_memory n own values) n own (made_own n own values) g.below g.group.most }

pub restarted_reached : (n own : ℕ) (values : List ℤ) → SettingOf n own values → (journal : List ℕ) (notices : List Notice)
    → Reached (restarted_memory n own values notices (blocks_in n journal))
restarted_reached n own values g journal notices = record {
  over = _;
  shape = shapes.restarted n own values g journal notices;
  sent = sent-shapes.restarted n own values journal notices;
  replica = numbered (restarted_memory n own values notices (blocks_in n journal)) n own (restarted_own n own values notices (blocks_in n journal)) g.below g.group.most;
}

pub any_reached : (m : Memory) → Reached m → (c : AnyCall) → Reached (any_step m c).memory
any_reached m R (call c) = record {
  over = R.over;
  shape = shapes.each m R.shape c;
  sent = sent-shapes.each m R.shape R.sent c;
  replica = ap (λ (k : ℕ). eqb k no_number) (own_same m c) ∙ R.replica;
}
any_reached m R (restart n own values journal notices block) =
    restart-by (λ (o : Outcome). Reached o.memory) m n own values journal notices block
    (λ e. let p = restart_passed m n own values block e in restarted_reached n own values p journal notices)
    (λ z. R)

pub all-reached : (m : Memory) → Reached m → (cs : List AnyCall) → Reached (after_all m cs)
unfolding after_all
all-reached m R [] = R
all-reached m R (c ∷ cs) = all-reached (any_step m c).memory (any_reached m R c) cs
