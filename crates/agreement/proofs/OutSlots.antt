-- The slots that are out at a member are those that the notices it took put out. Assumes nothing.
use Prim.Native.Nat.{ℕ, ◌<◌}
use mathlib.Core.Path.{◌≡◌, sym, ap, ◌∙◌, subst}
use mathlib.Core.Bool.{false}
use mathlib.Core.List.{List, map}
use native.Mathlib.Omega.{arith}
use lib.IntN.{ℤ}
use borrow.Author.Tests.{lt-ltb}
use Rattle.block.specs.Message.{owner_of}
use Rattle.memory.specs.Memory.{Memory, slot_limit}
use Rattle.memory.specs.Notices.{is_out, puts_out}
use Rattle.engine.specs.Make.{Setting}
use Rattle.protocol.specs.Notices as protocol
use Rattle.protocol.specs.Machine.{MachineSystem, fresh_system}
use Rattle.protocol.proofs.Refinement.{MachineLone, fresh-machine, lone-commands}
use Rattle.agreement.specs.Group.{notice_in, Members, CallAt, fresh, run, Calls, PremiseFrom}
use Rattle.agreement.specs.OutSlots.{OutSlots}
use Rattle.agreement.proofs.View.{setup, outages_in}
use Rattle.agreement.proofs.RestartView.{puts_same}
use Rattle.agreement.proofs.Replicas.{places_apart, places_within, made-sound}
use Rattle.agreement.proofs.Runs.{machine, machine_of, runs, sound_run}
use Rattle.agreement.proofs.Theorem.{owes, commands_of, journals_after, machine-premise}

pub out_slots : OutSlots
out_slots n start setting cs f p k s h l =
    let told = (lone.lone.each k).told in
    let out : protocol.is_out (outages_in m.group (owner_of n s)) s ≡ puts_out false (g.taken k) (owner_of n s) s
    = told.says s (let a = told.past in omega arith) l ∙ puts_same false (g.taken k) (owner_of n s) s in
    rw (size, lt-ltb s slot_limit l) out
  where
    g : Members
    g = run (fresh n start) cs

    m : Memory
    m = (run (fresh n start) cs).memories k

    size : ((run (fresh n start) cs).memories k).group.replicas ≡ n
    size = (sound_run n cs f (fresh n start) (λ j. (made-sound n start setting (owes n start) j).sound) k).size

    lone : MachineLone (setup n start) (machine n start setting (owes n start)) (machine_of n start setting (owes n start) (journals_after n start setting cs) (run (fresh n start) cs))
    lone = subst (MachineLone (setup n start) (machine n start setting (owes n start))) (runs n start setting (owes n start) cs f _ (fresh n start))
        (lone-commands (setup n start) (machine n start setting (owes n start)) (places_apart n start) (places_within n start setting.least) (commands_of n start setting cs f)
        (fresh_system (setup n start) (machine n start setting (owes n start))) (fresh-machine (setup n start) (machine n start setting (owes n start))) (machine-premise n start setting cs f p))
