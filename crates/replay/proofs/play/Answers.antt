use Prim.Native.Nat.{ℕ, ◌≤◌}
use mathlib.Core.Path.{sym}
use lib.ListN.{length-replicate}
use Rattle.std.proofs.Common.{zero-le}
use Rattle.text_lines.proofs.OutputLaws.{held_then}
use Rattle.replay.proofs.play.Goals as goal

pub reply-next-requires : goal.reply-next-requires
reply-next-requires g c =
    let l = c.loop-turn in
    let i = l.invariant in
    (held_then l.output l.source 65536 c.with_room-output.ensures.held i.4, i.0, i.1, i.3)

pub loop-turn-init : goal.loop-turn-init
loop-turn-init g c =
    let held : c.nothing-output.result.held ≤ 65536 = rw c.nothing-output.ensures zero-le in
    (length-replicate {A = ℕ} 524288 0, length-replicate {A = ℕ} 32768 0, sym c.large_buffer-buffer.ensures, sym c.large_buffer-out.ensures, held)
