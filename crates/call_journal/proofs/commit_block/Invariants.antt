-- `commit_block` meets its contract. The loop's invariant: all writesets leave what those from the j-th on leave of what is there now. Assumes nothing.
use Rattle.std.proofs.Common.{◌≡◌}
use Rattle.engine.specs.Restart.{writesets_in, commit_all}
use Rattle.call_journal.specs.Replays.{replayed}
use Rattle.call_journal.proofs.WritesetLaws.{rest}
use Rattle.call_journal.proofs.commit_block.Given as goal

abbrev pub invariant-loop-j : goal.invariant-loop-j
invariant-loop-j l = commit_all (replayed l.commits l.initial.values l.initial.stamps) (writesets_in l.block) ≡ commit_all (replayed l.after l.values l.stamps) (rest l.block l.j-end l.j)
