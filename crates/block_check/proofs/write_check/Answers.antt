-- Two parts behind the 504 bytes. Assumes nothing.
use mathlib.Core.Path.{◌≡◌, ◌∙◌}
use borrow.Author.Rules.{rules}
use borrow.Author.Tests.{eq-eqb, ne_eqb}
use lib.ListN.{length}
use Rattle.block.specs.Writing.{checked_step}
use Rattle.block.proofs.WriteLaws.{check_put}
use Rattle.block_check.proofs.write_check.Goals as goal

pub returns-in_default : goal.returns-in_default
unfolding checked_step
returns-in_default c = rw (ne_eqb (length c.args.block.now) 512 (search rules))

pub returns : goal.returns
unfolding checked_step
returns c =
    let whole : c.in-Some.block.now ≡ c.args.block.now = search rules in
    let h : length c.args.block.now ≡ 512 = search rules in
    let e = check_put c.args.block.now c.copy_from_slice.new.self c.copy_from_slice-2.new.self _ _ h (rw whole at c.sums-s.ensures.0) (rw whole at c.sums-s.ensures.1)
    (c.copy_from_slice.ensures.after ∙ c.to_le_bytes.ensures) (c.copy_from_slice-2.ensures.after ∙ c.to_le_bytes-2.ensures) in
    rw (whole, eq-eqb _ 512 h, ← e)
