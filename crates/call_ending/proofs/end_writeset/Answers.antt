-- `end_writeset` meets its contract: what its calls leave.
use Rattle.call_ending.proofs.end_writeset.Goals as goal

pub end_transactions-ended-requires : goal.end_transactions-ended-requires
end_transactions-ended-requires c = rw c.record_at-ticket.ensures

pub returns : goal.returns
returns c =
    rw (← c.byte_at.ensures) (c.end_transactions-ended.ensures.0, c.end_transactions-ended.ensures.1, c.apply.ensures.0, c.apply.ensures.1)
