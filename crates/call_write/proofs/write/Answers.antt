-- 1 to 4 by `check_item`, 7 by `must_wait`, the rest by `write_at`.
use Rattle.std.proofs.Common.{◌≡◌, ◌*◌, ◌<◌, refl, sym, ap, ◌∙◌, length, set, true, arith, rules}
use lib.Seq.{get_or-set_same, set-set}
use mir.Facts.{to_z-of_z}
use Rattle.std.proofs.lemmas.Result.{err_from_is_err_and}
use Rattle.memory.specs.declared.Txn.{Txn}
use Rattle.memory.specs.Rows.{closed, row_at, is_held}
use Rattle.engine.specs.Client.{write_lent}
use Rattle.call_reply.specs.Parts.{write_parts}
use Rattle.call_reply.specs.Replies.{number}
use Rattle.call_reply.proofs.ReplyLaws.{gives}
use Rattle.call_reply.proofs.FaultLaws.{written_kept}
use Rattle.call_write.proofs.HeldLaws.{holder_but}
use Rattle.call_write.proofs.WriteLaws.{fits_long, same_stage, not_stale, write-early, write-waits, write-active}
use Rattle.call_write.proofs.write.Goals as goal

pub returns-in_err-check_item : goal.returns-in_err-check_item
returns-in_err-check_item c =
    let a = c.args in
    let f = c.in_err-check_item.field-0.0 in
    let fits = c.lengths_fit-fits.result in
    let early = c.in_err-check_item.ensures.number in
    let e = err_from_is_err_and c.from_residual.result c.from_residual.ensures.1 in
    let kept = written_kept f a.counts a.t (not_stale f fits a.item a.at a.t.stage early) in
    let six : length a.rows ≡ 6 = search rules in
    let here : a.at < 6 → a.t.stage ≡ (row_at (set a.rows a.at a.t) a.at).stage = λ low. ap (λ (x : Txn). x.stage) (sym (get_or-set_same a.rows a.at a.t closed (omega arith))) in
    rw (e.1, e.2, kept.0, kept.1) (
      λ m.
          let p = write_parts m a.group a.turn a.counts (set a.rows a.at a.t) a.items.now a.writes.now a.stamps.now a.classes.now a.places.now in
          gives number (write-early p a.at a.item a.value f
          (rw c.lengths_fit-fits.ensures at (early ∙ same_stage fits a.item a.at a.t.stage (row_at (set a.rows a.at a.t) a.at).stage here))),
      λ past. refl,
    )

pub returns-then-must_wait : goal.returns-then-must_wait
returns-then-must_wait c =
    let a = c.args in
    let q = c.in_ok-check_item.ensures.passed in
    let six : length a.rows ≡ 6 = search rules in
    let here : a.t ≡ row_at (set a.rows a.at a.t) a.at = sym (get_or-set_same a.rows a.at a.t closed (omega arith)) in (
      λ m.
          let p = write_parts m a.group a.turn a.counts (set a.rows a.at a.t) a.items.now a.writes.now a.stamps.now a.classes.now a.places.now in
          let lent : write_lent p ≡ true = sym c.lengths_fit-fits.ensures ∙ q.0 in
          let active : (row_at (set a.rows a.at a.t) a.at).stage ≡ 0 = sym (ap (λ (x : Txn). x.stage) here) ∙ q.3 in
          gives number (sym (write-waits p a.at a.item a.value lent q.2 q.1 active (sym (c.must_wait.ensures p refl refl refl refl refl) ∙ c.if-must_wait.true))),
      λ past. refl,
    )

pub write_at-requires : goal.write_at-requires
write_at-requires c =
    let a = c.args in
    let q = c.in_ok-check_item.ensures.passed in
    let f = fits_long (length a.items.now) (length a.writes.now) (length a.stamps.now) (length a.classes.now) (length a.places.now) (512 * a.group.replicas) (sym c.lengths_fit-fits.ensures ∙ q.0) in
    (f.0, f.1, f.2, q.2, q.1)

pub returns : goal.returns
returns c =
    let a = c.args in
    let q = c.in_ok-check_item.ensures.passed in
    let six : length a.rows ≡ 6 = search rules in
    let here : a.t ≡ row_at (set a.rows a.at a.t) a.at = sym (get_or-set_same a.rows a.at a.t closed (omega arith)) in (
      λ m.
          let p = write_parts m a.group a.turn a.counts (set a.rows a.at a.t) a.items.now a.writes.now a.stamps.now a.classes.now a.places.now in
          let lent : write_lent p ≡ true = sym c.lengths_fit-fits.ensures ∙ q.0 in
          let active : (row_at (set a.rows a.at a.t) a.at).stage ≡ 0 = sym (ap (λ (x : Txn). x.stage) here) ∙ q.3 in
          rw (write-active p a.at a.item a.value lent q.2 q.1 active (sym (c.must_wait.ensures p refl refl refl refl refl) ∙ c.if-must_wait.false))
          (rw (to_z-of_z c.ranges.value, set-set a.rows a.at a.t _) at (c.write_at.ensures p a.counts (set a.rows a.at a.t) here (ap is_held (holder_but a.items.now a.at a.item 0 a.rows a.at a.t (omega arith))))),
      λ past. absurd (omega arith),
    )
