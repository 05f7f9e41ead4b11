use Rattle.std.proofs.Common.{rules, arith, ◌≡◌, ◌∙◌, refl, sym, ◌+◌, ◌*◌, get_or, length}
use Rattle.replay_parse.specs.Lines.{digit_number}
use Rattle.replay_parse.proofs.LineLaws.{digit_some, digit_none, reads_none, reads_up_to, digits-over, digits-end, digits-stop, digits-next, digits-none, digits-other, digits-zero, digits-first}
use Rattle.replay_parse.proofs.take_digits.Goals as goal

pub returns-then-line-from : goal.returns-then-line-from
returns-then-line-from c = reads_none refl (digits-none c.args.most c.args.line.now c.args.from c.if-line-from.true)

pub returns-in_err-n : goal.returns-in_err-n
returns-in_err-n c = reads_none (search rules) (digits-other c.args.most c.args.line.now c.args.from c.if-line-from.false (digit_none (get_or c.args.line.now c.args.from 0) (sym c.digit.ensures ∙ c.in_err-n.was)))

pub returns-then-n-eq0 : goal.returns-then-n-eq0
returns-then-n-eq0 c =
    let d = digit_some (get_or c.args.line.now c.args.from 0) (sym c.digit.ensures ∙ c.in_ok-n.was) in
    record {
      field = digits-zero c.args.most c.args.line.now c.args.from c.if-line-from.false (d.0 ∙ c.if-n-eq0.true);
      end = omega (arith, c.if-line-from.false);
    }

pub loop-i-init : goal.loop-i-init
loop-i-init c =
    let d = digit_some (get_or c.args.line.now c.args.from 0) (sym c.digit.ensures ∙ c.in_ok-n.was) in
    rw d.0 at (digits-first c.args.most c.args.line.now c.args.from c.if-line-from.false (omega (arith, d)) (λ e. c.if-n-eq0.false (sym d.0 ∙ e)))

pub returns-in_default : goal.returns-in_default
returns-in_default c =
    let l = c.loop-i in
    let a = c.args in
    let d = digit_none (get_or a.line.now l.i 0) (sym c.digit-in-loop-i.ensures ∙ search rules) in
    reads_up_to a.most l.n l.i a.line.now (omega arith) c.up_to.ensures (digits-stop a.most l.n a.line.now l.i c.loop-i-test.true d ∙ sym l.invariant)

pub returns-in_err-checked_mul : goal.returns-in_err-checked_mul
returns-in_err-checked_mul c =
    let l = c.loop-i in
    let a = c.args in
    let d = digit_some (get_or a.line.now l.i 0) (sym c.digit-in-loop-i.ensures ∙ c.in-Some.is) in
    let big = c.in_err-checked_mul.ensures in
    reads_none (search rules) (sym (l.invariant ∙ digits-over a.most l.n a.line.now l.i c.loop-i-test.true (omega (arith, d)) (omega (arith, big, c.ranges.most.fits))))

pub returns-in_err-n-2 : goal.returns-in_err-n-2
returns-in_err-n-2 c =
    let l = c.loop-i in
    let a = c.args in
    let d = digit_some (get_or a.line.now l.i 0) (sym c.digit-in-loop-i.ensures ∙ c.in-Some.is) in
    let ten = c.in_ok-checked_mul.ensures in
    let big = c.in_err-n-2.ensures in
    reads_none (search rules) (sym (l.invariant ∙ digits-over a.most l.n a.line.now l.i c.loop-i-test.true (omega (arith, d)) (omega (arith, d, ten, big, c.ranges.most.fits))))

pub loop-i-preserved : goal.loop-i-preserved
loop-i-preserved c =
    let l = c.loop-i in
    let a = c.args in
    let d = digit_some (get_or a.line.now l.i 0) (sym c.digit-in-loop-i.ensures ∙ c.in-Some.is) in
    let ten = c.in_ok-checked_mul.ensures in
    let sum = c.in_ok-n-2.ensures in
    let e : 10 * l.n + digit_number (get_or a.line.now l.i 0) ≡ c.in_ok-n-2.n = omega (arith, d, ten, sum) in
    rw e at (l.invariant ∙ digits-next a.most l.n a.line.now l.i c.loop-i-test.true (omega (arith, d)))

pub returns : goal.returns
returns c =
    let l = c.loop-i in
    let a = c.args in
    let e : length a.line.now ≡ l.i = omega (arith, c.if-line-from.false) in
    reads_up_to a.most l.n l.i a.line.now (omega arith) (rw e at c.up_to-2.ensures) (digits-end a.most l.n a.line.now l.i c.loop-i-test.false ∙ sym l.invariant)
