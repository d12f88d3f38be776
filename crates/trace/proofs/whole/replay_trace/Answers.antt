use Rattle.std.proofs.Common.{ℕ, ◌≤◌, subst, arith, length}
use Rattle.trace.specs.ReplayLaws.{measured_refusal, measured_lines, measured_lines_small, measured_need, text-put, short_answer, whole_answer}
use Rattle.trace.proofs.whole.replay_trace.Goals as goal

pub overflow_mul-lines-2 : goal.overflow_mul-lines-2
overflow_mul-lines-2 c = omega (arith, measured_lines_small c.args.course c.args.trace.now _ c.measured-is.ensures c.requires.0 c.requires.1)

pub overflow_add-need : goal.overflow_add-need
overflow_add-need c = omega (arith, measured_lines_small c.args.course c.args.trace.now _ c.measured-is.ensures c.requires.0 c.requires.1, c.reason_length.ensures.1)

pub returns-else-whole : goal.returns-else-whole
returns-else-whole c = short_answer _ _ _ _ _ (measured_refusal c.args.course c.args.trace.now _ c.measured-is.ensures) (measured_need c.args.course c.args.trace.now _ c.measured-is.ensures _ c.reason_length.ensures.0) c.if-whole.false

pub print_all-requires : goal.print_all-requires
print_all-requires c = subst (λ (n : ℕ). n ≤ length c.args.out.now) (measured_lines c.args.course c.args.trace.now _ c.measured-is.ensures) (omega (arith, c.if-whole.true))

pub returns-then-whole : goal.returns-then-whole
returns-then-whole c =
    whole_answer _ _ _ _ _ (measured_refusal c.args.course c.args.trace.now _ c.measured-is.ensures) (measured_need c.args.course c.args.trace.now _ c.measured-is.ensures _ c.reason_length.ensures.0) _ c.if-whole.true
    (text-put c.args.course c.args.trace.now _ c.measured-is.ensures c.args.out.now _ _ _ c.reason_length.ensures.0 c.if-whole.true c.print_all.ensures c.reason_line.ensures.1)
