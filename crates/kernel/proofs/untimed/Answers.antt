-- The answer is the model's, and so is the table after it; what is reported is read off that table.
use Rattle.kernel.proofs.Replying.{no_ticks, replied}
use Rattle.kernel.proofs.untimed.Goals as goal

pub returns : goal.returns
returns c =
    replied c.args.t c.args.rows.now c.args.q c.requires.rows_value c.answer-answer.ensures c.next_table-u.ensures
    (no_ticks c.args.t c.args.rows.now c.args.q c.requires.rows_value c.answer-answer.ensures c.next_table-u.ensures c.requires.fact)
    (c.next_wake_up-next.ensures c.next_table-u.new.rows c.next_table-u.ensures.order) c.reply.ensures
