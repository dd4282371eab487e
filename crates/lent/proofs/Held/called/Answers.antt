-- The bytes that are lent are those that the table holds.
use Rattle.lent.proofs.Calls.{held_call}
use Rattle.lent.proofs.Held.called.Goals as goal

pub returns : goal.returns
returns c =
    let a = c.args in
    held_call a.self a.q (c.call-report.ensures.report, c.call-report.ensures.image)
