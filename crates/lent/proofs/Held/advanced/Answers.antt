-- The bytes that are lent are those that the table holds.
use Rattle.model.specs.Promises.{advancing}
use Rattle.lent.proofs.Calls.{held_call}
use Rattle.lent.proofs.Held.advanced.Goals as goal

pub returns : goal.returns
returns c =
    let a = c.args in
    held_call a.self (advancing a.n) (c.advance-report.ensures.report, c.advance-report.ensures.image)
