-- A thread's id is below 16, and any other stands nowhere.
use mathlib.Core.Path.{sym, ◌∙◌}
use borrow.Author.Tests.{le-ltb}
use Rattle.table.proofs.Stored.{sound-whole}
use Rattle.refusals.proofs.Nowhere.{none-stopped}
use Rattle.refusals.proofs.StoredReadable.is_stopped.Goals as goal

pub is_stopped-requires : goal.is_stopped-requires
is_stopped-requires c = (sound-whole c.requires).order.table

pub returns-then-i-lt16 : goal.returns-then-i-lt16
returns-then-i-lt16 c = c.is_stopped.ensures c.args.self.now.rows.now

pub returns-else-i-lt16 : goal.returns-else-i-lt16
returns-else-i-lt16 c =
    let i = c.args.i in
    le-ltb i 16 c.if-i-lt16.false ∙ sym (none-stopped (sound-whole c.requires).placed i c.if-i-lt16.false)
