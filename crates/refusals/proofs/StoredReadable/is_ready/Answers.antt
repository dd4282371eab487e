-- A thread's id is below 16, and any other stands nowhere.
use mathlib.Core.Path.{sym, ◌∙◌}
use borrow.Author.Tests.{le-ltb}
use Rattle.table.proofs.Stored.{sound-whole, sound-given}
use Rattle.refusals.proofs.Nowhere.{none_ready}
use Rattle.refusals.proofs.StoredReadable.is_ready.Goals as goal

pub is_ready-requires : goal.is_ready-requires
is_ready-requires c = sound-given c.requires c.if-i-lt16.true

pub returns-else-i-lt16 : goal.returns-else-i-lt16
returns-else-i-lt16 c =
    let i = c.args.i in
    le-ltb i 16 c.if-i-lt16.false ∙ sym (none_ready (sound-whole c.requires).placed i c.if-i-lt16.false)
