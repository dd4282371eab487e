-- The ready lists come first, so the number of its list tells whether a thread is ready.
use Rattle.words.proofs.Lists.{ready-told, none_ready}
use mathlib.Core.Path.{sym}
use Rattle.words.proofs.standing.is_ready.Goals as goal

pub list_of-requires : goal.list_of-requires
list_of-requires c = record { whole = c.requires; thread = c.if-i.true }

pub returns-then-i : goal.returns-then-i
returns-then-i c = ready-told c.requires c.args.i c.list_of.ensures

pub returns : goal.returns
returns c = sym (none_ready c.requires c.args.i c.if-i.false)
