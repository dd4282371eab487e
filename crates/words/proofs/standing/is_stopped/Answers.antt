-- A thread stands on one list at most, so the number of its list tells whether that is the stopped list.
use Rattle.words.proofs.Lists.{stopped-told, none-stopped}
use mathlib.Core.Path.{sym}
use Rattle.words.proofs.standing.is_stopped.Goals as goal

pub list_of-requires : goal.list_of-requires
list_of-requires c = record { whole = c.requires; thread = c.if-i.true }

pub returns-then-i : goal.returns-then-i
returns-then-i c = stopped-told c.requires c.args.i c.list_of.ensures

pub returns : goal.returns
returns c = sym (none-stopped c.requires c.args.i c.if-i.false)
