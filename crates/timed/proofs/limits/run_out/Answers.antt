-- The list that it stands on tells whether it sleeps, and the result goes by that; where it heads the sleep list, no list is searched for.
use Rattle.timed.proofs.Sleepers.{first_sleeper, first_out, waiter-on, sleeper_out, waiter_out}
use Rattle.timed.proofs.limits.run_out.Goals as goal

pub wake-requires : goal.wake-requires
wake-requires c =
    first_sleeper c.requires.given c.first_of.ensures c.if-first_of-i.true

pub returns-then-first_of-i : goal.returns-then-first_of-i
returns-then-first_of-i c =
    first_out c.requires.given c.first_of.ensures c.if-first_of-i.true c.wake.ensures

pub wake-requires-then-l : goal.wake-requires-then-l
wake-requires-then-l c =
    waiter-on c.requires.given c.list_of-l.ensures c.requires.waits_nonzero

pub wake-requires-else-l : goal.wake-requires-else-l
wake-requires-else-l c =
    waiter-on c.requires.given c.list_of-l.ensures c.requires.waits_nonzero

pub returns-then-l : goal.returns-then-l
returns-then-l c =
    sleeper_out c.requires.given c.list_of-l.ensures c.if-l.true c.wake-then-l.ensures

pub returns-else-l : goal.returns-else-l
returns-else-l c =
    waiter_out c.requires.given c.list_of-l.ensures c.if-l.false c.wake-else-l.ensures
