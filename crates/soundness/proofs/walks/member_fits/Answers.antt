-- `walks::member_fits` meets its contract: each arm is the test of its kind.
use Rattle.std.proofs.Common.{inl, inr}
use Rattle.soundness.specs.Lists.{member_fits}
use Rattle.soundness.proofs.walks.member_fits.Goals as goal

pub returns-in-Ready : goal.returns-in-Ready
unfolding member_fits
returns-in-Ready c = rw c.in-Ready.is

pub returns-in-Sleep : goal.returns-in-Sleep
unfolding member_fits
returns-in-Sleep c = rw c.in-Sleep.is

pub returns-in-Stopped : goal.returns-in-Stopped
unfolding member_fits
returns-in-Stopped c = elim c.in-Stopped.is [ inl e ↦ rw e | inr e ↦ rw e ]

pub returns-in-Flags : goal.returns-in-Flags
unfolding member_fits
returns-in-Flags c = rw (c.in-Flags.is, c.holds-met.ensures)
