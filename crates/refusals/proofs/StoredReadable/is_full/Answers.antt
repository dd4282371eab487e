-- A semaphore that is there has its list among the 18.
use native.Mathlib.Omega.{arith}
use Rattle.model.specs.Before.{view}
use Rattle.table.proofs.Stored.{sound-whole}
use Rattle.refusals.proofs.StoredReadable.is_full.Goals as goal

pub waited_for-requires : goal.waited_for-requires
waited_for-requires c = record { orderly_table = (sound-whole c.requires).order.table; j_bound = omega arith }

pub returns-then-o-lt8 : goal.returns-then-o-lt8
unfolding view
returns-then-o-lt8 c h = rw (c.waited_for.ensures c.args.self.now.rows.now, c.semaphore-x.ensures)
