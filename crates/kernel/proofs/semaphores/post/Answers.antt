-- A semaphore that is there is posted to.
use mathlib.Core.Path.{refl}
use Rattle.model.specs.Calls.{answers}
use Rattle.model.specs.Effects.{post_effect}
use Rattle.kernel.proofs.Facts.{whole, semaphore-named}
use Rattle.kernel.proofs.semaphores.post.Goals as goal

pub post_semaphore-requires : goal.post_semaphore-requires
unfolding answers
post_semaphore-requires c = record { whole = whole c.requires; o_bound = semaphore-named c.requires refl }

pub returns : goal.returns
unfolding post_effect
returns c = c.post_semaphore.ensures
