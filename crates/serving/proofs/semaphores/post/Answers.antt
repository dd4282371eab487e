-- A semaphore that is there is posted to.
use mathlib.Core.Path.{refl}
use Rattle.model.specs.Calls.{answers}
use Rattle.model.specs.Effects.{post_effect}
use Rattle.theorems.proofs.Allowing.{semaphore-named}
use Rattle.serving.proofs.semaphores.post.Goals as goal

pub post_semaphore-requires : goal.post_semaphore-requires
unfolding answers
post_semaphore-requires c = record { whole = c.requires.whole; o_bound = semaphore-named c.requires.allowed refl }

pub returns : goal.returns
unfolding post_effect
returns c = c.post_semaphore.ensures
