use mathlib.Core.Path.{refl}
use lib.Dec.{lit<}
use Rattle.model.specs.declared.tables.Semaphore.{Semaphore}
use Rattle.fields.proofs.Parts.{part_read, semaphores-part, named}
use Rattle.fields.proofs.semaphores.created.Goals as goal

pub returns : goal.returns
returns c = part_read semaphores-part (named c.told-image c.requires) 0 (λ (x : Semaphore). x.created) (lit< tt) (λ n. refl)
