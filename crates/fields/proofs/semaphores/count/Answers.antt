use mathlib.Core.Path.{refl, ◌∙◌}
use lib.Dec.{lit<}
use Rattle.model.specs.declared.tables.Semaphore.{Semaphore}
use Rattle.fields.proofs.Parts.{part_read, semaphores-part, named}
use Rattle.fields.proofs.semaphores.count.Goals as goal

pub returns : goal.returns
returns c = c.u16_at.ensures ∙ part_read semaphores-part (named c.told-image c.requires) 1 (λ (x : Semaphore). x.count) (lit< tt) (λ n. refl)
