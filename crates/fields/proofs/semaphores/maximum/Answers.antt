use mathlib.Core.Path.{refl, ◌∙◌}
use lib.Dec.{lit<}
use Rattle.model.specs.declared.tables.Semaphore.{Semaphore}
use Rattle.fields.proofs.Parts.{part_read, semaphores-part, named}
use Rattle.fields.proofs.semaphores.maximum.Goals as goal

pub returns : goal.returns
returns c = c.u16_at.ensures ∙ part_read semaphores-part (named c.told-image c.requires) 2 (λ (x : Semaphore). x.maximum) (lit< tt) (λ n. refl)
