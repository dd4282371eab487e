use Rattle.fields.proofs.Parts.{part-whole, semaphores-part, named}
use Rattle.fields.proofs.semaphores.semaphore.Goals as goal

pub returns : goal.returns
returns c = rw (c.u16_at.ensures, c.u16_at-2.ensures) (part-whole semaphores-part (named c.told-image c.requires))
