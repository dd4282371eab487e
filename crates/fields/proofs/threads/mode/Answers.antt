use mathlib.Core.Path.{refl}
use lib.Dec.{lit<}
use Rattle.model.specs.declared.tables.Thread.{Thread}
use Rattle.fields.proofs.Parts.{part_read, threads-part, named}
use Rattle.fields.proofs.threads.mode.Goals as goal

pub returns : goal.returns
returns c = part_read threads-part (named c.told-image c.requires) 8 (λ (x : Thread). x.mode) (lit< tt) (λ n. refl)
