use mathlib.Core.Path.{refl, ◌∙◌}
use lib.Dec.{lit<}
use Rattle.model.specs.declared.tables.Thread.{Thread}
use Rattle.fields.proofs.Parts.{part_read, threads-part, named}
use Rattle.fields.proofs.threads.mask.Goals as goal

pub returns : goal.returns
returns c = c.u16_at.ensures ∙ part_read threads-part (named c.told-image c.requires) 7 (λ (x : Thread). x.mask) (lit< tt) (λ n. refl)
