use mathlib.Core.Path.{refl, ◌∙◌}
use lib.Dec.{lit<}
use Rattle.model.specs.declared.tables.Thread.{Thread}
use Rattle.fields.proofs.Parts.{part_read, threads-part, named}
use Rattle.fields.proofs.threads.limit.Goals as goal

pub returns : goal.returns
returns c = c.u32_at.ensures ∙ part_read threads-part (named c.told-image c.requires) 5 (λ (x : Thread). x.limit) (lit< tt) (λ n. refl)
