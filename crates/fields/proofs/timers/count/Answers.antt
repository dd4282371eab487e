use mathlib.Core.Path.{refl, ◌∙◌}
use lib.Dec.{lit<}
use Rattle.model.specs.declared.tables.Timer.{Timer}
use Rattle.fields.proofs.Parts.{part_read, timers-part, named}
use Rattle.fields.proofs.timers.count.Goals as goal

pub returns : goal.returns
returns c = c.u32_at.ensures ∙ part_read timers-part (named c.told-image c.requires) 6 (λ (x : Timer). x.count) (lit< tt) (λ n. refl)
