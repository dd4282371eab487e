use mathlib.Core.Path.{refl, ◌∙◌}
use lib.Dec.{lit<}
use Rattle.model.specs.declared.tables.Flags.{Flags}
use Rattle.fields.proofs.Parts.{part_read, flags-part, named}
use Rattle.fields.proofs.flags.word.Goals as goal

pub returns : goal.returns
returns c = c.u16_at.ensures ∙ part_read flags-part (named c.told-image c.requires) 1 (λ (x : Flags). x.word) (lit< tt) (λ n. refl)
