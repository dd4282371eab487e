-- The four bytes are those of the two fields.
use mathlib.Core.Path.{refl, ◌∙◌}
use lib.Dec.{lit<}
use Rattle.sequences.specs.Records.{start}
use Rattle.model.specs.declared.tables.Semaphore.{Semaphore}
use Rattle.model.specs.Layout.{semaphores_at}
use Rattle.fields.proofs.Parts.{part_read, semaphores-part, two_and_two, named}
use Rattle.fields.proofs.semaphores.levels.Goals as goal

pub returns : goal.returns
returns c =
    let there = named c.told-image c.requires in
    let a = c.args in
    c.u32_at.ensures
    ∙ two_and_two (start semaphores_at a.o) 1 a.image.now
    (part_read semaphores-part there 1 (λ (x : Semaphore). x.count) (lit< tt) (λ n. refl))
    (part_read semaphores-part there 2 (λ (x : Semaphore). x.maximum) (lit< tt) (λ n. refl))
