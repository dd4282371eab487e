-- The four bytes are those of the two fields.
use mathlib.Core.Path.{refl, ◌∙◌}
use lib.Dec.{lit<}
use Rattle.sequences.specs.Records.{start}
use Rattle.model.specs.declared.tables.Thread.{Thread}
use Rattle.model.specs.Layout.{threads_at}
use Rattle.fields.proofs.Parts.{part_read, threads-part, two_and_two, named}
use Rattle.fields.proofs.threads.quanta.Goals as goal

pub returns : goal.returns
returns c =
    let there = named c.told-image c.requires in
    let a = c.args in
    c.u32_at.ensures
    ∙ two_and_two (start threads_at a.i) 3 a.image.now
    (part_read threads-part there 3 (λ (x : Thread). x.quantum) (lit< tt) (λ n. refl))
    (part_read threads-part there 4 (λ (x : Thread). x.left) (lit< tt) (λ n. refl))
