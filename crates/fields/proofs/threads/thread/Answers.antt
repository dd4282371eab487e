use Rattle.fields.proofs.Parts.{part-whole, threads-part, named}
use Rattle.fields.proofs.threads.thread.Goals as goal

pub returns : goal.returns
returns c =
    let p = (named c.told-image c.requires) in
    rw (c.u16_at.ensures, c.u16_at-2.ensures, c.u32_at.ensures, c.u16_at-3.ensures, c.u16_at-4.ensures) (part-whole threads-part p)
