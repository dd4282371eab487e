use Rattle.fields.proofs.Parts.{part-whole, timers-part, named}
use Rattle.fields.proofs.timers.timer.Goals as goal

pub returns : goal.returns
returns c =
    rw (c.u32_at.ensures, c.u32_at-2.ensures, c.u16_at.ensures, c.u32_at-3.ensures) (part-whole timers-part (named c.told-image c.requires))
