use mathlib.Core.Path.{refl}
use lib.Dec.{lit<}
use Rattle.model.specs.Parts.{with_word}
use Rattle.fields.proofs.Parts.{part_written, flags-part, named}
use Rattle.fields.proofs.flags.set_word.Goals as goal

pub returns : goal.returns
returns c =
    let x = c.args.x in
    part_written flags-part (named c.told-image c.requires) 1 x (with_word x) (lit< tt) c.put_u16.ensures (λ n. refl)
