-- Reading of a list begins with its first link.
use mathlib.Core.Path.{sym, ap, ◌∙◌}
use Prim.Native.Nat.{◌+◌}
use native.Mathlib.Omega.{arith}
use Rattle.sequences.specs.Links.{head_link}
use Rattle.layout.proofs.Viewed.{list_linked}
use Rattle.words.proofs.Firsts.{first_link}
use Rattle.words.proofs.standing.first_of.Goals as goal

pub returns : goal.returns
returns c =
    let b = c.args.image.now in
    let j = c.args.j in
    first_link b c.told-image (8 + j) (omega (arith, c.requires.j_bound)) ∙ ap head_link (sym (list_linked b j))
