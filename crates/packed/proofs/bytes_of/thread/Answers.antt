use mathlib.Core.Path.{◌∙◌}
use borrow.Author.Rules.{rules}
use Rattle.packed.proofs.Digits.{two_digits, four_digits}
use Rattle.packed.proofs.bytes_of.thread.Goals as goal

pub returns : goal.returns
returns c =
    let t = c.args.t in
    simp (
      c.to_le_bytes-quantum.ensures ∙ two_digits t.quantum (search rules),
      c.to_le_bytes-left.ensures ∙ two_digits t.left (search rules),
      c.to_le_bytes-limit.ensures ∙ four_digits t.limit (search rules),
      c.to_le_bytes-mask.ensures ∙ two_digits t.mask (search rules),
      c.to_le_bytes-delivered.ensures ∙ two_digits t.delivered (search rules),
    )
