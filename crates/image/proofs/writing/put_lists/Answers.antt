-- Three parts that fill the list one behind the other: the lengths of the ready lists, their rows, and the other lists.
use mathlib.Core.List.{[], ◌∷◌}
use Rattle.sequences.proofs.Behind.{all-put}
use borrow.Author.Rules.{rules}
use Rattle.image.proofs.writing.put_lists.Goals as goal

pub returns : goal.returns
returns c =
    all-put 0 c.args.dst.now ((8, c.copy_from_slice.new.self) ∷ (128, c.write_all.new.bytes) ∷ (306, c.write_all-2.new.bytes) ∷ []) (search rules) c.requires
    (λ i. c.copy_from_slice.ensures.after i ∷ c.write_all.ensures i ∷ c.write_all-2.ensures i ∷ [])
