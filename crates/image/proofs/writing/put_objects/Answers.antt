-- Three parts that fill the list one behind the other: semaphores, mutexes, flag objects.
use mathlib.Core.List.{[], ◌∷◌}
use Rattle.sequences.proofs.Behind.{all-put}
use borrow.Author.Rules.{rules}
use Rattle.image.proofs.writing.put_objects.Goals as goal

pub returns : goal.returns
returns c =
    all-put 0 c.args.dst.now ((40, c.write_all.new.bytes) ∷ (12, c.write_all-2.new.bytes) ∷ (12, c.write_all-3.new.bytes) ∷ []) (search rules) c.requires
    (λ i. c.write_all.ensures i ∷ c.write_all-2.ensures i ∷ c.write_all-3.ensures i ∷ [])
