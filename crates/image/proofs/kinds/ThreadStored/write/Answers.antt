-- The bytes of a thread whose fields fit are those of the definition.
use mathlib.Core.Path.{◌≡◌, sym, ◌∙◌}
use mathlib.Core.List.{◌∷◌, ◌++◌}
use borrow.Author.Rules.{rules}
use Rattle.sequences.specs.Records.{bytes_of}
use Rattle.model.specs.Layout.{threads_at}
use Rattle.packed.proofs.Digits.{two_digits, four_digits}
use Rattle.image.specs.Image.{thread_bytes}
use Rattle.image.proofs.kinds.ThreadStored.write.Goals as goal

pub returns : goal.returns
returns c =
    let t = c.args.self in
    let quantum = two_digits t.quantum (search rules) in
    let left = two_digits t.left (search rules) in
    let limit = four_digits t.limit (search rules) in
    let mask = two_digits t.mask (search rules) in
    let delivered = two_digits t.delivered (search rules) in
    let laid : thread_bytes t ≡ bytes_of threads_at t
    = λ i. t.created ∷ t.base ∷ t.current ∷ (quantum i ++ (left i ++ (limit i ++ (t.result ∷ (mask i ++ (t.mode ∷ delivered i)))))) in
    c.copy_from_slice.ensures.after ∙ c.thread.ensures ∙ sym laid
