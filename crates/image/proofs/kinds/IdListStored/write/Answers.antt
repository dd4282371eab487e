-- The length stands first, and the ids are put behind it.
use mathlib.Core.List.{[], ◌∷◌}
use Prim.Native.Nat.{ℕ}
use mathlib.Core.Path.{◌≡◌, ◌∙◌}
use native.Mathlib.Omega.{arith}
use mathlib.Core.List.{List, ◌++◌}
use lib.ListN.{length, set, length-set}
use lib.Seq.{take-suc-set}
use Rattle.sequences.proofs.EndToEnd.{flat-one}
use Rattle.sequences.proofs.Behind.{all-put}
use borrow.Author.Rules.{rules}
use Rattle.image.proofs.kinds.IdListStored.write.Goals as goal

pub returns : goal.returns
returns c =
    let put = c.write in
    let l = c.args.self in
    let h : length put.new.bytes ≡ 16 = search rules in
    all-put 1 (set c.args.bytes.now 0 l.length) ((16, put.new.bytes) ∷ []) (h, tt) (simp length-set c.requires) (λ i. put.ensures i ∷ [])
    ∙ (λ i. take-suc-set c.args.bytes.now 0 l.length (omega (arith, c.requires)) i ++ flat-one (λ (part : List ℕ). part) l.ids i)
