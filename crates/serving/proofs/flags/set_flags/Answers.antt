-- The word that was read is the model's.
use mathlib.Core.Path.{◌≡◌}
use mathlib.Core.List.{List}
use Prim.Native.Nat.{ℕ}
use lib.Bits.{bit_or}
use Rattle.model.specs.Parts.{flag_object}
use Rattle.model.specs.Effects.{change_word, set_flags}
use Rattle.model.specs.Layout.{view}
use Rattle.words.specs.Images.{Does}
use Rattle.words.proofs.Does.{same_word}
use Rattle.serving.proofs.flags.set_flags.Goals as goal

by_read : {b r : List ℕ} (o mask word : ℕ) → word ≡ (flag_object o (view b)).word
    → Does b (change_word o (bit_or word mask)) r → Does b (set_flags o mask) r
unfolding set_flags
by_read o mask word e d = same_word d (set_flags o mask) (rw e)

pub returns : goal.returns
returns c =
    let a = c.args in
    by_read a.o a.mask _ c.word-word.ensures c.change_word.ensures
