-- Where the choice is another than before, its quantum is renewed and it is chosen; else nothing is written.
use mathlib.Core.Path.{◌≡◌}
use mathlib.Core.Bool.{true, false, not, ◌&&◌}
use Prim.Native.Nat.{ℕ}
use lib.Dec.{eqb}
use Rattle.model.specs.State.{State}
use Rattle.model.specs.Parts.{alter_thread, with_chosen, refilled}
use Rattle.model.specs.Words.{choice, choose}
use Rattle.model.specs.Layout.{view}
use Rattle.fields.proofs.Parts.{then, same_word}
use Rattle.words.proofs.Altered.{unaltered}
use Rattle.words.proofs.choosing.choose.Goals as goal

-- with what was read of the state
module _ (s : State) {c off chosen : ℕ} (is : c ≡ choice s) (o : off ≡ s.off) (h : chosen ≡ s.chosen) where
  chooses : eqb off 0 && not (eqb c chosen) ≡ true → with_chosen c (alter_thread c refilled s) ≡ choose s
  unfolding choose
  chooses e = rw (← is, ← o, ← h, e)

  stays : eqb off 0 && not (eqb c chosen) ≡ false → choose s ≡ s
  unfolding choose
  stays e = rw (← is, ← o, ← h, e)

pub returns-then-off-c : goal.returns-then-off-c
returns-then-off-c c =
    let v = view c.args.image.now in
    same_word (then c.refill.ensures c.set_chosen.ensures) choose
    (chooses v c.choice-c.ensures c.off.ensures c.chosen.ensures c.if-off-c.true)

pub returns-else-off-c : goal.returns-else-off-c
returns-else-off-c c =
    unaltered c.told-image choose
    (stays (view c.args.image.now) c.choice-c.ensures c.off.ensures c.chosen.ensures c.if-off-c.false)
