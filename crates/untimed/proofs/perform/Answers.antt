-- An accepted call but 22 is its effect and then the choice.
use mathlib.Core.Path.{sym}
use mathlib.Core.Bool.{true}
use Rattle.model.specs.Calls.{numbered}
use Rattle.model.specs.Kernel.{perform}
use Rattle.model.specs.Layout.{view}
use Rattle.theorems.proofs.Numbered.{performed}
use Rattle.words.proofs.Does.{and_then, same_word}
use Rattle.words.proofs.Unmoved.{chosen_does}
use Rattle.untimed.proofs.perform.Goals as goal

pub returns : goal.returns
returns c =
    let q = c.args.q in
    let d = c.effect.ensures in
    same_word (and_then d (chosen_does d.whole c.choose.ensures)) (perform true (numbered q.call) q)
    (sym (performed q (view c.args.image.now) q.call c.requires.call_bound c.requires.accepted.passed))
