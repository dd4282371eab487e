-- An accepted call but 22 is its effect and then the choice.
use mathlib.Core.Path.{sym}
use mathlib.Core.Bool.{true}
use Rattle.model.specs.Calls.{numbered}
use Rattle.model.specs.Kernel.{perform}
use Rattle.model.specs.Before.{view}
use Rattle.table.proofs.Views.{and_then, same_word}
use Rattle.theorems.proofs.Numbered.{performed}
use Rattle.kernel.proofs.perform.Goals as goal

pub returns : goal.returns
returns c =
    let q = c.args.q in
    let v = view c.args.t c.args.rows.now in
    same_word (perform true (numbered q.call) q) (and_then c.effect-u.ensures c.choose.ensures)
    (sym (performed q v q.call c.requires.call_bound c.requires.accepted.passed))
