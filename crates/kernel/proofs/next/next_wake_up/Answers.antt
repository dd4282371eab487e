-- Counter by counter as the model has it, in its nesting.
use Rattle.std.proofs.Common.{◌≡◌, map, rules, ◌∙◌, ap₂}
use Rattle.std.specs.List.{fold}
use Rattle.sequences.specs.Lists.{nearer}
use Rattle.model.specs.declared.tables.Thread.{Thread}
use Rattle.model.specs.declared.tables.Timer.{Timer}
use Rattle.model.specs.Time.{next}
use Rattle.model.specs.Before.{view}
use Rattle.kernel.proofs.Nearest.{nearest_in_turn}
use Rattle.kernel.proofs.next.next_wake_up.Goals as goal

pub returns : goal.returns
unfolding next view
returns c rows w =
    let times = map (λ (x : Timer). x.left) c.args.t.timers in
    let limits = map (λ (x : Thread). x.limit) c.args.t.threads in
    let timer : c.fold-timer.result ≡ fold nearer 0 times = search rules in
    let limit : c.fold-limit.result ≡ fold nearer 0 limits = search rules in
    c.nearer.ensures
    ∙ ap₂ nearer (c.from-quantum.ensures ∙ c.quantum_left.ensures rows w)
    (c.nearer-later.ensures ∙ ap₂ nearer (timer ∙ nearest_in_turn times) (limit ∙ nearest_in_turn limits))
