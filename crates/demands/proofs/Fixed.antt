-- Demand 2 fixes what is accepted, and the table after every call.
use mathlib.Core.Path.{◌≡◌, sym, ◌∙◌, ap}
use mathlib.Core.Bool.{Bool}
use Rattle.model.specs.declared.requests.Request.{Request}
use Rattle.model.specs.State.{State}
use Rattle.model.specs.Answers.{accepted}
use Rattle.model.specs.Calls.{numbered}
use Rattle.model.specs.Kernel.{perform, call}
use Rattle.demands.specs.Demands.{Kernel, Demand2}
use Rattle.demands.proofs.Ours.{ours_2}

pub as_accepted : (K : Kernel) → Demand2 K → (s : State) (q : Request) → accepted (K s q).report.answer ≡ accepted (call s q).report.answer
as_accepted K meets s q = meets.accepts s q ∙ sym (ours_2.accepts s q)

pub as_after : (K : Kernel) → Demand2 K → (s : State) (q : Request) → (K s q).after ≡ (call s q).after
as_after K meets s q =
    meets.effect s q
    ∙ ap (λ (b : Bool). perform b (numbered q.call) q s) (as_accepted K meets s q)
    ∙ sym (ours_2.effect s q)
