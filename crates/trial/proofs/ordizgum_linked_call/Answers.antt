-- The report of the call as numbers, the first of which is the answer.
use mathlib.Core.Path.{ap, ◌∙◌}
use mathlib.Core.List.{List}
use Prim.Native.Nat.{ℕ}
use lib.ListN.{get_or}
use Rattle.rules.specs.Reports.{report_numbers}
use Rattle.trial.proofs.ordizgum_linked_call.Goals as goal

pub returns : goal.returns
returns c =
    let numbers = c.as_numbers-numbers.ensures ∙ ap report_numbers c.call-told.ensures.report in record { answer = ap (λ (l : List ℕ). get_or l 0 0) numbers; report = numbers; image = c.call-told.ensures.image }
