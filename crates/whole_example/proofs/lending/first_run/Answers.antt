-- Each call begins with the table that the one before it left.
use Rattle.std.proofs.Common.{◌≡◌, ap, ◌∙◌}
use Rattle.model.specs.declared.requests.Request.{Request}
use Rattle.model.specs.declared.answers.Report.{Report}
use Rattle.model.specs.Promises.{advancing}
use Rattle.lent.specs.declared.Held.{Held}
use Rattle.lent.specs.declared.Replied.{Replied}
use Rattle.lent.specs.Held.{call_held}
use Rattle.whole_example.specs.declared.lending.Told.{Told}
use Rattle.whole_example.specs.Run.{first_run}
use Rattle.whole_example.proofs.lending.first_run.Goals as goal

from-left : {k : Replied} {h g : Held} (q : Request) → k ≡ call_held h q → h ≡ g → k ≡ call_held g q
from-left q e p = e ∙ ap (λ (t : Held). call_held t q) p

all-told : {a b c x y z : Report} → a ≡ x → b ≡ y → c ≡ z
    → ◌≡◌ {A = Told} (record { created = a; started = b; advanced = c }) (record { created = x; started = y; advanced = z })
all-told {a} {b} {c} {x} {y} {z} p q r =
    ap (λ (v : Report). record { created = v; started = b; advanced = c }) p
    ∙ ap (λ (v : Report). record { created = x; started = v; advanced = c }) q
    ∙ ap (λ (v : Report). record { created = x; started = y; advanced = v }) r

pub returns : goal.returns
unfolding first_run
returns c =
    let created = from-left c.args.create c.call-created.ensures c.fresh.ensures in
    let started = from-left c.args.start c.call-started.ensures (ap (λ (k : Replied). k.table) created) in
    let advanced = from-left (advancing c.args.ticks) c.advance-advanced.ensures (ap (λ (k : Replied). k.table) started) in
    all-told (ap (λ (k : Replied). k.report) created) (ap (λ (k : Replied). k.report) started) (ap (λ (k : Replied). k.report) advanced)
