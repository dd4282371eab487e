-- Each way of the test writes what the model's does.
use Rattle.std.proofs.Common.{◌≡◌, ℕ, List, refl, ap, ◌∙◌, eq-eqb, ne_eqb}
use Rattle.sequences.proofs.Places.{alter_alike}
use Rattle.model.specs.declared.tables.Timer.{Timer}
use Rattle.model.specs.State.{unused_timer}
use Rattle.model.specs.Parts.{timer, with_timers, alter_timer, with_time}
use Rattle.model.specs.Tick.{expired}
use Rattle.model.specs.Layout.{view}
use Rattle.fields.specs.Fields.{Alters}
use Rattle.timed.proofs.timers.expire.Goals as goal
use Rattle.timed.proofs.timers.expire.Goals.{then-t-eq1, else-t-eq1}

expires : (b r : List ℕ) (o : ℕ) (t : Timer) {left count : ℕ} → t ≡ timer o (view b) → left ≡ (expired t).left → count ≡ (expired t).count
    → Alters b (alter_timer o (with_time left count)) r → Alters b (alter_timer o expired) r
expires b r o t {left} {count} is e f a =
    record {
      size = a.size;
      view =
          a.view
          ∙ ap (λ (l : List Timer). with_timers l (view b))
          (alter_alike (with_time left count) expired unused_timer (view b).timers o (rw (← is, e, f)));
      links = a.links;
    }

pub returns : goal.returns
returns c =
    let b = c.args.image.now in
    let t = c.args.t in
    let left : c.if-t-eq1.again ≡ (expired t).left =
    elim c.if-t-eq1.branch [
      | then-t-eq1 w ↦ rw (w.again-is, eq-eqb t.repeat 1 w.if-t-eq1.true)
      | else-t-eq1 w ↦ rw (w.again-is, ne_eqb t.repeat 1 w.if-t-eq1.false)
    ]
    in let count : (expired t).count ≡ (expired t).count = refl in
    record { image = expires b c.set_time.new.image c.args.o t c.requires.t_value left count c.set_time.ensures; left = left }
