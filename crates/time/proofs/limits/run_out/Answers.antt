-- Whether it sleeps is asked of the stored sleep list, which is the list seen; the result goes by that.
use Rattle.std.proofs.Common.{◌≡◌, ℕ, Bool, true, false, cond, sym, ap, ◌∙◌}
use Rattle.sequences.specs.Lists.{among}
use Rattle.model.specs.declared.tables.Table.{Table}
use Rattle.model.specs.State.{sleep_list}
use Rattle.model.specs.Words.{wake}
use Rattle.model.specs.Before as layout
use Rattle.model.specs.Before.{view, ids_of, list_at}
use Rattle.table.specs.Orderly.{Does}
use Rattle.table.proofs.Views.{list-view, same_word}
use Rattle.theorems.specs.Leap.{run_out}
use Rattle.time.proofs.limits.run_out.Goals as goal

woken : {t r : Table} {rows after : layout.Rows} (i : ℕ) (asleep : Bool) → asleep ≡ among i (ids_of (list_at t.waits sleep_list))
    → Does t rows (wake i (cond asleep 1 2)) r after → Does t rows (run_out i) r after
woken {t} {r} {rows} i asleep e d =
    same_word (run_out i) d (ap (λ (b : Bool). wake i (cond b 1 2) (view t rows)) (e ∙ ap (among i) (sym (list-view t rows sleep_list))))

pub returns-then-holds_id : goal.returns-then-holds_id
returns-then-holds_id c =
    woken c.args.i true (sym c.if-holds_id.true ∙ c.holds_id.ensures) c.wake.ensures

pub returns-else-holds_id : goal.returns-else-holds_id
returns-else-holds_id c =
    woken c.args.i false (sym c.if-holds_id.false ∙ c.holds_id.ensures) c.wake-else-holds_id.ensures
