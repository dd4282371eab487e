-- A call of a table by its number: what it does, where it leaves the rows as they are, or the table too.
use mathlib.Core.Path.{◌≡◌, sym, ap}
use mathlib.Core.Option.{Option, some}
use Rattle.model.specs.declared.requests.Request.{Request}
use Rattle.model.specs.declared.tables.Table.{Table}
use Rattle.model.specs.Calls.{Call, numbered, advance}
use Rattle.model.specs.Before as layout
use Rattle.model.specs.Before.{view}
use Rattle.table.specs.Orderly.{Meets, Does}
use Rattle.table.proofs.Stored.{sound-whole}
use Rattle.table.proofs.Views.{does, same_word}
use Rattle.theorems.specs.Effect.{effect_of, effect_by, effect}
use Rattle.kernel.specs.Allowed.{Accepted}

pub meets_effect : {t r : Table} {rows : layout.Rows} {q : Request} (c : Call) → numbered q.call ≡ some c → Accepted q t rows → Meets t (effect_of c q) r
    → Does t rows (effect q) r rows
unfolding effect_by
meets_effect {t} {r} {rows} {q} c names a m =
    same_word (effect q) (does rows (sound-whole a.sound).order m) (ap (λ (o : Option Call). effect_by o q (view t rows)) (sym names))

pub no_effect : {t : Table} {rows : layout.Rows} {q : Request} → numbered q.call ≡ some advance → Accepted q t rows → Does t rows (effect q) t rows
unfolding effect_of effect_by
no_effect {t} {rows} {q} names a =
    record { order = (sound-whole a.sound).order; view = ap (λ (o : Option Call). effect_by o q (view t rows)) (sym names) }
