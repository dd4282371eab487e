-- A call on a sound stored table is the model's call on what is seen of it, laid out again; and a sound table is what is seen of it, laid
-- out. So what holds of the model's calls holds of the code's.
use mathlib.Core.Path.{◌≡◌, sym, ◌∙◌, ap, ap₂}
use mathlib.Core.Bool.{true}
use Rattle.sequences.proofs.Tests.{right}
use Rattle.model.specs.declared.requests.Request.{Request}
use Rattle.model.specs.declared.tables.Table.{Table}
use Rattle.model.specs.State.{State}
use Rattle.model.specs.Sound.{sound}
use Rattle.model.specs.Kernel.{call}
use Rattle.model.specs.Before.{Rows, view, lay_table, lay_rows, orderly, sound_table, Laid, laid, call_by, call_table}
use Rattle.model.specs.Stored.{Stored, seen, is_sound, called, told, kept}
use Rattle.table.proofs.Stored.{view-laid, laid_table, laid-rows, sound-whole}

pub called-sound : (k : Stored) (q : Request) → is_sound k ≡ true → called k q ≡ laid (call (seen k) q)
unfolding call_table call_by
called-sound k q whole = rw whole

pub sound-seen : (k : Stored) → is_sound k ≡ true → sound (seen k) ≡ true
unfolding sound_table
sound-seen k whole = right (orderly k.table k.rows) (sound (seen k)) whole

pub seen-kept : (k : Stored) (q : Request) → is_sound k ≡ true → seen (kept k q) ≡ (call (seen k) q).after
seen-kept k q whole = ap (λ (l : Laid). view l.reply.table l.rows) (called-sound k q whole) ∙ view-laid (call (seen k) q).after

pub told-sound : (k : Stored) (q : Request) → is_sound k ≡ true → told k q ≡ (call (seen k) q).report
told-sound k q whole = ap (λ (l : Laid). l.reply.report) (called-sound k q whole)

-- ---- a table laid out

-- a state as it is stored
abbrev pub lay : State → Stored
lay s = record { table = lay_table s; rows = lay_rows s }

pub sound-laid : (k : Stored) → is_sound k ≡ true → lay (seen k) ≡ k
sound-laid k whole =
    let w = (sound-whole {t = k.table} {rows = k.rows} whole).order in
    ap₂ (λ (t : Table) (rows : Rows). record { table = t; rows = rows }) (laid_table w) (laid-rows w)

pub kept-laid : (k : Stored) (q : Request) → is_sound k ≡ true → kept k q ≡ lay (call (seen k) q).after
kept-laid k q whole = ap (λ (l : Laid). record { table = l.reply.table; rows = l.rows }) (called-sound k q whole)

-- two sound tables that are seen alike are the same
pub same_stored : (k l : Stored) → is_sound k ≡ true → is_sound l ≡ true → seen k ≡ seen l → k ≡ l
same_stored k l p q e = sym (sound-laid k p) ∙ ap lay e ∙ sound-laid l q
