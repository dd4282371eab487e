-- What is told and left of the bytes that a table holds is the call on that table.
use mathlib.Core.Path.{◌≡◌, sym, ap, ap₂}
use mathlib.Core.List.{List}
use Prim.Native.Nat.{ℕ}
use Rattle.model.specs.declared.answers.Report.{Report}
use Rattle.model.specs.declared.requests.Request.{Request}
use Rattle.lent.specs.declared.Held.{Held}
use Rattle.lent.specs.declared.Replied.{Replied}
use Rattle.in_place.specs.Kept.{told, kept}
use Rattle.lent.specs.Held.{call_held}

abbrev replied : Report → List ℕ → Replied
replied r b = record { report = r; table = record { image = b } }

pub held_call : {r : Report} {b : List ℕ} (t : Held) (q : Request) → (r ≡ told t.image q) × (b ≡ kept t.image q) → replied r b ≡ call_held t q
unfolding call_held
held_call t q e = ap₂ replied e.0 e.1

-- a thin call that stores the old table fits no contract of a call that changes it
pub old_table_unfit : (t : Held) (q : Request) {r : Report} → (kept t.image q ≡ t.image → ⊥) → record { report = r; table = t } ≡ call_held t q → ⊥
unfolding call_held
old_table_unfit t q changes e = changes (sym (ap (λ (y : Replied). y.table.image) e))
