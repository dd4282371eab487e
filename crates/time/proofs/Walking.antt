-- A walk in code over records of one kind, each in its turn: after every turn the table is whole again, and what was noted on the way holds.
use Rattle.std.proofs.Common.{◌≡◌, ℕ, ◌+◌, ◌<◌, List, length, get_or, take, ap, ◌∙◌}
use Rattle.sequences.specs.Lists.{nearer}
use Rattle.sequences.proofs.Walks.{Walk, walk_start, walk-next}
use Rattle.model.specs.declared.tables.Table.{Table}
use Rattle.model.specs.State.{State}
use Rattle.model.specs.Before as layout
use Rattle.model.specs.Before.{view}
use Rattle.placed.specs.Placed.{Placed}
use Rattle.table.specs.Orderly.{Whole, Does}
use Rattle.table.proofs.Rooms.{whole_then}

-- a turn that leaves x as the record at place o
pub record Turn {A : Type 0} (word : State → State) (places : State → List A) (absent : A) (o : ℕ) (t : Table) (rows : layout.Rows) (r : Table) (after : layout.Rows) (x : A) : Type 0 where
  pub does : Does t rows word r after
  pub own : x ≡ get_or (places (view r after)) o absent

-- o turns from `start`, which led to this table
pub record Walking {A : Type 0} (step : ℕ → State → State) (places : State → List A) (counter : A → ℕ) (first : ℕ) (start : State) (o : ℕ) (t : Table) (rows : layout.Rows) (least : ℕ) : Type 0 where
  pub whole : Whole t rows
  pub walk : Walk step places counter first start o (view t rows) least

module _ {A : Type 0} (step : ℕ → State → State) (places : State → List A) (counter : A → ℕ) (first : ℕ) where
  pub walking_start : {t : Table} {rows : layout.Rows} → Whole t rows → Walking step places counter first (view t rows) 0 t rows first
  walking_start {t} {rows} w = record { whole = w; walk = walk_start step places counter first (view t rows) }

  pub walking_next : (absent : A) {start : State} {o : ℕ} {t : Table} {rows : layout.Rows} {least : ℕ} → Walking step places counter first start o t rows least
      → {r : Table} {after : layout.Rows} {x : A} → Turn (step o) places absent o t rows r after x
      → ((s : State) → Placed s → Placed (step o s)) → take o (places (step o (view t rows))) ≡ take o (places (view t rows)) → o < length (places (view r after))
      → {noted : ℕ} → noted ≡ nearer least (counter x) → Walking step places counter first start (o + 1) r after noted
  walking_next absent {start} {o} {t} {rows} {least} w {r} {after} turn keeps behind there e =
      let d = turn.does in
      record {
        whole = whole_then keeps d w.whole;
        walk =
            rw (e, turn.own)
            (walk-next step places counter first start absent o w.walk d.view (ap (λ (s : State). take o (places s)) d.view ∙ behind) there);
      }
