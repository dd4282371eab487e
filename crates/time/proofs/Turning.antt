-- A row turned over: an id is taken from its place and put behind all others, and the row is as long as before. On its own ready list a
-- thread becomes ready so.
use Rattle.std.proofs.Common.{◌≡◌, ℕ, ◌+◌, ◌-◌, ◌<◌, ◌≤◌, List, [], length, get_or, set, sym, ap, ◌∙◌, subst, arith, get_or-set_same, set-set, ltb-true, lt-ltb}
use lib.Seq.{set-get_or}
use Rattle.sequences.specs.Lists.{alter, count, remove_at, without, snoc, take_each}
use Rattle.sequences.proofs.Counts.{count_all-at, first_counts}
use Rattle.sequences.proofs.Places.{alter_alike, alter_twice}
use Rattle.sequences.proofs.Removal.{without-once}
use Rattle.rows.specs.Row.{Rows, Changed}
use Rattle.rows.proofs.Rows.{length_at}
use Rattle.model.specs.declared.tables.Thread.{Thread}
use Rattle.model.specs.declared.tables.Table.{Table}
use Rattle.model.specs.State.{State}
use Rattle.model.specs.Parts.{with_ready}
use Rattle.model.specs.Words.{enter_ready, become_ready}
use Rattle.model.specs.Before as layout
use Rattle.model.specs.Before.{view, thread_at}
use Rattle.placed.proofs.Leaving.{leave-from-ready}
use Rattle.table.specs.Orderly.{Given, Does}
use Rattle.table.proofs.Views.{table-lengths, stored_row, same_word}
use Rattle.table.proofs.Ready.{found, priority_below}

-- ---- among rows, for any room

module _ {places many : ℕ} {rows : List (List ℕ)} {lengths : List ℕ} (w : Rows places many rows lengths)
    {p k : ℕ} (h : p < many) (at : k < get_or lengths p 0) where
  abbrev less : List ℕ
  less = set lengths p (get_or lengths p 0 - 1)

  one_less : get_or less p 0 ≡ get_or lengths p 0 - 1
  one_less = get_or-set_same lengths p (get_or lengths p 0 - 1) 0 (omega (arith, w.wide))

  pub freed : get_or less p 0 < places
  freed = omega (arith, one_less, (w.each p h).room)

  pub turned : {i : ℕ} {mid after : List (List ℕ)} → Changed places many rows lengths p (get_or lengths p 0 - 1) (remove_at k) mid
      → Changed places many mid less p (get_or less p 0 + 1) (snoc i) after
      → Changed places many rows lengths p (get_or lengths p 0) (λ l. snoc i (remove_at k l)) after
  turned {i} {mid} {after} a b =
      let long : get_or less p 0 + 1 ≡ get_or lengths p 0 = omega (arith, one_less) in
      let back = ap (set less p) long ∙ set-set lengths p (get_or lengths p 0 - 1) (get_or lengths p 0) in
      record {
        order = subst (λ (l : List ℕ). Rows places many after l) back b.order;
        lists =
            ap (λ (l : List ℕ). take_each l after) (sym back)
            ∙ b.lists
            ∙ ap (alter p (snoc i)) a.lists
            ∙ alter_twice (snoc i) (remove_at k) p (take_each lengths rows);
      }

-- ---- on the ready list of a thread that is found there; x is its record

module _ {t : Table} {rows : layout.Rows} {i : ℕ} {x : Thread} (e : x ≡ thread_at t.threads i) (g : Given t rows i)
    {k : ℕ} (at : k ≡ found t rows i x.current) (there : k < get_or t.lengths x.current 0) where
  abbrev s : State
  s = view t rows

  abbrev p : ℕ
  p = x.current

  abbrev ids : List ℕ
  ids = get_or s.ready p []

  counted : 0 < count i ids
  unfolding view
  counted =
      let long : length ids ≡ get_or t.lengths p 0 = length_at g.whole.order.ready p (priority_below e g) in
      let inside : found t rows i p < length ids = rw (← at) (omega (arith, there, long)) in
      ltb-true 0 (count i ids) (sym (first_counts i ids) ∙ lt-ltb (found t rows i p) (length ids) inside)

  without_it : remove_at k ids ≡ without i ids
  unfolding view
  without_it =
      let once : count i ids ≤ 1 = omega (arith, g.whole.placed.once i, count_all-at i s.ready p) in
      rw at (sym (without-once i ids once))

  left-and_entered : with_ready (alter p (snoc i) (alter p (without i) s.ready)) s ≡ become_ready i s
  unfolding view become_ready enter_ready
  left-and_entered = rw (leave-from-ready g.whole.placed i p counted, ← e)

  pub turned_ready : {after : layout.Rows} → Changed 16 8 rows t.lengths p (get_or t.lengths p 0) (λ l. snoc i (remove_at k l)) after
      → Does t rows (become_ready i) t after
  turned_ready {after} ch =
      let ready = s.ready in
      subst (λ (l : List ℕ). Does t rows (become_ready i) (table-lengths l t) after) (set-get_or t.lengths p 0)
      (same_word (become_ready i) (stored_row g.whole.order ch)
      (ap (λ (l : List (List ℕ)). with_ready l s)
      (alter_alike (λ l. snoc i (remove_at k l)) (λ l. snoc i (without i l)) [] ready p (ap (snoc i) without_it)
      ∙ sym (alter_twice (snoc i) (without i) p ready))
      ∙ left-and_entered))
