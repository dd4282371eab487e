-- The lists that the links lead through are the ready lists and then all others, so the number of a thread's list among them tells where the
-- thread stands.
use mathlib.Core.Path.{◌≡◌, refl, sym, ap, ◌∙◌}
use mathlib.Core.Bool.{false, ◌&&◌}
use mathlib.Core.List.{List}
use Prim.Native.Nat.{ℕ, ◌+◌, ◌<◌, ◌≤◌}
use native.Mathlib.Omega.{arith}
use borrow.Author.Tests.{lt-ltb, le-ltb, ltb-true, le-leb, leb-true}
use lib.Dec.{leb, ltb, eqb}
use lib.ListN.{length}
use Rattle.sequences.specs.Lists.{count, count_all, first_at, among}
use Rattle.sequences.proofs.Counts.{among-count, among_any-count, count_all-at}
use Rattle.sequences.proofs.Searches.{first-behind}
use Rattle.sequences.proofs.Parts.{list-told, list-before}
use Rattle.sequences.proofs.Tests.{same_truth}
use Rattle.links.specs.Walks.{Enters}
use Rattle.model.specs.State.{thread_count, priority_count, stopped_list, first_wait_list}
use Rattle.model.specs.Parts.{list}
use Rattle.model.specs.Words.{is_ready, is_stopped, is_waiting, list_of}
use Rattle.model.specs.Layout.{view, linked_lists, lists_of}
use Rattle.placed.proofs.Leaving.{waiting_list}
use Rattle.layout.proofs.Viewed.{list_linked, counts_linked}
use Rattle.words.specs.Images.{Whole, Off}

-- who stands on none may enter any
pub enters : {b : List ℕ} {i k : ℕ} → Off b i → k < linked_lists → Enters thread_count linked_lists i k (lists_of b)
enters {b} {i} o h = record { id = o.given.thread; small = omega arith; list = h; off = sym (counts_linked b i) ∙ o.off }

-- ---- the number of a thread's list

module _ {b : List ℕ} (w : Whole b) (i : ℕ) {k : ℕ} (e : k ≡ first_at (among i) (lists_of b)) where
  many : length (lists_of b) ≡ linked_lists
  many = w.links.many

  once : count_all i (lists_of b) ≤ 1
  once = w.links.apart.once i

  pub ready-told : ltb k priority_count ≡ is_ready i (view b)
  unfolding view
  ready-told = rw e (list-before i priority_count (lists_of b) (omega (arith, many)))

  pub stopped-told : eqb k (priority_count + stopped_list) ≡ is_stopped i (view b)
  stopped-told =
      rw e (list-told i (lists_of b) (priority_count + stopped_list) once (omega (arith, many)))
      ∙ ap (among i) (sym (list_linked b stopped_list))

  pub other_told : priority_count ≤ k → k ≡ priority_count + list_of i (view b)
  unfolding view
  other_told h = e ∙ first-behind (among i) priority_count (lists_of b) (rw e at h)

  pub waiting_told : priority_count ≤ k → (leb (priority_count + first_wait_list) k && ltb k linked_lists) ≡ is_waiting i (view b)
  waiting_told h =
      let j = list_of i (view b) in
      let at = other_told h in
      let least =
      same_truth (leb 10 k) (leb 2 j) (λ t. le-leb 2 j (omega (arith, leb-true 10 k t))) (λ t. le-leb 10 k (omega (arith, leb-true 2 j t)))
      in
      let most =
      same_truth (ltb k 26) (ltb j 18) (λ t. lt-ltb j 18 (omega (arith, ltb-true k 26 t))) (λ t. lt-ltb k 26 (omega (arith, ltb-true j 18 t)))
      in
      rw (least, most) (sym (waiting_list w.placed i j refl))

-- ---- who is no thread stands nowhere

module _ {b : List ℕ} (w : Whole b) (i : ℕ) (past : thread_count ≤ i) where
  pub none_ready : is_ready i (view b) ≡ false
  none_ready = among_any-count i (view b).ready ∙ le-ltb 0 (count_all i (view b).ready) (omega (arith, w.placed.known i past))

  pub none-stopped : is_stopped i (view b) ≡ false
  none-stopped =
      let l = list stopped_list (view b) in
      among-count i l
      ∙ le-ltb 0 (count i l) (omega (arith, w.placed.known i past, count_all-at i (view b).waits stopped_list))
