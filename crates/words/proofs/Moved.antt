-- The links' part put back as the links of changed lists: each word that moves a thread is such a change, and leaves threads standing as they must.
use mathlib.Core.Path.{◌≡◌}
use mathlib.Core.List.{List, [], map}
use Prim.Native.Nat.{ℕ, ◌+◌}
use borrow.Rule.Slice.PartMut.{put_mid}
use lib.ListN.{get_or}
use Rattle.sequences.specs.Lists.{alter, insert_at, snoc, without}
use Rattle.sequences.specs.Links.{Linked}
use Rattle.links.specs.Walks.{Behind}
use Rattle.model.specs.State.{thread_count, priority_count}
use Rattle.model.specs.Parts.{thread}
use Rattle.model.specs.Words.{leave, enter_tail, enter_ready, rank, enter_by_priority}
use Rattle.model.specs.Layout.{view, linked_lists, links_first, links_length, lists_of}
use Rattle.placed.proofs.Standing.{leave-placed}
use Rattle.placed.proofs.Entering.{enter_tail-placed, enter_ready-placed, enter_by_priority-placed}
use Rattle.layout.proofs.Listed.{leave-listed, enter_tail-listed, enter_ready-listed, enter_by_priority-listed}
use Rattle.layout.proofs.Viewed.{list_linked}
use Rattle.words.specs.Images.{Does, Given, Off, OffFor, Spotted}
use Rattle.words.proofs.Does.{relinked_does}

abbrev Links : List ℕ → List (List ℕ) → Type 0
Links new ls = Linked thread_count linked_lists new ls

abbrev relinked : List ℕ → List ℕ → List ℕ
relinked b new = put_mid links_first links_length b new

module _ {b new : List ℕ} {i : ℕ} where
  pub left : Given b i → Links new (map (without i) (lists_of b)) → Does b (leave i) (relinked b new)
  left g v = relinked_does (leave i) g.whole v (leave-listed b i) (leave-placed i (view b) g.whole.placed)

  pub entered_ready : {p : ℕ} → Off b i → p ≡ (thread i (view b)).current → Links new (alter p (snoc i) (lists_of b))
      → Does b (enter_ready i) (relinked b new)
  entered_ready o e v =
      let w = o.given.whole in
      relinked_does (enter_ready i) w (rw e at v) (enter_ready-listed b i (w.placed.priorities i))
      (enter_ready-placed i (view b) o.given.thread o.off w.placed)

  module _ {j : ℕ} (o : OffFor b j i) where
    pub entered_tail : Links new (alter (priority_count + j) (snoc i) (lists_of b)) → Does b (enter_tail j i) (relinked b new)
    entered_tail v =
        let g = o.off.given in
        relinked_does (enter_tail j i) g.whole v (enter_tail-listed b j i)
        (enter_tail-placed j i (view b) o.list g.thread o.off.off g.whole.placed)

    -- behind the cell that so many lead up to as the rank says
    pub entered_behind : {k y : ℕ} → Spotted b j i k y
        → ((k : ℕ) → Behind thread_count (priority_count + j) (get_or (lists_of b) (priority_count + j) []) k y
        → Links new (alter (priority_count + j) (insert_at k i) (lists_of b)))
        → Does b (enter_by_priority j i) (relinked b new)
    entered_behind spot v =
        let g = o.off.given in
        relinked_does (enter_by_priority j i) g.whole (v (rank j i (view b)) (rw (list_linked b j, spot.place) at spot.behind))
        (enter_by_priority-listed b j i)
        (enter_by_priority-placed j i (view b) o.list g.thread o.off.off g.whole.placed)
