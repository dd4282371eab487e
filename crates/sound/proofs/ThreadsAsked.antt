-- The pass over the threads asks the clauses of soundness that speak of threads and of who stands on lists, and what is left of the links: that
-- who stands on no list has none.
use mathlib.Core.Path.{◌≡◌, sym, ◌∙◌}
use mathlib.Core.Bool.{true, ◌&&◌}
use mathlib.Core.List.{List}
use Prim.Native.Nat.{ℕ, zero, suc, ◌<◌}
use native.Mathlib.Omega.{arith}
use borrow.Author.Tests.{eqb-true}
use lib.Dec.{eqb}
use lib.ListN.{get_or}
use lib.Seq.{get_or-take, get_or-drop}
use Rattle.sequences.specs.Lists.{all_true}
use Rattle.sequences.specs.Bytes.{Bytes}
use Rattle.sequences.specs.Links.{Orderly}
use Rattle.sequences.proofs.Tests.{left, right, every_below-at, every_below-from}
use Rattle.sequences.proofs.Reversed.{count_all-reversed}
use Rattle.links.specs.Noted.{mark, Noted}
use Rattle.model.specs.State.{thread_count}
use Rattle.model.specs.Parts.{thread}
use Rattle.model.specs.Sound.{zero_thread}
use Rattle.model.specs.Layout.{view, links_part, linked_lists, lists_of}
use Rattle.fields.specs.Fields.{Sized}
use Rattle.sound.specs.Asked.{next_link, previous_link, nothing_of, thread_asked, threads_asked}
use Rattle.sound.proofs.Sorted.{thread_clauses}
use Rattle.links.proofs.Marks.{unmarked}
use Rattle.sound.proofs.Places.{next-seen, previous_seen}
use Rattle.sound.proofs.AtThread.{asked-stands, stands-asked}
use Rattle.sound.proofs.StandingClauses.{standing-clauses}
use Rattle.sound.proofs.ClausesStanding.{clauses-standing}

module _ (b marks : List ℕ) (o : Bytes b) (size : Sized b) (noted : Noted thread_count linked_lists (links_part b) marks) where
  passed : threads_asked marks b ≡ true → (i : ℕ) → i < 16 → thread_asked (mark i (lists_of b)) i b ≡ true
  unfolding threads_asked
  passed e i h = rw (noted.marked.at i h) at (every_below-at (λ i. thread_asked (get_or marks i 0) i b) 16 i h e)

  unlinked : (m i : ℕ) → m ≡ 0 → thread_asked m i b ≡ true → (next_link i b ≡ 0) × (previous_link i b ≡ 0)
  unfolding nothing_of
  unlinked zero i z e =
      let links = eqb (next_link i b) 0 && eqb (previous_link i b) 0 in
      let none = right (zero_thread (thread i (view b))) links e in (
        eqb-true (next_link i b) 0 (left (eqb (next_link i b) 0) (eqb (previous_link i b) 0) none),
        eqb-true (previous_link i b) 0 (right (eqb (next_link i b) 0) (eqb (previous_link i b) 0) none),
      )
  unlinked (suc j) i z e = absurd (omega arith)

  pub asked-orderly : threads_asked marks b ≡ true → Orderly thread_count linked_lists (links_part b)
  asked-orderly e =
      noted.whole
      (λ i h z.
      let none = unlinked (mark i (lists_of b)) i z (passed e i h) in
      (next-seen b size i h ∙ none.0, previous_seen b size i h ∙ none.1))

  pub asked-threads : threads_asked marks b ≡ true → all_true (thread_clauses (view b)) ≡ true
  asked-threads e = standing-clauses b o size (asked-orderly e) (λ i h. asked-stands i b (mark i (lists_of b)) (passed e i h))

  off_list : Orderly 16 26 (links_part b) → (i : ℕ) → i < 16 → mark i (lists_of b) ≡ 0 → (next_link i b ≡ 0) × (previous_link i b ≡ 0)
  off_list w i h z =
      let none = unmarked i (lists_of b) z in
      let back = w.back.zeros i h (count_all-reversed i (lists_of b) ∙ none) in (
        sym (next-seen b size i h) ∙ sym (get_or-take 42 (links_part b) i 0 (omega arith)) ∙ w.ahead.zeros i h none,
        sym (previous_seen b size i h) ∙ sym (get_or-drop 42 (links_part b) i 0) ∙ back,
      )

  pub threads_pass : Orderly thread_count linked_lists (links_part b) → all_true (thread_clauses (view b)) ≡ true → threads_asked marks b ≡ true
  unfolding threads_asked
  threads_pass w e =
      every_below-from (λ i. thread_asked (get_or marks i 0) i b) 16
      (λ i h.
      rw (noted.marked.at i h)
      (stands-asked i b (mark i (lists_of b)) (off_list w i h) (clauses-standing b size w e i h)))
