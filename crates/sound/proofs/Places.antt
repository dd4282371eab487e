-- The links of a thread, and where it stands, told by its mark.
use mathlib.Core.Path.{◌≡◌, ◌∙◌, ap}
use mathlib.Core.Bool.{cond}
use mathlib.Core.List.{List, []}
use Prim.Native.Nat.{ℕ, ◌+◌, ◌<◌}
use native.Mathlib.Omega.{arith}
use lib.Dec.{eqb, ltb}
use lib.ListN.{get_or, take, drop, length-drop}
use lib.Seq.{get_or-drop, drop-drop, take_all}
use Rattle.sequences.specs.Lists.{among, among_any, count_all}
use Rattle.sequences.specs.Links.{Orderly}
use Rattle.links.specs.Noted.{mark}
use Rattle.model.specs.Words.{sleeps, is_waiting, awaits_flags}
use Rattle.model.specs.Layout.{view, links_part, lists_of}
use Rattle.fields.specs.Fields.{Sized}
use Rattle.layout.proofs.Viewed.{list_linked, counts_linked, link_read}
use Rattle.sound.specs.Asked.{next_link, previous_link}
use Rattle.sound.proofs.Marks.{mark-counted, mark_on, mark-rear}

module _ (b : List ℕ) where
  -- those that can be waited on for an object
  pub wait-list-seen : (k : ℕ) → get_or (drop 2 (view b).waits) k [] ≡ get_or (lists_of b) (10 + k) []
  wait-list-seen k =
      let e : 8 + (2 + k) ≡ 10 + k = omega arith in
      get_or-drop 2 (view b).waits k [] ∙ list_linked b (2 + k) ∙ ap (λ (j : ℕ). get_or (lists_of b) j []) e

  module _ (size : Sized b) (i : ℕ) (h : i < 16) where
    pub next-seen : get_or (links_part b) i 0 ≡ next_link i b
    next-seen = link_read b size i (omega arith)

    pub previous_seen : get_or (links_part b) (42 + i) 0 ≡ previous_link i b
    previous_seen =
        let e : 478 + (42 + i) ≡ 520 + i = omega arith in
        link_read b size (42 + i) (omega arith) ∙ ap (λ (k : ℕ). get_or b k 0) e

  module _ (w : Orderly 16 26 (links_part b)) (i : ℕ) where
    pub standing-marked : count_all i (view b).ready + count_all i (view b).waits ≡ cond (eqb (mark i (lists_of b)) 0) 0 1
    standing-marked = counts_linked b i ∙ mark-counted w.apart i

    pub sleeps-marked : sleeps i (view b) ≡ eqb (mark i (lists_of b)) 9
    sleeps-marked = ap (among i) (list_linked b 0) ∙ mark_on w.apart i 8

    pub waiting_marked : is_waiting i (view b) ≡ ltb 10 (mark i (lists_of b))
    unfolding view
    waiting_marked = ap (among_any i) (drop-drop 2 8 (lists_of b)) ∙ mark-rear w.apart i 10

    pub flags-marked : awaits_flags i (view b) ≡ ltb 22 (mark i (lists_of b))
    unfolding view
    flags-marked =
        ap (λ (ls : List (List ℕ)). among_any i (take 4 ls)) (drop-drop 14 8 (lists_of b))
        ∙ ap (among_any i) (take_all 4 (drop 22 (lists_of b)) (omega (arith, length-drop 22 (lists_of b), w.many)))
        ∙ mark-rear w.apart i 22
