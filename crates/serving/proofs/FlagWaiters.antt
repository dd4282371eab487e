-- A walk along the wait list of a flag object on which threads are woken as it comes to them: the link to the next is read before one may
-- leave. Who is still to come stands at the end of the list in the old order, and what is left to do with them is what was to do at first.
use mathlib.Core.Path.{◌≡◌, sym, ◌∙◌, ap, subst}
use mathlib.Core.Bool.{Bool, true, false, cond}
use mathlib.Core.List.{List, [], ◌∷◌, ◌++◌, append_assoc}
use Prim.Native.Nat.{ℕ, ◌+◌, ◌-◌, ◌<◌, ◌≤◌}
use native.Mathlib.Omega.{arith}
use lib.ListN.{length, get_or, take, drop, length-append, get_or-map}
use lib.Seq.{get_or-take}
use Rattle.sequences.specs.Lists.{count, snoc, without}
use Rattle.sequences.specs.Links.{Chain, along, leads, head_link, last_cell}
use Rattle.sequences.proofs.Counts.{count-append, count-first, count_all-at}
use Rattle.sequences.proofs.Removal.{without-put}
use Rattle.sequences.proofs.Chains.{chain_at, chain_rest, chain_after, chain_along}
use Rattle.model.specs.State.{State, list_count, priority_count, thread_count}
use Rattle.model.specs.Parts.{thread, list, alter_thread, with_delivered}
use Rattle.model.specs.Words.{leave, enter_ready, become_ready, wake, holds}
use Rattle.model.specs.Effects.{wake_each, met}
use Rattle.model.specs.Layout.{view, links_part}
use Rattle.placed.proofs.Standing.{standing_below, short_list}
use Rattle.layout.proofs.Viewed.{list_linked, link_read}
use Rattle.theorems.specs.Meeting.{wake_met}
use Rattle.theorems.proofs.Meeting.{met_next}
use Rattle.words.specs.Images.{Whole, On, Does}
use Rattle.words.proofs.Firsts.{none_first, one-first}
use Rattle.words.proofs.Known.{listed-on}

-- ---- one turn, on the model

-- who is woken leaves the list, all others on it keep their order
turned : (word j i : ℕ) (a b : List ℕ) (s : State) → list j s ≡ a ++ (i ∷ b) → count i (list j s) ≤ 1
    → (k : List ℕ) × (list j (wake_met word i s) ≡ k ++ b)
unfolding wake_met wake become_ready enter_ready leave
turned word j i a b s e once = by_test (holds (thread i s).mode (thread i s).mask word)
  where
    by_test : (t : Bool) → (k : List ℕ) × (list j (cond t (wake i 1 (alter_thread i (with_delivered word) s)) s) ≡ k ++ b)
    by_test true = (a, get_or-map (without i) s.waits j [] ∙ ap (without i) e ∙ without-put i a b (rw e at once))
    by_test false = (snoc i a, e ∙ sym (append_assoc a (i ∷ []) b))

-- ---- the walk

abbrev half : List ℕ → List ℕ
half b = take 42 (links_part b)

-- the threads from a link on
abbrev pub ahead : List ℕ → ℕ → List ℕ
ahead b link = along (leads (half b)) thread_count link

-- the walk along list j has come to a link: those passed that weren't woken stand before the rest, and what is left to do is what was due
pub record Waking (word j : ℕ) (due : State) (b : List ℕ) (link : ℕ) : Type 0 where
  pub whole : Whole b
  pub named : j < list_count
  pub passed : List ℕ
  pub rest : List ℕ
  pub stand : list j (view b) ≡ passed ++ rest
  pub first : link ≡ head_link rest
  pub left : wake_each word (met word rest (view b)) (view b) ≡ due

module _ {word j : ℕ} {due : State} {b : List ℕ} {link : ℕ} (w : Waking word j due b link) where
  once : (x : ℕ) → count x (list j (view b)) ≤ 1
  once x = omega (arith, count_all-at x (view b).waits j, w.whole.placed.once x)

  -- the cell before the list
  abbrev c : ℕ
  c = thread_count + (priority_count + j)

  chain : Chain (leads (half b)) c (w.passed ++ w.rest)
  chain =
      subst (Chain (leads (half b)) c) (sym (list_linked b j) ∙ w.stand)
      (w.whole.links.ahead.chains (8 + j) (omega (arith, w.whole.links.many, w.named)))

  pub ahead-rest : ahead b link ≡ w.rest
  ahead-rest =
      let f = leads (half b) in
      ap (along f 16) (w.first ∙ sym (chain_at f c w.passed w.rest chain))
      ∙ chain_along f (last_cell c w.passed) 16 w.rest (chain_rest f c w.passed w.rest chain)
      (omega (arith, length-append w.passed w.rest, ap length w.stand, short_list w.whole.placed j))

  module _ (more : link ≡ 0 → ⊥) where
    abbrev i : ℕ
    i = link - 1

    abbrev next : List ℕ
    next = drop 1 w.rest

    now : w.rest ≡ i ∷ next
    now = one-first w.rest link w.first (omega (arith, more))

    stands : list j (view b) ≡ w.passed ++ (i ∷ next)
    stands = w.stand ∙ ap (λ (l : List ℕ). w.passed ++ l) now

    counted : 0 < count i (list j (view b))
    counted = rw stands (omega (arith, count-append i w.passed (i ∷ next), count-first i next))

    pub turn_below : i < 16
    turn_below = standing_below w.whole.placed i (omega (arith, counted, count_all-at i (view b).waits j))

    pub turn_on : On b (priority_count + j) i
    turn_on = listed-on (record { whole = w.whole; thread = turn_below }) w.named counted

    rest-once : (x : ℕ) → count x w.rest ≤ 1
    rest-once x = omega (arith, once x, ap (count x) w.stand, count-append x w.passed w.rest)

    -- the link that is read before the turn
    next_link : get_or b (478 + i) 0 ≡ head_link next
    next_link =
        sym (get_or-take 42 (links_part b) i 0 (omega (arith, turn_below)) ∙ link_read b w.whole.size i (omega (arith, turn_below)))
        ∙ chain_after (leads (half b)) c i w.passed next (subst (λ (l : List ℕ). Chain (leads (half b)) c (w.passed ++ l)) now chain)

    pub waking_next : {r : List ℕ} → Does b (wake_met word i) r → Waking word j due r (get_or b (478 + i) 0)
    waking_next {r} d =
        let t = turned word j i w.passed next (view b) stands (once i) in
        record {
          whole = d.whole;
          named = w.named;
          passed = t.0;
          rest = next;
          stand = ap (list j) d.view ∙ t.1;
          first = next_link;
          left =
              rw d.view
              (sym (met_next word w.rest 0 i (view b) (ap (λ (l : List ℕ). get_or l 0 0) now) rest-once (rw now (omega arith))) ∙ w.left);
        }

  pub waking_done : link ≡ 0 → view b ≡ due
  unfolding wake_each
  waking_done e = rw (none_first w.rest link w.first e) at w.left

-- fewer are left with each turn
pub waking_closer : {word j : ℕ} {due : State} {b : List ℕ} {link : ℕ} (w : Waking word j due b link) (more : link ≡ 0 → ⊥)
    → {r : List ℕ} → Does b (wake_met word (link - 1)) r → length (ahead r (get_or b (478 + (link - 1)) 0)) < length (ahead b link)
unfolding waking_next
waking_closer {b = b} {link = link} w more {r} d =
    let left : ahead r (get_or b (478 + (link - 1)) 0) ≡ drop 1 w.rest = ahead-rest (waking_next w more d) in
    omega (arith, ap length (ahead-rest w), ap length (now w more), ap length left)
