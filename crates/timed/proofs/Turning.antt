-- A turn: who runs heads the highest ready list that isn't empty and shares it, so it goes behind all others there, and who stood next is chosen.
use Rattle.std.proofs.Common.{◌≡◌, ℕ, zero, suc, ◌-◌, ◌<◌, ◌≤◌, true, cond, ◌&&◌, ltb, leb, List, [], ◌∷◌, length, get_or, drop, sym, refl, ap, ◌∙◌, subst, inl, inr, arith, length-append, lt-ltb, eq-eqb, ne_eqb, le-leb, leb-true}
use native.Mathlib.Decide.{dec_lt}
use Rattle.sequences.specs.Lists.{alter, count, head_or, last_nonempty, snoc, without}
use Rattle.sequences.specs.Links.{head_link}
use Rattle.sequences.proofs.Tests.{left, right}
use Rattle.sequences.proofs.Counts.{count_all-at, count-there, count-first, length_without}
use Rattle.sequences.proofs.Highest.{Last, highest, head_first}
use Rattle.sequences.proofs.Parts.{counted_any}
use Rattle.sequences.proofs.Places.{alter-at, alter_other, alter_twice, alter-keeps, alter_alike}
use Rattle.sequences.proofs.Removal.{without-none}
use Rattle.model.specs.declared.tables.Thread.{Thread}
use Rattle.model.specs.State.{State, scheduling_on, absent_thread, nobody, thread_count}
use Rattle.model.specs.Parts.{thread, ready_list, with_chosen, with_threads, with_left, alter_thread, refilled}
use Rattle.model.specs.Words.{is_ready, leave, enter_ready, become_ready, settle, choice, choose}
use Rattle.model.specs.Tick.{quantum_counts}
use Rattle.model.specs.Layout.{view}
use Rattle.placed.specs.Placed.{Placed}
use Rattle.placed.proofs.Standing.{alter-placed, standing_below}
use Rattle.placed.proofs.Leaving.{leave-from-ready}
use Rattle.placed.proofs.Entering.{become_ready-placed}
use Rattle.theorems.proofs.LeapPlaced.{chosen_below}
use Rattle.words.specs.Images.{Whole}
use Rattle.words.proofs.Firsts.{head_linked, one-first, linked_long}
use Rattle.timed.specs.Counters.{running}
use Rattle.timed.specs.Turns.{turn_over, take_turns}

-- ---- among lists

-- the last that isn't empty, told by its number
last-told : (ls : List (List ℕ)) (p : ℕ) → 0 < length (get_or ls p []) → ((r : ℕ) → p < r → length (get_or ls r []) ≡ 0) → last_nonempty ls ≡ get_or ls p []
last-told ls p some above =
    elim (highest ls) [
      | inl none ↦ absurd (omega (arith, some, none.all p))
      | inr found ↦ found.1.is ∙ ap (λ (k : ℕ). get_or ls k []) (same found.0 found.1)
    ]
  where
    same : (q : ℕ) → Last ls q → q ≡ p
    same q h =
        elim (dec_lt p q) [
          | yes k ↦ absurd (omega (arith, above q k, h.some))
          | no k ↦
              elim (dec_lt q p) [
                | yes j ↦ absurd (omega (arith, h.above p j, some))
                | no j ↦ omega arith
              ]
        ]

-- x from its place behind all others
abbrev turned : ℕ → List ℕ → List ℕ
turned x l = snoc x (without x l)

turned_long : (x : ℕ) (l : List ℕ) → count x l ≡ 1 → length (turned x l) ≡ length l
turned_long x l once = omega (arith, once, length_without x l, length-append (without x l) (x ∷ []))

snoc-some : (x : ℕ) (l : List ℕ) → 0 < head_link (snoc x l)
snoc-some x [] = omega arith
snoc-some x (y ∷ l) = omega arith

-- from the first place
module _ (x y : ℕ) (l : List ℕ) (first : y ≡ x) where
  once-first : count x (y ∷ l) ≡ 1 → count x l ≡ 0
  once-first once = let k = rw (eq-eqb y x first) at once in omega (arith, k)

  turned_first : count x l ≡ 0 → turned x (y ∷ l) ≡ snoc x l
  turned_first none = rw (eq-eqb y x first, without-none x l none)

-- there another is first then, where it isn't alone
turned_other : (x : ℕ) (l : List ℕ) → get_or l 0 0 ≡ x → count x l ≡ 1 → 2 ≤ length l → (head_link (turned x l) - 1 ≡ x → ⊥)
turned_other x [] first once more e = absurd (omega arith)
turned_other x (y ∷ []) first once more e = absurd (omega arith)
turned_other x (y ∷ z ∷ l) first once more e =
    let none = once-first x y (z ∷ l) first once in
    let is : head_link (turned x (y ∷ z ∷ l)) ≡ suc z = ap head_link (turned_first x y (z ∷ l) first none) in
    let same : z ≡ x = omega (arith, is, e) in
    let there : 0 < count x (z ∷ l) = subst (λ (k : ℕ). 0 < count k (z ∷ l)) same (count-first z l) in
    omega (arith, none, there)

-- ---- a quantum renewed

-- what is left becomes what the quantum is
pub renewed : (i : ℕ) (s : State) {q : ℕ} → q ≡ (thread i s).quantum → alter_thread i (with_left q) s ≡ alter_thread i refilled s
renewed i s {q} all =
    ap (λ (l : List Thread). with_threads l s)
    (alter_alike (with_left q) refilled absent_thread s.threads i (ap (λ (k : ℕ). with_left k (thread i s)) all))

-- ---- choosing another

module _ (u : State) (d : ℕ) (on : scheduling_on u ≡ true) where
  chooses : choice u ≡ d → (d ≡ u.chosen → ⊥) → choose u ≡ with_chosen d (alter_thread d refilled u)
  unfolding choose
  chooses is other = rw (is, on, ne_eqb d u.chosen other)

  -- whose whole quantum runs then, if it has one
  runs : d < length u.threads → 2 ≤ length (ready_list (thread d u).current u)
      → running (with_chosen d (alter_thread d refilled u)) ≡ (thread d u).quantum
  unfolding quantum_counts
  runs there shared =
      let long = le-leb 2 (length (ready_list (thread d u).current u)) shared in
      rw (alter-at refilled d u.threads absent_thread there, on, long) (all (thread d u).quantum)
    where
      all : (q : ℕ) → cond (true && ltb 0 q && true) q 0 ≡ q
      all zero = refl
      all (suc q) = rw (lt-ltb 0 (suc q) (omega arith))

-- ---- in a table

-- who has a quantum is a thread
pub chosen-named : {b : List ℕ} → Whole b → quantum_counts (view b) ≡ true → {i : ℕ} → i ≡ (view b).chosen → i < 16
chosen-named {b} w counts e = omega (arith, e, chosen_below (view b) w.placed counts)

module _ {s : State} (w : Placed s) (counts : quantum_counts s ≡ true) (first : choice s ≡ s.chosen) where
  abbrev c : ℕ
  c = s.chosen

  abbrev p : ℕ
  p = (thread c s).current

  on : scheduling_on s ≡ true
  unfolding quantum_counts
  on =
      let a = scheduling_on s in
      let b = ltb 0 (thread c s).quantum in
      left a b (left (a && b) (leb 2 (length (ready_list p s))) counts)

  shared : 2 ≤ length (ready_list p s)
  unfolding quantum_counts
  shared =
      let n = length (ready_list p s) in
      leb-true 2 n (right (scheduling_on s && ltb 0 (thread c s).quantum) (leb 2 n) counts)

  below : c < thread_count
  below = chosen_below s w counts

  heads : Last s.ready p × (get_or (ready_list p s) 0 0 ≡ c)
  heads =
      elim (highest s.ready) [
        | inl none ↦ absurd (omega (arith, below, sym first ∙ ap (λ (l : List ℕ). head_or l nobody) none.is))
        | inr found ↦
            let q = found.0 in
            let l = get_or s.ready q [] in
            let some = found.1.some in
            let is : get_or l 0 0 ≡ c = sym (head_first l nobody some) ∙ sym (ap (λ (k : List ℕ). head_or k nobody) found.1.is) ∙ first in
            let level : p ≡ q = w.level q c (subst (λ (k : ℕ). 0 < count k l) is (count-there l 0 some)) in
            subst (λ (k : ℕ). Last s.ready k × (get_or (get_or s.ready k []) 0 0 ≡ c)) (sym level) (found.1, is)
      ]

  once : count c (ready_list p s) ≡ 1
  once =
      let l = ready_list p s in
      let there : 0 < count c l = subst (λ (k : ℕ). 0 < count k l) heads.1 (count-there l 0 heads.0.some) in
      omega (arith, there, w.once c, count_all-at c s.ready p)

  pub chosen-ready : is_ready c s ≡ true
  chosen-ready = counted_any c s.ready (omega (arith, once, count_all-at c s.ready p))

  refilled-placed : Placed (alter_thread c refilled s)
  refilled-placed = alter-placed c refilled s (λ t. refl) w

  turn_over-placed : Placed (turn_over s)
  unfolding turn_over
  turn_over-placed = become_ready-placed c (alter_thread c refilled s) below refilled-placed

  lists_turned : (turn_over s).ready ≡ alter p (turned c) s.ready
  unfolding turn_over become_ready enter_ready
  lists_turned =
      ap (λ (v : State). alter (thread c v).current (snoc c) v.ready) (leave-from-ready refilled-placed c p (omega (arith, once)))
      ∙ ap (λ (k : ℕ). alter k (snoc c) (alter p (without c) s.ready))
      (alter-keeps (λ (t : Thread). t.current) refilled (λ t. refl) c s.threads c absent_thread)
      ∙ alter_twice (snoc c) (without c) p s.ready

  list_turned : ready_list p (turn_over s) ≡ turned c (ready_list p s)
  list_turned = ap (λ (ls : List (List ℕ)). get_or ls p []) lists_turned ∙ alter-at (turned c) p s.ready [] heads.0.within

  still-on : scheduling_on (turn_over s) ≡ true
  unfolding turn_over become_ready enter_ready leave
  still-on = on

  still-chosen : (turn_over s).chosen ≡ c
  unfolding turn_over become_ready enter_ready leave
  still-chosen = refl

  -- who is first after the turn, by the link to it
  module _ {link : ℕ} (e : link ≡ head_link (ready_list p (turn_over s))) where
    abbrev heir : ℕ
    heir = link - 1

    abbrev now : List ℕ
    now = ready_list p (turn_over s)

    link_turned : link ≡ head_link (turned c (ready_list p s))
    link_turned = e ∙ ap head_link list_turned

    pub some_heir : 0 < link
    some_heir = omega (arith, link_turned, snoc-some c (without c (ready_list p s)))

    heir_there : 0 < count heir now
    heir_there = subst (λ (l : List ℕ). 0 < count heir l) (sym (one-first now link e some_heir)) (count-first heir (drop 1 now))

    pub heir_below : heir < thread_count
    heir_below = standing_below turn_over-placed heir (omega (arith, heir_there, count_all-at heir (turn_over s).ready p))

    above : (r : ℕ) → p < r → length (ready_list r (turn_over s)) ≡ 0
    above r h =
        ap (λ (ls : List (List ℕ)). length (get_or ls r [])) lists_turned
        ∙ ap length (alter_other (turned c) p s.ready r [] (λ k. omega (arith, h, k)))
        ∙ heads.0.above r h

    heir_chosen : choice (turn_over s) ≡ heir
    heir_chosen =
        let some : 0 < head_link now = omega (arith, e, some_heir) in
        ap (λ (l : List ℕ). head_or l nobody) (last-told (turn_over s).ready p (linked_long now some) above)
        ∙ head_linked now nobody some
        ∙ ap (λ (k : ℕ). k - 1) (sym e)

    heir_other : heir ≡ (turn_over s).chosen → ⊥
    heir_other same =
        turned_other c (ready_list p s) heads.1 once shared (ap (λ (k : ℕ). k - 1) (sym link_turned) ∙ same ∙ still-chosen)

    turn_taken : take_turns s ≡ with_chosen heir (alter_thread heir refilled (turn_over s))
    unfolding take_turns settle
    turn_taken = chooses (turn_over s) heir still-on heir_chosen heir_other

    pub heir_takes : {q : ℕ} → q ≡ (thread heir (turn_over s)).quantum
        → with_chosen heir (alter_thread heir (with_left q) (turn_over s)) ≡ take_turns s
    heir_takes same = ap (λ (u : State). with_chosen heir u) (renewed heir (turn_over s) same) ∙ sym turn_taken

    pub heir_runs : running (take_turns s) ≡ (thread heir (turn_over s)).quantum
    heir_runs =
        let u = turn_over s in
        let level : (thread heir u).current ≡ p = turn_over-placed.level p heir heir_there in
        let long : 2 ≤ length now = omega (arith, ap length list_turned, turned_long c (ready_list p s) once, shared) in
        ap running turn_taken
        ∙ runs u heir still-on (omega (arith, heir_below, turn_over-placed.threads))
        (subst (λ (k : ℕ). 2 ≤ length (ready_list k u)) (sym level) long)
