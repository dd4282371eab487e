-- A walk in place over records of one kind, each in its turn, that notes the place of the nearest counter: after every turn the image is whole, and
-- what was noted still holds, since a turn changes no record but its own. A counter at 0 has nothing to do in its turn, so that the walk may begin
-- at the first that runs and end behind the last.
use Rattle.std.proofs.Common.{◌≡◌, ℕ, zero, suc, ◌+◌, ◌<◌, ◌≤◌, min, Bool, false, List, [], ◌∷◌, map, length, get_or, take, sym, refl, ap, ◌∙◌, subst, add-one, arith}
use native.Mathlib.Decide.{ℕ_discrete}
use Rattle.sequences.specs.Lists.{alter, nearer, nearest}
use Rattle.sequences.specs.Steps.{in_order}
use Rattle.sequences.proofs.Places.{length-alter, alter-at, alter_other, take-alter}
use Rattle.sequences.proofs.Counters.{nearest-next}
use Rattle.model.specs.State.{State}
use Rattle.model.specs.Layout.{view}
use Rattle.rules.specs.Counting.{never, place}
use Rattle.rules.proofs.Nearness.{nearer-fits, nearer-place}
use Rattle.words.specs.Images.{Whole, Does}
use Rattle.untimed.specs.Counters.{Nearest}
use Rattle.timed.specs.Unmoved.{Unmoved}

-- ---- counters of a list's first records

abbrev pub passed : {A : Type 0} → (A → ℕ) → ℕ → List A → List ℕ
passed counter o l = map counter (take o l)

module _ {A : Type 0} (counter : A → ℕ) (d : A) where
  none_runs : (o : ℕ) (l : List A) → ((k : ℕ) → k < o → counter (get_or l k d) ≡ 0) → nearest (passed counter o l) ≡ 0
  none_runs zero l still = refl
  none_runs (suc o) [] still = refl
  none_runs (suc o) (x ∷ xs) still =
      ap (λ (n : ℕ). nearer n (nearest (passed counter o xs))) (still 0 (omega arith)) ∙ none_runs o xs (λ k h. still (suc k) (omega arith))

  pub nearest-still : (o : ℕ) (l : List A) → ((k : ℕ) → k < o → counter (get_or l k d) ≡ 0) → Nearest (passed counter o l) never
  nearest-still o l still =
      let none = none_runs o l still in
      record { fits = rw none (omega arith); at = rw none }

  pub nearest-one_more : (o : ℕ) (l : List A) {least x : ℕ} → o < length l → Nearest (passed counter o l) least → x ≡ counter (get_or l o d) → x ≤ never
      → Nearest (passed counter (o + 1) l) (min (place x) least)
  nearest-one_more o l {least} {x} h n e fits =
      let before = nearest (passed counter o l) in
      let step : nearer before x ≡ nearest (passed counter (o + 1) l) = rw e (nearest-next counter 0 d l o h refl) in
      let order : min (place x) (place before) ≡ min (place before) (place x) = omega arith in
      record {
        fits = rw (← step) (nearer-fits before x n.fits fits);
        at = rw (n.at, ← step) (order ∙ nearer-place before x n.fits fits);
      }

  nearest-behind : (o : ℕ) (l : List A) → ((k : ℕ) → o ≤ k → counter (get_or l k d) ≡ 0) → nearest (map counter l) ≡ nearest (passed counter o l)
  nearest-behind zero [] still = refl
  nearest-behind (suc o) [] still = refl
  nearest-behind zero (x ∷ xs) still =
      ap (λ (n : ℕ). nearer n (nearest (map counter xs))) (still 0 (omega arith)) ∙ nearest-behind zero xs (λ k h. still (suc k) (omega arith))
  nearest-behind (suc o) (x ∷ xs) still = ap (nearer (counter x)) (nearest-behind o xs (λ k h. still (suc k) (omega arith)))

  nearest-of-all : (o : ℕ) (l : List A) {least : ℕ} → ((k : ℕ) → o ≤ k → counter (get_or l k d) ≡ 0) → Nearest (passed counter o l) least
      → Nearest (map counter l) least
  nearest-of-all o l still n =
      let same = nearest-behind o l still in
      record { fits = rw same n.fits; at = rw same n.at }

-- ---- steps that do nothing

module _ {S : Type 0} (step : ℕ → S → S) where
  pub idle-first : (n : ℕ) (s : S) → ((k : ℕ) → k < n → step k s ≡ s) → s ≡ in_order n step s
  unfolding in_order
  idle-first zero s idle = refl
  idle-first (suc n) s idle = sym (idle n (omega arith)) ∙ ap (step n) (idle-first n s (λ k h. idle k (omega arith)))

  pub idle-last : (o n : ℕ) (s : S) → o ≤ n → ((k : ℕ) → o ≤ k → step k (in_order o step s) ≡ in_order o step s)
      → in_order o step s ≡ in_order n step s
  unfolding in_order
  idle-last o zero s h idle = let none : o ≡ 0 = omega arith in ap (λ (k : ℕ). in_order k step s) none
  idle-last o (suc n) s h idle =
      elim (ℕ_discrete o (suc n)) [
        | yes e ↦ ap (λ (k : ℕ). in_order k step s) e
        | no more ↦
            let below : o ≤ n = omega (arith, more) in
            sym (idle n below) ∙ ap (step n) (idle-last o n s below idle)
      ]

-- ---- what isn't moved

pub unmoved_still : (s : State) → Unmoved s s
unmoved_still s = record { ready = refl; off = refl; chosen = refl; current = λ i. refl; quantum = λ i. refl; left = λ i. refl }

pub unmoved_then : {s t u : State} → Unmoved s t → Unmoved t u → Unmoved s u
unmoved_then a b =
    record {
      ready = b.ready ∙ a.ready;
      off = b.off ∙ a.off;
      chosen = b.chosen ∙ a.chosen;
      current = λ i. b.current i ∙ a.current i;
      quantum = λ i. b.quantum i ∙ a.quantum i;
      left = λ i. b.left i ∙ a.left i;
    }

-- ---- the walk

-- a turn that changes the record at place o and no other, and leaves x as its counter; where `after` is false neither it nor a turn before it moved
-- anybody
pub record Turn {A : Type 0} (word : State → State) (places : State → List A) (counter : A → ℕ) (absent : A)
    (o : ℕ) (b : List ℕ) (moved : Bool) (r : List ℕ) (after : Bool) (x : ℕ) : Type 0 where
  pub does : Does b word r
  pub change : A → A
  pub own : places (view r) ≡ alter o change (places (view b))
  pub noted : x ≡ counter (change (get_or (places (view b)) o absent))
  pub fits : x ≤ never
  pub still : after ≡ false → (moved ≡ false) × Unmoved (view b) (view r)

-- steps by number below o from `start` led to this image; the counters from `end` on stand at 0
pub record Walking {A : Type 0} (step : ℕ → State → State) (places : State → List A) (counter : A → ℕ) (absent : A)
    (end : ℕ) (start : State) (o : ℕ) (b : List ℕ) (least : ℕ) (moved : Bool) : Type 0 where
  pub order : o ≤ end
  pub whole : Whole b
  pub done : view b ≡ in_order o step start
  pub behind : (k : ℕ) → end ≤ k → counter (get_or (places (view b)) k absent) ≡ 0
  pub near : Nearest (passed counter o (places (view b))) least
  pub unmoved : moved ≡ false → Unmoved start (view b)

module _ {A : Type 0} (step : ℕ → State → State) (places : State → List A) (counter : A → ℕ) (absent : A) where
  abbrev Stands : State → ℕ → Type 0
  Stands s k = counter (get_or (places s) k absent) ≡ 0

  pub walking_next : {end o least x noted : ℕ} {start : State} {b r : List ℕ} {moved after : Bool}
      → Walking step places counter absent end start o b least moved → o < end → o < length (places (view b))
      → Turn (step o) places counter absent o b moved r after x → noted ≡ min (place x) least
      → Walking step places counter absent end start (o + 1) r noted after
  unfolding in_order
  walking_next {o = o} {least = least} {start = start} {b = b} {r = r} w below there turn e =
      let g = turn.change in
      let l = places (view b) in
      let many : o < length (places (view r)) = omega (arith, ap length turn.own, length-alter o g l, there) in
      let kept = ap (take o) turn.own ∙ take-alter g o l in
      let own = ap (λ (k : List A). counter (get_or k o absent)) turn.own ∙ ap counter (alter-at g o l absent there) in
      record {
        order = omega arith;
        whole = turn.does.whole;
        done = turn.does.view ∙ ap (step o) w.done ∙ ap (λ (k : ℕ). in_order k step start) (sym (add-one o));
        behind =
            λ k h.
            ap (λ (m : List A). counter (get_or m k absent)) turn.own
            ∙ ap counter (alter_other g o l k absent (λ same. omega arith))
            ∙ w.behind k h;
        near =
            rw e
            (nearest-one_more counter absent o (places (view r)) many (subst (λ (k : List A). Nearest (map counter k) least) (sym kept) w.near)
            (turn.noted ∙ sym own) turn.fits);
        unmoved = λ f. unmoved_then (w.unmoved (turn.still f).0) (turn.still f).1;
      }

  -- where a counter stands at 0 its step does nothing
  module _ (idle : (k : ℕ) (s : State) → Stands s k → step k s ≡ s) where
    pub walking_start : (b : List ℕ) (from end : ℕ) {moved : Bool} → Whole b → from ≤ end → ((k : ℕ) → k < from → Stands (view b) k)
        → ((k : ℕ) → end ≤ k → Stands (view b) k) → Walking step places counter absent end (view b) from b never moved
    walking_start b from end w order before behind =
        record {
          order = order;
          whole = w;
          done = idle-first step from (view b) (λ k h. idle k (view b) (before k h));
          behind = behind;
          near = nearest-still counter absent from (places (view b)) before;
          unmoved = λ e. unmoved_still (view b);
        }

    pub walking_all : {end o least : ℕ} {b r : List ℕ} {moved : Bool} → Walking step places counter absent end (view b) o r least moved
        → (n : ℕ) → end ≤ n → end ≤ o → Does b (in_order n step) r × Nearest (map counter (places (view r))) least
    walking_all {end} {o} {least} {b} {r} w n most there =
        let stands : (k : ℕ) → o ≤ k → Stands (view r) k = λ k h. w.behind k (omega arith) in (
          record {
            whole = w.whole;
            view =
                w.done
                ∙ idle-last step o n (view b) (omega (arith, w.order))
                (λ k h. subst (λ (s : State). step k s ≡ s) w.done (idle k (view r) (stands k h)));
          },
          nearest-of-all counter absent o (places (view r)) stands w.near,
        )
