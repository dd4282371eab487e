-- Counters of one kind, the timers or the limits, told of ticks one after another. A counter at 0 needn't be told, so the places before the first
-- that runs and those behind the last needn't be visited.
use Rattle.std.proofs.Common.{◌≡◌, ℕ, ◌+◌, ◌-◌, ◌<◌, ◌≤◌, List, map, get_or, sym, refl, ap, ◌∙◌, arith}
use Rattle.sequences.specs.Lists.{alter}
use Rattle.sequences.proofs.InOrder.{changed}
use Rattle.sequences.proofs.Places.{alter_alike, alter-none}
use Rattle.model.specs.declared.tables.Thread.{Thread}
use Rattle.model.specs.declared.tables.Timer.{Timer}
use Rattle.model.specs.State.{State}
use Rattle.model.specs.Parts.{with_limit, with_time}
use Rattle.model.specs.Layout.{view}
use Rattle.fields.proofs.Parts.{Part, alter-part, threads-part, timers-part}
use Rattle.words.specs.Images.{Whole, Does}
use Rattle.words.proofs.Does.{same_word}
use Rattle.timed.proofs.Changed.{next_changed, none_changed, all_changed}

-- where a table has them: the records, and the counter in a record
pub record Kind (A : Type 0) : Type 0 where
  pub part : Part A
  pub kept : (s : State) → part.change (part.of s) s ≡ s
  pub left : A → ℕ
  pub set : ℕ → A → A
  pub same : (a : A) → set (left a) a ≡ a

abbrev pub times : Kind Timer
times = record { part = timers-part; kept = λ s. refl; left = λ t. t.left; set = λ x t. with_time x t.count t; same = λ t. refl }

abbrev pub limits : Kind Thread
limits = record { part = threads-part; kept = λ s. refl; left = λ t. t.limit; set = with_limit; same = λ t. refl }

module _ {A : Type 0} (k : Kind A) (m : ℕ) where
  abbrev all : State → List A
  all s = k.part.of s

  abbrev put : List A → State → State
  put l s = k.part.change l s

  abbrev one : ℕ → State → A
  one i s = get_or (all s) i k.part.absent

  abbrev less : A → A
  less a = k.set (k.left a - m) a

  -- those below n were told
  abbrev pub told : ℕ → State → State
  told n s = put (changed less n (all s)) s

  still : (a : A) → k.left a ≡ 0 → less a ≡ a
  still a z = let e : k.left a - m ≡ k.left a = omega (arith, z) in ap (λ (x : ℕ). k.set x a) e ∙ k.same a

  pub none_told : {b : List ℕ} (n : ℕ) → Whole b → ((i : ℕ) → i < n → k.left (one i (view b)) ≡ 0) → Does b (told n) b
  none_told {b} n w zero =
      let s = view b in
      let e = none_changed less (all s) k.part.absent n (λ i h. still (one i s) (zero i h)) in
      record { whole = w; view = sym (ap (λ (l : List A). put l s) e ∙ k.kept s) }

  pub all_told : {b r : List ℕ} (n : ℕ) → Does b (told n) r → ((i : ℕ) → n ≤ i → k.left (one i (view b)) ≡ 0)
      → Does b (λ s. put (map less (all s)) s) r
  all_told {b} n d zero =
      let s = view b in
      let e = all_changed less (all s) k.part.absent n (λ i h. still (one i s) (zero i h)) in
      same_word d (λ x. put (map less (all x)) x) (ap (λ (l : List A). put l s) e)

  -- the next one is told
  module _ {b r : List ℕ} (n : ℕ) (d : Does b (told n) r) where
    told-next : {u : List ℕ} (g : A → A) → Does r (alter-part k.part n g) u → g (one n (view r)) ≡ less (one n (view r)) → Does b (told (n + 1)) u
    told-next g e alike =
        let l = all (view b) in
        let reached = ap all d.view ∙ k.part.held (changed less n l) (view b) in
        let step = alter_alike g less k.part.absent (all (view r)) n alike ∙ ap (alter n less) reached ∙ next_changed less l n in
        record {
          whole = e.whole;
          view =
              e.view
              ∙ ap (λ (x : List A). put x (view r)) step
              ∙ ap (put (changed less (n + 1) l)) d.view
              ∙ k.part.again (changed less (n + 1) l) (changed less n l) (view b);
        }

    module _ {x : ℕ} (read : x ≡ k.left (one n (view r))) where
      pub told-one : {u : List ℕ} {y : ℕ} → y ≡ x - m → Does r (alter-part k.part n (k.set y)) u → Does b (told (n + 1)) u
      told-one {y = y} e w = told-next (k.set y) w (ap (λ (z : ℕ). k.set z (one n (view r))) (e ∙ ap (λ (z : ℕ). z - m) read))

      pub zero_passed : x ≡ 0 → Does b (told (n + 1)) r
      zero_passed z =
          let s = view r in
          let e = alter-none less k.part.absent n (all s) (still (one n s) (sym read ∙ z)) in
          told-next less (record { whole = d.whole; view = sym (ap (λ (l : List A). put l s) e ∙ k.kept s) }) refl
