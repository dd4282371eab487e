-- A new current priority between leaving and entering again is the model's change and then its move.
use mathlib.Core.Path.{◌≡◌, sym, ◌∙◌}
use mathlib.Core.Bool.{true, false, ◌&&◌}
use mathlib.Core.List.{List}
use Prim.Native.Nat.{ℕ, ◌+◌, ◌-◌, ◌<◌, ◌≤◌}
use native.Mathlib.Omega.{arith}
use borrow.Author.Tests.{lt-ltb, le-ltb}
use lib.Dec.{leb, ltb}
use Rattle.sequences.specs.Lists.{among, first_at}
use Rattle.sequences.proofs.Parts.{none-counted}
use Rattle.model.specs.State.{State, priority_count, first_wait_list}
use Rattle.model.specs.Parts.{alter_thread, with_current}
use Rattle.model.specs.Words.{is_ready, is_waiting, list_of, leave, become_ready, enter_ready, enter_by_priority, re_enter}
use Rattle.model.specs.Layout.{view, linked_lists, lists_of}
use Rattle.placed.proofs.Standing.{leave_gone, unready_placed}
use Rattle.fields.specs.Fields.{Alters}
use Rattle.words.specs.Images.{Given, Off, Does}
use Rattle.words.proofs.Does.{altered_does, and_then, same_word, off-after, left-off}
use Rattle.words.proofs.Lists.{ready-told, waiting_told, other_told}

-- ---- the model's move, by where the thread stands

module _ (i p : ℕ) (s : State) where
  abbrev changed : State
  changed = alter_thread i (with_current p) s

  re_enter-ready : is_ready i s ≡ true → enter_ready i (alter_thread i (with_current p) (leave i s)) ≡ re_enter i changed
  unfolding re_enter become_ready leave
  re_enter-ready h = rw h

  re_enter_waiting : is_ready i s ≡ false → is_waiting i s ≡ true → {j : ℕ} → j ≡ list_of i s
      → enter_by_priority j i (alter_thread i (with_current p) (leave i s)) ≡ re_enter i changed
  unfolding re_enter leave
  re_enter_waiting h k e = rw (h, k, e)

  re_enter_other : is_ready i s ≡ false → is_waiting i s ≡ false → changed ≡ re_enter i changed
  unfolding re_enter
  re_enter_other h k = rw (h, k)

-- ---- the image, by the number k of the thread's list

abbrev retaking : ℕ → ℕ → State → State
retaking i p x = re_enter i (alter_thread i (with_current p) x)

module _ {s : List ℕ} {i p : ℕ} (g : Given s i) (level : p < priority_count) where
  -- off its list, and with its new priority
  module _ {u v : List ℕ} (d : Does s (leave i) u) (a : Alters u (alter_thread i (with_current p)) v) where
    changed_off : Does s (λ x. alter_thread i (with_current p) (leave i x)) v
    changed_off =
        and_then d (altered_does d.whole a (unready_placed i (with_current p) (view u) level (omega (arith, (left-off g d).off)) d.whole.placed))

    pub retaken_off : Off v i
    retaken_off = off-after changed_off g (leave_gone i (view s))

    module _ {k : ℕ} (e : k ≡ first_at (among i) (lists_of s)) {r : List ℕ} where
      pub retaken_ready : k < priority_count → Does v (enter_ready i) r → Does s (retaking i p) r
      retaken_ready h f =
          same_word (and_then changed_off f) (retaking i p)
          (re_enter-ready i p (view s) (sym (ready-told g.whole i e) ∙ lt-ltb k priority_count h))

      pub retaken_waiting : priority_count ≤ k → (leb (priority_count + first_wait_list) k && ltb k linked_lists) ≡ true
          → Does v (enter_by_priority (k - priority_count) i) r → Does s (retaking i p) r
      retaken_waiting h waits f =
          same_word (and_then changed_off f) (retaking i p)
          (re_enter_waiting i p (view s) (sym (ready-told g.whole i e) ∙ le-ltb k priority_count h)
          (sym (waiting_told g.whole i e h) ∙ waits) (omega (arith, other_told g.whole i e h)))

  -- on no list of these it stays where it is
  pub retaken_still : {k : ℕ} → k ≡ first_at (among i) (lists_of s) → priority_count ≤ k
      → (leb (priority_count + first_wait_list) k && ltb k linked_lists) ≡ false → {r : List ℕ} → Alters s (alter_thread i (with_current p)) r
      → Does s (retaking i p) r
  retaken_still {k} e h waits a =
      let unready : is_ready i (view s) ≡ false = sym (ready-told g.whole i e) ∙ le-ltb k priority_count h in
      same_word
      (altered_does g.whole a
      (unready_placed i (with_current p) (view s) level (none-counted i (view s).ready unready) g.whole.placed))
      (retaking i p) (re_enter_other i p (view s) unready (sym (waiting_told g.whole i e h) ∙ waits))
