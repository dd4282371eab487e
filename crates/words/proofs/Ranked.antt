-- A walk that compares bytes of the image finds a thread's rank: these bytes are the current priorities of the threads on the list.
use mathlib.Core.Path.{◌≡◌, refl, sym, ap, ◌∙◌}
use mathlib.Core.Bool.{Bool}
use mathlib.Core.List.{List, []}
use Prim.Native.Nat.{ℕ, ◌+◌, ◌*◌, ◌<◌}
use native.Mathlib.Omega.{arith}
use lib.Dec.{ltb, lit<}
use lib.ListN.{get_or}
use Rattle.sequences.specs.Lists.{first_at}
use Rattle.sequences.proofs.Members.{first-same}
use Rattle.sequences.proofs.Halves.{member_inside}
use Rattle.links.specs.Walks.{Ranked}
use Rattle.model.specs.declared.tables.Thread.{Thread}
use Rattle.model.specs.State.{thread_count, priority_count}
use Rattle.model.specs.Parts.{thread}
use Rattle.model.specs.Words.{rank}
use Rattle.model.specs.Layout.{view, lists_of}
use Rattle.fields.specs.Fields.{Sized, Named}
use Rattle.fields.proofs.Parts.{part_read, threads-part}
use Rattle.layout.proofs.Viewed.{list_linked}
use Rattle.words.specs.Images.{Whole, Spotted}

current_read : (b : List ℕ) → Sized b → (x : ℕ) → x < thread_count → get_or b (8 + 17 * x) 0 ≡ (thread x (view b)).current
current_read b size x h =
    let named : Named thread_count b x = record { size = size; there = h } in
    let at : 8 + 17 * x ≡ 6 + 17 * x + 2 = omega arith in
    rw at (part_read threads-part named 2 (λ (t : Thread). t.current) (lit< tt) (λ n. refl))

pub spotted : {b : List ℕ} {j i k y p : ℕ} → Whole b → p ≡ (thread i (view b)).current
    → Ranked thread_count (priority_count + j) (get_or (lists_of b) (priority_count + j) []) (λ x. ltb (get_or b (8 + 17 * x) 0) p) k y
    → Spotted b j i k y
unfolding rank
spotted {b} {j} {i} {p = p} w e r =
    let lower : ℕ → Bool = λ x. ltb (thread x (view b)).current (thread i (view b)).current in
    record {
      place =
          r.first
          ∙ first-same (λ x. ltb (get_or b (8 + 17 * x) 0) p) lower (get_or (lists_of b) (priority_count + j) [])
          (λ x h. rw (e, current_read b w.size x (member_inside w.links.apart (priority_count + j) x h)))
          ∙ ap (first_at lower) (sym (list_linked b j));
      behind = rw (← list_linked b j) at r.behind;
    }
