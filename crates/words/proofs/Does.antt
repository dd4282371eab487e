-- A word done on an image, and one after another. A word changes the links, which are lent and put back as the links of other lists, or records,
-- which leaves the links alone; either way the image is one that words can be said of.
use mathlib.Core.Path.{◌≡◌, sym, ap, ◌∙◌, subst}
use mathlib.Core.List.{List}
use Prim.Native.Nat.{ℕ}
use borrow.Rule.Slice.PartMut.{put_mid}
use Rattle.sequences.specs.Links.{Linked, Orderly}
use Rattle.sequences.proofs.Linked.{seen, orderly-of}
use Rattle.model.specs.declared.tables.Thread.{Thread}
use Rattle.model.specs.State.{State, thread_count}
use Rattle.model.specs.Parts.{alter_thread, with_wait}
use Rattle.model.specs.Words.{leave, suspend}
use Rattle.model.specs.Layout.{view, linked_lists, links_first, links_length}
use Rattle.placed.specs.Placed.{Placed, standing}
use Rattle.placed.proofs.Standing.{leave_gone, alter-placed}
use Rattle.layout.proofs.Frames.{with_lists, relinked_size, relinked_part, relinked_view}
use Rattle.fields.specs.Fields.{Alters}
use Rattle.words.specs.Images.{Whole, Does, Given, Off}

-- ---- one word

pub relinked_does : {s new : List ℕ} {ls : List (List ℕ)} (f : State → State) → Whole s → Linked thread_count linked_lists new ls
    → with_lists ls (view s) ≡ f (view s) → Placed (f (view s)) → Does s f (put_mid links_first links_length s new)
relinked_does {s} {new} {ls} f w v same placed =
    let read = relinked_view s new w.size v.size ∙ ap (λ (l : List (List ℕ)). with_lists l (view s)) (seen v) ∙ same in
    record {
      whole =
          record {
            size = relinked_size s new w.size v.size;
            links = subst (Orderly thread_count linked_lists) (sym (relinked_part s new w.size v.size)) (orderly-of v);
            placed = subst Placed (sym read) placed;
          };
      view = read;
    }

pub altered_does : {s r : List ℕ} {f : State → State} → Whole s → Alters s f r → Placed (f (view s)) → Does s f r
altered_does w a placed =
    record {
      whole =
          record {
            size = a.size;
            links = subst (Orderly thread_count linked_lists) (sym a.links) w.links;
            placed = subst Placed (sym a.view) placed;
          };
      view = a.view;
    }

-- a thread's record changed, but for its current priority
pub rewritten_does : {s r : List ℕ} (i : ℕ) (g : Thread → Thread) → Whole s → Alters s (alter_thread i g) r
    → ((t : Thread) → (g t).current ≡ t.current) → Does s (alter_thread i g) r
rewritten_does {s} i g w a same = altered_does w a (alter-placed i g (view s) same w.placed)

-- ---- and then another

module _ {s r : List ℕ} {f : State → State} (d : Does s f r) where
  pub and_then : {t : List ℕ} {g : State → State} → Does r g t → Does s (λ x. g (f x)) t
  and_then {g = g} e = record { whole = e.whole; view = e.view ∙ ap g d.view }

  pub same_word : (g : State → State) → f (view s) ≡ g (view s) → Does s g r
  same_word g e = record { whole = d.whole; view = d.view ∙ e }

  pub given-still : {i : ℕ} → Given s i → Given r i
  given-still g = record { whole = d.whole; thread = g.thread }

  -- who stands on no list by the word
  pub off-after : {i : ℕ} → Given s i → standing i (f (view s)) ≡ 0 → Off r i
  off-after {i} g none = record { given = given-still g; off = ap (standing i) d.view ∙ none }

pub left-off : {s r : List ℕ} {i : ℕ} → Given s i → Does s (leave i) r → Off r i
left-off {s} {i = i} g d = off-after d g (leave_gone i (view s))

pub suspended_off : {s r : List ℕ} {i : ℕ} (limit mask mode : ℕ) → Given s i → Does s (suspend i limit mask mode) r → Off r i
unfolding suspend
suspended_off {s} {i = i} limit mask mode g d = off-after d g (leave_gone i (alter_thread i (with_wait limit 0 mask mode) (view s)))
