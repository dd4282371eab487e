-- A thread on a list that is known: the list of its current priority where it is ready, a list that has it first, the one that a search has
-- told; and it stands there still when a record has changed.
use mathlib.Core.Path.{◌≡◌, sym, ap, ◌∙◌, subst}
use mathlib.Core.List.{List}
use Prim.Native.Nat.{ℕ, ◌+◌, ◌-◌, ◌<◌}
use native.Mathlib.Omega.{arith}
use borrow.Author.Tests.{ltb-true}
use lib.ListN.{drop}
use Rattle.sequences.specs.Lists.{count, first_at, among}
use Rattle.sequences.specs.Links.{head_link, lists_in}
use Rattle.sequences.proofs.Counts.{count-first, count_all-at, first-list}
use Rattle.model.specs.declared.tables.Thread.{Thread}
use Rattle.model.specs.State.{thread_count, priority_count, list_count}
use Rattle.model.specs.Parts.{thread, ready_list, list, alter_thread}
use Rattle.model.specs.Words.{is_ready}
use Rattle.model.specs.Layout.{view, linked_lists, links_part, lists_of}
use Rattle.placed.proofs.Leaving.{ready-level}
use Rattle.placed.proofs.Standing.{standing_below}
use Rattle.layout.proofs.Viewed.{ready_linked, list_linked}
use Rattle.fields.specs.Fields.{Alters}
use Rattle.words.specs.Images.{Whole, Given, On, Ready}
use Rattle.words.proofs.Does.{rewritten_does, given-still}
use Rattle.words.proofs.Firsts.{one-first}

-- ---- which list

pub ready_on : {b : List ℕ} {i p : ℕ} → p ≡ (thread i (view b)).current → Ready b i → On b p i
ready_on {b} {i} e r =
    let w = r.given.whole in
    let level = w.placed.priorities i in
    let here = sym (ready-level w.placed i) ∙ r.ready in
    record {
      given = r.given;
      list = omega (arith, e, level);
      on = rw (e, ← ready_linked b (thread i (view b)).current level) (ltb-true 0 (count i (ready_list (thread i (view b)).current (view b))) here);
    }

pub listed-on : {b : List ℕ} {j i : ℕ} → Given b i → j < list_count → 0 < count i (list j (view b)) → On b (priority_count + j) i
listed-on {b} {j} g h on = record { given = g; list = omega arith; on = rw (list_linked b j) at on }

-- the first of a list, by the link to it
pub first_on : (b : List ℕ) (j link : ℕ) → Whole b → j < list_count → link ≡ head_link (list j (view b)) → 0 < link
    → On b (priority_count + j) (link - 1)
first_on b j link w h e some =
    let i = link - 1 in
    let l = list j (view b) in
    let on : 0 < count i l = subst (λ (x : List ℕ). 0 < count i x) (sym (one-first l link e some)) (count-first i (drop 1 l)) in
    listed-on (record { whole = w; thread = standing_below w.placed i (omega (arith, on, count_all-at i (view b).waits j)) }) h on

pub told-on : {b : List ℕ} {i k : ℕ} → Given b i → k ≡ first_at (among i) (lists_of b) → k < linked_lists → On b k i
told-on {b} {i} g e h =
    record {
      given = g;
      list = h;
      on = rw e (first-list i (lists_of b) (omega (arith, e, h, g.whole.links.many)));
    }

-- ---- and still

lists-still : (b r : List ℕ) → links_part r ≡ links_part b → lists_of r ≡ lists_of b
lists-still b r e = ap (lists_in thread_count linked_lists) e

module _ {s r : List ℕ} (x : ℕ) (g : Thread → Thread) (a : Alters s (alter_thread x g) r) (same : (t : Thread) → (g t).current ≡ t.current) where
  pub rewritten_on : {l i : ℕ} → On s l i → On r l i
  rewritten_on {l} {i} o =
      record {
        given = given-still (rewritten_does x g o.given.whole a same) o.given;
        list = o.list;
        on = rw (lists-still s r a.links) o.on;
      }

  pub rewritten_ready : {i : ℕ} → Ready s i → Ready r i
  rewritten_ready {i} o =
      record {
        given = given-still (rewritten_does x g o.given.whole a same) o.given;
        ready = ap (is_ready i) a.view ∙ o.ready;
      }
