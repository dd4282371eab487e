-- Every list followed: what is noted then of each id, and that the links are orderly where who stands on no list has no links.
use mathlib.Core.Path.{◌≡◌, refl, sym, ◌∙◌, ap}
use mathlib.Core.List.{List, []}
use Prim.Native.Nat.{ℕ, ◌+◌, ◌<◌, ◌≤◌}
use native.Mathlib.Omega.{arith}
use lib.ListN.{length, get_or, take, drop, replicate, length-replicate, get_or-replicate, length-map}
use lib.Seq.{get_or-take, get_or-drop, take_all}
use Rattle.sequences.specs.Lists.{reversed, count_all}
use Rattle.sequences.specs.Links.{leads, lists_in, Once}
use Rattle.sequences.proofs.Counts.{count_all-place}
use Rattle.sequences.proofs.Parts.{counted_below}
use Rattle.sequences.proofs.Reversed.{reversed-at, count-reversed, count_all-reversed}
use Rattle.sequences.proofs.Halves.{once-reversed}
use Rattle.sequences.proofs.Linked.{many-lists}
use Rattle.links.specs.Noted.{Through, Noted}
use Rattle.links.proofs.Neighbours.{leads_most}
use Rattle.links.proofs.Marks.{mark-none, marked-counted}

pub through_start : (n m : ℕ) (s marks : List ℕ) → marks ≡ replicate n 0 → Through n m 0 s marks
through_start n m s marks e =
    record {
      within = omega arith;
      marked =
          record {
            size = ap length e ∙ length-replicate n 0;
            at = λ x h. ap (λ (l : List ℕ). get_or l x 0) e ∙ get_or-replicate n x 0 0 h ∙ sym (mark-none x [] refl);
          };
      apart = record { once = λ x. omega arith; known = λ x h. refl };
      ahead = λ i h. absurd (omega arith);
      back = λ i h. absurd (omega arith);
    }

module _ {n m : ℕ} {s marks : List ℕ} (size : length s ≡ n + m + (n + m)) (t : Through n m m s marks) where
  abbrev lists : List (List ℕ)
  lists = lists_in n m s

  all : take m lists ≡ lists
  all = take_all m lists (omega (arith, many-lists n m s size))

  apart : Once n lists
  apart = rw all at t.apart

  -- the link back of who stands on a list
  link_back : (x : ℕ) → 0 < count_all x lists → leads (drop (n + m) s) x ≤ n
  link_back x h =
      let p = count_all-place x lists h in
      let below : p.0 < m = omega (arith, counted_below x lists p.0 p.1, many-lists n m s size) in
      leads_most (once-reversed apart) (leads (drop (n + m) s)) p.0 (rw (reversed-at lists p.0) (t.back p.0 below)) x
      (rw (reversed-at lists p.0) (omega (arith, p.1, count-reversed x (get_or lists p.0 []))))

  pub through_noted : Noted n m s marks
  through_noted =
      record {
        marked = rw all at t.marked;
        back = λ x h q. rw (← get_or-drop (n + m) s x 0) (link_back x (marked-counted x lists q));
        whole = λ off.
            record {
              size = size;
              many = many-lists n m s size;
              apart = apart;
              ahead =
                  record {
                    chains = λ i h. t.ahead i (omega (arith, many-lists n m s size));
                    zeros = λ x h z. get_or-take (n + m) s x 0 (omega arith) ∙ (off x h (mark-none x lists z)).0;
                  };
              back =
                  record {
                    chains = λ i h. rw (reversed-at lists i) (t.back i (omega (arith, many-lists n m s size, length-map lists reversed)));
                    zeros = λ x h z. get_or-drop (n + m) s x 0 ∙ (off x h (mark-none x lists (sym (count_all-reversed x lists) ∙ z))).1;
                  };
            };
      }
