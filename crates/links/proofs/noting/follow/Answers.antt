use mathlib.Core.Path.{◌≡◌, sym, ap, ◌∙◌}
use Prim.Native.Nat.{◌+◌, ◌-◌}
use native.Mathlib.Omega.{arith}
use native.Mathlib.Decide.{ℕ_discrete}
use lib.ListN.{get_or}
use Rattle.links.specs.Noted.{leads_anew}
use Rattle.links.proofs.Followed.{
  refused,
  told,
  part-size,
  reads-ahead,
  reads-back,
  follow_start,
  follow_on,
  follow_end,
  too_many,
  unknown,
  previous_wrong,
  last_wrong,
  newcomer,
  first_old,
  first_new,
}
use Rattle.links.proofs.noting.follow.Goals as goal

pub returns-then-not-is_new : goal.returns-then-not-is_new
returns-then-not-is_new c =
    let a = c.args in
    let q = reads-ahead a.at a.n a.m a.bytes.now c.requires.m_in_bounds.0 (a.at + a.n + a.j) (a.n + a.j) (omega arith) (omega arith) in
    refused
    (first_old c.requires.through c.requires.m_in_bounds.1 (ap (leads_anew a.n a.marks.now) (sym q) ∙ sym c.is_new.ensures ∙ c.if-not-is_new.true))

pub loop-link-init : goal.loop-link-init
loop-link-init c =
    let a = c.args in (
      rw (reads-ahead a.at a.n a.m a.bytes.now c.requires.m_in_bounds.0 (a.at + a.n + a.j) (a.n + a.j) (omega arith) (omega arith))
          (follow_start c.requires.through),
      omega (arith, c.type_inv.bytes (a.at + a.n + a.j)),
      λ z. first_new a.n a.marks.now (get_or a.bytes.now (a.at + a.n + a.j) 0) (sym c.is_new.ensures ∙ c.if-not-is_new.false),
    )

pub returns-then-k-n : goal.returns-then-k-n
returns-then-k-n c =
    refused (too_many c.loop-link.invariant.0 c.loop-link-test.true c.requires.m_in_bounds.1 c.if-k-n.true)

pub returns-then-n-x : goal.returns-then-n-x
returns-then-n-x c =
    refused (unknown c.loop-link.invariant.0 c.loop-link-test.true c.if-k-n.false (omega arith))

pub returns-then-bytes-at : goal.returns-then-bytes-at
returns-then-bytes-at c =
    let a = c.args in
    let x = c.loop-link.link - 1 in
    let e = reads-back a.at a.n a.m a.bytes.now c.requires.m_in_bounds.0 (a.at + (a.n + a.m) + x) x (omega arith) (omega arith) in
    refused
    (previous_wrong c.loop-link.invariant.0 c.loop-link-test.true c.if-k-n.false c.requires.m_in_bounds.1
    (λ d. rw c.id_of-x.ensures at c.if-bytes-at.true (e ∙ d)))

pub loop-link-preserved : goal.loop-link-preserved
loop-link-preserved c =
    let a = c.args in
    let x = c.loop-link.link - 1 in
    let size = part-size a.at a.n a.m a.bytes.now c.requires.m_in_bounds.0 in
    let b = reads-back a.at a.n a.m a.bytes.now c.requires.m_in_bounds.0 (a.at + (a.n + a.m) + x) x (omega arith) (omega arith) in
    let f = reads-ahead a.at a.n a.m a.bytes.now c.requires.m_in_bounds.0 (a.at + x) x (omega arith) (omega arith) in
    let same = sym b ∙ rw c.id_of-x.ensures at c.if-bytes-at.false in
    let new : get_or c.loop-link.marks x 0 ≡ 0 =
    elim (ℕ_discrete c.loop-link.came 0) [
      | yes z ↦ c.loop-link.invariant.2 z c.loop-link-test.true
      | no some ↦ newcomer c.loop-link.invariant.0 c.loop-link-test.true c.if-k-n.false (omega arith) size c.requires.m_in_bounds.1 c.requires.through some same
    ] in
    rw c.id_of-x.ensures (
      rw f (follow_on c.loop-link.invariant.0 c.loop-link-test.true c.if-k-n.false (omega arith) size c.requires.m_in_bounds.1 new same),
      omega (arith, c.type_inv.bytes (a.at + x)),
      λ z. absurd (c.loop-link-test.true z),
    )

pub returns : goal.returns
returns c =
    let a = c.args in
    let r = a.at + (a.n + a.m) + a.n + a.j in
    let b = reads-back a.at a.n a.m a.bytes.now c.requires.m_in_bounds.0 r (a.n + a.j) (omega arith) (omega arith) in
    told (get_or a.bytes.now r 0) c.loop-link.came
    (λ e.
    follow_end c.loop-link.invariant.0 c.loop-link-test.false (part-size a.at a.n a.m a.bytes.now c.requires.m_in_bounds.0) c.requires.m_in_bounds.1 c.requires.through (sym b ∙ e))
    (λ d. last_wrong c.loop-link.invariant.0 c.loop-link-test.false c.requires.m_in_bounds.1 (λ e. d (b ∙ e)))
