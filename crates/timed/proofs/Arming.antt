-- On a sound table every timer's action names an object that there is room for: one that isn't there is none.
use Rattle.std.proofs.Common.{◌≡◌, ℕ, zero, suc, ◌≤◌, true, false, refl, arith}
use Rattle.sequences.proofs.Parts.{place_below}
use Rattle.model.specs.declared.tables.Semaphore.{Semaphore}
use Rattle.model.specs.declared.tables.Flags.{Flags}
use Rattle.model.specs.State.{State, absent_semaphore, absent_flags}
use Rattle.model.specs.Parts.{timer}
use Rattle.model.specs.Ranges.{action_in_range}
use Rattle.model.specs.Sound.{sound}
use Rattle.theorems.proofs.Choosing.{sound_steady}
use Rattle.timed.specs.Armed.{Aimed}

-- there are three kinds
set_is_two : (kind object mask : ℕ) → action_in_range kind object mask ≡ true → 2 ≤ kind → kind ≡ 2
set_is_two zero object mask e h = absurd (omega arith)
set_is_two (suc zero) object mask e h = absurd (omega arith)
set_is_two (suc (suc zero)) object mask e h = refl
set_is_two (suc (suc (suc kind))) object mask e h = let z : false ≡ true = e in cc

pub sound-armed : (s : State) → sound s ≡ true → (o : ℕ) → Aimed (timer o s)
sound-armed s whole o =
    let w = (sound_steady s whole).lawful.objects in
    let t = timer o s in
    record {
      posts = λ e.
          let there = w.posting o e in
          let below = place_below (λ (x : Semaphore). x.created) absent_semaphore s.semaphores refl t.object (omega (arith, there)) in
          omega (arith, w.many_semaphores, below);
      sets = λ h.
          let there = w.setting o (set_is_two t.kind t.object t.mask (w.timers o).action h) in
          let below = place_below (λ (x : Flags). x.created) absent_flags s.flags refl t.object (omega (arith, there)) in
          omega (arith, w.many_flags, below);
    }
