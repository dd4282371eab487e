-- What functions on a lent image ask and hand back: an image by its length, a number that names one of so many, an image that is the old one
-- but for what a word of the model changes in its view, and fields that are read together.
use Rattle.std.specs.Prelude.{◌≡◌, Bool, ◌&&◌, List, ℕ, ◌+◌, ◌*◌, ◌<◌, eqb, length}
use Rattle.model.specs.declared.tables.Thread.{Thread}
use Rattle.model.specs.declared.tables.Semaphore.{Semaphore}
use Rattle.model.specs.declared.tables.Mutex.{Mutex}
use Rattle.model.specs.declared.tables.Timer.{Timer}
use Rattle.model.specs.State.{State}
use Rattle.model.specs.Layout.{view, links_part, image_length}

-- an image, as far as its length tells
abbrev pub Sized : List ℕ → Type 0
Sized b = length b ≡ image_length

-- and a number that names one of so many in it
pub record Named (many : ℕ) (b : List ℕ) (i : ℕ) : Type 0 where
  pub size : Sized b
  pub there : i < many

-- r is b with its view changed by f, and every link as it was
pub record Alters (b : List ℕ) (f : State → State) (r : List ℕ) : Type 0 where
  pub size : Sized r
  pub view : view r ≡ f (view b)
  pub links : links_part r ≡ links_part b

-- ---- fields that stand side by side, as one number

-- of a thread: that it is there, and its two priorities
abbrev pub standing : Thread → ℕ
standing t = t.created + 256 * t.base + 65536 * t.current

-- its quantum, and what is left of it
abbrev pub quanta : Thread → ℕ
quanta t = t.quantum + 65536 * t.left

-- what a wait has left in it: result, mask and mode
abbrev pub ending : Thread → ℕ
ending t = t.result + 256 * t.mask + 16777216 * t.mode

-- of a semaphore: its count and its maximum
abbrev pub levels : Semaphore → ℕ
levels x = x.count + 65536 * x.maximum

-- nothing of it
abbrev pub zero_semaphore : Semaphore → Bool
zero_semaphore x = eqb x.created 0 && (eqb x.count 0 && eqb x.maximum 0)

-- of a mutex: that it is there, its owner and how deep
abbrev pub ownership : Mutex → ℕ
ownership x = x.created + 256 * x.owner + 65536 * x.depth

-- of a timer: whether it repeats, and its action
abbrev pub action : Timer → ℕ
action t = t.repeat + 256 * t.kind + 65536 * t.object + 16777216 * t.mask
