-- What a word asks of a lent image and hands back: links in order, threads that stand as they must, and a view that is changed by the model's
-- word.
use Rattle.std.specs.Prelude.{◌≡◌, true, List, [], ℕ, ◌+◌, ◌<◌, get_or}
use Rattle.sequences.specs.Lists.{count}
use Rattle.sequences.specs.Links.{Orderly}
use Rattle.links.specs.Walks.{Behind}
use Rattle.model.specs.State.{State, thread_count, priority_count, list_count}
use Rattle.model.specs.Parts.{list}
use Rattle.model.specs.Words.{is_ready, rank}
use Rattle.model.specs.Layout.{view, links_part, linked_lists, lists_of}
use Rattle.placed.specs.Placed.{Placed, standing}
use Rattle.fields.specs.Fields.{Sized}

-- an image that words can be said of
pub record Whole (b : List ℕ) : Type 0 where
  pub size : Sized b
  pub links : Orderly thread_count linked_lists (links_part b)
  pub placed : Placed (view b)

-- r is b with its view changed by f, and words can be said of it
pub record Does (b : List ℕ) (f : State → State) (r : List ℕ) : Type 0 where
  pub whole : Whole r
  pub view : view r ≡ f (view b)

-- such an image and a thread's id
pub record Given (b : List ℕ) (i : ℕ) : Type 0 where
  pub whole : Whole b
  pub thread : i < thread_count

-- and a list of the links on which it stands, the ready lists first
pub record On (b : List ℕ) (l i : ℕ) : Type 0 where
  pub given : Given b i
  pub list : l < linked_lists
  pub on : 0 < count i (get_or (lists_of b) l [])

-- and it is ready
pub record Ready (b : List ℕ) (i : ℕ) : Type 0 where
  pub given : Given b i
  pub ready : is_ready i (view b) ≡ true

-- a thread that stands on no list
pub record Off (b : List ℕ) (i : ℕ) : Type 0 where
  pub given : Given b i
  pub off : standing i (view b) ≡ 0

-- and a list for it that is no ready list
pub record OffFor (b : List ℕ) (j i : ℕ) : Type 0 where
  pub off : Off b i
  pub list : j < list_count

-- where thread i belongs on list j: its rank, and the cell of the links that so many threads lead up to
pub record Spotted (b : List ℕ) (j i k y : ℕ) : Type 0 where
  pub place : k ≡ rank j i (view b)
  pub behind : Behind thread_count (priority_count + j) (list j (view b)) k y
