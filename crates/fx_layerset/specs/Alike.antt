-- That the look stays where levels are replaced.
use Rattle.std.specs.Prelude.{◌≡◌, ℕ, List, ◌++◌, take, reverse}
use Rattle.std.specs.List.{All}
use Rattle.fx_item.specs.Item.{PlainItem}
use Rattle.fx_item.specs.Place.{begins}
use Rattle.fx_item.specs.Overlay.{Point, Said, at, says, live_in}
use Rattle.fx_layerset.specs.Levels.{PlainLevel, SetLevels, said_over, said_in_set, newest, below_newest, installed_levels}

-- both say the same of each point
abbrev pub SayAlike : Said → Said → Type 0
SayAlike m n = (p : Point) → m p ≡ n p

-- the same stands at each point: tombstones are nothing
abbrev pub ShowAlike : Said → Said → Type 0
ShowAlike m n = (p : Point) → live_in m p ≡ live_in n p

-- The items say what the levels say together, tombstones included.
abbrev pub IsMergeOf : List PlainLevel → List PlainItem → Type 0
IsMergeOf levels items = SayAlike (says items) (said_over (reverse levels))

-- the tree that a level's items lie in: 0 that of objects, 1 that of allocations
abbrev pub AreOfTree : ℕ → List PlainLevel → Type 0
AreOfTree tree levels = All (λ l. All (λ x. (begins x.key).tree ≡ tree) l.items) levels

-- In a tree new layers show, over the older ones that stay, what the batches and the layers show that
-- they replace.
abbrev pub MayReplace : ℕ → (batches gone stay new : List PlainLevel) → Type 0
MayReplace tree batches gone stay new =
    (p : Point) → (at p).tree ≡ tree
    → live_in (said_over (reverse new ++ reverse stay)) p
    ≡ live_in (said_over (reverse batches ++ (reverse gone ++ reverse stay))) p

-- Each layer lies in its tree, and the new ones show what they replace.
pub record MayInstall (s : SetLevels) (below n : ℕ)
    (objects allocs : List PlainLevel) : Type 0 where
  pub objects_apart : AreOfTree 0 s.objects
  pub allocs_apart : AreOfTree 1 s.allocs
  pub new_objects_apart : AreOfTree 0 objects
  pub new_allocs_apart : AreOfTree 1 allocs
  pub objects_shown : MayReplace 0 (take below s.batches)
      (newest n s.objects) (below_newest n s.objects) objects
  pub allocs_shown : MayReplace 1 (take below s.batches)
      (newest n s.allocs) (below_newest n s.allocs) allocs

-- What stands stays where layers are installed that show what they replace.
abbrev pub InstallLaw : Type 0
InstallLaw = (s : SetLevels) (below n : ℕ) (objects allocs : List PlainLevel)
    → MayInstall s below n objects allocs
    → ShowAlike (said_in_set (installed_levels s below n objects allocs)) (said_in_set s)
