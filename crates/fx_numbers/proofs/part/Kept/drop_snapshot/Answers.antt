use Rattle.std.proofs.Common.{◌≡◌, ◌++◌, ℕ, zero, suc, List, [], ◌∷◌, map, take, drop, refl, ap, ◌∙◌}
use Rattle.fx_parts.specs.Happening.{without_snapshot}
use Rattle.fx_parts.specs.Parts.{Part, TakenSnapshot}
use Rattle.fx_numbers.specs.Shots.{Shot, part_from, taken_of}
use Rattle.fx_numbers.proofs.part.Kept.drop_snapshot.Goals as goal

map_without : (xs : List Shot) (i : ℕ) → map taken_of (take i xs ++ drop (suc i) xs) ≡ take i (map taken_of xs) ++ drop (suc i) (map taken_of xs)
map_without [] zero = refl
map_without [] (suc i) = refl
map_without (x ∷ xs) zero = refl
map_without (x ∷ xs) (suc i) = ap (λ l. taken_of x ∷ l) (map_without xs i)

pub returns : goal.returns
returns c =
    ap (λ l. part_from c.self.inside.keys l c.self.inside.reserved c.self.inside.last c.self.inside.faults) c.remove.ensures.items
    ∙ ap (λ (z : List TakenSnapshot). let w : Part = record (part_from c.self.inside.keys c.self.inside.snapshots.items c.self.inside.reserved c.self.inside.last c.self.inside.faults) { snapshots = z } in w) (map_without c.self.inside.snapshots.items c.args.index)
    ∙ ap (without_snapshot c.args.index) c.self.view_is
