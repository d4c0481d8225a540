-- What a look says, as what stands at each point.
use Rattle.std.proofs.Common.{◌≡◌, refl}
use Rattle.std.specs.Prelude.{Option, Some, None}
use Rattle.fx_item.specs.Item.{PlainKey, ObjectKey, AttributeKey, ExtentKey, ChildKey, GraveKey, AllocationKey}
use Rattle.fx_item.specs.Look.{map_of}
use Rattle.fx_item.specs.Overlay.{Point, Entry, Said, live_in, or_older, over, standing}
use Rattle.fx_contents.specs.Points.{entry_after, points_after, value_under}

pub same_map : (said : Said) (key : PlainKey) → map_of said key ≡ value_under (live_in said) key
same_map said (ObjectKey store id) = refl
same_map said (AttributeKey store id name) = refl
same_map said (ExtentKey store id start stop) = refl
same_map said (ChildKey store id name) = refl
same_map said (GraveKey store id) = refl
same_map said (AllocationKey start stop) = refl

pub one_more_list : (newer older : Said) (p : Point) → points_after (live_in older) newer p ≡ live_in (over newer older) p
one_more_list newer older p = by (newer p) (older p)
  where
    by : (n o : Option (Option Entry)) → entry_after n (standing o) ≡ standing (or_older n o)
    by (Some entry) o = refl
    by None o = refl
