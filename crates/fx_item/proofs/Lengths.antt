-- The value of an item keeps within the bounds that its length rests on.
use Rattle.fx_item.specs.Item.{PlainKey, ObjectKey, AttributeKey, ExtentKey, ChildKey, GraveKey, AllocationKey, Suits}
use Rattle.fx_item.specs.Item.{PlainValue, GoneValue, DirectoryValue, FileValue, AttributeValue, ChildValue, WaitingValue, ExtentValue, TakenValue}
use Rattle.fx_item.specs.Writing.{IsShort}

pub short : (k : PlainKey) (v : PlainValue) → Suits k v → IsShort v
short k GoneValue h = tt
short k DirectoryValue h = tt
short k (FileValue len) h = tt
short k (ChildValue store id) h = tt
short k WaitingValue h = tt
short k TakenValue h = tt
short (AttributeKey s i x) (AttributeValue text) h = h.most
short (ObjectKey s i) (AttributeValue text) h = absurd h
short (ExtentKey s i start stop) (AttributeValue text) h = absurd h
short (ChildKey s i x) (AttributeValue text) h = absurd h
short (GraveKey s i) (AttributeValue text) h = absurd h
short (AllocationKey start stop) (AttributeValue text) h = absurd h
short (ExtentKey s i start stop) (ExtentValue block sums) h = h.most
short (ObjectKey s i) (ExtentValue block sums) h = absurd h
short (AttributeKey s i x) (ExtentValue block sums) h = absurd h
short (ChildKey s i x) (ExtentValue block sums) h = absurd h
short (GraveKey s i) (ExtentValue block sums) h = absurd h
short (AllocationKey start stop) (ExtentValue block sums) h = absurd h
