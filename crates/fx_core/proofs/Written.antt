-- The items of a planned commit are those of a record, and use no number that was not given out.
use Rattle.std.proofs.Common.{◌≡◌, ℕ, ◌+◌, ◌<◌, ◌≤◌, ◌^◌, List, [], ◌∷◌, ◌++◌, length, ap, subst, arith}
use Rattle.std.specs.Prelude.{true, max}
use Rattle.std.specs.List.{AllByRecursion}
use Rattle.fx_item.specs.Item.{PlainItem}
use Rattle.fx_item.specs.Look.{ItemMap, key_id, key_store, next_id, next_store, value_id, value_store}
use Rattle.fx_item.specs.Name.{is_name}
use Rattle.fx_plain.specs.declared.step.Step.{Step}
use Rattle.fx_plain.specs.declared.step.Step.TheVariants.{Mkdir, Create}
use Rattle.fx_script.specs.Print.{StepKeepsRules}
use Rattle.fx_namespace.specs.Commits.{IsBelow}
use Rattle.fx_namespace.proofs.Commits.{node_below, written_numbers}
use Rattle.fx_namespace.proofs.Items.{next_id-least, next_store-least}
use Rattle.fx_history.specs.declared.entry.Entry.{Entry}
use Rattle.fx_record.specs.Commits.{IsCommit}
use Rattle.fx_record.proofs.Lengths.{few_commit}
use Rattle.fx_image.specs.Replay.{AreItemsOf, OfDirectory, OfFile, OfWrite}
use Rattle.fx_image.proofs.ReplaySteps.{step_are_items, step_ascends, step_numbers}
use Rattle.fx_parts.specs.Live.{MakesNames, live_in_lists, name_map}
use Rattle.fx_parts.specs.Parts.{IsPartOf, Part, Reservation, SharedState, live_now}
use Rattle.fx_parts.specs.Sound.{IsReservationSound, IsSharedSound}
use Rattle.fx_parts.specs.Plans.{IsPlanOf, IsPlannedCommit, PlansDirectory, PlansFile, PlansWrite}
use Rattle.fx_core.specs.Logged.{IsWritable}

-- ---- names

last_named : (above : List (List ℕ)) (name : List ℕ) → AllByRecursion (λ (n : List ℕ). is_name n ≡ true) (above ++ name ∷ []) → is_name name ≡ true
last_named [] name h = h.0
last_named (x ∷ above) name h = last_named above name h.1

made_named : (step : Step) (above : List (List ℕ)) (name : List ℕ) → step ≡ Mkdir (above ++ name ∷ []) → StepKeepsRules step → is_name name ≡ true
made_named step above name e rules = last_named above name (subst StepKeepsRules e rules).names

created_named : (step : Step) (above : List (List ℕ)) (name : List ℕ) → step ≡ Create (above ++ name ∷ []) → StepKeepsRules step → is_name name ≡ true
created_named step above name e rules = last_named above name (subst StepKeepsRules e rules).names

-- ---- numbers

id_upto : (a b most : ℕ) (items : List PlainItem) → a ≤ most → next_id b items ≤ most → next_id a items ≤ most
id_upto a b most [] low h = low
id_upto a b most (x ∷ items) low h =
    let v : ℕ = max (key_id x.key) (value_id x.value) + 1 in
    let least : max b v ≤ next_id (max b v) items = next_id-least (max b v) items in
    id_upto (max a v) (max b v) most items (omega (arith, least, h)) h

store_upto : (a b most : ℕ) (items : List PlainItem) → a ≤ most → next_store b items ≤ most → next_store a items ≤ most
store_upto a b most [] low h = low
store_upto a b most (x ∷ items) low h =
    let v : ℕ = max (key_store x.key) (value_store x.value) + 1 in
    let least : max b v ≤ next_store (max b v) items = next_store-least (max b v) items in
    store_upto (max a v) (max b v) most items (omega (arith, least, h)) h

module _ (m : ItemMap) (r : Reservation) (step : Step) (items : List PlainItem) (below : IsBelow m r.id r.store) (rules : StepKeepsRules step) where
  are_items : IsPlanOf m r step items → AreItemsOf m r.id r.store step items
  are_items (PlansDirectory above name parent node e room is) = OfDirectory above name parent node e (made_named step above name e rules) room.depth room.way room.next is
  are_items (PlansFile above name parent node e inner room is) = OfFile above name parent node e (created_named step above name e rules) room.depth room.way room.next is
  are_items (PlansWrite path at text node e short way file is) = OfWrite path at text node e way is

  -- they use no number past those that were given out
  abbrev Within : ℕ → ℕ → Type 0
  Within ids stores = (next_id r.id items ≤ ids) × (next_store r.store items ≤ stores)

  within : (ids stores : ℕ) → r.id + r.need.nodes ≤ ids → r.store + r.need.nodes ≤ stores → IsPlanOf m r step items → Within ids stores
  within ids stores i k (PlansDirectory above name parent node e room is) =
      let rise = step_numbers m step items r.id r.store below (are_items (PlansDirectory above name parent node e room is)) in
      (omega (arith, rise.0, room.given), omega (arith, rise.1, room.given))
  within ids stores i k (PlansFile above name parent node e inner room is) =
      let rise = step_numbers m step items r.id r.store below (are_items (PlansFile above name parent node e inner room is)) in
      (omega (arith, rise.0, room.given), omega (arith, rise.1, room.given))
  within ids stores i k (PlansWrite path at text node e short way file is) =
      let low = node_below m r.id r.store below path node way in
      let same = written_numbers node r.id r.store low.0 low.1 in
      (omega (arith, ap (next_id r.id) is, same.0), omega (arith, ap (next_store r.store) is, same.1))

  few : IsPlanOf m r step items → length items ≤ 2
  few (PlansDirectory above name parent node e room is) = omega (arith, ap length is)
  few (PlansFile above name parent node e inner room is) = omega (arith, ap length is)
  few (PlansWrite path at text node e short way file is) = omega (arith, ap length is)

  commit_of : r.id < 2 ^ 64 → r.store < 2 ^ 32 → IsPlanOf m r step items → IsCommit items
  commit_of i k plan = few_commit items
      (record {
        each = step_are_items m step items r.id r.store below i k (are_items plan);
        ascending = step_ascends m step items r.id r.store below (are_items plan);
      })
      (omega (arith, few plan))

module _ (s : SharedState) (who : ℕ) (part : Part) (entry : Entry) (items : List PlainItem) (sound : IsSharedSound MakesNames s) (is : IsPartOf s who part) (w : IsWritable part entry items)
    (ids : s.ids ≤ 2 ^ 63) (stores : s.stores ≤ 2 ^ 31) where
  abbrev p : IsPlannedCommit part entry items
  p = w.planned

  given : IsReservationSound (live_now s) s.ids s.stores p.r
  given = (sound.parts who part is).reserves p.r p.reserved

  pub written_commit : IsCommit items
  written_commit = commit_of (name_map (live_in_lists p.snapshot.lists)) p.r p.step items w.above w.sayable (omega (arith, given.given_ids)) (omega (arith, given.given_stores)) p.plan

  pub written_within : (id store : ℕ) → id ≤ s.ids → store ≤ s.stores → (next_id id items ≤ s.ids) × (next_store store items ≤ s.stores)
  written_within id store i k =
      let both = within (name_map (live_in_lists p.snapshot.lists)) p.r p.step items w.above w.sayable s.ids s.stores given.given_ids given.given_stores p.plan in
      (id_upto id p.r.id s.ids items i both.0, store_upto store p.r.store s.stores items k both.1)
