-- What stands after all transactions, as their items are put into a table one after another.
use Rattle.std.proofs.Common.{◌≡◌, ℕ, ◌-◌, ◌^◌, ◌<◌, ◌≤◌, ◌+◌, List, [], ◌∷◌, refl, sym, ap, subst, ◌∙◌, arith, length, get_or, drop}
use Rattle.std.proofs.lemmas.List.{at_drop_more, at_drop_all, get_or-map, length-map}
use Rattle.std.specs.Prelude.{All, min}
use Rattle.std.specs.List.{fold}
use Rattle.std.proofs.Math.Path.{fun_ext}
use Rattle.fx_item.specs.Item.{PlainItem, PlainKey, items_of}
use Rattle.fx_item.specs.Look.{ItemMap, after, next_id, next_id_after, next_store, next_store_after, value_in}
use Rattle.fx_nodes.specs.Table.{PlainTable, MovesOn}
use Rattle.fx_image.specs.Standing.{Transactions, items_after, lists_of}
use Rattle.fx_item.specs.declared.item.Item.{Item}
use Rattle.fx_record.specs.Commits.{IsCommit}
use Rattle.fx_record.specs.Txns.{txns_of}
use Rattle.fx_super.specs.Super.{Fields}
use Rattle.fx_mount.specs.Reading.{IsGathered}

-- With the items of the transactions that are left the table has what stands after all.
pub record Gathers (first_id first_store : ℕ) (all left : Transactions) (table : PlainTable) : Type 0 where
  pub items : fold after (value_in table.items) (lists_of left) ≡ items_after all
  pub id : ℕ
  pub next_id : table.next_id ≡ min id (2 ^ 64 - 1)
  pub ids : next_id_after id (lists_of left) ≡ next_id_after first_id (lists_of all)
  pub store : ℕ
  pub next_store : table.next_store ≡ min store (2 ^ 32 - 1)
  pub stores : next_store_after store (lists_of left) ≡ next_store_after first_store (lists_of all)

module _ (first_id first_store : ℕ) (all : Transactions) where
  pub gathers_none : (table : PlainTable) → table.items ≡ [] → table.next_id ≡ first_id → table.next_store ≡ first_store → first_id ≤ 2 ^ 64 - 1 → first_store ≤ 2 ^ 32 - 1 → Gathers first_id first_store all all table
  gathers_none table items id store id_fits store_fits = record {
    items = ap (λ (xs : List PlainItem). fold after (value_in xs) (lists_of all)) items;
    id = first_id;
    next_id = omega (arith, id);
    ids = refl;
    store = first_store;
    next_store = omega (arith, store);
    stores = refl;
  }

  module _ (number : ℕ) (items : List PlainItem) (left : Transactions) (before now : PlainTable) where
    pub gathers_more : Gathers first_id first_store all ((number, items) ∷ left) before
        → ((key : PlainKey) → value_in now.items key ≡ after (value_in before.items) items key)
        → MovesOn (2 ^ 64 - 1) before.next_id now.next_id (λ n. next_id n items)
        → MovesOn (2 ^ 32 - 1) before.next_store now.next_store (λ n. next_store n items)
        → Gathers first_id first_store all left now
    gathers_more g put ids stores = record {
      items = ap (λ (m : ItemMap). fold after m (lists_of left)) (fun_ext put) ∙ g.items;
      id = next_id g.id items;
      next_id = ids g.id g.next_id;
      ids = g.ids;
      store = next_store g.store items;
      next_store = stores g.store g.next_store;
      stores = g.stores;
    }

pub gathers_all : (f : Fields) (all : Transactions) (table : PlainTable) → Gathers f.next_id f.next_store all [] table → IsGathered f all table
gathers_all f all table g = record {
  items = λ key. ap (λ (m : ItemMap). m key) g.items;
  next_id = g.next_id ∙ ap (λ (n : ℕ). min n (2 ^ 64 - 1)) g.ids;
  next_store = g.next_store ∙ ap (λ (n : ℕ). min n (2 ^ 32 - 1)) g.stores;
}

-- ---- the transactions in memory

pub commit_in : (txns : List (ℕ × List Item)) (i : ℕ) (t : ℕ × List Item) → All (λ u. IsCommit u.1) (txns_of txns) → i < length txns → t ≡ get_or txns i t → IsCommit (items_of t.1)
commit_in txns i t commits lt e =
    let plain : ℕ × List PlainItem = (t.0, items_of t.1) in
    let view : ℕ × List Item → ℕ × List PlainItem = λ u. (u.0, items_of u.1) in
    let same : get_or (txns_of txns) i plain ≡ plain = get_or-map view txns i t plain lt ∙ ap view (sym e) in
    let within : i < length (txns_of txns) = omega (arith, length-map txns view) in
    subst (λ (u : ℕ × List PlainItem). IsCommit u.1) same (commits i plain within)

pub first_left : (txns : List (ℕ × List Item)) (i : ℕ) (t : ℕ × List Item) → i < length txns → t ≡ get_or txns i t → txns_of (drop i txns) ≡ (t.0, items_of t.1) ∷ txns_of (drop (i + 1) txns)
first_left txns i t lt e = at_drop_more txns_of txns i t lt ∙ ap (λ (u : ℕ × List Item). txns_of (u ∷ drop (i + 1) txns)) (sym e)

pub none_left : (txns : List (ℕ × List Item)) (i : ℕ) → length txns ≤ i → txns_of (drop i txns) ≡ []
none_left txns i le = at_drop_all txns_of txns i le
