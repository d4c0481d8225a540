-- The commit of a step that is done fits the journal.
use Rattle.std.proofs.Common.{◌≡◌, ℕ, ◌+◌, ◌^◌, ◌≤◌, ◌<◌, List, [], ◌∷◌, ◌++◌, length, sym, subst, ap, arith}
use Rattle.std.specs.Prelude.{Result, Ok, IsOk, is_ok}
use Rattle.fx_item.specs.Item.{PlainItem}
use Rattle.fx_item.specs.Look.{ItemMap, after_all, next_id_after, next_store_after}
use Rattle.fx_plain.specs.Table.{do_step, do_all}
use Rattle.fx_plain.specs.Tree.{Tree}
use Rattle.fx_plain.specs.declared.step.Answer.{Answer}
use Rattle.fx_plain.specs.declared.step.Refusal.{Refusal}
use Rattle.fx_plain.specs.declared.step.Step.{Step}
use Rattle.fx_namespace.specs.Commits.{IsBelow}
use Rattle.fx_namespace.proofs.Items.{below_all}
use Rattle.fx_history.specs.declared.entry.Entry.{Entry}
use Rattle.fx_history.specs.History.{tree_at}
use Rattle.fx_history.proofs.Histories.{legal_more, one_step}
use Rattle.fx_record.proofs.Lengths.{few_commit}
use Rattle.fx_image.specs.Replay.{AreItemsOf, OfDirectory, OfFile, OfWrite}
use Rattle.fx_image.specs.Standing.{lists_of}
use Rattle.fx_image.specs.Journal.{Journal, IsJournal, IsNextCommit, max_given, opening_id, opening_store}
use Rattle.fx_image.proofs.ReplaySteps.{replay_step, step_are_items, step_ascends, step_numbers}

-- the items that stand in a journal, and the next numbers
abbrev pub items_now : Journal → ItemMap
items_now j = after_all (lists_of j.opening.txns ++ j.commits.records)

abbrev pub id_now : Journal → ℕ
id_now j = next_id_after j.log.head.super.next_id (lists_of j.opening.txns ++ j.commits.records)

abbrev pub store_now : Journal → ℕ
store_now j = next_store_after j.log.head.super.next_store (lists_of j.opening.txns ++ j.commits.records)

few-items : (m : ItemMap) (id store : ℕ) (step : Step) (items : List PlainItem) → AreItemsOf m id store step items → length items ≤ 2
few-items m id store step items (OfDirectory above name parent node e named depth way next is) = omega (arith, ap length is)
few-items m id store step items (OfFile above name parent node e named depth way next is) = omega (arith, ap length is)
few-items m id store step items (OfWrite path at text node e way is) = omega (arith, ap length is)

module _ (j : Journal) (calls : ℕ) (h : IsJournal j calls) where
  pub below-now : IsBelow (items_now j) (id_now j) (store_now j)
  below-now = below_all j.log.head.super.next_id j.log.head.super.next_store (lists_of j.opening.txns ++ j.commits.records) h.reading.head.rules.next_id_least h.reading.head.rules.next_store_least

  pub id-low : id_now j ≤ 2 ^ 62
  id-low = omega (arith, h.few.ids, h.reading.room.ids_left)

  pub store-low : store_now j ≤ 2 ^ 31
  store-low = omega (arith, h.few.stores, h.reading.room.stores_left)

  pub next-commit : (entry : Entry) (step : Step) (items : List PlainItem) (answer : Answer) → length j.commits.history < 2 ^ 20 → id_now j + 1 ≤ opening_id j + max_given → store_now j + 1 ≤ opening_store j + max_given → entry.number ≡ j.opening.base + length j.commits.history + 1 → entry.settled ≡ 0 → 0 < entry.who → entry.steps ≡ step ∷ []
      → (do_step (tree_at j.opening.tree j.commits.history (j.opening.base + length j.commits.history)) step).0 ≡ Ok answer → AreItemsOf (items_now j) (id_now j) (store_now j) step items → IsNextCommit j entry items
  next-commit entry step items answer few more_id more_store number settled who one done are =
      let rise = step_numbers (items_now j) step items (id_now j) (store_now j) below-now are in
      record {
        number = number;
        settled = settled;
        legal = legal_more j.opening.tree j.opening.base j.commits.history entry h.legal number settled who (all-done one);
        replays = replay_step j.opening.tree j.opening.base j.opening.txns j.commits.history j.commits.records entry step items (id_now j) (store_now j) answer h.replays h.legal number one done below-now are;
        items_are = few_commit items
            (record {
              each = step_are_items (items_now j) step items (id_now j) (store_now j) below-now (omega (arith, id-low)) (omega (arith, store-low)) are;
              ascending = step_ascends (items_now j) step items (id_now j) (store_now j) below-now are;
            })
            (omega (arith, few-items (items_now j) (id_now j) (store_now j) step items are));
        few = few;
        id = omega (arith, rise.0, more_id);
        store = omega (arith, rise.1, more_store);
      }
    where
      before : Tree
      before = tree_at j.opening.tree j.commits.history (j.opening.base + length j.commits.history)

      all-done : entry.steps ≡ step ∷ [] → IsOk (do_all before entry.steps)
      all-done e =
          let new : Tree = (do_step before step).1 in
          let does : do_step before step ≡ (Ok answer, new) = ap (λ (r : Result Answer Refusal). let both : Result Answer Refusal × Tree = (r, new) in both) done in
          subst (λ (steps : List Step). IsOk (do_all before steps)) (sym e) (ap (λ (r : Result Tree (ℕ × Refusal)). is_ok r) (one_step before new step answer does))
