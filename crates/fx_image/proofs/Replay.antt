-- What the items of commits make of an image, with one commit more.
use Rattle.std.proofs.Common.{◌≡◌, ◌≢◌, ◌⊎◌, inl, inr, ℕ, ◌+◌, ◌≤◌, List, [], ◌∷◌, ◌++◌, refl, sym, ap, subst, ◌∙◌, length, length-append, take, append_assoc, arith}
use Rattle.std.proofs.Math.Seq.{take-length}
use Rattle.std.proofs.lemmas.List.{append-nil, map-append, take-append-le, take_all}
use Rattle.fx_item.specs.Item.{PlainItem}
use Rattle.fx_item.specs.Look.{ItemMap, after, after_all}
use Rattle.fx_plain.specs.Bare.{bare}
use Rattle.fx_plain.specs.Tree.{Tree}
use Rattle.fx_namespace.proofs.Items.{after_all-more}
use Rattle.fx_namespace.proofs.Walks.{same_number}
use Rattle.fx_history.specs.declared.entry.Entry.{Entry}
use Rattle.fx_history.specs.History.{Legal, settle, tree_after, tree_at}
use Rattle.fx_history.proofs.Histories.{tree_at_before, tree_next}
use Rattle.fx_history.proofs.Settling.{settle_length, tree_at_settle}
use Rattle.fx_image.specs.Standing.{StandsFor, Transactions, items_after, lists_of}
use Rattle.fx_image.specs.Replay.{Replays}

-- no commit
pub replay_none : (tree : Tree) (base : ℕ) (txns : Transactions) → StandsFor (items_after txns) tree → tree ≡ bare tree → Replays tree base txns [] []
replay_none tree base txns s is_bare = record {
  one_each = refl;
  stands = λ k le. subst (λ (lists : List (List PlainItem)). StandsFor (after_all lists) (bare tree)) (sym (ap (λ (lists : List (List PlainItem)). lists_of txns ++ lists) (take_all k [] (omega arith)) ∙ append-nil (lists_of txns))) (subst (StandsFor (items_after txns)) is_bare s);
}

-- what stands now
pub replay_now : (tree : Tree) (base : ℕ) (txns : Transactions) (history : List Entry) (records : List (List PlainItem)) → Replays tree base txns history records
    → StandsFor (after_all (lists_of txns ++ records)) (bare (tree_at tree history (base + length history)))
replay_now tree base txns history records log =
    subst (λ (n : ℕ). StandsFor (after_all (lists_of txns ++ records)) (bare (tree_at tree history (base + n)))) log.one_each
    (subst (λ (lists : List (List PlainItem)). StandsFor (after_all (lists_of txns ++ lists)) (bare (tree_at tree history (base + length records)))) (take-length records)
    (log.stands (length records) (omega arith)))

-- what transactions that keep the first k commits stand for
pub replay_prefix : (tree : Tree) (base : ℕ) (txns more : Transactions) (history : List Entry) (records : List (List PlainItem)) (k : ℕ) → Replays tree base txns history records
    → k ≤ length records → lists_of more ≡ take k records → StandsFor (items_after (txns ++ more)) (bare (tree_at tree history (base + k)))
replay_prefix tree base txns more history records k log le same =
    subst (λ (lists : List (List PlainItem)). StandsFor (after_all lists) (bare (tree_at tree history (base + k))))
    (sym (map-append (λ (txn : ℕ × List PlainItem). txn.1) txns more ∙ ap (λ (lists : List (List PlainItem)). lists_of txns ++ lists) same)) (log.stands k le)

-- one commit more
module _ (tree : Tree) (base : ℕ) (txns : Transactions) (history : List Entry) (records : List (List PlainItem)) (e : Entry) (items : List PlainItem)
    (log : Replays tree base txns history records) (legal : Legal tree base history) (number : e.number ≡ base + length history + 1)
    (s : StandsFor (after (after_all (lists_of txns ++ records)) items) (bare (tree_after (tree_at tree history (base + length history)) e))) where
  abbrev StandsAt : ℕ → Type 0
  StandsAt k = StandsFor (after_all (lists_of txns ++ take k (records ++ items ∷ []))) (bare (tree_at tree (history ++ e ∷ []) (base + k)))

  stands_before : (k : ℕ) → k ≤ length records → StandsAt k
  stands_before k le =
      let same : length records ≡ length history = log.one_each in
      subst (λ (lists : List (List PlainItem)). StandsFor (after_all (lists_of txns ++ lists)) (bare (tree_at tree (history ++ e ∷ []) (base + k)))) (sym (take-append-le k records (items ∷ []) le))
      (subst (λ (t : Tree). StandsFor (after_all (lists_of txns ++ take k records)) (bare t)) (sym (tree_at_before tree history e (base + k) (omega arith))) (log.stands k le))

  stands_last : StandsAt (length (records ++ items ∷ []))
  stands_last =
      let same : length (history ++ e ∷ []) ≡ length (records ++ items ∷ []) = omega (arith, length-append history (e ∷ []), length-append records (items ∷ []), log.one_each) in
      let items_are : after_all (lists_of txns ++ take (length (records ++ items ∷ [])) (records ++ items ∷ [])) ≡ after (after_all (lists_of txns ++ records)) items =
      ap (λ (lists : List (List PlainItem)). after_all (lists_of txns ++ lists)) (take-length (records ++ items ∷ []))
      ∙ ap after_all (sym (append_assoc (lists_of txns) records (items ∷ []))) ∙ after_all-more (lists_of txns ++ records) items in
      let tree_is : tree_at tree (history ++ e ∷ []) (base + length (records ++ items ∷ [])) ≡ tree_after (tree_at tree history (base + length history)) e =
      ap (λ (n : ℕ). tree_at tree (history ++ e ∷ []) (base + n)) (sym same) ∙ tree_next tree base history e legal number in
      subst (λ (m : ItemMap). StandsFor m (bare (tree_at tree (history ++ e ∷ []) (base + length (records ++ items ∷ []))))) (sym items_are)
      (subst (λ (t : Tree). StandsFor (after (after_all (lists_of txns ++ records)) items) (bare t)) (sym tree_is) s)

  stands_by : (k : ℕ) → k ≤ length (records ++ items ∷ []) → (k ≡ length (records ++ items ∷ [])) ⊎ (k ≢ length (records ++ items ∷ [])) → StandsAt k
  stands_by k le (inl last) = subst StandsAt (sym last) stands_last
  stands_by k le (inr other) = stands_before k (omega (arith, length-append records (items ∷ [])))

  pub replay_more : Replays tree base txns (history ++ e ∷ []) (records ++ items ∷ [])
  replay_more = record {
    one_each = omega (arith, length-append history (e ∷ []), length-append records (items ∷ []), log.one_each);
    stands = λ k le. stands_by k le (same_number k (length (records ++ items ∷ [])));
  }

-- another history with as many entries and the same trees
pub replay_settled : (tree : Tree) (base : ℕ) (txns : Transactions) (history other : List Entry) (records : List (List PlainItem)) → Replays tree base txns history records
    → length other ≡ length history → ((n : ℕ) → tree_at tree other n ≡ tree_at tree history n) → Replays tree base txns other records
replay_settled tree base txns history other records log long same = record {
  one_each = log.one_each ∙ sym long;
  stands = λ k le. subst (λ (t : Tree). StandsFor (after_all (lists_of txns ++ take k records)) (bare t)) (sym (same (base + k))) (log.stands k le);
}

-- as where entries are settled
pub replay_settle : (tree : Tree) (base : ℕ) (txns : Transactions) (history : List Entry) (records : List (List PlainItem)) (calls : ℕ) → Replays tree base txns history records → Replays tree base txns (settle calls history) records
replay_settle tree base txns history records calls log = replay_settled tree base txns history (settle calls history) records log (settle_length calls history) (tree_at_settle tree calls history)
