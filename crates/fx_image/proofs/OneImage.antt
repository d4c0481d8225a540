-- An image stands for one tree.
use Rattle.std.proofs.Common.{◌≡◌, ℕ, List, sym, subst}
use Rattle.fx_plain.specs.Tree.{Tree}
use Rattle.fx_namespace.specs.Trees.{IsTreeOf, bare}
use Rattle.fx_namespace.proofs.Trees.{one_tree}
use Rattle.fx_journal.specs.declared.stream.StreamBlock.{StreamBlock}
use Rattle.fx_record.specs.Txns.{IsTxns}
use Rattle.fx_record.proofs.Fronts.{one_answer}
use Rattle.fx_super.specs.Super.{Fields}
use Rattle.fx_image.specs.Standing.{Transactions, IsImage, items_after, stream_pieces}
use Rattle.fx_log.proofs.SuperChoice.{one_super, rules_chosen, stream_chosen}

module _ (size : ℕ) (image : List (List ℕ)) (f : Fields) where
  pub one_journal : (xs ys : Transactions) (t u : Tree) → IsImage size image f xs t → IsImage size image f ys u → xs ≡ ys
  one_journal xs ys t u a b =
      let same = stream_chosen image f a.next b.next a.stream b.stream (rules_chosen image f a.chosen) a.stream_is b.stream_is in
      let other : IsTxns f.base (stream_pieces a.stream) ys = subst (λ (s : List StreamBlock). IsTxns f.base (stream_pieces s) ys) (sym same.0) b.txns_are in
      one_answer f.base (stream_pieces a.stream) xs ys a.txns_are other

  pub one_image : (xs ys : Transactions) (t u : Tree) → IsImage size image f xs t → IsImage size image f ys u → (xs ≡ ys) × (t ≡ u)
  one_image xs ys t u a b =
      let same : xs ≡ ys = one_journal xs ys t u a b in
      let other : IsTreeOf (items_after xs) bare u = subst (λ (s : Transactions). IsTreeOf (items_after s) bare u) (sym same) b.stands.tree_is in
      (same, one_tree (items_after xs) bare t u a.stands.tree_is other)

pub images_super : (size : ℕ) (image : List (List ℕ)) (f g : Fields) (xs ys : Transactions) (t u : Tree) → IsImage size image f xs t → IsImage size image g ys u → f ≡ g
images_super size image f g xs ys t u a b = one_super image f g a.chosen b.chosen

pub images_same : (size : ℕ) (image : List (List ℕ)) (f g : Fields) (xs ys : Transactions) (t u : Tree) → IsImage size image f xs t → IsImage size image g ys u → (xs ≡ ys) × (t ≡ u)
images_same size image f g xs ys t u a b =
    let same : f ≡ g = images_super size image f g xs ys t u a b in
    one_image size image f xs ys t u a (subst (λ (x : Fields). IsImage size image x ys u) (sym same) b)
