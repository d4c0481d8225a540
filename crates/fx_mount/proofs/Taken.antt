-- An image that a session can go on from is refused for nothing.
use Rattle.std.proofs.Common.{◌≡◌, ◌⊎◌, inl, inr, ℕ, List, refl, sym, ap, subst, ◌∙◌, arith}
use Rattle.std.specs.Prelude.{IfSome, Option, Some}
use Rattle.fx_disk.specs.Record.{DiskRecord}
use Rattle.fx_disk.specs.Seen.{DiskSeen}
use Rattle.fx_plain.specs.Tree.{Tree}
use Rattle.fx_namespace.specs.Nodes.{Stands}
use Rattle.fx_nodes.proofs.NothingWrong.{nothing_wrong}
use Rattle.fx_history.specs.declared.entry.Entry.{Entry}
use Rattle.fx_image.specs.Prefix.{IsPrefix}
use Rattle.fx_journal.specs.declared.stream.StreamBlock.{StreamBlock}
use Rattle.fx_record.specs.Txns.{IsTxns}
use Rattle.fx_record.proofs.Fronts.{not_both, one_answer}
use Rattle.fx_super.specs.Super.{Fields}
use Rattle.fx_super.specs.Chosen.{HasNoChosen}
use Rattle.fx_log.specs.Chosen.{ChoosesSuper, layers_of}
use Rattle.fx_image.specs.Standing.{HasSessionRoom, IsImage, Transactions, items_after, kept, stream_pieces}
use Rattle.fx_image.proofs.OneImage.{images_same, images_super}
use Rattle.fx_log.proofs.SuperChoice.{one_super, rules_chosen, stream_chosen}
use Rattle.fx_mount.specs.declared.fault.MountFault.{MountFault}
use Rattle.fx_mount.specs.declared.fault.MountFault.TheVariants as faults
use Rattle.fx_mount.specs.Found.{HasStream, HasSuper, IsMountable, IsMountCause, IsMountedAt, IsRefused, IsTold}

-- ---- an image to mount

module _ (size : ℕ) (image : List (List ℕ)) (f : Fields) (txns : Transactions) (tree : Tree) (is : IsMountable size image f txns tree) where
  abbrev here : IsImage size image f txns tree
  here = is.image_is

  same_super : (g : Fields) → ChoosesSuper g image → f ≡ g
  same_super g chooses = one_super image f g here.chosen chooses

  has_chosen : HasNoChosen image → ⊥
  has_chosen none = none here.chosen.0 f here.chosen.1.is_super

  module _ (g : Fields) (blocks : List StreamBlock) (super : HasSuper size image g) (stream : HasStream image g blocks) where
    same_fields : f ≡ g
    same_fields = same_super g super.chosen

    same_stream : here.stream ≡ blocks
    same_stream =
        let other : HasStream image f blocks = subst (λ (h : Fields). HasStream image h blocks) (sym same_fields) stream in
        (stream_chosen image f here.next other.0 here.stream blocks (rules_chosen image f here.chosen) here.stream_is other.1).0

    are_txns : IsTxns g.base (stream_pieces blocks) txns
    are_txns = subst (λ (h : Fields). IsTxns h.base (stream_pieces blocks) txns) same_fields (subst (λ (bs : List StreamBlock). IsTxns f.base (stream_pieces bs) txns) same_stream here.txns_are)

  pub taken : (fault : MountFault) → IsRefused size image fault → ⊥
  taken faults.NoSuper (inl few) = omega (arith, is.slots, few)
  taken faults.NoSuper (inr none) = has_chosen none.0
  taken (faults.Version version) r = has_chosen r.1
  taken (faults.DiskSize blocks) r = r.2.2 (ap (λ (h : Fields). h.blocks) (sym (same_super r.2.0 r.2.1)) ∙ here.blocks)
  taken (faults.BadLayer at) r = cc (sym here.layers ∙ ap layers_of (same_super r.1.0 r.1.1) ∙ r.1.3.1)
  taken (faults.BadRecord place) r = not_both r.0.base (stream_pieces r.1) txns place (are_txns r.0 r.1 r.2 r.3) r.4
  taken (faults.BadTree store id) r =
      let same : r.2 ≡ txns = one_answer r.0.base (stream_pieces r.1) r.2 txns r.5 (are_txns r.0 r.1 r.3 r.4) in
      nothing_wrong (items_after r.2) (subst (λ (ts : Transactions). Stands (items_after ts)) (sym same) here.stands.stands) (record { store = store; id = id }) r.6.wrong
  taken (faults.Cramped free) r =
      let same_f : f ≡ r.2.0 = images_super size image f r.2.0 txns r.2.1 tree r.2.2 here r.2.3 in
      let same : txns ≡ r.2.1 = (images_same size image f r.2.0 txns r.2.1 tree r.2.2 here r.2.3).0 in
      r.2.4 (subst (λ (g : Fields). HasSessionRoom g r.2.1) same_f (subst (λ (ts : Transactions). HasSessionRoom f ts) same is.room))
  taken faults.Device r = r
  taken faults.OutOfMemory r = r

pub prefix_taken : (size : ℕ) (ample : Type 0) (tree : Tree) (base : ℕ) (history : List Entry) (m : ℕ) (image : List (List ℕ)) (fault : MountFault) → IsPrefix size ample tree base history m image → ample → IsRefused size image fault → ⊥
prefix_taken size ample tree base history m image fault p room refused =
    let rules = rules_chosen image p.super p.image_is.chosen in
    taken size image p.super p.txns _ (record { slots = omega (arith, rules.blocks_least, p.image_is.blocks); image_is = p.image_is; room = p.room room }) fault refused

-- ---- what a mount answers of such an image

module _ (before : DiskSeen) (r : DiskRecord) (f : Fields) (txns : Transactions) (tree : Tree) (here : before.told ≡ Some r) (is : IsMountable before.size r.contents f txns tree) where
  not-told : (fault : MountFault) → IsTold before fault → ⊥
  not-told fault h = taken before.size r.contents f txns tree is fault (subst (λ (o : Option DiskRecord). IfSome o (λ s. IsRefused before.size s.contents fault)) here h)

  -- only a fault of the disk or want of memory
  pub answers_free : (after : DiskSeen) (fault : MountFault) → IsMountCause before after fault → (fault ≡ faults.Device) ⊎ (fault ≡ faults.OutOfMemory)
  answers_free after faults.NoSuper h = absurd (not-told faults.NoSuper h.1)
  answers_free after (faults.Version version) h = absurd (not-told (faults.Version version) h.1)
  answers_free after (faults.DiskSize blocks) h = absurd (not-told (faults.DiskSize blocks) h.1)
  answers_free after (faults.BadLayer at) h = absurd (not-told (faults.BadLayer at) h.1)
  answers_free after (faults.BadRecord place) h = absurd (not-told (faults.BadRecord place) h.1)
  answers_free after (faults.BadTree store id) h = absurd (not-told (faults.BadTree store id) h.1)
  answers_free after (faults.Cramped free) h = absurd (not-told (faults.Cramped free) h.1)
  answers_free after faults.Device h = inl refl
  answers_free after faults.OutOfMemory h = inr refl

  -- the number of the last commit, and the transactions
  pub answers_same : (base : ℕ) (others : Transactions) (opening : Tree) → IfSome before.told (IsMountedAt before.size base others opening) → (base ≡ kept f txns) × (others ≡ txns)
  answers_same base others opening mounted =
      let m : IsMountedAt before.size base others opening r = subst (λ (o : Option DiskRecord). IfSome o (IsMountedAt before.size base others opening)) here mounted in
      let same_f : m.0 ≡ f = images_super before.size r.contents m.0 f others txns opening tree m.1.image_is is.image_is in
      let same : others ≡ txns = (images_same before.size r.contents m.0 f others txns opening tree m.1.image_is is.image_is).0 in
      (sym m.2 ∙ ap (λ (ts : Transactions). kept m.0 ts) same ∙ ap (λ (g : Fields). kept g txns) same_f, same)
