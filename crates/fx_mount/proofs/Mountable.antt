-- A disk of which a mount has read all that a store begins with has an image to mount.
use Rattle.std.proofs.Common.{◌≡◌, ℕ, ◌+◌, length, sym, ap, subst, arith}
use Rattle.std.specs.Prelude.{IfSome, Option}
use Rattle.fx_disk.specs.Record.{DiskRecord}
use Rattle.fx_disk.specs.Seen.{DiskSeen}
use Rattle.fx_plain.specs.Tree.{Tree}
use Rattle.fx_super.specs.Super.{Fields, fields_of}
use Rattle.fx_super.specs.Chosen.{IsChosen}
use Rattle.fx_journal.specs.Stream.{IsStream}
use Rattle.fx_record.specs.Txns.{txns_of}
use Rattle.fx_log.specs.Chosen.{ChoosesSuper, start_of}
use Rattle.fx_image.specs.Journal.{IsReading}
use Rattle.fx_image.specs.Standing.{Transactions}
use Rattle.fx_log.proofs.SuperChoice.{one_super, stream_chosen}
use Rattle.fx_store.specs.Mounted.{Opens}
use Rattle.fx_store.specs.Opening.{CanBegin, IsRead, TellsChosen}
use Rattle.fx_store.specs.declared.opening.Contents.{Contents}
use Rattle.fx_store.specs.declared.opening.Found.{Found}
use Rattle.fx_store.proofs.Keeps.{if-both, if-more}
use Rattle.fx_mount.specs.Found.{HasRing, HasStream, IsMountedAt}

-- what was read of a disk stands for each that tells the same
module _ (a b : DiskSeen) (size : b.size ≡ a.size) (told : b.told ≡ a.told) where
  read_of_same : (f : Fields) (c : Contents) → IsRead b f c → IsRead a f c
  read_of_same f c is = record {
    blocks = is.blocks;
    closed_is = is.closed_is;
    few = is.few;
    reading = subst (λ (n : ℕ). IsReading n c.base f is.blocks c.next (txns_of c.txns)) size is.reading;
    stands = is.stands;
    small = is.small;
    stream = subst (λ (o : Option DiskRecord). IfSome o (λ r. IsStream r.contents f.ring f.generation (start_of f) is.blocks c.next)) told is.stream;
    knows = is.knows;
    next_id = is.next_id;
    next_store = is.next_store;
  }

  pub can_of_same : (found : Found) (c : Contents) → CanBegin b found c → CanBegin a found c
  can_of_same found c can = record {
    chosen = subst (λ (o : Option DiskRecord). IfSome o (λ r. IsChosen r.contents found.chosen (fields_of found.sup))) told can.chosen;
    read = read_of_same (fields_of found.sup) c can.read;
  }

  pub can_found : (found : Found) (c : Contents) → TellsChosen a found.chosen (fields_of found.sup) → IsRead b (fields_of found.sup) c → CanBegin a found c
  can_found found c chosen is = record { chosen = chosen; read = read_of_same (fields_of found.sup) c is }

-- the superblock that was found is chosen
pub chooses_found : (a b : DiskSeen) (found : Found) → b.told ≡ a.told → TellsChosen a found.chosen (fields_of found.sup) → IfSome b.told (λ r. ChoosesSuper (fields_of found.sup) r.contents)
chooses_found a b found told chosen = subst (λ (o : Option DiskRecord). IfSome o (λ r. ChoosesSuper (fields_of found.sup) r.contents)) (sym told)
    (if-more a.told (λ r. IsChosen r.contents found.chosen (fields_of found.sup)) (λ r. ChoosesSuper (fields_of found.sup) r.contents) (λ r is. (found.chosen, is)) chosen)

module _ (seen : DiskSeen) (found : Found) (c : Contents) (can : CanBegin seen found c) where
  abbrev f : Fields
  f = fields_of found.sup

  abbrev is : IsRead seen f c
  is = can.read

  abbrev txns : Transactions
  txns = txns_of c.txns

  abbrev IsHere : DiskRecord → Type 0
  IsHere r = IsChosen r.contents found.chosen f

  abbrev IsThere : DiskRecord → Type 0
  IsThere r = IsStream r.contents f.ring f.generation (start_of f) is.blocks c.next

  mounted_with : (r : DiskRecord) → IsHere r → IsThere r → IsMountedAt seen.size c.base txns c.tree r
  mounted_with r here there = (
    f,
    record {
      slots = omega (arith, is.reading.head.blocks, is.reading.head.rules.blocks_least);
      image_is = record {
        chosen = (found.chosen, here);
        blocks = is.reading.head.blocks;
        layers = is.reading.layers;
        stream = is.blocks;
        next = c.next;
        stream_is = there;
        txns_are = is.reading.txns_are;
        stands = is.stands;
      };
      room = is.reading.room;
    },
    is.reading.base_is,
  )

  pub opens_at : (base : ℕ) (others : Transactions) → base ≡ c.base → others ≡ txns
      → (opening : Tree) × Opens others opening × IfSome seen.told (IsMountedAt seen.size base others opening)
  opens_at base others same_base same = (
    c.tree,
    subst (λ (ts : Transactions). Opens ts c.tree) (sym same) is.stands,
    subst (λ (n : ℕ). IfSome seen.told (IsMountedAt seen.size n others c.tree)) (sym same_base)
        (subst (λ (ts : Transactions). IfSome seen.told (IsMountedAt seen.size c.base ts c.tree)) (sym same)
        (if-both seen.told IsHere IsThere (IsMountedAt seen.size c.base txns c.tree) mounted_with can.chosen is.stream)),
  )

  -- the ring is the superblock's
  ring_with : (r : DiskRecord) → ChoosesSuper f r.contents → IsThere r → HasRing r.contents f.ring (c.closed + 1)
  ring_with r chosen there g blocks chooses stream =
      let same : f ≡ g = one_super r.contents f g chosen chooses in
      let here : HasStream r.contents f blocks = subst (λ (h : Fields). HasStream r.contents h blocks) (sym same) stream in
      let one = stream_chosen r.contents f c.next here.0 is.blocks blocks is.reading.head.rules there here.1 in
      (ap (λ (h : Fields). h.ring) same, omega (arith, is.closed_is, ap length one.0))

  pub has_ring : (ring live : ℕ) → ring ≡ f.ring → live ≡ c.closed + 1 → IfSome seen.told (λ r. HasRing r.contents ring live)
  has_ring ring live same_ring same_live =
      subst (λ (n : ℕ). IfSome seen.told (λ r. HasRing r.contents n live)) (sym same_ring)
      (subst (λ (n : ℕ). IfSome seen.told (λ r. HasRing r.contents f.ring n)) (sym same_live)
      (if-both seen.told IsHere IsThere (λ r. HasRing r.contents f.ring (c.closed + 1))
      (λ r here there. ring_with r (found.chosen, here) there) can.chosen is.stream))
