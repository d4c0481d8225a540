-- The layers that superblocks and pins read are whole in each image left now.
use Rattle.std.proofs.Common.{◌≡◌, ℕ, ◌≤◌, List, sym, ap, ◌∙◌, arith, inl, inr, None, Contains}
use Rattle.fx_disk.specs.Record.{DiskRecord, LeftNow}
use Rattle.fx_uses.specs.Live.{live_after}
use Rattle.fx_uses.specs.Uses.{Use, Firm, BlockUses, AreUses, CellsHold, since_of, wanted, last, bytes_now, image_block}
use Rattle.fx_uses.specs.Layers.{LayerSense, ReadsNamed, Reader, Current, Next, Pins, IsReadBy, IsNamed}
use Rattle.fx_uses.proofs.UsesKept.{shown_none}
use Rattle.fx_kept.proofs.KeptContents.{image_firm}

pub read_firm : (reader : Reader) (b : ℕ) (u : Use) → IsReadBy reader b u → wanted u ≡ Firm 0
read_firm Current b u is = ap wanted is
read_firm (Next stays) b u (inl is) = ap wanted is
read_firm (Next stays) b u (inr is) = ap wanted is.0
read_firm (Pins kept) b u (inl is, of) = ap wanted is
read_firm (Pins kept) b u (inr is, of) = ap wanted is

read_hidden : (reader : Reader) (b : ℕ) (u : Use) → IsReadBy reader b u → since_of u ≡ None
read_hidden Current b u is = ap since_of is
read_hidden (Next stays) b u (inl is) = ap since_of is
read_hidden (Next stays) b u (inr is) = ap since_of is.0
read_hidden (Pins kept) b u (inl is, of) = ap since_of is
read_hidden (Pins kept) b u (inr is, of) = ap since_of is

pub named_image : (sense : LayerSense) → ReadsNamed sense → (sum : List ℕ → ℕ) (s : BlockUses) (r : DiskRecord) (image : List (List ℕ)) (reader : Reader) (base : ℕ) (firsts blocks : List ℕ) (said : sense.Said) → CellsHold sum s r → LeftNow r image
    → IsNamed sense s r reader base firsts blocks said → sense.Says (image_block image) firsts blocks said
named_image sense reads sum s r image reader base firsts blocks said held left h = reads (bytes_now r) (image_block image) firsts blocks said
    (λ b is. sym (image_firm sum s r image held left b 0 (read_firm reader b (s.uses b) (h.all b is)) (omega arith))) h.says

pub named_apart : (sense : LayerSense) (s : BlockUses) (r : DiskRecord) (reader : Reader) (base : ℕ) (firsts blocks : List ℕ) (said : sense.Said) (k b : ℕ) → AreUses s → IsNamed sense s r reader base firsts blocks said → Contains blocks b → s.settled ≤ k → k ≤ last s
    → live_after s.first s.txns k b ≡ None
named_apart sense s r reader base firsts blocks said k b used h is ge le = used.live_is k b ge le ∙ shown_none k (s.uses b) (s.sums b) (read_hidden reader b (s.uses b) (h.all b is))
