-- The layers that a superblock names, and those that pins keep, over the events.
use Rattle.std.proofs.Common.{◌≡◌, ℕ, ◌≤◌, ◌==◌, Bool, true, false, if◌then◌else◌, List, refl, sym, ap, subst, ◌∙◌, arith, ◌⊎◌, inl, inr, Contains}
use Rattle.std.proofs.lemmas.Bool.{ne_eqb}
use Rattle.fx_disk.specs.Record.{DiskRecord, Cell, Write, Flush}
use Rattle.fx_disk.specs.Steps.{with_call}
use Rattle.fx_disk.proofs.Cells.{other-block}
use Rattle.fx_uses.specs.Live.{Txn}
use Rattle.fx_uses.specs.Uses.{Use, Layer, Coming, Pinned, BlockUses, AreUses, last, bytes_now}
use Rattle.fx_uses.specs.Events.{with_use, with_put, taken_over, freed_by, with_committed, given_back, with_rollback, with_flushed, let_go, with_settling, laid_firm, with_layers_flushed, switched, with_switch, pin_ended, with_pin_ended, abandoned, with_anew}
use Rattle.fx_uses.specs.Layers.{LayerSense, ReadsNamed, Reader, Current, Next, Pins, IsReadBy, IsWrittenFor, IsNamed}
use Rattle.fx_uses.proofs.CellsKept.{bytes_flush}

-- ---- one use

-- a change of uses that leaves those of layers, whoever reads them
pub record LeavesLayers (f : Use → Use) : Type 0 where
  pub layer : f Layer ≡ Layer
  pub coming : f Coming ≡ Coming
  pub pinned : f Pinned ≡ Pinned

pub leaves_reader : (f : Use → Use) → LeavesLayers f → (reader : Reader) (b : ℕ) (u : Use) → IsReadBy reader b u → IsReadBy reader b (f u)
leaves_reader f h Current b u is = ap f is ∙ h.layer
leaves_reader f h (Next stays) b u (inl is) = inl (ap f is ∙ h.coming)
leaves_reader f h (Next stays) b u (inr is) = inr (ap f is.0 ∙ h.layer, is.1)
leaves_reader f h (Pins kept) b u (inl is, of) = (inl (ap f is ∙ h.layer), of)
leaves_reader f h (Pins kept) b u (inr is, of) = (inr (ap f is ∙ h.pinned), of)

pub leaves_commit : (who n : ℕ) (h : Bool) → LeavesLayers (λ u. taken_over who n (if h then freed_by n u else u))
leaves_commit who n true = record { layer = refl; coming = refl; pinned = refl }
leaves_commit who n false = record { layer = refl; coming = refl; pinned = refl }

pub switched_next : (stays kept : ℕ → Bool) (b : ℕ) (u : Use) → IsReadBy (Next stays) b u → switched (stays b) (kept b) u ≡ Layer
switched_next stays kept b u (inl is) = ap (switched (stays b) (kept b)) is
switched_next stays kept b u (inr is) = ap (switched (stays b) (kept b)) is.0 ∙ ap (λ (t : Bool). if t then Layer else (if kept b then Pinned else Use.Free)) is.1

pinned_layer : (stays : Bool) → (switched stays true Layer ≡ Layer) ⊎ (switched stays true Layer ≡ Pinned)
pinned_layer true = inl refl
pinned_layer false = inr refl

pub switched_pins : (stays kept : ℕ → Bool) (b : ℕ) (u : Use) → IsReadBy (Pins kept) b u → IsReadBy (Pins kept) b (switched (stays b) (kept b) u)
switched_pins stays kept b u (inl is, of) =
    (subst (λ (v : Use). (v ≡ Layer) ⊎ (v ≡ Pinned)) (sym (ap (switched (stays b) (kept b)) is ∙ ap (λ (t : Bool). switched (stays b) t Layer) of)) (pinned_layer (stays b)), of)
switched_pins stays kept b u (inr is, of) = (inr (ap (switched (stays b) (kept b)) is), of)

pub ended_pins : (kept left : ℕ → Bool) (b : ℕ) (u : Use) → left b ≡ true → IsReadBy (Pins kept) b u → IsReadBy (Pins left) b (pin_ended (left b) u)
ended_pins kept left b u still (inl is, of) = (inl (ap (pin_ended (left b)) is), still)
ended_pins kept left b u still (inr is, of) = (inr (ap (pin_ended (left b)) is ∙ ap (λ (t : Bool). if t then Pinned else Use.Free) still), still)

-- the end of a pin leaves what superblocks name
pub ended_current : (left : Bool) (b : ℕ) (u : Use) → IsReadBy Current b u → IsReadBy Current b (pin_ended left u)
ended_current left b u is = ap (pin_ended left) is

pub ended_next : (stays : ℕ → Bool) (left : Bool) (b : ℕ) (u : Use) → IsReadBy (Next stays) b u → IsReadBy (Next stays) b (pin_ended left u)
ended_next stays left b u (inl is) = inl (ap (pin_ended left) is)
ended_next stays left b u (inr is) = inr (ap (pin_ended left) is.0, is.1)

-- ---- the events

module _ (sense : LayerSense) (reads : ReadsNamed sense) where
  -- an event that leaves the named blocks, perhaps to another reader
  pub named_kept : (s t : BlockUses) (r q : DiskRecord) (reader other : Reader) (base : ℕ) (firsts blocks : List ℕ) (said : sense.Said) → IsNamed sense s r reader base firsts blocks said
      → ((b : ℕ) → Contains blocks b → IsReadBy reader b (s.uses b) → IsReadBy other b (t.uses b)) → ((b : ℕ) → IsReadBy reader b (s.uses b) → bytes_now q b ≡ bytes_now r b) → s.firm ≤ t.firm
      → IsNamed sense t q other base firsts blocks said
  named_kept s t r q reader other base firsts blocks said h still same le = record {
    all = λ b is. still b is (h.all b is);
    says = reads (bytes_now r) (bytes_now q) firsts blocks said (λ b is. sym (same b (h.all b is))) h.says;
    flushed = omega (arith, h.flushed, le);
  }

  -- a block that is not read is put to use, or written
  elsewhere : (s : BlockUses) (reader : Reader) (at : ℕ) → (IsReadBy reader at (s.uses at) → ⊥) → (b : ℕ) → IsReadBy reader b (s.uses b) → at ≡ b → ⊥
  elsewhere s reader at other b is e = other (subst (λ (c : ℕ). IsReadBy reader c (s.uses c)) (sym e) is)

  still_use : (s : BlockUses) (reader : Reader) (at : ℕ) (to : Use) → (IsReadBy reader at (s.uses at) → ⊥) → (b : ℕ) → IsReadBy reader b (s.uses b) → IsReadBy reader b (if at == b then to else s.uses b)
  still_use s reader at to other b is = subst (λ (t : Bool). IsReadBy reader b (if t then to else s.uses b)) (sym (ne_eqb at b (elsewhere s reader at other b is))) is

  pub named_use : (s : BlockUses) (r : DiskRecord) (reader : Reader) (base : ℕ) (firsts blocks : List ℕ) (said : sense.Said) (at : ℕ) (to : Use) → (IsReadBy reader at (s.uses at) → ⊥) → IsNamed sense s r reader base firsts blocks said
      → IsNamed sense (with_use s at to) r reader base firsts blocks said
  named_use s r reader base firsts blocks said at to other h = named_kept s (with_use s at to) r r reader reader base firsts blocks said h (λ b in' is. still_use s reader at to other b is) (λ b is. refl) (omega arith)

  pub named_put : (s : BlockUses) (r : DiskRecord) (reader : Reader) (base : ℕ) (firsts blocks : List ℕ) (said : sense.Said) (at sum : ℕ) (to : Use) (put : List ℕ) (ok : Bool) (contents : List (List ℕ)) → (IsReadBy reader at (s.uses at) → ⊥)
      → IsNamed sense s r reader base firsts blocks said → IsNamed sense (with_put s at to sum) (with_call r (Write at put ok) contents) reader base firsts blocks said
  named_put s r reader base firsts blocks said at sum to put ok contents other h = named_kept s (with_put s at to sum) r (with_call r (Write at put ok) contents) reader reader base firsts blocks said h
      (λ b in' is. still_use s reader at to other b is) (λ b is. ap (λ (c : Cell). c.bytes) (other-block r b at put ok contents (elsewhere s reader at other b is))) (omega arith)

  pub named_written : (s : BlockUses) (r : DiskRecord) (reader : Reader) (base : ℕ) (firsts blocks : List ℕ) (said : sense.Said) (at : ℕ) (put : List ℕ) (ok : Bool) (contents : List (List ℕ)) → (IsReadBy reader at (s.uses at) → ⊥)
      → IsNamed sense s r reader base firsts blocks said → IsNamed sense s (with_call r (Write at put ok) contents) reader base firsts blocks said
  named_written s r reader base firsts blocks said at put ok contents other h = named_kept s s r (with_call r (Write at put ok) contents) reader reader base firsts blocks said h
      (λ b in' is. is) (λ b is. ap (λ (c : Cell). c.bytes) (other-block r b at put ok contents (elsewhere s reader at other b is))) (omega arith)

  pub named_flush : (s : BlockUses) (r : DiskRecord) (reader : Reader) (base : ℕ) (firsts blocks : List ℕ) (said : sense.Said) (ok : Bool) (contents : List (List ℕ)) → IsNamed sense s r reader base firsts blocks said
      → IsNamed sense s (with_call r (Flush ok) contents) reader base firsts blocks said
  named_flush s r reader base firsts blocks said ok contents h = named_kept s s r (with_call r (Flush ok) contents) reader reader base firsts blocks said h (λ b in' is. is) (λ b is. bytes_flush r ok contents b) (omega arith)

  -- uses are changed by a map that leaves layers, and no less is flushed
  pub named_map : (s t : BlockUses) (r : DiskRecord) (reader : Reader) (base : ℕ) (firsts blocks : List ℕ) (said : sense.Said) (f : ℕ → Use → Use) → ((b : ℕ) → LeavesLayers (f b)) → ((b : ℕ) → t.uses b ≡ f b (s.uses b)) → s.firm ≤ t.firm
      → IsNamed sense s r reader base firsts blocks said → IsNamed sense t r reader base firsts blocks said
  named_map s t r reader base firsts blocks said f leaves same le h = named_kept s t r r reader reader base firsts blocks said h
      (λ b in' is. subst (IsReadBy reader b) (sym (same b)) (leaves_reader (f b) (leaves b) reader b (s.uses b) is)) (λ b is. refl) le

  pub named_commit : (s : BlockUses) (r : DiskRecord) (who : ℕ) (t : Txn) (reader : Reader) (base : ℕ) (firsts blocks : List ℕ) (said : sense.Said) → IsNamed sense s r reader base firsts blocks said → IsNamed sense (with_committed s who t) r reader base firsts blocks said
  named_commit s r who t reader base firsts blocks said h = named_map s (with_committed s who t) r reader base firsts blocks said (λ b u. taken_over who t.number (if t.frees b then freed_by t.number u else u)) (λ b. leaves_commit who t.number (t.frees b)) (λ b. refl) (omega arith) h

  pub named_rollback : (s : BlockUses) (r : DiskRecord) (who : ℕ) (reader : Reader) (base : ℕ) (firsts blocks : List ℕ) (said : sense.Said) → IsNamed sense s r reader base firsts blocks said → IsNamed sense (with_rollback s who) r reader base firsts blocks said
  named_rollback s r who reader base firsts blocks said h = named_map s (with_rollback s who) r reader base firsts blocks said (λ b. given_back who) (λ b. record { layer = refl; coming = refl; pinned = refl }) (λ b. refl) (omega arith) h

  pub named_firm : (s : BlockUses) (r : DiskRecord) (reader : Reader) (base : ℕ) (firsts blocks : List ℕ) (said : sense.Said) → AreUses s → IsNamed sense s r reader base firsts blocks said → IsNamed sense (with_flushed s) r reader base firsts blocks said
  named_firm s r reader base firsts blocks said used h = named_kept s (with_flushed s) r r reader reader base firsts blocks said h (λ b in' is. is) (λ b is. refl) (omega (arith, used.most))

  pub named_settled : (s : BlockUses) (r : DiskRecord) (n : ℕ) (reader : Reader) (base : ℕ) (firsts blocks : List ℕ) (said : sense.Said) → IsNamed sense s r reader base firsts blocks said → IsNamed sense (with_settling s n) r reader base firsts blocks said
  named_settled s r n reader base firsts blocks said h = named_map s (with_settling s n) r reader base firsts blocks said (λ b. let_go n) (λ b. record { layer = refl; coming = refl; pinned = refl }) (λ b. refl) (omega arith) h

  pub named_anew : (s : BlockUses) (r : DiskRecord) (reader : Reader) (base : ℕ) (firsts blocks : List ℕ) (said : sense.Said) → IsNamed sense s r reader base firsts blocks said → IsNamed sense (with_anew s) r reader base firsts blocks said
  named_anew s r reader base firsts blocks said h = named_map s (with_anew s) r reader base firsts blocks said (λ b. abandoned) (λ b. record { layer = refl; coming = refl; pinned = refl }) (λ b. refl) (omega arith) h

  pub named_others_flushed : (s : BlockUses) (r : DiskRecord) (contents : List (List ℕ)) (reader : Reader) (base : ℕ) (firsts blocks : List ℕ) (said : sense.Said) → AreUses s → IsNamed sense s r reader base firsts blocks said
      → IsNamed sense (with_layers_flushed s) (with_call r (Flush true) contents) reader base firsts blocks said
  named_others_flushed s r contents reader base firsts blocks said used h = named_kept s (with_layers_flushed s) r (with_call r (Flush true) contents) reader reader base firsts blocks said h
      (λ b in' is. leaves_reader laid_firm (record { layer = refl; coming = refl; pinned = refl }) reader b (s.uses b) is) (λ b is. bytes_flush r true contents b) (omega (arith, used.most))

  -- ---- a checkpoint

  written_next : (stays : ℕ → Bool) (b : ℕ) (u : Use) → IsWrittenFor stays b u → IsReadBy (Next stays) b (laid_firm u)
  written_next stays b u (inl is) = inl (ap laid_firm is)
  written_next stays b u (inr is) = inr (ap laid_firm is.0, is.1)

  pub named_flushed : (s : BlockUses) (r : DiskRecord) (contents : List (List ℕ)) (stays : ℕ → Bool) (base : ℕ) (firsts blocks : List ℕ) (said : sense.Said) → ((b : ℕ) → Contains blocks b → IsWrittenFor stays b (s.uses b))
      → sense.Says (bytes_now r) firsts blocks said → base ≤ last s → IsNamed sense (with_layers_flushed s) (with_call r (Flush true) contents) (Next stays) base firsts blocks said
  named_flushed s r contents stays base firsts blocks said all says le = record {
    all = λ b is. written_next stays b (s.uses b) (all b is);
    says = reads (bytes_now r) (bytes_now (with_call r (Flush true) contents)) firsts blocks said (λ b is. sym (bytes_flush r true contents b)) says;
    flushed = le;
  }

  pub named_switch : (s : BlockUses) (r : DiskRecord) (stays kept : ℕ → Bool) (base : ℕ) (firsts blocks : List ℕ) (said : sense.Said) → IsNamed sense s r (Next stays) base firsts blocks said → IsNamed sense (with_switch s stays kept) r Current base firsts blocks said
  named_switch s r stays kept base firsts blocks said h = named_kept s (with_switch s stays kept) r r (Next stays) Current base firsts blocks said h (λ b in' is. switched_next stays kept b (s.uses b) is) (λ b is. refl) (omega arith)

  -- ---- pins

  pub named_pinned : (s : BlockUses) (r : DiskRecord) (kept : ℕ → Bool) (base : ℕ) (firsts blocks : List ℕ) (said : sense.Said) → ((b : ℕ) → Contains blocks b → kept b ≡ true) → IsNamed sense s r Current base firsts blocks said
      → IsNamed sense s r (Pins kept) base firsts blocks said
  named_pinned s r kept base firsts blocks said all h = named_kept s s r r Current (Pins kept) base firsts blocks said h (λ b in' is. (inl is, all b in')) (λ b is. refl) (omega arith)

  pub named_pins_switch : (s : BlockUses) (r : DiskRecord) (stays kept : ℕ → Bool) (base : ℕ) (firsts blocks : List ℕ) (said : sense.Said) → IsNamed sense s r (Pins kept) base firsts blocks said → IsNamed sense (with_switch s stays kept) r (Pins kept) base firsts blocks said
  named_pins_switch s r stays kept base firsts blocks said h = named_kept s (with_switch s stays kept) r r (Pins kept) (Pins kept) base firsts blocks said h (λ b in' is. switched_pins stays kept b (s.uses b) is) (λ b is. refl) (omega arith)

  pub named_pins_left : (s : BlockUses) (r : DiskRecord) (kept left : ℕ → Bool) (base : ℕ) (firsts blocks : List ℕ) (said : sense.Said) → ((b : ℕ) → Contains blocks b → left b ≡ true) → IsNamed sense s r (Pins kept) base firsts blocks said
      → IsNamed sense (with_pin_ended s left) r (Pins left) base firsts blocks said
  named_pins_left s r kept left base firsts blocks said all h = named_kept s (with_pin_ended s left) r r (Pins kept) (Pins left) base firsts blocks said h (λ b in' is. ended_pins kept left b (s.uses b) (all b in') is) (λ b is. refl) (omega arith)

  pub named_pins_more : (s : BlockUses) (r : DiskRecord) (kept more : ℕ → Bool) (base : ℕ) (firsts blocks : List ℕ) (said : sense.Said) → ((b : ℕ) → Contains blocks b → more b ≡ true) → IsNamed sense s r (Pins kept) base firsts blocks said
      → IsNamed sense s r (Pins more) base firsts blocks said
  named_pins_more s r kept more base firsts blocks said all h = named_kept s s r r (Pins kept) (Pins more) base firsts blocks said h (λ b in' is. (is.0, all b in')) (λ b is. refl) (omega arith)

  pub named_current_left : (s : BlockUses) (r : DiskRecord) (left : ℕ → Bool) (base : ℕ) (firsts blocks : List ℕ) (said : sense.Said) → IsNamed sense s r Current base firsts blocks said → IsNamed sense (with_pin_ended s left) r Current base firsts blocks said
  named_current_left s r left base firsts blocks said h = named_kept s (with_pin_ended s left) r r Current Current base firsts blocks said h (λ b in' is. ended_current (left b) b (s.uses b) is) (λ b is. refl) (omega arith)

  pub named_next_left : (s : BlockUses) (r : DiskRecord) (stays left : ℕ → Bool) (base : ℕ) (firsts blocks : List ℕ) (said : sense.Said) → IsNamed sense s r (Next stays) base firsts blocks said → IsNamed sense (with_pin_ended s left) r (Next stays) base firsts blocks said
  named_next_left s r stays left base firsts blocks said h = named_kept s (with_pin_ended s left) r r (Next stays) (Next stays) base firsts blocks said h (λ b in' is. ended_next stays (left b) b (s.uses b) is) (λ b is. refl) (omega arith)
