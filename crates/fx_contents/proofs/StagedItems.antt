-- What the items of a write say.
use Rattle.std.proofs.Common.{◌≡◌, ◌≢◌, inl, inr, ℕ, zero, suc, ◌+◌, ◌-◌, ◌/◌, ◌<◌, ◌≤◌, Bool, true, false, ◌&&◌, ◌||◌, List, [], ◌∷◌, map, length, get_or, cond, nat_eq, refl, sym, ap, ◌∙◌, subst, arith}
use Rattle.std.specs.Prelude.{Option, Some, None, ◌==◌, nat_le, nat_lt}
use Rattle.std.specs.List.{slice_get, list_any, range_with_len}
use Rattle.std.proofs.lemmas.Bool.{and_from, and_parts, and_left, and_right, cases_Bool, eq-eqb, eqb-true, eqb-false, le-leb, lt-ltb, le-ltb, lt-leb, cases_order}
use Rattle.fx_item.specs.Item.{PlainKey, ObjectKey, AttributeKey, ExtentKey, ChildKey, GraveKey, AllocationKey, FileValue}
use Rattle.fx_item.specs.Overlay.{Point, AtKey, AtFileBlock, AtDeviceBlock, Entry, ValueEntry, BlockEntry, covers, says, entry_in}
use Rattle.fx_plain.specs.Node.{covered}
use Rattle.fx_base.specs.declared.block.TheConstants.{BLOCK_BYTES}
use Rattle.fx_namespace.specs.Nodes.{NodeId}
use Rattle.fx_contents.specs.Rewrites.{IsBeside}
use Rattle.fx_contents.specs.Staged.{StagedBlock, SaysWrite, staged_extent, staged_items}
use Rattle.fx_contents.proofs.FileBytes

or_parts : (a b : Bool) → (a || b) ≡ false → (a ≡ false) × (b ≡ false)
or_parts true b e = absurd (let q : true ≡ false = e in cc)
or_parts false b e = (refl, e)

module _ (sum : List ℕ → ℕ) (node : NodeId) where
  itself : ((node.store == node.store) && (node.id == node.id)) ≡ true
  itself = and_from (node.store == node.store) (node.id == node.id) (eq-eqb node.store node.store refl) (eq-eqb node.id node.id refl)

  -- an extent of one block covers that block of its file
  covers_here : (i : ℕ) → covers (ExtentKey node.store node.id i (i + 1)) (AtFileBlock node.store node.id i) ≡ true
  covers_here i = and_from (((node.store == node.store) && (node.id == node.id)) && nat_le i i) (nat_lt i (i + 1))
      (and_from ((node.store == node.store) && (node.id == node.id)) (nat_le i i) itself (le-leb i i (omega arith))) (lt-ltb i (i + 1) (omega arith))

  covers_none : (i k : ℕ) → (i ≡ k → ⊥) → covers (ExtentKey node.store node.id i (i + 1)) (AtFileBlock node.store node.id k) ≡ false
  covers_none i k ne = elim (cases_order i k) [
    | inl e ↦ absurd (ne e)
    | inr (inl l) ↦ and_right (((node.store == node.store) && (node.id == node.id)) && nat_le i k) (nat_lt k (i + 1)) (le-ltb k (i + 1) (omega arith))
    | inr (inr l) ↦ and_left (((node.store == node.store) && (node.id == node.id)) && nat_le i k) (nat_lt k (i + 1)) (and_right ((node.store == node.store) && (node.id == node.id)) (nat_le i k) (lt-leb i k l))
  ]

  extents : List StagedBlock → Point → Option (Option Entry)
  extents staged = says (map (staged_extent sum node) staged)

  says_here : (s : StagedBlock) (rest : List StagedBlock) → extents (s ∷ rest) (AtFileBlock node.store node.id s.index) ≡ Some (Some (BlockEntry s.block (sum s.bytes)))
  unfolding extents
  says_here s rest =
      let z : s.index - s.index ≡ 0 = omega arith in
      let b : s.block + (s.index - s.index) ≡ s.block = omega arith in
      ap (λ t. cond t (Some (entry_in (ExtentKey node.store node.id s.index (s.index + 1)) (staged_extent sum node s).value (AtFileBlock node.store node.id s.index))) (says (map (staged_extent sum node) rest) (AtFileBlock node.store node.id s.index))) (covers_here s.index)
      ∙ (λ i. Some (Some (BlockEntry (b i) (get_or (sum s.bytes ∷ []) (z i) 0))))

  says_later : (s : StagedBlock) (rest : List StagedBlock) (k : ℕ) → (s.index ≡ k → ⊥) → extents (s ∷ rest) (AtFileBlock node.store node.id k) ≡ extents rest (AtFileBlock node.store node.id k)
  unfolding extents
  says_later s rest k ne =
      ap (λ t. cond t (Some (entry_in (ExtentKey node.store node.id s.index (s.index + 1)) (staged_extent sum node s).value (AtFileBlock node.store node.id k))) (says (map (staged_extent sum node) rest) (AtFileBlock node.store node.id k))) (covers_none s.index k ne)

  -- the block at a place of a range of places
  says_at : (staged : List StagedBlock) (a n i : ℕ) (s : StagedBlock) → map (λ x. x.index) staged ≡ range_with_len a n → slice_get staged i ≡ Some s
      → (a ≤ s.index) × (extents staged (AtFileBlock node.store node.id s.index) ≡ Some (Some (BlockEntry s.block (sum s.bytes))))
  says_at [] a n i s e g = absurd (let q : None ≡ Some s = g in cc)
  says_at (x ∷ rest) a zero i s e g = absurd (cc e)
  says_at (x ∷ rest) a (suc n) zero s e g =
      let first : x.index ≡ a = cc e in
      let is : x ≡ s = (let q : Some x ≡ Some s = g in cc q) in
      (subst (λ (y : StagedBlock). a ≤ y.index) is (omega (arith, first)), subst (λ (y : StagedBlock). extents (x ∷ rest) (AtFileBlock node.store node.id y.index) ≡ Some (Some (BlockEntry y.block (sum y.bytes)))) is (says_here x rest))
  says_at (x ∷ rest) a (suc n) (suc i) s e g =
      let first : x.index ≡ a = cc e in
      let others : map (λ x. x.index) rest ≡ range_with_len (a + 1) n = cc e in
      let r = says_at rest (a + 1) n i s others g in
      (omega (arith, r.0), says_later x rest s.index (λ q. omega (arith, q, r.0, first)) ∙ r.1)

  says_not : (staged : List StagedBlock) (k : ℕ) → list_any (λ y. nat_eq y k) (map (λ x. x.index) staged) ≡ false → extents staged (AtFileBlock node.store node.id k) ≡ None
  unfolding extents
  says_not [] k e = refl
  says_not (x ∷ rest) k e =
      let p = or_parts (nat_eq x.index k) (list_any (λ y. nat_eq y k) (map (λ x. x.index) rest)) e in
      says_later x rest k (eqb-false x.index k p.0) ∙ says_not rest k p.1

  -- no extent speaks of another point
  covers_key : (i : ℕ) (key : PlainKey) → covers (ExtentKey node.store node.id i (i + 1)) (AtKey key) ≡ false
  covers_key i (ObjectKey store id) = refl
  covers_key i (AttributeKey store id name) = refl
  covers_key i (ExtentKey store id start stop) = refl
  covers_key i (ChildKey store id name) = refl
  covers_key i (GraveKey store id) = refl
  covers_key i (AllocationKey start stop) = refl

  covers_other : (i : ℕ) (p : Point) → ((k : ℕ) → p ≢ AtFileBlock node.store node.id k) → ((b : ℕ) → p ≢ AtDeviceBlock b) → covers (ExtentKey node.store node.id i (i + 1)) p ≡ false
  covers_other i (AtKey key) a d = covers_key i key
  covers_other i (AtDeviceBlock b) a d = absurd (d b refl)
  covers_other i (AtFileBlock store id k) a d = elim (cases_Bool ((node.store == store) && (node.id == id))) [
    | inl t ↦ (let p = and_parts (node.store == store) (node.id == id) t in
        absurd (a k (λ j. AtFileBlock (sym (eqb-true node.store store p.0) j) (sym (eqb-true node.id id p.1) j) k)))
    | inr t ↦ and_left (((node.store == store) && (node.id == id)) && nat_le i k) (nat_lt k (i + 1)) (and_left ((node.store == store) && (node.id == id)) (nat_le i k) t)
  ]

  says_other : (staged : List StagedBlock) (p : Point) → ((k : ℕ) → p ≢ AtFileBlock node.store node.id k) → ((b : ℕ) → p ≢ AtDeviceBlock b) → extents staged p ≡ None
  unfolding extents
  says_other [] p a d = refl
  says_other (x ∷ rest) p a d =
      ap (λ t. cond t (Some (entry_in (ExtentKey node.store node.id x.index (x.index + 1)) (staged_extent sum node x).value p)) (says (map (staged_extent sum node) rest) p)) (covers_other x.index p a d)
      ∙ says_other rest p a d

  module _ (len : ℕ) (staged : List StagedBlock) where
    object_says : says (staged_items sum node len staged) (AtKey (ObjectKey node.store node.id)) ≡ Some (Some (ValueEntry (FileValue len)))
    object_says = ap (λ t. cond t (Some (Some (ValueEntry (FileValue len)))) (says (map (staged_extent sum node) staged) (AtKey (ObjectKey node.store node.id)))) itself

    file_says : (k : ℕ) → says (staged_items sum node len staged) (AtFileBlock node.store node.id k) ≡ extents staged (AtFileBlock node.store node.id k)
    unfolding extents
    file_says k = refl

    object_not : (p : Point) → p ≢ AtKey (ObjectKey node.store node.id) → covers (ObjectKey node.store node.id) p ≡ false
    object_not (AtFileBlock store id k) a = refl
    object_not (AtDeviceBlock b) a = refl
    object_not (AtKey (AttributeKey store id name)) a = refl
    object_not (AtKey (ExtentKey store id start stop)) a = refl
    object_not (AtKey (ChildKey store id name)) a = refl
    object_not (AtKey (GraveKey store id)) a = refl
    object_not (AtKey (AllocationKey start stop)) a = refl
    object_not (AtKey (ObjectKey store id)) a = elim (cases_Bool ((node.store == store) && (node.id == id))) [
      | inl t ↦ (let p = and_parts (node.store == store) (node.id == id) t in
          absurd (a (λ j. AtKey (ObjectKey (sym (eqb-true node.store store p.0) j) (sym (eqb-true node.id id p.1) j)))))
      | inr t ↦ t
    ]

    rest_says : (p : Point) → IsBeside node p → says (staged_items sum node len staged) p ≡ None
    unfolding extents
    rest_says p a =
        ap (λ t. cond t (Some (entry_in (ObjectKey node.store node.id) (FileValue len) p)) (says (map (staged_extent sum node) staged) p)) (object_not p a.object) ∙ says_other staged p a.file a.device

    entry_says : (at : ℕ) (text : List ℕ) → map (λ s. s.index) staged ≡ covered at text → 0 < length text → (i : ℕ) (s : StagedBlock) → slice_get staged i ≡ Some s
        → extents staged (AtFileBlock node.store node.id s.index) ≡ Some (Some (BlockEntry s.block (sum s.bytes)))
    entry_says at [] places some i s g = absurd (omega arith)
    entry_says at (b ∷ bs) places some i s g = (says_at staged (at / BLOCK_BYTES) ((at + length bs) / BLOCK_BYTES + 1 - at / BLOCK_BYTES) i s places g).1

    pub items_say : (at : ℕ) (text : List ℕ) → map (λ s. s.index) staged ≡ covered at text → 0 < length text → SaysWrite (says (staged_items sum node len staged)) node len at text staged
    items_say at text places some = record {
      object = object_says;
      entry = λ i s g. (sum s.bytes, file_says s.index ∙ entry_says at text places some i s g);
      kept = λ k c. file_says k ∙ says_not staged k (ap (list_any (λ y. nat_eq y k)) places ∙ FileBytes.contains-covered at text some k ∙ c);
      others = rest_says;
    }
