-- Which superblock the images left now have, and what each call keeps.
use Rattle.std.proofs.Common.{◌≡◌, ℕ, ◌<◌, ◌≤◌, List, Bool, true, refl, sym, subst, ap, ◌∙◌, arith, ◌⊎◌, inl, inr, Option, Some, None, Contains, get_or, false, length, []}
use Rattle.fx_disk.specs.Record.{Call, Write, Flush, DiskRecord, Cell, LeftNow, candidates, cell_now, settled_cell}
use Rattle.fx_disk.specs.Settled.{IsGoodWrite}
use Rattle.fx_disk.specs.Steps.{with_call}
use Rattle.fx_disk.proofs.Left.{cell_now-with_call}
use Rattle.fx_disk.proofs.Cells.{one-is, other-block, after-good_flush, candidates-write, candidates-flush, candidates-fixed, image-candidate}
use Rattle.fx_super.specs.Super.{Fields, IsSuper, KeepsRules, super_block}
use Rattle.fx_super.specs.Chosen.{GoesBefore, IsChosen, block_number, block_of, other}
use Rattle.fx_super.specs.declared.choice.Which.{Which}
use Rattle.fx_super.specs.declared.choice.Which.TheVariants.{A, B}
use Rattle.fx_super.proofs.Chosen.{one_fields}
use Rattle.fx_log.specs.Chance.{HasTrueSupers}
use Rattle.fx_log.specs.Chosen.{ChoosesSuper}
use Rattle.fx_log.proofs.SuperChoice.{other-twice, same-list}
use Rattle.fx_disk.proofs.Flushed.{flushed-bytes, flushed-fixed}
use Rattle.fx_supers.specs.Supers.{HoldsSuper, ChoosesOne}

goes-later : (which : Which) (m n : ℕ) → m < n → GoesBefore which n m
goes-later A m n lt = omega (arith, lt)
goes-later B m n lt = lt

pub place-low : (which : Which) → block_number which < 2
place-low A = omega arith
place-low B = omega arith

places-apart : (which : Which) → block_number (other which) ≡ block_number which → ⊥
places-apart A e = omega (arith, e)
places-apart B e = omega (arith, e)

module _ (which : Which) (f : Fields) (coming : Option Fields) (r : DiskRecord) (h : HoldsSuper which f coming r) where
  -- ---- an image left now

  module _ (image : List (List ℕ)) (left : LeftNow r image) (chance : HasTrueSupers (cell_now r) image) where
    here : IsSuper (block_of image which) f
    here = subst (λ (x : List ℕ). IsSuper x f) (sym (left.kept (block_number which) (let lt : block_number which < 2 = place-low which in omega (arith, lt, h.slots)) h.fixed)) h.super

    -- what the other place holds, if it is a superblock
    there : (g : Fields) → IsSuper (block_of image (other which)) g → GoesBefore which f.generation g.generation ⊎ (coming ≡ Some g)
    there g is =
        let lt : block_number (other which) < 2 = place-low (other which) in
        h.others (block_of image (other which)) g
        (image-candidate r (block_number (other which)) image (omega (arith, lt, h.slots)) left (λ loose. chance.supers (block_number (other which)) lt loose (inl (g, is)))) is

    keeps-old : ((g : Fields) → IsSuper (block_of image (other which)) g → coming ≡ Some g → ⊥) → ChoosesSuper f image
    keeps-old none = (
      which,
      record {
        is_super = here;
        goes_before = λ g is. elim (there g is) [ inl lt ↦ lt | inr new ↦ absurd (none g is new) ];
      },
    )

    takes-new : (g : Fields) → coming ≡ Some g → block_of image (other which) ≡ super_block g → ChoosesSuper g image
    takes-new g is e = (
      other which,
      record {
        is_super = record { rules = h.rules g is; bytes_are = e };
        goes_before = λ k old.
            let back : IsSuper (block_of image which) k = subst (λ (w : Which). IsSuper (block_of image w) k) (other-twice which) old in
            let same : f ≡ k = one_fields (block_of image which) f k here back in
            subst (λ (x : Fields). GoesBefore (other which) g.generation x.generation) same (goes-later (other which) f.generation g.generation (h.later g is));
      },
    )

    by-coming : (o : Option Fields) → coming ≡ o → ChoosesOne f coming image
    by-coming None e = inl (keeps-old (λ g is new. let q : None ≡ Some g = sym e ∙ new in cc))
    by-coming (Some g) e = elim (same-list (block_of image (other which)) (super_block g)) [
      | inl same ↦ inr (g, e, takes-new g e same)
      | inr differs ↦ inl (keeps-old (λ k is new.
          let q : Some g ≡ Some k = sym e ∙ new in
          let same : k ≡ g = cc in
          differs (is.bytes_are ∙ ap super_block same)))
    ]

    pub super-image : ChoosesOne f coming image
    super-image = by-coming coming refl

  -- ---- the calls

  -- a call that changes neither place
  pub super-same : (call : Call) (contents : List (List ℕ)) → ((b : ℕ) → b < 2 → cell_now (with_call r call contents) b ≡ cell_now r b) → HoldsSuper which f coming (with_call r call contents)
  super-same call contents same = record {
    slots = h.slots;
    fixed = ap (λ (c : Cell). c.loose) (same (block_number which) (place-low which)) ∙ h.fixed;
    super = subst (λ (c : Cell). IsSuper c.bytes f) (sym (same (block_number which) (place-low which))) h.super;
    others = λ value g held is. h.others value g (subst (λ (c : Cell). Contains (candidates c) value) (same (block_number (other which)) (place-low (other which))) held) is;
    rules = h.rules;
    later = h.later;
  }

  -- a write past the superblocks: of the ring, of data or of a layer
  pub super-elsewhere : (at : ℕ) (bytes : List ℕ) (ok : Bool) (contents : List (List ℕ)) → 2 ≤ at → HoldsSuper which f coming (with_call r (Write at bytes ok) contents)
  super-elsewhere at bytes ok contents past = super-same (Write at bytes ok) contents (λ b low. other-block r b at bytes ok contents (λ e. omega (arith, e, low, past)))

  -- a flush, good or failed
  pub super-flush : (ok : Bool) (contents : List (List ℕ)) → HoldsSuper which f coming (with_call r (Flush ok) contents)
  super-flush ok contents = record {
    slots = h.slots;
    fixed = ap (λ (c : Cell). c.loose) (cell_now-with_call r (Flush ok) contents (block_number which)) ∙ flushed-fixed ok (cell_now r (block_number which)) h.fixed;
    super = subst (λ (x : List ℕ). IsSuper x f) (sym (ap (λ (c : Cell). c.bytes) (cell_now-with_call r (Flush ok) contents (block_number which)) ∙ flushed-bytes ok (cell_now r (block_number which)))) h.super;
    others = λ value g held is. h.others value g (candidates-flush r (block_number (other which)) ok contents value held) is;
    rules = h.rules;
    later = h.later;
  }

  -- the write of a superblock to come, good or failed: there was none, or the same one
  pub super-put : (g : Fields) (ok : Bool) (contents : List (List ℕ)) → KeepsRules g → f.generation < g.generation → (coming ≡ None) ⊎ (coming ≡ Some g)
      → HoldsSuper which f (Some g) (with_call r (Write (block_number (other which)) (super_block g) ok) contents)
  super-put g ok contents rules lt one =
      let stays : cell_now (with_call r (Write (block_number (other which)) (super_block g) ok) contents) (block_number which) ≡ cell_now r (block_number which) = other-block r (block_number which) (block_number (other which)) (super_block g) ok contents (places-apart which) in
      record {
        slots = h.slots;
        fixed = ap (λ (c : Cell). c.loose) stays ∙ h.fixed;
        super = subst (λ (c : Cell). IsSuper c.bytes f) (sym stays) h.super;
        others = λ value k held is. elim (candidates-write r (block_number (other which)) (super_block g) ok contents value held) [
          | inl old ↦ elim (h.others value k old is) [
            | inl less ↦ inl less
            | inr new ↦ inr (elim one [ inl none ↦ (let q : None ≡ Some k = sym none ∙ new in absurd (cc)) | inr same ↦ sym same ∙ new ])
          ]
          | inr e ↦ inr (ap Some (one_fields (super_block g) g k (record { rules = rules; bytes_are = refl }) (subst (λ (x : List ℕ). IsSuper x k) (sym e) is)))
        ];
        rules = λ k e. let same : g ≡ k = cc in subst KeepsRules same rules;
        later = λ k e. let same : g ≡ k = cc in subst (λ (x : Fields). f.generation < x.generation) same lt;
      }

  -- a good flush after a good write of it: it is the superblock
  pub super-finish : (g : Fields) (contents : List (List ℕ)) → coming ≡ Some g → IsGoodWrite (block_number (other which)) (super_block g) r → HoldsSuper (other which) g None (with_call r (Flush true) contents)
  super-finish g contents is good =
      let e : cell_now (with_call r (Flush true) contents) (block_number (other which)) ≡ settled_cell (cell_now r (block_number (other which))) = after-good_flush r (block_number (other which)) contents good.good in
      let old : HoldsSuper which f coming (with_call r (Flush true) contents) = super-flush true contents in
      record {
        slots = h.slots;
        fixed = ap (λ (c : Cell). c.loose) e;
        super = record { rules = h.rules g is; bytes_are = ap (λ (c : Cell). c.bytes) e ∙ good.last };
        others = λ value k held super.
            let back : Contains (candidates (cell_now (with_call r (Flush true) contents) (block_number which))) value = subst (λ (w : Which). Contains (candidates (cell_now (with_call r (Flush true) contents) (block_number w))) value) (other-twice which) held in
            let one : (cell_now (with_call r (Flush true) contents) (block_number which)).bytes ≡ value = one-is (cell_now (with_call r (Flush true) contents) (block_number which)).bytes value
            (subst (λ (xs : List (List ℕ)). Contains xs value) (candidates-fixed (with_call r (Flush true) contents) (block_number which) old.fixed) back) in
            let same : f ≡ k = one_fields value f k (subst (λ (x : List ℕ). IsSuper x f) one old.super) super in
            inl (subst (λ (x : Fields). GoesBefore (other which) g.generation x.generation) same (goes-later (other which) f.generation g.generation (h.later g is)));
        rules = λ k q. absurd (cc);
        later = λ k q. absurd (cc);
      }

-- one that may come, before any write of it
pub super-expects : (which : Which) (f : Fields) (coming : Option Fields) (r : DiskRecord) (g : Fields) → HoldsSuper which f coming r → KeepsRules g → f.generation < g.generation → (coming ≡ None) ⊎ (coming ≡ Some g) → HoldsSuper which f (Some g) r
super-expects which f coming r g h rules lt one = record {
  slots = h.slots;
  fixed = h.fixed;
  super = h.super;
  others = λ value k held is. elim (h.others value k held is) [
    | inl less ↦ inl less
    | inr new ↦ inr (elim one [ inl none ↦ (let q : None ≡ Some k = sym none ∙ new in absurd (cc)) | inr same ↦ sym same ∙ new ])
  ];
  rules = λ k e. let same : g ≡ k = cc in subst KeepsRules same rules;
  later = λ k e. let same : g ≡ k = cc in subst (λ (x : Fields). f.generation < x.generation) same lt;
}

-- where nothing is loose, and this one of the two blocks is chosen
pub super-begun : (which : Which) (f : Fields) (r : DiskRecord) (image : List (List ℕ)) → 2 ≤ length r.entry → IsChosen image which f
    → ((b : ℕ) → b < 2 → ((cell_now r b).loose ≡ false) × (get_or image b [] ≡ (cell_now r b).bytes)) → HoldsSuper which f None r
super-begun which f r image slots is same = record {
  slots = slots;
  fixed = (same (block_number which) (place-low which)).0;
  super = subst (λ (x : List ℕ). IsSuper x f) (same (block_number which) (place-low which)).1 is.is_super;
  others = λ value g held super.
      let b : ℕ = block_number (other which) in
      let here = same b (place-low (other which)) in
      let one : (cell_now r b).bytes ≡ value = one-is (cell_now r b).bytes value (subst (λ (xs : List (List ℕ)). Contains xs value) (candidates-fixed r b here.0) held) in
      inl (is.goes_before g (subst (λ (x : List ℕ). IsSuper x g) (sym (here.1 ∙ one)) super));
  rules = λ g e. absurd (cc);
  later = λ g e. absurd (cc);
}
