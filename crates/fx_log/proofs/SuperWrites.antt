-- The chosen superblock over writes to blocks past the superblocks.
use Rattle.std.proofs.Common.{◌≡◌, ◌≢◌, ℕ, ◌≤◌, ◌<◌, inl, inr, List, [], Bool, length, get_or, set, sym, subst, ◌∙◌, ap, arith}
use Rattle.std.proofs.lemmas.List.{length-set, get_or-set_other, get_or-set_same}
use Rattle.fx_disk.specs.Record.{Write, DiskRecord, Cell, IsBlock, LeftNow, cell_now}
use Rattle.fx_disk.specs.Steps.{IsRecordOf, with_write}
use Rattle.fx_disk.specs.Always.{Always}
use Rattle.fx_disk.proofs.Left.{length-with_call}
use Rattle.fx_disk.proofs.Cells.{other-block}
use Rattle.fx_disk.proofs.Records.{by_block, reads-left}
use Rattle.fx_disk.proofs.Kept.{Always-write, Always-now}
use Rattle.fx_super.specs.Super.{Fields, IsSuper}
use Rattle.fx_super.specs.Chosen.{IsChosen, block_of, other}
use Rattle.fx_super.specs.declared.choice.Which.{Which}
use Rattle.fx_super.specs.declared.choice.Which.TheVariants.{A, B}
use Rattle.fx_log.specs.Chosen.{next_generation, ChoosesSuper, ChoosesEither}
use Rattle.fx_log.specs.Chance.{HasTrueSupers, IsNotByChance}
use Rattle.fx_log.specs.Raising.{LeavesEither, ChoosesSince, ChoosesNext}
use Rattle.fx_log.proofs.SuperCalls.{begins-before}

-- which superblock is chosen is told by the first two blocks
same_which : (image others : List (List ℕ)) (f : Fields) → ((which : Which) → block_of image which ≡ block_of others which) → (which : Which) → IsChosen image which f → IsChosen others which f
same_which image others f same which h = record {
  is_super = subst (λ (x : List ℕ). IsSuper x f) (same which) h.is_super;
  goes_before = λ g is. h.goes_before g (subst (λ (x : List ℕ). IsSuper x g) (sym (same (other which))) is);
}

pub same_supers : (image others : List (List ℕ)) → get_or image 0 [] ≡ get_or others 0 [] → get_or image 1 [] ≡ get_or others 1 [] → (which : Which) → block_of image which ≡ block_of others which
same_supers image others a b A = a
same_supers image others a b B = b

pub same_chosen : (image others : List (List ℕ)) (f : Fields) → get_or image 0 [] ≡ get_or others 0 [] → get_or image 1 [] ≡ get_or others 1 [] → ChoosesSuper f image → ChoosesSuper f others
same_chosen image others f a b (which, h) = (which, same_which image others f (same_supers image others a b) which h)

pub same_either : (image others : List (List ℕ)) (f : Fields) → get_or image 0 [] ≡ get_or others 0 [] → get_or image 1 [] ≡ get_or others 1 [] → ChoosesEither f image → ChoosesEither f others
same_either image others f a b h = elim h [ inl one ↦ inl (same_chosen image others f a b one) | inr one ↦ inr (same_chosen image others (next_generation f) a b one) ]

-- A write past the superblocks. What is left after it was left before it but for the block that is written.
module _ (size calls : ℕ) (r : DiskRecord) (is : IsRecordOf size calls r) (at : ℕ) (past : 2 ≤ at) (bytes : List ℕ) (ok : Bool) (held : List ℕ) where
  abbrev s : DiskRecord
  s = with_write r at bytes ok held

  abbrev old : List (List ℕ) → List (List ℕ)
  old image = set image at (get_or r.contents at [])

  cells-same : (b : ℕ) → (at ≡ b → ⊥) → cell_now s b ≡ cell_now r b
  cells-same b ne = other-block r b at bytes ok (set r.contents at held) ne

  old-other : (image : List (List ℕ)) (b : ℕ) → (at ≡ b → ⊥) → get_or (old image) b [] ≡ get_or image b []
  old-other image b ne = let ne' : b ≢ at = λ e. ne (sym e) in get_or-set_other image at b (get_or r.contents at []) [] ne'

  old-same : (image : List (List ℕ)) → at < length image → get_or (old image) at [] ≡ get_or r.contents at []
  old-same image lt = get_or-set_same image at (get_or r.contents at []) [] lt

  old-left : (image : List (List ℕ)) → LeftNow s image → LeftNow r (old image)
  old-left image left =
      let mine : LeftNow r r.contents = reads-left size calls r is in
      record {
        size = length-set image at (get_or r.contents at []) ∙ left.size;
        blocks = λ b lt. by_block at b (IsBlock (get_or (old image) b []))
            (λ e. let lt' : at < length image = omega (arith, e, left.size) in
            subst (λ (k : ℕ). IsBlock (get_or (old image) k [])) e (rw (old-same image lt') (mine.blocks at (omega (arith, left.size)))))
            (λ ne. rw (old-other image b ne) (left.blocks b lt));
        kept = λ b lt fixed. by_block at b (get_or (old image) b [] ≡ (cell_now r b).bytes)
            (λ e. let lt' : at < length image = omega (arith, e, left.size) in
            ap (λ (k : ℕ). get_or (old image) k []) (sym e) ∙ old-same image lt' ∙ ap (λ (k : ℕ). get_or r.contents k []) e ∙ mine.kept b lt fixed)
            (λ ne. old-other image b ne ∙ left.kept b lt (ap (λ (c : Cell). c.loose) (cells-same b ne) ∙ fixed) ∙ ap (λ (c : Cell). c.bytes) (cells-same b ne));
      }

  other-slot : (b : ℕ) → b < 2 → at ≡ b → ⊥
  other-slot b lt e = omega (arith, e)

  old-slot : (image : List (List ℕ)) (b : ℕ) → b < 2 → get_or (old image) b [] ≡ get_or image b []
  old-slot image b lt = old-other image b (other-slot b lt)

  old-supers : (image : List (List ℕ)) → HasTrueSupers (cell_now s) image → HasTrueSupers (cell_now r) (old image)
  old-supers image h = record {
    supers = λ b lt.
        subst (λ (x : List ℕ). IsNotByChance (cell_now r b) x) (sym (old-slot image b lt))
        (subst (λ (c : Cell). IsNotByChance c (get_or image b [])) (cells-same b (other-slot b lt)) (h.supers b lt));
  }

  pub since-write : (from : ℕ) → ChoosesSince from r → ChoosesSince from (with_write r at bytes ok held)
  since-write from h = record {
    since = omega (arith, h.since, length-with_call r (Write at bytes ok) []);
    always = λ f begins.
        let before : Always (LeavesEither f) from r = h.always f (begins-before r (Write at bytes ok) (set r.contents at held) from f h.since begins) in
        Always-write (LeavesEither f) (LeavesEither f) from r (set r.contents at held) at bytes ok before (λ m image ge le left p. p) (λ cells m image p. p)
        (λ image left chance. same_either (old image) image f (old-slot image 0 (omega arith)) (old-slot image 1 (omega arith))
        (Always-now (LeavesEither f) from r before (old image) (old-left image left) (old-supers image chance)));
  }

  pub next-write : (from : ℕ) → from ≤ length r.calls → ChoosesNext from r → ChoosesNext from (with_write r at bytes ok held)
  next-write from le h f begins image left =
      same_chosen (old image) image (next_generation f) (old-slot image 0 (omega arith)) (old-slot image 1 (omega arith))
      (h f (begins-before r (Write at bytes ok) (set r.contents at held) from f le begins) (old image) (old-left image left))
