-- Patches and what blocks hold after a write or a truncation.
use Rattle.std.proofs.Common.{◌≡◌, ℕ, ◌+◌, ◌-◌, ◌*◌, ◌<◌, ◌≤◌, ◌&&◌, ◌||◌, Bool, true, false, List, [], ◌∷◌, ◌++◌, length, take, drop, get_or, replicate, min, refl, sym, ap, ◌∙◌, arith, length-take}
use Rattle.std.specs.Prelude.{nat_lt}
use Rattle.std.proofs.lemmas.Bool.{ltb-false}
use Rattle.std.proofs.lemmas.List.{append-nil, drop_all, length-drop, length-replicate, map-append, take_all, take_more}
use Rattle.fx_base.specs.declared.block.TheConstants.{BLOCK_BYTES}
use Rattle.fx_contents.specs.Cuts.{cut_block}
use Rattle.fx_contents.specs.Writes.{is_covered, patched, piece_in}
use Rattle.fx_contents.proofs.BlockBytes.{patched_whole}
use Rattle.fx_contents.proofs.FileBytes.{covered-parts, length-overwritten}
use Rattle.fx_extent.specs.declared.patching.Patch.{Patch}
use Rattle.fx_extent.specs.Touched.{holds_some, is_partly_covered}
use Rattle.fx_extent.specs.Patches.{IsInBlock, PlainPatch, patch_of, patches_of, put_patches, put_patch, text_patch, zero_patch}

pub put_text : (at : ℕ) (text : List ℕ) (n : ℕ) (block : List ℕ) → put_patch block (text_patch at text n) ≡ patched at text n block
unfolding patched
put_text at text n block = refl

pub put_zeros : (size n : ℕ) (block : List ℕ) → length block ≡ BLOCK_BYTES → n * BLOCK_BYTES < size → size < (n + 1) * BLOCK_BYTES → put_patch block (zero_patch size n) ≡ cut_block size n block
unfolding cut_block
put_zeros size n block full h l =
    let offset : ℕ = size - n * BLOCK_BYTES in
    let zeros : List ℕ = replicate (BLOCK_BYTES - (size - n * BLOCK_BYTES)) 0 in
    let count : length zeros ≡ BLOCK_BYTES - (size - n * BLOCK_BYTES) = length-replicate {A = ℕ} (BLOCK_BYTES - (size - n * BLOCK_BYTES)) 0 in
    ap (λ r. take (size - n * BLOCK_BYTES) block ++ replicate (BLOCK_BYTES - (size - n * BLOCK_BYTES)) 0 ++ r) (drop_all (size - n * BLOCK_BYTES + length zeros) block (omega (arith, count, full)))
    ∙ append-nil (take (size - n * BLOCK_BYTES) block ++ replicate (BLOCK_BYTES - (size - n * BLOCK_BYTES)) 0)

pub text_in : (at : ℕ) (text : List ℕ) (n : ℕ) → is_covered at text n ≡ true → IsInBlock (text_patch at text n)
text_in at text n c =
    let count : length (piece_in at text n) ≡ min (BLOCK_BYTES - (at - n * BLOCK_BYTES)) (length (drop (n * BLOCK_BYTES - at) text)) =
    length-take (BLOCK_BYTES - (at - n * BLOCK_BYTES)) (drop (n * BLOCK_BYTES - at) text) in
    omega (arith, count, (covered-parts at text n c).0)

pub zeros_in : (size n : ℕ) → size < (n + 1) * BLOCK_BYTES → IsInBlock (zero_patch size n)
zeros_in size n l = omega (arith, length-replicate {A = ℕ} (BLOCK_BYTES - (size - n * BLOCK_BYTES)) 0)

pub put_full : (block : List ℕ) (patch : PlainPatch) → length block ≡ BLOCK_BYTES → IsInBlock patch → length (put_patch block patch) ≡ BLOCK_BYTES
put_full block patch full h = length-overwritten patch.offset patch.bytes block (omega (arith, full, h)) ∙ full

pub put_joined : (block : List ℕ) (first next : List PlainPatch) → put_patches (first ++ next) block ≡ put_patches next (put_patches first block)
put_joined block [] next = refl
put_joined block (p ∷ ps) next = put_joined (put_patch block p) ps next

-- a block that a text covers whole need not be read
pub unread : (at : ℕ) (text : List ℕ) (n : ℕ) (block other : List ℕ) → length block ≡ BLOCK_BYTES → length other ≡ BLOCK_BYTES
    → holds_some at text n ≡ true → is_partly_covered at text n ≡ false → put_patch block (text_patch at text n) ≡ put_patch other (text_patch at text n)
unread at text n block other full whole some none =
    let edges : (nat_lt (n * BLOCK_BYTES) at || nat_lt (at + length text) ((n + 1) * BLOCK_BYTES)) ≡ false = sym (ap (λ t. t && (nat_lt (n * BLOCK_BYTES) at || nat_lt (at + length text) ((n + 1) * BLOCK_BYTES))) some) ∙ none in
    let r = neither (nat_lt (n * BLOCK_BYTES) at) (nat_lt (at + length text) ((n + 1) * BLOCK_BYTES)) edges in
    let begins : at ≤ n * BLOCK_BYTES = ltb-false (n * BLOCK_BYTES) at r.0 in
    let ends : (n + 1) * BLOCK_BYTES ≤ at + length text = ltb-false (at + length text) ((n + 1) * BLOCK_BYTES) r.1 in
    put_text at text n block ∙ patched_whole at text n block full begins ends ∙ sym (put_text at text n other ∙ patched_whole at text n other whole begins ends)
  where
    neither : (a b : Bool) → (a || b) ≡ false → (a ≡ false) × (b ≡ false)
    neither false b e = (refl, e)
    neither true b e = absurd (let q : true ≡ false = e in cc)

-- one more patch of a list
pub put_more : (patches : List Patch) (i : ℕ) (d : Patch) (old now new : List ℕ) → i < length patches → now ≡ put_patches (patches_of (take i patches)) old
    → new ≡ put_patch now (patch_of (get_or patches i d)) → new ≡ put_patches (patches_of (take (i + 1) patches)) old
put_more patches i d old now new lt before step =
    step ∙ ap (λ b. put_patch b (patch_of (get_or patches i d))) before
    ∙ sym (
    ap (λ ps. put_patches (patches_of ps) old) (take_more patches i d lt)
    ∙ ap (λ ps. put_patches ps old) (map-append patch_of (take i patches) (get_or patches i d ∷ []))
    ∙ put_joined old (patches_of (take i patches)) (patch_of (get_or patches i d) ∷ [])
    )

pub put_end : (patches : List Patch) (i : ℕ) (old now : List ℕ) → length patches ≤ i → now ≡ put_patches (patches_of (take i patches)) old → now ≡ put_patches (patches_of patches) old
put_end patches i old now le e = e ∙ ap (λ ps. put_patches (patches_of ps) old) (take_all i patches le)
