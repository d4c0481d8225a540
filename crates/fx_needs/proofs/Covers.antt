-- How many blocks a text covers, and the numbers of a line that writes it.
use Rattle.std.proofs.Common.{◌≡◌, ℕ, ◌+◌, ◌*◌, ◌≤◌, inl, inr, List, [], ◌∷◌, length, true, false, ap, ◌∙◌, arith}
use Rattle.std.specs.Prelude.{◌-◌, ◌/◌, ◌||◌, nat_lt}
use Rattle.std.proofs.lemmas.Bool.{lt-ltb, le-ltb}
use Rattle.std.proofs.lemmas.List.FromFn.{length-range_with_len}
use Rattle.fx_base.specs.declared.block.TheConstants.{BLOCK_BYTES}
use Rattle.fx_item.specs.declared.Sizes.{Sizes}
use Rattle.fx_plain.specs.Node.{covered}
use Rattle.fx_plain.specs.Tree.{Tree, sizes_of}
use Rattle.fx_steps.specs.Needs.{HasLineRoom, is_too_big, line_touched, line_written}
use Rattle.fx_needs.specs.Worked.{nothing_beyond, one_write}

covers : (at : ℕ) (text : List ℕ) → 1 ≤ length text → length (covered at text) ≡ (at + length text + 4095) / 4096 - at / 4096
covers at [] h = absurd (omega (arith, h))
covers at (b ∷ bs) h = omega (arith, length-range_with_len (at / BLOCK_BYTES) ((at + length bs) / BLOCK_BYTES + 1 - at / BLOCK_BYTES))

few : (w t : ℕ) → w ≤ 256 → t ≤ 4096 → (nat_lt 256 w || nat_lt 4096 t) ≡ false
few w t h k = ap (λ b. b || nat_lt 4096 t) (le-ltb 256 w h) ∙ le-ltb 4096 t k

many : (w t : ℕ) → 257 ≤ w → (nat_lt 256 w || nat_lt 4096 t) ≡ true
many w t h = ap (λ b. b || nat_lt 4096 t) (lt-ltb 256 w h)

module _ (tree : Tree) (path : List (List ℕ)) (text : List ℕ) where
  pub is_256 : length text ≡ 256 * 4096 → is_too_big tree (one_write path 0 text) ≡ false
  is_256 e = let l = covers 0 text (omega (arith, e)) in few (line_written tree (one_write path 0 text)) (line_touched tree (one_write path 0 text)) (omega (arith, l, e)) (omega (arith, l, e))

  pub is_257 : length text ≡ 256 * 4096 + 1 → is_too_big tree (one_write path 0 text) ≡ true
  is_257 e = let l = covers 0 text (omega (arith, e)) in many (line_written tree (one_write path 0 text)) (line_touched tree (one_write path 0 text)) (omega (arith, l, e))

  pub is_across : length text ≡ 256 * 4096 → is_too_big tree (one_write path 4095 text) ≡ true
  is_across e = let l = covers 4095 text (omega (arith, e)) in many (line_written tree (one_write path 4095 text)) (line_touched tree (one_write path 4095 text)) (omega (arith, l, e))

  module _ (sizes : sizes_of tree ≡ record { nodes = 2; attributes = 0; blocks = 0 }) where
    nodes : (sizes_of tree).nodes ≡ 2
    nodes = ap (λ (s : Sizes). s.nodes) sizes

    attributes : (sizes_of tree).attributes ≡ 0
    attributes = ap (λ (s : Sizes). s.attributes) sizes

    blocks : (sizes_of tree).blocks ≡ 0
    blocks = ap (λ (s : Sizes). s.blocks) sizes

    pub fits_243 : length text ≡ 243 * 4096 → HasLineRoom 1088 256 tree (one_write path 0 text) nothing_beyond
    fits_243 e = let l = covers 0 text (omega (arith, e)) in inr (omega (arith, l, e, nodes, attributes, blocks), omega arith)

    pub not_244 : length text ≡ 244 * 4096 → HasLineRoom 1088 256 tree (one_write path 0 text) nothing_beyond → ⊥
    not_244 e (inl (n, a, b)) = let l = covers 0 text (omega (arith, e)) in omega (arith, l, e, b)
    not_244 e (inr room) = let l = covers 0 text (omega (arith, e)) in omega (arith, l, e, nodes, attributes, blocks, room.0)
