-- What new blocks hold, over plain bytes.
use Rattle.std.proofs.Common.{◌≡◌, ◌⊎◌, inl, inr, ℕ, ◌+◌, ◌-◌, ◌*◌, ◌/◌, ◌%◌, ◌<◌, ◌≤◌, true, List, ◌++◌, length, take, drop, replicate, get_or, cond, min, refl, sym, ap, ◌∙◌, arith, length-append, length-take}
use Rattle.std.specs.Prelude.{Option, Some, None}
use Rattle.std.proofs.lemmas.Bool.{cases_lt, lt-ltb, le-ltb}
use Rattle.std.proofs.lemmas.List.{get_or_append_left, get_or-append_right, get_or-drop, get_or-replicate, get_or-take, length-replicate, length-drop, drop_all, append-nil, length-take-le}
use Rattle.fx_plain.specs.Node.{overwritten}
use Rattle.fx_base.specs.declared.block.TheConstants.{BLOCK_BYTES}
use Rattle.fx_contents.specs.Files.{byte_in, byte_at, bytes_of_block}
use Rattle.fx_contents.specs.Writes.{written_byte, is_covered, from_in, piece_in, patched}
use Rattle.fx_contents.specs.Cuts.{cut_byte, cut_block}
use Rattle.fx_contents.proofs.FileBytes

-- ---- a block as the file has it

module _ (f : ℕ → List ℕ) (held : ℕ → Option ℕ) (n : ℕ) where
  in_block : (j : ℕ) → j < BLOCK_BYTES → (o : Option ℕ) → byte_in f o j ≡ get_or (bytes_of_block f o) j 0
  in_block j h None = sym (get_or-replicate BLOCK_BYTES j 0 0 h)
  in_block j h (Some block) = refl

  pub byte_in_block : (j : ℕ) → j < BLOCK_BYTES → byte_at f held (n * BLOCK_BYTES + j) ≡ get_or (bytes_of_block f (held n)) j 0
  byte_in_block j h =
      let k : (n * BLOCK_BYTES + j) / BLOCK_BYTES ≡ n = omega arith in
      let i : (n * BLOCK_BYTES + j) % BLOCK_BYTES ≡ j = omega arith in
      (λ x. byte_in f (held (k x)) (i x)) ∙ in_block j h (held n)

-- ---- a covered block after a write

module _ (at : ℕ) (text : List ℕ) (n : ℕ) (block : List ℕ) (full : length block ≡ BLOCK_BYTES) (c : is_covered at text n ≡ true) where
  starts : at < (n + 1) * BLOCK_BYTES
  starts = (FileBytes.covered-parts at text n c).0

  ends : n * BLOCK_BYTES < at + length text
  ends = (FileBytes.covered-parts at text n c).1

  piece-length : length (piece_in at text n) ≡ min (BLOCK_BYTES - (at - n * BLOCK_BYTES)) (length text - (n * BLOCK_BYTES - at))
  piece-length = length-take (BLOCK_BYTES - (at - n * BLOCK_BYTES)) (drop (n * BLOCK_BYTES - at) text) ∙ ap (min (BLOCK_BYTES - (at - n * BLOCK_BYTES))) (length-drop (n * BLOCK_BYTES - at) text)

  pub length-patched : length (patched at text n block) ≡ BLOCK_BYTES
  unfolding patched
  length-patched = FileBytes.length-overwritten (from_in at n) (piece_in at text n) block (omega (arith, piece-length, starts, full)) ∙ full

  pub get_or-patched : (old : ℕ → ℕ) → ((j : ℕ) → j < BLOCK_BYTES → old (n * BLOCK_BYTES + j) ≡ get_or block j 0)
      → (j : ℕ) → j < BLOCK_BYTES → get_or (patched at text n block) j 0 ≡ written_byte at text old (n * BLOCK_BYTES + j)
  unfolding patched
  get_or-patched old is j h = FileBytes.get_or-overwritten (from_in at n) (piece_in at text n) block j (omega (arith, starts, full)) ∙ by (cases_lt (n * BLOCK_BYTES + j) at) (cases_lt (n * BLOCK_BYTES + j) (at + length text))
    where
      by : (n * BLOCK_BYTES + j < at) ⊎ (at ≤ n * BLOCK_BYTES + j) → (n * BLOCK_BYTES + j < at + length text) ⊎ (at + length text ≤ n * BLOCK_BYTES + j)
          → written_byte (from_in at n) (piece_in at text n) (λ j. get_or block j 0) j ≡ written_byte at text old (n * BLOCK_BYTES + j)
      by (inl a) e = FileBytes.before (from_in at n) (piece_in at text n) (λ j. get_or block j 0) j (omega arith) ∙ sym (is j h) ∙ sym (FileBytes.before at text old (n * BLOCK_BYTES + j) a)
      by (inr a) (inl e) =
          let i : n * BLOCK_BYTES - at + (j - (at - n * BLOCK_BYTES)) ≡ n * BLOCK_BYTES + j - at = omega arith in
          FileBytes.within (from_in at n) (piece_in at text n) (λ j. get_or block j 0) j (omega arith) (omega (arith, piece-length))
          ∙ get_or-take (BLOCK_BYTES - (at - n * BLOCK_BYTES)) (drop (n * BLOCK_BYTES - at) text) (j - (at - n * BLOCK_BYTES)) 0 (omega arith)
          ∙ get_or-drop (n * BLOCK_BYTES - at) text (j - (at - n * BLOCK_BYTES)) 0
          ∙ ap (λ x. get_or text x 0) i
          ∙ sym (FileBytes.within at text old (n * BLOCK_BYTES + j) a e)
      by (inr a) (inr e) = FileBytes.behind (from_in at n) (piece_in at text n) (λ j. get_or block j 0) j (omega (arith, piece-length)) ∙ sym (is j h) ∙ sym (FileBytes.behind at text old (n * BLOCK_BYTES + j) e)

whole_by : (piece block : List ℕ) → length block ≤ length piece → overwritten 0 piece block ≡ piece
whole_by piece block h = ap (λ rest. piece ++ rest) (drop_all (0 + length piece) block (omega arith)) ∙ append-nil piece

-- a block that the text covers whole: what it held does not matter, and is not read
pub patched_whole : (at : ℕ) (text : List ℕ) (n : ℕ) (block : List ℕ) → length block ≡ BLOCK_BYTES → at ≤ n * BLOCK_BYTES → (n + 1) * BLOCK_BYTES ≤ at + length text
    → patched at text n block ≡ take BLOCK_BYTES (drop (n * BLOCK_BYTES - at) text)
unfolding patched
patched_whole at text n block full h l =
    let start : at - n * BLOCK_BYTES ≡ 0 = omega arith in
    let long : length (take BLOCK_BYTES (drop (n * BLOCK_BYTES - at) text)) ≡ BLOCK_BYTES =
    length-take-le BLOCK_BYTES (drop (n * BLOCK_BYTES - at) text) (omega (arith, length-drop (n * BLOCK_BYTES - at) text)) in
    ap (λ x. overwritten x (take (BLOCK_BYTES - x) (drop (n * BLOCK_BYTES - at) text)) block) start
    ∙ whole_by (take BLOCK_BYTES (drop (n * BLOCK_BYTES - at) text)) block (omega (arith, full, long))

-- ---- the block in which a size lies

module _ (size n : ℕ) (block : List ℕ) (full : length block ≡ BLOCK_BYTES) (h : n * BLOCK_BYTES < size) (l : size < (n + 1) * BLOCK_BYTES) where
  front : length (take (size - n * BLOCK_BYTES) block) ≡ size - n * BLOCK_BYTES
  front = length-take (size - n * BLOCK_BYTES) block ∙ omega (arith, full)

  pub length-cut_block : length (cut_block size n block) ≡ BLOCK_BYTES
  unfolding cut_block
  length-cut_block = length-append (take (size - n * BLOCK_BYTES) block) (replicate (BLOCK_BYTES - (size - n * BLOCK_BYTES)) 0) ∙ omega (arith, front, length-replicate {A = ℕ} (BLOCK_BYTES - (size - n * BLOCK_BYTES)) 0)

  pub get_or-cut_block : (old : ℕ → ℕ) → ((j : ℕ) → j < BLOCK_BYTES → old (n * BLOCK_BYTES + j) ≡ get_or block j 0)
      → (j : ℕ) → j < BLOCK_BYTES → get_or (cut_block size n block) j 0 ≡ cut_byte size old (n * BLOCK_BYTES + j)
  unfolding cut_block
  get_or-cut_block old is j b = by (cases_lt (n * BLOCK_BYTES + j) size)
    where
      by : (n * BLOCK_BYTES + j < size) ⊎ (size ≤ n * BLOCK_BYTES + j)
          → get_or (take (size - n * BLOCK_BYTES) block ++ replicate (BLOCK_BYTES - (size - n * BLOCK_BYTES)) 0) j 0 ≡ cut_byte size old (n * BLOCK_BYTES + j)
      by (inl a) = get_or_append_left (take (size - n * BLOCK_BYTES) block) (replicate (BLOCK_BYTES - (size - n * BLOCK_BYTES)) 0) 0 j (omega (arith, front))
          ∙ get_or-take (size - n * BLOCK_BYTES) block j 0 (omega arith) ∙ sym (is j b)
          ∙ sym (ap (λ t. cond t (old (n * BLOCK_BYTES + j)) 0) (lt-ltb (n * BLOCK_BYTES + j) size a))
      by (inr a) = get_or-append_right (take (size - n * BLOCK_BYTES) block) (replicate (BLOCK_BYTES - (size - n * BLOCK_BYTES)) 0) (size - n * BLOCK_BYTES) j 0 front (omega arith)
          ∙ get_or-replicate (BLOCK_BYTES - (size - n * BLOCK_BYTES)) (j - (size - n * BLOCK_BYTES)) 0 0 (omega arith)
          ∙ sym (ap (λ t. cond t (old (n * BLOCK_BYTES + j)) 0) (le-ltb (n * BLOCK_BYTES + j) size a))
