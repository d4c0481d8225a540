-- The bytes and held blocks of one file after a write.
use Rattle.std.proofs.Common.{◌≡◌, ◌⊎◌, inl, inr, ℕ, ◌+◌, ◌*◌, ◌/◌, ◌%◌, ◌<◌, ◌≤◌, Bool, true, false, ◌||◌, List, length, get_or, max, refl, sym, ap, ◌∙◌, subst, arith}
use Rattle.std.specs.Prelude.{Option, Some, None, is_some}
use Rattle.std.specs.FinSet as set
use Rattle.std.proofs.lemmas.Bool.{cases_lt, cases_Bool}
use Rattle.fx_plain.specs.Node.{written}
use Rattle.fx_base.specs.declared.block.TheConstants.{BLOCK_BYTES}
use Rattle.fx_contents.specs.Files.{byte_in, byte_at, file_of}
use Rattle.fx_contents.specs.Writes.{written_byte, is_covered}
use Rattle.fx_contents.proofs.FileBytes

module _ (f g : ℕ → List ℕ) (len : ℕ) (old new : ℕ → Option ℕ) (at : ℕ) (text : List ℕ) (some : 0 < length text)
    (put : (k : ℕ) → is_covered at text k ≡ true → (block : ℕ) × (new k ≡ Some block)
    × ((j : ℕ) → j < BLOCK_BYTES → get_or (g block) j 0 ≡ written_byte at text (byte_at f old) (k * BLOCK_BYTES + j)))
    (kept : (k : ℕ) → is_covered at text k ≡ false → new k ≡ old k)
    (same : (k block : ℕ) → is_covered at text k ≡ false → old k ≡ Some block → g block ≡ f block)
    (inside : (k block : ℕ) → old k ≡ Some block → k * BLOCK_BYTES < len)
    (clear : (i : ℕ) → len ≤ i → byte_at f old i ≡ 0) where
  kept_in : (k j : ℕ) → is_covered at text k ≡ false → (o : Option ℕ) → old k ≡ o → byte_in g o j ≡ byte_in f o j
  kept_in k j c None e = refl
  kept_in k j c (Some block) e = ap (λ bytes. get_or bytes j 0) (same k block c e)

  -- each byte of the new blocks
  pub new_byte : (i : ℕ) → byte_at g new i ≡ written_byte at text (byte_at f old) i
  new_byte i = by (cases_Bool (is_covered at text k))
    where
      k : ℕ
      k = i / BLOCK_BYTES

      j : ℕ
      j = i % BLOCK_BYTES

      place : (i / BLOCK_BYTES) * BLOCK_BYTES + i % BLOCK_BYTES ≡ i
      place = omega arith

      by : (is_covered at text (i / BLOCK_BYTES) ≡ true) ⊎ (is_covered at text (i / BLOCK_BYTES) ≡ false) → byte_at g new i ≡ written_byte at text (byte_at f old) i
      by (inl c) = let p = put (i / BLOCK_BYTES) c in
          ap (λ o. byte_in g o (i % BLOCK_BYTES)) p.1 ∙ p.2 (i % BLOCK_BYTES) (omega arith) ∙ ap (written_byte at text (byte_at f old)) place
      by (inr c) =
          ap (λ o. byte_in g o (i % BLOCK_BYTES)) (kept (i / BLOCK_BYTES) c) ∙ kept_in (i / BLOCK_BYTES) (i % BLOCK_BYTES) c (old (i / BLOCK_BYTES)) refl
          ∙ sym (elim (FileBytes.not_covered at text (i / BLOCK_BYTES) c) [ inl h ↦ FileBytes.before at text (byte_at f old) i (omega arith) | inr h ↦ FileBytes.behind at text (byte_at f old) i (omega arith) ])

  -- each byte of the file before, zeros past its end
  old_byte : (i : ℕ) → byte_at f old i ≡ get_or (file_of f len old).bytes i 0
  old_byte i = elim (cases_lt i len) [ inl h ↦ sym (FileBytes.get_or-bytes f len old i h) | inr h ↦ clear i h ∙ sym (FileBytes.past-bytes f len old i h) ]

  none_past : (n : ℕ) → len ≤ n * BLOCK_BYTES → (o : Option ℕ) → old n ≡ o → is_some o ≡ false
  none_past n h None e = refl
  none_past n h (Some block) e = absurd (omega (arith, inside n block e))

  old_held : (n : ℕ) → set.contains (file_of f len old).held n ≡ is_some (old n)
  old_held n = elim (cases_lt (n * BLOCK_BYTES) len) [
    | inl h ↦ FileBytes.contains-held f len old n h
    | inr h ↦ FileBytes.past-held f len old n h ∙ sym (none_past n h (old n) refl)
  ]

  or_true : (b : Bool) → (b || true) ≡ true
  or_true true = refl
  or_true false = refl

  or_false : (b : Bool) → (b || false) ≡ b
  or_false true = refl
  or_false false = refl

  many : ℕ
  many = max len (at + length text)

  new_held : (n : ℕ) → set.contains (file_of g (max len (at + length text)) new).held n ≡ (set.contains (file_of f len old).held n || is_covered at text n)
  new_held n = by (cases_lt (n * BLOCK_BYTES) (max len (at + length text))) (cases_Bool (is_covered at text n))
    where
      by : (n * BLOCK_BYTES < max len (at + length text)) ⊎ (max len (at + length text) ≤ n * BLOCK_BYTES) → (is_covered at text n ≡ true) ⊎ (is_covered at text n ≡ false)
          → set.contains (file_of g (max len (at + length text)) new).held n ≡ (set.contains (file_of f len old).held n || is_covered at text n)
      by (inl h) (inl c) = FileBytes.contains-held g (max len (at + length text)) new n h ∙ ap is_some (put n c).1
          ∙ sym (ap (λ b. set.contains (file_of f len old).held n || b) c ∙ or_true (set.contains (file_of f len old).held n))
      by (inl h) (inr c) = FileBytes.contains-held g (max len (at + length text)) new n h ∙ ap is_some (kept n c)
          ∙ sym (ap (λ b. set.contains (file_of f len old).held n || b) c ∙ or_false (set.contains (file_of f len old).held n) ∙ old_held n)
      by (inr h) c = FileBytes.past-held g (max len (at + length text)) new n h
          ∙ sym (ap (λ b. set.contains (file_of f len old).held n || b) (FileBytes.covered-past at text n (omega arith)) ∙ or_false (set.contains (file_of f len old).held n) ∙ FileBytes.past-held f len old n (omega arith))

  -- the file afterwards
  pub file_written : file_of g (max len (at + length text)) new ≡ written at text (file_of f len old)
  file_written = FileBytes.same_contents (file_of g (max len (at + length text)) new) (written at text (file_of f len old))
      (FileBytes.length-bytes g (max len (at + length text)) new ∙ sym (FileBytes.length-written at text (file_of f len old) some ∙ ap (λ n. max n (at + length text)) (FileBytes.length-bytes f len old)))
      (λ i h. FileBytes.get_or-bytes g (max len (at + length text)) new i (subst (λ n. i < n) (FileBytes.length-bytes g (max len (at + length text)) new) h)
      ∙ new_byte i ∙ FileBytes.same_byte at text (byte_at f old) (λ i. get_or (file_of f len old).bytes i 0) i (old_byte i)
      ∙ sym (FileBytes.get_or-written at text (file_of f len old) some i))
      (λ n. new_held n ∙ sym (FileBytes.contains-written at text (file_of f len old) some n))

  pub new_clear : (i : ℕ) → max len (at + length text) ≤ i → byte_at g new i ≡ 0
  new_clear i h = new_byte i ∙ FileBytes.behind at text (byte_at f old) i (omega arith) ∙ clear i (omega arith)
