-- The bytes and held blocks of one file after a truncation.
use Rattle.std.proofs.Common.{◌≡◌, ◌⊎◌, inl, inr, ℕ, ◌+◌, ◌*◌, ◌/◌, ◌%◌, ◌<◌, ◌≤◌, Bool, true, false, ◌&&◌, List, length, get_or, cond, refl, sym, ap, ◌∙◌, subst, arith, length-take}
use Rattle.std.specs.Prelude.{Option, Some, None, is_some, nat_lt}
use Rattle.std.specs.FinSet as set
use Rattle.std.specs.FinMap.{nat_cmp-IsAntisymmetric}
use Rattle.std.proofs.lemmas.Bool.{cases_lt, lt-ltb, le-ltb}
use Rattle.std.proofs.lemmas.List.{get_or-take}
use Rattle.fx_plain.specs.Node.{Contents, grown}
use Rattle.fx_base.specs.declared.block.TheConstants.{BLOCK_BYTES}
use Rattle.fx_contents.specs.Files.{byte_in, byte_at, file_of}
use Rattle.fx_contents.specs.Cuts.{IsEdge, IsFront, cut_byte, truncated}
use Rattle.fx_contents.proofs.FileBytes

-- ---- a file cut, over plain bytes

pub below_size : (size : ℕ) (old : ℕ → ℕ) (i : ℕ) → i < size → cut_byte size old i ≡ old i
below_size size old i h = ap (λ t. cond t (old i) 0) (lt-ltb i size h)

pub past_size : (size : ℕ) (old : ℕ → ℕ) (i : ℕ) → size ≤ i → cut_byte size old i ≡ 0
past_size size old i h = ap (λ t. cond t (old i) 0) (le-ltb i size h)

either : (t : Bool) (x : ℕ) → cond t x x ≡ x
either true x = refl
either false x = refl

zero_anyway : (size : ℕ) (old : ℕ → ℕ) (i : ℕ) → old i ≡ 0 → cut_byte size old i ≡ 0
zero_anyway size old i e = ap (λ x. cond (nat_lt i size) x 0) e ∙ either (nat_lt i size) 0

module _ (size : ℕ) (c : Contents) where
  pub length-truncated : length (truncated size c).bytes ≡ size
  length-truncated = length-take size (grown size c.bytes) ∙ omega (arith, FileBytes.length-grown-to size c.bytes)

  pub get_or-truncated : (i : ℕ) → i < size → get_or (truncated size c).bytes i 0 ≡ get_or c.bytes i 0
  get_or-truncated i h = get_or-take size (grown size c.bytes) i 0 h ∙ FileBytes.get_or-grown size c.bytes i

  pub contains-truncated : (n : ℕ) → set.contains (truncated size c).held n ≡ (set.contains c.held n && nat_lt (n * BLOCK_BYTES) size)
  contains-truncated n = set.contains-retain c.held (λ k. nat_lt (k * BLOCK_BYTES) size) n (λ x e. ap (λ k. nat_lt (k * BLOCK_BYTES) size) (sym (nat_cmp-IsAntisymmetric n x e)))

module _ (f g : ℕ → List ℕ) (len : ℕ) (old new : ℕ → Option ℕ) (size : ℕ)
    (gone : (k : ℕ) → size ≤ k * BLOCK_BYTES → new k ≡ None)
    (edge : (k before : ℕ) → IsEdge size len k → old k ≡ Some before
    → (block : ℕ) × (new k ≡ Some block) × ((j : ℕ) → j < BLOCK_BYTES → get_or (g block) j 0 ≡ cut_byte size (byte_at f old) (k * BLOCK_BYTES + j)))
    (kept : (k : ℕ) → k * BLOCK_BYTES < size → (IsFront size len k) ⊎ (old k ≡ None) → new k ≡ old k)
    (same : (k block : ℕ) → IsFront size len k → old k ≡ Some block → g block ≡ f block)
    (inside : (k block : ℕ) → old k ≡ Some block → k * BLOCK_BYTES < len)
    (clear : len ≤ size → (i : ℕ) → len ≤ i → byte_at f old i ≡ 0) where
  kept_in : (k j : ℕ) → (IsFront size len k) ⊎ (old k ≡ None) → (o : Option ℕ) → old k ≡ o → byte_in g o j ≡ byte_in f o j
  kept_in k j c None e = refl
  kept_in k j (inl front) (Some block) e = ap (λ bytes. get_or bytes j 0) (same k block front e)
  kept_in k j (inr none) (Some block) e = absurd (let q : None ≡ Some block = sym none ∙ e in cc)

  -- a kept block has the old bytes
  kept_byte : (i : ℕ) → (i / BLOCK_BYTES) * BLOCK_BYTES < size → (IsFront size len (i / BLOCK_BYTES)) ⊎ (old (i / BLOCK_BYTES) ≡ None) → byte_at g new i ≡ byte_at f old i
  kept_byte i h c = ap (λ o. byte_in g o (i % BLOCK_BYTES)) (kept (i / BLOCK_BYTES) h c) ∙ kept_in (i / BLOCK_BYTES) (i % BLOCK_BYTES) c (old (i / BLOCK_BYTES)) refl

  at_edge : (i : ℕ) → (i / BLOCK_BYTES) * BLOCK_BYTES < size → size < (i / BLOCK_BYTES + 1) * BLOCK_BYTES → size < len → (o : Option ℕ) → old (i / BLOCK_BYTES) ≡ o
      → byte_at g new i ≡ cut_byte size (byte_at f old) i
  at_edge i a b l None e = kept_byte i a (inr e) ∙ zero ∙ sym (zero_anyway size (byte_at f old) i zero) where
    zero : byte_at f old i ≡ 0
    zero = ap (λ o. byte_in f o (i % BLOCK_BYTES)) e
  at_edge i a b l (Some before) e =
      let p = edge (i / BLOCK_BYTES) before (a, b, l) e in
      let place : (i / BLOCK_BYTES) * BLOCK_BYTES + i % BLOCK_BYTES ≡ i = omega arith in
      ap (λ o. byte_in g o (i % BLOCK_BYTES)) p.1 ∙ p.2 (i % BLOCK_BYTES) (omega arith) ∙ ap (cut_byte size (byte_at f old)) place

  grown_at : (i : ℕ) → (i / BLOCK_BYTES) * BLOCK_BYTES < size → len ≤ size → (i < size) ⊎ (size ≤ i) → byte_at g new i ≡ cut_byte size (byte_at f old) i
  grown_at i a l (inl b) = kept_byte i a (inl (inr l)) ∙ sym (below_size size (byte_at f old) i b)
  grown_at i a l (inr b) = kept_byte i a (inl (inr l)) ∙ clear l i (omega arith) ∙ sym (past_size size (byte_at f old) i b)

  new_byte : (i : ℕ) → byte_at g new i ≡ cut_byte size (byte_at f old) i
  new_byte i = by (cases_lt ((i / BLOCK_BYTES) * BLOCK_BYTES) size) (cases_lt size ((i / BLOCK_BYTES + 1) * BLOCK_BYTES)) (cases_lt size len)
    where
      by : ((i / BLOCK_BYTES) * BLOCK_BYTES < size) ⊎ (size ≤ (i / BLOCK_BYTES) * BLOCK_BYTES) → (size < (i / BLOCK_BYTES + 1) * BLOCK_BYTES) ⊎ ((i / BLOCK_BYTES + 1) * BLOCK_BYTES ≤ size)
          → (size < len) ⊎ (len ≤ size) → byte_at g new i ≡ cut_byte size (byte_at f old) i
      by (inr a) b c = ap (λ o. byte_in g o (i % BLOCK_BYTES)) (gone (i / BLOCK_BYTES) a) ∙ sym (past_size size (byte_at f old) i (omega arith))
      by (inl a) (inr b) c = kept_byte i a (inl (inl b)) ∙ sym (below_size size (byte_at f old) i (omega arith))
      by (inl a) (inl b) (inl c) = at_edge i a b c (old (i / BLOCK_BYTES)) refl
      by (inl a) (inl b) (inr c) = grown_at i a c (cases_lt i size)

  pub new_clear : (i : ℕ) → size ≤ i → byte_at g new i ≡ 0
  new_clear i h = new_byte i ∙ past_size size (byte_at f old) i h

  -- which blocks are held
  none_past : (n : ℕ) → len ≤ n * BLOCK_BYTES → (o : Option ℕ) → old n ≡ o → is_some o ≡ false
  none_past n h None e = refl
  none_past n h (Some block) e = absurd (omega (arith, inside n block e))

  old_held : (n : ℕ) → set.contains (file_of f len old).held n ≡ is_some (old n)
  old_held n = elim (cases_lt (n * BLOCK_BYTES) len) [
    | inl h ↦ FileBytes.contains-held f len old n h
    | inr h ↦ FileBytes.past-held f len old n h ∙ sym (none_past n h (old n) refl)
  ]

  still : (n : ℕ) → n * BLOCK_BYTES < size → (size < (n + 1) * BLOCK_BYTES) ⊎ ((n + 1) * BLOCK_BYTES ≤ size) → (size < len) ⊎ (len ≤ size) → (o : Option ℕ) → old n ≡ o → is_some (new n) ≡ is_some o
  still n h (inr a) b o e = ap is_some (kept n h (inl (inl a)) ∙ e)
  still n h (inl a) (inr b) o e = ap is_some (kept n h (inl (inr b)) ∙ e)
  still n h (inl a) (inl b) None e = ap is_some (kept n h (inr e) ∙ e)
  still n h (inl a) (inl b) (Some before) e = ap is_some (edge n before (h, a, b) e).1

  new_held : (n : ℕ) → set.contains (file_of g size new).held n ≡ (set.contains (file_of f len old).held n && nat_lt (n * BLOCK_BYTES) size)
  new_held n = by (cases_lt (n * BLOCK_BYTES) size)
    where
      and_true : (b : Bool) → (b && true) ≡ b
      and_true true = refl
      and_true false = refl

      and_false : (b : Bool) → (b && false) ≡ false
      and_false true = refl
      and_false false = refl

      by : (n * BLOCK_BYTES < size) ⊎ (size ≤ n * BLOCK_BYTES) → set.contains (file_of g size new).held n ≡ (set.contains (file_of f len old).held n && nat_lt (n * BLOCK_BYTES) size)
      by (inl h) = FileBytes.contains-held g size new n h ∙ still n h (cases_lt size ((n + 1) * BLOCK_BYTES)) (cases_lt size len) (old n) refl ∙ sym (old_held n)
          ∙ sym (ap (λ t. set.contains (file_of f len old).held n && t) (lt-ltb (n * BLOCK_BYTES) size h) ∙ and_true (set.contains (file_of f len old).held n))
      by (inr h) = FileBytes.past-held g size new n h
          ∙ sym (ap (λ t. set.contains (file_of f len old).held n && t) (le-ltb (n * BLOCK_BYTES) size h) ∙ and_false (set.contains (file_of f len old).held n))

  old_byte : (i : ℕ) → i < size → byte_at f old i ≡ get_or (file_of f len old).bytes i 0
  old_byte i h = elim (cases_lt i len) [ inl l ↦ sym (FileBytes.get_or-bytes f len old i l) | inr l ↦ clear (omega arith) i l ∙ sym (FileBytes.past-bytes f len old i l) ]

  -- the file afterwards
  pub file_cut : file_of g size new ≡ truncated size (file_of f len old)
  file_cut = FileBytes.same_contents (file_of g size new) (truncated size (file_of f len old))
      (FileBytes.length-bytes g size new ∙ sym (length-truncated size (file_of f len old)))
      (λ i h. let l : i < size = subst (λ n. i < n) (FileBytes.length-bytes g size new) h in
      FileBytes.get_or-bytes g size new i l ∙ new_byte i ∙ below_size size (byte_at f old) i l ∙ old_byte i l ∙ sym (get_or-truncated size (file_of f len old) i l))
      (λ n. new_held n ∙ sym (contains-truncated size (file_of f len old) n))
