-- An image that is not cramped has room, places and numbers left.
use Rattle.std.proofs.Common.{◌≡◌, ◌⊎◌, inl, inr, ℕ, ◌+◌, ◌*◌, ◌<◌, ◌≤◌, refl, sym, ◌∙◌, arith, Bool, true, false, length}
use Rattle.std.specs.Prelude.{◌^◌}
use Rattle.std.proofs.lemmas.Bool.{cases_lt}
use Rattle.fx_sound.specs.declared.image.ImageNumbers.{ImageNumbers}
use Rattle.fx_sound.specs.Image.{PlainImage, block_total, free_blocks, layers_wanted}
use Rattle.fx_sound.specs.Parts.{HasDropRoom, HasLayerRoom, HasNumbersLeft}
use Rattle.fx_sound.specs.Faults.{IsCrampedBy}

-- whether it holds
abbrev pub Decided : Type 0 → Type 0
Decided A = A ⊎ (A → ⊥)

pub le_or_not : (a b : ℕ) → Decided (a ≤ b)
le_or_not a b = elim (cases_lt b a) [ inl h ↦ inr (λ k. omega (arith, h, k)) | inr h ↦ inl h ]

pub both_or_not : {A B : Type 0} → Decided A → Decided B → Decided (A × B)
both_or_not (inl a) (inl b) = inl (a, b)
both_or_not (inl a) (inr b) = inr (λ x. b x.1)
both_or_not (inr a) b = inr (λ x. a x.0)

pub numbers_or_not : (n : ImageNumbers) → Decided (HasNumbersLeft n)
numbers_or_not n = by (le_or_not (n.generation + 2 ^ 40) (2 ^ 63)) (le_or_not (n.sequence + 2 ^ 40) (2 ^ 62)) (le_or_not (n.base + 2 ^ 40) (2 ^ 62))
    (le_or_not (n.kept + 2 ^ 40) (2 ^ 62)) (le_or_not (n.next_id + 2 ^ 23) (2 ^ 62)) (le_or_not (n.next_store + 2 ^ 23) (2 ^ 31))
  where
    by : Decided (n.generation + 2 ^ 40 ≤ 2 ^ 63) → Decided (n.sequence + 2 ^ 40 ≤ 2 ^ 62) → Decided (n.base + 2 ^ 40 ≤ 2 ^ 62)
        → Decided (n.kept + 2 ^ 40 ≤ 2 ^ 62) → Decided (n.next_id + 2 ^ 23 ≤ 2 ^ 62) → Decided (n.next_store + 2 ^ 23 ≤ 2 ^ 31) → Decided (HasNumbersLeft n)
    by (inl a) (inl b) (inl c) (inl d) (inl e) (inl f) = inl (record { generations = a; sequences = b; bases = c; commits = d; ids = e; stores = f })
    by (inr a) b c d e f = inr (λ h. a h.generations)
    by (inl a) (inr b) c d e f = inr (λ h. b h.sequences)
    by (inl a) (inl b) (inr c) d e f = inr (λ h. c h.bases)
    by (inl a) (inl b) (inl c) (inr d) e f = inr (λ h. d h.commits)
    by (inl a) (inl b) (inl c) (inl d) (inr e) f = inr (λ h. e h.ids)
    by (inl a) (inl b) (inl c) (inl d) (inl e) (inr f) = inr (λ h. f h.stores)

module _ (image : PlainImage) where
  layers_or_not : Decided (HasLayerRoom image)
  layers_or_not = by
      (le_or_not (block_total image.items + length image.layers + layers_wanted image.items + image.ring + 2) image.disk)
      (le_or_not (block_total image.items + 2 * layers_wanted image.items + image.ring + 2) image.disk)
    where
      by : Decided (block_total image.items + length image.layers + layers_wanted image.items + image.ring + 2 ≤ image.disk)
          → Decided (block_total image.items + 2 * layers_wanted image.items + image.ring + 2 ≤ image.disk) → Decided (HasLayerRoom image)
      by (inl a) (inl b) = inl (record { one_more = a; two = b })
      by (inl a) (inr b) = inr (λ h. b h.two)
      by (inr a) b = inr (λ h. a h.one_more)

  drops_or_not : Decided (HasDropRoom image)
  drops_or_not = by image.drops refl (cases_lt image.stream image.ring)
    where
      by : (d : Bool) → image.drops ≡ d → (image.stream < image.ring) ⊎ (image.ring ≤ image.stream) → Decided (HasDropRoom image)
      by false e o = inl (λ t. absurd (let q : false ≡ true = sym e ∙ t in cc))
      by true e (inl l) = inl (λ t. l)
      by true e (inr l) = inr (λ h. let k = h e in omega (arith, k, l))

  pub rooms_or_not : Decided (HasLayerRoom image × HasDropRoom image)
  rooms_or_not = both_or_not layers_or_not drops_or_not

  -- where it is not cramped
  pub numbers_left : ((n : ℕ) → IsCrampedBy image n → ⊥) → HasNumbersLeft image.numbers
  numbers_left none = elim (numbers_or_not image.numbers) [ inl h ↦ h | inr h ↦ absurd (none 0 (inl (h, refl))) ]

  pub rooms_left : ((n : ℕ) → IsCrampedBy image n → ⊥) → HasLayerRoom image × HasDropRoom image
  rooms_left none = elim rooms_or_not [ inl h ↦ h | inr h ↦ absurd (none (free_blocks image) (inr (numbers_left none, h, refl))) ]
