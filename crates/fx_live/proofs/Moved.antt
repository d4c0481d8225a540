-- A line that moves blocks keeps the allocator and the extents as one.
use Rattle.std.proofs.Common.{◌≡◌, inl, inr, ℕ, List, Option, Some, None, refl, sym, ap, subst, ◌∙◌}
use Rattle.fx_item.specs.Item.{PlainItem}
use Rattle.fx_item.specs.Overlay.{AtFileBlock, AtDeviceBlock, Entry, ValueEntry, BlockEntry, Said, says}
use Rattle.fx_namespace.specs.Nodes.{NodeId}
use Rattle.fx_contents.specs.Allocated.{AreAllocated}
use Rattle.fx_contents.specs.Points.{Points, block_in, device_block, entry_after, points_after}
use Rattle.fx_live.specs.Live.{AreOrdered, KeepsTogether, SaysBlock, SaysTaken}
use Rattle.fx_live.specs.Moving.{MovesBlocks}
use Rattle.fx_live.proofs.Stated.{device_said}
use Rattle.fx_live.proofs.Together.{block_sum}

module _ (m : Points) (said : Said) (a : AreAllocated m) (w : MovesBlocks m said) where
  -- the place says it now, or had it before and nothing is said
  data From (node : NodeId) (n b : ℕ) : Type 0 where
    Told : (x : ℕ) → said (AtFileBlock node.store node.id n) ≡ Some (Some (BlockEntry b x)) → From node n b
    Stayed : said (AtFileBlock node.store node.id n) ≡ None → device_block m node n ≡ Some b → From node n b

  from : (node : NodeId) (n b : ℕ) → device_block (points_after m said) node n ≡ Some b → From node n b
  from node n b e = by (said (AtFileBlock node.store node.id n)) refl (block_sum (points_after m said) node n b e).1
    where
      x : ℕ
      x = (block_sum (points_after m said) node n b e).0

      by : (o : Option (Option Entry)) → said (AtFileBlock node.store node.id n) ≡ o → entry_after o (m (AtFileBlock node.store node.id n)) ≡ Some (BlockEntry b x) → From node n b
      by None s f = Stayed s (ap block_in f)
      by (Some o) s f = Told x (s ∙ ap (λ r. Some r) f)

  -- a block that is told of was free
  told_free : (node : NodeId) (n b x : ℕ) → said (AtFileBlock node.store node.id n) ≡ Some (Some (BlockEntry b x)) → (taken : Entry) × (said (AtDeviceBlock b) ≡ Some (Some taken)) × (m (AtDeviceBlock b) ≡ None)
  told_free node n b x e =
      let r = w.placed node n (BlockEntry b x) e in
      let same : BlockEntry b x ≡ BlockEntry r.0 r.1 = r.3 in
      let block : r.0 ≡ b = cc same in
      let taken = subst (λ c. said (AtDeviceBlock c) ≡ Some (Some r.2)) block r.4 in
      (r.2, taken, (w.taken b r.2 taken).0)

  apart : (node other : NodeId) (n i b x : ℕ) → said (AtFileBlock node.store node.id n) ≡ Some (Some (BlockEntry b x)) → device_block m other i ≡ Some b → ⊥
  apart node other n i b x e f =
      let r = a.taken other i b f in
      let free = (told_free node n b x e).2 in
      let q : None ≡ Some r.0 = sym free ∙ r.1 in
      absurd (cc)

  live : (b : ℕ) (entry : Entry) → points_after m said (AtDeviceBlock b) ≡ Some entry → (node : NodeId) × (n : ℕ) × (device_block (points_after m said) node n ≡ Some b)
  live b entry e = by (said (AtDeviceBlock b)) refl e
    where
      by : (o : Option (Option Entry)) → said (AtDeviceBlock b) ≡ o → entry_after o (m (AtDeviceBlock b)) ≡ Some entry → (node : NodeId) × (n : ℕ) × (device_block (points_after m said) node n ≡ Some b)
      by (Some None) s f = absurd (let q : None ≡ Some entry = f in cc)
      by (Some (Some taken)) s f =
          let x = (w.taken b taken s).2 in
          (x.0, x.1, ap (λ o. block_in (entry_after o (m (AtFileBlock x.0.store x.0.id x.1)))) x.2)
      by None s f =
          let r = a.live b entry f in
          (r.0, r.1, unsaid r.0 r.1 (said (AtFileBlock r.0.store r.0.id r.1)) refl r.2)
        where
          unsaid : (node : NodeId) (n : ℕ) (o : Option (Option Entry)) → said (AtFileBlock node.store node.id n) ≡ o → device_block m node n ≡ Some b → device_block (points_after m said) node n ≡ Some b
          unsaid node n None t g = ap (λ o. block_in (entry_after o (m (AtFileBlock node.store node.id n)))) t ∙ g
          unsaid node n (Some o) t g = absurd (let q : None ≡ Some None = sym s ∙ w.left node n b o g t in cc)

  taken : (node : NodeId) (n b : ℕ) → device_block (points_after m said) node n ≡ Some b → (entry : Entry) × (points_after m said (AtDeviceBlock b) ≡ Some entry)
  taken node n b e = elim (from node n b e) [
    | Told x s ↦ (let r = told_free node n b x s in (r.0, ap (λ o. entry_after o (m (AtDeviceBlock b))) r.1))
    | Stayed s f ↦ stayed s f (said (AtDeviceBlock b)) refl
  ]
    where
      stayed : said (AtFileBlock node.store node.id n) ≡ None → device_block m node n ≡ Some b → (o : Option (Option Entry)) → said (AtDeviceBlock b) ≡ o → (entry : Entry) × (points_after m said (AtDeviceBlock b) ≡ Some entry)
      stayed s f None t = let r = a.taken node n b f in (r.0, ap (λ o. entry_after o (m (AtDeviceBlock b))) t ∙ r.1)
      stayed s f (Some (Some x)) t = (x, ap (λ o. entry_after o (m (AtDeviceBlock b))) t)
      stayed s f (Some None) t =
          let r = w.freed b t in
          let same = a.once node r.0 n r.1 b f r.3 in
          absurd (let q : None ≡ Some r.2 = sym s ∙ (λ k. said (AtFileBlock (same.0 k).store (same.0 k).id (same.1 k))) ∙ r.4 in cc)

  once : (c d : NodeId) (i j b : ℕ) → device_block (points_after m said) c i ≡ Some b → device_block (points_after m said) d j ≡ Some b → (c ≡ d) × (i ≡ j)
  once c d i j b e f = elim (from c i b e) [
    | Told x s ↦ elim (from d j b f) [
      | Told y t ↦ w.once c d i j b x y s t
      | Stayed t g ↦ absurd (apart c d i j b x s g)
    ]
    | Stayed s g ↦ elim (from d j b f) [
      | Told y t ↦ absurd (apart d c j i b y t g)
      | Stayed t h ↦ a.once c d i j b g h
    ]
  ]

  pub moved_allocated : AreAllocated (points_after m said)
  moved_allocated = record { live = live; taken = taken; once = once }

-- as a transaction, such a line does not leave the allocator and the extents apart
pub moved_together : (m : Points) (items : List PlainItem) → AreOrdered items → AreAllocated m → MovesBlocks m (says items) → KeepsTogether m items
moved_together m items o a w = record {
  ordered = o;
  stated = λ b x s. inl (took b x s);
  allocated = moved_allocated m (says items) a w;
}
  where
    took : (b x : ℕ) → SaysBlock (says items) b x → SaysTaken (says items) b
    took b x s =
        let r = told_free m (says items) a w s.0 s.1 b x s.2 in
        elim (device_said items b (Some r.0) o r.1) [
          | inl t ↦ r.1 ∙ ap (λ z. Some z) t.0
          | inr t ↦ absurd (let q : Some r.0 ≡ None = t.0 in cc)
        ]
