-- A line that writes or cuts one file moves blocks.
use Rattle.std.proofs.Common.{◌≡◌, inl, inr, ℕ, zero, suc, ◌+◌, ◌<◌, ◌==◌, ◌&&◌, ◌||◌, Bool, true, false, cond, List, [], ◌∷◌, Option, Some, None, refl, sym, ap, ◌∙◌, arith, eqb-true}
use Rattle.std.specs.Prelude.{◌⊎◌, option_map, slice_get}
use Rattle.std.specs.List.{find, flat_map}
use Rattle.std.proofs.lemmas.Bool.{cases_Bool}
use Rattle.fx_item.specs.Item.{PlainItem, TakenValue}
use Rattle.fx_item.specs.Overlay.{Point, AtFileBlock, AtDeviceBlock, Entry, ValueEntry, BlockEntry, Said, or_older, says}
use Rattle.fx_namespace.specs.Nodes.{NodeId}
use Rattle.fx_contents.specs.Allocated.{AreAllocated}
use Rattle.fx_contents.specs.Points.{Points, device_block}
use Rattle.fx_extent.specs.Allocations.{ShareNone, lists_block, said_by}
use Rattle.fx_extent.specs.Listed.{file_said, place_said}
use Rattle.fx_extent.specs.Staged.{AreInPlaces, new_entry}
use Rattle.fx_extent.specs.Touched.{is_between}
use Rattle.fx_extent.specs.declared.storing.NewBlock.{NewBlock}
use Rattle.fx_extent.proofs.Filed.{find_at}
use Rattle.fx_verify.specs.Kept.{after_items, block_sums_of, is_freed_by, is_taken_by, last_stated, written_by}
use Rattle.fx_live.specs.Live.{AreOrdered, SaysBlock, SaysTaken, states}
use Rattle.fx_live.specs.Moving.{FileChange, LeavesSums, MovesBlocks, SaysChanges, SwapsBlocks, no_change, one_change}
use Rattle.fx_live.proofs.Stated.{freed_says, says_freed, says_stated, says_taken, stated_says, states_has, taken_says, written_states}
use Rattle.fx_live.proofs.Together.{stated_last}

-- nothing is said; there is no entry
abbrev unsaid : Option (Option Entry)
unsaid = None

abbrev no_entry : Option (Option Entry)
no_entry = Some None

-- ---- what a search finds

pub found_in : (p : NewBlock → Bool) (xs : List NewBlock) (x : NewBlock) → find p xs ≡ Some x → (i : ℕ) × (slice_get xs i ≡ Some x) × (p x ≡ true)
found_in p [] x e = absurd (let q : None ≡ Some x = e in cc)
found_in p (y ∷ ys) x e = by (p y) refl e (found_in p ys x)
  where
    by : (t : Bool) → p y ≡ t → cond t (Some y) (find p ys) ≡ Some x → (find p ys ≡ Some x → (i : ℕ) × (slice_get ys i ≡ Some x) × (p x ≡ true))
        → (i : ℕ) × (slice_get (y ∷ ys) i ≡ Some x) × (p x ≡ true)
    by true t e rest = let is : y ≡ x = cc e in (0, ap (λ z. Some z) is, ap p (sym is) ∙ t)
    by false t e rest = let r = rest e in (suc r.0, r.1, r.2)

-- one file that changes
pub says_one : (said : Said) (node : NodeId) (len : ℕ) (change : FileChange) (taken freed : List ℕ) → AreInPlaces 0 change.blocks
    → ((p : Point) → said p ≡ file_said node len change.blocks change.from change.to taken freed p) → SaysChanges said (one_change node change) taken freed
says_one said node len change taken freed rising is = record {
  rising = λ other. by other ((node.store == other.store) && (node.id == other.id));
  place = λ other n. is (AtFileBlock other.store other.id n) ∙ place other n ((node.store == other.store) && (node.id == other.id));
  device = λ b. is (AtDeviceBlock b);
}
  where
    by : (other : NodeId) (t : Bool) → AreInPlaces 0 (cond t change no_change).blocks
    by other true = rising
    by other false = tt

    nowhere : (n : ℕ) → is_between 0 0 n ≡ false
    nowhere n = grind (arith)

    place : (other : NodeId) (n : ℕ) (t : Bool) → cond t (place_said change.blocks change.from change.to n) None
        ≡ place_said (cond t change no_change).blocks (cond t change no_change).from (cond t change no_change).to n
    place other n true = refl
    place other n false = sym (ap (λ t. cond t no_entry unsaid) (nowhere n))

module _ (m : Points) (said : Said) (changes : NodeId → FileChange) (taken freed : List ℕ) (is : SaysChanges said changes taken freed) (w : SwapsBlocks m changes taken freed) where
  -- a place that is told to lie in a block is that of a new block
  placed_block : (node : NodeId) (n : ℕ) (entry : Entry) → said (AtFileBlock node.store node.id n) ≡ Some (Some entry)
      → (i : ℕ) × (x : NewBlock) × (slice_get (changes node).blocks i ≡ Some x) × (x.index ≡ n) × (entry ≡ BlockEntry x.block x.sum)
  placed_block node n entry e = by (find (λ x. x.index == n) (changes node).blocks) refl (sym (is.place node n) ∙ e)
    where
      none : (t : Bool) → cond t (Some None) None ≡ Some (Some entry) → ⊥
      none true e = absurd (let q : Some None ≡ Some (Some entry) = e in cc)
      none false e = absurd (let q : None ≡ Some (Some entry) = e in cc)

      by : (o : Option NewBlock) → find (λ x. x.index == n) (changes node).blocks ≡ o
          → or_older (option_map new_entry o) (cond (is_between (changes node).from (changes node).to n) (Some None) None) ≡ Some (Some entry)
          → (i : ℕ) × (x : NewBlock) × (slice_get (changes node).blocks i ≡ Some x) × (x.index ≡ n) × (entry ≡ BlockEntry x.block x.sum)
      by None f e = absurd (none (is_between (changes node).from (changes node).to n) e)
      by (Some x) f e =
          let r = found_in (λ x. x.index == n) (changes node).blocks x f in
          let q : Some (Some (BlockEntry x.block x.sum)) ≡ Some (Some entry) = e in
          (r.0, x, r.1, eqb-true x.index n r.2, cc q)

  said_new : (node : NodeId) (i : ℕ) (x : NewBlock) → slice_get (changes node).blocks i ≡ Some x → said (AtFileBlock node.store node.id x.index) ≡ Some (Some (BlockEntry x.block x.sum))
  said_new node i x g = is.place node x.index
      ∙ ap (λ o. or_older (option_map new_entry o) (cond (is_between (changes node).from (changes node).to x.index) (Some None) None)) (find_at 0 (changes node).blocks i x (is.rising node) g).1

  -- ---- what is said of the device

  by_taken : (b : ℕ) → lists_block taken b ≡ true → said (AtDeviceBlock b) ≡ Some (Some (ValueEntry TakenValue))
  by_taken b e = is.device b ∙ ap (λ t. cond t (Some (Some (ValueEntry TakenValue))) (cond (lists_block freed b) (Some None) None)) e

  by_freed : (b : ℕ) → lists_block taken b ≡ false → said (AtDeviceBlock b) ≡ cond (lists_block freed b) (Some None) None
  by_freed b e = is.device b ∙ ap (λ t. cond t (Some (Some (ValueEntry TakenValue))) (cond (lists_block freed b) (Some None) None)) e

  is_taken : (b : ℕ) (entry : Entry) → said (AtDeviceBlock b) ≡ Some (Some entry) → lists_block taken b ≡ true
  is_taken b entry e = elim (cases_Bool (lists_block taken b)) [
    | inl t ↦ t
    | inr t ↦ absurd (none (lists_block freed b) (sym (by_freed b t) ∙ e))
  ]
    where
      none : (t : Bool) → cond t (Some None) None ≡ Some (Some entry) → ⊥
      none true e = absurd (let q : Some None ≡ Some (Some entry) = e in cc)
      none false e = absurd (let q : None ≡ Some (Some entry) = e in cc)

  is_freed : (b : ℕ) → said (AtDeviceBlock b) ≡ Some None → lists_block freed b ≡ true
  is_freed b e = elim (cases_Bool (lists_block taken b)) [
    | inl t ↦ absurd (let q : Some (Some (ValueEntry TakenValue)) ≡ Some None = sym (by_taken b t) ∙ e in cc)
    | inr t ↦ only (lists_block freed b) (sym (by_freed b t) ∙ e)
  ]
    where
      only : (t : Bool) → cond t no_entry unsaid ≡ no_entry → t ≡ true
      only true e = refl
      only false e = absurd (let q : unsaid ≡ no_entry = e in cc)

  -- ---- the blocks that move

  once : (a c : NodeId) (i j b x y : ℕ) → said (AtFileBlock a.store a.id i) ≡ Some (Some (BlockEntry b x)) → said (AtFileBlock c.store c.id j) ≡ Some (Some (BlockEntry b y)) → (a ≡ c) × (i ≡ j)
  once a c i j b x y e f =
      let r = placed_block a i (BlockEntry b x) e in
      let s = placed_block c j (BlockEntry b y) f in
      let first : BlockEntry b x ≡ BlockEntry r.1.block r.1.sum = r.4 in
      let next : BlockEntry b y ≡ BlockEntry s.1.block s.1.sum = s.4 in
      let block : r.1.block ≡ b = cc first in
      let other : s.1.block ≡ b = cc next in
      let place = w.once a c r.0 s.0 r.1 s.1 r.2 s.2 (block ∙ sym other) in
      let both : Some r.1 ≡ Some s.1 = sym r.2 ∙ (λ k. slice_get (changes (place.0 k)).blocks (place.1 k)) ∙ s.2 in
      let same : r.1 ≡ s.1 = cc both in
      (place.0, sym r.3 ∙ ap (λ (z : NewBlock). z.index) same ∙ s.3)

  module _ (a : AreAllocated m) where
    not_taken : (node : NodeId) (n b : ℕ) → device_block m node n ≡ Some b → lists_block taken b ≡ false
    not_taken node n b e = elim (cases_Bool (lists_block taken b)) [
      | inr t ↦ t
      | inl t ↦
          let r = a.taken node n b e in
          absurd (let q : None ≡ Some r.0 = sym (w.was_free b t) ∙ r.1 in cc)
    ]

    pub lists_apart : ShareNone taken freed
    lists_apart b t = elim (cases_Bool (lists_block freed b)) [
      | inr none ↦ none
      | inl f ↦
          let r = w.emptied b f in
          absurd (let q : true ≡ false = sym t ∙ not_taken r.0 r.1 b r.3 in cc)
    ]

    pub line_moves : MovesBlocks m said
    line_moves = record {
      taken = λ b entry e.
          let t = is_taken b entry e in
          let r = w.filled b t in
          (w.was_free b t, r.2.sum, (r.0, r.2.index, said_new r.0 r.1 r.2 r.3 ∙ ap (λ z. Some (Some (BlockEntry z r.2.sum))) r.4));
      placed = λ node n entry e.
          let r = placed_block node n entry e in
          (r.1.block, r.1.sum, ValueEntry TakenValue, r.4, by_taken r.1.block (w.told node r.0 r.1 r.2));
      once = once;
      freed = λ b e.
          let r = w.emptied b (is_freed b e) in
          (r.0, r.1, r.2, r.3, is.place r.0 r.1 ∙ r.4);
      left = λ node n b o e f.
          by_freed b (not_taken node n b e) ∙ ap (λ t. cond t (Some None) None) (w.left node n b o e (sym (is.place node n) ∙ f));
    }

-- ---- what a transaction of such a line leaves live

module _ (m : Points) (items : List PlainItem) (changes : NodeId → FileChange) (taken freed : List ℕ) (is : SaysChanges (says items) changes taken freed) (w : SwapsBlocks m changes taken freed) (o : AreOrdered items) where
  -- the one sum that is stated of a block is that of its new block
  one_new : (b x : ℕ) → SaysBlock (says items) b x → (node : NodeId) (i : ℕ) (y : NewBlock) → slice_get (changes node).blocks i ≡ Some y → y.block ≡ b → x ≡ y.sum
  one_new b x s node i y g e =
      let r = placed_block m (says items) changes taken freed is w s.0 s.1 (BlockEntry b x) s.2 in
      let entry : BlockEntry b x ≡ BlockEntry r.1.block r.1.sum = r.4 in
      let block : r.1.block ≡ b = cc entry in
      let sum : x ≡ r.1.sum = cc entry in
      let place = w.once s.0 node r.0 i r.1 y r.2 g (block ∙ sym e) in
      let both : Some r.1 ≡ Some y = sym r.2 ∙ (λ k. slice_get (changes (place.0 k)).blocks (place.1 k)) ∙ g in
      let same : r.1 ≡ y = cc both in
      sum ∙ ap (λ (z : NewBlock). z.sum) same

  pub written_new : (node : NodeId) (i : ℕ) (y : NewBlock) (old : Option ℕ) → slice_get (changes node).blocks i ≡ Some y → after_items y.block old items ≡ Some y.sum
  written_new node i y old g =
      let took : SaysTaken (says items) y.block = by_taken m (says items) changes taken freed is w y.block (w.told node i y g) in
      let said : SaysBlock (says items) y.block y.sum = (node, y.index, said_new m (says items) changes taken freed is w node i y g) in
      let stated : states (written_by items) y.block y.sum ≡ true = written_states items y.block y.sum ∙ (λ j. says_taken items y.block o took j && says_stated items y.block y.sum o said j) in
      elim (stated_last y.block (written_by items) (cond (is_freed_by items y.block) None old)) [
        | inr none ↦ absurd (let q : true ≡ false = sym (states_has (written_by items) y.block y.sum stated) ∙ none.1 in cc)
        | inl r ↦
            let s = stated_says items y.block r.0 o (both (is_taken_by items y.block) (states (flat_map block_sums_of items) y.block r.0) (sym (written_states items y.block r.0) ∙ r.2)) in
            r.1 ∙ ap (λ z. Some z) (one_new y.block r.0 s node i y g refl)
      ]
    where
      both : (a c : Bool) → (a && c) ≡ true → c ≡ true
      both true c e = e
      both false c e = absurd (let q : false ≡ true = e in cc)

  unwritten_old : (b : ℕ) (old : Option ℕ) → lists_block taken b ≡ false → last_stated b (written_by items) old ≡ old
  unwritten_old b old e = elim (stated_last b (written_by items) old) [
    | inr r ↦ r.0
    | inl r ↦ absurd (
        let took = taken_says items b o (both (is_taken_by items b) (states (flat_map block_sums_of items) b r.0) (sym (written_states items b r.0) ∙ r.2)) in
        let q : true ≡ false = sym (is_taken m (says items) changes taken freed is w b (ValueEntry TakenValue) took) ∙ e in
        cc)
  ]
    where
      both : (a c : Bool) → (a && c) ≡ true → a ≡ true
      both true c e = refl
      both false c e = absurd (let q : false ≡ true = e in cc)

  same_freed : (b : ℕ) → lists_block taken b ≡ false → is_freed_by items b ≡ lists_block freed b
  same_freed b e = by (is_freed_by items b) (lists_block freed b) refl refl
    where
      by : (x y : Bool) → is_freed_by items b ≡ x → lists_block freed b ≡ y → x ≡ y
      by true true f g = refl
      by false false f g = refl
      by true false f g = sym (is_freed m (says items) changes taken freed is w b (freed_says items b o f)) ∙ g
      by false true f g = sym (sym (says_freed items b o (by_freed m (says items) changes taken freed is w b e ∙ ap (λ t. cond t (Some None) None) g)) ∙ f)

  pub line_sums : LeavesSums items changes taken freed
  line_sums = record {
    new = written_new;
    others = λ b old t. unwritten_old b (cond (is_freed_by items b) None old) t ∙ ap (λ z. cond z None old) (same_freed b t);
  }
