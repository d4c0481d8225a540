-- Where no transaction leaves the allocator and the extents apart, live by the one is live by the others.
use Rattle.std.proofs.Common.{◌≡◌, inl, inr, ℕ, zero, suc, ◌+◌, ◌-◌, ◌<◌, ◌≤◌, ◌==◌, ◌&&◌, ◌||◌, Bool, true, false, cond, List, [], ◌∷◌, length, take, Option, Some, None, refl, sym, ap, subst, ◌∙◌, arith}
use Rattle.std.specs.Prelude.{◌⊎◌, ◌↔◌}
use Rattle.std.specs.List.{Contains, filter, flat_map, fold, list_any}
use Rattle.std.proofs.lemmas.Bool.{and_from, eq-eqb}
use Rattle.fx_item.specs.Item.{PlainItem, TakenValue}
use Rattle.fx_item.specs.Overlay.{AtFileBlock, AtDeviceBlock, Entry, ValueEntry, BlockEntry, Said, says}
use Rattle.fx_namespace.specs.Nodes.{NodeId}
use Rattle.fx_contents.specs.Allocated.{AreAllocated}
use Rattle.fx_contents.specs.Points.{Points, block_in, device_block, entry_after, points_after}
use Rattle.fx_verify.specs.Kept.{IsKeptNumber, Passes, after_items, block_sums_of, is_freed_by, is_taken_by, is_written, last_stated, live_sum, writes_block, written_by}
use Rattle.fx_live.specs.Live.{AreOrdered, AreTogether, IsKeptByExtents, IsNamedWith, KeepsTogether, PassesByExtents, SaysBlock, SaysTaken, points_through, states}
use Rattle.fx_live.proofs.Stated.{device_said, freed_says, has_or_not, or_left, or_right, says_stated, says_taken, stated_says, states_has, taken_says, written_states}

-- ---- what a list states last

-- it states some sum of the block, or says nothing of it
abbrev pub Last : ℕ → List (ℕ × ℕ) → Option ℕ → Type 0
Last b ps old = ((x : ℕ) × (last_stated b ps old ≡ Some x) × (states ps b x ≡ true)) ⊎ ((last_stated b ps old ≡ old) × (list_any (λ p. p.0 == b) ps ≡ false))

pub stated_last : (b : ℕ) (ps : List (ℕ × ℕ)) (old : Option ℕ) → Last b ps old
stated_last b [] old = inr (refl, refl)
stated_last b (p ∷ ps) old = by (p.0 == b) refl (stated_last b ps (Some p.1)) (stated_last b ps old)
  where
    by : (t : Bool) → (p.0 == b) ≡ t → Last b ps (Some p.1) → Last b ps old → Last b (p ∷ ps) old
    by true e (inl r) other = inl (r.0, ap (λ t. last_stated b ps (cond t (Some p.1) old)) e ∙ r.1, or_right ((p.0 == b) && (p.1 == r.0)) (states ps b r.0) r.2)
    by true e (inr r) other = inl (
      p.1,
      ap (λ t. last_stated b ps (cond t (Some p.1) old)) e ∙ r.0,
      or_left ((p.0 == b) && (p.1 == p.1)) (states ps b p.1) (and_from (p.0 == b) (p.1 == p.1) e (eq-eqb p.1 p.1 refl)),
    )
    by false e other (inl r) = inl (r.0, ap (λ t. last_stated b ps (cond t (Some p.1) old)) e ∙ r.1, or_right ((p.0 == b) && (p.1 == r.0)) (states ps b r.0) r.2)
    by false e other (inr r) = inr (ap (λ t. last_stated b ps (cond t (Some p.1) old)) e ∙ r.0, ap (λ t. t || list_any (λ q. q.0 == b) ps) e ∙ r.1)

-- ---- places and blocks

pub named_block : (m : Points) (node : NodeId) (n b x : ℕ) → m (AtFileBlock node.store node.id n) ≡ Some (BlockEntry b x) → device_block m node n ≡ Some b
named_block m node n b x e = ap block_in e

-- a block that lies in a file has a sum there
pub block_sum : (m : Points) (node : NodeId) (n b : ℕ) → device_block m node n ≡ Some b → (x : ℕ) × (m (AtFileBlock node.store node.id n) ≡ Some (BlockEntry b x))
block_sum m node n b e = by (m (AtFileBlock node.store node.id n)) e
  where
    by : (o : Option Entry) → block_in o ≡ Some b → (x : ℕ) × (o ≡ Some (BlockEntry b x))
    by None e = absurd (let q : None ≡ Some b = e in cc)
    by (Some (ValueEntry value)) e = absurd (let q : None ≡ Some b = e in cc)
    by (Some (BlockEntry block x)) e = (x, let q : Some block ≡ Some b = e in cc)

-- one block has one sum
one_sum : (m : Points) → AreAllocated m → (a c : NodeId) (i j b x y : ℕ) → m (AtFileBlock a.store a.id i) ≡ Some (BlockEntry b x) → m (AtFileBlock c.store c.id j) ≡ Some (BlockEntry b y) → x ≡ y
one_sum m all a c i j b x y e f =
    let same = all.once a c i j b (named_block m a i b x e) (named_block m c j b y f) in
    let q : Some (BlockEntry b x) ≡ Some (BlockEntry b y) = sym e ∙ (λ k. m (AtFileBlock (same.0 k).store (same.0 k).id (same.1 k))) ∙ f in
    cc q

-- ---- one transaction

-- what is live of a block, by what the transactions so far wrote and by the extents
abbrev pub IsLiveBy : Points → ℕ → Option ℕ → Bool → Type 0
IsLiveBy m b old written = (x : ℕ) → (old ≡ Some x) ↔ ((written ≡ true) × IsNamedWith m b x)

module _ (m : Points) (items : List PlainItem) (b : ℕ) (old : Option ℕ) (w : Bool) (before : AreAllocated m) (t : KeepsTogether m items) (live : IsLiveBy m b old w) where
  after : Points
  after = points_after m (says items)

  -- an entry that is said stands afterwards, and so does one of which nothing is said
  said_stands : (node : NodeId) (n x : ℕ) → says items (AtFileBlock node.store node.id n) ≡ Some (Some (BlockEntry b x)) → points_after m (says items) (AtFileBlock node.store node.id n) ≡ Some (BlockEntry b x)
  said_stands node n x e = ap (λ o. entry_after o (m (AtFileBlock node.store node.id n))) e

  -- what stands afterwards was said, or stood before
  from_before : (node : NodeId) (n x : ℕ) → points_after m (says items) (AtFileBlock node.store node.id n) ≡ Some (BlockEntry b x)
      → SaysBlock (says items) b x ⊎ (m (AtFileBlock node.store node.id n) ≡ Some (BlockEntry b x))
  from_before node n x e = by (says items (AtFileBlock node.store node.id n)) refl e
    where
      by : (o : Option (Option Entry)) → says items (AtFileBlock node.store node.id n) ≡ o → entry_after o (m (AtFileBlock node.store node.id n)) ≡ Some (BlockEntry b x)
          → SaysBlock (says items) b x ⊎ (m (AtFileBlock node.store node.id n) ≡ Some (BlockEntry b x))
      by None s e = inr e
      by (Some o) s e = inl (node, n, s ∙ ap (λ r. Some r) e)

  -- Where no sum is stated that is not the old one, and the block is not freed, its place is the old one.
  module _ (taken : (entry : Entry) × (points_after m (says items) (AtDeviceBlock b) ≡ Some entry)) (still : (x : ℕ) → SaysBlock (says items) b x → IsNamedWith m b x) where
    now_before : (x : ℕ) → IsNamedWith (points_after m (says items)) b x → IsNamedWith m b x
    now_before x n = elim (from_before n.0 n.1 x n.2) [
      | inl s ↦ still x s
      | inr e ↦ (n.0, n.1, e)
    ]

    before_now : (x : ℕ) → IsNamedWith m b x → IsNamedWith (points_after m (says items)) b x
    before_now x n =
        let place = t.allocated.live b taken.0 taken.1 in
        let sum = block_sum (points_after m (says items)) place.0 place.1 b place.2 in
        let then_ = now_before sum.0 (place.0, place.1, sum.1) in
        let same : sum.0 ≡ x = one_sum m before then_.0 n.0 then_.1 n.1 b sum.0 x then_.2 n.2 in
        (place.0, place.1, sum.1 ∙ ap (λ y. Some (BlockEntry b y)) same)

    same_live : IsLiveBy (points_after m (says items)) b old w
    same_live = λ x. (
      λ e. let r = (live x).0 e in (r.0, before_now x r.1),
      λ r. (live x).1 (r.0, now_before x r.1),
    )

  not_written : list_any (λ p. p.0 == b) (written_by items) ≡ false → (w || writes_block items b) ≡ w
  not_written e = ap (λ t. w || t) e ∙ or_false w
    where
      or_false : (t : Bool) → (t || false) ≡ t
      or_false true = refl
      or_false false = refl

  -- a sum that is stated last stands
  put : (x : ℕ) → states (written_by items) b x ≡ true → IsLiveBy (points_after m (says items)) b (Some x) (w || writes_block items b)
  put x e =
      let s = stated_says items b x t.ordered (both (is_taken_by items b) (states (flat_map block_sums_of items) b x) (sym (written_states items b x) ∙ e)).1 in
      let here : IsNamedWith (points_after m (says items)) b x = (s.0, s.1, said_stands s.0 s.1 x s.2) in
      λ y. (
        λ q. (or_right w (writes_block items b) (states_has (written_by items) b x e), subst (IsNamedWith (points_after m (says items)) b) (let p : Some x ≡ Some y = q in cc p) here),
        λ r. ap (λ z. Some z) (one_sum (points_after m (says items)) t.allocated here.0 r.1.0 here.1 r.1.1 b x y here.2 r.1.2),
      )
    where
      both : (a c : Bool) → (a && c) ≡ true → (a ≡ true) × (c ≡ true)
      both true c e = (refl, e)
      both false c e = absurd (let q : false ≡ true = e in cc)

  -- nothing is stated of a block that is not freed
  unstated : is_freed_by items b ≡ false → (taken : (entry : Entry) × (points_after m (says items) (AtDeviceBlock b) ≡ Some entry))
      → list_any (λ p. p.0 == b) (written_by items) ≡ false → IsLiveBy (points_after m (says items)) b old (w || writes_block items b)
  unstated unfreed taken none = subst (IsLiveBy (points_after m (says items)) b old) (sym (not_written none)) (same_live taken (λ x s. elim (t.stated b x s) [
    | inr n ↦ n
    | inl took ↦ absurd (
        let e : states (written_by items) b x ≡ true = written_states items b x ∙ (λ j. says_taken items b t.ordered took j && says_stated items b x t.ordered s j) in
        let q : false ≡ true = sym none ∙ states_has (written_by items) b x e in
        cc)
  ]))

  -- where the block is not freed
  unfreed_step : is_freed_by items b ≡ false → (taken : (entry : Entry) × (points_after m (says items) (AtDeviceBlock b) ≡ Some entry))
      → IsLiveBy (points_after m (says items)) b (last_stated b (written_by items) old) (w || writes_block items b)
  unfreed_step unfreed taken = elim (stated_last b (written_by items) old) [
    | inl r ↦ subst (λ o. IsLiveBy (points_after m (says items)) b o (w || writes_block items b)) (sym r.1) (put r.0 r.2)
    | inr r ↦ subst (λ o. IsLiveBy (points_after m (says items)) b o (w || writes_block items b)) (sym r.0) (unstated unfreed taken r.1)
  ]

  -- a block that no allocation has afterwards lies in no file
  gone_now : (x : ℕ) → points_after m (says items) (AtDeviceBlock b) ≡ None → IsNamedWith (points_after m (says items)) b x → ⊥
  gone_now x e n =
      let r = t.allocated.taken n.0 n.1 b (named_block (points_after m (says items)) n.0 n.1 b x n.2) in
      let q : None ≡ Some r.0 = sym e ∙ r.1 in
      absurd (cc)

  gone_live : (v : Bool) → points_after m (says items) (AtDeviceBlock b) ≡ None → IsLiveBy (points_after m (says items)) b None v
  gone_live v e = λ x. (λ q. absurd (let p : None ≡ Some x = q in cc), λ r. absurd (gone_now x e r.1))

  -- where nothing is taken nothing is written
  unwritten : is_taken_by items b ≡ false → list_any (λ p. p.0 == b) (written_by items) ≡ false
  unwritten e = elim (has_or_not (written_by items) b) [
    | inr none ↦ none
    | inl x ↦ absurd (let q : true ≡ false = sym x.1 ∙ written_states items b x.0 ∙ ap (λ t. t && states (flat_map block_sums_of items) b x.0) e in cc)
  ]

  unstated_last : list_any (λ p. p.0 == b) (written_by items) ≡ false → (o : Option ℕ) → last_stated b (written_by items) o ≡ o
  unstated_last none o = elim (stated_last b (written_by items) o) [
    | inr r ↦ r.0
    | inl r ↦ absurd (let q : false ≡ true = sym none ∙ states_has (written_by items) b r.0 r.2 in cc)
  ]

  -- with the free block as the case of no entry
  still_step : says items (AtDeviceBlock b) ≡ None → (o : Option Entry) → m (AtDeviceBlock b) ≡ o → IsLiveBy (points_after m (says items)) b (last_stated b (written_by items) old) (w || writes_block items b)
  still_step s (Some entry) e = unfreed_step (not_freed (is_freed_by items b) refl) (entry, ap (λ o. entry_after o (m (AtDeviceBlock b))) s ∙ e)
    where
      not_freed : (f : Bool) → is_freed_by items b ≡ f → is_freed_by items b ≡ false
      not_freed false e = e
      not_freed true e = absurd (let q : None ≡ Some None = sym s ∙ freed_says items b t.ordered e in cc)
  still_step s None e =
      let none = unwritten (not_taken (is_taken_by items b) refl) in
      subst (λ o. IsLiveBy (points_after m (says items)) b o (w || writes_block items b)) (sym (unstated_last none old ∙ dead old refl)) (gone_live (w || writes_block items b) (ap (λ o. entry_after o (m (AtDeviceBlock b))) s ∙ e))
    where
      not_taken : (f : Bool) → is_taken_by items b ≡ f → is_taken_by items b ≡ false
      not_taken false e = e
      not_taken true e = absurd (let q : None ≡ Some (Some (ValueEntry TakenValue)) = sym s ∙ taken_says items b t.ordered e in cc)

      dead : (o : Option ℕ) → old ≡ o → old ≡ None
      dead None e = e
      dead (Some x) f =
          let n = ((live x).0 f).1 in
          let r = before.taken n.0 n.1 b (named_block m n.0 n.1 b x n.2) in
          absurd (let q : None ≡ Some r.0 = sym e ∙ r.1 in cc)

  pub live_step : IsLiveBy (points_after m (says items)) b (after_items b old items) (w || writes_block items b)
  live_step = by (says items (AtDeviceBlock b)) refl
    where
      by : (o : Option (Option Entry)) → says items (AtDeviceBlock b) ≡ o → IsLiveBy (points_after m (says items)) b (after_items b old items) (w || writes_block items b)
      by None s =
          subst (λ f. IsLiveBy (points_after m (says items)) b (last_stated b (written_by items) (cond f None old)) (w || writes_block items b)) (sym (not_freed (is_freed_by items b) refl)) (still_step s (m (AtDeviceBlock b)) refl)
        where
          not_freed : (f : Bool) → is_freed_by items b ≡ f → is_freed_by items b ≡ false
          not_freed false e = e
          not_freed true e = absurd (let q : None ≡ Some None = sym s ∙ freed_says items b t.ordered e in cc)
      by (Some o) s = elim (device_said items b o t.ordered s) [
        | inl r ↦
            subst (λ f. IsLiveBy (points_after m (says items)) b (last_stated b (written_by items) (cond f None old)) (w || writes_block items b)) (sym (not_freed r.1 (is_freed_by items b) refl))
            (unfreed_step (not_freed r.1 (is_freed_by items b) refl) (ValueEntry TakenValue, ap (λ o. entry_after o (m (AtDeviceBlock b))) s ∙ r.0))
        | inr r ↦
            let none = unwritten (not_taken r.1 (is_taken_by items b) refl) in
            subst (λ o. IsLiveBy (points_after m (says items)) b o (w || writes_block items b)) (sym (ap (λ f. last_stated b (written_by items) (cond f None old)) r.1 ∙ unstated_last none None))
            (gone_live (w || writes_block items b) (ap (λ o. entry_after o (m (AtDeviceBlock b))) s ∙ r.0))
      ]
        where
          not_freed : is_taken_by items b ≡ true → (f : Bool) → is_freed_by items b ≡ f → is_freed_by items b ≡ false
          not_freed took false e = e
          not_freed took true e = absurd (let q : Some (Some (ValueEntry TakenValue)) ≡ Some None = sym (taken_says items b t.ordered took) ∙ freed_says items b t.ordered e in cc)

          not_taken : is_freed_by items b ≡ true → (f : Bool) → is_taken_by items b ≡ f → is_taken_by items b ≡ false
          not_taken freed false e = e
          not_taken freed true e = absurd (let q : Some (Some (ValueEntry TakenValue)) ≡ Some None = sym (taken_says items b t.ordered e) ∙ freed_says items b t.ordered freed in cc)

-- ---- many transactions

or_assoc : (a b c : Bool) → ((a || b) || c) ≡ (a || (b || c))
or_assoc true b c = refl
or_assoc false b c = refl

or_false : (t : Bool) → (t || false) ≡ t
or_false true = refl
or_false false = refl

live_from : (b : ℕ) (ts : List (ℕ × List PlainItem)) (m : Points) (old : Option ℕ) (w : Bool) → AreAllocated m → AreTogether m ts → IsLiveBy m b old w
    → IsLiveBy (points_through m ts) b (fold (λ old t. after_items b old t.1) old ts) (w || is_written ts b)
live_from b [] m old w a t live = subst (IsLiveBy m b old) (sym (or_false w)) live
live_from b (x ∷ xs) m old w a t live =
    subst (IsLiveBy (points_through (points_after m (says x.1)) xs) b (fold (λ old t. after_items b old t.1) (after_items b old x.1) xs)) (or_assoc w (writes_block x.1 b) (is_written xs b))
    (live_from b xs (points_after m (says x.1)) (after_items b old x.1) (w || writes_block x.1 b) t.0.allocated t.1 (live_step m x.1 b old w a t.0 live))

pub live_by_extents : (m : Points) (ts : List (ℕ × List PlainItem)) → AreAllocated m → AreTogether m ts → (b x : ℕ)
    → (live_sum ts b ≡ Some x) ↔ ((is_written ts b ≡ true) × IsNamedWith (points_through m ts) b x)
live_by_extents m ts a t b = live_from b ts m None false a t (λ x. (λ e. absurd (let q : None ≡ Some x = e in cc), λ r. absurd (let q : false ≡ true = r.0 in cc)))

pub through_allocated : (m : Points) (ts : List (ℕ × List PlainItem)) → AreAllocated m → AreTogether m ts → AreAllocated (points_through m ts)
through_allocated m [] a t = a
through_allocated m (x ∷ xs) a t = through_allocated (points_after m (says x.1)) xs t.0.allocated t.1

together_front : (m : Points) (ts : List (ℕ × List PlainItem)) (n : ℕ) → AreTogether m ts → AreTogether m (take n ts)
together_front m [] zero t = tt
together_front m [] (suc n) t = tt
together_front m (x ∷ xs) zero t = tt
together_front m (x ∷ xs) (suc n) t = (t.0, together_front (points_after m (says x.1)) xs n t.1)

module _ (m : Points) (ts : List (ℕ × List PlainItem)) (found : List (ℕ × ℕ)) (a : AreAllocated m) (t : AreTogether m ts) where
  to_extents : (n : ℕ) → Passes (take n ts) found → PassesByExtents m (take n ts) found
  to_extents n p = λ b x w e. p b x ((live_by_extents m (take n ts) a (together_front m ts n t) b x).1 (w, e))

  from_extents : (n : ℕ) → PassesByExtents m (take n ts) found → Passes (take n ts) found
  from_extents n p = λ b x e. let r = (live_by_extents m (take n ts) a (together_front m ts n t) b x).0 e in p b x r.0 r.1

  pub kept_by_extents : (base k : ℕ) → IsKeptNumber base ts found k ↔ IsKeptByExtents m base ts found k
  kept_by_extents base k = (
    λ h. record { least = h.least; most = h.most; passes = to_extents (k - base) h.passes; greatest = λ j less le p. h.greatest j less le (from_extents (j - base) p) },
    λ h. record { least = h.least; most = h.most; passes = from_extents (k - base) h.passes; greatest = λ j less le p. h.greatest j less le (to_extents (j - base) p) },
  )
