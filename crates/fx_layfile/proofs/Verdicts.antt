-- One verdict at most holds of a layer.
use Rattle.std.proofs.Common.{◌≡◌, ℕ, ◌+◌, ◌<◌, ◌≤◌, Bool, true, false, List, [], ◌∷◌, ◌++◌, length, take, drop, refl, sym, ap, subst, ◌∙◌, inl, inr, arith, ◌⊎◌}
use Rattle.std.specs.Prelude.{Some, Result, Ok, Err}
use Rattle.std.specs.List.{slice_get}
use Rattle.std.proofs.lemmas.List.{take-append-drop, take-take}
use Rattle.std.proofs.lemmas.Grind.{flat_map-append}
use Rattle.std.proofs.lemmas.List.Elements.{All-head, All-tail}
use Rattle.std.specs.Ordering.{nat_cmp}
use Rattle.std.specs.declared.cmp.Ordering.{Ordering}
use Rattle.std.specs.declared.cmp.Ordering.TheVariants.{Less, Equal, Greater}
use Rattle.std.proofs.lemmas.Cmp.{ranked}
use Rattle.fx_item.specs.Item.{PlainItem}
use Rattle.fx_item.specs.Order.{is_ascending}
use Rattle.fx_layfile.specs.Block.{IsIndexBlock, IsDataBlock}
use Rattle.fx_layfile.specs.Layer.{BlockBytes, IsUnmarked, AreUnmarked, mark_block, mark_blocks, IndexPart, DataPart, first_part, IsIndexChain, index_places, names_of_parts, data_places, items_of_parts, AreData, IsIndexOf, IsStored, IsBadIndex, IsBadData, IsDisordered, Verdict, Whole, BadAt, DisorderAt, IsVerdict}
use Rattle.fx_layfile.specs.Reading.{PlainLayer, IsSaid, GivesVerdict}
use Rattle.fx_layfile.specs.declared.layer.LayerFault.{LayerFault}
use Rattle.fx_layfile.specs.declared.layer.LayerFault.TheVariants as faults
use Rattle.fx_layfile.proofs.Decoded.{same_index, same_data}
use Rattle.fx_layfile.proofs.Walking.{disorder_stays}

part_is : (p q : IndexPart) → p.at ≡ q.at → p.names ≡ q.names → p ≡ q
part_is p q e f = λ i. record { at = e i; names = f i }

leaf_is : (p q : DataPart) → p.at ≡ q.at → p.items ≡ q.items → p ≡ q
leaf_is p q e f = λ i. record { at = e i; items = f i }

module _ (blocks : BlockBytes) (ring tree : ℕ) where
  -- block 0 is never read
  not_zero : (marks : List Bool) (b : ℕ) → IsUnmarked ring marks b → b ≡ 0 → ⊥
  not_zero marks b u e = omega (arith, u.after_ring)

  part_same : (p q : IndexPart) (s t : ℕ) → p.at ≡ q.at → IsIndexBlock (blocks p.at) tree s p.names → IsIndexBlock (blocks q.at) tree t q.names → (s ≡ t) × (p ≡ q)
  part_same p q s t e h k =
      let one = same_index (blocks p.at) tree s t p.names q.names h (subst (λ n. IsIndexBlock (blocks n) tree t q.names) (sym e) k) in
      (one.0, part_is p q e one.1)

  -- Two chains of one beginning end together, or a further block stands where one of them ends.
  abbrev pub MoreAt : List Bool → List IndexPart → ℕ → Type 0
  MoreAt marks parts stop = (next : ℕ) × (names : List ℕ) × IsUnmarked ring (mark_blocks marks (index_places parts)) stop × IsIndexBlock (blocks stop) tree next names

  abbrev pub Ends : List Bool → List IndexPart → List IndexPart → ℕ → ℕ → Type 0
  Ends marks xs ys s t = ((xs ≡ ys) × (s ≡ t)) ⊎ (MoreAt marks xs s ⊎ MoreAt marks ys t)

  both_end : (marks : List Bool) (xs ys : List IndexPart) (s t first : ℕ) → first_part xs s ≡ first → first_part ys t ≡ first → IsIndexChain blocks tree xs s → IsIndexChain blocks tree ys t
      → AreUnmarked ring marks (index_places xs) → AreUnmarked ring marks (index_places ys) → Ends marks xs ys s t
  both_end marks [] [] s t first e f h k u v = inl (refl, e ∙ sym f)
  both_end marks [] (y ∷ ys) s t first e f h k u v =
      let at : y.at ≡ s = f ∙ sym e in
      inr (inl (first_part ys t, y.names, subst (IsUnmarked ring marks) at v.0, subst (λ n. IsIndexBlock (blocks n) tree (first_part ys t) y.names) at k.0))
  both_end marks (x ∷ xs) [] s t first e f h k u v =
      let at : x.at ≡ t = e ∙ sym f in
      inr (inr (first_part xs s, x.names, subst (IsUnmarked ring marks) at u.0, subst (λ n. IsIndexBlock (blocks n) tree (first_part xs s) x.names) at h.0))
  both_end marks (x ∷ xs) (y ∷ ys) s t first e f h k u v =
      let one = part_same x y (first_part xs s) (first_part ys t) (e ∙ sym f) h.0 k.0 in
      let at : y.at ≡ x.at = f ∙ sym e in
      let rest = both_end (mark_block marks x.at) xs ys s t (first_part xs s) refl (sym one.0) h.1 k.1 u.1 (subst (λ n. AreUnmarked ring (mark_block marks n) (index_places ys)) at v.1) in
      by_rest rest
    where
      by_rest : Ends (mark_block marks x.at) xs ys s t → Ends marks (x ∷ xs) (y ∷ ys) s t
      by_rest (inl p) = inl (cc (p.0, (part_same x y (first_part xs s) (first_part ys t) (e ∙ sym f) h.0 k.0).1), p.1)
      by_rest (inr (inl m)) = inr (inl m)
      by_rest (inr (inr m)) = inr (inr (m.0, m.1, subst (λ n. IsUnmarked ring (mark_blocks (mark_block marks n) (index_places ys)) t) (e ∙ sym f) m.2, m.3))

  -- nothing stands in block 0
  zero_ends : (marks : List Bool) (parts : List IndexPart) → MoreAt marks parts 0 → ⊥
  zero_ends marks parts m = not_zero (mark_blocks marks (index_places parts)) 0 m.2 refl

  module _ (marks : List Bool) (first : ℕ) where
    pub one_index : (xs ys : List IndexPart) → IsIndexOf blocks ring marks tree first xs → IsIndexOf blocks ring marks tree first ys → xs ≡ ys
    one_index xs ys h k = by_ends (both_end marks xs ys 0 0 first h.begins k.begins h.chain k.chain h.unmarked k.unmarked) where
      by_ends : Ends marks xs ys 0 0 → xs ≡ ys
      by_ends (inl p) = p.0
      by_ends (inr (inl m)) = absurd (zero_ends marks xs m)
      by_ends (inr (inr m)) = absurd (zero_ends marks ys m)

    bad_not_index : (bad : ℕ) (ys : List IndexPart) → IsBadIndex blocks ring marks tree first bad → IsIndexOf blocks ring marks tree first ys → ⊥
    bad_not_index bad ys h k = by_ends (both_end marks h.parts ys bad 0 first h.begins k.begins h.chain k.chain h.unmarked k.unmarked) where
      by_ends : Ends marks h.parts ys bad 0 → ⊥
      by_ends (inl p) = let e : length ys ≡ 0 = ap length (sym p.0 ∙ h.follows p.1) in omega (arith, k.some)
      by_ends (inr (inl m)) = h.wrong m.0 m.1 m.2 m.3
      by_ends (inr (inr m)) = zero_ends marks ys m

    one_bad_index : (bad other : ℕ) → IsBadIndex blocks ring marks tree first bad → IsBadIndex blocks ring marks tree first other → bad ≡ other
    one_bad_index bad other h k = by_ends (both_end marks h.parts k.parts bad other first h.begins k.begins h.chain k.chain h.unmarked k.unmarked) where
      by_ends : Ends marks h.parts k.parts bad other → bad ≡ other
      by_ends (inl p) = p.1
      by_ends (inr (inl m)) = absurd (h.wrong m.0 m.1 m.2 m.3)
      by_ends (inr (inr m)) = absurd (k.wrong m.0 m.1 m.2 m.3)

  -- ---- data blocks

  leaf_same : (p q : DataPart) → p.at ≡ q.at → IsDataBlock (blocks p.at) tree p.items → IsDataBlock (blocks q.at) tree q.items → p ≡ q
  leaf_same p q e h k =
      let one = same_data (blocks p.at) tree p.items q.items h (subst (λ n. IsDataBlock (blocks n) tree q.items) (sym e) k) in
      leaf_is p q e one

  abbrev IsLeaf : DataPart → Type 0
  IsLeaf leaf = IsDataBlock (blocks leaf.at) tree leaf.items

  one_data : (xs ys : List DataPart) → AreData blocks tree xs → AreData blocks tree ys → data_places xs ≡ data_places ys → xs ≡ ys
  one_data [] [] h k e = refl
  one_data [] (y ∷ ys) h k e = absurd (cc)
  one_data (x ∷ xs) [] h k e = absurd (cc)
  one_data (x ∷ xs) (y ∷ ys) h k e =
      let at : x.at ≡ y.at = cc in
      let rest : data_places xs ≡ data_places ys = cc in
      let a = leaf_same x y at (All-head IsLeaf x xs h) (All-head IsLeaf y ys k) in
      let b = one_data xs ys (All-tail IsLeaf x xs h) (All-tail IsLeaf y ys k) rest in
      cc (a, b)

  abbrev IsWrong : List Bool → List DataPart → ℕ → Type 0
  IsWrong marks leaves bad = (items : List PlainItem) → IsUnmarked ring (mark_blocks marks (data_places leaves)) bad → IsDataBlock (blocks bad) tree items → ⊥

  bad_not_data : (marks : List Bool) (xs ys : List DataPart) (bad : ℕ) (rest : List ℕ) → data_places xs ++ bad ∷ rest ≡ data_places ys → AreData blocks tree xs → AreData blocks tree ys
      → AreUnmarked ring marks (data_places ys) → IsWrong marks xs bad → ⊥
  bad_not_data marks [] [] bad rest e h k u w = cc
  bad_not_data marks [] (y ∷ ys) bad rest e h k u w =
      let at : y.at ≡ bad = cc in
      w y.items (subst (IsUnmarked ring marks) at u.0) (subst (λ n. IsDataBlock (blocks n) tree y.items) at (All-head IsLeaf y ys k))
  bad_not_data marks (x ∷ xs) [] bad rest e h k u w = cc
  bad_not_data marks (x ∷ xs) (y ∷ ys) bad rest e h k u w =
      let at : y.at ≡ x.at = cc in
      let more : data_places xs ++ bad ∷ rest ≡ data_places ys = cc in
      bad_not_data (mark_block marks x.at) xs ys bad rest more (All-tail IsLeaf x xs h) (All-tail IsLeaf y ys k) (subst (λ n. AreUnmarked ring (mark_block marks n) (data_places ys)) at u.1) w

  one_bad_data : (marks : List Bool) (xs ys : List DataPart) (bad other : ℕ) (rest more : List ℕ) → data_places xs ++ bad ∷ rest ≡ data_places ys ++ other ∷ more → AreData blocks tree xs → AreData blocks tree ys
      → AreUnmarked ring marks (data_places xs) → AreUnmarked ring marks (data_places ys) → IsWrong marks xs bad → IsWrong marks ys other → bad ≡ other
  one_bad_data marks [] [] bad other rest more e h k u v w z = cc
  one_bad_data marks [] (y ∷ ys) bad other rest more e h k u v w z =
      let at : y.at ≡ bad = cc in
      absurd (w y.items (subst (IsUnmarked ring marks) at v.0) (subst (λ n. IsDataBlock (blocks n) tree y.items) at (All-head IsLeaf y ys k)))
  one_bad_data marks (x ∷ xs) [] bad other rest more e h k u v w z =
      let at : x.at ≡ other = cc in
      absurd (z x.items (subst (IsUnmarked ring marks) at u.0) (subst (λ n. IsDataBlock (blocks n) tree x.items) at (All-head IsLeaf x xs h)))
  one_bad_data marks (x ∷ xs) (y ∷ ys) bad other rest more e h k u v w z =
      let at : y.at ≡ x.at = cc in
      let left : data_places xs ++ bad ∷ rest ≡ data_places ys ++ other ∷ more = cc in
      one_bad_data (mark_block marks x.at) xs ys bad other rest more left (All-tail IsLeaf x xs h) (All-tail IsLeaf y ys k) u.1 (subst (λ n. AreUnmarked ring (mark_block marks n) (data_places ys)) at v.1) w
      (subst (λ n. IsWrong (mark_block marks n) ys other) at z)

  module _ (marks : List Bool) (first : ℕ) where
    one_stored : (xs ys : List IndexPart) (ls ms : List DataPart) → IsStored blocks ring marks tree first xs ls → IsStored blocks ring marks tree first ys ms → (xs ≡ ys) × (ls ≡ ms)
    one_stored xs ys ls ms h k =
        let p : xs ≡ ys = one_index marks first xs ys h.index k.index in
        (p, one_data ls ms h.leaves_are k.leaves_are (sym h.named ∙ ap names_of_parts p ∙ k.named))

    bad_not_stored : (bad : ℕ) (ys : List IndexPart) (ms : List DataPart) → IsBadData blocks ring marks tree first bad → IsStored blocks ring marks tree first ys ms → ⊥
    bad_not_stored bad ys ms h k =
        let p : h.parts ≡ ys = one_index marks first h.parts ys h.index k.index in
        bad_not_data (mark_blocks marks (index_places h.parts)) h.leaves ms bad h.rest (sym h.named ∙ ap names_of_parts p ∙ k.named) h.leaves_are k.leaves_are
        (subst (λ w. AreUnmarked ring (mark_blocks marks (index_places w)) (data_places ms)) (sym p) k.unmarked) h.wrong

    bad_not_both : (bad other : ℕ) → IsBadData blocks ring marks tree first bad → IsBadData blocks ring marks tree first other → bad ≡ other
    bad_not_both bad other h k =
        let p : h.parts ≡ k.parts = one_index marks first h.parts k.parts h.index k.index in
        one_bad_data (mark_blocks marks (index_places h.parts)) h.leaves k.leaves bad other h.rest k.rest (sym h.named ∙ ap names_of_parts p ∙ k.named) h.leaves_are k.leaves_are h.unmarked
        (subst (λ w. AreUnmarked ring (mark_blocks marks (index_places w)) (data_places k.leaves)) (sym p) k.unmarked) h.wrong
        (subst (λ w. IsWrong (mark_blocks marks (index_places w)) k.leaves other) (sym p) k.wrong)

-- ---- order

up_to_place : (leaves : List DataPart) (m n : ℕ) → m ≤ n → is_ascending (items_of_parts (take m leaves)) ≡ false → is_ascending (items_of_parts (take n leaves)) ≡ false
up_to_place leaves m n le e =
    ap (λ (w : List DataPart). is_ascending (items_of_parts w)) (sym (take-append-drop m (take n leaves)))
    ∙ ap is_ascending (flat_map-append (λ (l : DataPart). l.items) (take m (take n leaves)) (drop m (take n leaves)))
    ∙ disorder_stays (items_of_parts (take m (take n leaves))) (items_of_parts (drop m (take n leaves))) (ap (λ (w : List DataPart). is_ascending (items_of_parts w)) (take-take m n leaves le) ∙ e)

disordered_all : (leaves : List DataPart) (at : ℕ) → IsDisordered leaves at → is_ascending (items_of_parts leaves) ≡ true → ⊥
disordered_all leaves at h up =
    let down : is_ascending (items_of_parts leaves) ≡ false =
    ap (λ (w : List DataPart). is_ascending (items_of_parts w)) (sym (take-append-drop (h.place + 1) leaves)) ∙ ap is_ascending (flat_map-append (λ (l : DataPart). l.items) (take (h.place + 1) leaves) (drop (h.place + 1) leaves))
    ∙ disorder_stays (items_of_parts (take (h.place + 1) leaves)) (items_of_parts (drop (h.place + 1) leaves)) h.breaks in
    cc

one_disorder : (leaves : List DataPart) (at other : ℕ) → IsDisordered leaves at → IsDisordered leaves other → at ≡ other
one_disorder leaves at other h k = by_order (nat_cmp h.place k.place) refl where
  by_order : (r : Ordering) → r ≡ nat_cmp h.place k.place → at ≡ other
  by_order Less e = absurd (let lt : h.place < k.place = ranked h.place k.place Less e in let down = up_to_place leaves (h.place + 1) k.place (omega arith) h.breaks in let up = k.before in cc)
  by_order Greater e = absurd (let lt : k.place < h.place = ranked h.place k.place Greater e in let down = up_to_place leaves (k.place + 1) h.place (omega arith) k.breaks in let up = h.before in cc)
  by_order Equal e =
      let same : h.place ≡ k.place = ranked h.place k.place Equal e in
      let got : Some at ≡ Some other = sym h.here ∙ ap (slice_get (data_places leaves)) same ∙ k.here in
      cc

-- ---- one verdict

module _ (blocks : BlockBytes) (ring : ℕ) (marks : List Bool) (tree first : ℕ) where
  pub one_verdict : (v w : Verdict) → IsVerdict blocks ring marks tree first v → IsVerdict blocks ring marks tree first w → v ≡ w
  one_verdict (Whole a xs) (Whole b ys) h k =
      let p = one_stored blocks ring tree marks first h.parts k.parts h.leaves k.leaves h.stored k.stored in
      let places : a ≡ b = h.places_are ∙ ap (λ (w : List IndexPart). index_places w ++ data_places h.leaves) p.0 ∙ ap (λ (w : List DataPart). index_places k.parts ++ data_places w) p.1 ∙ sym k.places_are in
      let items : xs ≡ ys = h.items_are ∙ ap items_of_parts p.1 ∙ sym k.items_are in
      cc
  one_verdict (Whole a xs) (BadAt c) h (inl k) = absurd (bad_not_index blocks ring tree marks first c h.parts k h.stored.index)
  one_verdict (Whole a xs) (BadAt c) h (inr k) = absurd (bad_not_stored blocks ring tree marks first c h.parts h.leaves k h.stored)
  one_verdict (Whole a xs) (DisorderAt c) h k =
      let p = one_stored blocks ring tree marks first h.parts k.parts h.leaves k.leaves h.stored k.stored in
      absurd (disordered_all k.leaves c k.disordered (ap is_ascending (sym (h.items_are ∙ ap items_of_parts p.1)) ∙ h.ordered))
  one_verdict (BadAt c) (Whole b ys) (inl h) k = absurd (bad_not_index blocks ring tree marks first c k.parts h k.stored.index)
  one_verdict (BadAt c) (Whole b ys) (inr h) k = absurd (bad_not_stored blocks ring tree marks first c k.parts k.leaves h k.stored)
  one_verdict (BadAt c) (BadAt d) (inl h) (inl k) = ap BadAt (one_bad_index blocks ring tree marks first c d h k)
  one_verdict (BadAt c) (BadAt d) (inl h) (inr k) = absurd (bad_not_index blocks ring tree marks first c k.parts h k.index)
  one_verdict (BadAt c) (BadAt d) (inr h) (inl k) = absurd (bad_not_index blocks ring tree marks first d h.parts k h.index)
  one_verdict (BadAt c) (BadAt d) (inr h) (inr k) = ap BadAt (bad_not_both blocks ring tree marks first c d h k)
  one_verdict (BadAt c) (DisorderAt d) (inl h) k = absurd (bad_not_index blocks ring tree marks first c k.parts h k.stored.index)
  one_verdict (BadAt c) (DisorderAt d) (inr h) k = absurd (bad_not_stored blocks ring tree marks first c k.parts k.leaves h k.stored)
  one_verdict (DisorderAt c) (Whole b ys) h k =
      let p = one_stored blocks ring tree marks first h.parts k.parts h.leaves k.leaves h.stored k.stored in
      absurd (disordered_all h.leaves c h.disordered (ap is_ascending (sym (k.items_are ∙ ap items_of_parts (sym p.1))) ∙ k.ordered))
  one_verdict (DisorderAt c) (BadAt d) h (inl k) = absurd (bad_not_index blocks ring tree marks first d h.parts k h.stored.index)
  one_verdict (DisorderAt c) (BadAt d) h (inr k) = absurd (bad_not_stored blocks ring tree marks first d h.parts h.leaves k h.stored)
  one_verdict (DisorderAt c) (DisorderAt d) h k =
      let p = one_stored blocks ring tree marks first h.parts k.parts h.leaves k.leaves h.stored k.stored in
      ap DisorderAt (one_disorder k.leaves c d (subst (λ w. IsDisordered w c) p.1 h.disordered) k.disordered)

  pub gives_verdict : (r : Result PlainLayer LayerFault) (v : Verdict) → IsSaid blocks ring marks tree first r → IsVerdict blocks ring marks tree first v → GivesVerdict r v
  gives_verdict (Ok layer) v h k = one_verdict v (Whole layer.blocks layer.items) k h
  gives_verdict (Err (faults.BadBlock bad)) v h k = one_verdict v (BadAt bad) k h
  gives_verdict (Err (faults.Order at)) v h k = one_verdict v (DisorderAt at) k h
  gives_verdict (Err faults.Device) v h k = tt
  gives_verdict (Err faults.OutOfMemory) v h k = tt
