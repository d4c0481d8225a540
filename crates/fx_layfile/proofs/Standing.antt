-- A layer that was written stands, whatever else the disk holds.
use Rattle.std.proofs.Common.{◌≡◌, ℕ, zero, suc, ◌+◌, ◌≤◌, Bool, true, false, List, [], ◌∷◌, ◌++◌, length, refl, sym, ap, subst, ◌∙◌, cond, arith, append-nil}
use Rattle.std.specs.Prelude.{All, count_by, ◌==◌}
use Rattle.std.proofs.Math.ListN.{length-set}
use Rattle.std.proofs.lemmas.Bool.{eqb-false, eq-eqb}
use Rattle.std.proofs.lemmas.List.{get_or-set_other, length-map, take_at, drop_at, nil_from_length}
use Rattle.std.proofs.lemmas.List.Sums.{sum_by-cons, sum_by-append}
use Rattle.std.proofs.lemmas.List.Elements.{All-nil, All-cons, All-head, All-tail, All-take, All-drop}
use Rattle.fx_item.specs.Item.{PlainItem}
use Rattle.fx_layfile.specs.Layer.{IsUnmarked, AreUnmarked, mark_block, mark_blocks, IndexPart, DataPart, index_places, names_of_parts, data_places, items_of_parts}
use Rattle.fx_layfile.specs.Writing.{WriterState, one_if_some, index_count, blocks_left, places_given, last_index_first, WrittenLaw}
use Rattle.fx_layfile.proofs.Written.{one_is}

abbrev times : ℕ → List ℕ → ℕ
times b places = count_by (λ place. place == b) places

abbrev is_place : ℕ → ℕ → ℕ
is_place b place = cond (place == b) 1 0

times_more : (b x : ℕ) (xs : List ℕ) → times b (x ∷ xs) ≡ is_place b x + times b xs
times_more b x xs = sum_by-cons (is_place b) x xs

times_both : (b : ℕ) (xs ys : List ℕ) → times b (xs ++ ys) ≡ times b xs + times b ys
times_both b xs ys = sum_by-append (is_place b) xs ys

times_backwards : (b : ℕ) (parts : List IndexPart) → times b (last_index_first parts) ≡ times b (index_places parts)
times_backwards b [] = refl
times_backwards b (p ∷ parts) =
    let ih = times_backwards b parts in
    let e = times_both b (last_index_first parts) (p.at ∷ []) in
    let f = times_more b p.at [] in
    let g = times_more b p.at (index_places parts) in
    let z : times b [] ≡ 0 = refl in
    omega (arith, ih, e, f, g, z)

module _ (P : ℕ → Type 0) where
  front : (xs ys : List ℕ) → All P (xs ++ ys) → All P xs
  front xs ys h = subst (All P) (take_at xs ys (length xs) refl) (All-take P (length xs) (xs ++ ys) h)

  back : (xs ys : List ℕ) → All P (xs ++ ys) → All P ys
  back xs ys h = subst (All P) (drop_at xs ys (length xs) refl) (All-drop P (length xs) (xs ++ ys) h)

  forwards : (parts : List IndexPart) → All P (last_index_first parts) → All P (index_places parts)
  forwards [] h = All-nil P
  forwards (p ∷ parts) h = All-cons P p.at (index_places parts) (All-head P p.at [] (back (last_index_first parts) (p.at ∷ []) h)) (forwards parts (front (last_index_first parts) (p.at ∷ []) h))

  both : (xs ys : List ℕ) → All P xs → All P ys → All P (xs ++ ys)
  both [] ys h k = k
  both (x ∷ xs) ys h k = All-cons P x (xs ++ ys) (All-head P x xs h) (both xs ys (All-tail P x xs h) k)

-- a mark leaves the others as they were
others : (ring x : ℕ) (marks : List Bool) (ys : List ℕ) → times x ys ≡ 0 → All (IsUnmarked ring marks) ys → All (IsUnmarked ring (mark_block marks x)) ys
others ring x marks [] e h = All-nil (IsUnmarked ring (mark_block marks x))
others ring x marks (y ∷ ys) e h =
    let u = All-head (IsUnmarked ring marks) y ys h in
    let m = times_more x y ys in
    let rest : times x ys ≡ 0 = omega (arith, e, m) in
    let here : is_place x y ≡ 0 = omega (arith, e, m) in
    All-cons (IsUnmarked ring (mark_block marks x)) y ys (marked u (apart (y == x) refl here)) (others ring x marks ys rest (All-tail (IsUnmarked ring marks) y ys h))
  where
    apart : (b : Bool) → (y == x) ≡ b → is_place x y ≡ 0 → y ≡ x → ⊥
    apart true e z f = let w : is_place x y ≡ 1 = ap (λ (b : Bool). cond b 1 0) e in omega (arith, w, z)
    apart false e z f = eqb-false y x e f

    marked : IsUnmarked ring marks y → (y ≡ x → ⊥) → IsUnmarked ring (mark_block marks x) y
    marked u ne = record {
      after_ring = u.after_ring;
      on_disk = omega (arith, u.on_disk, length-set marks x true);
      free = get_or-set_other marks x y true false ne ∙ u.free;
    }

apart_unmarked : (ring : ℕ) (marks : List Bool) (xs : List ℕ) → All (IsUnmarked ring marks) xs → ((b : ℕ) → times b xs ≤ 1) → AreUnmarked ring marks xs
apart_unmarked ring marks [] h once = tt
apart_unmarked ring marks (x ∷ xs) h once =
    let itself : is_place x x ≡ 1 = ap (λ (b : Bool). cond b 1 0) (eq-eqb x x refl) in
    let m = times_more x x xs in
    let o = once x in
    let none : times x xs ≡ 0 = omega (arith, itself, m, o) in (
      All-head (IsUnmarked ring marks) x xs h,
      apart_unmarked ring (mark_block marks x) xs (others ring x marks xs none (All-tail (IsUnmarked ring marks) x xs h)) (λ b. let n = times_more b x xs in let p = once b in omega (arith, n, p)),
    )

split_unmarked : (ring : ℕ) (marks : List Bool) (a b : List ℕ) → AreUnmarked ring marks (a ++ b) → AreUnmarked ring marks a × AreUnmarked ring (mark_blocks marks a) b
split_unmarked ring marks [] b h = (tt, h)
split_unmarked ring marks (x ∷ a) b h = let r = split_unmarked ring (mark_block marks x) a b h.1 in ((h.0, r.0), r.1)

none_left : (s : WriterState) → blocks_left s ≡ 0 → (s.count ≡ 0) × (length s.waiting ≡ 0)
none_left s e = by_count s.count refl where
  by_count : (n : ℕ) → s.count ≡ n → (s.count ≡ 0) × (length s.waiting ≡ 0)
  by_count zero f =
      let z : blocks_left s ≡ 0 + index_count (length s.waiting + 0) = ap (λ (n : ℕ). one_if_some n + index_count (length s.waiting + one_if_some n)) f in
      (f, omega (arith, e, z))
  by_count (suc n) f =
      let z : blocks_left s ≡ one_if_some (suc n) + index_count (length s.waiting + one_if_some (suc n)) = ap (λ (n : ℕ). one_if_some n + index_count (length s.waiting + one_if_some n)) f in
      absurd (let w : one_if_some (suc n) ≡ 1 = one_is (suc n) (omega arith) in omega (arith, e, z, w))

some_part : (parts : List IndexPart) → 1 ≤ length (names_of_parts parts) → 1 ≤ length parts
some_part [] h = omega arith
some_part (p ∷ parts) h = omega arith

some_leaf : (leaves : List DataPart) → 1 ≤ length (items_of_parts leaves) → 1 ≤ length leaves
some_leaf [] h = omega arith
some_leaf (l ∷ leaves) h = omega arith

pub written_holds : WrittenLaw
written_holds s items given bytes ring marks h left some up holds apart =
    let done = none_left s left in
    let waiting : s.waiting ≡ [] = nil_from_length s.waiting done.1 in
    let pending : h.pending ≡ [] = nil_from_length h.pending (sym h.count_is ∙ done.0) in
    let all : items ≡ items_of_parts h.leaves = h.items_are ∙ ap (λ (w : List PlainItem). items_of_parts h.leaves ++ w) pending ∙ append-nil (items_of_parts h.leaves) in
    let named : data_places h.leaves ≡ names_of_parts h.parts = h.named ∙ ap (λ (w : List ℕ). w ++ names_of_parts h.parts) waiting in
    let leaf = some_leaf h.leaves (let n = ap length all in omega arith) in
    let part = some_part h.parts (let n = ap length named in omega (arith, length-map h.leaves (λ (l : DataPart). l.at))) in
    let each = subst (All (IsUnmarked ring marks)) h.order apart.each in
    let places = index_places h.parts ++ data_places h.leaves in
    let each_place : All (IsUnmarked ring marks) places = both (IsUnmarked ring marks) (index_places h.parts) (data_places h.leaves) (forwards (IsUnmarked ring marks) h.parts (back (IsUnmarked ring marks) (data_places h.leaves) (last_index_first h.parts) each)) (front (IsUnmarked ring marks) (data_places h.leaves) (last_index_first h.parts) each) in
    let once : (b : ℕ) → times b places ≤ 1 = λ b.
    let o : times b (places_given given) ≤ 1 = apart.once b in
    let e : times b (places_given given) ≡ times b (data_places h.leaves ++ last_index_first h.parts) = ap (times b) h.order in
    omega (arith, o, e, times_both b (data_places h.leaves) (last_index_first h.parts), times_both b (index_places h.parts) (data_places h.leaves), times_backwards b h.parts) in
    let free = split_unmarked ring marks (index_places h.parts) (data_places h.leaves) (apart_unmarked ring marks places each_place once) in
    let stands = h.stands bytes holds in (
      h.parts,
      h.leaves,
      h.order,
      record {
        parts = h.parts;
        leaves = h.leaves;
        stored = record {
          index = record { begins = h.next_is; some = part; chain = stands.0; unmarked = free.0 };
          named = sym named;
          leaves_are = stands.1;
          unmarked = free.1;
        };
        places_are = refl;
        items_are = all;
        ordered = up;
      },
    )
