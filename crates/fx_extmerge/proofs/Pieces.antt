-- What a cut of an item keeps.
use Rattle.std.proofs.Common.{◌≡◌, ℕ, List, ◌+◌, ◌-◌, ◌<◌, ◌≤◌, ◌^◌, true, false, refl, sym, ◌∙◌, ap, subst, arith, length, length-take, length-drop, take, drop, get_or, Some, ◌&&◌}
use Rattle.std.specs.Prelude.{nat_le, nat_lt, ◌==◌}
use Rattle.std.proofs.lemmas.Bool.{and_parts, leb-true, ltb-true}
use Rattle.std.proofs.lemmas.List.{get_or-take, get_or-drop}
use Rattle.std.proofs.lemmas.List.Elements.{All-drop, All-take}
use Rattle.fx_item.specs.Item.{PlainKey, ObjectKey, AttributeKey, ExtentKey, ChildKey, GraveKey, AllocationKey, PlainItem, IsItem, Suits}
use Rattle.fx_item.specs.Item.{PlainValue, GoneValue, DirectoryValue, FileValue, AttributeValue, ChildValue, WaitingValue, ExtentValue, TakenValue}
use Rattle.fx_item.specs.Place.{Place, Below, begins, ends, file_place, device_place}
use Rattle.fx_item.specs.Overlay.{Point, AtKey, AtFileBlock, AtDeviceBlock, BlockEntry, covers, entry_in}
use Rattle.fx_item.specs.Meeting.{cut_item, cut_value, IsPart, IsPiece}
use Rattle.fx_item.proofs.Between.{Inside, inside}

-- the n-th place of a range
abbrev place_in : PlainKey → ℕ → Place
place_in (ExtentKey s i start stop) n = file_place s i n
place_in (AllocationKey start stop) n = device_place n
place_in key n = begins key

-- ---- a part of a value says of a point in it what the value says

module _ (s i a b from to : ℕ) (low : a ≤ from) where
  same_block : (block n : ℕ) (sums : List ℕ) → from ≤ n → n < to
      → entry_in (ExtentKey s i from to) (cut_value (ExtentValue block sums) (from - a) (to - from)) (AtFileBlock s i n) ≡ entry_in (ExtentKey s i a b) (ExtentValue block sums) (AtFileBlock s i n)
  same_block block n sums h l =
      let e : block + (from - a) + (n - from) ≡ block + (n - a) = omega arith in
      let k : (from - a) + (n - from) ≡ n - a = omega arith in
      let f : get_or (take (to - from) (drop (from - a) sums)) (n - from) 0 ≡ get_or sums (n - a) 0 =
      get_or-take (to - from) (drop (from - a) sums) (n - from) 0 (omega arith) ∙ get_or-drop (from - a) sums (n - from) 0 ∙ ap (λ j. get_or sums j 0) k in
      ap (λ x. Some (BlockEntry x (get_or (take (to - from) (drop (from - a) sums)) (n - from) 0))) e ∙ ap (λ x. Some (BlockEntry (block + (n - a)) x)) f

  same_extent : (v : PlainValue) (p : Point) → covers (ExtentKey s i from to) p ≡ true → entry_in (ExtentKey s i from to) (cut_value v (from - a) (to - from)) p ≡ entry_in (ExtentKey s i a b) v p
  same_extent GoneValue p c = refl
  same_extent DirectoryValue p c = refl
  same_extent (FileValue len) p c = refl
  same_extent (AttributeValue text) p c = refl
  same_extent (ChildValue store id) p c = refl
  same_extent WaitingValue p c = refl
  same_extent TakenValue p c = refl
  same_extent (ExtentValue block sums) (AtKey key) c = absurd (cc c)
  same_extent (ExtentValue block sums) (AtDeviceBlock n) c = absurd (cc c)
  same_extent (ExtentValue block sums) (AtFileBlock t j n) c =
      let q = and_parts ((s == t) && (i == j) && nat_le from n) (nat_lt n to) c in
      let r = and_parts ((s == t) && (i == j)) (nat_le from n) q.0 in
      same_block block n sums (leb-true from n r.1) (ltb-true n to q.1)

same_device : (a b from to : ℕ) (v : PlainValue) (p : Point) → Suits (AllocationKey a b) v → entry_in (AllocationKey from to) (cut_value v (from - a) (to - from)) p ≡ entry_in (AllocationKey a b) v p
same_device a b from to GoneValue p h = refl
same_device a b from to DirectoryValue p h = refl
same_device a b from to (FileValue len) p h = refl
same_device a b from to (AttributeValue text) p h = refl
same_device a b from to (ChildValue store id) p h = refl
same_device a b from to WaitingValue p h = refl
same_device a b from to (ExtentValue block sums) p h = absurd h
same_device a b from to TakenValue p h = refl

-- ---- and suits the key of the part

suits_extent : (s i a b : ℕ) (v : PlainValue) (from to : ℕ) → Suits (ExtentKey s i a b) v → a ≤ from → from < to → to ≤ b → Suits (ExtentKey s i from to) (cut_value v (from - a) (to - from))
suits_extent s i a b (ExtentValue block sums) from to h p q r =
    let count : length sums + a ≡ b = h.count in
    let kept : length (take (to - from) (drop (from - a) sums)) ≡ to - from = simp (length-take, length-drop) (omega arith) in
    record {
      count = omega arith;
      most = let m = h.most in omega arith;
      inside = let m = h.inside in omega arith;
      wide = All-take (λ x. x < 2 ^ 64) (to - from) (drop (from - a) sums) (All-drop (λ x. x < 2 ^ 64) (from - a) sums h.wide);
    }
suits_extent s i a b GoneValue from to h p q r = tt
suits_extent s i a b DirectoryValue from to h p q r = absurd h
suits_extent s i a b (FileValue len) from to h p q r = absurd h
suits_extent s i a b (AttributeValue text) from to h p q r = absurd h
suits_extent s i a b (ChildValue store id) from to h p q r = absurd h
suits_extent s i a b WaitingValue from to h p q r = absurd h
suits_extent s i a b TakenValue from to h p q r = absurd h

suits_device : (a b : ℕ) (v : PlainValue) (from to : ℕ) → Suits (AllocationKey a b) v → Suits (AllocationKey from to) (cut_value v (from - a) (to - from))
suits_device a b (ExtentValue block sums) from to h = absurd h
suits_device a b GoneValue from to h = tt
suits_device a b DirectoryValue from to h = absurd h
suits_device a b (FileValue len) from to h = absurd h
suits_device a b (AttributeValue text) from to h = absurd h
suits_device a b (ChildValue store id) from to h = absurd h
suits_device a b WaitingValue from to h = absurd h
suits_device a b TakenValue from to h = tt

pub cut_piece : (key : PlainKey) (v : PlainValue) (from to : ℕ) → IsItem (record { key = key; value = v }) → IsPart key from to
    → IsPiece (record { key = key; value = v }) (cut_item (record { key = key; value = v }) from to) (place_in key from) (place_in key to)
cut_piece (ExtentKey s i a b) v from to g part = record {
  good = record {
    key = (g.key.0, g.key.1, (part.1, let r = g.key.2.1 in let q : to ≤ b = part.2 in omega arith));
    value = suits_extent s i a b v from to g.value part.0 part.1 part.2;
  };
  begin = refl;
  end = refl;
  same = λ p c. same_extent s i a b from to part.0 v p c;
}
cut_piece (AllocationKey a b) v from to g part = record {
  good = record { key = (part.1, let r = g.key.1 in let q : to ≤ b = part.2 in omega arith); value = suits_device a b v from to g.value };
  begin = refl;
  end = refl;
  same = λ p c. same_device a b from to v p g.value;
}
cut_piece (ObjectKey s i) v from to g part = absurd part
cut_piece (AttributeKey s i name) v from to g part = absurd part
cut_piece (ChildKey s i name) v from to g part = absurd part
cut_piece (GraveKey s i) v from to g part = absurd part

-- the two parts of a range at a place inside it
record Parted (key : PlainKey) (q : Place) : Type 0 where
  begin : place_in key (begins key).number ≡ begins key
  end : place_in key (ends key).number ≡ ends key
  here : place_in key q.number ≡ q
  before : IsPart key (begins key).number q.number
  behind : IsPart key q.number (ends key).number

parted : (key : PlainKey) (q : Place) → Inside key q → Parted key q
parted (ExtentKey s i a b) q h = record { begin = refl; end = refl; here = sym h.0; before = (omega arith, h.1, let l : q.number < b = h.2 in omega arith); behind = (let l : a < q.number = h.1 in omega arith, h.2, omega arith) }
parted (AllocationKey a b) q h = record { begin = refl; end = refl; here = sym h.0; before = (omega arith, h.1, let l : q.number < b = h.2 in omega arith); behind = (let l : a < q.number = h.1 in omega arith, h.2, omega arith) }
parted (ObjectKey s i) q h = absurd h
parted (AttributeKey s i name) q h = absurd h
parted (ChildKey s i name) q h = absurd h
parted (GraveKey s i) q h = absurd h

-- a cut, and that it is the piece that is wanted
pub record IsCut (x : PlainItem) (from to : Place) : Type 0 where
  pub part : IsPart x.key from.number to.number
  pub piece : IsPiece x (cut_item x from.number to.number) from to

module _ (newer older : PlainItem) (g : IsItem older) where
  pub left_cut : Below (begins older.key) (begins newer.key) → Below (begins newer.key) (ends older.key) → IsCut older (begins older.key) (begins newer.key)
  left_cut h l =
      let q : Place = begins newer.key in
      let w : Parted older.key q = parted older.key q (inside older.key false newer.key h l) in
      let c = cut_piece older.key older.value (begins older.key).number q.number g w.before in
      record {
        part = w.before;
        piece = subst (λ e. IsPiece older (cut_item older (begins older.key).number q.number) e q) w.begin
            (subst (λ e. IsPiece older (cut_item older (begins older.key).number q.number) (place_in older.key (begins older.key).number) e) w.here c);
      }

  pub right_cut : Below (begins older.key) (ends newer.key) → Below (ends newer.key) (ends older.key) → IsCut older (ends newer.key) (ends older.key)
  right_cut h l =
      let q : Place = ends newer.key in
      let w : Parted older.key q = parted older.key q (inside older.key true newer.key h l) in
      let c = cut_piece older.key older.value q.number (ends older.key).number g w.behind in
      record {
        part = w.behind;
        piece = subst (λ e. IsPiece older (cut_item older q.number (ends older.key).number) q e) w.end
            (subst (λ e. IsPiece older (cut_item older q.number (ends older.key).number) e (place_in older.key (ends older.key).number)) w.here c);
      }

  pub left_piece : (x : PlainItem) (from to : ℕ) → Below (begins older.key) (begins newer.key) → Below (begins newer.key) (ends older.key)
      → x ≡ cut_item older from to → from ≡ (begins older.key).number → to ≡ (begins newer.key).number → Below (begins older.key) (begins newer.key) × IsPiece older x (begins older.key) (begins newer.key)
  left_piece x from to h l e f t = (h, subst (λ y. IsPiece older y (begins older.key) (begins newer.key)) (sym (e ∙ ap (λ n. cut_item older n to) f ∙ ap (cut_item older (begins older.key).number) t)) (left_cut h l).piece)

  pub right_piece : (x : PlainItem) (from to : ℕ) → Below (begins older.key) (ends newer.key) → Below (ends newer.key) (ends older.key)
      → x ≡ cut_item older from to → from ≡ (ends newer.key).number → to ≡ (ends older.key).number → Below (ends newer.key) (ends older.key) × IsPiece older x (ends newer.key) (ends older.key)
  right_piece x from to h l e f t = (l, subst (λ y. IsPiece older y (ends newer.key) (ends older.key)) (sym (e ∙ ap (λ n. cut_item older n to) f ∙ ap (cut_item older (ends newer.key).number) t)) (right_cut h l).piece)
