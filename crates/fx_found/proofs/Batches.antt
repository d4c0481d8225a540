-- The items of a transaction as a batch, and lists whose last element is taken.
use Rattle.std.proofs.Common.{◌≡◌, ℕ, zero, suc, ◌+◌, ◌<◌, true, List, [], ◌∷◌, ◌++◌, length, reverse, refl, sym, ap, subst, ◌∙◌, arith, length-append}
use Rattle.std.specs.Prelude.{All, Some}
use Rattle.std.specs.List.{slice_get}
use Rattle.std.proofs.lemmas.Bool.{and_parts}
use Rattle.std.proofs.lemmas.List.{reverse-append}
use Rattle.std.proofs.lemmas.List.Elements.{All-get_or}
use Rattle.std.proofs.lemmas.Option.{slice_get_within, get_or_from_slice_get}
use Rattle.std.proofs.Math.ListN.{get_or-append}
use Rattle.std.proofs.Math.Seq.{get_or-append_seam}
use Rattle.fx_item.specs.Item.{PlainItem, IsItem, IsNameItem, items_of}
use Rattle.fx_item.specs.Look.{AllApart}
use Rattle.fx_item.specs.Order.{may_follow, is_ascending}
use Rattle.fx_item.specs.declared.item.Item.{Item}
use Rattle.fx_item.proofs.PlaceOrder.{le_upto}
use Rattle.fx_item.proofs.Follow.{follow_holds}
use Rattle.fx_batch.proofs.Rising.{IsRising, rising_apart}
use Rattle.fx_record.specs.Commits.{IsCommit}
use Rattle.fx_record.specs.Txns.{txns_of}
use Rattle.fx_layerset.specs.Levels.{PlainLevel, batch_level}
use Rattle.fx_found.specs.Image.{batch_levels}

rises_at : (xs : List PlainItem) (j : ℕ) (x y : PlainItem) → is_ascending xs ≡ true → slice_get xs j ≡ Some x → slice_get xs (suc j) ≡ Some y → may_follow x.key y.key ≡ true
rises_at [] j x y h e f = absurd (cc)
rises_at (a ∷ []) zero x y h e f = absurd (cc)
rises_at (a ∷ []) (suc j) x y h e f = absurd (cc)
rises_at (a ∷ b ∷ rest) zero x y h e f =
    let p : a ≡ x = cc in
    let q : b ≡ y = cc in
    subst (λ (z : PlainItem). may_follow z.key y.key ≡ true) p (subst (λ (z : PlainItem). may_follow a.key z.key ≡ true) q (and_parts (may_follow a.key b.key) (is_ascending (b ∷ rest)) h).0)
rises_at (a ∷ b ∷ rest) (suc j) x y h e f = rises_at (b ∷ rest) j x y (and_parts (may_follow a.key b.key) (is_ascending (b ∷ rest)) h).1 e f

pub commit_apart : (xs : List PlainItem) → IsCommit xs → AllApart xs
commit_apart xs h = rising_apart xs good chain where
  good : (i : ℕ) (x : PlainItem) → slice_get xs i ≡ Some x → IsItem x
  good i x e = (subst IsNameItem (get_or_from_slice_get xs i x x e) (All-get_or IsNameItem xs i x (slice_get_within xs i x e) h.are_items.each)).item

  chain : IsRising xs (length xs)
  chain j x y m e f =
      let follows = rises_at xs j x y h.are_items.ascending e (ap (slice_get xs) (let n : suc j ≡ j + 1 = omega arith in n) ∙ f) in
      le_upto (sym (follow_holds x.key y.key (good j x e).key (good (j + 1) y f).key) ∙ follows)

-- ---- the last of a list of transactions

abbrev Txn : Type 0
Txn = ℕ × List Item

abbrev IsGood : ℕ × List PlainItem → Type 0
IsGood t = IsCommit t.1

txns_last : (xs : List Txn) (t : Txn) → txns_of (xs ++ t ∷ []) ≡ txns_of xs ++ (t.0, items_of t.1) ∷ []
txns_last [] t = refl
txns_last (x ∷ xs) t = ap (λ (w : List (ℕ × List PlainItem)). (x.0, items_of x.1) ∷ w) (txns_last xs t)

module _ (all xs : List Txn) (t : Txn) (is : all ≡ xs ++ t ∷ []) (good : All IsGood (txns_of all)) where
  whole : All IsGood (txns_of xs ++ (t.0, items_of t.1) ∷ [])
  whole = subst (All IsGood) (ap txns_of is ∙ txns_last xs t) good

  pub last_good : IsCommit (items_of t.1)
  last_good =
      let k : ℕ = length (txns_of xs) in
      let lt : k < length (txns_of xs ++ (t.0, items_of t.1) ∷ []) = omega (arith, length-append (txns_of xs) ((t.0, items_of t.1) ∷ [])) in
      subst IsGood (get_or-append_seam (txns_of xs) (t.0, items_of t.1) [] (t.0, items_of t.1)) (whole k (t.0, items_of t.1) lt)

  pub front_good : All IsGood (txns_of xs)
  front_good k d lt = subst IsGood (get_or-append (txns_of xs) ((t.0, items_of t.1) ∷ []) d k lt) (whole k d (omega (arith, lt, length-append (txns_of xs) ((t.0, items_of t.1) ∷ []))))

  joined : (bs : List PlainLevel) (b : PlainLevel) (rest : List PlainLevel) → (bs ++ b ∷ []) ++ rest ≡ bs ++ b ∷ rest
  joined [] b rest = refl
  joined (c ∷ bs) b rest = ap (λ (w : List PlainLevel). c ∷ w) (joined bs b rest)

  pub batch_moved : (old now : List PlainLevel) (target : List PlainLevel) → now ≡ old ++ batch_level (items_of t.1) ∷ [] → old ++ batch_levels (txns_of (reverse all)) ≡ target → now ++ batch_levels (txns_of (reverse xs)) ≡ target
  batch_moved old now target e h =
      ap (λ (w : List PlainLevel). w ++ batch_levels (txns_of (reverse xs))) e
      ∙ joined old (batch_level (items_of t.1)) (batch_levels (txns_of (reverse xs)))
      ∙ ap (λ (w : List Txn). old ++ batch_levels (txns_of w)) (sym (reverse-append xs (t ∷ [])) ∙ ap reverse (sym is))
      ∙ h
