-- The pieces of a cut item say what it says, where the newer item does not cover.
use Rattle.std.proofs.Common.{◌≡◌, Bool, true, false, [], ◌∷◌, ◌++◌, Option, Some, None, refl, sym, ◌∙◌, ap, subst, cond, ◌⊎◌, inl, inr}
use Rattle.fx_item.specs.Item.{PlainItem, IsItem, item_of}
use Rattle.fx_item.specs.Place.{Upto, Below, begins, ends}
use Rattle.fx_item.specs.Overlay.{Point, Entry, at, covers, says}
use Rattle.fx_item.specs.Meeting.{IsLeftPart, IsRightPart, Meets, rest_of, piece_list, MeetLaw, SplitLaw}
use Rattle.fx_item.specs.declared.item.Item.{Item}
use Rattle.fx_item.specs.declared.meeting.Meet.{Meet}
use Rattle.fx_item.specs.declared.meeting.Meet.TheVariants as meets
use Rattle.fx_item.proofs.PlaceOrder.{below_then, upto_upto, below_below, below_upto, either}
use Rattle.fx_item.proofs.Between.{not_empty}
use Rattle.fx_item.proofs.Covered.{entry_at, covers_upto, covers_below, lies_covers, before_not, behind_not}

one_says : (x : PlainItem) (p : Point) → covers x.key p ≡ true → says (x ∷ []) p ≡ Some (entry_at x p)
one_says x p h = ap (λ b. cond b (Some (entry_at x p)) (says [] p)) h

one_silent : (x : PlainItem) (p : Point) → covers x.key p ≡ false → says (x ∷ []) p ≡ None
one_silent x p h = ap (λ b. cond b (Some (entry_at x p)) (says [] p)) h

module _ (newer older : PlainItem) (gn : IsItem newer) (p : Point) where
  -- by whether the newer one covers the point
  split_cover : (r : Option (Option Entry)) → (covers newer.key p ≡ true → r ≡ None) → (covers newer.key p ≡ false → r ≡ says (older ∷ []) p) → r ≡ cond (covers newer.key p) None (says (older ∷ []) p)
  split_cover r f g = by_case (covers newer.key p) refl where
    by_case : (b : Bool) → covers newer.key p ≡ b → r ≡ cond (covers newer.key p) None (says (older ∷ []) p)
    by_case true e = f e ∙ sym (ap (λ b. cond b None (says (older ∷ []) p)) e)
    by_case false e = g e ∙ sym (ap (λ b. cond b None (says (older ∷ []) p)) e)

  -- a point that the newer one does not cover lies before or behind it
  beside : covers newer.key p ≡ false → Below (at p) (begins newer.key) ⊎ Upto (ends newer.key) (at p)
  beside h = elim (either (begins newer.key) (at p)) [
    | inr b ↦ inl b
    | inl le ↦ elim (either (ends newer.key) (at p)) [ inl k ↦ inr k | inr b ↦ absurd (let e : true ≡ false = sym (lies_covers newer.key p le b) ∙ h in cc) ]
  ]

  old_silent : Below (at p) (begins older.key) → says (older ∷ []) p ≡ None
  old_silent b = one_silent older p (before_not older.key p b)

  old_past : Upto (ends older.key) (at p) → says (older ∷ []) p ≡ None
  old_past b = one_silent older p (behind_not older.key p b)

  -- the parts before and behind
  left_says : (l : Option Item) → IsLeftPart newer older l → Below (begins newer.key) (ends older.key) → Below (at p) (begins newer.key) → says (piece_list l) p ≡ says (older ∷ []) p
  left_says None h o b = sym (old_silent (below_then b h))
  left_says (Some x) h o b = elim (either (begins older.key) (at p)) [
    | inl le ↦ let c : covers (item_of x).key p ≡ true = lies_covers (item_of x).key p (subst (λ q. Upto q (at p)) (sym h.1.begin) le) (subst (Below (at p)) (sym h.1.end) b) in
        one_says (item_of x) p c ∙ ap Some (h.1.same p c) ∙ sym (one_says older p (lies_covers older.key p le (below_below b o)))
    | inr d ↦ one_silent (item_of x) p (before_not (item_of x).key p (subst (Below (at p)) (sym h.1.begin) d)) ∙ sym (old_silent d)
  ]

  right_says : (r : Option Item) → IsRightPart newer older r → Below (begins older.key) (ends newer.key) → Upto (ends newer.key) (at p) → says (piece_list r) p ≡ says (older ∷ []) p
  right_says None h o b = sym (old_past (upto_upto h b))
  right_says (Some x) h o b = elim (either (ends older.key) (at p)) [
    | inl le ↦ one_silent (item_of x) p (behind_not (item_of x).key p (subst (λ q. Upto q (at p)) (sym h.1.end) le)) ∙ sym (old_past le)
    | inr d ↦ let c : covers (item_of x).key p ≡ true = lies_covers (item_of x).key p (subst (λ q. Upto q (at p)) (sym h.1.begin) b) (subst (Below (at p)) (sym h.1.end) d) in
        one_says (item_of x) p c ∙ ap Some (h.1.same p c) ∙ sym (one_says older p (lies_covers older.key p (upto_upto (below_upto o) b) d))
  ]

  left_silent : (l : Option Item) → IsLeftPart newer older l → Upto (begins newer.key) (at p) → says (piece_list l) p ≡ None
  left_silent None h b = refl
  left_silent (Some x) h b = one_silent (item_of x) p (behind_not (item_of x).key p (subst (λ q. Upto q (at p)) (sym h.1.end) b))

  right_silent : (r : Option Item) → IsRightPart newer older r → Below (at p) (ends newer.key) → says (piece_list r) p ≡ None
  right_silent None h b = refl
  right_silent (Some x) h b = one_silent (item_of x) p (before_not (item_of x).key p (subst (Below (at p)) (sym h.1.begin) b))

  both_says : (l r : Option Item) (o : Option (Option Entry)) → says (piece_list l) p ≡ o → says (piece_list r) p ≡ None → says (piece_list l ++ piece_list r) p ≡ o
  both_says None r o a b = b ∙ a
  both_says (Some x) r o a b = by_case (covers (item_of x).key p) refl where
    by_case : (t : Bool) → covers (item_of x).key p ≡ t → says (item_of x ∷ piece_list r) p ≡ o
    by_case true e = ap (λ t. cond t (Some (entry_at (item_of x) p)) (says (piece_list r) p)) e ∙ sym (one_says (item_of x) p e) ∙ a
    by_case false e = ap (λ t. cond t (Some (entry_at (item_of x) p)) (says (piece_list r) p)) e ∙ b ∙ sym (one_silent (item_of x) p e) ∙ a

  right_alone : (l r : Option Item) (o : Option (Option Entry)) → says (piece_list l) p ≡ None → says (piece_list r) p ≡ o → says (piece_list l ++ piece_list r) p ≡ o
  right_alone None r o a b = b
  right_alone (Some x) r o a b = by_case (covers (item_of x).key p) refl where
    by_case : (t : Bool) → covers (item_of x).key p ≡ t → says (item_of x ∷ piece_list r) p ≡ o
    by_case true e = absurd (let k : None ≡ Some (entry_at (item_of x) p) = sym a ∙ one_says (item_of x) p e in cc)
    by_case false e = ap (λ t. cond t (Some (entry_at (item_of x) p)) (says (piece_list r) p)) e ∙ b

  meets_at : (m : Meet) → Meets newer older m → says (rest_of older m) p ≡ cond (covers newer.key p) None (says (older ∷ []) p)
  meets_at meets.Apart (inl h) = split_cover (says (older ∷ []) p) (λ c. old_silent (below_then (covers_below newer.key p c) h)) (λ c. refl)
  meets_at meets.Apart (inr h) = split_cover (says (older ∷ []) p) (λ c. old_past (upto_upto h (covers_upto newer.key p c))) (λ c. refl)
  meets_at meets.Hidden h = split_cover None (λ c. refl) (λ c. elim (beside c) [ inl b ↦ sym (old_silent (below_then b h.0)) | inr b ↦ sym (old_past (upto_upto h.1 b)) ])
  meets_at (meets.Cut l r) h = split_cover (says (piece_list l ++ piece_list r) p)
      (λ c. both_says l r None (left_silent l h.0 (covers_upto newer.key p c)) (right_silent r h.1 (covers_below newer.key p c)))
      (λ c. elim (beside c) [
        | inl b ↦ both_says l r (says (older ∷ []) p) (left_says l h.0 h.2 b) (right_silent r h.1 (below_below b (not_empty newer.key gn.key)))
        | inr b ↦ right_alone l r (says (older ∷ []) p) (left_silent l h.0 (upto_upto (below_upto (not_empty newer.key gn.key)) b)) (right_says r h.1 h.3 b)
      ])

pub meet_holds : MeetLaw
meet_holds newer older m g h p = meets_at newer older g p m h

-- ---- two answers of one look

pub split_holds : SplitLaw
split_holds m from x y f g p up = (λ b. by_case b (covers y.key p) refl, λ c d. let e : Some (entry_at x p) ≡ Some (entry_at y p) = sym (f.stands p up c) ∙ g.stands p up d in cc) where
  by_case : Below (at p) (begins x.key) → (b : Bool) → covers y.key p ≡ b → covers y.key p ≡ false
  by_case b false e = e
  by_case b true e = absurd (let k : None ≡ Some (entry_at y p) = sym (f.first p up b) ∙ g.stands p up e in cc)
