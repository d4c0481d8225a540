-- What stands first, where tombstones are passed over.
use Rattle.std.proofs.Common.{◌≡◌, Bool, true, false, Option, Some, None, refl, sym, ◌∙◌, ap, subst, ◌⊎◌, inl, inr}
use Rattle.std.specs.Prelude.{option_map}
use Rattle.fx_item.specs.Item.{PlainKey, PlainItem, PlainValue, GoneValue, DirectoryValue, FileValue, AttributeValue, ChildValue, WaitingValue, ExtentValue, TakenValue, item_of, value_of}
use Rattle.fx_item.specs.Place.{Upto, Below, begins, ends}
use Rattle.fx_item.specs.Overlay.{Point, Said, at, covers, entry_in, live_in, standing}
use Rattle.fx_item.specs.Look.{IsFirstFrom, FindsFrom, IsFirstLive, FindsLive, MayFail, is_gone}
use Rattle.fx_item.specs.declared.item.Item.{Item}
use Rattle.fx_item.specs.declared.look.LookFault.{LookFault}
use Rattle.fx_merge.specs.Cursor.{says_all}
use Rattle.fx_merge.specs.Merge.{MergeState, IsOnward, after_item}
use Rattle.fx_merge.specs.Run.{HasMoved, HasPassed, IsAtEnd, IsBehind}
use Rattle.fx_item.proofs.PlaceOrder.{not_both, upto_then, upto_upto, below_upto, upto_itself, either}
use Rattle.fx_item.proofs.Covered.{entry_at, lies_covers, covers_upto}

abbrev said_in : MergeState → Said
said_in s = says_all s.levels

-- from the old place to the one now nothing stands
pub record Skipped (old s : MergeState) : Type 0 where
  pub levels : s.levels ≡ old.levels
  pub lacks : s.lacks ≡ old.lacks
  pub clear : (p : Point) → Upto old.place (at p) → Below (at p) s.place → live_in (said_in old) p ≡ None
  pub begun : (s.place ≡ old.place) ⊎ (s.started ≡ true)
  pub upto : Upto old.place s.place

pub skipped_none : (s : MergeState) → Skipped s s
skipped_none s = record { levels = refl; lacks = refl; clear = λ p u b. absurd (not_both b u); begun = inl refl; upto = upto_itself s.place }

gone_says : (k : PlainKey) (v : PlainValue) (p : Point) → is_gone v ≡ true → entry_in k v p ≡ None
gone_says k GoneValue p h = refl
gone_says k DirectoryValue p h = absurd (cc h)
gone_says k (FileValue len) p h = absurd (cc h)
gone_says k (AttributeValue text) p h = absurd (cc h)
gone_says k (ChildValue s i) p h = absurd (cc h)
gone_says k WaitingValue p h = absurd (cc h)
gone_says k (ExtentValue b sums) p h = absurd (cc h)
gone_says k TakenValue p h = absurd (cc h)

module _ (old s : MergeState) (w : Skipped old s) where
  -- what the merge finds is of the same overlay
  same_finds : (x : Option PlainItem) → FindsFrom (says_all s.levels) s.place x → FindsFrom (said_in old) s.place x
  same_finds x = subst (λ ls. FindsFrom (says_all ls) s.place x) w.levels

  pub live_fault : (e : LookFault) → MayFail s.lacks e → MayFail old.lacks e
  live_fault e = subst (λ b. MayFail b e) w.lacks

  pub live_none : FindsFrom (says_all s.levels) s.place None → FindsLive (said_in old) old.place None
  live_none f p up = elim (either s.place (at p)) [
    | inl le ↦ ap standing (same_finds None f p le)
    | inr b ↦ w.clear p up b
  ]

  module _ (x : PlainItem) (f : FindsFrom (says_all s.levels) s.place (Some x)) (go : IsOnward s (Some x)) where
    found : IsFirstFrom (said_in old) s.place x
    found = same_finds (Some x) f

    -- a point of the item, or before it, from the old place on
    here : (p : Point) → Upto old.place (at p) → Upto (begins x.key) (at p) → Upto s.place (at p)
    here p up le = elim w.begun [
      | inl e ↦ subst (λ q. Upto q (at p)) (sym e) up
      | inr e ↦ upto_upto (go e) le
    ]

    nothing_before : (p : Point) → Upto old.place (at p) → Below (at p) (begins x.key) → live_in (said_in old) p ≡ None
    nothing_before p up b = elim (either s.place (at p)) [
      | inl le ↦ ap standing (found.first p le b)
      | inr c ↦ w.clear p up c
    ]

    at_item : (p : Point) → Upto old.place (at p) → covers x.key p ≡ true → live_in (said_in old) p ≡ entry_at x p
    at_item p up c = ap standing (found.stands p (here p up (covers_upto x.key p c)) c)

    pub live_some : is_gone x.value ≡ false → IsFirstLive (said_in old) old.place x
    live_some g = record { good = found.good; alive = g; reaches = upto_then w.upto found.reaches; stands = at_item; first = nothing_before }

    pub skipped_more : (new : MergeState) → is_gone x.value ≡ true → new.levels ≡ s.levels → new.lacks ≡ s.lacks → new.place ≡ ends x.key → new.started ≡ true → Skipped old new
    skipped_more new g l k e b = record {
      levels = l ∙ w.levels;
      lacks = k ∙ w.lacks;
      clear = λ p up c. elim (either (begins x.key) (at p)) [
        | inl le ↦ at_item p up (lies_covers x.key p le (subst (λ q. Below (at p) q) e c)) ∙ gone_says x.key x.value p g
        | inr d ↦ nothing_before p up d
      ];
      begun = inr b;
      upto = subst (Upto old.place) (sym e) (upto_upto w.upto (below_upto found.reaches));
    }

-- ---- what a round of the loop gives

pub loop_none : (old s : MergeState) → Skipped old s → (got : Option Item) → FindsFrom (says_all s.levels) s.place (option_map item_of got) → got ≡ None → FindsLive (said_in old) old.place None
loop_none old s w got f e = live_none old s w (subst (λ o. FindsFrom (says_all s.levels) s.place (option_map item_of o)) e f)

module _ (old s : MergeState) (w : Skipped old s) (got : Option Item) (f : FindsFrom (says_all s.levels) s.place (option_map item_of got)) (go : IsOnward s (option_map item_of got))
    (item : Item) (e : got ≡ Some item) (t : Bool) (test : t ≡ is_gone (value_of item.value)) where
  f_item : FindsFrom (says_all s.levels) s.place (Some (item_of item))
  f_item = subst (λ o. FindsFrom (says_all s.levels) s.place (option_map item_of o)) e f

  go_item : IsOnward s (Some (item_of item))
  go_item = subst (λ o. IsOnward s (option_map item_of o)) e go

  pub loop_live : t ≡ false → IsFirstLive (said_in old) old.place (item_of item)
  loop_live k = live_some old s w (item_of item) f_item go_item (sym test ∙ k)

  pub loop_more : (new : MergeState) → t ≡ true → new ≡ after_item s (option_map item_of got) → Skipped old new
  loop_more new k n =
      let m : new ≡ after_item s (Some (item_of item)) = n ∙ ap (λ o. after_item s (option_map item_of o)) e in
      skipped_more old s w (item_of item) f_item go_item new (sym test ∙ k) (ap (λ x. x.levels) m) (ap (λ x. x.lacks) m) (ap (λ x. x.place) m) (ap (λ x. x.started) m)

-- ---- where the merge is afterwards

module _ (old s : MergeState) (w : Skipped old s) where
  skipped_moved : HasMoved old s
  skipped_moved = record { levels = w.levels; lacks = w.lacks; upto = w.upto }

  pub passed_fault : (new : MergeState) → new ≡ s → HasPassed old new
  passed_fault new e = subst (HasPassed old) (sym e) (record { moved = skipped_moved; clear = w.clear })

  module _ (got : Option Item) (new : MergeState) (n : new ≡ after_item s (option_map item_of got)) where
    pub passed_end : FindsFrom (says_all s.levels) s.place (option_map item_of got) → got ≡ None → IsAtEnd old new
    passed_end f e =
        subst (IsAtEnd old) (sym (n ∙ ap (λ o. after_item s (option_map item_of o)) e))
        (record { moved = skipped_moved; rest = subst (λ o. FindsFrom (says_all s.levels) s.place (option_map item_of o)) e f })

    pub passed_item : (item : Item) → got ≡ Some item → new ≡ after_item old (Some (item_of item))
    passed_item item e = n ∙ ap (λ o. after_item s (option_map item_of o)) e ∙ (λ i. after_item (record s { levels = w.levels i; lacks = w.lacks i }) (Some (item_of item))) ∙ refl
