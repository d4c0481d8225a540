-- All items of a merge together say what its levels say.
use Rattle.std.proofs.Common.{◌≡◌, ℕ, suc, ◌<◌, Bool, true, false, List, [], ◌∷◌, ◌++◌, length, map, Option, Some, None, refl, sym, ◌∙◌, ap, subst, cond, arith, ◌⊎◌, inl, inr}
use Rattle.std.specs.Prelude.{option_map}
use Rattle.std.specs.List.{slice_get}
use Rattle.std.proofs.lemmas.List.{map-append}
use Rattle.std.proofs.lemmas.Option.{slice_get_within}
use Rattle.fx_base.proofs.Lists.{got_split}
use Rattle.fx_item.specs.Item.{PlainItem, IsItem, item_of}
use Rattle.fx_item.specs.Place.{Upto, Below, begins, ends}
use Rattle.fx_item.specs.Overlay.{Point, Entry, Said, at, covers, says, or_older}
use Rattle.fx_item.specs.Look.{IsFirstFrom, FindsFrom, MayFail, AllApart, SayFrom}
use Rattle.fx_item.specs.declared.item.Item.{Item}
use Rattle.fx_item.specs.declared.look.LookFault.{LookFault}
use Rattle.fx_merge.specs.Cursor.{says_all}
use Rattle.fx_merge.specs.Merge.{MergeState, IsOnward, after_item}
use Rattle.fx_merge.specs.Run.{IsMerged, HasMoved, IsAtEnd}
use Rattle.fx_item.proofs.PlaceOrder.{not_both, below_then, upto_upto, below_upto, upto_itself, either}
use Rattle.fx_item.proofs.Covered.{entry_at, lies_covers, before_not, behind_not}

or_none : (o : Option (Option Entry)) → or_older o None ≡ o
or_none (Some e) = refl
or_none None = refl

says_none : (xs : List PlainItem) (p : Point) → ((i : ℕ) (x : PlainItem) → slice_get xs i ≡ Some x → covers x.key p ≡ false) → says xs p ≡ None
says_none [] p h = refl
says_none (x ∷ xs) p h = ap (λ b. cond b (Some (entry_at x p)) (says xs p)) (h 0 x refl) ∙ says_none xs p (λ i y e. h (suc i) y e)

abbrev said_in : MergeState → Said
said_in s = says_all s.levels

pub record Drained (old s : MergeState) (xs : List PlainItem) : Type 0 where
  pub levels : s.levels ≡ old.levels
  pub lacks : s.lacks ≡ old.lacks
  pub apart : AllApart xs
  pub done : (i : ℕ) (x : PlainItem) → slice_get xs i ≡ Some x → Upto (ends x.key) s.place
  pub same : (p : Point) → Upto old.place (at p) → Below (at p) s.place → says xs p ≡ said_in old p
  pub begun : ((s.place ≡ old.place) × (xs ≡ [])) ⊎ (s.started ≡ true)
  pub upto : Upto old.place s.place

says_append : (xs ys : List PlainItem) (p : Point) → says (xs ++ ys) p ≡ or_older (says xs p) (says ys p)
says_append [] ys p = refl
says_append (x ∷ xs) ys p = by_case (says_append xs ys p) (covers x.key p) refl where
  by_case : says (xs ++ ys) p ≡ or_older (says xs p) (says ys p) → (b : Bool) → covers x.key p ≡ b → says (x ∷ xs ++ ys) p ≡ or_older (says (x ∷ xs) p) (says ys p)
  by_case h true e = ap (λ b. cond b (Some (entry_at x p)) (says (xs ++ ys) p)) e ∙ sym (ap (λ b. or_older (cond b (Some (entry_at x p)) (says xs p)) (says ys p)) e)
  by_case h false e = ap (λ b. cond b (Some (entry_at x p)) (says (xs ++ ys) p)) e ∙ h ∙ sym (ap (λ b. or_older (cond b (Some (entry_at x p)) (says xs p)) (says ys p)) e)

pub drained_none : (s : MergeState) → Drained s s []
drained_none s = record {
  levels = refl;
  lacks = refl;
  apart = record { good = λ i x e. absurd (let f : None ≡ Some x = e in cc); apart = λ i j x y l e f. absurd (let g : None ≡ Some x = e in cc) };
  done = λ i x e. absurd (let f : None ≡ Some x = e in cc);
  same = λ p u b. absurd (not_both b u);
  begun = inl (refl, refl);
  upto = upto_itself s.place;
}

module _ (old s : MergeState) (xs : List PlainItem) (w : Drained old s xs) where
  same_finds : (x : Option PlainItem) → FindsFrom (says_all s.levels) s.place x → FindsFrom (said_in old) s.place x
  same_finds x = subst (λ ls. FindsFrom (says_all ls) s.place x) w.levels

  -- past the place the items so far say nothing
  silent : (p : Point) → Upto s.place (at p) → says xs p ≡ None
  silent p up = says_none xs p (λ i x e. behind_not x.key p (upto_upto (w.done i x e) up))

  pub drained_fault : (e : LookFault) → MayFail s.lacks e → MayFail old.lacks e
  drained_fault e = subst (λ b. MayFail b e) w.lacks

  pub drained_all : FindsFrom (says_all s.levels) s.place None → SayFrom (says xs) (said_in old) old.place
  drained_all f p up = elim (either s.place (at p)) [
    | inl le ↦ silent p le ∙ sym (same_finds None f p le)
    | inr b ↦ w.same p up b
  ]

  module _ (x : PlainItem) (f : FindsFrom (says_all s.levels) s.place (Some x)) (go : IsOnward s (Some x)) where
    found : IsFirstFrom (said_in old) s.place x
    found = same_finds (Some x) f

    one_at : (p : Point) → covers x.key p ≡ true → says (x ∷ []) p ≡ Some (entry_at x p)
    one_at p h = ap (λ b. cond b (Some (entry_at x p)) (says [] p)) h

    one_not : (p : Point) → covers x.key p ≡ false → says (x ∷ []) p ≡ None
    one_not p h = ap (λ b. cond b (Some (entry_at x p)) (says [] p)) h

    -- what was said before, and what is said now
    older : (p : Point) → Upto old.place (at p) → Below (at p) s.place → says (xs ++ x ∷ []) p ≡ said_in old p
    older p up b = elim w.begun [
      | inl e ↦ absurd (not_both (subst (Below (at p)) e.0 b) up)
      | inr t ↦ says_append xs (x ∷ []) p ∙ ap (or_older (says xs p)) (one_not p (before_not x.key p (below_then b (go t)))) ∙ or_none (says xs p) ∙ w.same p up b
    ]

    newer : (p : Point) → Upto s.place (at p) → Below (at p) (ends x.key) → says (xs ++ x ∷ []) p ≡ said_in old p
    newer p up b = says_append xs (x ∷ []) p ∙ ap (λ o. or_older o (says (x ∷ []) p)) (silent p up) ∙ elim (either (begins x.key) (at p)) [
      | inl le ↦ one_at p (lies_covers x.key p le b) ∙ sym (found.stands p up (lies_covers x.key p le b))
      | inr d ↦ one_not p (before_not x.key p d) ∙ sym (found.first p up d)
    ]

    behind : (i : ℕ) (y : PlainItem) → slice_get xs i ≡ Some y → Upto (ends y.key) (begins x.key)
    behind i y e = elim w.begun [
      | inl n ↦ absurd (let g : slice_get [] i ≡ Some y = ap (λ l. slice_get l i) (sym n.1) ∙ e in let h : None ≡ Some y = g in cc)
      | inr t ↦ upto_upto (w.done i y e) (go t)
    ]

    last : (y : PlainItem) → x ≡ y → IsItem y
    last y e = subst IsItem e found.good

    pub drained_more : (new : MergeState) → new.levels ≡ s.levels → new.lacks ≡ s.lacks → new.place ≡ ends x.key → new.started ≡ true → Drained old new (xs ++ x ∷ [])
    drained_more new l k e b = record {
      levels = l ∙ w.levels;
      lacks = k ∙ w.lacks;
      apart = record {
        good = λ i y g. elim (got_split xs x i y g) [ inl a ↦ w.apart.good i y a | inr a ↦ last y a.1 ];
        apart = λ i j y z n g h. elim (got_split xs x j z h) [
          | inl a ↦ elim (got_split xs x i y g) [
            | inl c ↦ w.apart.apart i j y z n c a
            | inr c ↦ absurd (let m : j < length xs = slice_get_within xs j z a in let q : i ≡ length xs = c.0 in omega arith)
          ]
          | inr a ↦ elim (got_split xs x i y g) [
            | inl c ↦ subst (λ t. Upto (ends y.key) (begins t.key)) a.1 (behind i y c)
            | inr c ↦ absurd (let q : i ≡ length xs = c.0 in let r : j ≡ length xs = a.0 in omega arith)
          ]
        ];
      };
      done = λ i y g. subst (Upto (ends y.key)) (sym e) (elim (got_split xs x i y g) [
        | inl a ↦ upto_upto (w.done i y a) (below_upto found.reaches)
        | inr a ↦ subst (λ t. Upto (ends t.key) (ends x.key)) a.1 (upto_itself (ends x.key))
      ]);
      same = λ p up c. let d : Below (at p) (ends x.key) = subst (Below (at p)) e c in elim (either s.place (at p)) [
        | inl le ↦ newer p le d
        | inr q ↦ older p up q
      ];
      begun = inr b;
      upto = subst (Upto old.place) (sym e) (upto_upto w.upto (below_upto found.reaches));
    }

-- ---- what a round of the loop gives

pub drain_end : (old s : MergeState) (xs : List PlainItem) → Drained old s xs → (got : Option Item) → FindsFrom (says_all s.levels) s.place (option_map item_of got) → got ≡ None
    → IsMerged old xs
drain_end old s xs w got f e = record { apart = w.apart; same = drained_all old s xs w (subst (λ o. FindsFrom (says_all s.levels) s.place (option_map item_of o)) e f) }

pub drain_more : (old s new : MergeState) (xs ys : List Item) → Drained old s (map item_of xs) → (got : Option Item) → FindsFrom (says_all s.levels) s.place (option_map item_of got) → IsOnward s (option_map item_of got)
    → (item : Item) → got ≡ Some item → new ≡ after_item s (option_map item_of got) → ys ≡ xs ++ item ∷ [] → Drained old new (map item_of ys)
drain_more old s new xs ys w got f go item e n q =
    let m : new ≡ after_item s (Some (item_of item)) = n ∙ ap (λ o. after_item s (option_map item_of o)) e in
    subst (Drained old new) (sym (ap (map item_of) q ∙ map-append item_of xs (item ∷ [])))
    (drained_more old s (map item_of xs) w (item_of item) (subst (λ o. FindsFrom (says_all s.levels) s.place (option_map item_of o)) e f) (subst (λ o. IsOnward s (option_map item_of o)) e go)
    new (ap (λ x. x.levels) m) (ap (λ x. x.lacks) m) (ap (λ x. x.place) m) (ap (λ x. x.started) m))

-- ---- where the merge is afterwards

module _ (old s : MergeState) (xs : List PlainItem) (w : Drained old s xs) where
  drained_moved : HasMoved old s
  drained_moved = record { levels = w.levels; lacks = w.lacks; upto = w.upto }

  pub moved_fault : (new : MergeState) → new ≡ s → HasMoved old new
  moved_fault new e = subst (HasMoved old) (sym e) drained_moved

  pub moved_end : (got : Option Item) (new : MergeState) → new ≡ after_item s (option_map item_of got) → FindsFrom (says_all s.levels) s.place (option_map item_of got) → got ≡ None → IsAtEnd old new
  moved_end got new n f e =
      subst (IsAtEnd old) (sym (n ∙ ap (λ o. after_item s (option_map item_of o)) e))
      (record { moved = drained_moved; rest = subst (λ o. FindsFrom (says_all s.levels) s.place (option_map item_of o)) e f })

  pub moved_item : (got : Option Item) (new : MergeState) → new ≡ after_item s (option_map item_of got) → FindsFrom (says_all s.levels) s.place (option_map item_of got) → (item : Item) → got ≡ Some item → HasMoved old new
  moved_item got new n f item e =
      let g : IsFirstFrom (says_all s.levels) s.place (item_of item) = subst (λ o. FindsFrom (says_all s.levels) s.place (option_map item_of o)) e f in
      subst (HasMoved old) (sym (n ∙ ap (λ o. after_item s (option_map item_of o)) e))
      (record { levels = w.levels; lacks = w.lacks; upto = upto_upto w.upto (below_upto g.reaches) })
