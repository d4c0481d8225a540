-- What levels say of a point key, from the newest one on, and the keys of what stands.
use Rattle.std.proofs.Common.{◌≡◌, ℕ, suc, Bool, true, false, List, [], ◌∷◌, ◌++◌, map, reverse, Option, Some, None, refl, sym, ◌∙◌, ap, subst, cond, arith}
use Rattle.std.specs.Prelude.{Contains}
use Rattle.std.proofs.lemmas.List.Elements.{Contains-append_left, Contains-append_right}
use Rattle.fx_item.specs.Item.{PlainKey, ObjectKey, AttributeKey, ExtentKey, ChildKey, GraveKey, AllocationKey, PlainItem}
use Rattle.fx_item.specs.Item.{PlainValue, GoneValue, DirectoryValue, FileValue, AttributeValue, ChildValue, WaitingValue, ExtentValue, TakenValue}
use Rattle.fx_item.specs.Overlay.{Point, AtKey, Entry, covers, says, or_older, standing}
use Rattle.fx_item.specs.Look.{MayFail, spoken, map_of, is_point_key, is_gone, value_of_entry}
use Rattle.fx_item.specs.declared.look.LookFault.{LookFault}
use Rattle.fx_layerset.specs.Levels.{PlainLevel, SetLevels, newest_first, said_over, said_in_set, lacked_by, keys_in}
use Rattle.fx_item.proofs.Covered.{entry_at, same_key_is}
use Rattle.fx_item.proofs.Keys.{map_some, map_range}
use Rattle.fx_item.proofs.Overlays.{range_silent}
use Rattle.fx_layerset.proofs.Newest.{over_levels, newer_fails, older_fails, turned_last}

-- a value says something of its point
pub or_spoken : (v : PlainValue) (older : Option (Option Entry)) → or_older (spoken (Some v)) older ≡ spoken (Some v)
or_spoken GoneValue o = refl
or_spoken DirectoryValue o = refl
or_spoken (FileValue len) o = refl
or_spoken (AttributeValue text) o = refl
or_spoken (ChildValue s i) o = refl
or_spoken WaitingValue o = refl
or_spoken (ExtentValue b sums) o = refl
or_spoken TakenValue o = refl

-- ---- a list, the oldest first

module _ {Y : Type 0} (val : Y → PlainLevel) (rest older : List Y) (y : Y) (r : rest ≡ older ++ y ∷ []) where
  turned : reverse (map val rest) ≡ val y ∷ reverse (map val older)
  turned = ap (λ l. reverse (map val l)) r ∙ turned_last val older y

  module _ (p : Point) (all : Option (Option Entry)) (h : said_over (reverse (map val rest)) p ≡ all) where
    now_said : or_older (says (val y).items p) (said_over (reverse (map val older)) p) ≡ all
    now_said = sym (ap (λ l. said_over l p) turned) ∙ h

    pub value_found : (v : PlainValue) → spoken (Some v) ≡ says (val y).items p → spoken (Some v) ≡ all
    value_found v e = sym (or_spoken v (said_over (reverse (map val older)) p)) ∙ ap (λ o. or_older o (said_over (reverse (map val older)) p)) e ∙ now_said

    pub value_later : None ≡ says (val y).items p → said_over (reverse (map val older)) p ≡ all
    value_later e = ap (λ o. or_older o (said_over (reverse (map val older)) p)) e ∙ now_said

  module _ (fault : LookFault) where
    pub level_fails : MayFail (val y).lacks fault → MayFail (lacked_by (reverse (map val rest))) fault
    level_fails h = subst (λ l. MayFail (lacked_by l) fault) (sym turned)
        (newer_fails (val y ∷ []) (reverse (map val older)) fault (subst (λ b. MayFail b fault) (sym (append_none (val y).lacks)) h))
      where
        append_none : (xs : List ℕ) → xs ++ [] ≡ xs
        append_none [] = refl
        append_none (x ∷ xs) = ap (λ l. x ∷ l) (append_none xs)

    pub rest_fails : MayFail (lacked_by (reverse (map val older))) fault → MayFail (lacked_by (reverse (map val rest))) fault
    rest_fails h = subst (λ l. MayFail (lacked_by l) fault) (sym turned) (older_fails (val y ∷ []) (reverse (map val older)) fault h)

-- ---- the three lists

pub three_parts : (b o a : List PlainLevel) (p : Point) → said_over (b ++ o ++ a) p ≡ or_older (or_older (said_over b p) (said_over o p)) (said_over a p)
three_parts b o a p = over_levels (b ++ o) a p ∙ ap (λ z. or_older z (said_over a p)) (over_levels b o p)

module _ (s : SetLevels) (p : Point) where
  abbrev pub B : Option (Option Entry)
  B = said_over (reverse s.batches) p

  abbrev pub O : Option (Option Entry)
  O = said_over (reverse s.objects) p

  abbrev pub A : Option (Option Entry)
  A = said_over (reverse s.allocs) p

  parts : or_older (or_older B O) A ≡ said_in_set s p
  parts = sym (three_parts (reverse s.batches) (reverse s.objects) (reverse s.allocs) p)

  pub in_batches : (v : PlainValue) → spoken (Some v) ≡ B → spoken (Some v) ≡ said_in_set s p
  in_batches v e =
      sym (or_spoken v A) ∙ ap (λ z. or_older z A) (sym (or_spoken v O) ∙ ap (λ z. or_older z O) e) ∙ parts

  module _ (none : None ≡ B) where
    pub in_objects : (v : PlainValue) → spoken (Some v) ≡ O → spoken (Some v) ≡ said_in_set s p
    in_objects v e = sym (or_spoken v A) ∙ ap (λ z. or_older z A) (e ∙ ap (λ z. or_older z O) none) ∙ parts

    pub in_allocs : None ≡ O → A ≡ said_in_set s p
    in_allocs e = ap (λ z. or_older z A) (e ∙ ap (λ z. or_older z O) none) ∙ parts

module _ (s : SetLevels) (fault : LookFault) where
  pub batches_fail : MayFail (lacked_by (reverse s.batches)) fault → MayFail (lacked_by (newest_first s)) fault
  batches_fail h = newer_fails (reverse s.batches ++ reverse s.objects) (reverse s.allocs) fault (newer_fails (reverse s.batches) (reverse s.objects) fault h)

  pub objects_fail : MayFail (lacked_by (reverse s.objects)) fault → MayFail (lacked_by (newest_first s)) fault
  objects_fail h = newer_fails (reverse s.batches ++ reverse s.objects) (reverse s.allocs) fault (older_fails (reverse s.batches) (reverse s.objects) fault h)

  pub allocs_fail : MayFail (lacked_by (reverse s.allocs)) fault → MayFail (lacked_by (newest_first s)) fault
  allocs_fail h = older_fails (reverse s.batches ++ reverse s.objects) (reverse s.allocs) fault h

-- ---- the map of point keys

pub range_unsaid : (levels : List PlainLevel) (key : PlainKey) → is_point_key key ≡ false → said_over levels (AtKey key) ≡ None
range_unsaid [] key h = refl
range_unsaid (l ∷ levels) key h = ap (λ o. or_older o (said_over levels (AtKey key))) (range_silent l.items key h) ∙ range_unsaid levels key h

spoken_value : (v : PlainValue) → is_gone v ≡ false → value_of_entry (standing (spoken (Some v))) ≡ Some v
spoken_value GoneValue h = absurd (cc h)
spoken_value DirectoryValue h = refl
spoken_value (FileValue len) h = refl
spoken_value (AttributeValue text) h = refl
spoken_value (ChildValue s i) h = refl
spoken_value WaitingValue h = refl
spoken_value (ExtentValue b sums) h = refl
spoken_value TakenValue h = refl

spoken_gone : (v : PlainValue) → is_gone v ≡ true → value_of_entry (standing (spoken (Some v))) ≡ None
spoken_gone GoneValue h = refl
spoken_gone DirectoryValue h = absurd (cc h)
spoken_gone (FileValue len) h = absurd (cc h)
spoken_gone (AttributeValue text) h = absurd (cc h)
spoken_gone (ChildValue s i) h = absurd (cc h)
spoken_gone WaitingValue h = absurd (cc h)
spoken_gone (ExtentValue b sums) h = absurd (cc h)
spoken_gone TakenValue h = absurd (cc h)

never_none : (v : PlainValue) → spoken (Some v) ≡ None → ⊥
never_none GoneValue e = cc e
never_none DirectoryValue e = cc e
never_none (FileValue len) e = cc e
never_none (AttributeValue text) e = cc e
never_none (ChildValue s i) e = cc e
never_none WaitingValue e = cc e
never_none (ExtentValue b sums) e = cc e
never_none TakenValue e = cc e

module _ (levels : List PlainLevel) (key : PlainKey) where
  stood : (found : Option PlainValue) → spoken found ≡ said_over levels (AtKey key) → (v : Option PlainValue) → value_of_entry (standing (spoken found)) ≡ v
      → (is_point_key key ≡ false → v ≡ None) → v ≡ map_of (said_over levels) key
  stood found e v w range = by_kind (is_point_key key) refl where
    by_kind : (b : Bool) → is_point_key key ≡ b → v ≡ map_of (said_over levels) key
    by_kind true k = sym w ∙ ap (λ o. value_of_entry (standing o)) e ∙ sym (map_some (said_over levels) key k)
    by_kind false k = range k ∙ sym (map_range (said_over levels) key k)

  pub none_stands : spoken None ≡ said_over levels (AtKey key) → None ≡ map_of (said_over levels) key
  none_stands e = stood None e None refl (λ k. refl)

  pub gone_stands : (v : PlainValue) → is_gone v ≡ true → spoken (Some v) ≡ said_over levels (AtKey key) → None ≡ map_of (said_over levels) key
  gone_stands v g e = stood (Some v) e None (spoken_gone v g) (λ k. refl)

  pub value_stands : (v : PlainValue) → is_gone v ≡ false → spoken (Some v) ≡ said_over levels (AtKey key) → Some v ≡ map_of (said_over levels) key
  value_stands v g e = stood (Some v) e (Some v) (spoken_value v g) (λ k. absurd (never_none v (e ∙ range_unsaid levels key k)))

-- ---- the keys of what stands

key_covered : (k key : PlainKey) → covers k (AtKey key) ≡ true → k ≡ key
key_covered (ObjectKey s i) key e = same_key_is (ObjectKey s i) key e
key_covered (AttributeKey s i name) key e = same_key_is (AttributeKey s i name) key e
key_covered (ExtentKey s i a b) key e = same_key_is (ExtentKey s i a b) key e
key_covered (ChildKey s i name) key e = same_key_is (ChildKey s i name) key e
key_covered (GraveKey s i) key e = same_key_is (GraveKey s i) key e
key_covered (AllocationKey a b) key e = same_key_is (AllocationKey a b) key e

abbrev item_keys : List PlainItem → List PlainKey
item_keys items = map (λ x. x.key) items

says_key : (items : List PlainItem) (key : PlainKey) (e : Option Entry) → says items (AtKey key) ≡ Some e → Contains (item_keys items) key
says_key [] key e h = absurd (let n : None ≡ Some e = h in cc)
says_key (x ∷ items) key e h = by_case (says_key items key e) (covers x.key (AtKey key)) refl where
  by_case : (says items (AtKey key) ≡ Some e → Contains (item_keys items) key) → (b : Bool) → covers x.key (AtKey key) ≡ b → Contains (item_keys (x ∷ items)) key
  by_case go true c = (0, omega arith, key_covered x.key key c)
  by_case go false c =
      let rest : Contains (item_keys items) key = go (sym (ap (λ b. cond b (Some (entry_at x (AtKey key))) (says items (AtKey key))) c) ∙ h) in
      (suc rest.0, (let l = rest.1 in omega arith), rest.2)

said_key : (levels : List PlainLevel) (key : PlainKey) (e : Option Entry) → said_over levels (AtKey key) ≡ Some e → Contains (keys_in levels) key
said_key [] key e h = absurd (let n : None ≡ Some e = h in cc)
said_key (l ∷ levels) key e h = by_case (said_key levels key e) (says l.items (AtKey key)) refl where
  by_case : (said_over levels (AtKey key) ≡ Some e → Contains (keys_in levels) key) → (o : Option (Option Entry)) → says l.items (AtKey key) ≡ o → Contains (keys_in (l ∷ levels)) key
  by_case go (Some d) c = Contains-append_left (item_keys l.items) (keys_in levels) key (says_key l.items key d c)
  by_case go None c = Contains-append_right (item_keys l.items) (keys_in levels) key (go (sym (ap (λ o. or_older o (said_over levels (AtKey key))) c) ∙ h))

pub stands_key : (levels : List PlainLevel) (key : PlainKey) (value : PlainValue) → map_of (said_over levels) key ≡ Some value → Contains (keys_in levels) key
stands_key levels key value h = by_kind (is_point_key key) refl where
  by_word : (o : Option (Option Entry)) → said_over levels (AtKey key) ≡ o → value_of_entry (standing o) ≡ Some value → Contains (keys_in levels) key
  by_word None c e = absurd (let n : None ≡ Some value = e in cc)
  by_word (Some d) c e = said_key levels key d c

  by_kind : (b : Bool) → is_point_key key ≡ b → Contains (keys_in levels) key
  by_kind true k = by_word (said_over levels (AtKey key)) refl (sym (map_some (said_over levels) key k) ∙ h)
  by_kind false k = absurd (let n : None ≡ Some value = sym (map_range (said_over levels) key k) ∙ h in cc)
