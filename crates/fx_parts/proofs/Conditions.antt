-- What the key table asks of a call, and what it answers, told of the parts.
use Rattle.std.proofs.Common.{◌≡◌, ◌≢◌, inl, inr, ℕ, ◌+◌, ◌<◌, ◌≤◌, Bool, true, false, nat_eq, List, [], ◌∷◌, ◌++◌, All, Option, Some, None, refl, sym, ap, subst, ◌∙◌, arith, length-append, eqb-true, ne_eqb}
use Rattle.std.specs.Prelude.{◌||◌, option_map}
use Rattle.std.specs.FinMap as finite
use Rattle.std.specs.List.{list_any}
use Rattle.std.specs.Ordering.{nat_cmp}
use Rattle.std.proofs.lemmas.Bool.{or_cases}
use Rattle.std.proofs.lemmas.Cmp.{nat_eq_equiv}
use Rattle.std.proofs.lemmas.List.Elements.{All-head, All-tail}
use Rattle.std.proofs.lemmas.List.Folds.{list_any-append}
use Rattle.std.proofs.lemmas.Map.Keys.{IsDistinct-push}
use Rattle.std.proofs.lemmas.Map.Steps.{length-le_from_distinct_below}
use Rattle.fx_item.specs.declared.lock.LockKey.{LockKey}
use Rattle.fx_item.specs.declared.lock.Mode.{Mode}
use Rattle.fx_item.specs.declared.lock.Mode.TheVariants.{Change}
use Rattle.fx_keys.specs.Conflict.{are_conflicting}
use Rattle.fx_keys.specs.Table.{HasSeatFor, IsAboveKeysOf, IsListed, IsNextToRaise, Table, mode_of, room_of}
use Rattle.fx_keys.specs.declared.table.TheConstants.{MAX_NUMBERS}
use Rattle.fx_parts.specs.Parts.{Grant, Part}
use Rattle.fx_parts.specs.Sound.{KeysAgree}
use Rattle.fx_parts.specs.Happening.{MayAsk, MayRaise}
use Rattle.fx_parts.proofs.Agreeing.{mode_by_entry, mode_in_part, room_by_entry}

-- a key that is held is one of a part
part_of_mode : (o : Option Part) (key : LockKey) (mode : Mode) → mode_by_entry key o ≡ Some mode → (part : Part) × (o ≡ Some part) × (mode_in_part part key ≡ Some mode)
part_of_mode None key mode e = absurd (cc e)
part_of_mode (Some part) key mode e = (part, refl, e)

grant_of_mode : (o : Option Grant) (mode : Mode) → option_map (λ (grant : Grant). grant.mode) o ≡ Some mode → (grant : Grant) × (o ≡ Some grant) × (grant.mode ≡ mode)
grant_of_mode None mode e = absurd (cc e)
grant_of_mode (Some grant) mode e = (grant, refl, same (Some mode) grant.mode mode e refl)
  where
    same : (o : Option Mode) (a b : Mode) → Some a ≡ o → o ≡ Some b → a ≡ b
    same o a b e f = cc

part_of_room : (o : Option Part) → 0 < room_by_entry o → (part : Part) × (o ≡ Some part)
part_of_room None some = absurd (omega arith)
part_of_room (Some part) some = (part, refl)

module _ (table : Table) (parts : finite.FinMap nat_cmp Part) (keys : KeysAgree table parts) (numbers : (who : ℕ) (part : Part) → finite.get parts who ≡ Some part → (1 ≤ who) × (who ≤ MAX_NUMBERS)) where
  -- who holds a key in the table has it in its part
  pub holder : (who : ℕ) (key : LockKey) (mode : Mode) → mode_of table who key ≡ Some mode → (part : Part) × (finite.get parts who ≡ Some part) × ((grant : Grant) × (finite.get part.grants key ≡ Some grant) × (grant.mode ≡ mode))
  holder who key mode held =
      let p = part_of_mode (finite.get parts who) key mode (sym (keys.held who key) ∙ held) in
      (p.0, p.1, grant_of_mode (finite.get p.0.grants key) mode p.2)

  pub in_table : (who : ℕ) (part : Part) (key : LockKey) (grant : Grant) → finite.get parts who ≡ Some part → finite.get part.grants key ≡ Some grant → mode_of table who key ≡ Some grant.mode
  in_table who part key grant is held = keys.held who key ∙ ap (mode_by_entry key) is ∙ ap (option_map (λ (g : Grant). g.mode)) held

  -- no two numbers hold a key in modes that conflict
  pub compatible : (who other : ℕ) (part its : Part) (key : LockKey) (grant held : Grant) → who ≢ other → finite.get parts who ≡ Some part → finite.get parts other ≡ Some its
      → finite.get part.grants key ≡ Some grant → finite.get its.grants key ≡ Some held → are_conflicting grant.mode held.mode ≢ true
  compatible who other part its key grant held ne is got mine theirs =
      keys.consistent key who other grant.mode held.mode ne (in_table who part key grant is mine) (in_table other its key held got theirs)

  -- ---- room

  low : (w : ℕ) → IsListed table w → (1 ≤ w) × (w ≤ MAX_NUMBERS)
  low w (inl room) = let p = part_of_room (finite.get parts w) (omega (arith, keys.rooms w, room)) in numbers w p.0 p.1
  low w (inr (key, mode, held)) = let p = holder w key mode held in numbers w p.0 p.1

  module _ (who : ℕ) (part : Part) (is : finite.get parts who ≡ Some part) where
    abbrev Other : ℕ → Type 0
    Other w = (w ≢ who) × IsListed table w

    not_who : (others : List ℕ) → All Other others → list_any (nat_eq who) others ≡ false
    not_who [] all = refl
    not_who (w ∷ ws) all =
        let head = All-head Other w ws all in
        ap (λ b. b || list_any (nat_eq who) ws) (ne_eqb who w (λ e. head.0 (sym e))) ∙ not_who ws (All-tail Other w ws all)

    not_zero : (others : List ℕ) → All Other others → list_any (nat_eq 0) (others ++ who ∷ []) ≡ false
    not_zero [] all = let one = (numbers who part is).0 in ap (λ b. b || false) (ne_eqb 0 who (λ e. omega (arith, one, e)))
    not_zero (w ∷ ws) all =
        let one = (low w (All-head Other w ws all).1).0 in
        ap (λ b. b || list_any (nat_eq 0) (ws ++ who ∷ [])) (ne_eqb 0 w (λ e. omega (arith, one, e))) ∙ not_zero ws (All-tail Other w ws all)

    among : (others : List ℕ) (q : ℕ) → All Other others → list_any (nat_eq q) others ≡ true → IsListed table q
    among [] q all h = absurd (cc h)
    among (w ∷ ws) q all h = by_test (among ws q (All-tail Other w ws all)) (nat_eq q w) refl h
      where
        by_test : (list_any (nat_eq q) ws ≡ true → IsListed table q) → (b : Bool) → nat_eq q w ≡ b → (b || list_any (nat_eq q) ws) ≡ true → IsListed table q
        by_test later true e h = subst (IsListed table) (sym (eqb-true q w e)) (All-head Other w ws all).1
        by_test later false e h = later h

    is_it : (q x : ℕ) → list_any (nat_eq q) (x ∷ []) ≡ true → q ≡ x
    is_it q x h = elim (or_cases (nat_eq q x) false h) [ inl e ↦ eqb-true q x e | inr f ↦ absurd (cc f) ]

    below : (others : List ℕ) (q : ℕ) → All Other others → list_any (nat_eq q) ((others ++ who ∷ []) ++ 0 ∷ []) ≡ true → q < MAX_NUMBERS + 1
    below others q all h = elim (or_cases (list_any (nat_eq q) (others ++ who ∷ [])) (list_any (nat_eq q) (0 ∷ [])) (sym (list_any-append (nat_eq q) (others ++ who ∷ []) (0 ∷ [])) ∙ h)) [
      | inl b ↦ elim (or_cases (list_any (nat_eq q) others) (list_any (nat_eq q) (who ∷ [])) (sym (list_any-append (nat_eq q) others (who ∷ [])) ∙ b)) [
        | inl c ↦ let l = low q (among others q all c) in let most = l.1 in omega arith
        | inr c ↦ let most = (numbers who part is).1 in omega (arith, is_it q who c)
      ]
      | inr b ↦ omega (arith, is_it q 0 b)
    ]

    -- fewer than 32 others are listed
    pub seat : HasSeatFor table who
    seat others apart all =
        let distinct = IsDistinct-push nat_eq_equiv (others ++ who ∷ []) 0 (IsDistinct-push nat_eq_equiv others who apart (not_who others all)) (not_zero others all) in
        let most = length-le_from_distinct_below ((others ++ who ∷ []) ++ 0 ∷ []) (MAX_NUMBERS + 1) distinct (λ q h. below others q all h) in
        omega (arith, most, length-append others (who ∷ []), length-append (others ++ who ∷ []) (0 ∷ []))

    -- ---- ask and raise

    pub has_room : (key : LockKey) (mode : Mode) → MayAsk key mode part → 0 < room_of table who
    has_room key mode may = let a = may.room in omega (arith, keys.rooms who, ap room_by_entry is)

    held_mine : (key : LockKey) (mode : Mode) → mode_of table who key ≡ Some mode → (grant : Grant) × (finite.get part.grants key ≡ Some grant) × (grant.mode ≡ mode)
    held_mine key mode held = grant_of_mode (finite.get part.grants key) mode (sym (ap (mode_by_entry key) is) ∙ sym (keys.held who key) ∙ held)

    pub is_above : (key : LockKey) (mode : Mode) → MayAsk key mode part → IsAboveKeysOf table who key
    is_above key mode may k m held = let g = held_mine k m held in may.above k g.0 g.1

    pub for_change : (key : LockKey) → MayRaise key part → mode_of table who key ≡ Some Change
    for_change key may = in_table who part key may.grant is may.held ∙ ap Some may.change

    pub is_next : (key : LockKey) → MayRaise key part → IsNextToRaise table who key
    is_next key may k less held = let g = held_mine k Change held in may.next k g.0 less g.1 g.2
