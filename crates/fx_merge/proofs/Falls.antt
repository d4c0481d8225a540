-- That a merge ends: with each item fewer ends of the levels' items lie past the place.
use Rattle.std.proofs.Common.{◌≡◌, ℕ, zero, suc, ◌+◌, ◌<◌, ◌≤◌, Bool, true, false, List, [], ◌∷◌, Option, Some, refl, sym, ◌∙◌, ap, subst, cond, arith}
use Rattle.std.specs.Prelude.{IfSome, count_by, option_map}
use Rattle.std.specs.List.{Contains}
use Rattle.std.specs.Ordering.{is_lt}
use Rattle.std.proofs.lemmas.List.Sums.{sum_by-cons}
use Rattle.fx_item.specs.Item.{item_of, key_of}
use Rattle.fx_item.specs.Place.{Place, place_cmp, Below, ends}
use Rattle.fx_item.specs.Look.{FindsFrom}
use Rattle.fx_item.specs.declared.item.Item.{Item}
use Rattle.fx_merge.specs.Cursor.{edges_of, says_all}
use Rattle.fx_merge.specs.Merge.{MergeState, after_item, edges_past}
use Rattle.fx_item.proofs.PlaceOrder.{below_below, lt_below, not_both, upto_itself}

abbrev past : Place → Place → Bool
past place q = is_lt (place_cmp place q)

past_later : (place stop q : Place) → Below place stop → past stop q ≡ true → past place q ≡ true
past_later place stop q b e = ap is_lt (below_below b (lt_below e)).holds

not_past_itself : (q : Place) → past q q ≡ false
not_past_itself q = by_case (past q q) refl where
  by_case : (b : Bool) → past q q ≡ b → past q q ≡ false
  by_case true e = absurd (not_both (lt_below e) (upto_itself q))
  by_case false e = e

one_count : (place : Place) (q : Place) (es : List Place) → count_by (past place) (q ∷ es) ≡ cond (past place q) 1 0 + count_by (past place) es
one_count place q es = sum_by-cons (λ x. cond (past place x) 1 0) q es

cond_le : (a b : Bool) → (a ≡ true → b ≡ true) → cond {A = ℕ} a 1 0 ≤ cond b 1 0
cond_le true true h = omega arith
cond_le true false h = absurd (cc (h refl))
cond_le false true h = omega arith
cond_le false false h = omega arith

module _ (place stop : Place) (b : Below place stop) where
  count_le : (es : List Place) → count_by (past stop) es ≤ count_by (past place) es
  count_le [] = omega arith
  count_le (q ∷ es) = omega (arith, one_count place q es, one_count stop q es, cond_le (past stop q) (past place q) (past_later place stop q b), count_le es)

  pub count_less : (es : List Place) → Contains es stop → count_by (past stop) es < count_by (past place) es
  count_less [] c = absurd (let l = c.1 in omega arith)
  count_less (q ∷ es) (zero, l, e) =
      let low : cond {A = ℕ} (past stop q) 1 0 ≡ 0 = ap (λ t. cond {A = ℕ} t 1 0) (ap (past stop) e ∙ not_past_itself stop) in
      let high : cond {A = ℕ} (past place q) 1 0 ≡ 1 = ap (λ t. cond {A = ℕ} t 1 0) (ap (past place) e ∙ ap is_lt b.holds) in
      omega (arith, one_count place q es, one_count stop q es, count_le es)
  count_less (q ∷ es) (suc k, l, e) =
      omega (arith, one_count place q es, one_count stop q es, cond_le (past stop q) (past place q) (past_later place stop q b), count_less es (k, omega arith, e))

pub falls : (s new : MergeState) (got : Option Item) → FindsFrom (says_all s.levels) s.place (option_map item_of got) → IfSome got (λ item. Contains (edges_of s.levels) (ends (key_of item.key)))
    → (item : Item) → got ≡ Some item → new ≡ after_item s (option_map item_of got) → edges_past new.levels new.place < edges_past s.levels s.place
falls s new got f c item e n =
    let m : new ≡ after_item s (Some (item_of item)) = n ∙ ap (λ o. after_item s (option_map item_of o)) e in
    let g : FindsFrom (says_all s.levels) s.place (Some (item_of item)) = subst (λ o. FindsFrom (says_all s.levels) s.place (option_map item_of o)) e f in
    let d : Contains (edges_of s.levels) (ends (key_of item.key)) = subst (λ o. IfSome o (λ x. Contains (edges_of s.levels) (ends (key_of x.key)))) e c in
    subst (λ (t : MergeState). edges_past t.levels t.place < edges_past s.levels s.place) (sym m) (count_less s.place (ends (key_of item.key)) g.reaches (edges_of s.levels) d)
