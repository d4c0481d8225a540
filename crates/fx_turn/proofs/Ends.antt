-- The rule of a turn holds at first; what it says of all views together; and where one seat has all shares, the value is at home.
use Rattle.std.proofs.Common.{◌≡◌, ℕ, ◌<◌, ◌≢◌, ⊎_elim, Bool, false, List, [], ◌∷◌, get_or, sym, refl, ap, ◌∙◌, subst, arith, Option, Some, None, IsSome, count_by}
use Rattle.std.specs.Cmp.{nat_cmp_total}
use Rattle.std.specs.FinMap.{empty, get, same_map, nat_cmp-IsAntisymmetric}
use mathlib.Core.Logic.{dite}
use mathlib.Core.Option.{some, some-injective}
use native.Mathlib.Decide.{ℕ_discrete}
use lib.ListN.{get_elem?}
use Rattle.atomic_table.specs.Table.{State, Final, Seen, opening}
use Rattle.fx_turn.specs.declared.view.View.{View}
use Rattle.fx_turn.specs.Parts.{Parts}
use Rattle.fx_turn.specs.Views.{resting}
use Rattle.fx_turn.specs.Rule.{Knows, AddsUp, Ruled}
use Rattle.fx_turn.proofs.Lists.{prefix_self, nil_begins}
use Rattle.fx_turn.proofs.Seats.{some_same, each_one, at_same, sum_two, sum_alone}
use Rattle.fx_turn.proofs.Maps.{not_both, none_some, none_or, has_some, none_apart}

module _ {T N P : Type 0} (log : T → List N) (counts : N → Bool) (parts : T → Parts P) (n : ℕ) where
  abbrev R : State (Option T) (View N P) → Type 0
  R = Ruled log counts parts n

  pub opens : (x : T) → 0 < n → R (opening (0 ∷ []) (Some x ∷ []) (resting (log x) (count_by counts (log x)) n (parts x)))
  opens x some_share = let first : View N P = resting (log x) (count_by counts (log x)) n (parts x) in record {
    all = log x;
    whole = parts x;
    owner = λ _. 0;
    holder = 0;
    top = 0;
    one_word = refl;
    home = λ _. (x, refl, refl, refl);
    held = λ ne. absurd (ne refl);
    each = λ k v e. each_one (Knows (log x) (parts x) (λ _. 0) 0 0) first v k record { seen = prefix_self (log x); busy = λ e. absurd (not_both false e refl); idle = λ z. absurd (omega arith); mine = λ q p z. (z, refl); begun = nil_begins (log x); apart = none_apart empty } e;
    last = (first, refl, refl, some_share);
    owns = omega arith;
    sum = omega arith;
    covered = λ q p e. (first, refl, e);
  }

  -- at each moment the views add up
  pub adds_up : (s : State (Option T) (View N P)) (r : R s) → AddsUp counts r.all r.whole n s.views
  adds_up s r = record {
    seen = λ k v e. (r.each k v e).seen;
    longest = (r.top, r.last.0, r.last.1, r.last.2);
    owns = r.owns;
    shares = r.sum;
    apart = λ j k v w e d ne q h g. let a = has_some v.mine q h in let b = has_some w.mine q g in ne (sym ((r.each j v e).mine q a.0 a.1).1 ∙ ((r.each k w d).mine q b.0 b.1).1);
    within = λ k v e q p h. ((r.each k v e).mine q p h).0;
    covered = λ q p e. let c = r.covered q p e in (r.owner q, c.0, c.1, c.2);
  }

  -- the value that is at home, where one seat has all shares and does not hold the turn
  at_home : (id : ℕ) (v : View N P) (ws : List ℕ) (xs : List (Option T)) (o : Option T) → v.holds ≡ false → v.shares ≡ n → 0 < v.shares → Final (Seen R id v) ws xs → get_elem? xs 0 ≡ some o
      → (x : T) × (o ≡ Some x) × (log x ≡ v.seen) × (count_by counts (log x) ≡ v.own) × (parts x ≡ v.mine)
  at_home id v ws xs o idle whole some_share f found = let s : State (Option T) (View N P) = f.0 in let r : R s = f.1.0 in let at : get_elem? s.views id ≡ some v = f.1.1 in
      let alone : (j : ℕ) (u : View N P) → j ≢ id → get_elem? s.views j ≡ some u → u.shares ≡ 0 = λ j u ne is. let t = sum_two (λ v. v.shares) s.views j id u v ne is at in let p = r.sum in omega arith in
      let free : get_or s.words 0 0 ≡ 0 = dite (ℕ_discrete (get_or s.words 0 0) 0) (λ z. z) (λ ne. absurd (let h = r.held ne in let k = ((r.each r.holder h.0 h.1).busy h.2).4 in dite (ℕ_discrete r.holder id)
      (λ e. let is : h.0 ≡ v = at_same s.views r.holder id h.0 v h.1 at e in not_both v.holds (ap (λ (z : View N P). z.holds) (sym is) ∙ h.2) idle)
      (λ other. let z = alone r.holder h.0 other h.1 in omega arith))) in
      let h = r.home free in let knows = r.each id v at in
      let total = sum_alone (λ v. v.own) s.views id v at (λ j u ne is. ((r.each j u is).idle (alone j u ne is)).0) in
      let seen : v.seen ≡ r.all = (let l = r.last in dite (ℕ_discrete r.top id)
      (λ e. ap (λ (z : View N P). z.seen) (sym (at_same s.views r.top id l.0 v l.1 at e)) ∙ l.2)
      (λ ne. absurd (let z = alone r.top l.0 ne l.1 in let p = l.3 in omega arith))) in
      let mine : r.whole ≡ v.mine = same_map nat_cmp_total nat_cmp-IsAntisymmetric r.whole v.mine (λ q. ⊎_elim
      (λ (z : get r.whole q ≡ None). z ∙ sym (⊎_elim (λ (y : get v.mine q ≡ None). y) (λ (y : (p : P) × (get v.mine q ≡ Some p)). absurd (none_some y.0 (sym z ∙ (knows.mine q y.0 y.1).0))) (none_or (get v.mine q))))
      (λ (z : (p : P) × (get r.whole q ≡ Some p)). let c = r.covered q z.0 z.1 in dite (ℕ_discrete (r.owner q) id)
      (λ e. z.1 ∙ sym (ap (λ (y : View N P). get y.mine q) (sym (at_same s.views (r.owner q) id c.0 v c.1 at e)) ∙ c.2))
      (λ ne. absurd (none_some z.0 (sym (((r.each (r.owner q) c.0 c.1).idle (alone (r.owner q) c.0 ne c.1)).1 q) ∙ c.2))))
      (none_or (get r.whole q))) in
      (h.0, some-injective o (Some h.0) (sym found ∙ f.4 0 (Some h.0) h.1), h.2 ∙ sym seen, ap (count_by counts) h.2 ∙ (sym r.owns ∙ total), h.3 ∙ mine)

  pub closes : (id : ℕ) (v : View N P) (ws : List ℕ) (xs : List (Option T)) (o : Option T) → v.holds ≡ false → v.shares ≡ n → 0 < v.shares → Final (Seen R id v) ws xs → get_elem? xs 0 ≡ some o
      → IsSome o × ((x : T) → o ≡ Some x → (log x ≡ v.seen) × (count_by counts (log x) ≡ v.own) × (parts x ≡ v.mine))
  closes id v ws xs o idle whole some_share f found = let t = at_home id v ws xs o idle whole some_share f found in
      (subst IsSome (sym t.1) refl, λ x e. subst (λ (y : T). (log y ≡ v.seen) × (count_by counts (log y) ≡ v.own) × (parts y ≡ v.mine)) (some_same t.0 x (sym t.1 ∙ e)) (t.2, t.3, t.4))
