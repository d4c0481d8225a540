-- To put two passes together keeps the rule of their turn.
use Rattle.std.proofs.Common.{◌≡◌, ℕ, ◌<◌, ◌≢◌, ⊎_elim, Bool, false, cond, List, [], get_or, set, sym, refl, ap, ◌∙◌, arith, Option, Some, None}
use Rattle.std.specs.Option.{is_some}
use Rattle.std.specs.Ordering.{nat_cmp}
use Rattle.std.specs.FinMap.{empty, get, get-empty}
use mathlib.Core.Logic.{dite}
use mathlib.Core.Option.{some}
use native.Mathlib.Decide.{ℕ_discrete}
use lib.ListN.{get_elem?}
use Rattle.atomic_table.specs.Table.{State, Joins}
use Rattle.atomic_table.proofs.Lists.{set_else}
use Rattle.fx_turn.specs.declared.view.View.{View}
use Rattle.fx_turn.specs.Parts.{Parts}
use Rattle.fx_turn.specs.Views.{joined, spent}
use Rattle.fx_turn.specs.Rule.{Knows, Ruled}
use Rattle.fx_turn.proofs.Lists.{nil_begins, longer_begins, shorter_begins, longer_left, longer_right}
use Rattle.fx_turn.proofs.Seats.{set_there, each_set, at_same, sum_set}
use Rattle.fx_turn.proofs.Maps.{not_both, none_some, none_or, has_some, none_apart, union_left, union_right, union_in, if_some, if_none}

module _ {T N P : Type 0} (log : T → List N) (counts : N → Bool) (parts : T → Parts P) (n : ℕ) where
  abbrev R : State (Option T) (View N P) → Type 0
  R = Ruled log counts parts n

  pub joins_keep : (id : ℕ) (v : View N P) (other : ℕ) (w : View N P) → v.holds ≡ false → w.holds ≡ false → 0 < v.shares → Joins R id v other w (joined v w) spent
  joins_keep id v other w idle idle2 some_share s r at apart at2 =
      let b : View N P = joined v w in let vs : List (View N P) = set s.views id b in
      let owner : ℕ → ℕ = λ q. cond (is_some (get w.mine q)) id (r.owner q) in
      let K : ℕ → View N P → Type 0 = Knows r.all r.whole owner (get_or s.words 0 0) r.holder in
      let there : get_elem? s.views other ≡ some w = sym (set_else s.views id other b apart) ∙ at2 in
      let mine = r.each id v at in let theirs = r.each other w there in
      let here : get_elem? (set vs other spent) id ≡ some b = set_else vs other id spent (λ e. apart (sym e)) ∙ set_there s.views id v b at in
      let l : (k : ℕ) × (u : View N P) × (get_elem? (set vs other spent) k ≡ some u) × (u.seen ≡ r.all) × (0 < u.shares) = (let o = r.last in dite (ℕ_discrete r.top id)
      (λ e. let is : o.0 ≡ v = at_same s.views r.top id o.0 v o.1 at e in
      (id, b, here, longer_left v.seen w.seen r.all (ap (λ (z : View N P). z.seen) (sym is) ∙ o.2) theirs.seen, omega arith))
      (λ ne1. dite (ℕ_discrete r.top other)
      (λ e. let is : o.0 ≡ w = at_same s.views r.top other o.0 w o.1 there e in
      (id, b, here, longer_right v.seen w.seen r.all mine.seen (ap (λ (z : View N P). z.seen) (sym is) ∙ o.2), omega arith))
      (λ ne2. (r.top, o.0, set_else vs other r.top spent ne2 ∙ (set_else s.views id r.top b ne1 ∙ o.1), o.2, o.3)))) in
      record {
        all = r.all;
        whole = r.whole;
        owner = owner;
        holder = r.holder;
        top = l.0;
        one_word = r.one_word;
        home = r.home;
        held = λ ne. let h = r.held ne in dite (ℕ_discrete r.holder id)
            (λ e. absurd (let is : h.0 ≡ v = at_same s.views r.holder id h.0 v h.1 at e in not_both v.holds (ap (λ (z : View N P). z.holds) (sym is) ∙ h.2) idle))
            (λ ne1. dite (ℕ_discrete r.holder other)
            (λ e. absurd (let is : h.0 ≡ w = at_same s.views r.holder other h.0 w h.1 there e in not_both w.holds (ap (λ (z : View N P). z.holds) (sym is) ∙ h.2) idle2))
            (λ ne2. (h.0, set_else vs other r.holder spent ne2 ∙ (set_else s.views id r.holder b ne1 ∙ h.1), h.2)));
        each = each_set K vs other spent
            record { seen = nil_begins r.all; busy = λ e. absurd (not_both false e refl); idle = λ z. (refl, λ q. get-empty nat_cmp q); mine = λ q p e. absurd (none_some p (sym (get-empty nat_cmp q) ∙ e)); begun = nil_begins []; apart = none_apart empty }
            (λ j x ne is. each_set (λ j x. j ≢ other → K j x) s.views id b
            (λ _. record {
              seen = longer_begins v.seen w.seen r.all mine.seen theirs.seen;
              busy = λ e. absurd (not_both false e refl);
              idle = λ z. absurd (omega arith);
              mine = λ q p e. ⊎_elim
                  (λ (o : get v.mine q ≡ Some p). let k = mine.mine q p o in (k.0, ⊎_elim (λ (z : get w.mine q ≡ None). if_none (get w.mine q) id (r.owner q) z ∙ k.1) (λ (z : (y : P) × (get w.mine q ≡ Some y)). if_some (get w.mine q) z.0 id (r.owner q) z.1) (none_or (get w.mine q))))
                  (λ (o : get w.mine q ≡ Some p). ((theirs.mine q p o).0, if_some (get w.mine q) p id (r.owner q) o))
                  (union_in v.mine w.mine q p e);
              begun = shorter_begins v.seen w.seen r.all mine.seen theirs.seen;
              apart = λ q h g. let a = has_some v.mine q h in let c = has_some w.mine q g in apart (sym (theirs.mine q c.0 c.1).1 ∙ (mine.mine q a.0 a.1).1);
            })
            (λ j x ne is not_other. let k = r.each j x is in record {
              seen = k.seen;
              busy = k.busy;
              idle = k.idle;
              mine = λ q p e. let t = k.mine q p e in (
                t.0,
                ⊎_elim (λ (z : get w.mine q ≡ None). if_none (get w.mine q) id (r.owner q) z ∙ t.1)
                    (λ (z : (y : P) × (get w.mine q ≡ Some y)). absurd (not_other (sym t.1 ∙ (theirs.mine q z.0 z.1).1))) (none_or (get w.mine q)),
              );
              begun = k.begun;
              apart = k.apart;
            }) j x is ne);
        last = (l.1, l.2, l.3, l.4);
        owns = (let t = sum_set (λ v. v.own) s.views id v b at in let t2 = sum_set (λ v. v.own) vs other w spent at2 in let o = r.owns in omega arith);
        sum = (let t = sum_set (λ v. v.shares) s.views id v b at in let t2 = sum_set (λ v. v.shares) vs other w spent at2 in let o = r.sum in omega arith);
        covered = λ q p e. let c = r.covered q p e in ⊎_elim
            (λ (o : get w.mine q ≡ None). let own : owner q ≡ r.owner q = if_none (get w.mine q) id (r.owner q) o in dite (ℕ_discrete (r.owner q) id)
            (λ same. let is : c.0 ≡ v = at_same s.views (r.owner q) id c.0 v c.1 at same in
            (b, ap (get_elem? (set vs other spent)) (own ∙ same) ∙ here, union_left v.mine w.mine q p (ap (λ (z : View N P). get z.mine q) (sym is) ∙ c.2)))
            (λ ne1. let ne2 : r.owner q ≢ other = λ same. none_some p (sym o ∙ (ap (λ (z : View N P). get z.mine q) (sym (at_same s.views (r.owner q) other c.0 w c.1 there same)) ∙ c.2)) in
            (c.0, ap (get_elem? (set vs other spent)) own ∙ (set_else vs other (r.owner q) spent ne2 ∙ (set_else s.views id (r.owner q) b ne1 ∙ c.1)), c.2)))
            (λ (o : (y : P) × (get w.mine q ≡ Some y)). let t = theirs.mine q o.0 o.1 in (
              b,
              ap (get_elem? (set vs other spent)) (if_some (get w.mine q) o.0 id (r.owner q) o.1) ∙ here,
              union_right v.mine w.mine q p
                  (⊎_elim (λ (z : get v.mine q ≡ None). z) (λ (z : (y : P) × (get v.mine q ≡ Some y)). absurd (apart (sym t.1 ∙ (mine.mine q z.0 z.1).1))) (none_or (get v.mine q)))
                  (o.1 ∙ (sym t.0 ∙ e)),
            ))
            (none_or (get w.mine q));
      }
