-- To cut a share and a number's part off a pass keeps the rule of its turn.
use Rattle.std.proofs.Common.{◌≡◌, ℕ, ◌≤◌, eqb, ⊎_elim, Bool, true, false, not, cond, List, [], ◌∷◌, ◌++◌, length, get_or, set, sym, refl, ap, ◌∙◌, arith, Option, Some, None}
use Rattle.std.proofs.lemmas.List.Sums.{sum_by_push}
use Rattle.std.specs.Option.{is_some}
use Rattle.std.specs.FinMap.{empty, get}
use mathlib.Core.Logic.{dite}
use native.Mathlib.Decide.{ℕ_discrete}
use lib.ListN.{get_elem?}
use Rattle.atomic_table.specs.Table.{State, Splits}
use Rattle.atomic_table.proofs.Lists.{set_else, at_longer, at_last}
use Rattle.fx_turn.specs.declared.view.View.{View}
use Rattle.fx_turn.specs.Parts.{Parts}
use Rattle.fx_turn.specs.Views.{stays, leaves}
use Rattle.fx_turn.specs.Rule.{Knows, Ruled}
use Rattle.fx_turn.proofs.Lists.{nil_begins}
use Rattle.fx_turn.proofs.Seats.{set_there, each_set, each_push, at_same, sum_set}
use Rattle.fx_turn.proofs.Maps.{bool_is, not_both, none_some, none_or, none_apart, kept_in, kept_if, if_some, if_none}
use Rattle.fx_turn.proofs.Takes.{last_set}

module _ {T N P : Type 0} (log : T → List N) (counts : N → Bool) (parts : T → Parts P) (n : ℕ) where
  abbrev R : State (Option T) (View N P) → Type 0
  R = Ruled log counts parts n

  pub splits_keep : (who id : ℕ) (v : View N P) → v.holds ≡ false → 2 ≤ v.shares → Splits R id v (stays who v) (leaves who v)
  splits_keep who id v idle two s r at =
      let mine = r.each id v at in let w : View N P = stays who v in let u : View N P = leaves who v in let vs : List (View N P) = set s.views id w in
      let owner : ℕ → ℕ = λ q. cond (is_some (get u.mine q)) (length vs) (r.owner q) in
      let K : ℕ → View N P → Type 0 = Knows r.all r.whole owner (get_or s.words 0 0) r.holder in
      let l = last_set r.all s.views r.top id v w r.last at refl (λ z. omega arith) in record {
        all = r.all;
        whole = r.whole;
        owner = owner;
        holder = r.holder;
        top = r.top;
        one_word = r.one_word;
        home = r.home;
        held = λ ne. let h = r.held ne in dite (ℕ_discrete r.holder id)
            (λ e. absurd (let is : h.0 ≡ v = at_same s.views r.holder id h.0 v h.1 at e in not_both v.holds (ap (λ (z : View N P). z.holds) (sym is) ∙ h.2) idle))
            (λ other. (h.0, at_longer vs (u ∷ []) r.holder h.0 (set_else s.views id r.holder w other ∙ h.1), h.2));
        each = each_push K vs u
            record { seen = mine.seen; busy = λ e. absurd (not_both false e refl); idle = λ z. absurd (omega arith); mine = λ q p e. ((mine.mine q p (kept_in v.mine (λ q. eqb q who) q p e).1).0, if_some (get u.mine q) p (length vs) (r.owner q) e); begun = nil_begins v.seen; apart = none_apart empty }
            (each_set K s.views id w
            record {
              seen = mine.seen;
              busy = λ e. absurd (not_both false e refl);
              idle = λ z. absurd (omega arith);
              mine = λ q p e. let t = kept_in v.mine (λ q. not (eqb q who)) q p e in let k = mine.mine q p t.1 in (
                k.0,
                ⊎_elim (λ (o : get u.mine q ≡ None). if_none (get u.mine q) (length vs) (r.owner q) o ∙ k.1)
                    (λ (o : (y : P) × (get u.mine q ≡ Some y)). absurd (let y = (kept_in v.mine (λ q. eqb q who) q o.0 o.1).0 in let no = ap not y in not_both (not (eqb q who)) t.0 no)) (none_or (get u.mine q)),
              );
              begun = nil_begins v.seen;
              apart = none_apart empty;
            }
            (λ j x ne is. let k = r.each j x is in record {
              seen = k.seen;
              busy = k.busy;
              idle = k.idle;
              mine = λ q p e. let t = k.mine q p e in (
                t.0,
                ⊎_elim (λ (o : get u.mine q ≡ None). if_none (get u.mine q) (length vs) (r.owner q) o ∙ t.1)
                    (λ (o : (y : P) × (get u.mine q ≡ Some y)). absurd (ne (sym t.1 ∙ (mine.mine q o.0 (kept_in v.mine (λ q. eqb q who) q o.0 o.1).1).1))) (none_or (get u.mine q)),
              );
              begun = k.begun;
              apart = k.apart;
            }));
        last = (l.0, at_longer vs (u ∷ []) r.top l.0 l.1, l.2, l.3);
        owns = (let t = sum_set (λ v. v.own) s.views id v w at in let o = r.owns in omega (arith, sum_by_push (λ (v : View N P). v.own) vs u));
        sum = (let t = sum_set (λ v. v.shares) s.views id v w at in let o = r.sum in omega (arith, sum_by_push (λ (v : View N P). v.shares) vs u));
        covered = λ q p e. let c = r.covered q p e in ⊎_elim
            (λ (o : get u.mine q ≡ None). let own : owner q ≡ r.owner q = if_none (get u.mine q) (length vs) (r.owner q) o in dite (ℕ_discrete (r.owner q) id)
            (λ same. let is : c.0 ≡ v = at_same s.views (r.owner q) id c.0 v c.1 at same in let has : get v.mine q ≡ Some p = ap (λ (z : View N P). get z.mine q) (sym is) ∙ c.2 in (
              w,
              at_longer vs (u ∷ []) (owner q) w (ap (get_elem? vs) (own ∙ same) ∙ set_there s.views id v w at),
              kept_if v.mine (λ q. not (eqb q who)) q p (⊎_elim (λ (y : eqb q who ≡ true). absurd (none_some p (sym o ∙ kept_if v.mine (λ q. eqb q who) q p y has))) (λ (z : eqb q who ≡ false). ap not z) (bool_is (eqb q who))) has,
            ))
            (λ other. (c.0, at_longer vs (u ∷ []) (owner q) c.0 (ap (get_elem? vs) own ∙ (set_else s.views id (r.owner q) w other ∙ c.1)), c.2)))
            (λ (o : (y : P) × (get u.mine q ≡ Some y)). let whole_is = (mine.mine q o.0 (kept_in v.mine (λ q. eqb q who) q o.0 o.1).1).0 in
            (u, ap (get_elem? (vs ++ u ∷ [])) (if_some (get u.mine q) o.0 (length vs) (r.owner q) o.1) ∙ at_last vs u (length vs) refl, o.1 ∙ (sym whole_is ∙ e)))
            (none_or (get u.mine q));
      }
