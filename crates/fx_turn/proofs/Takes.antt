-- A try to take the turn keeps its rule, and so does a look at the word.
use Rattle.std.proofs.Common.{◌≡◌, ℕ, ◌<◌, eqb, ◌≢◌, Bool, false, List, get_or, set, sym, refl, ap, ◌∙◌, subst, arith, Option, Some, length-set, get_or-set_same, eq-eqb, ne_eqb}
use Rattle.std.specs.FinMap.{empty, get}
use mathlib.Core.Logic.{dite}
use mathlib.Core.Option.{none, some}
use mathlib.Core.List.{IsPrefix}
use native.Mathlib.Decide.{ℕ_discrete}
use lib.ListN.{get_elem?}
use lib.Seq.{set-get_or}
use prog.Atomic.{either}
use Rattle.atomic_table.specs.Table.{State, Me, step, keeps, takes, stepped, Allows}
use Rattle.atomic_table.proofs.Lists.{set_again, set_else}
use Rattle.fx_turn.specs.declared.view.View.{View}
use Rattle.fx_turn.specs.Parts.{Parts}
use Rattle.fx_turn.specs.Views.{holding}
use Rattle.fx_turn.specs.Rule.{Knows, Ruled, Takes, Agrees}
use Rattle.fx_turn.proofs.Lists.{nil_begins}
use Rattle.fx_turn.proofs.Seats.{set_there, each_set, at_same, sum_set}
use Rattle.fx_turn.proofs.Maps.{none_apart}

-- the seat that has seen all, after a seat has changed that still has seen as much
pub last_set : {N P : Type 0} (all : List N) (vs : List (View N P)) (top id : ℕ) (v w : View N P) → (u : View N P) × (get_elem? vs top ≡ some u) × (u.seen ≡ all) × (0 < u.shares) → get_elem? vs id ≡ some v → w.seen ≡ v.seen → (0 < v.shares → 0 < w.shares)
    → (u : View N P) × (get_elem? (set vs id w) top ≡ some u) × (u.seen ≡ all) × (0 < u.shares)
last_set {N} {P} all vs top id v w l at same still = dite (ℕ_discrete top id)
    (λ e. let is : l.0 ≡ v = at_same vs top id l.0 v l.1 at e in
    (w, ap (get_elem? (set vs id w)) e ∙ set_there vs id v w at, same ∙ (ap (λ (z : View N P). z.seen) (sym is) ∙ l.2), still (subst (λ (z : View N P). 0 < z.shares) is l.3)))
    (λ ne. (l.0, set_else vs id top w ne ∙ l.1, l.2, l.3))

module _ {T N P : Type 0} (log : T → List N) (counts : N → Bool) (parts : T → Parts P) (n : ℕ) where
  abbrev R : State (Option T) (View N P) → Type 0
  R = Ruled log counts parts n

  unmoved : (s : State (Option T) (View N P)) (r : R s) (id : ℕ) (me : Me (Option T) (View N P)) → get_elem? s.views id ≡ some me.0 → R (stepped s 0 (get_or s.words 0 0) id me.1 me.0 keeps)
  unmoved s r id me at = subst (λ (z : List ℕ × List (View N P)). R record { words = z.0; homes = s.homes; views = z.1 }) (λ i. (sym (set-get_or s.words 0 0) i, sym (set_again s.views id me.0 at) i)) r

  pub takes_keeps : (slots id : ℕ) (me : Me (Option T) (View N P)) → me.0.holds ≡ false → 0 < me.0.shares → Allows R slots id me 0 (λ n. either (eqb n 0) 1 n) (Takes log parts (step slots 0 0 1 none) me)
  takes_keeps slots id me idle some_share s r _ at _ = let x : ℕ = get_or s.words 0 0 in dite (ℕ_discrete x 0)
      (λ (hit : x ≡ 0).
      let h = r.home hit in let w : View N P = holding me.0 (log h.0) (parts h.0) in let one : get_or (set s.words 0 1) 0 0 ≡ 1 = get_or-set_same s.words 0 1 0 (let l = r.one_word in omega arith) in
      let mine = r.each id me.0 at in (
        w,
        takes 0 (Some h.0),
        h.1,
        subst (λ b. R (stepped s 0 (either b 1 x) id me.1 w (takes 0 (Some h.0)))) (sym (eq-eqb x 0 hit)) record {
          all = r.all;
          whole = r.whole;
          owner = r.owner;
          holder = id;
          top = r.top;
          one_word = length-set s.words 0 1 ∙ r.one_word;
          home = λ z. absurd (omega arith);
          held = λ _. (w, set_there s.views id me.0 w at, refl);
          each = each_set (Knows r.all r.whole r.owner (get_or (set s.words 0 1) 0 0) id) s.views id w
              record { seen = mine.seen; busy = λ e. (refl, one, h.2, h.3, some_share); idle = λ z. absurd (omega arith); mine = mine.mine; begun = nil_begins me.0.seen; apart = none_apart empty }
              (λ j v ne is. let k = r.each j v is in record { seen = k.seen; busy = λ e. absurd (let b = (k.busy e).1 in omega arith); idle = k.idle; mine = k.mine; begun = k.begun; apart = k.apart });
          last = last_set r.all s.views r.top id me.0 w r.last at refl (λ l. l);
          owns = (let t = sum_set (λ v. v.own) s.views id me.0 w at in let o = r.owns in omega arith);
          sum = (let t = sum_set (λ v. v.shares) s.views id me.0 w at in let o = r.sum in omega arith);
          covered = λ q p e. let c = r.covered q p e in dite (ℕ_discrete (r.owner q) id)
              (λ same. (w, ap (get_elem? (set s.views id w)) same ∙ set_there s.views id me.0 w at, ap (λ (z : View N P). get z.mine q) (sym (at_same s.views (r.owner q) id c.0 me.0 c.1 at same)) ∙ c.2))
              (λ ne. (c.0, set_else s.views id (r.owner q) w ne ∙ c.1, c.2));
        },
        ((λ _. (h.0, refl, subst (IsPrefix me.0.seen) (sym h.2) mine.seen, λ q p e. ap (λ (z : Parts P). get z q) h.3 ∙ (mine.mine q p e).0)), λ not. absurd (not hit)),
      ))
      (λ (miss : x ≢ 0). (
        me.0,
        keeps,
        tt,
        subst (λ b. R (stepped s 0 (either b 1 x) id me.1 me.0 keeps)) (sym (ne_eqb x 0 miss)) (unmoved s r id me at),
        ((λ z. absurd (miss z)), λ _. refl),
      ))

  pub agrees_keeps : (slots id : ℕ) (me : Me (Option T) (View N P)) → Allows R slots id me 0 (λ n. n) (Agrees (step slots 0 0 0 none) me)
  agrees_keeps slots id me s r _ at _ = let mine = r.each id me.0 at in (me.0, keeps, tt, unmoved s r id me at, (refl, mine.begun, mine.apart))
