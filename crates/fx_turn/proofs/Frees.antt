-- To free the turn, with a value whose log has grown and whose other parts are as they were, keeps its rule.
use Rattle.std.proofs.Common.{◌≡◌, ℕ, ◌≢◌, ⊎_elim, Bool, true, false, not, cond, List, [], ◌∷◌, get_or, set, sym, refl, ap, ◌∙◌, subst, arith, Option, Some, None, count_by, length-set, get_or-set_same}
use Rattle.std.specs.FinMap.{empty, get}
use mathlib.Core.Option.{none, some}
use mathlib.Core.List.{IsPrefix}
use lib.ListN.{get_elem?}
use Rattle.atomic_table.specs.Table.{State, Me, step, gives, Allows}
use Rattle.atomic_table.proofs.Lists.{set_here, set_else}
use Rattle.fx_turn.specs.declared.view.View.{View}
use Rattle.fx_turn.specs.Parts.{Parts, KeepsOthers, is_others, without_others}
use Rattle.fx_turn.specs.Views.{given, stays}
use Rattle.fx_turn.specs.Rule.{Knows, Ruled, Frees}
use Rattle.fx_turn.proofs.Lists.{prefix_self, prefix_trans, nil_begins, count_grows}
use Rattle.fx_turn.proofs.Seats.{slot_same, set_there, each_set, at_same, sum_set}
use Rattle.fx_turn.proofs.Maps.{bool_is, not_both, none_or, none_apart, kept_in, kept_if, others_yes, others_not, others_lack}

module _ {T N P : Type 0} (log : T → List N) (counts : N → Bool) (parts : T → Parts P) (n : ℕ) where
  abbrev R : State (Option T) (View N P) → Type 0
  R = Ruled log counts parts n

  frees_at : (id : ℕ) (v : View N P) (x : T) → v.holds ≡ true → IsPrefix v.taken_log (log x) → KeepsOthers v.taken_parts v.mine (parts x)
      → Allows R 1 id (v, (0, Some x) ∷ []) 0 (λ _. 0) (λ _. Frees log counts parts (step 1 0 0 0 none) (v, (0, Some x) ∷ []) 0)
  frees_at id v x busy longer_log stays s r wide at _ =
      let zero_now : get_or (set s.words 0 0) 0 0 ≡ 0 = get_or-set_same s.words 0 0 0 (let l = r.one_word in omega arith) in
      let knows = r.each id v at in let mine = knows.busy busy in
      let was : v.taken_log ≡ r.all = mine.2 in
      let had : v.taken_parts ≡ r.whole = mine.3 in
      let stays' : KeepsOthers r.whole v.mine (parts x) = subst (λ (z : Parts P). KeepsOthers z v.mine (parts x)) had stays in
      let grown : IsPrefix r.all (log x) = subst (λ l. IsPrefix l (log x)) was longer_log in
      let w : View N P = given counts v (log x) (parts x) in
      let w_mine : w.mine ≡ without_others r.whole v.mine (parts x) = ap (λ (z : Parts P). without_others z v.mine (parts x)) had in
      let owner : ℕ → ℕ = λ q. cond (is_others r.whole v.mine q) (r.owner q) id in
      let K : ℕ → View N P → Type 0 = Knows (log x) (parts x) owner (get_or (set s.words 0 0) 0 0) id in (
        w,
        gives,
        tt,
        record {
          all = log x;
          whole = parts x;
          owner = owner;
          holder = id;
          top = id;
          one_word = length-set s.words 0 0 ∙ r.one_word;
          home = λ _. (x, set_here s.homes 0 (some (Some x)) (omega arith), refl, refl);
          held = λ ne. absurd (ne zero_now);
          each = each_set K s.views id w
              record {
                seen = prefix_self (log x);
                busy = λ e. absurd (not_both false e refl);
                idle = λ z. absurd (let p = mine.4 in omega arith);
                mine = λ q p e. let t = kept_in (parts x) (λ q. not (is_others r.whole v.mine q)) q p (ap (λ (z : Parts P). get z q) (sym w_mine) ∙ e) in (t.1, ap (λ (b : Bool). cond b (r.owner q) id) (others_not r.whole v.mine q t.0));
                begun = nil_begins (log x);
                apart = none_apart empty;
              }
              (λ j u ne is. let k = r.each j u is in record {
                seen = prefix_trans u.seen r.all (log x) k.seen grown;
                busy = λ e. absurd (ne ((k.busy e).0 ∙ sym mine.0));
                idle = k.idle;
                mine = λ q p e. let t = k.mine q p e in
                    let lacks : get v.mine q ≡ None = ⊎_elim (λ (o : get v.mine q ≡ None). o) (λ (o : (y : P) × (get v.mine q ≡ Some y)). absurd (ne (sym t.1 ∙ (knows.mine q o.0 o.1).1))) (none_or (get v.mine q)) in
                    let out = others_yes r.whole v.mine q p t.0 lacks in (stays' q out ∙ t.0, ap (λ (b : Bool). cond b (r.owner q) id) out ∙ t.1);
                begun = k.begun;
                apart = k.apart;
              });
          last = (w, set_there s.views id v w at, refl, mine.4);
          owns = (let t = sum_set (λ v. v.own) s.views id v w at in let o = r.owns in let more = count_grows counts r.all (log x) grown in let same = ap (count_by counts) was in omega arith);
          sum = (let t = sum_set (λ v. v.shares) s.views id v w at in let o = r.sum in omega arith);
          covered = λ q p e. ⊎_elim
              (λ (out : is_others r.whole v.mine q ≡ true). let c = r.covered q p (sym (stays' q out) ∙ e) in let own : owner q ≡ r.owner q = ap (λ (b : Bool). cond b (r.owner q) id) out in
              let other : r.owner q ≢ id = λ same. others_lack r.whole v.mine q p out (ap (λ (z : View N P). get z.mine q) (sym (at_same s.views (r.owner q) id c.0 v c.1 at same)) ∙ c.2) in
              (c.0, ap (get_elem? (set s.views id w)) own ∙ (set_else s.views id (r.owner q) w other ∙ c.1), c.2))
              (λ (within : is_others r.whole v.mine q ≡ false). let own : owner q ≡ id = ap (λ (b : Bool). cond b (r.owner q) id) within in
              (w, ap (get_elem? (set s.views id w)) own ∙ set_there s.views id v w at, ap (λ (z : Parts P). get z q) w_mine ∙ kept_if (parts x) (λ q. not (is_others r.whole v.mine q)) q p (ap not within) e))
              (bool_is (is_others r.whole v.mine q));
        },
        λ y e. ap (λ (z : T). (given counts v (log z) (parts z), [])) (slot_same x y e),
      )

  pub frees_keeps : (slots id : ℕ) (me : Me (Option T) (View N P)) (x : T) → slots ≡ 1 → me.1 ≡ (0, Some x) ∷ [] → me.0.holds ≡ true → IsPrefix me.0.taken_log (log x) → KeepsOthers me.0.taken_parts me.0.mine (parts x)
      → Allows R slots id me 0 (λ _. 0) (λ _. Frees log counts parts (step slots 0 0 0 none) me 0)
  frees_keeps slots id me x one out busy grown stays = subst (λ (z : ℕ × List (ℕ × Option T)). Allows R z.0 id (me.0, z.1) 0 (λ _. 0) (λ _. Frees log counts parts (step z.0 0 0 0 none) (me.0, z.1) 0)) (λ i. (sym one i, sym out i))
      (frees_at id me.0 x busy grown stays)
