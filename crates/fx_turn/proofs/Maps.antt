-- What parts a number has after a cut or a union.
use Rattle.std.proofs.Common.{◌≡◌, ℕ, ◌⊎◌, inl, inr, ⊎_elim, Bool, true, false, not, cond, ◌&&◌, sym, refl, ap, ◌∙◌, Option, Some, None}
use Rattle.std.specs.Option.{is_some, option_or}
use Rattle.std.specs.Ordering.{nat_cmp}
use Rattle.std.specs.FinMap.{empty, get, retain_keys, get-empty}
use Rattle.fx_turn.specs.PartLaws.{get-kept, get-union}
use Rattle.fx_turn.specs.Parts.{Parts, Has, AreApart, union, is_others, without_others}

pub bool_is : (b : Bool) → (b ≡ true) ⊎ (b ≡ false)
bool_is true = inl refl
bool_is false = inr refl

pub not_both : (b : Bool) → b ≡ true → b ≡ false → ⊥
not_both b t f = cc

and_false : (b : Bool) → (b && false) ≡ false
and_false true = refl
and_false false = refl

module _ {P : Type 0} where
  pub none_some : (x : P) → None ≡ Some x → ⊥
  none_some x e = cc

  pub none_or : (o : Option P) → (o ≡ None) ⊎ ((x : P) × (o ≡ Some x))
  none_or None = inl refl
  none_or (Some x) = inr (x, refl)

  some_of : (o : Option P) → is_some o ≡ true → (x : P) × (o ≡ Some x)
  some_of None e = absurd (not_both false e refl)
  some_of (Some x) e = (x, refl)

  pub has_some : (m : Parts P) (q : ℕ) → Has m q → (x : P) × (get m q ≡ Some x)
  has_some m q h = some_of (get m q) h

  pub some_has : (m : Parts P) (q : ℕ) (x : P) → get m q ≡ Some x → Has m q
  some_has m q x e = ap is_some e

  -- no number has a part in an empty map
  pub none_apart : (m : Parts P) → AreApart empty m
  none_apart m q h g = let t = has_some empty q h in none_some t.0 (sym (get-empty nat_cmp q) ∙ t.1)

  in_cond : (b : Bool) (o : Option P) (x : P) → cond b o None ≡ Some x → (b ≡ true) × (o ≡ Some x)
  in_cond true o x e = (refl, e)
  in_cond false o x e = absurd (none_some x e)

  pub kept_in : (m : Parts P) (t : ℕ → Bool) (q : ℕ) (x : P) → get (retain_keys m t) q ≡ Some x → (t q ≡ true) × (get m q ≡ Some x)
  kept_in m t q x e = in_cond (t q) (get m q) x (sym (get-kept m t q) ∙ e)

  pub kept_if : (m : Parts P) (t : ℕ → Bool) (q : ℕ) (x : P) → t q ≡ true → get m q ≡ Some x → get (retain_keys m t) q ≡ Some x
  kept_if m t q x h e = get-kept m t q ∙ (ap (λ b. cond b (get m q) None) h ∙ e)

  pub union_left : (m n : Parts P) (q : ℕ) (x : P) → get m q ≡ Some x → get (union m n) q ≡ Some x
  union_left m n q x e = get-union m n q ∙ ap (λ o. option_or o (get n q)) e

  pub union_right : (m n : Parts P) (q : ℕ) (x : P) → get m q ≡ None → get n q ≡ Some x → get (union m n) q ≡ Some x
  union_right m n q x none e = get-union m n q ∙ (ap (λ o. option_or o (get n q)) none ∙ e)

  pub union_in : (m n : Parts P) (q : ℕ) (x : P) → get (union m n) q ≡ Some x → (get m q ≡ Some x) ⊎ (get n q ≡ Some x)
  union_in m n q x e = ⊎_elim (λ none. inr (sym (get-union m n q ∙ ap (λ o. option_or o (get n q)) none) ∙ e)) (λ (t : (y : P) × (get m q ≡ Some y)). inl (t.1 ∙ (sym (union_left m n q t.0 t.1) ∙ e))) (none_or (get m q))

  -- a number's owner, by whether a map has it
  pub if_some : (o : Option P) (x : P) (a b : ℕ) → o ≡ Some x → cond (is_some o) a b ≡ a
  if_some o x a b e = ap (λ (z : Option P). cond (is_some z) a b) e

  pub if_none : (o : Option P) (a b : ℕ) → o ≡ None → cond (is_some o) a b ≡ b
  if_none o a b e = ap (λ (z : Option P). cond (is_some z) a b) e

  pub others_yes : (all mine : Parts P) (q : ℕ) (x : P) → get all q ≡ Some x → get mine q ≡ None → is_others all mine q ≡ true
  others_yes all mine q x e none = λ i. is_some (e i) && not (is_some (none i))

  pub others_not : (all mine : Parts P) (q : ℕ) → not (is_others all mine q) ≡ true → is_others all mine q ≡ false
  others_not all mine q e = elim (is_others all mine q) as (λ b. not b ≡ true → b ≡ false) [ true ↦ λ z. sym z | false ↦ λ z. refl ] e

  pub others_lack : (all mine : Parts P) (q : ℕ) (x : P) → is_others all mine q ≡ true → get mine q ≡ Some x → ⊥
  others_lack all mine q x out e = not_both (is_others all mine q) out (ap (λ (z : Option P). is_some (get all q) && not (is_some z)) e ∙ and_false (is_some (get all q)))

  -- a number of mine has in what is left what it has in the new parts
  pub kept_mine : (all mine new : Parts P) (q : ℕ) → Has mine q → get (without_others all mine new) q ≡ get new q
  kept_mine all mine new q h = get-kept new (λ q. not (is_others all mine q)) q ∙ ap (λ (b : Bool). cond b (get new q) None) (ap (λ (z : Bool). not (is_some (get all q) && not z)) h ∙ ap not (and_false (is_some (get all q))))
