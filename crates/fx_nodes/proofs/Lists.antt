-- What stands in lists that are put together.
use Rattle.std.proofs.Common.{◌≡◌, ◌⊎◌, inl, inr, ℕ, ◌<◌, List, [], ◌∷◌, ◌++◌, map, length, get_or, refl, sym, ap, subst, ◌∙◌, Bool, true, false, cond, zero, suc, arith}
use Rattle.std.specs.Prelude.{Option, Some, None, Contains}
use Rattle.std.specs.List.{filter, filter_map, flat_map, cons_option}
use Rattle.fx_nodes.specs.Lists.{IsIn, IsRepeated}

module _ {X : Type 0} where
  pub in_left : (xs ys : List X) (x : X) → IsIn xs x → IsIn (xs ++ ys) x
  in_left [] ys x h = absurd h
  in_left (z ∷ xs) ys x (inl e) = inl e
  in_left (z ∷ xs) ys x (inr h) = inr (in_left xs ys x h)

  pub in_right : (xs ys : List X) (x : X) → IsIn ys x → IsIn (xs ++ ys) x
  in_right [] ys x h = h
  in_right (z ∷ xs) ys x h = inr (in_right xs ys x h)

  pub in_cases : (xs ys : List X) (x : X) → IsIn (xs ++ ys) x → IsIn xs x ⊎ IsIn ys x
  in_cases [] ys x h = inr h
  in_cases (z ∷ xs) ys x (inl e) = inl (inl e)
  in_cases (z ∷ xs) ys x (inr h) = elim (in_cases xs ys x h) [ inl a ↦ inl (inr a) | inr a ↦ inr a ]

  pub in_last : (xs : List X) (x : X) → IsIn (xs ++ x ∷ []) x
  in_last xs x = in_right xs (x ∷ []) x (inl refl)

  pub last_cases : (xs : List X) (y x : X) → IsIn (xs ++ y ∷ []) x → IsIn xs x ⊎ (y ≡ x)
  last_cases xs y x h = elim (in_cases xs (y ∷ []) x h) [ inl a ↦ inl a | inr a ↦ inr (elim a [ inl e ↦ e | inr b ↦ absurd b ]) ]

  pub contains_from : (xs : List X) (x : X) → IsIn xs x → Contains xs x
  contains_from [] x h = absurd h
  contains_from (y ∷ xs) x (inl e) = (0, omega arith, e)
  contains_from (y ∷ xs) x (inr h) = let c = contains_from xs x h in (suc c.0, omega (arith, c.1), c.2)

  pub in_from : (xs : List X) (x : X) → Contains xs x → IsIn xs x
  in_from xs x c = by_place xs c.0 c.1 c.2
    where
      by_place : (ys : List X) (k : ℕ) → k < length ys → get_or ys k x ≡ x → IsIn ys x
      by_place [] k less is = absurd (omega arith)
      by_place (y ∷ ys) zero less is = inl is
      by_place (y ∷ ys) (suc k) less is = inr (by_place ys k (omega arith) is)

module _ {X : Type 0} (p : X → Bool) where
  filter_step : (y : X) (xs : List X) (x : X) (b : Bool) → p y ≡ b → p x ≡ true → (IsIn xs x → IsIn (filter p xs) x) → (y ≡ x) ⊎ IsIn xs x → IsIn (cond b (y ∷ filter p xs) (filter p xs)) x
  filter_step y xs x true t e ih (inl is) = inl is
  filter_step y xs x true t e ih (inr g) = inr (ih g)
  filter_step y xs x false t e ih (inl is) = absurd (cc (sym t ∙ ap p is ∙ e))
  filter_step y xs x false t e ih (inr g) = ih g

  pub in_filter : (xs : List X) (x : X) → IsIn xs x → p x ≡ true → IsIn (filter p xs) x
  in_filter [] x h e = absurd h
  in_filter (y ∷ xs) x h e = filter_step y xs x (p y) refl e (λ g. in_filter xs x g e) h

  back_step : (y : X) (xs : List X) (x : X) (b : Bool) → p y ≡ b → (IsIn (filter p xs) x → IsIn xs x × (p x ≡ true)) → IsIn (cond b (y ∷ filter p xs) (filter p xs)) x → ((y ≡ x) ⊎ IsIn xs x) × (p x ≡ true)
  back_step y xs x true t ih (inl is) = (inl is, ap p (sym is) ∙ t)
  back_step y xs x true t ih (inr g) = let i = ih g in (inr i.0, i.1)
  back_step y xs x false t ih g = let i = ih g in (inr i.0, i.1)

  pub filter_in : (xs : List X) (x : X) → IsIn (filter p xs) x → IsIn xs x × (p x ≡ true)
  filter_in [] x h = absurd h
  filter_in (y ∷ xs) x h = back_step y xs x (p y) refl (filter_in xs x) h

module _ {X Y : Type 0} where
  pub in_map : (f : X → Y) (xs : List X) (x : X) → IsIn xs x → IsIn (map f xs) (f x)
  in_map f [] x h = absurd h
  in_map f (y ∷ xs) x (inl e) = inl (ap f e)
  in_map f (y ∷ xs) x (inr h) = inr (in_map f xs x h)

  pub map_in : (f : X → Y) (xs : List X) (y : Y) → IsIn (map f xs) y → (x : X) × IsIn xs x × (f x ≡ y)
  map_in f [] y h = absurd h
  map_in f (x ∷ xs) y (inl e) = (x, inl refl, e)
  map_in f (x ∷ xs) y (inr h) = let i = map_in f xs y h in (i.0, inr i.1, i.2)

  pub in_flat : (f : X → List Y) (xs : List X) (x : X) (y : Y) → IsIn xs x → IsIn (f x) y → IsIn (flat_map f xs) y
  in_flat f [] x y h g = absurd h
  in_flat f (z ∷ xs) x y (inl e) g = in_left (f z) (flat_map f xs) y (subst (λ w. IsIn (f w) y) (sym e) g)
  in_flat f (z ∷ xs) x y (inr h) g = in_right (f z) (flat_map f xs) y (in_flat f xs x y h g)

  flat_step : (f : X → List Y) (x : X) (xs : List X) (y : Y) → ((z : X) × IsIn xs z × IsIn (f z) y) → (z : X) × ((x ≡ z) ⊎ IsIn xs z) × IsIn (f z) y
  flat_step f x xs y i = (i.0, inr i.1, i.2)

  pub flat_in : (f : X → List Y) (xs : List X) (y : Y) → IsIn (flat_map f xs) y → (x : X) × IsIn xs x × IsIn (f x) y
  flat_in f [] y h = absurd h
  flat_in f (x ∷ xs) y h = elim (in_cases (f x) (flat_map f xs) y h) [
    | inl a ↦ (x, inl refl, a)
    | inr a ↦ flat_step f x xs y (flat_in f xs y a)
  ]

  option_step : (f : X → Option Y) (xs : List X) (y : Y) (o : Option Y) → IsIn (filter_map f xs) y → IsIn (cons_option o (filter_map f xs)) y
  option_step f xs y None h = h
  option_step f xs y (Some w) h = inr h

  pub in_filter_map : (f : X → Option Y) (xs : List X) (x : X) (y : Y) → IsIn xs x → f x ≡ Some y → IsIn (filter_map f xs) y
  in_filter_map f [] x y h e = absurd h
  in_filter_map f (z ∷ xs) x y (inl is) e = subst (λ o. IsIn (cons_option o (filter_map f xs)) y) (sym e ∙ sym (ap f is)) (inl refl)
  in_filter_map f (z ∷ xs) x y (inr h) e = option_step f xs y (f z) (in_filter_map f xs x y h e)

  map_step : (f : X → Option Y) (x : X) (xs : List X) (y : Y) (o : Option Y) → f x ≡ o → (IsIn (filter_map f xs) y → (z : X) × IsIn xs z × (f z ≡ Some y))
      → IsIn (cons_option o (filter_map f xs)) y → (z : X) × ((x ≡ z) ⊎ IsIn xs z) × (f z ≡ Some y)
  map_step f x xs y None e ih g = let i = ih g in (i.0, inr i.1, i.2)
  map_step f x xs y (Some w) e ih (inl is) = (x, inl refl, e ∙ ap Some is)
  map_step f x xs y (Some w) e ih (inr g) = let i = ih g in (i.0, inr i.1, i.2)

  pub filter_map_in : (f : X → Option Y) (xs : List X) (y : Y) → IsIn (filter_map f xs) y → (x : X) × IsIn xs x × (f x ≡ Some y)
  filter_map_in f [] y h = absurd h
  filter_map_in f (x ∷ xs) y h = map_step f x xs y (f x) refl (filter_map_in f xs y) h

module _ {X : Type 0} where
  -- ---- twice

  pub repeated_before : (xs : List X) (y x : X) → IsRepeated xs x → IsRepeated (xs ++ y ∷ []) x
  repeated_before [] y x h = absurd h
  repeated_before (z ∷ xs) y x (inl a) = inl (a.0, in_left xs (y ∷ []) x a.1)
  repeated_before (z ∷ xs) y x (inr h) = inr (repeated_before xs y x h)

  pub repeated_last : (xs : List X) (x : X) → IsIn xs x → IsRepeated (xs ++ x ∷ []) x
  repeated_last [] x h = absurd h
  repeated_last (z ∷ xs) x (inl e) = inl (e, in_last xs x)
  repeated_last (z ∷ xs) x (inr h) = inr (repeated_last xs x h)

  pub repeated_cases : (xs : List X) (y x : X) → IsRepeated (xs ++ y ∷ []) x → IsRepeated xs x ⊎ ((y ≡ x) × IsIn xs x)
  repeated_cases [] y x (inl a) = absurd a.1
  repeated_cases [] y x (inr h) = absurd h
  repeated_cases (z ∷ xs) y x (inl a) = elim (last_cases xs y x a.1) [ inl b ↦ inl (inl (a.0, b)) | inr b ↦ inr (b, inl a.0) ]
  repeated_cases (z ∷ xs) y x (inr h) = elim (repeated_cases xs y x h) [ inl b ↦ inl (inr b) | inr b ↦ inr (b.0, inr b.1) ]

pub no_items : {X : Type 0} (xs : List X) → length xs ≡ 0 → xs ≡ []
no_items [] e = refl
no_items (x ∷ xs) e = absurd (omega arith)
