-- Lists whose values stand in them once.
use Rattle.std.proofs.Common.{◌≡◌, ◌≢◌, ◌⊎◌, inl, inr, ℕ, zero, suc, ◌+◌, ◌++◌, List, [], ◌∷◌, length, map, refl, sym, ap, subst, ◌∙◌, arith}
use Rattle.std.specs.Prelude.{Some, slice_get}
use Rattle.fx_node.specs.Counts.{AreAllOf, AreOnce, IsAmong}

module _ {A : Type 0} where
  -- ---- one value taken out

  abbrev without : (xs : List A) (y : A) → IsAmong xs y → List A
  without [] y h = []
  without (x ∷ xs) y (inl e) = xs
  without (x ∷ xs) y (inr h) = x ∷ without xs y h

  without_length : (xs : List A) (y : A) (h : IsAmong xs y) → length (without xs y h) + 1 ≡ length xs
  without_length [] y h = absurd h
  without_length (x ∷ xs) y (inl e) = omega arith
  without_length (x ∷ xs) y (inr h) = let r = without_length xs y h in omega (arith, r)

  without_kept : (xs : List A) (y : A) (h : IsAmong xs y) (z : A) → IsAmong (without xs y h) z → IsAmong xs z
  without_kept [] y h z i = absurd h
  without_kept (x ∷ xs) y (inl e) z i = inr i
  without_kept (x ∷ xs) y (inr h) z (inl e) = inl e
  without_kept (x ∷ xs) y (inr h) z (inr i) = inr (without_kept xs y h z i)

  without_other : (xs : List A) (y : A) (h : IsAmong xs y) (z : A) → IsAmong xs z → z ≢ y → IsAmong (without xs y h) z
  without_other [] y h z i ne = absurd h
  without_other (x ∷ xs) y (inl e) z (inl f) ne = absurd (ne (sym f ∙ e))
  without_other (x ∷ xs) y (inl e) z (inr i) ne = i
  without_other (x ∷ xs) y (inr h) z (inl f) ne = inl f
  without_other (x ∷ xs) y (inr h) z (inr i) ne = inr (without_other xs y h z i ne)

  without_gone : (xs : List A) (y : A) (h : IsAmong xs y) → AreOnce xs → IsAmong (without xs y h) y → ⊥
  without_gone [] y h o i = h
  without_gone (x ∷ xs) y (inl e) o i = o.0 (subst (IsAmong xs) (sym e) i)
  without_gone (x ∷ xs) y (inr h) o (inl e) = o.0 (subst (IsAmong xs) (sym e) h)
  without_gone (x ∷ xs) y (inr h) o (inr i) = without_gone xs y h o.1 i

  without_once : (xs : List A) (y : A) (h : IsAmong xs y) → AreOnce xs → AreOnce (without xs y h)
  without_once [] y h o = absurd h
  without_once (x ∷ xs) y (inl e) o = o.1
  without_once (x ∷ xs) y (inr h) o = (λ i. o.0 (without_kept xs y h x i), without_once xs y h o.1)

  -- ---- lists of all of which something holds

  pub same_all : (P Q : A → Type 0) (xs : List A) → AreAllOf P xs → ((x : A) → P x → Q x) → ((x : A) → Q x → P x) → AreAllOf Q xs
  same_all P Q xs a to back = record { every = λ x q. a.every x (back x q); only = λ x i. to x (a.only x i); once = a.once }

  take_out : (P : A → Type 0) (xs : List A) → AreAllOf P xs → (y : A) (h : IsAmong xs y) → AreAllOf (λ x. P x × (x ≢ y)) (without xs y h)
  take_out P xs a y h = record {
    every = λ x p. without_other xs y h x (a.every x p.0) p.1;
    only = λ x i. (a.only x (without_kept xs y h x i), λ e. without_gone xs y h a.once (subst (IsAmong (without xs y h)) e i));
    once = without_once xs y h a.once;
  }

  -- some of them taken out: what is left, and how many
  pub left_of : (ys : List A) (P : A → Type 0) (xs : List A) → AreAllOf P xs → AreOnce ys → ((y : A) → IsAmong ys y → P y)
      → (zs : List A) × AreAllOf (λ x. P x × (IsAmong ys x → ⊥)) zs × (length zs + length ys ≡ length xs)
  left_of [] P xs a o sub = (xs, same_all P (λ x. P x × (⊥ → ⊥)) xs a (λ x p. (p, λ e. e)) (λ x p. p.0), omega arith)
  left_of (y ∷ ys) P xs a o sub =
      let h = a.every y (sub y (inl refl)) in
      let r = left_of ys (λ x. P x × (x ≢ y)) (without xs y h) (take_out P xs a y h) o.1 (λ x i. (sub x (inr i), λ e. o.0 (subst (IsAmong ys) e i))) in (
        r.0,
        same_all (λ x. (P x × (x ≢ y)) × (IsAmong ys x → ⊥)) (λ x. P x × (IsAmong (y ∷ ys) x → ⊥)) r.0 r.1
            (λ x p. (p.0.0, λ i. elim i [ inl e ↦ p.0.1 (sym e) | inr j ↦ p.1 j ]))
            (λ x p. ((p.0, λ e. p.1 (inl (sym e))), λ i. p.1 (inr i))),
        (let e = r.2 in omega (arith, e, without_length xs y h)),
      )

  -- ---- places in a list, and lists put together

  pub among_place : (xs : List A) (x : A) → IsAmong xs x → (i : ℕ) × (slice_get xs i ≡ Some x)
  among_place [] x h = absurd h
  among_place (y ∷ xs) x (inl e) = (0, ap Some e)
  among_place (y ∷ xs) x (inr h) = let r = among_place xs x h in (suc r.0, r.1)

  pub place_among : (xs : List A) (i : ℕ) (x : A) → slice_get xs i ≡ Some x → IsAmong xs x
  place_among [] i x g = absurd (cc g)
  place_among (y ∷ xs) zero x g = inl (cc g)
  place_among (y ∷ xs) (suc i) x g = inr (place_among xs i x g)

  pub among_left : (xs ys : List A) (x : A) → IsAmong xs x → IsAmong (xs ++ ys) x
  among_left [] ys x h = absurd h
  among_left (y ∷ xs) ys x (inl e) = inl e
  among_left (y ∷ xs) ys x (inr h) = inr (among_left xs ys x h)

  pub among_right : (xs ys : List A) (x : A) → IsAmong ys x → IsAmong (xs ++ ys) x
  among_right [] ys x h = h
  among_right (y ∷ xs) ys x h = inr (among_right xs ys x h)

  pub among_either : (xs ys : List A) (x : A) → IsAmong (xs ++ ys) x → IsAmong xs x ⊎ IsAmong ys x
  among_either [] ys x h = inr h
  among_either (y ∷ xs) ys x (inl e) = inl (inl e)
  among_either (y ∷ xs) ys x (inr h) = elim (among_either xs ys x h) [ inl i ↦ inl (inr i) | inr i ↦ inr i ]

  pub once_append : (xs ys : List A) → AreOnce xs → AreOnce ys → ((x : A) → IsAmong xs x → IsAmong ys x → ⊥) → AreOnce (xs ++ ys)
  once_append [] ys o p apart = p
  once_append (x ∷ xs) ys o p apart =
      (λ h. elim (among_either xs ys x h) [ inl i ↦ o.0 i | inr i ↦ apart x (inl refl) i ], once_append xs ys o.1 p (λ z i j. apart z (inr i) j))

-- ---- lists of images

pub among_map : {A B : Type 0} (f : A → B) (xs : List A) (b : B) → IsAmong (map f xs) b → (x : A) × IsAmong xs x × (f x ≡ b)
among_map f [] b h = absurd h
among_map f (x ∷ xs) b (inl e) = (x, inl refl, e)
among_map f (x ∷ xs) b (inr h) = let r = among_map f xs b h in (r.0, inr r.1, r.2)

pub map_among : {A B : Type 0} (f : A → B) (xs : List A) (x : A) → IsAmong xs x → IsAmong (map f xs) (f x)
map_among f [] x h = absurd h
map_among f (y ∷ xs) x (inl e) = inl (ap f e)
map_among f (y ∷ xs) x (inr h) = inr (map_among f xs x h)

pub once_map : {A B : Type 0} (f : A → B) (one : (x y : A) → f x ≡ f y → x ≡ y) (xs : List A) → AreOnce xs → AreOnce (map f xs)
once_map f one [] o = tt
once_map f one (x ∷ xs) o = (λ h. (let r = among_map f xs (f x) h in o.0 (subst (IsAmong xs) (one r.0 x r.2) r.1)), once_map f one xs o.1)
