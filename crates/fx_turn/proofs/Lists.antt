-- Lists of which one begins another, and of which the longer is taken.
use Rattle.std.proofs.Common.{◌≡◌, ◌<◌, ◌≤◌, Bool, true, false, cond, List, [], ◌∷◌, ◌++◌, length, sym, refl, ap, ◌∙◌, arith, append_assoc, length-append, count_by, ltb-true, ltb-false}
use Rattle.std.proofs.lemmas.List.Sums.{sum_by-append}
use mathlib.Core.List.{IsPrefix, append-nil}
use lib.Dec.{ltb}
use Rattle.fx_turn.specs.Lists.{longer, shorter}

module _ {A : Type 0} where
  pub prefix_self : (l : List A) → IsPrefix l l
  prefix_self l = ([], append-nil l)

  pub prefix_trans : (a b c : List A) → IsPrefix a b → IsPrefix b c → IsPrefix a c
  prefix_trans a b c p q = (p.0 ++ q.0, sym (append_assoc a p.0 q.0) ∙ (ap (λ (l : List A). l ++ q.0) p.1 ∙ q.1))

  pub prefix_length : (a b : List A) → IsPrefix a b → length a ≤ length b
  prefix_length a b p = omega (arith, sym (ap length p.1) ∙ length-append a p.0)

  pub nil_begins : (l : List A) → IsPrefix [] l
  nil_begins l = (l, refl)

  -- of two beginnings of one list, the shorter begins the other
  pub prefix_of_two : (a b all : List A) → IsPrefix a all → IsPrefix b all → length a ≤ length b → IsPrefix a b
  prefix_of_two [] b all p q le = nil_begins b
  prefix_of_two (x ∷ a) [] all p q le = absurd (omega arith)
  prefix_of_two (x ∷ a) (y ∷ b) [] p q le = absurd (cc (p.1))
  prefix_of_two (x ∷ a) (y ∷ b) (z ∷ all) p q le = let rest = prefix_of_two a b all (p.0, cc (p.1)) (q.0, cc (q.1)) (omega arith) in (rest.0, cc (p.1, q.1, rest.1))

  -- a beginning that is as long is the whole
  pub prefix_whole : (a b : List A) → IsPrefix a b → length b ≤ length a → a ≡ b
  prefix_whole [] [] p le = refl
  prefix_whole [] (y ∷ b) p le = absurd (omega arith)
  prefix_whole (x ∷ a) [] p le = absurd (cc (p.1))
  prefix_whole (x ∷ a) (y ∷ b) p le = let rest = prefix_whole a b (p.0, cc (p.1)) (omega arith) in cc (p.1, rest)

  by_test : (a b : List A) (P : List A → List A → Type 0) (t : Bool) → ltb (length a) (length b) ≡ t → (length a < length b → P a b) → (length b ≤ length a → P b a) → P (cond t a b) (cond t b a)
  by_test a b P true e less more = less (ltb-true _ _ e)
  by_test a b P false e less more = more (ltb-false _ _ e)

  -- what holds of the two in the order of their lengths holds of the shorter and the longer
  pub by_length : (a b : List A) (P : List A → List A → Type 0) → (length a < length b → P a b) → (length b ≤ length a → P b a) → P (shorter a b) (longer a b)
  by_length a b P = by_test a b P (ltb (length a) (length b)) refl

  pub longer_begins : (a b all : List A) → IsPrefix a all → IsPrefix b all → IsPrefix (longer a b) all
  longer_begins a b all p q = by_length a b (λ s l. IsPrefix l all) (λ _. q) (λ _. p)

  pub shorter_begins : (a b all : List A) → IsPrefix a all → IsPrefix b all → IsPrefix (shorter a b) (longer a b)
  shorter_begins a b all p q = by_length a b (λ s l. IsPrefix s l) (λ h. prefix_of_two a b all p q (omega arith)) (λ h. prefix_of_two b a all q p h)

  -- where the shorter begins the longer, both do
  pub both_begin : (a b : List A) → IsPrefix (shorter a b) (longer a b) → IsPrefix a (longer a b) × IsPrefix b (longer a b)
  both_begin a b = by_length a b (λ s l. IsPrefix s l → IsPrefix a l × IsPrefix b l) (λ _ p. (p, prefix_self b)) (λ _ p. (prefix_self a, p))

  -- where one of the two is all, the longer is
  pub longer_left : (a b all : List A) → a ≡ all → IsPrefix b all → longer a b ≡ all
  longer_left a b all e q = by_length a b (λ s l. l ≡ all) (λ h. let p = prefix_length b all q in let l = ap length e in absurd (omega arith)) (λ _. e)

  pub longer_right : (a b all : List A) → IsPrefix a all → b ≡ all → longer a b ≡ all
  longer_right a b all p e = by_length a b (λ s l. l ≡ all) (λ _. e) (λ h. let l = ap length e in prefix_whole a all p (omega arith))

  pub count_grows : (counts : A → Bool) (a b : List A) → IsPrefix a b → count_by counts a ≤ count_by counts b
  count_grows counts a b p = let e = ap (count_by counts) p.1 in omega (arith, e, sum_by-append (λ x. cond (counts x) 1 0) a p.0)
