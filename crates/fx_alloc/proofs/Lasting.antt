-- What was reserved can be drawn, and what was set aside can be laid.
use Rattle.std.proofs.Common.{◌≡◌, ℕ, ◌+◌, ◌<◌, ◌≤◌, zero, suc, Bool, not, cond, ◌==◌, ◌&&◌, List, [], ◌∷◌, length, get_or, set, map, count_by, Option, Some, None, IsSomeAnd, refl, sym, ◌∙◌, ap, subst, arith, ltb, length-set, inl, inr}
use Rattle.std.specs.List.{position_or_len}
use Rattle.std.proofs.lemmas.List.{get_or-set_same}
use Rattle.std.proofs.lemmas.List.Sums.{sum_by-set, sum_by-cons, get_or-le-sum_by}
use Rattle.fx_alloc.specs.declared.uses.Use.{Use}
use Rattle.fx_alloc.specs.declared.uses.Use.TheVariants.{Free, Drawn, Laid}
use Rattle.fx_alloc.specs.declared.holders.Holder.{Holder}
use Rattle.fx_alloc.specs.declared.holders.TheConstants.{VACANT}
use Rattle.fx_alloc.specs.Uses.{is_free, is_laid}
use Rattle.fx_alloc.specs.Holders.{held_seat, sits_on, needing, having_drawn}
use Rattle.fx_alloc.specs.Space.{Space, undrawn, left_aside, free_count, laid_of, holder_at, reserved, drawing, setting_aside, laying, unlaid, bound_with, no_need, CanReserve}
use Rattle.fx_alloc.specs.SpaceFacts.{CanDraw, DrawsLast, CanLay, CheckpointsLast}
use Rattle.fx_alloc.proofs.Positions.{position-some}
use Rattle.fx_alloc.proofs.UseLists.{moved, within}
use Rattle.fx_alloc.proofs.SpaceSwitched.{each_use}

place-same : (p : Holder → Bool) (xs : List Holder) (i : ℕ) (y : Holder) → p y ≡ p (get_or xs i VACANT) → position_or_len p (set xs i y) ≡ position_or_len p xs
place-same p [] i y e = refl
place-same p (x ∷ xs) zero y e = ap (λ (b : Bool). cond (not b) (1 + position_or_len p xs) 0) e
place-same p (x ∷ xs) (suc i) y e = ap (λ (n : ℕ). cond (not (p x)) (1 + n) 0) (place-same p xs i y e)

pub seat-same : (holders : List Holder) (who seat : ℕ) (h : Holder) → held_seat holders who ≡ Some seat → h.sits ≡ (holder_at holders seat).sits → h.who ≡ (holder_at holders seat).who → held_seat (set holders seat h) who ≡ Some seat
seat-same holders who seat h e s w =
    let same : sits_on who h ≡ sits_on who (holder_at holders seat) = ap (λ (b : Bool). b && (h.who == who)) s ∙ ap (λ (n : ℕ). (holder_at holders seat).sits && (n == who)) w in
    let place : position_or_len (λ x. sits_on who x) (set holders seat h) ≡ position_or_len (λ x. sits_on who x) holders = place-same (λ x. sits_on who x) holders seat h same in
    ap (λ (n : ℕ). cond (ltb n (length (set holders seat h))) (Some n) None) place
    ∙ ap (λ (n : ℕ). cond (ltb (position_or_len (λ x. sits_on who x) holders) n) (Some (position_or_len (λ x. sits_on who x) holders)) None) (length-set holders seat h)
    ∙ e

-- so many draws, where as many blocks are held at a seat
can-draw : (n : ℕ) (s : Space) (who seat : ℕ) → undrawn s.holders ≤ free_count s → held_seat s.holders who ≡ Some seat → n ≤ (holder_at s.holders seat).held → CanDraw n s who
can-draw zero s who seat fits e l = tt
can-draw (suc n) s who seat fits e l =
    let below : seat < length s.holders = (position-some (λ x. sits_on who x) s.holders seat VACANT e).0 in
    let most = get_or-le-sum_by (λ (x : Holder). x.held) s.holders seat VACANT below in (
      subst (λ (o : Option ℕ). IsSomeAnd o (λ k. 0 < (holder_at s.holders k).held)) (sym e) (omega (arith, l)),
      omega (arith, most, l, fits),
      λ block at free here. subst (λ (k : ℕ). CanDraw n (drawing s block k) who) (same_seat seat at (sym e ∙ here)) (can-draw n (drawing s block seat) who seat
          (let h = sum_by-set (λ (x : Holder). x.held) s.holders seat (having_drawn (holder_at s.holders seat)) VACANT below in
          let f = moved (λ u. is_free u) s.uses block Free (Drawn seat) (within s.uses block Free free (λ x. cc)) free in
          omega (arith, h, f, fits, l))
          (seat-same s.holders who seat (having_drawn (holder_at s.holders seat)) e refl refl)
          (let g = ap (λ (x : Holder). x.held) (get_or-set_same s.holders seat (having_drawn (holder_at s.holders seat)) VACANT below) in omega (arith, g, l))),
    )
  where
    same_seat : (k i : ℕ) → Some k ≡ Some i → k ≡ i
    same_seat k i q = cc

pub draws-last : DrawsLast
draws-last s who seat need sound e can =
    let below : seat < length s.holders = (position-some (λ x. sits_on who x) s.holders seat VACANT e).0 in
    let h = sum_by-set (λ (x : Holder). x.held) s.holders seat (needing (holder_at s.holders seat) need) VACANT below in
    let g = ap (λ (x : Holder). x.held) (get_or-set_same s.holders seat (needing (holder_at s.holders seat) need) VACANT below) in
    can-draw ((holder_at s.holders seat).held + need.blocks) (reserved s need seat) who seat (fits can h) (seat-same s.holders who seat (needing (holder_at s.holders seat) need) e refl refl) (omega (arith, g))
  where
    fits : CanReserve s need → undrawn (reserved s need seat).holders + (holder_at s.holders seat).held ≡ undrawn s.holders + ((holder_at s.holders seat).held + need.blocks) → undrawn (reserved s need seat).holders ≤ free_count s
    fits (inl z) h = (let q = sound.held in omega (arith, h, z.2, q))
    fits (inr c) h = (let q = c.1 in omega (arith, h, q))

none_laid-after : (us : List Use) → count_by is_laid (map unlaid us) ≡ 0
none_laid-after [] = refl
none_laid-after (x ∷ xs) =
    let a : count_by is_laid (unlaid x ∷ map unlaid xs) ≡ cond (is_laid (unlaid x)) 1 0 + count_by is_laid (map unlaid xs) = sum_by-cons (λ u. cond (is_laid u) 1 0) (unlaid x) (map unlaid xs) in
    omega (arith, a, never x, none_laid-after xs)
  where
    never : (u : Use) → cond {A = ℕ} (is_laid (unlaid u)) 1 0 ≡ 0
    never = each_use (λ u. cond {A = ℕ} (is_laid (unlaid u)) 1 0 ≡ 0) refl refl (λ k. refl) refl refl refl refl refl

free-unlaid : (us : List Use) → count_by is_free (map unlaid us) ≡ count_by is_free us + count_by is_laid us
free-unlaid [] = refl
free-unlaid (x ∷ xs) =
    let a : count_by is_free (unlaid x ∷ map unlaid xs) ≡ cond (is_free (unlaid x)) 1 0 + count_by is_free (map unlaid xs) = sum_by-cons (λ u. cond (is_free u) 1 0) (unlaid x) (map unlaid xs) in
    let b : count_by is_free (x ∷ xs) ≡ cond (is_free x) 1 0 + count_by is_free xs = sum_by-cons (λ u. cond (is_free u) 1 0) x xs in
    let c : count_by is_laid (x ∷ xs) ≡ cond (is_laid x) 1 0 + count_by is_laid xs = sum_by-cons (λ u. cond (is_laid u) 1 0) x xs in
    omega (arith, a, b, c, either x, free-unlaid xs)
  where
    either : (u : Use) → cond {A = ℕ} (is_free (unlaid u)) 1 0 ≡ cond {A = ℕ} (is_free u) 1 0 + cond {A = ℕ} (is_laid u) 1 0
    either = each_use (λ u. cond {A = ℕ} (is_free (unlaid u)) 1 0 ≡ cond {A = ℕ} (is_free u) 1 0 + cond {A = ℕ} (is_laid u) 1 0) refl refl (λ k. refl) refl refl refl refl refl

-- so many layings, where as many blocks are set aside
one-laid : (o : Option ℕ) (k : ℕ) → 0 < left_aside o k → left_aside o (k + 1) + 1 ≡ left_aside o k
one-laid None k l = absurd (omega (arith, l))
one-laid (Some m) k l = omega (arith, l)

can-lay : (n : ℕ) (s : Space) → left_aside s.aside (laid_of s) ≤ free_count s → n ≤ left_aside s.aside (laid_of s) → CanLay n s
can-lay zero s fits l = tt
can-lay (suc n) s fits l = (
  omega (arith, l),
  omega (arith, l, fits),
  λ block free. (let b : block < length s.uses = within s.uses block Free free (λ x. cc) in
      let f = moved (λ u. is_free u) s.uses block Free Laid b free in
      let g : laid_of (laying s block) ≡ laid_of s + 1 = (let m = moved (λ u. is_laid u) s.uses block Free Laid b free in omega (arith, m)) in
      let left : left_aside s.aside (laid_of (laying s block)) + 1 ≡ left_aside s.aside (laid_of s) = subst (λ (k : ℕ). left_aside s.aside k + 1 ≡ left_aside s.aside (laid_of s)) (sym g) (one-laid s.aside (laid_of s) (omega (arith, l))) in
      can-lay n (laying s block) (omega (arith, left, f, fits)) (omega (arith, left, l))),
)

pub checkpoints-last : CheckpointsLast
checkpoints-last s sound can =
    let none : laid_of (setting_aside s) ≡ 0 = none_laid-after s.uses in
    let free : free_count (setting_aside s) ≡ free_count s + laid_of s = free-unlaid s.uses in
    can-lay (bound_with s no_need) (setting_aside s) (omega (arith, none, free, can)) (omega (arith, none))
