-- Lists of blocks of one use, and what a change of one block's use leaves of them.
use Rattle.std.proofs.Common.{◌≡◌, ◌≢◌, ℕ, ◌+◌, ◌-◌, ◌<◌, ◌≤◌, zero, suc, Bool, true, false, cond, List, [], ◌∷◌, ◌++◌, length, get_or, set, count_by, drop, replicate, ◌*◌, All, refl, sym, ◌∙◌, ap, subst, arith, add-one, length-set, length-append, inl, inr}
use Rattle.std.proofs.lemmas.List.{get_or-set_same, get_or-set_other, get_or-replicate, get_or-append_right, drop_all, length-replicate}
use Rattle.std.proofs.lemmas.List.Sums.{sum_by-set, sum_by-append}
use Rattle.std.proofs.lemmas.List.Folds.{sum_by-replicate}
use Rattle.std.proofs.lemmas.Bool.{cases_eq, cases_lt, true≢false}
use Rattle.std.proofs.Math.Seq.{drop-cons}
use Rattle.std.proofs.Math.ListN.{get_or-eq_default}
use native.Mathlib.Numerals.{unary_clauses}
use Rattle.fx_alloc.specs.declared.uses.Use.{Use}
use Rattle.fx_alloc.specs.declared.uses.Use.TheVariants.{System, Free}
use Rattle.fx_alloc.specs.Uses.{put_all, blocks_from, HaveUse, IsApartFrom, StandOnce, blank}
use Rattle.fx_alloc.specs.Uses.{AreUsed}

-- ---- along the links

pub put_all-step : (to : Use) (links : List ℕ) (b n : ℕ) (uses : List Use) → 0 < n → put_all to (blocks_from links (get_or links b 0) (n - 1)) (set uses b to) ≡ put_all to (blocks_from links b n) uses
unfolding put_all blocks_from
put_all-step to links b zero uses h = absurd (omega arith)
put_all-step to links b (suc n) uses h = simp unary_clauses

pub All-step : (P : ℕ → Type 0) (links : List ℕ) (b n : ℕ) → 0 < n → All P (blocks_from links b n) → P b × All P (blocks_from links (get_or links b 0) (n - 1))
unfolding blocks_from
All-step P links b zero h a = absurd (omega arith)
All-step P links b (suc n) h a = simp unary_clauses (a 0 0 (omega arith), λ k d l. a (suc k) d (omega (arith, l)))

pub put_all-end : (to : Use) (links : List ℕ) (b n : ℕ) (uses : List Use) → n ≡ 0 → put_all to (blocks_from links b n) uses ≡ uses
unfolding put_all blocks_from
put_all-end to links b zero uses e = refl
put_all-end to links b (suc n) uses e = absurd (omega arith)

-- ---- one block gets another use

pub moved : (p : Use → Bool) (us : List Use) (b : ℕ) (u v : Use) → b < length us → get_or us b System ≡ u → count_by p (set us b v) + cond (p u) 1 0 ≡ count_by p us + cond (p v) 1 0
moved p us b u v l e = subst (λ (x : Use). count_by p (set us b v) + cond (p x) 1 0 ≡ count_by p us + cond (p v) 1 0) e (sum_by-set (λ x. cond (p x) 1 0) us b v System l)

-- where a block has a use that is not the system's, the disk has it
pub within : (us : List Use) (b : ℕ) (u : Use) → get_or us b System ≡ u → (System ≡ u → ⊥) → b < length us
within us b u e n = elim (cases_lt b (length us)) [ inl l ↦ l | inr h ↦ absurd (n (sym (get_or-eq_default us System h) ∙ e)) ]

pub HaveUse-kept : (u v : Use) (us : List Use) (b : ℕ) (bs : List ℕ) → (get_or us b System ≡ u → ⊥) → HaveUse u us bs → HaveUse u (set us b v) bs
unfolding HaveUse
HaveUse-kept u v us b [] n h = tt
HaveUse-kept u v us b (c ∷ cs) n h = (
  elim (cases_eq c b) [
    | inl e ↦ absurd (n (ap (λ k. get_or us k System) (sym e) ∙ h.0))
    | inr ne ↦ get_or-set_other us b c v System ne ∙ h.0
  ],
  HaveUse-kept u v us b cs n h.1,
)

-- a block of another use does not stand in the list
pub apart_from : (u : Use) (us : List Use) (b : ℕ) (bs : List ℕ) → (get_or us b System ≡ u → ⊥) → HaveUse u us bs → IsApartFrom b bs
unfolding HaveUse
apart_from u us b [] n h = tt
apart_from u us b (c ∷ cs) n h = (λ e. n (ap (λ k. get_or us k System) e ∙ h.0), apart_from u us b cs n h.1)

pub HaveUse-apart : (u v : Use) (us : List Use) (b : ℕ) (bs : List ℕ) → IsApartFrom b bs → HaveUse u us bs → HaveUse u (set us b v) bs
unfolding HaveUse
HaveUse-apart u v us b [] n h = tt
HaveUse-apart u v us b (c ∷ cs) n h = (get_or-set_other us b c v System (λ e. n.0 (sym e)) ∙ h.0, HaveUse-apart u v us b cs n.1 h.1)

pub AreUsed-kept : (u v : Use) (us : List Use) (b : ℕ) (bs : List ℕ) → (get_or us b System ≡ u → ⊥) → AreUsed u us bs → AreUsed u (set us b v) bs
AreUsed-kept u v us b bs n h = record { used = HaveUse-kept u v us b bs n h.used; apart = h.apart }

pub AreUsed-more : (u : Use) (us : List Use) (b : ℕ) (bs : List ℕ) → b < length us → (get_or us b System ≡ u → ⊥) → AreUsed u us bs → AreUsed u (set us b u) (b ∷ bs)
unfolding HaveUse
AreUsed-more u us b bs l n h = record {
  used = (get_or-set_same us b u System l, HaveUse-kept u u us b bs n h.used);
  apart = (apart_from u us b bs n h.used, h.apart);
}

pub AreUsed-less : (u v : Use) (us : List Use) (b : ℕ) (bs : List ℕ) → AreUsed u us (b ∷ bs) → AreUsed u (set us b v) bs
unfolding HaveUse
AreUsed-less u v us b bs h = record { used = HaveUse-apart u v us b bs h.apart.0 h.used.1; apart = h.apart.1 }

pub AreUsed-first : (u : Use) (us : List Use) (b : ℕ) (bs : List ℕ) → AreUsed u us (b ∷ bs) → get_or us b System ≡ u
unfolding HaveUse
AreUsed-first u us b bs h = h.used.0

pub AreUsed-tail : (u : Use) (us : List Use) (b : ℕ) (bs : List ℕ) → AreUsed u us (b ∷ bs) → AreUsed u us bs
unfolding HaveUse
AreUsed-tail u us b bs h = record { used = h.used.1; apart = h.apart.1 }

pub AreUsed-none : (u : Use) (us : List Use) → AreUsed u us []
unfolding HaveUse
AreUsed-none u us = record { used = tt; apart = tt }

pub AreUsed-zero : (u : Use) (us : List Use) (links : List ℕ) (h : ℕ) → AreUsed u us (blocks_from links h 0)
unfolding blocks_from
AreUsed-zero u us links h = AreUsed-none u us

-- the links of a block of another use may change
pub blocks_from-kept : (u : Use) (us : List Use) (links : List ℕ) (b x h n : ℕ) → (get_or us b System ≡ u → ⊥) → HaveUse u us (blocks_from links h n) → blocks_from (set links b x) h n ≡ blocks_from links h n
unfolding HaveUse blocks_from
blocks_from-kept u us links b x h zero ne a = refl
blocks_from-kept u us links b x h (suc n) ne a =
    let other : h ≡ b → ⊥ = λ e. ne (ap (λ k. get_or us k System) (sym e) ∙ a.0) in
    ap (λ t. h ∷ t) (ap (λ k. blocks_from (set links b x) k n) (get_or-set_other links b h x 0 other) ∙ blocks_from-kept u us links b x (get_or links h 0) n ne a.1)

pub AreUsed-links : (u : Use) (us : List Use) (links : List ℕ) (b x h n : ℕ) → (get_or us b System ≡ u → ⊥) → AreUsed u us (blocks_from links h n) → AreUsed u us (blocks_from (set links b x) h n)
AreUsed-links u us links b x h n ne a = subst (λ (bs : List ℕ). AreUsed u us bs) (sym (blocks_from-kept u us links b x h n ne a.used)) a

-- one more block before the head
pub AreUsed-head : (u : Use) (us : List Use) (links : List ℕ) (b h n : ℕ) → b < length us → b < length links → (get_or us b System ≡ u → ⊥) → AreUsed u us (blocks_from links h n) → AreUsed u (set us b u) (blocks_from (set links b h) b (n + 1))
unfolding blocks_from
AreUsed-head u us links b h n l m ne a =
    rw add-one
    (subst (λ (k : ℕ). AreUsed u (set us b u) (b ∷ blocks_from (set links b h) k n)) (sym (get_or-set_same links b h 0 m))
    (AreUsed-more u us b (blocks_from (set links b h) h n) l ne (AreUsed-links u us links b h h n ne a)))

-- ---- many blocks get another use

pub one_of : (b : Bool) → b ≡ true → cond {A = ℕ} b 1 0 ≡ 1
one_of true e = refl
one_of false e = absurd (true≢false (sym e))

pub none_of : (b : Bool) → b ≡ false → cond {A = ℕ} b 1 0 ≡ 0
none_of true e = absurd (true≢false e)
none_of false e = refl

abbrev pub many : ℕ → Bool → ℕ
many n true = n
many n false = 0

pub length-put_all : (to : Use) (bs : List ℕ) (us : List Use) → length (put_all to bs us) ≡ length us
unfolding put_all
length-put_all to [] us = refl
length-put_all to (b ∷ bs) us = length-put_all to bs (set us b to) ∙ length-set us b to

moved_as : (p : Use → Bool) (us : List Use) (b : ℕ) (u v : Use) (a z : Bool) → p u ≡ a → p v ≡ z → b < length us → get_or us b System ≡ u → count_by p (set us b v) + cond {A = ℕ} a 1 0 ≡ count_by p us + cond {A = ℕ} z 1 0
moved_as p us b u v a z x y l e =
    subst (λ t. count_by p (set us b v) + cond {A = ℕ} a 1 0 ≡ count_by p us + cond {A = ℕ} t 1 0) y
    (subst (λ t. count_by p (set us b v) + cond {A = ℕ} t 1 0 ≡ count_by p us + cond {A = ℕ} (p v) 1 0) x (moved p us b u v l e))

both_more : (x y w n : ℕ) → x + n ≡ y + n → y + 1 ≡ w + 1 → x + suc n ≡ w + suc n
both_more x y w n e f = omega arith

left_more : (x y w n : ℕ) → x + n ≡ y + 0 → y + 1 ≡ w + 0 → x + suc n ≡ w + 0
left_more x y w n e f = omega arith

right_more : (x y w n : ℕ) → x + 0 ≡ y + n → y + 0 ≡ w + 1 → x + 0 ≡ w + suc n
right_more x y w n e f = omega arith

none_more : (x y w : ℕ) → x + 0 ≡ y + 0 → y + 0 ≡ w + 0 → x + 0 ≡ w + 0
none_more x y w e f = omega arith

pub count-put_all : (p : Use → Bool) (u to : Use) (bs : List ℕ) (us : List Use) (a z : Bool) → (System ≡ u → ⊥) → p u ≡ a → p to ≡ z → AreUsed u us bs → count_by p (put_all to bs us) + many (length bs) a ≡ count_by p us + many (length bs) z
unfolding put_all
count-put_all p u to [] us true true n x y h = refl
count-put_all p u to [] us true false n x y h = refl
count-put_all p u to [] us false true n x y h = refl
count-put_all p u to [] us false false n x y h = refl
count-put_all p u to (b ∷ bs) us true true n x y h = both_more _ _ _ _ (count-put_all p u to bs (set us b to) true true n x y (AreUsed-less u to us b bs h)) (moved_as p us b u to true true x y (within us b u (AreUsed-first u us b bs h) n) (AreUsed-first u us b bs h))
count-put_all p u to (b ∷ bs) us true false n x y h = left_more _ _ _ _ (count-put_all p u to bs (set us b to) true false n x y (AreUsed-less u to us b bs h)) (moved_as p us b u to true false x y (within us b u (AreUsed-first u us b bs h) n) (AreUsed-first u us b bs h))
count-put_all p u to (b ∷ bs) us false true n x y h = right_more _ _ _ _ (count-put_all p u to bs (set us b to) false true n x y (AreUsed-less u to us b bs h)) (moved_as p us b u to false true x y (within us b u (AreUsed-first u us b bs h) n) (AreUsed-first u us b bs h))
count-put_all p u to (b ∷ bs) us false false n x y h = none_more _ _ _ (count-put_all p u to bs (set us b to) false false n x y (AreUsed-less u to us b bs h)) (moved_as p us b u to false false x y (within us b u (AreUsed-first u us b bs h) n) (AreUsed-first u us b bs h))

-- blocks of another use keep it
pub AreUsed-others : (w u to : Use) (us : List Use) (bs cs : List ℕ) → (u ≡ w → ⊥) → AreUsed u us bs → AreUsed w us cs → AreUsed w (put_all to bs us) cs
unfolding put_all
AreUsed-others w u to us [] cs n a h = h
AreUsed-others w u to us (b ∷ bs) cs n a h =
    AreUsed-others w u to (set us b to) bs cs n (AreUsed-less u to us b bs a)
    (AreUsed-kept w to us b cs (λ e. n (sym (AreUsed-first u us b bs a) ∙ e)) h)

-- what is left of the list keeps it
pub AreUsed-left : (u to : Use) (us : List Use) (bs cs : List ℕ) → AreUsed u us (bs ++ cs) → AreUsed u (put_all to bs us) cs
unfolding put_all
AreUsed-left u to us [] cs h = h
AreUsed-left u to us (b ∷ bs) cs h = AreUsed-left u to (set us b to) bs cs (AreUsed-less u to us b (bs ++ cs) h)

HaveUse-front : (u : Use) (us : List Use) (bs cs : List ℕ) → HaveUse u us (bs ++ cs) → HaveUse u us bs
unfolding HaveUse
HaveUse-front u us [] cs h = tt
HaveUse-front u us (b ∷ bs) cs h = (h.0, HaveUse-front u us bs cs h.1)

apart-front : (b : ℕ) (bs cs : List ℕ) → IsApartFrom b (bs ++ cs) → IsApartFrom b bs
apart-front b [] cs h = tt
apart-front b (d ∷ ds) cs h = (h.0, apart-front b ds cs h.1)

StandOnce-front : (bs cs : List ℕ) → StandOnce (bs ++ cs) → StandOnce bs
StandOnce-front [] cs h = tt
StandOnce-front (b ∷ bs) cs h = (apart-front b bs cs h.0, StandOnce-front bs cs h.1)

pub AreUsed-front : (u : Use) (us : List Use) (bs cs : List ℕ) → AreUsed u us (bs ++ cs) → AreUsed u us bs
AreUsed-front u us bs cs h = record { used = HaveUse-front u us bs cs h.used; apart = StandOnce-front bs cs h.apart }

-- one more block at the end
HaveUse-back : (u : Use) (us : List Use) (bs : List ℕ) (b : ℕ) → get_or us b System ≡ u → HaveUse u us bs → HaveUse u us (bs ++ b ∷ [])
unfolding HaveUse
HaveUse-back u us [] b e h = (e, tt)
HaveUse-back u us (c ∷ cs) b e h = (h.0, HaveUse-back u us cs b e h.1)

apart-back : (a b : ℕ) (bs : List ℕ) → a ≢ b → IsApartFrom a bs → IsApartFrom a (bs ++ b ∷ [])
apart-back a b [] n h = (n, tt)
apart-back a b (c ∷ cs) n h = (h.0, apart-back a b cs n h.1)

StandOnce-back : (b : ℕ) (bs : List ℕ) → IsApartFrom b bs → StandOnce bs → StandOnce (bs ++ b ∷ [])
StandOnce-back b [] n h = (tt, tt)
StandOnce-back b (c ∷ cs) n h = (apart-back c b cs (λ e. n.0 (sym e)) h.0, StandOnce-back b cs n.1 h.1)

pub AreUsed-back : (u : Use) (us : List Use) (b : ℕ) (bs : List ℕ) → b < length us → (get_or us b System ≡ u → ⊥) → AreUsed u us bs → AreUsed u (set us b u) (bs ++ b ∷ [])
AreUsed-back u us b bs l n h = record {
  used = HaveUse-back u (set us b u) bs b (get_or-set_same us b u System l) (HaveUse-kept u u us b bs n h.used);
  apart = StandOnce-back b bs (apart_from u us b bs n h.used) h.apart;
}

pub length-blocks_from : (links : List ℕ) (b n : ℕ) → length (blocks_from links b n) ≡ n
unfolding blocks_from
length-blocks_from links b zero = refl
length-blocks_from links b (suc n) = ap suc (length-blocks_from links (get_or links b 0) n)

-- all of a list of one use lie on the disk
pub All-within : (u : Use) (us : List Use) (bs : List ℕ) → (System ≡ u → ⊥) → AreUsed u us bs → All (λ b. b < length us) bs
All-within u us [] n h k d l = absurd (omega arith)
All-within u us (b ∷ bs) n h zero d l = within us b u (AreUsed-first u us b bs h) n
All-within u us (b ∷ bs) n h (suc k) d l = All-within u us bs n (AreUsed-tail u us b bs h) k d (omega (arith, l))

-- ---- block after block of a list

pub put_all-next : (to : Use) (blocks : List ℕ) (i : ℕ) (uses result : List Use) → i < length blocks → put_all to (drop i blocks) uses ≡ result → put_all to (drop (i + 1) blocks) (set uses (get_or blocks i 0) to) ≡ result
unfolding put_all
put_all-next to blocks i uses result l e =
    rw add-one (subst (λ (bs : List ℕ). put_all to bs uses ≡ result) (drop-cons blocks i 0 l) e)

pub put_all-done : (to : Use) (blocks : List ℕ) (i : ℕ) (uses result : List Use) → length blocks ≤ i → put_all to (drop i blocks) uses ≡ result → uses ≡ result
unfolding put_all
put_all-done to blocks i uses result l e = subst (λ (bs : List ℕ). put_all to bs uses ≡ result) (drop_all i blocks l) e

pub AreUsed-at : (u : Use) (us : List Use) (blocks : List ℕ) (i : ℕ) → i < length blocks → AreUsed u us (drop i blocks) → get_or us (get_or blocks i 0) System ≡ u
AreUsed-at u us blocks i l h = AreUsed-first u us (get_or blocks i 0) (drop (suc i) blocks) (subst (λ (bs : List ℕ). AreUsed u us bs) (drop-cons blocks i 0 l) h)

pub AreUsed-next : (u v : Use) (us : List Use) (blocks : List ℕ) (i : ℕ) → i < length blocks → AreUsed u us (drop i blocks) → AreUsed u (set us (get_or blocks i 0) v) (drop (i + 1) blocks)
AreUsed-next u v us blocks i l h = rw add-one (AreUsed-less u v us (get_or blocks i 0) (drop (suc i) blocks) (subst (λ (bs : List ℕ). AreUsed u us bs) (drop-cons blocks i 0 l) h))

-- ---- a blank disk

pub replicate-count : (p : Use → Bool) (n : ℕ) (u : Use) (a : Bool) → p u ≡ a → count_by p (replicate n u) ≡ many n a
replicate-count p n u a e = sum_by-replicate (λ x. cond (p x) 1 0) n u ∙ ap (λ b. n * cond {A = ℕ} b 1 0) e ∙ times a
  where
    times : (b : Bool) → n * cond {A = ℕ} b 1 0 ≡ many n b
    times true = omega arith
    times false = omega arith

pub blank-count : (p : Use → Bool) (blocks ring : ℕ) (a z : Bool) → p System ≡ a → p Free ≡ z → count_by p (blank blocks ring) ≡ many (ring + 2) a + many (blocks - (ring + 2)) z
blank-count p blocks ring a z x y =
    sum_by-append (λ u. cond (p u) 1 0) (replicate (ring + 2) System) (replicate (blocks - (ring + 2)) Free)
    ∙ ap (λ n. n + count_by p (replicate (blocks - (ring + 2)) Free)) (replicate-count p (ring + 2) System a x)
    ∙ ap (λ n. many (ring + 2) a + n) (replicate-count p (blocks - (ring + 2)) Free z y)

pub length-blank : (blocks ring : ℕ) → ring + 2 ≤ blocks → length (blank blocks ring) ≡ blocks
length-blank blocks ring l = omega (arith, length-append (replicate (ring + 2) System) (replicate (blocks - (ring + 2)) Free), length-replicate (ring + 2) System, length-replicate (blocks - (ring + 2)) Free)

pub blank-free : (blocks ring b : ℕ) → ring + 2 ≤ b → b < blocks → get_or (blank blocks ring) b System ≡ Free
blank-free blocks ring b l m =
    get_or-append_right (replicate (ring + 2) System) (replicate (blocks - (ring + 2)) Free) (ring + 2) b System (length-replicate (ring + 2) System) l
    ∙ get_or-replicate (blocks - (ring + 2)) (b - (ring + 2)) Free System (omega (arith, l, m))

HaveUse-blank : (blocks ring : ℕ) (bs : List ℕ) → All (λ b. (ring + 2 ≤ b) × (b < blocks)) bs → HaveUse Free (blank blocks ring) bs
unfolding HaveUse
HaveUse-blank blocks ring [] a = tt
HaveUse-blank blocks ring (b ∷ bs) a =
    let h : (ring + 2 ≤ b) × (b < blocks) = a 0 b (omega arith) in
    (blank-free blocks ring b h.0 h.1, HaveUse-blank blocks ring bs (λ k d l. a (suc k) d (omega (arith, l))))

pub AreUsed-blank : (blocks ring : ℕ) (bs : List ℕ) → All (λ b. (ring + 2 ≤ b) × (b < blocks)) bs → StandOnce bs → AreUsed Free (blank blocks ring) bs
AreUsed-blank blocks ring bs a h = record { used = HaveUse-blank blocks ring bs a; apart = h }
