-- What pins keep fits the uses of blocks after each change.
use Rattle.std.proofs.Common.{◌≡◌, ◌≢◌, ℕ, ◌<◌, Bool, true, false, cond, ◌==◌, ◌||◌, ◌&&◌, List, [], ◌∷◌, length, get_or, set, map, count_by, Option, Some, None, IfSome, IsSome, refl, sym, ◌∙◌, ap, subst, arith, inl, inr}
use Rattle.std.proofs.lemmas.List.{get_or-set_same, get_or-set_other}
use Rattle.std.proofs.lemmas.List.Sums.{get_or-le-sum_by}
use Rattle.std.proofs.lemmas.Bool.{cases_eq, true≢false, eqb-false}
use Rattle.fx_alloc.specs.declared.uses.Use.{Use}
use Rattle.fx_alloc.specs.declared.uses.Use.TheVariants.{System, Free, Drawn, Live, Freed, Layer, Laid, Pinned}
use Rattle.fx_alloc.specs.declared.pins.Kept.{Kept}
use Rattle.fx_alloc.specs.Uses.{use_at, is_layer, is_pinned, put_all, AreUsed}
use Rattle.fx_alloc.specs.Space.{turned, unlaid}
use Rattle.fx_alloc.specs.Pins.{PinTable, pin_at, is_among, is_kept, set_has, in_set, other_sets, other_pins, unpinned, is_same_set, pins_of, no_pins, KeepsSet, Standing, Added, PinsBlocks}
use Rattle.fx_alloc.specs.PinCounts.{IsSoundTable}
use Rattle.fx_alloc.specs.Layers.{switched_use, unpinned_use, is_held, FitPins}
use Rattle.fx_alloc.proofs.UseLists.{within, AreUsed-first, AreUsed-less}
use Rattle.fx_alloc.proofs.Changes.{at-map, none-passes, used-where, all-listed, eqb_tells}
use Rattle.fx_alloc.proofs.PinLists.{pins_of-removed, one_here, slot-within, set_has-append, set_has-in_set, set_has-in_other, set_has-left, is_kept-left, is_kept-added}

-- the layer blocks and the pinned ones stay what they are
pub record SameHeld (us vs : List Use) : Type 0 where
  pub layer : (b : ℕ) → is_layer (use_at vs b) ≡ is_layer (use_at us b)
  pub pinned : (b : ℕ) → is_pinned (use_at vs b) ≡ is_pinned (use_at us b)

pub SameHeld-itself : (us : List Use) → SameHeld us us
SameHeld-itself us = record { layer = λ b. refl; pinned = λ b. refl }

SameHeld-then : {us vs ws : List Use} → SameHeld us vs → SameHeld vs ws → SameHeld us ws
SameHeld-then h k = record { layer = λ b. k.layer b ∙ h.layer b; pinned = λ b. k.pinned b ∙ h.pinned b }

pub SameHeld-each : (us vs : List Use) → ((b : ℕ) → (is_layer (use_at vs b) ≡ is_layer (use_at us b)) × (is_pinned (use_at vs b) ≡ is_pinned (use_at us b))) → SameHeld us vs
SameHeld-each us vs h = record { layer = λ b. (h b).0; pinned = λ b. (h b).1 }

pub SameHeld-set : (us : List Use) (b : ℕ) (u v : Use) → get_or us b System ≡ u → (System ≡ u → ⊥) → is_layer v ≡ is_layer u → is_pinned v ≡ is_pinned u → SameHeld us (set us b v)
SameHeld-set us b u v e n l p = record { layer = λ c. at (λ x. is_layer x) l c; pinned = λ c. at (λ x. is_pinned x) p c }
  where
    at : (f : Use → Bool) → f v ≡ f u → (c : ℕ) → f (use_at (set us b v) c) ≡ f (use_at us c)
    at f q c = elim (cases_eq c b) [
      | inl i ↦ subst (λ (k : ℕ). f (use_at (set us b v) k) ≡ f (use_at us k)) (sym i) (ap f (get_or-set_same us b v System (within us b u e n)) ∙ q ∙ sym (ap f e))
      | inr i ↦ ap f (get_or-set_other us b c v System i)
    ]

pub SameHeld-put_all : (u v : Use) (bs : List ℕ) (us : List Use) → AreUsed u us bs → (System ≡ u → ⊥) → is_layer v ≡ is_layer u → is_pinned v ≡ is_pinned u → SameHeld us (put_all v bs us)
unfolding put_all
SameHeld-put_all u v [] us a n l p = SameHeld-itself us
SameHeld-put_all u v (b ∷ bs) us a n l p = SameHeld-then (SameHeld-set us b u v (AreUsed-first u us b bs a) n l p) (SameHeld-put_all u v bs (set us b v) (AreUsed-less u v us b bs a) n l p)

pub SameHeld-map : (f : Use → Use) (us : List Use) → f System ≡ System → ((u : Use) → is_layer (f u) ≡ is_layer u) → ((u : Use) → is_pinned (f u) ≡ is_pinned u) → SameHeld us (map f us)
SameHeld-map f us s l p = record {
  layer = λ b. ap (λ (x : Use). is_layer x) (at-map f us b s) ∙ l (use_at us b);
  pinned = λ b. ap (λ (x : Use). is_pinned x) (at-map f us b s) ∙ p (use_at us b);
}

pub SameHeld-turned : (at : ℕ) (to : Use) (us : List Use) → is_layer to ≡ false → is_pinned to ≡ false → SameHeld us (map (turned at to) us)
SameHeld-turned at to us l p = SameHeld-map (turned at to) us refl (each (λ x. is_layer x) refl refl refl refl refl refl (λ k. refl) l) (each (λ x. is_pinned x) refl refl refl refl refl refl (λ k. refl) p)
  where
    drawn : (f : Use → Bool) → ((s : ℕ) → f (Drawn s) ≡ false) → f to ≡ false → (s : ℕ) (x : Bool) → f (cond x to (Drawn s)) ≡ f (Drawn s)
    drawn f d t s true = t ∙ sym (d s)
    drawn f d t s false = refl

    each : (f : Use → Bool) → f System ≡ f System → f Free ≡ f Free → f Live ≡ f Live → f Freed ≡ f Freed → f Layer ≡ f Layer → f Laid ≡ f Laid → ((s : ℕ) → f (Drawn s) ≡ false) → f to ≡ false → (u : Use) → f (turned at to u) ≡ f u
    each f a b c d e g h t System = refl
    each f a b c d e g h t Free = refl
    each f a b c d e g h t (Drawn s) = drawn f h t s (s == at)
    each f a b c d e g h t Live = refl
    each f a b c d e g h t Freed = refl
    each f a b c d e g h t Layer = refl
    each f a b c d e g h t Laid = refl
    each f a b c d e g h t Pinned = refl

pub SameHeld-unlaid : (us : List Use) → SameHeld us (map unlaid us)
SameHeld-unlaid us = SameHeld-map unlaid us refl layers pins
  where
    layers : (u : Use) → is_layer (unlaid u) ≡ is_layer u
    layers System = refl
    layers Free = refl
    layers (Drawn s) = refl
    layers Live = refl
    layers Freed = refl
    layers Layer = refl
    layers Laid = refl
    layers Pinned = refl

    pins : (u : Use) → is_pinned (unlaid u) ≡ is_pinned u
    pins System = refl
    pins Free = refl
    pins (Drawn s) = refl
    pins Live = refl
    pins Freed = refl
    pins Layer = refl
    pins Laid = refl
    pins Pinned = refl

-- ---- the fit

held-same : {us vs : List Use} → SameHeld us vs → (b : ℕ) → is_held (use_at vs b) ≡ is_held (use_at us b)
held-same {us} {vs} h b = ap (λ (x : Bool). x || is_pinned (use_at vs b)) (h.layer b) ∙ ap (λ (x : Bool). is_layer (use_at us b) || x) (h.pinned b)

pub FitPins-same : {us vs : List Use} {t : PinTable} → SameHeld us vs → FitPins us t → FitPins vs t
FitPins-same {us} {vs} {t} h f = record {
  held = λ b k. held-same h b ∙ f.held b k;
  owned = λ b p. f.owned b (sym (h.pinned b) ∙ p);
  present = over t.present f.present;
}
  where
    over : (o : Option ℕ) → IfSome o (λ own. (b : ℕ) → set_has t.kept own b ≡ is_layer (use_at us b)) → IfSome o (λ own. (b : ℕ) → set_has t.kept own b ≡ is_layer (use_at vs b))
    over None k = tt
    over (Some own) k = λ b. k b ∙ sym (h.layer b)

pub FitPins-none : (us : List Use) → count_by is_pinned us ≡ 0 → FitPins us no_pins
FitPins-none us e = record {
  held = λ b k. absurd (true≢false (sym k));
  owned = λ b p. absurd (true≢false (sym p ∙ none-passes (λ u. is_pinned u) us b refl e));
  present = tt;
}

-- ---- layers are replaced

pub FitPins-switched : (us vs : List Use) (t : PinTable) (stay : List ℕ) → FitPins us t → ((b : ℕ) → use_at vs b ≡ switched_use (is_among b stay) (is_kept t.kept b) (use_at us b)) → FitPins vs (record t { present = None })
FitPins-switched us vs t stay f h = record {
  held = λ b k. ap (λ (x : Use). is_held x) (h b) ∙ held (is_among b stay) (is_kept t.kept b) (use_at us b) k (f.held b k);
  owned = λ b p. owned (is_among b stay) (is_kept t.kept b) (use_at us b) (f.owned b) (sym (ap (λ (x : Use). is_pinned x) (h b)) ∙ p);
  present = tt;
}
  where
    held : (s k : Bool) (u : Use) → k ≡ true → is_held u ≡ true → is_held (switched_use s k u) ≡ true
    held s k System e q = absurd (true≢false (sym q))
    held s k Free e q = absurd (true≢false (sym q))
    held s k (Drawn w) e q = absurd (true≢false (sym q))
    held s k Live e q = absurd (true≢false (sym q))
    held s k Freed e q = absurd (true≢false (sym q))
    held true k Layer e q = refl
    held false true Layer e q = refl
    held false false Layer e q = absurd (true≢false (sym e))
    held s k Laid e q = refl
    held s k Pinned e q = refl

    owned : (s k : Bool) (u : Use) → (is_pinned u ≡ true → k ≡ true) → is_pinned (switched_use s k u) ≡ true → k ≡ true
    owned s k System e q = absurd (true≢false (sym q))
    owned s k Free e q = absurd (true≢false (sym q))
    owned s k (Drawn w) e q = absurd (true≢false (sym q))
    owned s k Live e q = absurd (true≢false (sym q))
    owned s k Freed e q = absurd (true≢false (sym q))
    owned true k Layer e q = absurd (true≢false (sym q))
    owned false true Layer e q = refl
    owned false false Layer e q = absurd (true≢false (sym q))
    owned s k Laid e q = absurd (true≢false (sym q))
    owned s k Pinned e q = e refl

-- ---- a pin ends

pub kept-less : (t : PinTable) (pin own : ℕ) (b : ℕ) → is_kept (unpinned t pin own).kept b ≡ true → is_kept t.kept b ≡ true
kept-less t pin own b h = told (other_pins t pin own == 0) h
  where
    told : (x : Bool) → is_kept (cond x (other_sets own t.kept) t.kept) b ≡ true → is_kept t.kept b ≡ true
    told true k = is_kept-left own b t.kept k
    told false k = k

pub FitPins-unpinned : (us vs : List Use) (t : PinTable) (pin own : ℕ) → FitPins us t → ((b : ℕ) → use_at vs b ≡ unpinned_use (is_kept (unpinned t pin own).kept b) (use_at us b)) → FitPins vs (unpinned t pin own)
FitPins-unpinned us vs t pin own f h = record {
  held = λ b k. ap (λ (x : Use). is_held x) (h b) ∙ held (is_kept (unpinned t pin own).kept b) (use_at us b) k (f.held b (kept-less t pin own b k));
  owned = λ b p. owned (is_kept (unpinned t pin own).kept b) (use_at us b) (sym (ap (λ (x : Use). is_pinned x) (h b)) ∙ p);
  present = standing (other_pins t pin own == 0) t.present f.present;
}
  where
    held : (k : Bool) (u : Use) → k ≡ true → is_held u ≡ true → is_held (unpinned_use k u) ≡ true
    held k System e q = absurd (true≢false (sym q))
    held k Free e q = absurd (true≢false (sym q))
    held k (Drawn w) e q = absurd (true≢false (sym q))
    held k Live e q = absurd (true≢false (sym q))
    held k Freed e q = absurd (true≢false (sym q))
    held k Layer e q = refl
    held k Laid e q = absurd (true≢false (sym q))
    held true Pinned e q = refl
    held false Pinned e q = absurd (true≢false (sym e))

    owned : (k : Bool) (u : Use) → is_pinned (unpinned_use k u) ≡ true → k ≡ true
    owned k System q = absurd (true≢false (sym q))
    owned k Free q = absurd (true≢false (sym q))
    owned k (Drawn w) q = absurd (true≢false (sym q))
    owned k Live q = absurd (true≢false (sym q))
    owned k Freed q = absurd (true≢false (sym q))
    owned k Layer q = absurd (true≢false (sym q))
    owned k Laid q = absurd (true≢false (sym q))
    owned true Pinned q = refl
    owned false Pinned q = absurd (true≢false (sym q))

    layer : (k : Bool) (u : Use) → is_layer (unpinned_use k u) ≡ is_layer u
    layer k System = refl
    layer k Free = refl
    layer k (Drawn w) = refl
    layer k Live = refl
    layer k Freed = refl
    layer k Layer = refl
    layer k Laid = refl
    layer true Pinned = refl
    layer false Pinned = refl

    at : (b : ℕ) → is_layer (use_at us b) ≡ is_layer (use_at vs b)
    at b = sym (ap (λ (x : Use). is_layer x) (h b) ∙ layer (is_kept (unpinned t pin own).kept b) (use_at us b))

    standing : (x : Bool) (o : Option ℕ) → IfSome o (λ s. (b : ℕ) → set_has t.kept s b ≡ is_layer (use_at us b))
        → IfSome (cond (x && is_same_set own o) None o) (λ s. (b : ℕ) → set_has (cond x (other_sets own t.kept) t.kept) s b ≡ is_layer (use_at vs b))
    standing true None k = tt
    standing false None k = tt
    standing false (Some s) k = λ b. k b ∙ at b
    standing true (Some s) k = told (s == own) refl
      where
        told : (y : Bool) → (s == own) ≡ y → IfSome (cond y None (Some s)) (λ r. (b : ℕ) → set_has (other_sets own t.kept) r b ≡ is_layer (use_at vs b))
        told true q = tt
        told false q = λ b. set_has-left own s b t.kept (eqb-false s own q) ∙ k b ∙ at b

-- ---- a pin is made

use_kinds : (bs : List ℕ) (us : List Use) (b : ℕ) → AreUsed Layer us bs → count_by is_layer us ≡ length bs → is_among b bs ≡ is_layer (use_at us b)
use_kinds bs us b a e = told (is_among b bs) refl
  where
    unlayered : Use → Use
    unlayered Layer = Free
    unlayered u = u

    others : (u : Use) → is_layer u ≡ false → unlayered u ≡ u
    others System q = refl
    others Free q = refl
    others (Drawn s) q = refl
    others Live q = refl
    others Freed q = refl
    others Layer q = absurd (true≢false q)
    others Laid q = refl
    others Pinned q = refl

    not_layer : (u : Use) → (u ≡ Layer → ⊥) → is_layer u ≡ false
    not_layer System n = refl
    not_layer Free n = refl
    not_layer (Drawn s) n = refl
    not_layer Live n = refl
    not_layer Freed n = refl
    not_layer Layer n = absurd (n refl)
    not_layer Laid n = refl
    not_layer Pinned n = refl

    told : (x : Bool) → is_among b bs ≡ x → x ≡ is_layer (use_at us b)
    told true q = sym (ap (λ (u : Use). is_layer u) (used-where Layer us bs b a q))
    told false q = sym (not_layer (use_at us b) (λ h. true≢false (sym (all-listed (λ u. is_layer u) unlayered Layer Free refl refl refl refl others bs us b (λ x. cc) refl (λ x. cc) a e h) ∙ q)))

module _ {us : List Use} {t u : PinTable} {pin : ℕ} (bs : List ℕ) (f : FitPins us t) (s : IsSoundTable t) (a : AreUsed Layer us bs) (e : count_by is_layer us ≡ length bs) (h : PinsBlocks bs t u pin) where
  none_before : pins_of t.pins h.set ≡ 0 → (b : ℕ) → set_has t.kept h.set b ≡ false
  none_before z b = told (set_has t.kept h.set b) refl
    where
      told : (x : Bool) → set_has t.kept h.set b ≡ x → x ≡ false
      told true q = absurd (omega (arith, z, s.owned h.set b q))
      told false q = refl

  pub set_has-now : KeepsSet bs t.present t.kept u.kept h.set (pins_of t.pins h.set) → (b : ℕ) → set_has u.kept h.set b ≡ is_layer (use_at us b)
  set_has-now (Standing p k) b =
      ap (λ (l : List Kept). set_has l h.set b) k
      ∙ subst (λ (o : Option ℕ). IfSome o (λ own. (c : ℕ) → set_has t.kept own c ≡ is_layer (use_at us c))) p f.present b
  set_has-now (Added p z k) b =
      ap (λ (l : List Kept). set_has l h.set b) k
      ∙ set_has-append t.kept (in_set h.set bs) h.set b
      ∙ ap (λ (x : Bool). x || set_has (in_set h.set bs) h.set b) (none_before z b)
      ∙ set_has-in_set h.set b bs
      ∙ use_kinds bs us b a e

  held-now : KeepsSet bs t.present t.kept u.kept h.set (pins_of t.pins h.set) → (b : ℕ) → is_kept u.kept b ≡ true → is_held (use_at us b) ≡ true
  held-now (Standing p k) b q = f.held b (sym (ap (λ (l : List Kept). is_kept l b) k) ∙ q)
  held-now (Added p z k) b q = told (is_kept t.kept b) refl (sym (is_kept-added h.set b t.kept bs) ∙ sym (ap (λ (l : List Kept). is_kept l b) k) ∙ q)
    where
      told : (x : Bool) → is_kept t.kept b ≡ x → (x || is_among b bs) ≡ true → is_held (use_at us b) ≡ true
      told true i j = f.held b i
      told false i j = ap (λ (v : Use). is_held v) (used-where Layer us bs b a j)

  owned-now : KeepsSet bs t.present t.kept u.kept h.set (pins_of t.pins h.set) → (b : ℕ) → is_pinned (use_at us b) ≡ true → is_kept u.kept b ≡ true
  owned-now (Standing p k) b q = ap (λ (l : List Kept). is_kept l b) k ∙ f.owned b q
  owned-now (Added p z k) b q =
      ap (λ (l : List Kept). is_kept l b) k ∙ is_kept-added h.set b t.kept bs ∙ ap (λ (x : Bool). x || is_among b bs) (f.owned b q)

  pub set_has-others : KeepsSet bs t.present t.kept u.kept h.set (pins_of t.pins h.set) → (other b : ℕ) → other ≢ h.set → set_has u.kept other b ≡ set_has t.kept other b
  set_has-others (Standing p k) other b n = ap (λ (l : List Kept). set_has l other b) k
  set_has-others (Added p z k) other b n =
      ap (λ (l : List Kept). set_has l other b) k
      ∙ set_has-append t.kept (in_set h.set bs) other b
      ∙ ap (λ (x : Bool). set_has t.kept other b || x) (set_has-in_other h.set other b bs (λ q. n (sym q)))
      ∙ or_false (set_has t.kept other b)
    where
      or_false : (x : Bool) → (x || false) ≡ x
      or_false true = refl
      or_false false = refl

  pub FitPins-pinned : FitPins us u
  FitPins-pinned = record {
    held = held-now h.kept;
    owned = owned-now h.kept;
    present = subst (λ (o : Option ℕ). IfSome o (λ own. (b : ℕ) → set_has u.kept own b ≡ is_layer (use_at us b))) (sym h.present) (set_has-now h.kept);
  }

-- ---- what is known of a pin that ends

pub unpinned-less : (t u : PinTable) (pin : ℕ) → IsSome (pin_at t.pins pin) → IfSome (pin_at t.pins pin) (λ own. u ≡ unpinned t pin own) → (b : ℕ) → is_kept u.kept b ≡ true → is_kept t.kept b ≡ true
unpinned-less t u pin some is b h = over (pin_at t.pins pin) some is
  where
    over : (o : Option ℕ) → IsSome o → IfSome o (λ own. u ≡ unpinned t pin own) → is_kept t.kept b ≡ true
    over None s i = absurd (true≢false (sym s))
    over (Some own) s i = kept-less t pin own b (sym (ap (λ (v : PinTable). is_kept v.kept b) i) ∙ h)

-- where another pin has its set, all that was kept still is
pub kept-still : (t u : PinTable) (pin : ℕ) (r : Bool) → IsSome (pin_at t.pins pin) → IfSome (pin_at t.pins pin) (λ own. u ≡ unpinned t pin own)
    → IfSome (pin_at t.pins pin) (λ own. r ≡ (pins_of t.pins own == 1)) → r ≡ false → u.kept ≡ t.kept
kept-still t u pin r some is last fails = over (pin_at t.pins pin) refl some is last
  where
    same : (own : ℕ) (x : Bool) → (other_pins t pin own == 0) ≡ x → x ≡ false → cond x (other_sets own t.kept) t.kept ≡ t.kept
    same own true e f = absurd (true≢false f)
    same own false e f = refl

    is_false : (n : ℕ) (x : Bool) → (n == 0) ≡ x → 0 < n → x ≡ false
    is_false n true e l = absurd (omega (arith, eqb_tells n 0 e, l))
    is_false n false e l = refl

    over : (o : Option ℕ) → pin_at t.pins pin ≡ o → IsSome o → IfSome o (λ own. u ≡ unpinned t pin own) → IfSome o (λ own. r ≡ (pins_of t.pins own == 1)) → u.kept ≡ t.kept
    over None e s i l = absurd (true≢false (sym s))
    over (Some own) e s i l =
        let more : 0 < other_pins t pin own = omega (arith, pins_of-removed t.pins pin own own e, one_here own, eqb-false (pins_of t.pins own) 1 (sym l ∙ fails), get_or-le-sum_by (λ (x : Option ℕ). cond {A = ℕ} (is_same_set own x) 1 0) t.pins pin None (slot-within t.pins pin own e), ap (λ (x : Option ℕ). cond {A = ℕ} (is_same_set own x) 1 0) e) in
        ap (λ (v : PinTable). v.kept) i ∙ same own (other_pins t pin own == 0) refl (is_false (other_pins t pin own) (other_pins t pin own == 0) refl more)

pub FitPins-ended : (us vs : List Use) (t u : PinTable) (pin : ℕ) → FitPins us t → IsSome (pin_at t.pins pin) → IfSome (pin_at t.pins pin) (λ own. u ≡ unpinned t pin own)
    → ((b : ℕ) → use_at vs b ≡ unpinned_use (is_kept u.kept b) (use_at us b)) → FitPins vs u
FitPins-ended us vs t u pin f some is h = over (pin_at t.pins pin) some is
  where
    over : (o : Option ℕ) → IsSome o → IfSome o (λ own. u ≡ unpinned t pin own) → FitPins vs u
    over None s i = absurd (true≢false (sym s))
    over (Some own) s i = subst (λ (v : PinTable). FitPins vs v) (sym i) (FitPins-unpinned us vs t pin own f (subst (λ (v : PinTable). (b : ℕ) → use_at vs b ≡ unpinned_use (is_kept v.kept b) (use_at us b)) i h))
