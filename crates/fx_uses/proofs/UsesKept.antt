-- Each event keeps what the uses show.
use Rattle.std.proofs.Common.{◌≡◌, ℕ, ◌+◌, ◌<◌, ◌≤◌, Bool, true, false, if◌then◌else◌, [], ◌∷◌, ◌++◌, length, refl, sym, ap, subst, ◌∙◌, arith, length-append, ◌⊎◌, inl, inr, Option, Some, None, IsSome}
use Rattle.std.proofs.lemmas.Bool.{cases_lt}
use Rattle.std.proofs.lemmas.Bool.Decides.{eqb_tells}
use Rattle.fx_uses.specs.Live.{Txn, put_in, after_txn, live_after}
use Rattle.fx_uses.specs.Uses.{Use, Free, Drawn, Staged, Live, Freed, System, Layer, Aside, Laid, Coming, Pinned, BlockUses, AreUses, IsDrawnFor, last, live_by_use, since_of, until_of}
use Rattle.fx_uses.specs.Events.{at_place, with_use, with_stage, after_commit, with_committed, IsNextOf, given_back, with_rollback, with_flushed, let_go, with_settling, laid_firm, with_layers_flushed, switched, with_switch, pin_ended, with_pin_ended, with_laid, abandoned, with_anew}
use Rattle.fx_uses.proofs.LiveOverLists.{got_last, live_before, live_with, live_reached, numbered_most, numbered_more, put_more, put_split}
use Rattle.fx_uses.proofs.LiveByUse.{shown_before, shown_after, shown_given, shown_let_go}
use Rattle.fx_uses.proofs.UseOverEvent.{since_commit, until_commit, system_commit, since_given, until_given, since_let_go, until_let_go}

-- ---- a block that is not live is put to another use under which it is not

pub shown_none : (k : ℕ) (u : Use) (x : ℕ) → since_of u ≡ None → live_by_use k u x ≡ None
shown_none k (Live a) x e = absurd (cc)
shown_none k (Freed a m) x e = absurd (cc)
shown_none k u x e = refl

pub until_none : (u : Use) (m : ℕ) → since_of u ≡ None → until_of u ≡ Some m → ⊥
until_none (Live a) m e q = cc
until_none (Freed a m) n e q = cc
until_none u m e q = cc

-- Uses and sums that differ from these only where nothing is live, before and after.
pub record Hides (s : BlockUses) (uses : ℕ → Use) (sums : ℕ → ℕ) : Type 0 where
  pub each : (b : ℕ) → ((uses b ≡ s.uses b) × (sums b ≡ s.sums b)) ⊎ ((since_of (s.uses b) ≡ None) × (since_of (uses b) ≡ None))
  pub system : (b : ℕ) → s.uses b ≡ System → uses b ≡ System

module _ (s : BlockUses) (h : AreUses s) where
  -- what is live has a use of its own
  pub live_not_hidden : (k b x : ℕ) → s.settled ≤ k → k ≤ last s → live_after s.first s.txns k b ≡ Some x → since_of (s.uses b) ≡ None → ⊥
  live_not_hidden k b x ge le e hidden =
      let q : None ≡ Some x = sym (shown_none k (s.uses b) (s.sums b) hidden) ∙ sym (h.live_is k b ge le) ∙ e in cc

  module _ (uses : ℕ → Use) (sums : ℕ → ℕ) (d : Hides s uses sums) where
    since_hides : (b j : ℕ) → since_of (uses b) ≡ Some j → since_of (s.uses b) ≡ Some j
    since_hides b j e = elim (d.each b) [
      | inl same ↦ sym (ap since_of same.0) ∙ e
      | inr hidden ↦ let gone : since_of (uses b) ≡ None = hidden.1 in absurd (cc)
    ]

    pub used_hides : AreUses (record s { uses = uses; sums = sums })
    used_hides = record {
      numbered = h.numbered;
      right = h.right;
      marked = h.marked;
      firm = h.firm;
      most = h.most;
      system = λ b below. d.system b (h.system b below);
      live_is = λ k b ge le. h.live_is k b ge le ∙ (elim (d.each b) [
        | inl same ↦ ap (λ (u : Use). live_by_use k u (s.sums b)) (sym same.0) ∙ ap (live_by_use k (uses b)) (sym same.1)
        | inr hidden ↦ shown_none k (s.uses b) (s.sums b) hidden.0 ∙ sym (shown_none k (uses b) (sums b) hidden.1)
      ]);
      since = λ b j e. h.since b j (since_hides b j e);
      written = λ b j e lt. h.written b j (since_hides b j e) lt;
      put = λ b j n e p. h.put b j n (since_hides b j e) p;
      until = λ b n e. h.until b n (elim (d.each b) [
        | inl same ↦ sym (ap until_of same.0) ∙ e
        | inr hidden ↦ absurd (until_none (uses b) n hidden.1 e)
      ]);
    }

-- a block that is not of the system is put to another use
system_elsewhere : (s : BlockUses) (at : ℕ) (to : Use) → (s.uses at ≡ System → ⊥) → (b : ℕ) → s.uses b ≡ System → at_place at to s.uses b ≡ System
system_elsewhere s at to apart b e = elim (eqb_tells at b) [
  | inl same ↦ absurd (apart (ap s.uses same.1 ∙ e))
  | inr other ↦ ap (λ (t : Bool). if t then to else s.uses b) other.0 ∙ e
]

-- one block is put to another use
pub hides_use : (s : BlockUses) (at : ℕ) (to : Use) → (s.uses at ≡ System → ⊥) → since_of (s.uses at) ≡ None → since_of to ≡ None → Hides s (at_place at to s.uses) s.sums
hides_use s at to apart from is = record {
  each = λ b. elim (eqb_tells at b) [
    | inl same ↦ inr (subst (λ (c : ℕ). since_of (s.uses c) ≡ None) same.1 from, subst (λ (t : Bool). since_of (if t then to else s.uses b) ≡ None) (sym same.0) is)
    | inr other ↦ inl (ap (λ (t : Bool). if t then to else s.uses b) other.0, refl)
  ];
  system = system_elsewhere s at to apart;
}

-- something is put in a block
pub hides_put : (s : BlockUses) (at : ℕ) (to : Use) (sum : ℕ) → (s.uses at ≡ System → ⊥) → since_of (s.uses at) ≡ None → since_of to ≡ None → Hides s (at_place at to s.uses) (at_place at sum s.sums)
hides_put s at to sum apart from is = record {
  each = λ b. elim (eqb_tells at b) [
    | inl same ↦ inr (subst (λ (c : ℕ). since_of (s.uses c) ≡ None) same.1 from, subst (λ (t : Bool). since_of (if t then to else s.uses b) ≡ None) (sym same.0) is)
    | inr other ↦ inl (ap (λ (t : Bool). if t then to else s.uses b) other.0, ap (λ (t : Bool). if t then sum else s.sums b) other.0)
  ];
  system = system_elsewhere s at to apart;
}

pub used_use : (s : BlockUses) (at : ℕ) (to : Use) → AreUses s → (s.uses at ≡ System → ⊥) → since_of (s.uses at) ≡ None → since_of to ≡ None → AreUses (with_use s at to)
used_use s at to h apart from is = used_hides s h _ _ (hides_use s at to apart from is)

-- a good or a failed staging
pub drawn_hidden : (who : ℕ) (u : Use) → IsDrawnFor who u → since_of u ≡ None
drawn_hidden who (Drawn w) d = refl
drawn_hidden who (Staged w) d = refl
drawn_hidden who u d = absurd d

pub drawn_apart : (who : ℕ) (u : Use) → IsDrawnFor who u → u ≡ System → ⊥
drawn_apart who u d e = subst (IsDrawnFor who) e d

pub used_stage : (s : BlockUses) (who at sum : ℕ) (ok : Bool) → AreUses s → IsDrawnFor who (s.uses at) → AreUses (with_stage s who at sum ok)
used_stage s who at sum true h drawn = used_hides s h _ _ (hides_put s at (Staged who) sum (drawn_apart who (s.uses at) drawn) (drawn_hidden who (s.uses at) drawn) refl)
used_stage s who at sum false h drawn = used_use s at (Drawn who) h (drawn_apart who (s.uses at) drawn) (drawn_hidden who (s.uses at) drawn) refl

-- ---- a commit

some_is : (o : Option ℕ) → IsSome o → (x : ℕ) × (o ≡ Some x)
some_is None e = absurd (cc)
some_is (Some x) e = (x, refl)

module _ (s : BlockUses) (who : ℕ) (t : Txn) (h : AreUses s) (ready : IsNextOf s who t) where
  pub last_commit : last (with_committed s who t) ≡ last s + 1
  last_commit = omega (arith, length-append s.txns (t ∷ []))

  -- what is live after the numbers so far, and after the next one
  live_commit : (k b : ℕ) → s.settled ≤ k → k ≤ last s + 1 → live_after s.first (s.txns ++ t ∷ []) k b ≡ live_by_use k (after_commit who t b (s.uses b)) (s.sums b)
  live_commit k b ge le = elim (cases_lt (last s) k) [
    | inl lt ↦
        let e : k ≡ t.number = omega (arith, ready.number) in
        let reached : live_after s.first s.txns k b ≡ live_after s.first s.txns (last s) b = live_reached b k (last s) s.txns (s.first b) (λ i x got. let m : x.number ≤ last s = numbered_most s.base s.txns h.numbered i x got in (omega (arith, m, lt), m)) in
        live_with s.first s.txns t k b (omega (arith, e))
        ∙ ap (after_txn b t) (reached ∙ h.live_is (last s) b (omega (arith, h.firm, h.most)) (omega arith))
        ∙ shown_after who (last s) t.number (t.frees b) (s.uses b) (s.sums b) (put_in b t.puts) ready.number (h.since b) (h.until b) (ready.staged b) (ready.only b)
        ∙ ap (λ (n : ℕ). live_by_use n (after_commit who t b (s.uses b)) (s.sums b)) (sym e)
    | inr old ↦
        let lt : k < t.number = omega (arith, ready.number) in
        live_before s.first s.txns t k b lt ∙ h.live_is k b ge old ∙ sym (shown_before who t.number k (t.frees b) (s.uses b) (s.sums b) lt)
  ]

  -- what it writes was not live
  not_staged : (b j : ℕ) → since_of (s.uses b) ≡ Some j → IsSome (put_in b t.puts) → ⊥
  not_staged b j e some =
      let found : (x : ℕ) × (put_in b t.puts ≡ Some x) = some_is (put_in b t.puts) some in
      let q : None ≡ Some j = sym (ap since_of (ready.only b found.0 found.1)) ∙ e in cc

  pub used_commit : AreUses (with_committed s who t)
  used_commit = record {
    numbered = numbered_more s.base s.txns t ready.number h.numbered;
    right = h.right;
    marked = h.marked;
    firm = h.firm;
    most = omega (arith, h.most, last_commit);
    system = λ b below. system_commit who t.number (t.frees b) (s.uses b) (h.system b below);
    live_is = λ k b ge le. live_commit k b ge (omega (arith, last_commit, le));
    since = λ b j e. elim (since_commit who t.number (t.frees b) (s.uses b) j e) [
      | inl old ↦ let le : j ≤ last s = h.since b j old in omega (arith, le, last_commit)
      | inr new ↦ omega (arith, new.0, ready.number, last_commit)
    ];
    written = λ b j e lt. elim (since_commit who t.number (t.frees b) (s.uses b) j e) [
      | inl old ↦ put_more s.txns (t ∷ []) j b (h.written b j old lt)
      | inr new ↦ record {
        at = length s.txns;
        txn = t;
        got = got_last s.txns t;
        number = sym new.0;
        written = subst IsSome (sym (ready.staged b new.1)) refl;
      }
    ];
    put = λ b j n e p. elim (since_commit who t.number (t.frees b) (s.uses b) j e) [
      | inl old ↦ elim (put_split s.txns t n b p) [
        | inl before ↦ h.put b j n old before
        | inr now ↦ absurd (not_staged b j old now.1)
      ]
      | inr new ↦ omega (arith, new.0, ready.number)
    ];
    until = λ b n e. elim (until_commit who t.number (t.frees b) (s.uses b) n e) [
      | inl old ↦ let le : n ≤ last s = h.until b n old in omega (arith, le, last_commit)
      | inr new ↦ omega (arith, new, ready.number, last_commit)
    ];
  }

-- ---- a rollback, a flush and a settling

pub used_rollback : (s : BlockUses) (who : ℕ) → AreUses s → AreUses (with_rollback s who)
used_rollback s who h = record {
  numbered = h.numbered;
  right = h.right;
  marked = h.marked;
  firm = h.firm;
  most = h.most;
  system = λ b below. ap (given_back who) (h.system b below);
  live_is = λ k b ge le. h.live_is k b ge le ∙ sym (shown_given who k (s.uses b) (s.sums b));
  since = λ b j e. h.since b j (since_given who (s.uses b) j e);
  written = λ b j e lt. h.written b j (since_given who (s.uses b) j e) lt;
  put = λ b j m e p. h.put b j m (since_given who (s.uses b) j e) p;
  until = λ b n e. h.until b n (until_given who (s.uses b) n e);
}

pub used_flushed : (s : BlockUses) → AreUses s → AreUses (with_flushed s)
used_flushed s h = record {
  numbered = h.numbered;
  right = h.right;
  marked = h.marked;
  firm = omega (arith, h.firm, h.most);
  most = omega arith;
  system = h.system;
  live_is = h.live_is;
  since = h.since;
  written = h.written;
  put = h.put;
  until = h.until;
}

pub used_settled : (s : BlockUses) (n : ℕ) → AreUses s → s.settled ≤ n → n ≤ s.firm → AreUses (with_settling s n)
used_settled s n h ge le = record {
  numbered = h.numbered;
  right = h.right;
  marked = omega (arith, h.marked);
  firm = le;
  most = h.most;
  system = λ b below. ap (let_go n) (h.system b below);
  live_is = λ k b above below. h.live_is k b (omega (arith, ge, above)) below ∙ sym (shown_let_go n k (s.uses b) (s.sums b) above);
  since = λ b j e. h.since b j (since_let_go n (s.uses b) j e);
  written = λ b j e lt. h.written b j (since_let_go n (s.uses b) j e) lt;
  put = λ b j m e p. h.put b j m (since_let_go n (s.uses b) j e) p;
  until = λ b m e. h.until b m (until_let_go n (s.uses b) m e);
}

-- ---- a checkpoint's own blocks: where a use changes, nothing is live before and after

-- The change of uses touches hidden uses alone, and leaves them hidden.
abbrev pub TouchesHidden : (Use → Use) → Type 0
TouchesHidden f = (u : Use) → (f u ≡ u) ⊎ ((since_of u ≡ None) × (since_of (f u) ≡ None))

pub hides_each : (s : BlockUses) (f : ℕ → Use → Use) → ((b : ℕ) → TouchesHidden (f b)) → ((b : ℕ) → f b System ≡ System) → Hides s (λ b. f b (s.uses b)) s.sums
hides_each s f touches stays = record {
  each = λ b. elim (touches b (s.uses b)) [
    | inl same ↦ inl (same, refl)
    | inr hidden ↦ inr hidden
  ];
  system = λ b e. ap (f b) e ∙ stays b;
}

pub touches_laid_firm : TouchesHidden laid_firm
touches_laid_firm Laid = inr (refl, refl)
touches_laid_firm u = inl refl

pub touches_switched : (stays kept : Bool) → TouchesHidden (switched stays kept)
touches_switched true kept Layer = inr (refl, refl)
touches_switched false true Layer = inr (refl, refl)
touches_switched false false Layer = inr (refl, refl)
touches_switched stays kept Coming = inr (refl, refl)
touches_switched stays kept Aside = inr (refl, refl)
touches_switched stays kept u = inl refl

pub touches_pin_ended : (kept : Bool) → TouchesHidden (pin_ended kept)
touches_pin_ended true Pinned = inr (refl, refl)
touches_pin_ended false Pinned = inr (refl, refl)
touches_pin_ended kept u = inl refl

pub touches_abandoned : TouchesHidden abandoned
touches_abandoned Aside = inr (refl, refl)
touches_abandoned Laid = inr (refl, refl)
touches_abandoned u = inl refl

pub used_layers_flushed : (s : BlockUses) → AreUses s → AreUses (with_layers_flushed s)
used_layers_flushed s h = used_flushed (record s { uses = λ b. laid_firm (s.uses b) }) (used_hides s h _ _ (hides_each s (λ b. laid_firm) (λ b. touches_laid_firm) (λ b. refl)))

pub used_switch : (s : BlockUses) (stays kept : ℕ → Bool) → AreUses s → AreUses (with_switch s stays kept)
used_switch s stays kept h = used_hides s h _ _ (hides_each s (λ b. switched (stays b) (kept b)) (λ b. touches_switched (stays b) (kept b)) (λ b. refl))

pub used_pin_ended : (s : BlockUses) (kept : ℕ → Bool) → AreUses s → AreUses (with_pin_ended s kept)
used_pin_ended s kept h = used_hides s h _ _ (hides_each s (λ b. pin_ended (kept b)) (λ b. touches_pin_ended (kept b)) (λ b. refl))

pub used_anew : (s : BlockUses) → AreUses s → AreUses (with_anew s)
used_anew s h = used_hides s h _ _ (hides_each s (λ b. abandoned) (λ b. touches_abandoned) (λ b. refl))

pub used_aside : (s : BlockUses) (at : ℕ) → AreUses s → s.uses at ≡ Free → AreUses (with_use s at Aside)
used_aside s at h free = used_use s at Aside h (λ e. let q : Free ≡ System = sym free ∙ e in cc) (ap since_of free) refl

pub used_laid : (s : BlockUses) (at sum : ℕ) (ok : Bool) → AreUses s → s.uses at ≡ Aside → AreUses (with_laid s at sum ok)
used_laid s at sum true h aside = used_hides s h _ _ (hides_put s at Laid sum (λ e. let q : Aside ≡ System = sym aside ∙ e in cc) (ap since_of aside) refl)
used_laid s at sum false h aside = h
