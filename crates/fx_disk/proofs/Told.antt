-- What holds of a record is carried over a write or a flush, made or not, where the record is told.
use Rattle.std.proofs.Common.{◌≡◌, ℕ, ◌<◌, ◌++◌, ◌∷◌, [], List, length, get_or, subst, sym, arith, ⊎_elim, Bool, true, false, Option, Some, None, IfSome}
use Rattle.std.proofs.lemmas.List.Elements.{Contains-append_left}
use Rattle.fx_disk.specs.Record.{DiskRecord, Cell}
use Rattle.fx_disk.specs.Steps.{Writes, Flushes, MadeOrNot, MayHold, with_write, with_flush, IsRecordOf}
use Rattle.fx_disk.specs.Always.{Always, HoldsNow, Implies, HoldsWithin}
use Rattle.fx_disk.specs.Settled.{IsSettled, HasNoFailed, IsChangedAt, IsGoodWrite}
use Rattle.fx_disk.proofs.Kept.{Always-write, Always-flush, Always-start, Always-now, Always-map}
use Rattle.fx_disk.proofs.Settled.{changed-begin, changed-write, changed-flush, changed-settled, good-write, good-flush, settled-flush, no_failed-write, no_failed-flush}

pub told-all : (I : DiskRecord → Type 0) (told : Option DiskRecord) → ((r : DiskRecord) → I r) → IfSome told I
told-all I None all = tt
told-all I (Some r) all = all r

pub told-map : (I J : DiskRecord → Type 0) (told : Option DiskRecord) → ((r : DiskRecord) → I r → J r) → IfSome told I → IfSome told J
told-map I J None step h = h
told-map I J (Some r) step h = step r h

pub told-both : (I J K : DiskRecord → Type 0) (told : Option DiskRecord) → ((r : DiskRecord) → I r → J r → K r) → IfSome told I → IfSome told J → IfSome told K
told-both I J K None step h l = h
told-both I J K (Some r) step h l = step r h l

pub made-write : (I J : DiskRecord → Type 0) (before after : Option DiskRecord) (at : ℕ) (bytes : List ℕ) (ok : Bool) → Writes before after at bytes ok
    → ((r : DiskRecord) (held : List ℕ) → MayHold bytes ok held → I r → J (with_write r at bytes ok held)) → IfSome before I → IfSome after J
made-write I J None after at bytes ok w step h = rw w h
made-write I J (Some r) after at bytes ok w step h = rw w.2 (step r w.0 w.1 h)

pub made-flush : (I J : DiskRecord → Type 0) (before after : Option DiskRecord) (ok : Bool) → Flushes before after ok → ((r : DiskRecord) → I r → J (with_flush r ok)) → IfSome before I → IfSome after J
made-flush I J None after ok w step h = rw w h
made-flush I J (Some r) after ok w step h = rw w (step r h)

module _ (before after : Option DiskRecord) (count counted : ℕ) (made ok : Bool) where
  -- one write, and one flush: what holds before gives what holds after, whether it was made or not
  pub told-write : (I J : DiskRecord → Type 0) (at : ℕ) (bytes : List ℕ) → MadeOrNot count counted made ok (Writes before after at bytes ok) (after ≡ before)
      → ((r : DiskRecord) → I r → J r) → ((r : DiskRecord) (held : List ℕ) → MayHold bytes ok held → I r → J (with_write r at bytes ok held)) → IfSome before I → IfSome after J
  told-write I J at bytes w same step h = ⊎_elim
      (λ done. made-write I J before after at bytes ok done.done step h)
      (λ kept. subst (λ (o : Option DiskRecord). IfSome o J) (sym kept.same) (told-map I J before same h))
      w

  pub told-flush : (I J : DiskRecord → Type 0) → MadeOrNot count counted made ok (Flushes before after ok) (after ≡ before)
      → ((r : DiskRecord) → I r → J r) → ((r : DiskRecord) → I r → J (with_flush r ok)) → IfSome before I → IfSome after J
  told-flush I J w same step h = ⊎_elim
      (λ done. made-flush I J before after ok done.done step h)
      (λ kept. subst (λ (o : Option DiskRecord). IfSome o J) (sym kept.same) (told-map I J before same h))
      w

-- a fact on all images over one more write and one more flush
module _ (P Q : (ℕ → Cell) → ℕ → List (List ℕ) → Type 0) (from : ℕ) where
  carried-made_write : (before after : Option DiskRecord) (at : ℕ) (bytes : List ℕ) (ok : Bool) → Writes before after at bytes ok → HoldsWithin Q
      → IfSome before (Always P from) → IfSome before (Implies P Q from) → IfSome after (HoldsNow Q) → IfSome after (Always Q from)
  carried-made_write None after at bytes ok w within always gives now = subst (λ (o : Option DiskRecord). IfSome o (Always Q from)) (sym w) tt
  carried-made_write (Some r) after at bytes ok w within always gives now = subst (λ (o : Option DiskRecord). IfSome o (Always Q from)) (sym w.2)
      (Always-write P Q from r _ at bytes ok always gives within (subst (λ (o : Option DiskRecord). IfSome o (HoldsNow Q)) w.2 now))

  carried-made_flush : (before after : Option DiskRecord) (ok : Bool) → Flushes before after ok
      → IfSome before (Always P from) → IfSome before (Implies P Q from) → IfSome after (HoldsNow Q) → IfSome after (Always Q from)
  carried-made_flush None after ok w always gives now = subst (λ (o : Option DiskRecord). IfSome o (Always Q from)) (sym w) tt
  carried-made_flush (Some r) after ok w always gives now = subst (λ (o : Option DiskRecord). IfSome o (Always Q from)) (sym w)
      (Always-flush P Q from r _ ok always gives (subst (λ (o : Option DiskRecord). IfSome o (HoldsNow Q)) w now))

  pub told-follows : (told : Option DiskRecord) → IfSome told (Always P from) → IfSome told (Implies P Q from) → IfSome told (Always Q from)
  told-follows told always gives = told-both (Always P from) (Implies P Q from) (Always Q from) told (λ r h l. Always-map P Q from r l h) always gives

  module _ (before after : Option DiskRecord) (count counted : ℕ) (made ok : Bool) where
    pub carried-write : (at : ℕ) (bytes : List ℕ) → MadeOrNot count counted made ok (Writes before after at bytes ok) (after ≡ before) → HoldsWithin Q
        → IfSome before (Always P from) → IfSome before (Implies P Q from) → IfSome after (HoldsNow Q) → IfSome after (Always Q from)
    carried-write at bytes w within always gives now = ⊎_elim
        (λ done. carried-made_write before after at bytes ok done.done within always gives now)
        (λ kept. subst (λ (o : Option DiskRecord). IfSome o (Always Q from)) (sym kept.same) (told-follows before always gives))
        w

    pub carried-flush : MadeOrNot count counted made ok (Flushes before after ok) (after ≡ before)
        → IfSome before (Always P from) → IfSome before (Implies P Q from) → IfSome after (HoldsNow Q) → IfSome after (Always Q from)
    carried-flush w always gives now = ⊎_elim
        (λ done. carried-made_flush before after ok done.done always gives now)
        (λ kept. subst (λ (o : Option DiskRecord). IfSome o (Always Q from)) (sym kept.same) (told-follows before always gives))
        w

pub begun-now : (P : (ℕ → Cell) → ℕ → List (List ℕ) → Type 0) (told : Option DiskRecord) (size calls : ℕ) → IfSome told (IsRecordOf size calls) → IfSome told (HoldsNow P) → IfSome told (Always P calls)
begun-now P told size calls is here = told-both (IsRecordOf size calls) (HoldsNow P) (Always P calls) told
    (λ r h l. subst (λ (n : ℕ). Always P n r) h.counted (Always-start P r l)) is here

pub holds-now : (P : (ℕ → Cell) → ℕ → List (List ℕ) → Type 0) (told : Option DiskRecord) (from : ℕ) → IfSome told (Always P from) → IfSome told (HoldsNow P)
holds-now P told from always = told-map (Always P from) (HoldsNow P) told (λ r h. Always-now P from r h) always

-- a call that answered Ok was made
good-made : (count counted : ℕ) (made : Bool) (does keeps : Type 0) → MadeOrNot count counted made true does keeps → does
good-made count counted made does keeps w = ⊎_elim (λ done. done.done) (λ kept. let e : true ≡ false = kept.failed in absurd (cc)) w

module _ (before after : Option DiskRecord) (count counted : ℕ) (made : Bool) (at : ℕ) (bytes : List ℕ) where
  pub good-told_write : MadeOrNot count counted made true (Writes before after at bytes true) (after ≡ before) → IfSome after (IsGoodWrite at bytes)
  good-told_write w = made-write (λ _. Unit {0}) (IsGoodWrite at bytes) before after at bytes true (good-made count counted made _ _ w) (λ r held holds h. good-write r at bytes held) (told-all (λ _. Unit {0}) before (λ _. tt))

  pub good-told_flush : MadeOrNot count counted made true (Flushes before after true) (after ≡ before) → IfSome before (IsGoodWrite at bytes) → IfSome after (IsGoodWrite at bytes)
  good-told_flush w good = made-flush (IsGoodWrite at bytes) (IsGoodWrite at bytes) before after true (good-made count counted made _ _ w) (λ r h. good-flush r at bytes h) good

-- good writes, and then a good flush
module _ (before after : Option DiskRecord) (count counted : ℕ) (made : Bool) where
  pub no_failed-told_write : (at : ℕ) (bytes : List ℕ) → MadeOrNot count counted made true (Writes before after at bytes true) (after ≡ before) → IfSome before HasNoFailed → IfSome after HasNoFailed
  no_failed-told_write at bytes w h = made-write HasNoFailed HasNoFailed before after at bytes true (good-made count counted made _ _ w) (λ r held holds h. no_failed-write r at bytes held h) h

  pub no_failed-told_flush : MadeOrNot count counted made true (Flushes before after true) (after ≡ before) → IfSome before HasNoFailed → IfSome after IsSettled
  no_failed-told_flush w h = made-flush HasNoFailed IsSettled before after true (good-made count counted made _ _ w) no_failed-flush h

-- the one block that a write and a flush change
module _ (before after : Option DiskRecord) (count counted : ℕ) (made : Bool) (base : List (List ℕ)) (at : ℕ) (values : List (List ℕ)) (bytes : List ℕ) where
  pub changed-told_write : (ok : Bool) (size calls : ℕ) → MadeOrNot count counted made ok (Writes before after at bytes ok) (after ≡ before) → at < size
      → IfSome before (IsRecordOf size calls) → IfSome before (IsChangedAt base at values) → IfSome after (IsChangedAt base at (values ++ bytes ∷ []))
  changed-told_write ok size calls w lt is changed = told-write before after count counted made ok (λ r. IsRecordOf size calls r × IsChangedAt base at values r) (IsChangedAt base at (values ++ bytes ∷ [])) at bytes w
      (λ r h. record { reads = h.1.reads; others = h.1.others; held = λ value held. Contains-append_left values (bytes ∷ []) value (h.1.held value held) })
      (λ r held holds h. let lt' : at < length r.contents = omega (arith, h.0.contents_size) in changed-write base at values r bytes ok held lt' h.1)
      (told-both (IsRecordOf size calls) (IsChangedAt base at values) _ before (λ r h l. (h, l)) is changed)

  pub changed-told_flush : (ok : Bool) → MadeOrNot count counted made ok (Flushes before after ok) (after ≡ before) → IfSome before (IsChangedAt base at values) → IfSome after (IsChangedAt base at values)
  changed-told_flush ok w changed = told-flush before after count counted made ok (IsChangedAt base at values) (IsChangedAt base at values) w (λ r h. h) (λ r h. changed-flush base at values r ok h) changed

  pub settled-told_flush : MadeOrNot count counted made true (Flushes before after true) (after ≡ before)
      → IfSome before (IsChangedAt base at values) → IfSome before (IsGoodWrite at bytes) → IfSome after IsSettled
  settled-told_flush w changed good = made-flush (λ r. IsChangedAt base at values r × IsGoodWrite at bytes r) IsSettled before after true (good-made count counted made _ _ w)
      (λ r h. changed-settled base at values bytes r h.0 h.1)
      (told-both (IsChangedAt base at values) (IsGoodWrite at bytes) _ before (λ r h l. (h, l)) changed good)

pub changed-told : (told : Option DiskRecord) (size calls at : ℕ) (base : List (List ℕ)) → at < size → IfSome told (IsRecordOf size calls) → IfSome told IsSettled → IfSome told (λ r. r.contents ≡ base)
    → IfSome told (IsChangedAt base at (get_or base at [] ∷ []))
changed-told told size calls at base lt is settled reads = told-both (λ r. IsRecordOf size calls r × IsSettled r) (λ r. r.contents ≡ base) (IsChangedAt base at (get_or base at [] ∷ [])) told
    (λ r h e. subst (λ (xs : List (List ℕ)). IsChangedAt xs at (get_or xs at [] ∷ []) r) e (changed-begin size calls r at h.0 lt h.1))
    (told-both (IsRecordOf size calls) IsSettled _ told (λ r h l. (h, l)) is settled)
    reads

-- nothing is made loose by a flush or by a call that is not made
pub settled-told : (before after : Option DiskRecord) (count counted : ℕ) (made ok : Bool) → MadeOrNot count counted made ok (Flushes before after ok) (after ≡ before) → IfSome before IsSettled → IfSome after IsSettled
settled-told before after count counted made ok w settled = told-flush before after count counted made ok IsSettled IsSettled w (λ r h. h) (λ r h. settled-flush r ok h) settled
