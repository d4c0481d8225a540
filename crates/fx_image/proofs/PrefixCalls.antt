-- Every image left stands for a prefix of the history: over a longer or a settled history, and over further calls.
use Rattle.std.proofs.Common.{◌≡◌, ℕ, zero, suc, ◌+◌, ◌≤◌, ◌<◌, List, [], ◌∷◌, ◌++◌, Bool, true, false, cond, length, refl, sym, subst, ap, arith, length-append, inl, inr}
use Rattle.std.specs.Prelude.{Some, nat_le, slice_get}
use Rattle.fx_plain.specs.Tree.{Tree}
use Rattle.fx_plain.specs.Bare.{bare}
use Rattle.fx_disk.specs.Record.{Call, Write, Flush, DiskRecord, Cell, cell_after}
use Rattle.fx_disk.specs.Steps.{with_call}
use Rattle.fx_disk.specs.Always.{Always, HoldsNow}
use Rattle.fx_disk.proofs.Left.{length-with_call}
use Rattle.fx_disk.proofs.Kept.{Always-write, Always-flush, Always-map, Always-start}
use Rattle.fx_super.specs.Super.{Fields}
use Rattle.fx_history.specs.declared.entry.Entry.{Entry}
use Rattle.fx_history.specs.History.{tree_at, settled_by}
use Rattle.fx_history.proofs.Histories.{got_split, tree_at_before}
use Rattle.fx_log.specs.Chance.{NotByChance}
use Rattle.fx_image.specs.Standing.{Transactions, IsImage, HasAmpleRoom, kept}
use Rattle.fx_image.specs.Prefix.{IsPrefix, Began, KeepsPrefix}
use Rattle.fx_image.specs.Journal.{settle_upto}
use Rattle.fx_image.proofs.SettleUpto.{tree_at_upto, upto_got, upto_length}
use Rattle.fx_disk.proofs.Began.{cells-began, began_as-before}

-- ---- one image

module _ (size : ℕ) (ample : Type 0) (tree : Tree) (base : ℕ) (history : List Entry) (m : ℕ) (image : List (List ℕ)) where
  -- at an earlier moment no more was settled
  pub prefix-within : IsPrefix size ample tree base history (m + 1) image → IsPrefix size ample tree base history m image
  prefix-within h = record {
    super = h.super;
    txns = h.txns;
    least = h.least;
    most = h.most;
    settled = λ i entry got some by. h.settled i entry got some (omega arith);
    image_is = h.image_is;
    room = h.room;
  }

  -- another history has the same trees up to here
  prefix-same : (other : List Entry) → (h : IsPrefix size ample tree base history m image) → length history ≤ length other → tree_at tree other (kept h.super h.txns) ≡ tree_at tree history (kept h.super h.txns)
      → ((i : ℕ) (entry : Entry) → slice_get other i ≡ Some entry → 1 ≤ entry.settled → entry.settled ≤ m → entry.number ≤ kept h.super h.txns)
      → IsPrefix size ample tree base other m image
  prefix-same other h longer same settled = record {
    super = h.super;
    txns = h.txns;
    least = h.least;
    most = omega (arith, h.most);
    settled = settled;
    image_is = subst (λ (t : Tree). IsImage size image h.super h.txns (bare t)) (sym same) h.image_is;
    room = h.room;
  }

  -- one more commit, which is not settled
  pub prefix-more : (entry : Entry) → entry.number ≡ base + length history + 1 → entry.settled ≡ 0 → IsPrefix size ample tree base history m image → IsPrefix size ample tree base (history ++ entry ∷ []) m image
  prefix-more entry number none h = prefix-same (history ++ entry ∷ []) h (omega (arith, length-append history (entry ∷ [])))
      (tree_at_before tree history entry (kept h.super h.txns) (omega (arith, number, h.most)))
      (λ i x got some by. elim (got_split history entry i x got) [
        | inl old ↦ h.settled i x old some by
        | inr new ↦ absurd (omega (arith, none, some, ap (λ (y : Entry). y.settled) new.1))
      ])

  -- what is settled later was not settled by this moment
  early : (calls before : ℕ) → m < calls → settled_by calls before ≤ m → settled_by calls before ≡ before
  early calls zero lt by = absurd (omega arith)
  early calls (suc before) lt by = refl

  early_by : (b : Bool) (calls before : ℕ) → m < calls → cond b (settled_by calls before) before ≤ m → cond b (settled_by calls before) before ≡ before
  early_by true calls before lt by = early calls before lt by
  early_by false calls before lt by = refl

  pub prefix-settled : (calls number : ℕ) → m < calls → IsPrefix size ample tree base history m image → IsPrefix size ample tree base (settle_upto calls number history) m image
  prefix-settled calls number lt h = prefix-same (settle_upto calls number history) h (omega (arith, upto_length calls number history)) (tree_at_upto tree calls number history (kept h.super h.txns))
      (λ i x got some by.
      let old = upto_got calls number history i x got in
      let then : cond (nat_le old.0.number number) (settled_by calls old.0.settled) old.0.settled ≡ x.settled = ap (λ (y : Entry). y.settled) old.2 in
      let same : cond (nat_le old.0.number number) (settled_by calls old.0.settled) old.0.settled ≡ old.0.settled = early_by (nat_le old.0.number number) calls old.0.settled lt (omega (arith, then, by)) in
      subst (λ (y : Entry). y.number ≤ kept h.super h.txns) old.2 (h.settled i old.0 old.1 (omega (arith, same, then, some)) (omega (arith, same, then, by))))

-- ---- all images

-- an image that is not there by chance stands for a prefix
abbrev pub StandsByChance : (ℕ → Cell) → Fields → (size : ℕ) → Type 0 → Tree → ℕ → List Entry → (ℕ → Cell) → ℕ → List (List ℕ) → Type 0
StandsByChance before f size ample tree base history cells m left = NotByChance before cells f.generation left → IsPrefix size ample tree base history m left

pub began-before : (size from base : ℕ) (tree : Tree) (r : DiskRecord) (call : Call) (contents : List (List ℕ)) (image : List (List ℕ)) (f : Fields) (txns : Transactions) → from ≤ length r.calls
    → Began size from base tree (with_call r call contents) image f txns → Began size from base tree r image f txns
began-before size from base tree r call contents image f txns le h = record { begins = began_as-before r call contents from le image h.begins; image_is = h.image_is; base_is = h.base_is }

-- of each disk that began so, every image left now
abbrev pub KeepsNow : (size from : ℕ) → Tree → (base : ℕ) → List Entry → DiskRecord → Type 0
KeepsNow size from tree base history r =
    (image : List (List ℕ)) (f : Fields) (txns : Transactions) → Began size from base tree r image f txns →
    HoldsNow (StandsByChance (cell_after r from) f size (HasAmpleRoom f txns) tree base history) r

module _ (size from : ℕ) (tree : Tree) (base : ℕ) (history other : List Entry) (r : DiskRecord)
    (old : (ample : Type 0) (m : ℕ) (image : List (List ℕ)) → m ≤ length r.calls → IsPrefix size ample tree base history m image → IsPrefix size ample tree base other m image)
    (h : KeepsPrefix size from tree base history r) where
  -- another history
  pub keeps-map : KeepsPrefix size from tree base other r
  keeps-map = record {
    since = h.since;
    always = λ image f txns began.
        Always-map (StandsByChance (cell_after r from) f size (HasAmpleRoom f txns) tree base history) (StandsByChance (cell_after r from) f size (HasAmpleRoom f txns) tree base other) from r
        (λ m left ge le is stands chance. old (HasAmpleRoom f txns) m left le (stands chance)) (h.always image f txns began);
  }

  module _ (contents : List (List ℕ)) where
    -- a write and a flush
    pub keeps-write : (at : ℕ) (bytes : List ℕ) (ok : Bool) → KeepsNow size from tree base other (with_call r (Write at bytes ok) contents) → KeepsPrefix size from tree base other (with_call r (Write at bytes ok) contents)
    keeps-write at bytes ok now = record {
      since = omega (arith, h.since, length-with_call r (Write at bytes ok) contents);
      always = λ image f txns began.
          let s : DiskRecord = with_call r (Write at bytes ok) contents in
          let same : cell_after s from ≡ cell_after r from = cells-began r (Write at bytes ok) contents from h.since in
          subst (λ (before : ℕ → Cell). Always (StandsByChance before f size (HasAmpleRoom f txns) tree base other) from s) (sym same)
          (Always-write (StandsByChance (cell_after r from) f size (HasAmpleRoom f txns) tree base history) (StandsByChance (cell_after r from) f size (HasAmpleRoom f txns) tree base other) from r contents at bytes ok
          (h.always image f txns (began-before size from base tree r (Write at bytes ok) contents image f txns h.since began))
          (λ m left ge le is stands chance. old (HasAmpleRoom f txns) m left le (stands chance))
          (λ cells m left stands chance. prefix-within size (HasAmpleRoom f txns) tree base other m left (stands chance))
          (subst (λ (before : ℕ → Cell). HoldsNow (StandsByChance before f size (HasAmpleRoom f txns) tree base other) s) same (now image f txns began)));
    }

    pub keeps-flush : (ok : Bool) → KeepsNow size from tree base other (with_call r (Flush ok) contents) → KeepsPrefix size from tree base other (with_call r (Flush ok) contents)
    keeps-flush ok now = record {
      since = omega (arith, h.since, length-with_call r (Flush ok) contents);
      always = λ image f txns began.
          let s : DiskRecord = with_call r (Flush ok) contents in
          let same : cell_after s from ≡ cell_after r from = cells-began r (Flush ok) contents from h.since in
          subst (λ (before : ℕ → Cell). Always (StandsByChance before f size (HasAmpleRoom f txns) tree base other) from s) (sym same)
          (Always-flush (StandsByChance (cell_after r from) f size (HasAmpleRoom f txns) tree base history) (StandsByChance (cell_after r from) f size (HasAmpleRoom f txns) tree base other) from r contents ok
          (h.always image f txns (began-before size from base tree r (Flush ok) contents image f txns h.since began))
          (λ m left ge le is stands chance. old (HasAmpleRoom f txns) m left le (stands chance))
          (subst (λ (before : ℕ → Cell). HoldsNow (StandsByChance before f size (HasAmpleRoom f txns) tree base other) s) same (now image f txns began)));
    }

-- from now on
pub keeps-start : (size : ℕ) (tree : Tree) (base : ℕ) (history : List Entry) (r : DiskRecord) → KeepsNow size (length r.calls) tree base history r → KeepsPrefix size (length r.calls) tree base history r
keeps-start size tree base history r now = record {
  since = omega arith;
  always = λ image f txns began. Always-start (StandsByChance (cell_after r (length r.calls)) f size (HasAmpleRoom f txns) tree base history) r (now image f txns began);
}
