-- Where transactions write no block, an image keeps all of them, and nothing is wanted of any block.
use Rattle.std.proofs.Common.{◌≡◌, ℕ, ◌+◌, ◌≤◌, Bool, true, false, if◌then◌else◌, List, length, refl, sym, ap, ◌∙◌, arith, inl, inr, Option, Some, None}
use Rattle.std.specs.Prelude.{nat_lt}
use Rattle.std.proofs.lemmas.Bool.{lt-ltb}
use Rattle.fx_disk.specs.Record.{DiskRecord, cell_now}
use Rattle.fx_uses.specs.Live.{Txn, AreNumbered, live_from}
use Rattle.fx_uses.specs.Uses.{Use, Free, System, IsOurs, AreUses, CellsHold, HasWanted, wanted, live_by_use, since_of, until_of}
use Rattle.fx_kept.specs.Kept.{IsKeptUpTo}
use Rattle.fx_kept.specs.Opened.{without_blocks, WritesNoBlock}
use Rattle.fx_kept.proofs.VerifyKept.{live_written}

pub all_kept : (found : ℕ → Option ℕ) (base : ℕ) (first : ℕ → Option ℕ) (stream : List Txn) → WritesNoBlock stream → IsKeptUpTo found base first stream (base + length stream)
all_kept found base first stream none = record {
  least = omega arith;
  most = omega arith;
  passes = λ b x live tested. absurd (none tested.number b tested.put);
  greatest = λ j lt le passes. omega (arith, lt, le);
}

no_number : (j : ℕ) → None ≡ Some j → ⊥
no_number j e = cc

nothing_live : (b k : ℕ) (ts : List Txn) → WritesNoBlock ts → live_from b k ts None ≡ None
nothing_live b k ts none = of (live_from b k ts None) refl
  where
    of : (o : Option ℕ) → live_from b k ts None ≡ o → live_from b k ts None ≡ None
    of None e = e
    of (Some x) e = elim (live_written b k ts None x e) [
      | inl tested ↦ absurd (none tested.number b tested.put)
      | inr some ↦ absurd (no_number x some)
    ]

abbrev use_of : Bool → Use
use_of t = if t then System else Free

shown_of : (t : Bool) (k x : ℕ) → live_by_use k (use_of t) x ≡ None
shown_of true k x = refl
shown_of false k x = refl

since_none : (t : Bool) → since_of (use_of t) ≡ None
since_none true = refl
since_none false = refl

until_nothing : (t : Bool) → until_of (use_of t) ≡ None
until_nothing true = refl
until_nothing false = refl

pub names_used : (first_data base : ℕ) (txns : List Txn) (settled firm : ℕ) → AreNumbered base txns → WritesNoBlock txns → base ≤ settled → settled ≤ firm → firm ≤ base + length txns → AreUses (without_blocks first_data base txns settled firm)
names_used first_data base txns settled firm numbered none marked up most = record {
  numbered = numbered;
  right = omega arith;
  marked = marked;
  firm = up;
  most = most;
  system = λ b below. ap use_of (lt-ltb b first_data below);
  live_is = λ k b ge le. nothing_live b k txns none ∙ sym (shown_of (nat_lt b first_data) k 0);
  since = λ b j e. absurd (no_number j (sym (since_none (nat_lt b first_data)) ∙ e));
  written = λ b j e lt. absurd (no_number j (sym (since_none (nat_lt b first_data)) ∙ e));
  put = λ b j n e p. absurd (none n b p);
  until = λ b n e. absurd (no_number n (sym (until_nothing (nat_lt b first_data)) ∙ e));
}

pub names_held : (sum : List ℕ → ℕ) (first_data base : ℕ) (txns : List Txn) (settled firm : ℕ) (r : DiskRecord) → CellsHold sum (without_blocks first_data base txns settled firm) r
names_held sum first_data base txns settled firm r = record {
  each = λ b. wants (nat_lt b first_data) b;
  stated = λ b ours. absurd (not_ours (nat_lt b first_data) ours);
}
  where
    wants : (t : Bool) (b : ℕ) → HasWanted (length r.entry) b firm (wanted (use_of t)) (cell_now r b)
    wants true b = tt
    wants false b = tt

    not_ours : (t : Bool) → IsOurs base (use_of t) → ⊥
    not_ours true o = o
    not_ours false o = o
