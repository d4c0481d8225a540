-- What each call of a format adds.
use Rattle.std.proofs.Common.{◌≡◌, ◌≢◌, ℕ, ◌+◌, ◌≤◌, ◌<◌, ⊎_elim, List, [], true, false, get_or, set, refl, sym, subst, ◌∙◌, ap, arith}
use Rattle.std.specs.Prelude.{Option, Some, None}
use Rattle.std.proofs.lemmas.List.{get_or-set_other, get_or-set_same}
use Rattle.std.proofs.lemmas.Bool.{cases_eq}
use Rattle.fx_disk.specs.Record.{Write, Flush, DiskRecord, Cell, cell_now}
use Rattle.fx_disk.specs.Steps.{MayHold, IsRecordOf, Writes, Flushes, with_call, with_write, with_flush}
use Rattle.fx_disk.specs.Settled.{HasNoFailed}
use Rattle.fx_disk.proofs.Cells.{IsFixed, fixed-after, after-write, other-block, after-good_flush}
use Rattle.fx_disk.specs.Longer.{BothTell}
use Rattle.fx_disk.proofs.Longer.{longer_same, longer_then, longer_call}
use Rattle.fx_disk.proofs.Made.{IsTold}
use Rattle.fx_mount.specs.Formatted.{IsLaidOut}
use Rattle.fx_base.specs.Blocks.{zero_bytes}
use Rattle.fx_mount.specs.Laying.{IsLaid, KeepsFirst}

pub laid-none : (r : DiskRecord) → KeepsFirst 1 r r
laid-none r = record {
  goes = longer_same r;
  first_is = refl;
  zeros = λ b least below. absurd (omega arith);
  rest = λ b least. refl;
  good = λ fixed b lt. let h : IsFixed (cell_now r b) = fixed-after r b r.calls (fixed b lt) in h.good;
}

-- the block that is written, or another
by_block : (at b : ℕ) (P : Type 0) → (at ≡ b → P) → ((at ≡ b → ⊥) → P) → P
by_block at b P same other = ⊎_elim same other (cases_eq at b)

good-write : (s : DiskRecord) (at : ℕ) (bytes : List ℕ) (contents : List (List ℕ)) → HasNoFailed s → HasNoFailed (with_call s (Write at bytes true) contents)
good-write s at bytes contents h b lt = by_block at b ((cell_now (with_call s (Write at bytes true) contents) b).failed ≡ false)
    (λ e. subst (λ (k : ℕ). (cell_now (with_call s (Write at bytes true) contents) k).failed ≡ false) e (ap (λ (c : Cell). c.failed) (after-write s at bytes true contents)))
    (λ ne. ap (λ (c : Cell). c.failed) (other-block s b at bytes true contents ne) ∙ h b lt)

module _ (size calls : ℕ) (r s : DiskRecord) (ok : IsRecordOf size calls s) (first : List ℕ) where
  -- the next block of zeros
  pub laid-zeros : (at : ℕ) (held : List ℕ) → 1 ≤ at → at < size → MayHold zero_bytes true held → IsLaid at first r s → IsLaid (at + 1) first r (with_write s at zero_bytes true held)
  laid-zeros at held least lt holds h = record {
    goes = longer_then r s (with_write s at zero_bytes true held) h.goes (longer_call s (Write at zero_bytes true) (set s.contents at held));
    first_is = let ne : 0 ≢ at = λ e. absurd (omega arith) in get_or-set_other s.contents at 0 held [] ne ∙ h.first_is;
    zeros = λ b from below. by_block at b (get_or (set s.contents at held) b [] ≡ zero_bytes)
        (λ e. subst (λ (k : ℕ). get_or (set s.contents at held) k [] ≡ zero_bytes) e (get_or-set_same s.contents at held [] (omega (arith, ok.contents_size)) ∙ holds.good refl))
        (λ ne. let ne' : b ≢ at = λ e. ne (sym e) in get_or-set_other s.contents at b held [] ne' ∙ h.zeros b from (let ne'' : b ≡ at → ⊥ = ne' in omega arith));
    rest = λ b from. let ne : b ≢ at = λ e. absurd (omega arith) in get_or-set_other s.contents at b held [] ne ∙ h.rest b (omega arith);
    good = λ fixed b below. good-write s at zero_bytes (set s.contents at held) (h.good fixed) b below;
  }

  -- block 0
  pub laid-first : (end : ℕ) (bytes held : List ℕ) → 1 ≤ end → 0 < size → MayHold bytes true held → IsLaid end first r s → IsLaid end bytes r (with_write s 0 bytes true held)
  laid-first end bytes held least lt holds h = record {
    goes = longer_then r s (with_write s 0 bytes true held) h.goes (longer_call s (Write 0 bytes true) (set s.contents 0 held));
    first_is = get_or-set_same s.contents 0 held [] (omega (arith, ok.contents_size)) ∙ holds.good refl;
    zeros = λ b from below. let ne : b ≢ 0 = λ e. absurd (omega arith) in get_or-set_other s.contents 0 b held [] ne ∙ h.zeros b from below;
    rest = λ b from. let ne : b ≢ 0 = λ e. absurd (omega arith) in get_or-set_other s.contents 0 b held [] ne ∙ h.rest b from;
    good = λ fixed b below. good-write s 0 bytes (set s.contents 0 held) (h.good fixed) b below;
  }

-- a good flush
pub laid-flush : (end : ℕ) (first : List ℕ) (r s : DiskRecord) → IsLaid end first r s → IsLaid end first r (with_flush s true)
laid-flush end first r s h = record {
  goes = longer_then r s (with_flush s true) h.goes (longer_call s (Flush true) s.contents);
  first_is = h.first_is;
  zeros = h.zeros;
  rest = h.rest;
  good = λ fixed b below. ap (λ (c : Cell). c.failed) (after-good_flush s b s.contents (h.good fixed b below));
}

-- and then all is settled
pub laid-out : (ring : ℕ) (first : List ℕ) (r s : DiskRecord) → IsLaid (ring + 2) first r s → IsLaidOut ring first r (with_flush s true)
laid-out ring first r s h = record {
  first_is = h.first_is;
  zeros = h.zeros;
  rest = h.rest;
  settled = λ fixed b below. ap (λ (c : Cell). c.loose) (after-good_flush s b s.contents (h.good fixed b below));
}

-- The same of what a disk tells.
pub both-more : (P Q : DiskRecord → DiskRecord → Type 0) (before after : Option DiskRecord) → ((r s : DiskRecord) → P r s → Q r s) → BothTell P before after → BothTell Q before after
both-more P Q None after f h = h
both-more P Q (Some r) after f (s, e, p) = (s, e, f r s p)

pub both-begun : (told : Option DiskRecord) → BothTell (KeepsFirst 1) told told
both-begun None = refl
both-begun (Some r) = (r, refl, laid-none r)

-- one more call of the later record
both-then : (P Q : DiskRecord → DiskRecord → Type 0) (before mid after : Option DiskRecord) (Does : Option DiskRecord → Type 0) → (Does None → after ≡ None)
    → ((r s : DiskRecord) → Does (Some s) → P r s → (t : DiskRecord) × (after ≡ Some t) × Q r t) → Does mid → BothTell P before mid → BothTell Q before after
both-then P Q None mid after Does none some does e = none (subst Does e does)
both-then P Q (Some r) mid after Does none some does (s, e, p) = some r s (subst Does e does) p

pub both-zeros : (size calls : ℕ) (before mid after : Option DiskRecord) (at : ℕ) → IsTold size calls mid → 1 ≤ at → at < size → Writes mid after at zero_bytes true
    → BothTell (KeepsFirst at) before mid → BothTell (KeepsFirst (at + 1)) before after
both-zeros size calls before mid after at ok least lt w h =
    both-then (KeepsFirst at) (KeepsFirst (at + 1)) before mid after (λ o. IsTold size calls o × Writes o after at zero_bytes true) (λ d. d.1)
    (λ r s d p. (with_write s at zero_bytes true d.1.0, d.1.2, laid-zeros size calls r s d.0 (get_or r.contents 0 []) at d.1.0 least lt d.1.1 p)) (ok, w) h

pub both-first : (size calls end : ℕ) (before mid after : Option DiskRecord) (bytes : List ℕ) → IsTold size calls mid → 1 ≤ end → 0 < size → Writes mid after 0 bytes true
    → BothTell (KeepsFirst end) before mid → BothTell (IsLaid end bytes) before after
both-first size calls end before mid after bytes ok least lt w h =
    both-then (KeepsFirst end) (IsLaid end bytes) before mid after (λ o. IsTold size calls o × Writes o after 0 bytes true) (λ d. d.1)
    (λ r s d p. (with_write s 0 bytes true d.1.0, d.1.2, laid-first size calls r s d.0 (get_or r.contents 0 []) end bytes d.1.0 least lt d.1.1 p)) (ok, w) h

pub both-flush : (end : ℕ) (before mid after : Option DiskRecord) → Flushes mid after true → BothTell (KeepsFirst end) before mid → BothTell (KeepsFirst end) before after
both-flush end before mid after w h =
    both-then (KeepsFirst end) (KeepsFirst end) before mid after (λ o. Flushes o after true) (λ d. d)
    (λ r s d p. (with_flush s true, d, laid-flush end (get_or r.contents 0 []) r s p)) w h

pub both-out : (ring : ℕ) (bytes : List ℕ) (before mid after : Option DiskRecord) → Flushes mid after true → BothTell (IsLaid (ring + 2) bytes) before mid → BothTell (IsLaidOut ring bytes) before after
both-out ring bytes before mid after w h =
    both-then (IsLaid (ring + 2) bytes) (IsLaidOut ring bytes) before mid after (λ o. Flushes o after true) (λ d. d)
    (λ r s d p. (with_flush s true, d, laid-out ring bytes r s p)) w h
