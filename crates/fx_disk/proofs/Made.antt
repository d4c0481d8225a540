-- Calls that were made, or not.
use Rattle.std.proofs.Common.{◌≡◌, ℕ, List, ◌+◌, Bool, true, false, refl, sym, subst, ◌∙◌, ⊎_elim}
use Rattle.std.specs.Prelude.{Option, IfSome, Result, Ok, Err, OnOk, is_ok}
use Rattle.fx_disk.specs.Record.{DiskRecord}
use Rattle.fx_disk.specs.Steps.{IsRecordOf, Writes, Flushes, MadeOrNot}
use Rattle.fx_disk.specs.Longer.{Extends}
use Rattle.fx_disk.proofs.Longer.{extends_made, extends_writes, extends_flushes}

-- of a disk with these counts, what it tells
abbrev pub IsTold : ℕ → ℕ → Option DiskRecord → Type 0
IsTold size calls told = IfSome told (IsRecordOf size calls)

-- a good call was made
pub good-made : (m n : ℕ) (made : Bool) (does keeps : Type 0) → MadeOrNot m n made true does keeps → does
good-made m n made does keeps d = ⊎_elim (λ y. y.done) (λ no. absurd (cc no.failed)) d

pub good-counted : (m n : ℕ) (made : Bool) (does keeps : Type 0) → MadeOrNot m n made true does keeps → n ≡ m + 1
good-counted m n made does keeps d = ⊎_elim (λ y. y.counted) (λ no. absurd (cc no.failed)) d

-- a call that answered Ok
pub on_ok-from : {T E : Type 0} (r : Result T E) (P : Type 0) → (is_ok r ≡ true → P) → OnOk r P
on_ok-from (Ok x) P f = f refl
on_ok-from (Err e) P f = tt

pub flush-made : (before after : Option DiskRecord) (m n : ℕ) (made ok : Bool) → ok ≡ true → MadeOrNot m n made ok (Flushes before after ok) (after ≡ before) → Flushes before after true
flush-made before after m n made ok e d = good-made m n made (Flushes before after true) (after ≡ before) (subst (λ (t : Bool). MadeOrNot m n made t (Flushes before after t) (after ≡ before)) e d)

-- a good call is counted
pub made-counts : (count counted : ℕ) (made ok : Bool) (does keeps : Type 0) → ok ≡ true → MadeOrNot count counted made ok does keeps → counted ≡ count + 1
made-counts count counted made ok does keeps good w = ⊎_elim (λ y. y.counted) (λ no. absurd (let e : true ≡ false = sym good ∙ no.failed in cc)) w

-- what is told is extended, whether the call was made or not
pub extends-write : (before after : Option DiskRecord) (at : ℕ) (bytes : List ℕ) (ok : Bool) (m n : ℕ) (made : Bool) → MadeOrNot m n made ok (Writes before after at bytes ok) (after ≡ before) → Extends before after
extends-write before after at bytes ok m n made h = extends_made before after ok m n made _ (extends_writes before after at bytes ok) h

pub extends-flush : (before after : Option DiskRecord) (ok : Bool) (m n : ℕ) (made : Bool) → MadeOrNot m n made ok (Flushes before after ok) (after ≡ before) → Extends before after
extends-flush before after ok m n made h = extends_made before after ok m n made _ (extends_flushes before after ok) h
