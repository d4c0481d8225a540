-- Records that extend each other.
use Rattle.std.proofs.Common.{◌≡◌, ℕ, List, [], ◌∷◌, ◌++◌, refl, sym, subst, ◌∙◌, ap, append_assoc, ⊎_elim, Bool}
use Rattle.std.specs.Prelude.{Option, Some, None}
use Rattle.std.proofs.lemmas.List.{append-nil}
use Rattle.fx_disk.specs.Record.{Call, DiskRecord}
use Rattle.fx_disk.specs.Steps.{Writes, Flushes, MadeOrNot, with_call}
use Rattle.fx_disk.specs.Longer.{IsLonger, Extends}

pub longer_same : (r : DiskRecord) → IsLonger r r
longer_same r = record { entry = refl; further = []; calls = sym (append-nil r.calls) }

pub longer_then : (r s t : DiskRecord) → IsLonger r s → IsLonger s t → IsLonger r t
longer_then r s t g h = record {
  entry = h.entry ∙ g.entry;
  further = g.further ++ h.further;
  calls = h.calls ∙ ap (λ (cs : List Call). cs ++ h.further) g.calls ∙ append_assoc r.calls g.further h.further;
}

pub longer_call : (r : DiskRecord) (call : Call) (contents : List (List ℕ)) → IsLonger r (with_call r call contents)
longer_call r call contents = record { entry = refl; further = call ∷ []; calls = refl }

pub extends_same : (before after : Option DiskRecord) → after ≡ before → Extends before after
extends_same None after e = e
extends_same (Some r) after e = (r, e, longer_same r)

pub extends_then : (a b c : Option DiskRecord) → Extends a b → Extends b c → Extends a c
extends_then None b c e f = subst (λ (o : Option DiskRecord). Extends o c) e f
extends_then (Some r) b c (s, e, g) f =
    let f' : Extends (Some s) c = subst (λ (o : Option DiskRecord). Extends o c) e f in
    (f'.0, f'.1, longer_then r s f'.0 g f'.2)

extends_call : (r : DiskRecord) (call : Call) (contents : List (List ℕ)) (after : Option DiskRecord) → after ≡ Some (with_call r call contents) → Extends (Some r) after
extends_call r call contents after e = (with_call r call contents, e, longer_call r call contents)

pub extends_writes : (before after : Option DiskRecord) (at : ℕ) (bytes : List ℕ) (ok : Bool) → Writes before after at bytes ok → Extends before after
extends_writes None after at bytes ok e = e
extends_writes (Some r) after at bytes ok (held, holds, e) = extends_call r _ _ after e

pub extends_flushes : (before after : Option DiskRecord) (ok : Bool) → Flushes before after ok → Extends before after
extends_flushes None after ok e = e
extends_flushes (Some r) after ok e = extends_call r _ _ after e

pub extends_made : (before after : Option DiskRecord) (ok : Bool) (m n : ℕ) (made : Bool) (does : Type 0) → (does → Extends before after)
    → MadeOrNot m n made ok does (after ≡ before) → Extends before after
extends_made before after ok m n made does step h = ⊎_elim (λ y. step y.done) (λ no. extends_same before after no.same) h
