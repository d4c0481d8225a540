-- Transactions that a discard leaves.
use Rattle.std.proofs.Common.{◌≡◌, ℕ, Bool, true, false, cond, List, [], ◌∷◌, refl, ap}
use Rattle.std.specs.Prelude.{nat_le, filter}
use Rattle.fx_item.specs.Item.{items_of}
use Rattle.fx_item.specs.declared.item.Item.{Item}
use Rattle.fx_record.specs.Txns.{txns_of}

-- the plain transactions up to a number are those of the ones up to it
pub upto_plain : (n : ℕ) (txns : List (ℕ × List Item)) → txns_of (filter (λ t. nat_le t.0 n) txns) ≡ filter (λ t. nat_le t.0 n) (txns_of txns)
upto_plain n [] = refl
upto_plain n (t ∷ ts) = by (nat_le t.0 n) (upto_plain n ts)
  where
    by : (b : Bool) → txns_of (filter (λ s. nat_le s.0 n) ts) ≡ filter (λ s. nat_le s.0 n) (txns_of ts)
        → txns_of (cond b (t ∷ filter (λ s. nat_le s.0 n) ts) (filter (λ s. nat_le s.0 n) ts)) ≡ cond b ((t.0, items_of t.1) ∷ filter (λ s. nat_le s.0 n) (txns_of ts)) (filter (λ s. nat_le s.0 n) (txns_of ts))
    by true e = ap (λ r. (t.0, items_of t.1) ∷ r) e
    by false e = e
