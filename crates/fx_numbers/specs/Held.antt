-- The keys of one number as a sorted array.
use Rattle.std.specs.Prelude.{◌≡◌, ℕ, ◌+◌, ◌-◌, ◌<◌, ◌≤◌, List, length, map, Some, None, Result, Ok, Err, Vec, vec_len, vec_capacity, refl}
use Rattle.std.specs.List.{AllWithin, HoldsAt}
use Rattle.std.specs.List.Sorted.{IsStrictlySortedBy}
use Rattle.std.specs.Coded.{Coded, code_by, coded×, coded_ℕ}
use Rattle.std.specs.FinMap as finite
use Rattle.std.specs.Global.{Global}
use Rattle.std.specs.declared.cmp.Ordering.TheVariants.{Less, Greater}
use Rattle.fx_item.specs.declared.lock.LockKey.{LockKey}
use Rattle.fx_item.specs.declared.lock.Mode.{Mode}
use Rattle.fx_item.specs.declared.lock.Mode.TheVariants.{Write}
use Rattle.fx_item.specs.LockKey.{key_cmp}
use Rattle.fx_parts.specs.Parts.{Grant}
use Rattle.fx_numbers.specs.declared.held.HeldKey.{HeldKey}

-- the keys that a number holds, and how many further ones it has room for
pub record KeyGrants : Type 0 where
  pub grants : finite.FinMap key_cmp Grant
  pub room : ℕ

abbrev pub grant_code : Coded Mode → Coded Grant
grant_code mode =
    code_by (Mode × ℕ) (coded× mode coded_ℕ)
    (λ g. (g.mode, g.number)) (λ p. record { mode = p.0; number = p.1 }) (λ _. refl)

abbrev pub key_grants_code : Coded LockKey → Coded Mode → Coded KeyGrants
key_grants_code key mode =
    code_by (finite.FinMap key_cmp Grant × ℕ)
    (coded× (finite.code key (grant_code mode)) coded_ℕ)
    (λ g. (g.grants, g.room)) (λ p. record { grants = p.0; room = p.1 }) (λ _. refl)

abbrev pub grant_held : HeldKey → Grant
grant_held h = record { mode = h.mode; number = h.number }

abbrev pub grants_held : List HeldKey → finite.FinMap key_cmp Grant
grants_held held = finite.from_entries (map (λ h. (h.key, grant_held h)) held)

-- in order, each once
abbrev pub AreHeldInOrder : List HeldKey → Type 0
AreHeldInOrder held = IsStrictlySortedBy key_cmp (map (λ h. h.key) held)

-- keys in order, and memory for those that it may take
pub record IsKeyRing (held : Vec HeldKey Global) (room : ℕ) : Type 0 where
  pub sorted : AreHeldInOrder held.items
  pub memory : vec_len held + room ≤ vec_capacity held

-- where the key stands, or would
abbrev pub FindsHeld : List HeldKey → LockKey → Result ℕ ℕ → Type 0
FindsHeld held key (Ok i) = (i < length held) × HoldsAt (λ h. h.key ≡ key) held i
FindsHeld held key (Err i) =
    (i ≤ length held) × AllWithin (λ h. key_cmp h.key key ≡ Less) held 0 i
    × AllWithin (λ h. key_cmp h.key key ≡ Greater) held i (length held)

-- one key more, held since the number
abbrev pub pushed_key : LockKey → Mode → ℕ → KeyGrants → KeyGrants
pushed_key key mode number g = record {
  grants = finite.insert g.grants key (record { mode = mode; number = number });
  room = g.room - 1;
}

-- the key, if it is held, is held for a write
abbrev pub raised_in : LockKey → finite.FinMap key_cmp Grant → finite.FinMap key_cmp Grant
raised_in key grants = elim (finite.get grants key) [
  | Some grant ↦ finite.insert grants key (record grant { mode = Write })
  | None ↦ grants
]
