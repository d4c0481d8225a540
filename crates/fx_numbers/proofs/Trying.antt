-- What tests ask and try.
use Rattle.std.proofs.Common.{◌≡◌, ℕ, ◌+◌, Bool, true, false, Option, None, Some, sym, ap, ◌∙◌, arith, is_some, refl}
use Rattle.std.specs.Prelude.{option_map}
use Rattle.std.specs.FinMap as finite
use Rattle.std.specs.FinMap.{get-empty}
use Rattle.std.specs.Ordering.{nat_cmp}
use Rattle.fx_item.specs.LockKey as lock
use Rattle.fx_item.specs.declared.lock.LockKey.{LockKey}
use Rattle.fx_item.specs.declared.lock.Mode.TheVariants.{Change}
use Rattle.fx_keys.specs.Table.{Table}
use Rattle.fx_parts.specs.Parts.{Grant, Part, Reservation, SharedState, fresh_part}
use Rattle.fx_parts.specs.Happening.{Enter, MakeRoom, MayAsk, set_keys}
use Rattle.fx_parts.proofs.Events.{by_there}
use Rattle.fx_parts.proofs.Maps.{get_same}
use Rattle.fx_numbers.specs.Slots.{reserved_at}
use Rattle.fx_numbers.specs.State.{HasUsedPart, IsStep, IsUsed, NumbersState, shared_of}

pub reserved_part : (parts : finite.FinMap nat_cmp Part) (who : ℕ) (b : Bool) → reserved_at parts who ≡ Some b → (part : Part) × (finite.get parts who ≡ Some part) × (is_some part.reserved ≡ b)
reserved_part parts who b is = by (finite.get parts who) refl is
  where
    same : (a b : Bool) → Some a ≡ Some b → a ≡ b
    same a b e = cc

    by : (o : Option Part) → finite.get parts who ≡ o → option_map (λ (part : Part). is_some part.reserved) o ≡ Some b → (part : Part) × (finite.get parts who ≡ Some part) × (is_some part.reserved ≡ b)
    by None e is = absurd (cc is)
    by (Some part) e is = (part, e, same (is_some part.reserved) b is)

pub used_part : (parts : finite.FinMap nat_cmp Part) (who : ℕ) → is_some (reserved_at parts who) ≡ true → (part : Part) × (finite.get parts who ≡ Some part) × Unit {0}
used_part parts who is = by (finite.get parts who) refl is
  where
    by : (o : Option Part) → finite.get parts who ≡ o → is_some (option_map (λ (part : Part). is_some part.reserved) o) ≡ true → (part : Part) × (finite.get parts who ≡ Some part) × Unit {0}
    by None e is = absurd (cc is)
    by (Some part) e is = (part, e, tt)

pub nothing_some : (o : Option Reservation) → is_some o ≡ false → o ≡ None
nothing_some None e = refl
nothing_some (Some r) e = absurd (cc e)

-- a number that came and made room may ask for any key
module _ (old mid new : NumbersState) (who : ℕ) (t : Table) (entered : IsStep old mid (Enter who)) (roomed : IsStep mid new (MakeRoom who 1 t)) where
  abbrev came : Part
  came = fresh_part old.faults

  abbrev ready : Part
  ready = record came { room = 0 + 1 }

  there : finite.get mid.parts who ≡ Some came
  there = ap (λ (z : SharedState). finite.get z.parts who) (entered.does finite.empty) ∙ get_same old.parts who came

  pub in_room : finite.get new.parts who ≡ Some ready
  in_room =
      ap (λ (z : SharedState). finite.get z.parts who) (roomed.does finite.empty)
      ∙ by_there (λ (z : SharedState). finite.get z.parts who ≡ Some ready) (shared_of finite.empty mid) who came (λ p. set_keys t who (record p { room = p.room + 1 }) (shared_of finite.empty mid)) there (get_same mid.parts who ready)

  no_grant : (k : LockKey) (grant : Grant) → finite.get (finite.empty {K = LockKey} {X = Grant} {R = lock.key_cmp}) k ≡ Some grant → ⊥
  no_grant k grant e = let none = get-empty {X = Grant} lock.key_cmp k in absurd (cc (sym none ∙ e))

  pub may_ask_any : (key : LockKey) → HasUsedPart new who (MayAsk key Change)
  may_ask_any key = (
    ready,
    in_room,
    record {
      room = omega arith;
      asked = λ e. cc;
      above = λ k grant held. absurd (no_grant k grant held);
    },
  )

pub came_there : (old mid : NumbersState) (who : ℕ) → IsStep old mid (Enter who) → IsUsed mid who
came_there old mid who entered = (fresh_part old.faults, ap (λ (z : SharedState). finite.get z.parts who) (entered.does finite.empty) ∙ get_same old.parts who (fresh_part old.faults), tt)
