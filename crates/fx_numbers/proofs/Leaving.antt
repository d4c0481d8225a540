-- Numbers that come into use, and that are in use no more.
use Rattle.std.proofs.Common.{◌≡◌, inl, inr, ℕ, ◌+◌, Some, refl, sym, ap, subst, ◌∙◌, arith}
use Rattle.std.specs.FinMap as finite
use Rattle.fx_parts.specs.Parts.{IsEmptyPart, Part, fresh_part}
use Rattle.fx_parts.specs.Sound.{KeysAgree}
use Rattle.fx_parts.specs.Happening.{Enter}
use Rattle.fx_parts.proofs.Agreeing.{keys_enter, keys_leave}
use Rattle.fx_parts.proofs.Maps.{found, stayed}
use Rattle.fx_numbers.specs.Slots.{EntersAs, HasFreeSlot, IsNumber, PartMap, promised_by}
use Rattle.fx_numbers.specs.State.{HasFreeNumber, IsFreeNumber, IsLeastFree, IsStep, NumbersState, shared_of}
use Rattle.fx_numbers.specs.Inner.{AreNumbers, numbers_from}
use Rattle.fx_numbers.specs.declared.numbers.Numbers.TheInside.{Inside}

pub left_numbers : (i : Inside) → AreNumbers i → (new : PartMap) (who : ℕ) (part : Part) → finite.get i.parts.parts who ≡ Some part → new.parts ≡ finite.remove i.parts.parts who → new.reserved + promised_by part ≡ i.parts.reserved → IsEmptyPart part → AreNumbers (record i { parts = new })
left_numbers i inv new who part is gone less empty = record {
  keys = subst (KeysAgree i.table) (sym gone) (keys_leave i.table i.parts.parts who inv.keys part is empty.grants empty.room);
  numbers = λ q p has. inv.numbers q p (stayed i.parts.parts who q p (ap (λ m. finite.get m q) (sym gone) ∙ has)).1;
  number = inv.number;
  settled = inv.settled;
  folded = inv.folded;
  upto = inv.upto;
  notes = let h = inv.notes in omega (arith, h, less);
  batches = λ some. let h = inv.batches (omega (arith, some, less)) in omega (arith, h, less);
}

module _ (i : Inside) (inv : AreNumbers i) (new : PartMap) (who : ℕ) (enters : EntersAs i.parts new (fresh_part i.faults) who) where
  pub entered_numbers : AreNumbers (record i { parts = new })
  entered_numbers = record {
    keys = subst (KeysAgree i.table) (sym enters.parts) (keys_enter i.table i.parts.parts who inv.keys (fresh_part i.faults) enters.free refl refl);
    numbers = λ q p has. elim (found i.parts.parts who q (fresh_part i.faults) p (ap (λ m. finite.get m q) (sym enters.parts) ∙ has)) [
      | inl here ↦ subst IsNumber (sym here.0) enters.number
      | inr old ↦ inv.numbers q p old.1
    ];
    number = inv.number;
    settled = inv.settled;
    folded = inv.folded;
    upto = inv.upto;
    notes = let h = inv.notes in omega (arith, h, enters.reserved);
    batches = λ some. let h = inv.batches (omega (arith, some, enters.reserved)) in omega (arith, h, enters.reserved);
  }

  module _ (v : NumbersState) (view : numbers_from i ≡ v) where
    pub free_before : IsFreeNumber v who
    free_before = record {
      free = ap (λ (z : NumbersState). finite.get z.parts who) (sym view) ∙ enters.free;
      first = enters.number.0;
      few = enters.number.1;
    }

    pub enter_step : IsStep v (numbers_from (record i { parts = new })) (Enter who)
    enter_step = record {
      may = λ tree. record { free = free_before.free; first = free_before.first; few = free_before.few };
      does = λ tree.
          ap (λ m. shared_of tree (record (numbers_from i) { parts = m })) enters.parts
          ∙ ap (λ (z : NumbersState). shared_of tree (record z { parts = finite.insert z.parts who (fresh_part z.faults) })) view;
    }

    pub enter_least : IsLeastFree v who
    enter_least = record {
      free = free_before;
      least = λ other free. enters.least other (free.first, free.few) (ap (λ (z : NumbersState). finite.get z.parts other) view ∙ free.free);
    }

pub free_slot : (i : Inside) (v : NumbersState) → numbers_from i ≡ v → HasFreeNumber v → HasFreeSlot i.parts.parts
free_slot i v view (who, free) = (who, (free.first, free.few), ap (λ (z : NumbersState). finite.get z.parts who) view ∙ free.free)

pub free_number_of : (i : Inside) (v : NumbersState) → numbers_from i ≡ v → HasFreeSlot i.parts.parts → HasFreeNumber v
free_number_of i v view (who, number, free) = (who, record { free = ap (λ (z : NumbersState). finite.get z.parts who) (sym view) ∙ free; first = number.0; few = number.1 })
